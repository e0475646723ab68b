-- A step that can be taken leads to the next block, and one that cannot means that the part is too
-- small.
use Rattle.std.proofs.Common.{◌-◌, ◌∙◌, arith}
use Rattle.std.proofs.lemmas.Option.{slice_get-get_or}
use Rattle.twp_grid.specs.Places.{PLACE_DIGITS}
use Rattle.twp_grammar.proofs.ChainFacts.{cut_next, cut_stuck}
use Rattle.twp_grammar.proofs.chain.chain_block.Goals as goal

pub returns-in_err-block-2 : goal.returns-in_err-block-2
returns-in_err-block-2 c =
    let at =
    c.first-first.ensures.front (c.loop-index.index - 1) (omega (arith, c.loop-index.invariant.within))
    ∙ slice_get-get_or c.first-first.result.now (c.loop-index.index - 1) _
    (omega (arith, c.loop-index.invariant.within)) in
    rw c.from_residual-in_err-block-2.ensures
    (cut_stuck PLACE_DIGITS c.args.steps.now c.loop-index.index _ c.loop-index.block (omega arith) at
    c.loop-index.invariant.cut c.in_err-block-2.ensures)

pub loop-index-preserved : goal.loop-index-preserved
loop-index-preserved c =
    let at =
    c.first-first.ensures.front (c.loop-index.index - 1) (omega (arith, c.loop-index.invariant.within))
    ∙ slice_get-get_or c.first-first.result.now (c.loop-index.index - 1) _
    (omega (arith, c.loop-index.invariant.within)) in
    record {
      cut =
          cut_next PLACE_DIGITS c.args.steps.now c.loop-index.index _ c.loop-index.block c.in_ok-block-2.block
          (omega arith) at c.loop-index.invariant.cut
          (c.in_ok-block-2.ensures).0 (c.in_ok-block-2.ensures).1;
      within = omega (arith, c.loop-index.invariant.within);
    }
