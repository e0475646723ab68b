-- A quarter that can be taken leads to the next block.
use Rattle.std.proofs.Common.{◌-◌, ◌∙◌, arith}
use Rattle.std.proofs.lemmas.Option.{slice_get-get_or}
use Rattle.twp_grid.specs.Places.{PLACE_DIGITS}
use Rattle.twp_grammar.proofs.ChainFacts.{cut_next}
use Rattle.twp_resolve.proofs.chain.square_of.Goals as goal

pub loop-index-preserved : goal.loop-index-preserved
loop-index-preserved g c =
    let within = c.loop-index.invariant.within in
    let at =
    c.first-first.ensures.front (c.loop-index.index - 1) (omega (arith, within))
    ∙ slice_get-get_or c.first-first.result.now (c.loop-index.index - 1) _ (omega (arith, within)) in
    record {
      cut =
          cut_next PLACE_DIGITS c.args.steps.now c.loop-index.index _ c.loop-index.block c.in_ok-block.block
          (omega arith) at c.loop-index.invariant.cut
          (c.in_ok-block.ensures).0 (c.in_ok-block.ensures).1;
      within = omega (arith, within);
    }
