-- A step that can be taken leads to the next block, and one that cannot means that the part is too
-- small.
use Rattle.std.proofs.Common.{◌≡◌, ◌-◌, Some, slice_get, sym, ◌∙◌, arith}
use Rattle.twp_grid.specs.Places.{PLACE_DIGITS}
use Rattle.twp_grammar.proofs.ChainFacts.{cut_none, cut_next, cut_stuck}
use Rattle.twp_grammar.proofs.chain.block_after.Goals as goal

pub loop-index-init : goal.loop-index-init
loop-index-init c = record {
  cut = cut_none PLACE_DIGITS c.args.steps.now _ c.len-index.ensures _ c.whole-block.ensures;
  least = omega (arith, c.len-index.ensures);
}

pub returns-in_err-block : goal.returns-in_err-block
returns-in_err-block c =
    let at : slice_get c.args.steps.now (c.loop-index.index - 1) ≡ Some c.unwrap.result =
    sym c.get.ensures ∙ c.unwrap.ensures in
    rw c.from_residual.ensures
    (cut_stuck PLACE_DIGITS c.args.steps.now c.loop-index.index c.unwrap.result c.loop-index.block
    (omega arith) at c.loop-index.invariant.cut c.in_err-block.ensures)

pub loop-index-preserved : goal.loop-index-preserved
loop-index-preserved c =
    let at : slice_get c.args.steps.now (c.loop-index.index - 1) ≡ Some c.unwrap.result =
    sym c.get.ensures ∙ c.unwrap.ensures in
    record {
      cut =
          cut_next PLACE_DIGITS c.args.steps.now c.loop-index.index c.unwrap.result c.loop-index.block
          c.in_ok-block.block (omega arith) at c.loop-index.invariant.cut
          (c.in_ok-block.ensures).0 (c.in_ok-block.ensures).1;
      least = omega arith;
    }

pub returns : goal.returns
returns c =
    let all : c.loop-index.index ≡ c.args.start = omega (arith, c.loop-index.invariant.least) in
    rw all at c.loop-index.invariant.cut
