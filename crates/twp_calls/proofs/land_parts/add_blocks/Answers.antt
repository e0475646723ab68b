-- One more block.
use Rattle.std.proofs.Common.{arith, subst, sym}
use Rattle.std.proofs.lemmas.List.{append-nil, take_all}
use Rattle.twp_calls.specs.steps.PartSteps.{AddsBlocks}
use Rattle.twp_calls.proofs.PartFacts.{blocks_next}
use Rattle.twp_calls.proofs.land_parts.add_blocks.Goals as goal

pub loop-index-init : goal.loop-index-init
loop-index-init c = record { added = sym (append-nil c.args.parts.now.items) }

pub loop-index-preserved : goal.loop-index-preserved
loop-index-preserved c = record {
  added =
      blocks_next c.args.section c.args.blocks.now c.loop-index.index c.index-blocks-index.result c.of.result
      c.args.parts.now.items c.loop-index.parts.items _ (omega arith) (sym c.index-blocks-index.is)
      c.loop-index.invariant.added c.of.ensures c.in_ok-push.ensures.items;
}

pub returns : goal.returns
returns c =
    subst (λ b. AddsBlocks c.args.section b c.args.parts.now.items c.loop-index.parts.items)
    (take_all c.loop-index.index c.args.blocks.now (omega arith)) c.loop-index.invariant.added
