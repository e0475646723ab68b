use Rattle.std.proofs.Common.{take}
use Rattle.twp_calls.specs.steps.PartSteps.{AddsBlocks}
use Rattle.twp_calls.proofs.land_parts.add_blocks.Given as goal

-- the blocks so far
abbrev pub invariant-loop-index : goal.invariant-loop-index
invariant-loop-index l = record {
  added : AddsBlocks l.section (take l.index l.blocks) l.fn.parts.items l.parts.items;
}
