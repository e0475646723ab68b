use Rattle.std.proofs.Common.{take}
use Rattle.twp_calls.specs.steps.PartSteps.{AddsLots}
use Rattle.twp_calls.proofs.land_parts.add_lots.Given as goal

-- the lots so far
abbrev pub invariant-loop-index : goal.invariant-loop-index
invariant-loop-index l = record {
  added : AddsLots l.section (take l.index l.lots) l.fn.parts.items l.parts.items;
}
