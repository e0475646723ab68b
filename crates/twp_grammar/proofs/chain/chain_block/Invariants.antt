use Rattle.std.proofs.Common.{◌≤◌, length}
use Rattle.twp_grid.specs.Places.{PLACE_DIGITS}
use Rattle.twp_grammar.specs.steps.CutSteps.{IsCutTo}
use Rattle.twp_grammar.proofs.chain.chain_block.Given as goal

-- the steps so far, from the last one
abbrev pub invariant-loop-index : goal.invariant-loop-index
invariant-loop-index l = record {
  cut : IsCutTo PLACE_DIGITS l.steps l.index l.block;
  within : l.index ≤ length l.first;
}
