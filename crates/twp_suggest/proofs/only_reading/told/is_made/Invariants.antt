use Rattle.std.proofs.Common.{All, take}
use Rattle.twp_suggest.specs.Told.{Assumes}
use Rattle.twp_suggest.proofs.only_reading.told.is_made.Given as goal

-- no change so far makes the assumption
abbrev pub invariant-loop-change : goal.invariant-loop-change
invariant-loop-change l =
    All (λ change. Assumes l.text l.assumption change → ⊥) (take l.change-index l.changes)
