use Rattle.std.proofs.Common.{◌≤◌, string_bytes}
use Rattle.twp_suggest.specs.Told.{Grows}
use Rattle.twp_suggest.proofs.only_reading.told.write_phrases.Given as goal

-- phrases were appended, and not too many
abbrev pub invariant-loop-index : goal.invariant-loop-index
invariant-loop-index l = Grows (string_bytes l.fn.out) (string_bytes l.out) × (l.count ≤ 3)
