use Rattle.std.proofs.Common.{◌<◌, ◌≢◌, ℕ}
use Rattle.std.specs.Prelude.{slice_index}
use Rattle.twp_suggest.specs.Excepting.{semicolon}
use Rattle.twp_suggest.proofs.meaning.kept.before_semicolon.Given as goal

-- no semicolon was passed
abbrev pub invariant-loop-at : goal.invariant-loop-at
invariant-loop-at l = (at : ℕ) → at < l.at → slice_index l.text at ≢ semicolon
