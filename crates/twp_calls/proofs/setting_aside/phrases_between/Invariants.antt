-- The phrases so far, and those between the offsets that are left, are all; each two offsets so far enclose
-- bytes.
use Rattle.std.proofs.Common.{◌≡◌, ◌+◌, ◌<◌, ℕ, ◌++◌, drop, map}
use Rattle.std.specs.Prelude.{slice_index_or}
use Rattle.twp_calls.specs.ManyAnswers.{IsRange}
use Rattle.twp_calls.specs.SetAsides.{phrases_between}
use Rattle.twp_calls.proofs.setting_aside.phrases_between.Given as goal

abbrev pub invariant-loop-index : goal.invariant-loop-index
invariant-loop-index l =
    (map (λ phrase. phrase.now) l.given.items ++ phrases_between l.bytes (drop l.index l.offsets)
    ≡ phrases_between l.bytes l.offsets)
    × ((other : ℕ) → other < l.index
    → IsRange l.bytes (slice_index_or l.offsets other 0) (slice_index_or l.offsets (other + 1) 0))
