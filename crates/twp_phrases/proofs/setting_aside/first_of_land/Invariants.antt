-- The phrases so far can be set aside.
use Rattle.std.proofs.Common.{◌≡◌, ◌<◌, ℕ, true, [], map}
use Rattle.std.specs.Prelude.{get_or}
use Rattle.twp_rules.specs.Sayings.{is_remark}
use Rattle.twp_phrases.proofs.setting_aside.first_of_land.Given as goal

abbrev pub invariant-loop-index : goal.invariant-loop-index
invariant-loop-index l = (other : ℕ) → other < l.index
    → is_remark (get_or (map (λ phrase. phrase.now) l.phrases) other []) ≡ true
