-- The phrases so far, and those from here on, are all.
use Rattle.std.proofs.Common.{◌≤◌, ◌-◌, ◌++◌, List, length, map}
use Rattle.twp_phrases.specs.SetAside.{AreFrom}
use Rattle.twp_phrases.specs.declared.stretches.Stretch.{Stretch}
use Rattle.twp_phrases.proofs.setting_aside.set_aside.Given as goal

abbrev pub invariant-places : goal.invariant-places
invariant-places l = (l.at ≤ length l.text)
    × ((more : List Stretch) → AreFrom (map (λ phrase. phrase.now) l.phrases) l.text l.at more
    → AreFrom (map (λ phrase. phrase.now) l.phrases) l.text 0 (l.found.items ++ more))

abbrev pub decreases-places : goal.decreases-places
decreases-places l = length l.text - l.at
