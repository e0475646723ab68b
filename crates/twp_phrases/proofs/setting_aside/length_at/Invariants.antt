-- The first of the phrases from here on is the first of all.
use Rattle.std.proofs.Common.{◌≡◌, drop, map}
use Rattle.twp_phrases.specs.SetAside.{phrase_at}
use Rattle.twp_phrases.proofs.setting_aside.length_at.Given as goal

abbrev pub invariant-loop-index : goal.invariant-loop-index
invariant-loop-index l =
    phrase_at (map (λ phrase. phrase.now) l.phrases) l.text l.at
    ≡ phrase_at (map (λ phrase. phrase.now) (drop l.index l.phrases)) l.text l.at
