-- What an explanation calls the text that was given.
use Rattle.std.specs.Prelude.{◌≡◌, ℕ, ◌<◌, List, length, codes}
use Rattle.std.specs.Str.{IsUtf8}

-- A text has the name that was given for it, if that is UTF-8 and not empty, and otherwise is called input.
pub record IsNameOf (given name : List ℕ) : Type 0 where
  pub named : IsUtf8 given → 0 < length given → name ≡ given
  pub empty : length given ≡ 0 → name ≡ codes "input"
  pub unreadable : ¬ IsUtf8 given → name ≡ codes "input"
