-- The word `help`, for a command that does not accept it as a subcommand.
use Rattle.std.proofs.Common.{◌≡◌, ◌⊎◌, Bool, true, false, List, [], Option, Some, None, refl, inl, inr}
use Rattle.std.specs.Prelude.{⊤, codes}
use Rattle.std.specs.Str.{bytes_eq}
use Rattle.clap.specs.Walk.{Held, Names, Text, Waiting, idle, option, positional, subcommand_met}
use Rattle.clap.specs.Simple.{Shape}
use Rattle.clap.specs.Faults.{other_fault}

-- the word is not `help`
abbrev pub IsNoHelp : Text → Type 0
IsNoHelp name = bytes_eq name (codes "help") ≡ false

-- a walk that stopped at a subcommand stopped at another word
abbrev pub StoppedWell : Option (Text × List Text) → Type 0
StoppedWell None = ⊤
StoppedWell (Some p) = IsNoHelp p.0

-- `help` is not a subcommand that a walk continues with
abbrev pub RefusesHelp : Shape → Names → Type 0
RefusesHelp s names = (s.disable_help_subcommand ≡ false) ⊎ (names ≡ [])

-- so a word that it continues with is another one
pub no_help : (s : Shape) (names : Names) (waiting : Waiting) (word name : Text) (h : Held)
    → RefusesHelp s names
    → subcommand_met names waiting word ≡ Some name → other_fault s (Some name) word h ≡ [] → IsNoHelp name
no_help s names waiting word name h (inr none) met e = absurd (go waiting (rw none at met))
  where
    go : (w : Waiting) → subcommand_met [] w word ≡ Some name → ⊥
    go idle m = cc
    go (option id) m = cc
    go positional m = cc
no_help s names waiting word name h (inl off) met e = go (bytes_eq name (codes "help")) refl
  where
    go : (t : Bool) → bytes_eq name (codes "help") ≡ t → IsNoHelp name
    go false t = t
    go true t = let bad = rw (t, off) at e in cc
