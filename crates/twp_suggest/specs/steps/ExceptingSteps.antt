-- One division more of what is kept and taken away.
use Rattle.std.specs.Prelude.{◌≡◌, ℕ, List, ◌++◌}
use Rattle.twp_suggest.specs.Excepting.{Division, IsDivision, kept, mark_after, taken, written}

-- a division of this text was added to both, and this is the mark before the next exception
pub record IsDivisionAdded (text : List ℕ) (mark after : ℕ) (whole more excepted further : List ℕ)
    : Type 0 where
  pub division : Division
  pub is : IsDivision division
  pub text_is : text ≡ written division
  pub after_is : after ≡ mark_after mark division
  pub kept_is : more ≡ whole ++ kept division
  pub taken_is : further ≡ excepted ++ taken mark division
