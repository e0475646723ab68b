-- The basis of the answers to many descriptions. No public contract cites this module.
use Rattle.std.specs.Prelude.{◌≡◌, ℕ, Some}
use Rattle.twp_calls.specs.Answers.{bare}
use Rattle.twp_calls.specs.Calls.{ByAccount, OnPlat, account_of}
use Rattle.twp_calls.specs.GivenPlats.{IsGivenPlat}
use Rattle.twp_calls.specs.declared.basis.Basis.{Basis}
use Rattle.twp_calls.specs.declared.basis.Basis.TheVariants as basis
use Rattle.twp_calls.specs.declared.plat.TownshipPlat.{TownshipPlat}

-- the basis is the plat and the account that are given; or the verdict that any call answers, since one of
-- them is not valid
abbrev pub IsBasis : TownshipPlat → ℕ → Basis → Type 0
IsBasis given code (basis.Valid plat account) = IsGivenPlat given plat × (account_of code ≡ Some account)
IsBasis given code (basis.Invalid verdict) =
    OnPlat given (λ plat. ByAccount code (λ account answer. ⊥)) (bare verdict)
