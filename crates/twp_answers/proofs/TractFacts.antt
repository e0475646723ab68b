-- The records of tracts.
use Rattle.std.proofs.Common.{◌≡◌, ℕ, ◌≤◌, ◌||◌, Bool, true, false, not, if◌then◌else◌, List, []}
use Rattle.std.proofs.Common.{◌∷◌, length, get_or, refl, arith}
use Rattle.std.specs.List.{All}
use Rattle.std.specs.Str.{IsUtf8}
use Rattle.std.proofs.lemmas.Str.{IsUtf8-from_ascii}
use Rattle.std.proofs.lemmas.Str.Ascii.{IsAscii-from_all}
use Rattle.twp_notes.specs.Records.{Fields, field}
use Rattle.twp_answers.specs.Tracts.{IsPrinted}

-- a record with two fields consists of these two
pub two_fields : (fields : Fields) (first second : List ℕ) → length fields ≡ 2 → field fields 0 ≡ first
    → field fields 1 ≡ second
    → fields ≡ first ∷ second ∷ []
two_fields [] first second two is is' = absurd (omega arith)
two_fields (a ∷ []) first second two is is' = absurd (omega arith)
two_fields (a ∷ b ∷ []) first second two is is' = λ i. is i ∷ is' i ∷ []
two_fields (a ∷ b ∷ c ∷ rest) first second two is is' = absurd (omega arith)

-- bytes of printable ASCII are text
pub printed_is_text : (bytes : List ℕ) → All IsPrinted bytes → IsUtf8 bytes
printed_is_text bytes printed =
    IsUtf8-from_ascii bytes (IsAscii-from_all bytes (λ k d below.
    let byte : IsPrinted (get_or bytes k d) = printed k d below in
    let most : get_or bytes k d ≤ 0x7E = byte.1 in
    omega arith))

pub either_of : (b c : Bool) → (if b then true else c) ≡ (b || c)
either_of true c = refl
either_of false c = refl

pub is_anew : (b : Bool) → true ≡ not b → b ≡ false
is_anew true is = cc is
is_anew false is = refl
