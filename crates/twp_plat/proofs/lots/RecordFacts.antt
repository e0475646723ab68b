-- Records of three and of four fields.
use Rattle.std.proofs.Common.{◌≡◌, [], ◌∷◌, length, refl, arith}
use Rattle.twp_notes.specs.Records.{Fields, field}

pub three_fields : (fields : Fields) → length fields ≡ 3
    → fields ≡ field fields 0 ∷ field fields 1 ∷ field fields 2 ∷ []
three_fields [] h = absurd (omega arith)
three_fields (a ∷ []) h = absurd (omega arith)
three_fields (a ∷ b ∷ []) h = absurd (omega arith)
three_fields (a ∷ b ∷ c ∷ []) h = refl
three_fields (a ∷ b ∷ c ∷ d ∷ rest) h = absurd (omega arith)

pub four_fields : (fields : Fields) → length fields ≡ 4
    → fields ≡ field fields 0 ∷ field fields 1 ∷ field fields 2 ∷ field fields 3 ∷ []
four_fields [] h = absurd (omega arith)
four_fields (a ∷ []) h = absurd (omega arith)
four_fields (a ∷ b ∷ []) h = absurd (omega arith)
four_fields (a ∷ b ∷ c ∷ []) h = absurd (omega arith)
four_fields (a ∷ b ∷ c ∷ d ∷ []) h = refl
four_fields (a ∷ b ∷ c ∷ d ∷ e ∷ rest) h = absurd (omega arith)
