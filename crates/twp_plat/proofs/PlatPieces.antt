-- The pieces of a plat's sections: whole units outside section 6, and everywhere parts of the
-- plat's denominator.
use Rattle.std.proofs.Common.{◌≡◌, ◌≢◌, ◌⊎◌, ℕ, ◌*◌, ◌<◌, pos, inl, inr, arith}
use Rattle.twp_plat.specs.Plats.{SurveyPlat, IsPlat, ClosingQuarters, AreClosingQuarters}
use Rattle.twp_plat.specs.Pieces.{ratio, whole, IsSame}
use Rattle.twp_plat.specs.Pieces.{piece, over_of}
use Rattle.twp_plat.proofs.FormulaFacts.{piece_terms}
use Rattle.twp_plat.proofs.RatioFacts.{whole_in_parts}
use Rattle.twp_plat.proofs.SideFacts.{regular_outside_six, over_is}
use Rattle.twp_plat.proofs.WholeFacts.{whole_piece}

pub piece_is_whole : (plat : SurveyPlat) (section column row : ℕ) (q : ClosingQuarters) → IsPlat plat
    → AreClosingQuarters plat section q → section ≢ 6
    → column < 4 → row < 4 → (units : ℕ) × IsSame (piece q column row) (whole units)
piece_is_whole plat section column row q is are other in_column in_row =
    whole_piece q column row in_column in_row (regular_outside_six plat section q is are other)

is_six : (section : ℕ) → (section ≡ 6) ⊎ (section ≢ 6)
is_six section = grind arith

pub piece_is_over : (plat : SurveyPlat) (section column row : ℕ) (q : ClosingQuarters) → IsPlat plat
    → AreClosingQuarters plat section q
    → column < 4 → row < 4 → (units : ℕ) × IsSame (piece q column row) (ratio (pos units) (over_of plat))
piece_is_over plat section column row q is are in_column in_row = elim (is_six section) [
  | inl six ↦
      let terms = piece_terms q column row in_column in_row in
      (terms.parts, rw (over_is plat q (rw six at are)) terms.in_parts)
  | inr other ↦
      let units = piece_is_whole plat section column row q is are other in_column in_row in
      (units.0 * over_of plat, whole_in_parts (piece q column row) units.0 (over_of plat) units.1)
]
