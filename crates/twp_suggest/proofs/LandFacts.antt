-- Readings of other land.
use Rattle.std.proofs.Common.{◌≡◌, ◌↔◌, ℕ, Bool, true, false, not, IsTrue, subst}
use Rattle.std.proofs.lemmas.Bool.{false≢true}
use Rattle.twp_grid.specs.Lands.{Lotting, SamePlaces}
use Rattle.twp_suggest.specs.Descriptions.{IsOnlyLandOfText}
use Rattle.twp_suggest.specs.Readings.{AreOther}
use Rattle.twp_suggest.specs.declared.reading.Reading.{Reading}

-- two readings with other texts, whose only places are not the same
pub other_land : (lots : Lotting) (one other : Reading) (places more : ℕ → ℕ → ℕ → Bool)
    (are_texts are_places : Bool)
    → (IsTrue are_texts ↔ (one.text.items ≡ other.text.items)) → are_texts ≡ false
    → IsOnlyLandOfText lots one.text.items places
    → IsOnlyLandOfText lots other.text.items more
    → (IsTrue are_places ↔ SamePlaces places more) → not are_places ≡ true → AreOther lots one other
other_land lots one other places more true are_places texts differ only only' lands apart = cc differ
other_land lots one other places more false true texts differ only only' lands apart = cc apart
other_land lots one other places more false false texts differ only only' lands apart = record {
  texts = λ same. false≢true (texts.1 same);
  land = λ township found found' is is' same.
      false≢true
      (lands.1
      (subst (λ (p : ℕ → ℕ → ℕ → Bool). SamePlaces p more) (only township found is)
      (subst (λ (p : ℕ → ℕ → ℕ → Bool). SamePlaces found p) (only' township found' is') same)));
}
