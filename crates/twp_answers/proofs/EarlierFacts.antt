-- The tracts so far, when one more is added.
use Rattle.std.proofs.Common.{◌≡◌, ◌≢◌, ℕ, ◌+◌, ◌<◌, ◌||◌, Bool, true, false, List, ap, refl, sym, ◌∙◌}
use Rattle.std.proofs.Common.{inl, inr, subst, arith}
use Rattle.std.specs.Str.{bytes_eq}
use Rattle.std.proofs.lemmas.Slice.Eq.{bytes_eq-Decides}
use Rattle.twp_grid.specs.Townships.{Designation}
use Rattle.twp_grid.specs.Lands.{no_places, union, HasWholeLots, SharePlace}
use Rattle.twp_grid.specs.Lands.{Lotting}
use Rattle.twp_notes.specs.Records.{Fields, record_at}
use Rattle.twp_answers.specs.Answers.{Describe}
use Rattle.twp_answers.specs.EarlierTracts.{AreEarlier, TractsSoFar, TakesLand, IsTractRefused, IsUnread}
use Rattle.twp_answers.specs.Names.{has_name}
use Rattle.twp_answers.specs.Tracts.{name_in, description_in, IsTract, Overlap, IsLandOfTracts}
use Rattle.twp_answers.specs.declared.tract_fault.TractFault.{TractFault}
use Rattle.twp_answers.specs.declared.tract_fault.TractFault.TheVariants as fault
use Rattle.twp_answers.proofs.OneAnswer.{one_land}
use Rattle.twp_answers.proofs.TractLands.{earlier_or_last, either_way, with_left, with_right, no_land}
use Rattle.twp_answers.proofs.TractLands.{land_next}

-- no tracts
pub no_earlier : (lots : Lotting) (township : Designation) (rows : List Fields) (earlier : TractsSoFar)
    → ((name : List ℕ) → has_name earlier.names name ≡ false) → earlier.places ≡ no_places
    → AreEarlier lots township rows 0 earlier
no_earlier lots township rows earlier names places = record {
  tracts = record {
    each = λ index below. absurd (omega arith);
    once = λ earlier index before below. absurd (omega arith);
    apart = λ earlier index before below. absurd (omega arith);
  };
  named = λ index below. absurd (omega arith);
  names = λ name is. cc (sym is ∙ names name);
  land = subst (IsLandOfTracts lots township rows 0) (sym places) (no_land lots township rows);
  whole = rw places (λ section lot range. record { alike = λ column row column' row' lies lies'. refl });
}

module _ (lots : Lotting) (township : Designation) (fields : Fields) (old new : TractsSoFar)
    (more : ℕ → ℕ → ℕ → Bool)
    (takes : TakesLand lots township fields old new more) where
  -- the name was added
  pub taken_names : (other : List ℕ)
      → has_name new.names other ≡ (bytes_eq (name_in fields) other || has_name old.names other)
  taken_names other = ap (λ n. has_name n other) takes.adds.names_are ∙ takes.reads.names_are other

  -- and the land
  pub taken_places : new.places ≡ union old.places more
  taken_places = takes.adds.places_are ∙ ap (λ p. union p more) takes.reads.places_are

  -- which shares no place with the tracts before
  pub taken_apart : ¬ SharePlace old.places more
  taken_apart shared = takes.adds.apart (subst (λ p. SharePlace p more) (sym takes.reads.places_are) shared)

module _ (lots : Lotting) (township : Designation) (rows : List Fields) (count : ℕ) (old new : TractsSoFar)
    (more : ℕ → ℕ → ℕ → Bool) (before : AreEarlier lots township rows count old)
    (takes : TakesLand lots township (record_at rows count) old new more) where
  names_are : (other : List ℕ)
      → has_name new.names other
      ≡ (bytes_eq (name_in (record_at rows count)) other || has_name old.names other)
  names_are = taken_names lots township (record_at rows count) old new more takes

  places_are : new.places ≡ union old.places more
  places_are = taken_places lots township (record_at rows count) old new more takes

  are_apart : ¬ SharePlace old.places more
  are_apart = taken_apart lots township (record_at rows count) old new more takes

  each : (index : ℕ) → index < count + 1 → IsTract lots township (record_at rows index)
  each index below = elim (earlier_or_last count index below) [
    | inl earlier ↦ before.tracts.each index earlier
    | inr next ↦
        rw next (record { is_record = takes.reads.is_record; places = more; land = takes.reads.land })
  ]

  once : (earlier index : ℕ) → earlier < index → index < count + 1
      → name_in (record_at rows earlier) ≢ name_in (record_at rows index)
  once earlier index first below same = elim (earlier_or_last count index below) [
    | inl known ↦ before.tracts.once earlier index first known same
    | inr next ↦
        let here : name_in (record_at rows earlier) ≡ name_in (record_at rows count) =
        same ∙ ap (λ i. name_in (record_at rows i)) next in
        cc (sym (before.named earlier (omega arith)) ∙ ap (has_name old.names) here ∙ takes.reads.is_new)
  ]

  apart : (earlier index : ℕ) → earlier < index → index < count + 1
      → Overlap lots township (record_at rows earlier) (record_at rows index) → ⊥
  apart earlier index first below overlap = elim (earlier_or_last count index below) [
    | inl known ↦ before.tracts.apart earlier index first known overlap
    | inr next ↦
        let land : Describe lots township (description_in (record_at rows count)) overlap.more =
        subst (λ i. Describe lots township (description_in (record_at rows i)) overlap.more) next
        overlap.other_land in
        let same : overlap.more ≡ more =
        one_land lots township (description_in (record_at rows count)) overlap.more more land
        takes.reads.land in
        are_apart (record {
          section = overlap.shared.section;
          column = overlap.shared.column;
          row = overlap.shared.row;
          in_first = (before.land overlap.shared.section overlap.shared.column overlap.shared.row).1
              (record {
                index = earlier;
                within = omega arith;
                places = overlap.places;
                land = overlap.land;
                held = overlap.shared.in_first;
              });
          in_second =
              ap (λ p. p overlap.shared.section overlap.shared.column overlap.shared.row) (sym same)
              ∙ overlap.shared.in_second;
        })
  ]

  named : (index : ℕ) → index < count + 1 → has_name new.names (name_in (record_at rows index)) ≡ true
  named index below = elim (earlier_or_last count index below) [
    | inl earlier ↦
        names_are (name_in (record_at rows index))
        ∙ with_right (bytes_eq (name_in (record_at rows count)) (name_in (record_at rows index))) _
        (before.named index earlier)
    | inr next ↦
        rw next
        (names_are (name_in (record_at rows count))
        ∙ with_left (bytes_eq (name_in (record_at rows count)) (name_in (record_at rows count))) _
        ((bytes_eq-Decides (name_in (record_at rows count)) (name_in (record_at rows count))).1 refl))
  ]

  names : (name : List ℕ) → has_name new.names name ≡ true
      → (index : ℕ) × (index < count + 1) × (name_in (record_at rows index) ≡ name)
  names name is =
      elim
      (either_way (bytes_eq (name_in (record_at rows count)) name) (has_name old.names name)
      (sym (names_are name) ∙ is)) [
        | inl here ↦ (count, omega arith, (bytes_eq-Decides (name_in (record_at rows count)) name).0 here)
        | inr there ↦
            let found = before.names name there in
            let within : found.0 < count = found.1 in
            (found.0, omega arith, found.2)
      ]

  land : IsLandOfTracts lots township rows (count + 1) new.places
  land =
      subst (IsLandOfTracts lots township rows (count + 1)) (sym places_are)
      (land_next lots township rows count old.places more before.land takes.reads.land)

  whole : HasWholeLots lots new.places
  whole = rw places_are (λ section lot range. record {
    alike = λ column row column' row' lies lies' i.
        (before.whole section lot range).alike column row column' row' lies lies' i
        || (takes.reads.whole section lot range).alike column row column' row' lies lies' i;
  })

  -- the tracts with one more
  pub next_earlier : AreEarlier lots township rows (count + 1) new
  next_earlier = record {
    tracts = record { each = each; once = once; apart = apart };
    named = named;
    names = names;
    land = land;
    whole = whole;
  }

-- a record that is no tract is refused
pub unread_is_refused : (lots : Lotting) (township : Designation) (fields : Fields) (earlier : TractsSoFar)
    (number : ℕ)
    (is : TractFault) → IsUnread lots township fields earlier number is
    → IsTractRefused lots township fields earlier number is
unread_is_refused lots township fields earlier number (fault.TractRow n) has = has
unread_is_refused lots township fields earlier number (fault.NameRepeated n) has = has
unread_is_refused lots township fields earlier number (fault.TractRefused n inner) has = has
unread_is_refused lots township fields earlier number (fault.TractsOverlap n) has = absurd has
unread_is_refused lots township fields earlier number fault.TractsTooLarge has = has
unread_is_refused lots township fields earlier number fault.TooManyTracts has = has
unread_is_refused lots township fields earlier number fault.Memory has = has
