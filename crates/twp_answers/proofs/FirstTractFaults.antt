-- The first fault of a list of tracts.
use Rattle.std.proofs.Common.{◌≡◌, ◌≢◌, ℕ, ◌+◌, ◌<◌, ◌≤◌, ◌⊎◌, Bool, true, false, List, ◌∷◌, length, Some}
use Rattle.std.proofs.Common.{ap, refl, sym, ◌∙◌, inl, inr, subst, arith}
use Rattle.std.specs.Prelude.{IfSome}
use Rattle.std.proofs.lemmas.Bool.{cases_lt, cases_eq}
use Rattle.twp_grid.specs.Townships.{Designation}
use Rattle.twp_notes.specs.Records.{Fields, record_at, record_numbered, records_of}
use Rattle.twp_plat.specs.Plats.{SurveyPlat}
use Rattle.twp_answers.specs.Names.{has_name}
use Rattle.twp_answers.specs.Tracts.{TRACTS_LIMIT, TRACTS_MOST, tracts_heading, tract_records}
use Rattle.twp_answers.specs.Tracts.{name_in, description_in, IsTractRecord, AreTracts}
use Rattle.twp_answers.specs.TractFaults.{HasAt, HasAtTract, HasTractFault, IsFirstTractFault, IsFrom}
use Rattle.twp_answers.specs.TractFaults.{record_of, turn_of, verdict_of, IsNameRepeated, OverlapsEarlier}
use Rattle.twp_answers.specs.EarlierTracts.{AreEarlier, TractsSoFar, IsNamedAnew, IsTractRefused}
use Rattle.twp_answers.specs.EarlierTracts.{OverlapsEarlierLand}
use Rattle.twp_answers.specs.Answers.{Describe}
use Rattle.twp_answers.specs.steps.TractTaking.{IsNextRefused, AreTractsRefused}
use Rattle.twp_answers.specs.ReportAnswers.{AnswersList, refusal_lines}
use Rattle.twp_answers.specs.declared.stop.Verdict.{Verdict}
use Rattle.twp_answers.specs.declared.stop.Verdict.TheVariants.{Accepted, Refused, TractRefused}
use Rattle.twp_answers.specs.declared.tract_fault.TractFault.{TractFault}
use Rattle.twp_answers.specs.declared.tract_fault.TractFault.TheVariants as fault
use Rattle.twp_answers.proofs.OneAnswer.{not_described}
use Rattle.twp_grid.specs.Lands.{Lotting, STANDARD_LOTS}

-- the next record is refused, for its first fault
module _ (lots : Lotting) (township : Designation) (rows : List Fields) (count : ℕ) (known : TractsSoFar)
    (before : AreEarlier lots township rows count known) where
  -- a name that no tract so far has is not repeated
  not_repeated : has_name known.names (name_in (record_at rows count)) ≡ false → IsNameRepeated rows count → ⊥
  not_repeated anew repeated =
      cc
      (sym (before.named repeated.earlier repeated.is_earlier)
      ∙ ap (has_name known.names) repeated.same
      ∙ anew)

  -- one that some tract so far has is
  pub repeats : has_name known.names (name_in (record_at rows count)) ≡ true → IsNameRepeated rows count
  repeats has_it =
      let found = before.names (name_in (record_at rows count)) has_it in
      record { earlier = found.0; is_earlier = found.1; same = found.2 }

  -- land that contains a place of the tracts so far overlaps one of them
  pub overlaps_one : OverlapsEarlierLand lots township (record_at rows count) known
      → OverlapsEarlier lots township rows count
  overlaps_one overlaps =
      let there =
      (before.land overlaps.shared.section overlaps.shared.column overlaps.shared.row).0
      overlaps.shared.in_first in
      record {
        earlier = there.index;
        is_earlier = there.within;
        overlap = record {
          places = there.places;
          more = overlaps.more;
          land = there.land;
          other_land = overlaps.land;
          shared = record {
            section = overlaps.shared.section;
            column = overlaps.shared.column;
            row = overlaps.shared.row;
            in_first = there.held;
            in_second = overlaps.shared.in_second;
          };
        };
      }

  -- each fault of the record has a turn, and later ones if there is none of the earlier
  pub any_turn : (other : TractFault) → HasAt lots township rows count other → 1 ≤ turn_of other
  any_turn (fault.TractRow n) has = omega arith
  any_turn (fault.NameRepeated n) has = omega arith
  any_turn (fault.TractRefused n inner) has = omega arith
  any_turn (fault.TractsOverlap n) has = omega arith
  any_turn fault.TractsTooLarge has = absurd has
  any_turn fault.TooManyTracts has = absurd has
  any_turn fault.Memory has = absurd has

  pub turn_of_record : IsTractRecord (record_at rows count) → (other : TractFault)
      → HasAt lots township rows count other → 2 ≤ turn_of other
  turn_of_record is (fault.TractRow n) (e, bad) = absurd (bad is)
  turn_of_record is (fault.NameRepeated n) has = omega arith
  turn_of_record is (fault.TractRefused n inner) has = omega arith
  turn_of_record is (fault.TractsOverlap n) has = omega arith
  turn_of_record is fault.TractsTooLarge has = absurd has
  turn_of_record is fault.TooManyTracts has = absurd has
  turn_of_record is fault.Memory has = absurd has

  pub turn_of_name : IsNamedAnew (record_at rows count) known → (other : TractFault)
      → HasAt lots township rows count other → 3 ≤ turn_of other
  turn_of_name (is, anew) (fault.TractRow n) (e, bad) = absurd (bad is)
  turn_of_name (is, anew) (fault.NameRepeated n) (e, repeated) = absurd (not_repeated anew repeated)
  turn_of_name (is, anew) (fault.TractRefused n inner) has = omega arith
  turn_of_name (is, anew) (fault.TractsOverlap n) has = omega arith
  turn_of_name (is, anew) fault.TractsTooLarge has = absurd has
  turn_of_name (is, anew) fault.TooManyTracts has = absurd has
  turn_of_name (is, anew) fault.Memory has = absurd has

  pub turn_of_land : IsNamedAnew (record_at rows count) known → (more : ℕ → ℕ → ℕ → Bool)
      → Describe lots township (description_in (record_at rows count)) more
      → (other : TractFault) → HasAt lots township rows count other → 4 ≤ turn_of other
  turn_of_land (is, anew) more land (fault.TractRow n) (e, bad) = absurd (bad is)
  turn_of_land (is, anew) more land (fault.NameRepeated n) (e, repeated) = absurd (not_repeated anew repeated)
  turn_of_land (is, anew) more land (fault.TractRefused n inner) (e, none) =
      absurd (not_described lots township (description_in (record_at rows count)) inner more none land)
  turn_of_land (is, anew) more land (fault.TractsOverlap n) has = omega arith
  turn_of_land (is, anew) more land fault.TractsTooLarge has = absurd has
  turn_of_land (is, anew) more land fault.TooManyTracts has = absurd has
  turn_of_land (is, anew) more land fault.Memory has = absurd has

  refused : count < length rows → count < TRACTS_MOST → (tract_fault : TractFault)
      → HasAt lots township rows count tract_fault
      → ((other : TractFault) → HasAt lots township rows count other → turn_of tract_fault ≤ turn_of other)
      → IsNextRefused lots township rows tract_fault
  refused within below tract_fault has first = record {
    index = count;
    within = within;
    below = below;
    tracts = before.tracts;
    has = has;
    first = first;
  }

  pub refused_next : count < length rows → count < TRACTS_MOST → (tract_fault : TractFault)
      → IsTractRefused lots township (record_at rows count) known (count + 2) tract_fault
      → AreTractsRefused lots township rows tract_fault
  refused_next within below (fault.TractRow number) (at_record, bad) =
      refused within below (fault.TractRow number) (at_record, bad) any_turn
  refused_next within below (fault.NameRepeated number) (at_record, is, has_it) =
      refused within below (fault.NameRepeated number) (at_record, repeats has_it) (turn_of_record is)
  refused_next within below (fault.TractRefused number inner) (at_record, anew, none) =
      refused within below (fault.TractRefused number inner) (at_record, none) (turn_of_name anew)
  refused_next within below (fault.TractsOverlap number) (at_record, anew, overlaps) =
      refused within below (fault.TractsOverlap number) (at_record, overlaps_one overlaps)
      (turn_of_land anew overlaps.more overlaps.land)
  refused_next within below fault.Memory is = tt
  refused_next within below fault.TractsTooLarge is = absurd is
  refused_next within below fault.TooManyTracts is = absurd is

-- more bytes than a list can have
pub large_first : (lots : Lotting) (township : Designation) (bytes : List ℕ) → TRACTS_LIMIT < length bytes
    → IsFirstTractFault lots township bytes fault.TractsTooLarge
large_first lots township bytes large =
    record { is = large; first = λ other has. from (record_of other) (turn_of other) }
  where
    from : (number turn : ℕ) → (0 < number) ⊎ ((0 ≡ number) × (0 ≤ turn))
    from number turn = elim (cases_lt 0 number) [
      | inl less ↦ inl less
      | inr over ↦ inr (omega arith, omega arith)
    ]

module _ (lots : Lotting) (township : Designation) (bytes : List ℕ) (size : length bytes ≤ TRACTS_LIMIT)
    (heading_is : record_numbered (records_of bytes) 1 ≡ tracts_heading) where
  -- the tracts before have no fault
  pub none_before : (index : ℕ) → AreTracts lots township (tract_records bytes) index
      → (other : TractFault) (at_tract : HasAtTract lots township (tract_records bytes) other)
      → at_tract.index < index → ⊥
  none_before index tracts other at_tract earlier = at_earlier other at_tract.has
    where
      at_earlier : (other : TractFault) → HasAt lots township (tract_records bytes) at_tract.index other → ⊥
      at_earlier (fault.TractRow n) (e, bad) = bad (tracts.each at_tract.index earlier).is_record
      at_earlier (fault.NameRepeated n) (e, repeated) =
          tracts.once repeated.earlier at_tract.index repeated.is_earlier earlier repeated.same
      at_earlier (fault.TractRefused n inner) (e, none) =
          not_described lots township (description_in (record_at (tract_records bytes) at_tract.index)) inner
          (tracts.each at_tract.index earlier).places none (tracts.each at_tract.index earlier).land
      at_earlier (fault.TractsOverlap n) (e, overlaps) =
          tracts.apart overlaps.earlier at_tract.index overlaps.is_earlier earlier overlaps.overlap
      at_earlier fault.TractsTooLarge has = has
      at_earlier fault.TooManyTracts has = has
      at_earlier fault.Memory has = has

  pub number_is : (index : ℕ) (other : TractFault) → HasAt lots township (tract_records bytes) index other
      → record_of other ≡ index + 2
  number_is index (fault.TractRow n) has = has.0
  number_is index (fault.NameRepeated n) has = has.0
  number_is index (fault.TractRefused n inner) has = has.0
  number_is index (fault.TractsOverlap n) has = has.0
  number_is index fault.TractsTooLarge has = absurd has
  number_is index fault.TooManyTracts has = absurd has
  number_is index fault.Memory has = absurd has

  -- each fault is at the record beyond the limit, in the list's size, or at a tract
  pub data Where (other : TractFault) : Type 0 where
    too_many : record_of other ≡ TRACTS_MOST + 2 → Where other
    at_tract : HasAtTract lots township (tract_records bytes) other → Where other

  pub where_is : (other : TractFault) → HasTractFault lots township bytes other → Where other
  where_is fault.TractsTooLarge large = absurd (omega arith)
  where_is fault.TooManyTracts many = too_many refl
  where_is (fault.TractRow n) (inl (e, bad)) = absurd (bad heading_is)
  where_is (fault.TractRow n) (inr is) = at_tract is
  where_is (fault.NameRepeated n) (inl none) = absurd none
  where_is (fault.NameRepeated n) (inr is) = at_tract is
  where_is (fault.TractRefused n inner) (inl none) = absurd none
  where_is (fault.TractRefused n inner) (inr is) = at_tract is
  where_is (fault.TractsOverlap n) (inl none) = absurd none
  where_is (fault.TractsOverlap n) (inr is) = at_tract is
  where_is fault.Memory (inl none) = absurd none
  where_is fault.Memory (inr is) = at_tract is

  -- the first fault of a record is the first of the list
  first_of_next : (tract_fault : TractFault) → IsNextRefused lots township (tract_records bytes) tract_fault
      → HasTractFault lots township bytes tract_fault
      → IsFirstTractFault lots township bytes tract_fault
  first_of_next tract_fault next has =
      record { is = has; first = λ other there. first other (where_is other there) }
    where
      here : record_of tract_fault ≡ next.index + 2
      here = number_is next.index tract_fault next.has

      first : (other : TractFault) → Where other → IsFrom (record_of tract_fault) (turn_of tract_fault) other
      first other (too_many e) =
          let below : next.index < TRACTS_MOST = next.below in inl (omega (arith, here, e))
      first other (at_tract is) = elim (cases_lt is.index next.index) [
        | inl earlier ↦ absurd (none_before next.index next.tracts other is earlier)
        | inr over ↦ elim (cases_eq is.index next.index) [
          | inl same ↦
              let there : HasAt lots township (tract_records bytes) next.index other =
              subst (λ i. HasAt lots township (tract_records bytes) i other) same is.has in
              inr (here ∙ sym (number_is next.index other there), next.first other there)
          | inr later ↦ inl (let e = number_is is.index other is.has in omega (arith, here, e))
        ]
      ]

  pub first_refused : (tract_fault : TractFault)
      → AreTractsRefused lots township (tract_records bytes) tract_fault
      → IfSome (verdict_of tract_fault) (λ _. IsFirstTractFault lots township bytes tract_fault)
  first_refused (fault.TractRow n) next = first_of_next (fault.TractRow n) next (inr (record {
    index = next.index;
    within = next.within;
    has = next.has;
  }))
  first_refused (fault.NameRepeated n) next = first_of_next (fault.NameRepeated n) next (inr (record {
    index = next.index;
    within = next.within;
    has = next.has;
  }))
  first_refused (fault.TractRefused n inner) next =
      first_of_next (fault.TractRefused n inner) next
      (inr (record { index = next.index; within = next.within; has = next.has }))
  first_refused (fault.TractsOverlap n) next = first_of_next (fault.TractsOverlap n) next (inr (record {
    index = next.index;
    within = next.within;
    has = next.has;
  }))
  first_refused fault.TooManyTracts (many, tracts) =
      record { is = many; first = λ other there. first other (where_is other there) }
    where
      first : (other : TractFault) → Where other → IsFrom (TRACTS_MOST + 2) 0 other
      first other (too_many e) = inr (sym e, omega arith)
      first other (at_tract is) = elim (cases_lt is.index TRACTS_MOST) [
        | inl earlier ↦ absurd (none_before TRACTS_MOST tracts other is earlier)
        | inr over ↦
            let e = number_is is.index other is.has in
            elim (cases_eq is.index TRACTS_MOST) [
              | inl last ↦ inr (omega (arith, e), omega arith)
              | inr later ↦ inl (omega (arith, e))
            ]
      ]
  first_refused fault.Memory next = tt
  first_refused fault.TractsTooLarge next = absurd (next.has)

-- the first record, and those after it
pub record AreAfter (bytes : List ℕ) (fields : Fields) (rest : List Fields) : Type 0 where
  pub first : record_numbered (records_of bytes) 1 ≡ fields
  pub after : tract_records bytes ≡ rest

pub after_of_word : (bytes : List ℕ) (fields : Fields) (rest : List Fields) → records_of bytes ≡ fields ∷ rest
    → AreAfter bytes fields rest
after_of_word bytes fields rest split = record { first = rw split refl; after = rw split refl }

-- the lines of a list's refusal are its answer
pub list_refused : (plat : SurveyPlat) (bytes answer : List ℕ) (verdict : Verdict)
    (tract_fault : TractFault)
    → IsFirstTractFault STANDARD_LOTS plat.township bytes tract_fault
    → verdict_of tract_fault ≡ Some verdict → verdict ≢ Accepted → answer ≡ refusal_lines verdict
    → AnswersList plat bytes answer verdict
list_refused plat bytes answer Accepted tract_fault first is other lines = absurd (other refl)
list_refused plat bytes answer (Refused refusal) tract_fault first is other lines =
    record { tract_fault = tract_fault; first = first; verdict_is = is; lines_are = lines }
list_refused plat bytes answer (TractRefused at_ inner) tract_fault first is other lines =
    record { tract_fault = tract_fault; first = first; verdict_is = is; lines_are = lines }
