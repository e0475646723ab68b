-- The first fault of a list of tracts by a lot table.
use Rattle.std.proofs.Common.{◌≡◌, ℕ, ◌+◌, ◌<◌, ◌≤◌, List, length}
use Rattle.std.proofs.Common.{sym, ◌∙◌, refl, inl, inr, subst, arith}
use Rattle.std.specs.Prelude.{IfSome}
use Rattle.std.proofs.lemmas.Bool.{cases_lt, cases_eq}
use Rattle.twp_plat.specs.LotTables.{lots_of}
use Rattle.twp_plat.specs.declared.lots.returned.ReturnedLots.{ReturnedLots}
use Rattle.twp_grid.specs.Townships.{Designation}
use Rattle.twp_notes.specs.Records.{Fields, record_at, record_numbered, records_of}
use Rattle.twp_answers.specs.EarlierTracts.{AreEarlier, TractsSoFar, IsNamedAnew}
use Rattle.twp_answers.specs.TractFaults.{HasAt, IsFrom, record_of, turn_of, verdict_of}
use Rattle.twp_answers.specs.Tracts.{TRACTS_LIMIT, TRACTS_MOST, tracts_heading, tract_records}
use Rattle.twp_answers.specs.Tracts.{AreTracts}
use Rattle.twp_answers.specs.declared.tract_fault.TractFault.{TractFault}
use Rattle.twp_answers.specs.declared.tract_fault.TractFault.TheVariants as fault
use Rattle.twp_answers.proofs.FirstTractFaults.{at_tract, too_many, any_turn, none_before, number_is}
use Rattle.twp_answers.proofs.FirstTractFaults.{overlaps_one, repeats, turn_of_land, turn_of_name}
use Rattle.twp_answers.proofs.FirstTractFaults.{turn_of_record, where_is}
use Rattle.twp_answers.specs.LotTractFaults.{HasFaultByLots, IsFirstFaultByLots, LacksLotAt}
use Rattle.twp_answers.specs.steps.LotTaking.{AreRefusedByLots, HasAtByLots, IsNextRefusedByLots}
use Rattle.twp_answers.specs.steps.LotTaking.{IsRefusedByLots, LackNoLots, OverlapsByLots}
use Rattle.twp_answers.proofs.LotFigures.{returns_all}

-- a lot that the table lacks has the turn of a refused description, and is reported at the tract's record
lacks_turn : (township : Designation) (lots : ReturnedLots) (rows : List Fields) (index : ℕ)
    (other : TractFault)
    → LacksLotAt township lots rows index other → (record_of other ≡ index + 2) × (turn_of other ≡ 3)
lacks_turn township lots rows index (fault.TractRefused n inner) lacks = (lacks.0, refl)
lacks_turn township lots rows index (fault.TractRow n) none = absurd none
lacks_turn township lots rows index (fault.NameRepeated n) none = absurd none
lacks_turn township lots rows index (fault.TractsOverlap n) none = absurd none
lacks_turn township lots rows index fault.TractsTooLarge none = absurd none
lacks_turn township lots rows index fault.TooManyTracts none = absurd none
lacks_turn township lots rows index fault.Memory none = absurd none

-- the next record is refused, for its first fault
module _ (township : Designation) (lots : ReturnedLots) (rows : List Fields) (count : ℕ) (known : TractsSoFar)
    (before : AreEarlier (lots_of lots) township rows count known)
    (lack : LackNoLots township lots rows count)
    (within : count < length rows) (below : count < TRACTS_MOST) where
  refused : (tract_fault : TractFault) → HasAtByLots township lots rows count tract_fault
      → ((other : TractFault) → HasAtByLots township lots rows count other
      → turn_of tract_fault ≤ turn_of other)
      → IsNextRefusedByLots township lots rows tract_fault
  refused tract_fault has first = record {
    index = count;
    within = within;
    below = below;
    tracts = before.tracts;
    figures = lack;
    has = has;
    first = first;
  }

  -- no later turn than that of a lacking lot
  least : (turn : ℕ) → turn ≤ 3
      → ((other : TractFault) → HasAt (lots_of lots) township rows count other → turn ≤ turn_of other)
      → (other : TractFault) → HasAtByLots township lots rows count other → turn ≤ turn_of other
  least turn low first other (inl has) = first other has
  least turn low first other (inr lacks) =
      let e : turn_of other ≡ 3 = (lacks_turn township lots rows count other lacks).1 in omega (arith, e, low)

  last : IsNamedAnew (record_at rows count) known → OverlapsByLots township lots (record_at rows count) known
      → (other : TractFault) → HasAtByLots township lots rows count other → 4 ≤ turn_of other
  last anew overlaps other (inl has) =
      turn_of_land (lots_of lots) township rows count known before anew overlaps.more overlaps.land other has
  last anew overlaps other (inr lacks) =
      absurd (returns_all township lots rows count overlaps.more overlaps.land overlaps.figures other lacks)

  pub refused_next_by : (tract_fault : TractFault)
      → IsRefusedByLots township lots (record_at rows count) known (count + 2) tract_fault
      → AreRefusedByLots township lots rows tract_fault
  refused_next_by (fault.TractRow number) (at_record, bad) =
      refused (fault.TractRow number) (inl (at_record, bad))
      (least 1 (omega arith) (any_turn (lots_of lots) township rows count known before))
  refused_next_by (fault.NameRepeated number) (at_record, is, has_it) =
      refused (fault.NameRepeated number)
      (inl (at_record, repeats (lots_of lots) township rows count known before has_it))
      (least 2 (omega arith) (turn_of_record (lots_of lots) township rows count known before is))
  refused_next_by (fault.TractRefused number inner) (at_record, anew, inl none) =
      refused (fault.TractRefused number inner) (inl (at_record, none))
      (least 3 (omega arith) (turn_of_name (lots_of lots) township rows count known before anew))
  refused_next_by (fault.TractRefused number inner) (at_record, anew, inr lacks) =
      refused (fault.TractRefused number inner) (inr (at_record, lacks))
      (least 3 (omega arith) (turn_of_name (lots_of lots) township rows count known before anew))
  refused_next_by (fault.TractsOverlap number) (at_record, anew, overlaps) =
      refused (fault.TractsOverlap number)
      (inl (
        at_record,
        overlaps_one (lots_of lots) township rows count known before (record {
          more = overlaps.more;
          land = overlaps.land;
          shared = overlaps.shared;
        }),
      ))
      (last anew overlaps)
  refused_next_by fault.Memory is = tt
  refused_next_by fault.TractsTooLarge is = absurd is
  refused_next_by fault.TooManyTracts is = absurd is

module _ (township : Designation) (lots : ReturnedLots) (bytes : List ℕ) (size : length bytes ≤ TRACTS_LIMIT)
    (heading_is : record_numbered (records_of bytes) 1 ≡ tracts_heading) where
  -- the tract with a fault
  record IsAtTract (other : TractFault) : Type 0 where
    index : ℕ
    within : index < length (tract_records bytes)
    has : HasAtByLots township lots (tract_records bytes) index other

  -- each fault is at the record beyond the limit, or at a tract
  data Lies (other : TractFault) : Type 0 where
    beyond : record_of other ≡ TRACTS_MOST + 2 → Lies other
    inside : IsAtTract other → Lies other

  lies : (other : TractFault) → HasFaultByLots township lots bytes other → Lies other
  lies other (inl has) = elim (where_is (lots_of lots) township bytes size heading_is other has) [
    | too_many e ↦ beyond e
    | at_tract is ↦ inside (record { index = is.index; within = is.within; has = inl is.has })
  ]
  lies other (inr lacks) =
      inside (record { index = lacks.index; within = lacks.within; has = inr lacks.lacks })

  number_by : (index : ℕ) (other : TractFault) → HasAtByLots township lots (tract_records bytes) index other
      → record_of other ≡ index + 2
  number_by index other (inl has) = number_is (lots_of lots) township bytes size heading_is index other has
  number_by index other (inr lacks) = (lacks_turn township lots (tract_records bytes) index other lacks).0

  -- the tracts before have no fault
  none_before_by : (index : ℕ) → AreTracts (lots_of lots) township (tract_records bytes) index
      → LackNoLots township lots (tract_records bytes) index
      → (other : TractFault) (at_one : IsAtTract other) → at_one.index < index → ⊥
  none_before_by index tracts lack other at_one earlier = elim at_one.has [
    | inl has ↦ none_before (lots_of lots) township bytes size heading_is index tracts other (record {
      index = at_one.index;
      within = at_one.within;
      has = has;
    }) earlier
    | inr lacks ↦ lack at_one.index other earlier lacks
  ]

  -- a fault of a tract is one of the list
  present : (tract_fault : TractFault) (index : ℕ) → index < length (tract_records bytes)
      → HasAtByLots township lots (tract_records bytes) index tract_fault
      → HasFaultByLots township lots bytes tract_fault
  present other index within (inr lacks) = inr (record { index = index; within = within; lacks = lacks })
  present (fault.TractRow n) index within (inl has) =
      inl (inr (record { index = index; within = within; has = has }))
  present (fault.NameRepeated n) index within (inl has) =
      inl (inr (record { index = index; within = within; has = has }))
  present (fault.TractRefused n inner) index within (inl has) =
      inl (inr (record { index = index; within = within; has = has }))
  present (fault.TractsOverlap n) index within (inl has) =
      inl (inr (record { index = index; within = within; has = has }))
  present fault.TractsTooLarge index within (inl has) = absurd has
  present fault.TooManyTracts index within (inl has) = absurd has
  present fault.Memory index within (inl has) = absurd has

  -- the first fault of a record is the first of the list
  first_of_next_by : (tract_fault : TractFault)
      → IsNextRefusedByLots township lots (tract_records bytes) tract_fault
      → IsFirstFaultByLots township lots bytes tract_fault
  first_of_next_by tract_fault next = record {
    is = present tract_fault next.index next.within next.has;
    first = λ other there. first other (lies other there);
  }
    where
      here : record_of tract_fault ≡ next.index + 2
      here = number_by next.index tract_fault next.has

      first : (other : TractFault) → Lies other → IsFrom (record_of tract_fault) (turn_of tract_fault) other
      first other (beyond e) =
          let below : next.index < TRACTS_MOST = next.below in inl (omega (arith, here, e))
      first other (inside is) = elim (cases_lt is.index next.index) [
        | inl earlier ↦ absurd (none_before_by next.index next.tracts next.figures other is earlier)
        | inr over ↦ elim (cases_eq is.index next.index) [
          | inl same ↦
              let there : HasAtByLots township lots (tract_records bytes) next.index other =
              subst (λ i. HasAtByLots township lots (tract_records bytes) i other) same is.has in
              inr (here ∙ sym (number_by next.index other there), next.first other there)
          | inr later ↦ inl (let e = number_by is.index other is.has in omega (arith, here, e))
        ]
      ]

  pub first_refused_by : (tract_fault : TractFault)
      → AreRefusedByLots township lots (tract_records bytes) tract_fault
      → IfSome (verdict_of tract_fault) (λ _. IsFirstFaultByLots township lots bytes tract_fault)
  first_refused_by (fault.TractRow n) next = first_of_next_by (fault.TractRow n) next
  first_refused_by (fault.NameRepeated n) next = first_of_next_by (fault.NameRepeated n) next
  first_refused_by (fault.TractRefused n inner) next = first_of_next_by (fault.TractRefused n inner) next
  first_refused_by (fault.TractsOverlap n) next = first_of_next_by (fault.TractsOverlap n) next
  first_refused_by fault.TractsTooLarge next = first_of_next_by fault.TractsTooLarge next
  first_refused_by fault.TooManyTracts next =
      record { is = inl next.many; first = λ other there. first other (lies other there) }
    where
      first : (other : TractFault) → Lies other → IsFrom (TRACTS_MOST + 2) 0 other
      first other (beyond e) = inr (sym e, omega arith)
      first other (inside is) = elim (cases_lt is.index TRACTS_MOST) [
        | inl earlier ↦ absurd (none_before_by TRACTS_MOST next.tracts next.figures other is earlier)
        | inr over ↦
            let e = number_by is.index other is.has in
            elim (cases_eq is.index TRACTS_MOST) [
              | inl exactly ↦ inr (omega (arith, e), omega arith)
              | inr later ↦ inl (omega (arith, e))
            ]
      ]
  first_refused_by fault.Memory next = tt
