-- The answers to the tracts of a list, one more at a time.
use Rattle.std.proofs.Common.{◌≡◌, ℕ, ◌+◌, ◌<◌, ◌≤◌, ◌||◌, Bool, true, false, List, [], ◌∷◌, ◌++◌}
use Rattle.std.proofs.Common.{get_or, ap, refl, sym, ◌∙◌, inl, inr, subst, arith, not}
use Rattle.std.specs.Str.{bytes_eq}
use Rattle.std.proofs.lemmas.Bool.{cases_Bool}
use Rattle.std.proofs.lemmas.Slice.Eq.{bytes_eq-Decides}
use Rattle.std.proofs.lemmas.List.{length_push}
use Rattle.std.proofs.Math.ListN.{get_or-append}
use Rattle.std.proofs.Math.Seq.{get_or-append_seam}
use Rattle.twp_grid.specs.declared.refusal.Refusal.{Refusal}
use Rattle.twp_notes.specs.Records.{Fields, record_at}
use Rattle.twp_answers.specs.EachTract.{AreAnswersTo, DescriptionAnswers, HasAlone, HasOwnFault, IsAnswerAt}
use Rattle.twp_answers.specs.EachTract.{IsOfTract}
use Rattle.twp_answers.specs.steps.EachTaking.{AnswersLand, AreNamesOf, TakesName, TakesRecord}
use Rattle.std.specs.Prelude.{Result, Ok, Err}
use Rattle.twp_answers.specs.Names.{has_name}
use Rattle.twp_answers.specs.Tracts.{name_in, description_in, IsTractName, IsTractRecord}
use Rattle.twp_answers.specs.TractFaults.{IsNameRepeated, turn_of}
use Rattle.twp_answers.specs.declared.each_tract.TractAnswer.{TractAnswer}
use Rattle.twp_answers.specs.declared.names.NamesSoFar.{NamesSoFar}
use Rattle.twp_answers.specs.declared.tract_fault.TractFault.{TractFault}
use Rattle.twp_answers.specs.declared.tract_fault.TractFault.TheVariants as fault
use Rattle.twp_answers.proofs.TractLands.{earlier_or_last, either_way, with_left, with_right}

-- one more answer
pub answers_next : (Has : DescriptionAnswers) (rows : List Fields) (count : ℕ) (answers : List TractAnswer)
    (answer : TractAnswer) → AreAnswersTo Has rows count answers → IsAnswerAt Has rows count answer
    → AreAnswersTo Has rows (count + 1) (answers ++ answer ∷ [])
answers_next Has rows count answers answer before here = record {
  count_is = rw (length_push answers answer) (omega (arith, before.count_is));
  each = λ index default below. elim (earlier_or_last count index below) [
    | inl earlier ↦
        rw (get_or-append answers (answer ∷ []) default index (omega (arith, before.count_is)))
        (before.each index default earlier)
    | inr next ↦
        let last : get_or (answers ++ answer ∷ []) index default ≡ answer =
        ap (λ i. get_or (answers ++ answer ∷ []) i default) (next ∙ sym before.count_is)
        ∙ get_or-append_seam answers answer [] default in
        rw (last, next) here
  ];
}

-- a name that is not in the set is not repeated
pub not_repeated : (rows : List Fields) (index : ℕ) (names : NamesSoFar) → AreNamesOf rows index names
    → IsTractName (name_in (record_at rows index))
    → has_name names (name_in (record_at rows index)) ≡ false → IsNameRepeated rows index → ⊥
not_repeated rows index names are is anew repeated =
    let known = are.named repeated.earlier repeated.is_earlier (rw repeated.same is) in
    cc (sym known ∙ ap (has_name names) repeated.same ∙ anew)

-- one that is in the set is repeated
pub is_repeated : (rows : List Fields) (index : ℕ) (names : NamesSoFar) → AreNamesOf rows index names
    → has_name names (name_in (record_at rows index)) ≡ true → IsNameRepeated rows index
is_repeated rows index names are known =
    let found = are.only (name_in (record_at rows index)) known in
    record { earlier = found.0; is_earlier = found.1; same = found.2 }

-- the set after the name of one more record was added
pub names_next : (rows : List Fields) (index : ℕ) (old new : NamesSoFar) → AreNamesOf rows index old
    → ((other : List ℕ) → has_name new other
    ≡ (bytes_eq (name_in (record_at rows index)) other || has_name old other))
    → AreNamesOf rows (index + 1) new
names_next rows index old new before more = record {
  named = λ i below is. elim (earlier_or_last index i below) [
    | inl earlier ↦
        more (name_in (record_at rows i))
        ∙ with_right (bytes_eq (name_in (record_at rows index)) (name_in (record_at rows i))) _
        (before.named i earlier is)
    | inr next ↦
        rw next
        (more (name_in (record_at rows index))
        ∙ with_left (bytes_eq (name_in (record_at rows index)) (name_in (record_at rows index))) _
        ((bytes_eq-Decides (name_in (record_at rows index)) (name_in (record_at rows index))).1 refl))
  ];
  only = λ name is.
      elim
      (either_way (bytes_eq (name_in (record_at rows index)) name) (has_name old name)
      (sym (more name) ∙ is)) [
        | inl here ↦ (index, omega arith, (bytes_eq-Decides (name_in (record_at rows index)) name).0 here)
        | inr there ↦
            let found = before.only name there in
            let within : found.0 < index = found.1 in
            (found.0, omega arith, found.2)
      ];
}

-- the set after a record without a name
pub names_kept : (rows : List Fields) (index : ℕ) (names : NamesSoFar) → AreNamesOf rows index names
    → ¬ IsTractName (name_in (record_at rows index)) → AreNamesOf rows (index + 1) names
names_kept rows index names before none = record {
  named = λ i below is. elim (earlier_or_last index i below) [
    | inl earlier ↦ before.named i earlier is
    | inr next ↦ absurd (none (rw next at is))
  ];
  only = λ name is.
      let found = before.only name is in
      let within : found.0 < index = found.1 in
      (found.0, omega arith, found.2);
}

module _ (Has : DescriptionAnswers) (rows : List Fields) (index : ℕ) where
  -- the record is not a tract's
  pub no_record : ¬ IsTractRecord (record_at rows index)
      → HasOwnFault Has rows index (fault.TractRow (index + 2))
  no_record bad = record { has = (refl, bad); first = least }
    where
      least : (other : TractFault) → HasAlone Has rows index other → 1 ≤ turn_of other
      least (fault.TractRow n) has = omega arith
      least (fault.NameRepeated n) has = omega arith
      least (fault.TractRefused n inner) has = omega arith
      least (fault.TractsOverlap n) has = absurd has
      least fault.TractsTooLarge has = absurd has
      least fault.TooManyTracts has = absurd has
      least fault.Memory has = absurd has

  -- it is, but an earlier one has its name
  pub repeated : IsTractRecord (record_at rows index) → IsNameRepeated rows index
      → HasOwnFault Has rows index (fault.NameRepeated (index + 2))
  repeated is again = record { has = (refl, again); first = least }
    where
      least : (other : TractFault) → HasAlone Has rows index other → 2 ≤ turn_of other
      least (fault.TractRow n) (e, bad) = absurd (bad is)
      least (fault.NameRepeated n) has = omega arith
      least (fault.TractRefused n inner) has = omega arith
      least (fault.TractsOverlap n) has = absurd has
      least fault.TractsTooLarge has = absurd has
      least fault.TooManyTracts has = absurd has
      least fault.Memory has = absurd has

  -- its name is new, but its description is refused
  pub refused : IsTractRecord (record_at rows index) → ¬ IsNameRepeated rows index → (inner : Refusal)
      → Has (description_in (record_at rows index)) (Err inner)
      → HasOwnFault Has rows index (fault.TractRefused (index + 2) inner)
  refused is anew inner none = record { has = (refl, none); first = least }
    where
      least : (other : TractFault) → HasAlone Has rows index other → 3 ≤ turn_of other
      least (fault.TractRow n) (e, bad) = absurd (bad is)
      least (fault.NameRepeated n) (e, again) = absurd (anew again)
      least (fault.TractRefused n inner) has = omega arith
      least (fault.TractsOverlap n) has = absurd has
      least fault.TractsTooLarge has = absurd has
      least fault.TooManyTracts has = absurd has
      least fault.Memory has = absurd has

-- no names, and no answers, before the first record
pub no_names : (rows : List Fields) (names : NamesSoFar) → ((name : List ℕ) → has_name names name ≡ false)
    → AreNamesOf rows 0 names
no_names rows names none = record {
  named = λ index below is. absurd (omega arith);
  only = λ name is. cc (sym is ∙ none name);
}

pub no_answers : (Has : DescriptionAnswers) (rows : List Fields) (answers : List TractAnswer) → answers ≡ []
    → AreAnswersTo Has rows 0 answers
no_answers Has rows answers none = rw none (record {
  count_is = refl;
  each = λ index default below. absurd (omega arith);
})

-- the set after a new name was added, or one that it has, and whether it was new
pub name_taken : (fields : Fields) (old new : NamesSoFar) (said : Bool) (name : List ℕ)
    → name ≡ name_in fields
    → said ≡ not (has_name old name)
    → ((other : List ℕ) → has_name new other ≡ (bytes_eq name other || has_name old other))
    → TakesName fields old new said
name_taken fields old new said name same said_is more = record {
  names = λ rows index here before.
      names_next rows index old new before
      (subst (λ n. (other : List ℕ) → has_name new other ≡ (bytes_eq n other || has_name old other))
      (same ∙ ap name_in (sym here)) more);
  is_new = λ rows index here before is.
      let at : name_in (record_at rows index) ≡ name = ap name_in here ∙ sym same in
      elim (cases_Bool (has_name old name)) [
        | inl known ↦
            rw (said_is ∙ ap not known)
            (is_repeated rows index old before (ap (has_name old) at ∙ known))
        | inr unknown ↦
            rw (said_is ∙ ap not unknown)
            (not_repeated rows index old before (subst IsTractName (ap name_in (sym here)) is)
            (ap (has_name old) at ∙ unknown))
      ];
}

-- a record that has no name that a tract can have
pub no_name_taken : (fields : Fields) (names : NamesSoFar) (said : Bool) → ¬ IsTractName (name_in fields)
    → TakesName fields names names said
no_name_taken fields names said none = record {
  names = λ rows index here before.
      names_kept rows index names before (subst (λ f. ¬ IsTractName (name_in f)) (sym here) none);
  is_new = λ rows index here before is. absurd (none is);
}

-- the answer for the land of a tract with a new name
of_land : (Has : DescriptionAnswers) (rows : List Fields) (index number : ℕ) (answer : Result ℕ TractFault)
    → IsTractRecord (record_at rows index) → ¬ IsNameRepeated rows index → number ≡ index + 2
    → AnswersLand Has (description_in (record_at rows index)) number answer
    → IsOfTract Has rows index answer
of_land Has rows index number (Ok hundredths) is anew at_record has =
    record { is_record = is; is_new = anew; acres = has }
of_land Has rows index number (Err (fault.TractRefused n inner)) is anew at_record (same, none) =
    rw (same ∙ at_record) (refused Has rows index is anew inner none)
of_land Has rows index number (Err (fault.TractRow n)) is anew at_record has = absurd has
of_land Has rows index number (Err (fault.NameRepeated n)) is anew at_record has = absurd has
of_land Has rows index number (Err (fault.TractsOverlap n)) is anew at_record has = absurd has
of_land Has rows index number (Err fault.TractsTooLarge) is anew at_record has = absurd has
of_land Has rows index number (Err fault.TooManyTracts) is anew at_record has = absurd has
of_land Has rows index number (Err fault.Memory) is anew at_record has = absurd has

module _ (Has : DescriptionAnswers) (fields : Fields) (number : ℕ) (old new : NamesSoFar) (said : Bool)
    (given : TractAnswer) (takes : TakesName fields old new said) where
  -- a record that is not a tract's
  pub takes_no_tract : ¬ IsTractRecord fields → given.name.bytes ≡ []
      → given.answer ≡ Err (fault.TractRow number) → TakesRecord Has fields number old new given
  takes_no_tract bad none same = record {
    names = takes.names;
    answer = λ rows index here before at_record.
        let no = subst (λ f. ¬ IsTractRecord f) (sym here) bad in
        record {
          answer_is =
              rw (same, at_record) (no_record Has rows index no);
          name_is = λ is. absurd (no is);
          no_name = λ _. none;
        };
  }

  -- a tract with the name of an earlier one
  pub takes_repeated : IsTractRecord fields → given.name.bytes ≡ name_in fields → said ≡ false
      → given.answer ≡ Err (fault.NameRepeated number) → TakesRecord Has fields number old new given
  takes_repeated is name known same = record {
    names = takes.names;
    answer = λ rows index here before at_record.
        let there = subst IsTractRecord (sym here) is in
        let again = rw known at takes.is_new rows index here before is.name_is in
        record {
          answer_is = rw (same, at_record) (repeated Has rows index there again);
          name_is = λ _. name ∙ ap name_in (sym here);
          no_name = λ no. absurd (no there);
        };
  }

  -- a tract with a new name
  pub takes_land : IsTractRecord fields → given.name.bytes ≡ name_in fields → said ≡ true
      → AnswersLand Has (description_in fields) number given.answer
      → TakesRecord Has fields number old new given
  takes_land is name anew land = record {
    names = takes.names;
    answer = λ rows index here before at_record.
        let there = subst IsTractRecord (sym here) is in
        let first = rw anew at takes.is_new rows index here before is.name_is in
        record {
          answer_is =
              of_land Has rows index number given.answer there first at_record
              (subst (λ f. AnswersLand Has (description_in f) number given.answer) (sym here) land);
          name_is = λ _. name ∙ ap name_in (sym here);
          no_name = λ no. absurd (no there);
        };
  }
