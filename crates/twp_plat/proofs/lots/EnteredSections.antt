-- The figures that are entered, section after section.
use Rattle.std.proofs.Common.{◌≡◌, ◌≢◌, ℕ, ◌+◌, ◌-◌, ◌<◌, ◌≤◌, List, [], get_or, set, length, nat_lt}
use Rattle.std.proofs.Common.{refl, sym, ◌∙◌, inl, inr, arith, true}
use Rattle.std.proofs.lemmas.Bool.{cases_lt}
use Rattle.std.proofs.lemmas.Bool.Decides.{nat_tests}
use Rattle.std.proofs.lemmas.List.{get_or-set_same, get_or-set_other}
use Rattle.twp_grid.specs.Winding.{SECTION_COUNT}
use Rattle.twp_grid.specs.Spans.{total, one_where}
use Rattle.twp_grid.specs.Lands.{LOT_NUMBER_MOST}
use Rattle.twp_grid.proofs.TotalFacts.{total-add, total-all_zero, total-ext, total-next, total-zero}
use Rattle.twp_plat.specs.LotTables.{RETURNED_MOST, AreReturned, entered_count, entered_for, figure_among}
use Rattle.twp_plat.specs.LotTables.{figure_within}
use Rattle.twp_plat.specs.steps.Appending.{Appends, count_entered}
use Rattle.twp_plat.specs.declared.lots.returned.ReturnedLots.{ReturnedLots}
use Rattle.twp_plat.proofs.lots.Among.{among-ext, among_is}

-- 1 for each lot for which something is entered
abbrev pub entered_one : List ℕ → ℕ → ℕ
entered_one entered less = one_where (nat_lt 0 (get_or entered less 0))

pub counted_skip : (entered : List ℕ) (index : ℕ) → get_or entered index 0 ≡ 0
    → total (index + 1) (entered_one entered) ≡ total index (entered_one entered)
counted_skip entered index none =
    let next = total-next index (entered_one entered) in
    let zeroth : entered_one entered index ≡ 0 = rw none refl in
    omega (arith, next, zeroth)

pub counted_more : (entered : List ℕ) (index : ℕ) → get_or entered index 0 ≢ 0
    → total (index + 1) (entered_one entered) ≡ total index (entered_one entered) + 1
counted_more entered index some =
    let next = total-next index (entered_one entered) in
    let there : nat_lt 0 (get_or entered index 0) ≡ true = grind (arith, nat_tests, some) in
    let one : entered_one entered index ≡ 1 = rw there refl in
    omega (arith, next, one)

-- a part of a sum is no more than the sum
pub part_of_total : (part n : ℕ) (f : ℕ → ℕ) → part ≤ n → total part f ≤ total n f
part_of_total part n f less =
    let all : n ≡ part + (n - part) = omega (arith, less) in
    let sum = total-add part (n - part) f in
    rw all (omega (arith, sum))

pub counted_most : (entered : List ℕ) (index : ℕ) → index < LOT_NUMBER_MOST → get_or entered index 0 ≢ 0
    → total index (entered_one entered) < count_entered entered
counted_most entered index less some =
    let part = part_of_total (index + 1) LOT_NUMBER_MOST (entered_one entered) (omega (arith, less)) in
    let more = counted_more entered index some in
    omega (arith, part, more)

-- nothing is entered after the last
pub counted_rest : (entered : List ℕ) (last : ℕ) → last ≤ LOT_NUMBER_MOST
    → ((index : ℕ) → last ≤ index → get_or entered index 0 ≡ 0)
    → total last (entered_one entered) ≡ count_entered entered
counted_rest entered last most none =
    let all : LOT_NUMBER_MOST ≡ last + (LOT_NUMBER_MOST - last) = omega (arith, most) in
    let sum = total-add last (LOT_NUMBER_MOST - last) (entered_one entered) in
    let rest =
    total-all_zero (LOT_NUMBER_MOST - last) (λ k. entered_one entered (last + k))
    (λ k _. rw (none (last + k) (omega arith)) refl) in
    rw all (omega (arith, sum, rest))

-- the figures of a section are those that are entered for it
pub record IsSectionEntered (entered : List (List ℕ)) (figures numbers : List ℕ)
    (start end used section : ℕ) : Type 0 where
  pub order : start ≤ end
  pub within : end ≤ used
  pub are : (number : ℕ) → 1 ≤ number → number ≤ LOT_NUMBER_MOST
      → figure_among figures numbers number start (end - start)
      ≡ figure_within (entered_for entered section number)
  pub beyond : (number : ℕ) → LOT_NUMBER_MOST < number
      → figure_among figures numbers number start (end - start) ≡ 0

-- those of the sections so far are
pub record AreSectionsEntered (entered : List (List ℕ)) (figures numbers first : List ℕ) (used index : ℕ)
    : Type 0 where
  pub most : used ≤ RETURNED_MOST
  pub count : used ≡ total index (λ before. count_entered (get_or entered before []))
  pub last : get_or first index 0 ≡ used
  pub each : (section : ℕ) → 1 ≤ section → section ≤ index
      → IsSectionEntered entered figures numbers (get_or first (section - 1) 0) (get_or first section 0) used
      section

-- before the first section, there are none
pub sections_first : (entered : List (List ℕ)) (figures numbers first : List ℕ) → get_or first 0 0 ≡ 0
    → AreSectionsEntered entered figures numbers first 0 0
sections_first entered figures numbers first none = record {
  most = omega arith;
  count = sym (total-zero _);
  last = none;
  each = λ section some to. absurd (omega (arith, some, to));
}

pub sections_next : (entered : List (List ℕ)) (figures numbers first figures' numbers' : List ℕ)
    (used end index : ℕ) → length first ≡ 37 → index < 36
    → AreSectionsEntered entered figures numbers first used index
    → end ≡ used + count_entered (get_or entered index []) → end ≤ RETURNED_MOST
    → Appends figures numbers figures' numbers' used end (get_or entered index [])
    → AreSectionsEntered entered figures' numbers' (set first (index + 1) end) end (index + 1)
sections_next entered figures numbers first figures' numbers' used end index long below so_far is most
    appends =
    record {
      most = most;
      count =
          let next = total-next index (λ before. count_entered (get_or entered before [])) in
          omega (arith, next, is, so_far.count);
      last = get_or-set_same first (index + 1) end 0 (omega (arith, long, below));
      each = λ section some to. elim (cases_lt section (index + 1)) [
        | inl before ↦ earlier section some before
        | inr after ↦
            let same : section ≡ index + 1 = omega (arith, to, after) in
            rw same new
      ];
    }
  where
    kept : (k : ℕ) → k < index + 1 → get_or (set first (index + 1) end) k 0 ≡ get_or first k 0
    kept k less =
        get_or-set_other first (index + 1) k end 0 (λ same. absurd (omega (arith, same, less)))

    earlier : (section : ℕ) → 1 ≤ section → section < index + 1
        → IsSectionEntered entered figures' numbers' (get_or (set first (index + 1) end) (section - 1) 0)
        (get_or (set first (index + 1) end) section 0) end section
    earlier section some less =
        rw (kept (section - 1) (omega (arith, less)), kept section less)
        (record {
          order = was.order;
          within = omega (arith, was.within, is);
          are = λ number least greatest. as_before number ∙ was.are number least greatest;
          beyond = λ number more. as_before number ∙ was.beyond number more;
        })
      where
        was : IsSectionEntered entered figures numbers (get_or first (section - 1) 0) (get_or first section 0)
            used section
        was = so_far.each section some (omega (arith, less))

        as_before : (number : ℕ) → figure_among figures' numbers' number (get_or first (section - 1) 0)
            (get_or first section 0 - get_or first (section - 1) 0)
            ≡ figure_among figures numbers number (get_or first (section - 1) 0)
            (get_or first section 0 - get_or first (section - 1) 0)
        as_before number =
            among_is figures' numbers' number (get_or first (section - 1) 0)
            (get_or first section 0 - get_or first (section - 1) 0)
            ∙ among-ext 0 figures' numbers' figures numbers number (get_or first (section - 1) 0)
            (get_or first section 0 - get_or first (section - 1) 0)
            (λ k from until. appends.before k 0 (omega (arith, from, until, was.order, was.within)))
            (λ k from until. appends.numbers_before k 0 (omega (arith, from, until, was.order, was.within)))
            ∙ sym (among_is figures numbers number (get_or first (section - 1) 0)
            (get_or first section 0 - get_or first (section - 1) 0))

    new : IsSectionEntered entered figures' numbers' (get_or (set first (index + 1) end) (index + 1 - 1) 0)
        (get_or (set first (index + 1) end) (index + 1) 0) end (index + 1)
    new =
        let back : index + 1 - 1 ≡ index = omega arith in
        rw (
          back,
          kept index (omega arith),
          so_far.last,
          get_or-set_same first (index + 1) end 0 (omega (arith, long, below)),
        )
        (record {
          order = omega (arith, is);
          within = omega arith;
          are = λ number least greatest. rw back (appends.appended number least greatest);
          beyond = λ number more. appends.beyond number more;
        })

-- all that is entered, section by section
pub count_by_section : (entered : List (List ℕ))
    → entered_count entered ≡ total SECTION_COUNT (λ before. count_entered (get_or entered before []))
count_by_section entered =
    total-ext SECTION_COUNT _ (λ before. count_entered (get_or entered before [])) (λ before _.
    total-ext LOT_NUMBER_MOST _ (entered_one (get_or entered before [])) (λ less _. same before less))
  where
    back : (n : ℕ) → n + 1 - 1 ≡ n
    back n = omega arith

    same : (before less : ℕ) → one_where (nat_lt 0 (entered_for entered (before + 1) (less + 1)))
        ≡ entered_one (get_or entered before []) less
    same before less = rw (back before, back less) refl

pub sections_all : (entered : List (List ℕ)) (lots : ReturnedLots) (used : ℕ)
    → AreSectionsEntered entered lots.figures lots.numbers lots.first used SECTION_COUNT
    → AreReturned entered lots
sections_all entered lots used are = record {
  each = λ section number range some most. (are.each section range.0 range.1).are number some most;
  beyond = λ section number range more. (are.each section range.0 range.1).beyond number more;
}

pub sections_count : (entered : List (List ℕ)) (figures numbers first : List ℕ) (used : ℕ)
    → AreSectionsEntered entered figures numbers first used SECTION_COUNT
    → entered_count entered ≤ RETURNED_MOST
sections_count entered figures numbers first used are =
    let count = count_by_section entered in
    omega (arith, count, are.count, are.most)

-- if a section's are too many, all are
pub sections_many : (entered : List (List ℕ)) (figures numbers first : List ℕ) (used index : ℕ) → index < 36
    → AreSectionsEntered entered figures numbers first used index
    → RETURNED_MOST < used + count_entered (get_or entered index [])
    → RETURNED_MOST < entered_count entered
sections_many entered figures numbers first used index below are many =
    let count = count_by_section entered in
    let next = total-next index (λ before. count_entered (get_or entered before [])) in
    let part =
    part_of_total (index + 1) SECTION_COUNT (λ before. count_entered (get_or entered before []))
    (omega (arith, below)) in
    omega (arith, count, next, part, are.count, many)
