-- The steps of the code that adds the units of sections.
use Rattle.std.proofs.Common.{◌≡◌, ℕ, ◌+◌, ◌-◌, ◌*◌, ◌<◌, ◌≤◌, Bool, false, refl, sym, ap, ◌∙◌, arith, inl}
use Rattle.std.proofs.Common.{inr, ◌⊎◌}
use Rattle.std.proofs.lemmas.Bool.{cases_Bool, cases_eq, cases_lt}
use Rattle.twp_measure.specs.Areas.{Fraction}
use Rattle.twp_grid.specs.Spans.{total}
use Rattle.twp_grid.specs.Lands.{Layout, LieWithin, Lotting, lotting, no_places}
use Rattle.twp_grid.proofs.TotalFacts.{total-all_zero, total-both, total-next, total-scale}
use Rattle.twp_land.proofs.LandRanges.{nothing_within}
use Rattle.twp_plat.specs.LotAreas.{HasFigures, IsFirstLacking, IsLotArea, Lacks, count_off_lots}
use Rattle.twp_plat.specs.LotAreas.{units_of_lots}
use Rattle.twp_plat.specs.steps.Bounds.{REGULAR_PLACE_UNITS}
use Rattle.twp_plat.specs.steps.LackingSteps.{IsFirstLackingIn}
use Rattle.twp_plat.specs.steps.SectionUnits.{section_units}
use Rattle.twp_plat.proofs.ContainedLots.{empty_has, empty_units, total-rest}

-- the units of the sections before a number, no lot of which is lacking
pub record AreSummed (lots : Lotting) (figure : ℕ → ℕ → ℕ) (places : ℕ → ℕ → ℕ → Bool) (number units : ℕ)
    : Type 0 where
  pub units_are : units ≡ total (number - 1) (λ before. section_units lots figure places (before + 1))
  pub figures : (section lot : ℕ) → section < number → ¬ Lacks lots figure places section lot

-- the set contains nothing in other sections than those of its range
outside : (places : ℕ → ℕ → ℕ → Bool) (first last section : ℕ) → LieWithin places first last
    → (section < first) ⊎ (last < section) → (c r : ℕ) → places section c r ≡ false
outside places first last section within out c r = elim (cases_Bool (places section c r)) [
  | inr free ↦ free
  | inl held ↦
      let lies = within section c r held in
      elim out [
        | inl before ↦ absurd (omega (arith, lies.0, before))
        | inr after ↦ absurd (omega (arith, lies.1, after))
      ]
]

pub sum-first : (lots : Lotting) (figure : ℕ → ℕ → ℕ) (places : ℕ → ℕ → ℕ → Bool) (first last : ℕ)
    → LieWithin places first last → AreSummed lots figure places first 0
sum-first lots figure places first last within = record {
  units_are =
      sym
      (total-all_zero (first - 1) _ (λ before below.
      empty_units lots figure places (before + 1)
      (outside places first last (before + 1) within (inl (omega (arith, below))))));
  figures = λ section lot below.
      empty_has lots figure places section lot (outside places first last section within (inl below));
}

pub sum-next : (lots : Lotting) (figure : ℕ → ℕ → ℕ) (places : ℕ → ℕ → ℕ → Bool)
    (number section units more : ℕ)
    → 1 ≤ number → section ≡ number → AreSummed lots figure places number units
    → more ≡ section_units lots figure places section
    → ((lot : ℕ) → ¬ Lacks lots figure places section lot)
    → AreSummed lots figure places (number + 1) (units + more)
sum-next lots figure places number section units more first is so_far added has = record {
  units_are =
      let back : number - 1 + 1 ≡ section = omega (arith, first, is) in
      let count : number + 1 - 1 ≡ number - 1 + 1 = omega (arith, first) in
      let next = total-next (number - 1) (λ before. section_units lots figure places (before + 1)) in
      let last : section_units lots figure places (number - 1 + 1)
      ≡ section_units lots figure places section =
      ap (λ s. section_units lots figure places s) back in
      rw count (omega (arith, next, last, added, so_far.units_are));
  figures = λ other lot below lacks. elim (cases_lt other number) [
    | inl before ↦ so_far.figures other lot before lacks
    | inr here ↦
        let same : other ≡ section = omega (arith, below, here, is) in
        has lot (rw same at lacks)
  ];
}

-- the sum over all sections is the land's area
pub lot_area : (layout : Layout) (figure : ℕ → ℕ → ℕ) (places : ℕ → ℕ → ℕ → Bool)
    (first last number units : ℕ)
    (area : Fraction) → LieWithin places first last → last < number → number ≤ 37
    → AreSummed (lotting layout) figure places number units → area ≡ record { units = units; over = 1 }
    → IsLotArea (lotting layout) figure places area
lot_area layout figure places first last number units area within past most summed area_is =
    rw area_is (record { share = REGULAR_PLACE_UNITS; share_is = refl; over_is = refl; sum_is = sums })
  where
    lots : Lotting
    lots = lotting layout

    sums : units ≡ total 36 (λ before. units_of_lots (lotting layout) figure places (before + 1))
        + REGULAR_PLACE_UNITS * total 36 (λ before. count_off_lots (lotting layout) places (before + 1))
    sums =
        summed.units_are
        ∙ sym
        (total-rest (number - 1) 36 (λ before. section_units (lotting layout) figure places (before + 1))
        (omega (arith, most)) (λ before from _.
        empty_units (lotting layout) figure places (before + 1)
        (outside places first last (before + 1) within (inr (omega (arith, from, past))))))
        ∙ total-both 36 (λ before. units_of_lots (lotting layout) figure places (before + 1))
        (λ before. REGULAR_PLACE_UNITS * count_off_lots (lotting layout) places (before + 1))
        ∙ ap (λ t. total 36 (λ before. units_of_lots (lotting layout) figure places (before + 1)) + t)
        (total-scale 36 REGULAR_PLACE_UNITS (λ before. count_off_lots (lotting layout) places (before + 1)))

pub all_have : (lots : Lotting) (figure : ℕ → ℕ → ℕ) (places : ℕ → ℕ → ℕ → Bool) (first last number units : ℕ)
    → LieWithin places first last → last < number → AreSummed lots figure places number units
    → HasFigures lots figure places
all_have lots figure places first last number units within past summed section lot =
    elim (cases_lt section number) [
      | inl before ↦ summed.figures section lot before
      | inr after ↦
          empty_has lots figure places section lot
          (outside places first last section within (inr (omega (arith, after, past))))
    ]

-- the first lot that is lacking in a section is the first of all if no earlier section lacks any
pub first_lacking : (lots : Lotting) (figure : ℕ → ℕ → ℕ) (places : ℕ → ℕ → ℕ → Bool)
    (number units section found lot : ℕ) → section ≡ number → AreSummed lots figure places number units
    → IsFirstLackingIn lots figure places section found lot → IsFirstLacking lots figure places found lot
first_lacking lots figure places number units section found lot is summed next = record {
  lacks = rw next.here next.lacks;
  first = λ other lot' lacks. elim (cases_lt other number) [
    | inl before ↦ absurd (summed.figures other lot' before lacks)
    | inr from ↦ elim (cases_eq section other) [
      | inl same ↦ inr (next.here ∙ same, next.first lot' (rw (sym same) at lacks))
      | inr apart ↦ inl (omega (arith, next.here, is, from, apart))
    ]
  ];
}

-- the set is empty
pub none_summed : (lots : Lotting) (figure : ℕ → ℕ → ℕ) (places : ℕ → ℕ → ℕ → Bool) → places ≡ no_places
    → AreSummed lots figure places 37 0
none_summed lots figure places none = sum-first lots figure places 37 36 (nothing_within places 37 36 none)
