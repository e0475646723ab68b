-- The overlaps of a list, one pair more at a time.
use Rattle.std.proofs.Common.{◌≡◌, ◌⊎◌, ℕ, ◌+◌, ◌<◌, List, [], ◌∷◌, ◌++◌, length, get_or, Option, Some}
use Rattle.std.proofs.Common.{None}
use Rattle.std.proofs.Common.{ap, refl, sym, ◌∙◌, inl, inr, subst, arith, Bool, ◌&&◌}
use Rattle.std.proofs.lemmas.List.{length_push}
use Rattle.std.proofs.Math.ListN.{get_or-append}
use Rattle.std.proofs.Math.Seq.{get_or-append_seam}
use Rattle.twp_grid.specs.Townships.{Designation}
use Rattle.twp_grid.specs.Lands.{HasWholeLots, Lotting, SharePlace, intersection}
use Rattle.twp_notes.specs.Records.{Fields, record_at}
use Rattle.twp_answers.specs.Answers.{IsNoDescription}
use Rattle.twp_answers.specs.Overlaps.{AreOverlapping, AreOverlaps, IsOverlapBefore, IsBetween, IsListed}
use Rattle.twp_answers.specs.Overlaps.{IsSharedAcres, Measure}
use Rattle.twp_answers.specs.Tracts.{IsTract, description_in}
use Rattle.twp_answers.specs.declared.overlaps.TractOverlap.{TractOverlap}
use Rattle.twp_answers.specs.steps.OverlapTaking.{AreFoundTo, AreLandsTo, IsEarlier, IsFoundBefore}
use Rattle.twp_answers.specs.steps.OverlapTaking.{IsLandOfRecord}
use Rattle.twp_answers.specs.steps.OverlapTaking.{HasSharedPlaces, HasWholeLand, NotesOverlap, overlap_of}
use Rattle.std.specs.Prelude.{MatchOption}
use Rattle.std.specs.List.{All}
use Rattle.twp_grid.specs.declared.refusal.Refusal.{Refusal}
use Rattle.twp_answers.specs.steps.OverlapTaking.{IsTractLand}
use Rattle.twp_answers.proofs.OneAnswer.{not_described, one_land}
use Rattle.twp_answers.proofs.TractLands.{earlier_or_last}

-- one more land
pub lands_next : {L : Type 0} (places : L → ℕ → ℕ → ℕ → Bool) (lots : Lotting) (township : Designation)
    (rows : List Fields)
    (count : ℕ) (lands : List (Option L)) (land : Option L) → AreLandsTo places lots township rows count lands
    → IsLandOfRecord places lots township (record_at rows count) land
    → AreLandsTo places lots township rows (count + 1) (lands ++ land ∷ [])
lands_next places lots township rows count lands land before here = record {
  count_is = rw (length_push lands land) (omega (arith, before.count_is));
  each = λ index default below. elim (earlier_or_last count index below) [
    | inl earlier ↦
        rw (get_or-append lands (land ∷ []) default index (omega (arith, before.count_is)))
        (before.each index default earlier)
    | inr next ↦
        let last : get_or (lands ++ land ∷ []) index default ≡ land =
        ap (λ i. get_or (lands ++ land ∷ []) i default) (next ∙ sym before.count_is)
        ∙ get_or-append_seam lands land [] default in
        rw (last, next) here
  ];
}

-- the places in both of two lands with whole lots
pub whole_in_both : (lots : Lotting) (places more : ℕ → ℕ → ℕ → Bool) → HasWholeLots lots places
    → HasWholeLots lots more → HasWholeLots lots (intersection places more)
whole_in_both lots places more whole other = λ section lot range. record {
  alike = λ column row column' row' lies lies' i.
      (whole section lot range).alike column row column' row' lies lies' i
      && (other section lot range).alike column row column' row' lies lies' i;
}

-- two tracts that share a place, and the acres of the places in both
pub shared_acres : {Acres : Type 0} (by : Measure Acres) (fields other : Fields)
    (places more : ℕ → ℕ → ℕ → Bool)
    (acres : Acres) → IsTractLand by.lots by.township fields places
    → IsTractLand by.lots by.township other more
    → SharePlace places more → by.are_acres (intersection places more) acres
    → IsSharedAcres by fields other acres
shared_acres by fields other places more acres one two shared are = record {
  are = record {
    is_first = one.is_record;
    is_second = two.is_record;
    overlap = record {
      places = places;
      more = more;
      land = one.land;
      other_land = two.land;
      shared = shared;
    };
  };
  acres_are = are;
}

-- two tracts whose land shares no place
pub apart : (lots : Lotting) (township : Designation) (fields other : Fields) (places more : ℕ → ℕ → ℕ → Bool)
    → IsTractLand lots township fields places → IsTractLand lots township other more
    → ¬ SharePlace places more
    → AreOverlapping lots township fields other → ⊥
apart lots township fields other places more one two none are =
    let first =
    one_land lots township (description_in fields) are.overlap.places places are.overlap.land
    one.land in
    let second =
    one_land lots township (description_in other) are.overlap.more more are.overlap.other_land
    two.land in
    none (subst (λ p. SharePlace p more) first
    (subst (λ m. SharePlace are.overlap.places m) second are.overlap.shared))

-- a record that is no tract overlaps none
pub no_first : (lots : Lotting) (township : Designation) (fields other : Fields)
    → ¬ IsTract lots township fields
    → AreOverlapping lots township fields other → ⊥
no_first lots township fields other none are =
    none (record { is_record = are.is_first; places = are.overlap.places; land = are.overlap.land })

pub no_second : (lots : Lotting) (township : Designation) (fields other : Fields)
    → ¬ IsTract lots township other
    → AreOverlapping lots township fields other → ⊥
no_second lots township fields other none are =
    none (record { is_record = are.is_second; places = are.overlap.more; land = are.overlap.other_land })

whole_land : {L : Type 0} (places : L → ℕ → ℕ → ℕ → Bool) (lots : Lotting) (township : Designation)
    (fields : Fields)
    (land : Option L) → IsLandOfRecord places lots township fields land → HasWholeLand lots places land
whole_land places lots township fields None is = tt
whole_land places lots township fields (Some land) is = is.whole

-- the places in both of two lands, as the overlap of their tracts
pub as_overlap : {Acres : Type 0} (by : Measure Acres) (fields other : Fields)
    (places more : ℕ → ℕ → ℕ → Bool)
    (found : Option Acres) → IsTractLand by.lots by.township fields places
    → IsTractLand by.lots by.township other more
    → MatchOption found (¬ SharePlace places more) (HasSharedPlaces by places more)
    → MatchOption found (¬ AreOverlapping by.lots by.township fields other) (IsSharedAcres by fields other)
as_overlap by fields other places more None one two none =
    apart by.lots by.township fields other places more one two none
as_overlap by fields other places more (Some acres) one two has =
    shared_acres by fields other places more acres one two has.shared has.acres_are

-- a tract's description that is refused names no land
pub no_tract : (lots : Lotting) (township : Designation) (fields : Fields) (description : List ℕ)
    (inner : Refusal)
    → description ≡ description_in fields → IsNoDescription lots township description inner
    → ¬ IsTract lots township fields
no_tract lots township fields description inner same none = λ is.
    not_described lots township (description_in fields) inner is.places
    (subst (λ d. IsNoDescription lots township d inner) same none) is.land

-- each land has whole lots
pub whole_lands : {L : Type 0} (places : L → ℕ → ℕ → ℕ → Bool) (lots : Lotting) (township : Designation)
    (rows : List Fields)
    (lands : List (Option L)) → AreLandsTo places lots township rows (length rows) lands
    → All (HasWholeLand lots places) lands
whole_lands places lots township rows lands are = λ k d below.
    whole_land places lots township (record_at rows k) (get_or lands k d)
    (are.each k d (omega (arith, are.count_is, below)))

-- what is listed stays listed
listed_still : {Acres : Type 0} (first second : ℕ) (overlaps : List (TractOverlap Acres))
    (one : TractOverlap Acres)
    → IsListed first second overlaps → IsListed first second (overlaps ++ one ∷ [])
listed_still first second overlaps one listed = record {
  index = listed.index;
  within = rw (length_push overlaps one) (omega (arith, listed.within));
  between = λ default.
      rw (get_or-append overlaps (one ∷ []) default listed.index listed.within) (listed.between default);
}

listed_last : {Acres : Type 0} (first second : ℕ) (overlaps : List (TractOverlap Acres))
    (one : TractOverlap Acres)
    → IsBetween first second one
    → IsListed first second (overlaps ++ one ∷ [])
listed_last first second overlaps one between = record {
  index = length overlaps;
  within = rw (length_push overlaps one) (omega arith);
  between = λ default. rw (get_or-append_seam overlaps one [] default) between;
}

-- pairs before these two tracts, and the two themselves, are before the next two
later_first : (f s first second : ℕ) → IsEarlier f s first second → IsEarlier f s (first + 1) second
later_first f s first second (inl less) = inl less
later_first f s first second (inr (same, less)) = inr (same, omega arith)

earlier_or_these : (f s first second : ℕ) → IsEarlier f s (first + 1) second
    → IsEarlier f s first second ⊎ ((f ≡ first) × (s ≡ second))
earlier_or_these f s first second (inl less) = inl (inl less)
earlier_or_these f s first second (inr (same, less)) = elim (earlier_or_last first f less) [
  | inl before ↦ inl (inr (same, before))
  | inr here ↦ inr (here, same)
]

found_still : {Acres : Type 0} (by : Measure Acres) (rows : List Fields) (first second : ℕ)
    (given : TractOverlap Acres)
    → IsFoundBefore by rows first second given → IsFoundBefore by rows (first + 1) second given
found_still by rows first second given found = record {
  first = found.first;
  second = found.second;
  order = found.order;
  earlier = later_first found.first found.second first second found.earlier;
  between = found.between;
  shared = found.shared;
}

-- before any pair
pub none_found : {Acres : Type 0} (by : Measure Acres) (rows : List Fields)
    (overlaps : List (TractOverlap Acres))
    → overlaps ≡ []
    → AreFoundTo by rows 0 0 overlaps
none_found by rows overlaps none = rw none (record {
  each = λ k d below. absurd (omega arith);
  all = λ first second order earlier are. absurd (before first second earlier);
  order = λ index later default less below. absurd (omega arith);
})
  where
    before : (first second : ℕ) → IsEarlier first second 0 0 → ⊥
    before first second (inl less) = omega arith
    before first second (inr (same, less)) = omega arith

module _ {Acres : Type 0} (by : Measure Acres) (rows : List Fields) (first second : ℕ)
    (overlaps : List (TractOverlap Acres))
    (before : AreFoundTo by rows first second overlaps) where
  -- these two don't overlap
  pub skipped : (AreOverlapping by.lots by.township (record_at rows first) (record_at rows second) → ⊥)
      → AreFoundTo by rows (first + 1) second overlaps
  skipped none = record {
    each = λ k d below. found_still by rows first second (get_or overlaps k d) (before.each k d below);
    all = λ f s order earlier are. elim (earlier_or_these f s first second earlier) [
      | inl known ↦ before.all f s order known are
      | inr here ↦ absurd (none (rw (← here.0, ← here.1) are))
    ];
    order = before.order;
  }

  -- the one of them that was found last comes after the others
  comes_last : (given one : TractOverlap Acres) → IsFoundBefore by rows first second given
      → IsBetween first second one → IsOverlapBefore given one
  comes_last given one found between = elim found.earlier [
    | inl less ↦ inl (omega (arith, found.between.second_is, between.second_is, less))
    | inr here ↦
        inr (
          omega (arith, found.between.second_is, between.second_is, here.0),
          omega (arith, found.between.first_is, between.first_is, here.1),
        )
  ]

  -- these two overlap
  pub added : (one : TractOverlap Acres) → first < second → IsBetween first second one
      → IsSharedAcres by (record_at rows first) (record_at rows second) one.acres
      → AreFoundTo by rows (first + 1) second (overlaps ++ one ∷ [])
  added one less between shared = record {
    each = λ k d below. elim (in_longer k below) [
      | inl earlier ↦
          rw (get_or-append overlaps (one ∷ []) d k earlier)
          (found_still by rows first second (get_or overlaps k d) (before.each k d earlier))
      | inr last ↦
          rw (last, get_or-append_seam overlaps one [] d) (record {
            first = first;
            second = second;
            order = less;
            earlier = inr (refl, omega arith);
            between = between;
            shared = shared;
          })
    ];
    all = λ f s order earlier are. elim (earlier_or_these f s first second earlier) [
      | inl known ↦ listed_still f s overlaps one (before.all f s order known are)
      | inr here ↦ rw (here.0, here.1) (listed_last first second overlaps one between)
    ];
    order = λ index later d ahead below. elim (in_longer later below) [
      | inl earlier ↦
          rw (
            get_or-append overlaps (one ∷ []) d index (omega (arith, ahead, earlier)),
            get_or-append overlaps (one ∷ []) d later earlier,
          )
          (before.order index later d ahead earlier)
      | inr last ↦
          rw (
            get_or-append overlaps (one ∷ []) d index (omega (arith, ahead, last)),
            last,
            get_or-append_seam overlaps one [] d,
          )
          (comes_last (get_or overlaps index d) one (before.each index d (omega (arith, ahead, last)))
          between)
    ];
  }
    where
      in_longer : (k : ℕ) → k < length (overlaps ++ one ∷ []) → (k < length overlaps) ⊎ (k ≡ length overlaps)
      in_longer k below = earlier_or_last (length overlaps) k (rw (← length_push overlaps one) below)

-- these two were compared
pub compared : {Acres : Type 0} (by : Measure Acres) (rows : List Fields) (first second : ℕ)
    (old new : List (TractOverlap Acres))
    (found : Option Acres) → AreFoundTo by rows first second old → first < second
    → MatchOption found (¬ AreOverlapping by.lots by.township (record_at rows first) (record_at rows second))
    (IsSharedAcres by (record_at rows first) (record_at rows second))
    → NotesOverlap first second found old new → AreFoundTo by rows (first + 1) second new
compared by rows first second old new None before less none same =
    rw same (skipped by rows first second old before none)
compared by rows first second old new (Some acres) before less shared same =
    rw same (added by rows first second old before (overlap_of first second acres) less
    (record { first_is = refl; second_is = refl }) shared)

-- all pairs with this later tract were compared
pub next_second : {Acres : Type 0} (by : Measure Acres) (rows : List Fields) (second : ℕ)
    (overlaps : List (TractOverlap Acres))
    → AreFoundTo by rows second second overlaps → AreFoundTo by rows 0 (second + 1) overlaps
next_second by rows second overlaps before = record {
  each = λ k d below.
      let found = before.each k d below in
      record {
        first = found.first;
        second = found.second;
        order = found.order;
        earlier = inl (at_most found.first found.second found.earlier);
        between = found.between;
        shared = found.shared;
      };
  all = λ f s order earlier are. before.all f s order (back f s order earlier) are;
  order = before.order;
}
  where
    at_most : (f s : ℕ) → IsEarlier f s second second → s < second + 1
    at_most f s (inl less) = omega arith
    at_most f s (inr (same, less)) = omega arith

    back : (f s : ℕ) → f < s → IsEarlier f s 0 (second + 1) → IsEarlier f s second second
    back f s order (inl less) = elim (earlier_or_last second s less) [
      | inl before ↦ inl before
      | inr same ↦ inr (same, omega arith)
    ]
    back f s order (inr (same, less)) = absurd (omega arith)

-- all pairs were compared
pub all_found : {Acres : Type 0} (by : Measure Acres) (rows : List Fields) (count : ℕ)
    (overlaps : List (TractOverlap Acres))
    → count ≡ length rows → AreFoundTo by rows 0 count overlaps → AreOverlaps by rows overlaps
all_found by rows count overlaps all found = record {
  each = λ k d below.
      let one = found.each k d below in
      record {
        first = one.first;
        second = one.second;
        earlier = one.order;
        within = within one.first one.second one.earlier;
        between = one.between;
        shared = one.shared;
      };
  all = λ first second order below are. found.all first second order (inl (omega (arith, all, below))) are;
  order = found.order;
}
  where
    within : (f s : ℕ) → IsEarlier f s 0 count → s < length rows
    within f s (inl less) = omega (arith, all, less)
    within f s (inr (same, less)) = absurd (omega arith)
