-- The areas of combined land add up.
use Rattle.std.proofs.Common.{◌≡◌, ℕ, ◌+◌, ◌*◌, ◌||◌, ◌&&◌, not, Bool, true, false, ap, refl, sym}
use Rattle.std.proofs.Common.{subst, ◌∙◌, arith, if◌then◌else◌}
use Rattle.std.proofs.Math.Path.{fun_ext}
use Rattle.std.specs.Prelude.{sum_by}
use Rattle.twp_measure.specs.Areas.{Fraction}
use Rattle.twp_grid.specs.Places.{position_along}
use Rattle.twp_grid.specs.Lands.{union, intersection, difference}
use Rattle.twp_grid.specs.Lands.{HasWholeLots}
use Rattle.twp_grid.specs.Lands.{standard_lots}
use Rattle.twp_land.proofs.CombinedLots.{combined_lots_are_whole}
use Rattle.twp_plat.specs.Plats.{SurveyPlat}
use Rattle.twp_plat.proofs.RatioFacts.{cancelled}
use Rattle.twp_plat.specs.LandAreas.{places_of_position, piece_where_held, township_sum}
use Rattle.twp_plat.specs.LandAreaLaws.{AreDisjoint, UnionAndIntersectionAdd, DifferenceAndIntersectionAdd}
use Rattle.twp_plat.specs.PlatAccounts.{IsPlatArea, printed_units, lots_held, places_off_lots}
use Rattle.twp_plat.specs.PlatAccountLaws.{PlatUnionAndIntersectionAdd, PlatDifferenceAndIntersectionAdd}
use Rattle.twp_plat.proofs.AreaLaws.{township-ext, township-both, one_sum, some_places}
use Rattle.twp_plat.proofs.PlatLaws.{one_plat_area, disjoint_plat_areas_add}

-- the pieces of a set's places
abbrev pieces_where : ℕ → (ℕ → ℕ → ℕ → ℕ) → (ℕ → ℕ → ℕ → Bool) → ℕ → ℕ → ℕ → ℕ
pieces_where g pieces places section = piece_where_held g (pieces section) (places section)

pub union_and_intersection_sums : (g : ℕ) (pieces : ℕ → ℕ → ℕ → ℕ) (places more : ℕ → ℕ → ℕ → Bool)
    → township_sum g pieces (union places more) + township_sum g pieces (intersection places more)
    ≡ township_sum g pieces places + township_sum g pieces more
union_and_intersection_sums g pieces places more =
    sym (township-both g (pieces_where g pieces (union places more))
    (pieces_where g pieces (intersection places more)))
    ∙ township-ext g
    (λ section column row.
    pieces_where g pieces (union places more) section column row
    + pieces_where g pieces (intersection places more) section column row)
    (λ section column row.
    pieces_where g pieces places section column row + pieces_where g pieces more section column row)
    (λ section column row range in_column in_row.
    at (places section column row) (more section column row)
    (pieces section (position_along g column) (position_along g row)))
    ∙ township-both g (pieces_where g pieces places) (pieces_where g pieces more)
  where
    at : (a b : Bool) (p : ℕ) → (if a || b then p else 0) + (if a && b then p else 0)
        ≡ (if a then p else 0) + (if b then p else 0)
    at true true p = refl
    at true false p = refl
    at false true p = omega arith
    at false false p = refl

pub difference_and_intersection_sums : (g : ℕ) (pieces : ℕ → ℕ → ℕ → ℕ) (places more : ℕ → ℕ → ℕ → Bool)
    → township_sum g pieces (difference places more) + township_sum g pieces (intersection places more)
    ≡ township_sum g pieces places
difference_and_intersection_sums g pieces places more =
    sym (township-both g (pieces_where g pieces (difference places more))
    (pieces_where g pieces (intersection places more)))
    ∙ township-ext g
    (λ section column row.
    pieces_where g pieces (difference places more) section column row
    + pieces_where g pieces (intersection places more) section column row)
    (pieces_where g pieces places)
    (λ section column row range in_column in_row.
    at (places section column row) (more section column row)
    (pieces section (position_along g column) (position_along g row)))
  where
    at : (a b : Bool) (p : ℕ) → (if a && not b then p else 0) + (if a && b then p else 0)
        ≡ (if a then p else 0)
    at true true p = omega arith
    at true false p = omega arith
    at false true p = refl
    at false false p = refl

pub union_and_intersection_add : UnionAndIntersectionAdd
union_and_intersection_add g fits plat places more first second either both is is' is-either is-both =
    let n : ℕ = places_of_position g in
    let of_more = one_sum g fits plat more is.pieces is'.pieces is.are is'.are in
    let of_either = one_sum g fits plat (union places more) is.pieces is-either.pieces is.are is-either.are in
    let of_both =
    one_sum g fits plat (intersection places more) is.pieces is-both.pieces is.are is-both.are in
    let sums = union_and_intersection_sums g is.pieces places more in
    cancelled (either.units + both.units) (first.units + second.units) n (some_places g fits)
    (four n either.units both.units first.units second.units _ _ _ _ (is-either.sum_is ∙ sym of_either)
    (is-both.sum_is ∙ sym of_both) is.sum_is (is'.sum_is ∙ sym of_more) sums)
  where
    four : (n e b f s E B F S : ℕ) → n * e ≡ E → n * b ≡ B → n * f ≡ F → n * s ≡ S → E + B ≡ F + S
        → (e + b) * n ≡ (f + s) * n
    four n e b f s E B F S is is' is'' is''' sums = omega arith

pub difference_and_intersection_add : DifferenceAndIntersectionAdd
difference_and_intersection_add g fits plat places more first rest both is is-rest is-both =
    let n : ℕ = places_of_position g in
    let of_rest =
    one_sum g fits plat (difference places more) is.pieces is-rest.pieces is.are is-rest.are in
    let of_both =
    one_sum g fits plat (intersection places more) is.pieces is-both.pieces is.are is-both.are in
    let sums = difference_and_intersection_sums g is.pieces places more in
    cancelled (rest.units + both.units) first.units n (some_places g fits)
    (three n rest.units both.units first.units _ _ _ (is-rest.sum_is ∙ sym of_rest)
    (is-both.sum_is ∙ sym of_both) is.sum_is sums)
  where
    three : (n r b f R B F : ℕ) → n * r ≡ R → n * b ≡ B → n * f ≡ F → R + B ≡ F → (r + b) * n ≡ f * n
    three n r b f R B F is is' is'' sums = omega arith

-- a set is what it has without another and what they share
parts : (places more : ℕ → ℕ → ℕ → Bool)
    → union (difference places more) (intersection places more) ≡ places
parts places more = fun_ext (λ section. fun_ext (λ column. fun_ext (λ row.
    at (places section column row) (more section column row))))
  where
    at : (a b : Bool) → ((a && not b) || (a && b)) ≡ a
    at true true = refl
    at true false = refl
    at false b = refl

-- two sets together are what the first has without the second, and the second
together : (places more : ℕ → ℕ → ℕ → Bool) → union (difference places more) more ≡ union places more
together places more = fun_ext (λ section. fun_ext (λ column. fun_ext (λ row.
    at (places section column row) (more section column row))))
  where
    at : (a b : Bool) → ((a && not b) || b) ≡ (a || b)
    at true true = refl
    at true false = refl
    at false b = refl

-- the rest of a set shares no place with the other one
apart : (places more : ℕ → ℕ → ℕ → Bool) → AreDisjoint (difference places more) more
apart places more section column row = at (places section column row) (more section column row)
  where
    at : (a b : Bool) → (a && not b) ≡ true → b ≡ true → ⊥
    at true true is is' = cc is
    at true false is is' = cc is'
    at false b is is' = cc is

apart_from_shared : (places more : ℕ → ℕ → ℕ → Bool)
    → AreDisjoint (difference places more) (intersection places more)
apart_from_shared places more section column row = at (places section column row) (more section column row)
  where
    at : (a b : Bool) → (a && not b) ≡ true → (a && b) ≡ true → ⊥
    at true true is is' = cc is
    at true false is is' = cc is'
    at false b is is' = cc is

-- the plat area of what a set has without another
abbrev rest_by : (g : ℕ) (plat : SurveyPlat) (places more : ℕ → ℕ → ℕ → Bool) (first : Fraction)
    → IsPlatArea g plat places first → Fraction
rest_by g plat places more first is = record {
  units = sum_by (printed_units is.figures) (lots_held g (difference places more))
      + is.share * places_off_lots g (difference places more);
  over = 1;
}

rest_is : (g : ℕ) (plat : SurveyPlat) (places more : ℕ → ℕ → ℕ → Bool) (first : Fraction)
    (is : IsPlatArea g plat places first)
    → IsPlatArea g plat (difference places more) (rest_by g plat places more first is)
rest_is g plat places more first is = record {
  figures = is.figures;
  are = is.are;
  share = is.share;
  share_is = is.share_is;
  over_is = refl;
  sum_is = refl;
}

-- with any plat area of the rest
shared_and_rest : (g : ℕ) (plat : SurveyPlat) (places more : ℕ → ℕ → ℕ → Bool) (first rest both : Fraction)
    → HasWholeLots (standard_lots g) places → HasWholeLots (standard_lots g) more
    → IsPlatArea g plat places first → IsPlatArea g plat (difference places more) rest
    → IsPlatArea g plat (intersection places more) both → rest.units + both.units ≡ first.units
shared_and_rest g plat places more first rest both whole whole' is is-rest is-both =
    let wholes = combined_lots_are_whole (standard_lots g) places more whole whole' in
    let added =
    disjoint_plat_areas_add g plat (difference places more) (intersection places more) rest both wholes.2
    wholes.1 (apart_from_shared places more) is-rest is-both in
    let sum : Fraction = record { units = rest.units + both.units; over = rest.over } in
    let all : IsPlatArea g plat places sum =
    subst (λ p. IsPlatArea g plat p sum) (parts places more) added in
    ap (λ (f : Fraction). f.units) (one_plat_area g plat places sum first all is)

pub plat_difference_and_intersection_add : PlatDifferenceAndIntersectionAdd
plat_difference_and_intersection_add g plat places more first rest both whole whole' is is-rest is-both =
    shared_and_rest g plat places more first rest both whole whole' is is-rest is-both

pub plat_union_and_intersection_add : PlatUnionAndIntersectionAdd
plat_union_and_intersection_add g plat places more first second either both whole whole' is is' is-either
    is-both =
    let wholes = combined_lots_are_whole (standard_lots g) places more whole whole' in
    let rest = rest_by g plat places more first is in
    let of_rest = rest_is g plat places more first is in
    let added =
    disjoint_plat_areas_add g plat (difference places more) more rest second wholes.2 whole'
    (apart places more) of_rest is' in
    let sum : Fraction = record { units = rest.units + second.units; over = rest.over } in
    let all : IsPlatArea g plat (union places more) sum =
    subst (λ p. IsPlatArea g plat p sum) (together places more) added in
    let one : rest.units + second.units ≡ either.units =
    ap (λ (f : Fraction). f.units) (one_plat_area g plat (union places more) sum either all is-either) in
    let two = shared_and_rest g plat places more first rest both whole whole' is of_rest is-both in
    add either.units both.units first.units second.units rest.units one two
  where
    add : (e b f s r : ℕ) → r + s ≡ e → r + b ≡ f → e + b ≡ f + s
    add e b f s r one two = omega arith
