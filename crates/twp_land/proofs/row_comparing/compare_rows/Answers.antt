-- One more section, in which neither set has a place, or which contains part of a lot, or neither.
use Rattle.std.proofs.Common.{◌≡◌, ℕ, ◌+◌, ◌*◌, [], get_or, refl, sym, subst, arith}
use Rattle.twp_grid.specs.Winding.{IsSection}
use Rattle.twp_land.specs.Storage.{held_by_lane, land_of_rows}
use Rattle.twp_land.proofs.LandFacts.{kept_at}
use Rattle.twp_land.proofs.LotFacts.{section_is}
use Rattle.twp_land.proofs.LotSections.{whole_of_none, whole_next, whole_part}
use Rattle.twp_land.proofs.RelationFacts.{both_empty, relates_first, relates_next, relates_skip, relates_all}
use Rattle.twp_land.proofs.RelationFacts.{RelatesTo}
use Rattle.twp_land.proofs.row_comparing.compare_rows.Goals as goal

pub loop-tier-init : goal.loop-tier-init
loop-tier-init c = record {
  relates = relates_first held_by_lane c.args.rows.now c.args.other.now;
  whole = λ section lot least below. absurd (omega arith);
  whole_other = λ section lot least below. absurd (omega arith);
}

pub loop-place-init : goal.loop-place-init
loop-place-init c =
    let at = c.loop-tier.invariant in
    let here : 6 * c.loop-tier.tier ≡ 6 * c.loop-tier.tier + 0 = omega arith in
    record {
      relates = subst (λ n.
          RelatesTo n c.loop-tier.relation (land_of_rows c.args.rows.now) (land_of_rows c.args.other.now))
          here
          at.relates;
      whole = λ section lot least below. at.whole section lot least (omega (arith, below));
      whole_other = λ section lot least below. at.whole_other section lot least (omega (arith, below));
    }

pub loop-place-preserved-then-are_empty : goal.loop-place-preserved-then-are_empty
loop-place-preserved-then-are_empty c =
    let at = c.loop-place.invariant in
    let index : ℕ = 6 * c.loop-tier.tier + c.loop-place.place in
    let part : held_by_lane (get_or c.args.rows.now index []) ≡ land_of_rows c.args.rows.now (index + 1) =
    sym (kept_at held_by_lane c.args.rows.now index [] (omega arith) (omega arith)) in
    let other : held_by_lane (get_or c.args.other.now index []) ≡ land_of_rows c.args.other.now (index + 1) =
    sym (kept_at held_by_lane c.args.other.now index [] (omega arith) (omega arith)) in
    let none = c.are_empty.ensures.0 c.if-are_empty.true in
    let empty = both_empty _ _ none in
    let next : index + 1 ≡ 6 * c.loop-tier.tier + (c.loop-place.place + 1) = omega arith in
    let whole =
    whole_next (land_of_rows c.args.rows.now) index at.whole
    (whole_part (index + 1) (index + 1) (held_by_lane (get_or c.args.rows.now index []))
    (land_of_rows c.args.rows.now (index + 1)) refl part
    (λ lot. whole_of_none (index + 1) lot _ empty.0)) in
    let whole_other =
    whole_next (land_of_rows c.args.other.now) index at.whole_other
    (whole_part (index + 1) (index + 1) (held_by_lane (get_or c.args.other.now index []))
    (land_of_rows c.args.other.now (index + 1)) refl other
    (λ lot. whole_of_none (index + 1) lot _ empty.1)) in
    record {
      relates = subst (λ n.
          RelatesTo n c.loop-place.relation (land_of_rows c.args.rows.now) (land_of_rows c.args.other.now))
          next
          (relates_skip (land_of_rows c.args.rows.now) (land_of_rows c.args.other.now) index
          c.loop-place.relation _ _ part other none at.relates);
      whole = λ section lot least below. whole section lot least (omega (arith, below));
      whole_other = λ section lot least below. whole_other section lot least (omega (arith, below));
    }

pub returns-then-not-take_section : goal.returns-then-not-take_section
returns-then-not-take_section c = λ whole.
    let index : ℕ = 6 * c.loop-tier.tier + c.loop-place.place in
    let range : IsSection (index + 1) = (omega arith, omega arith) in
    let is : c.unwrap-section.result ≡ index + 1 =
    section_is (index + 1) c.unwrap-section.result _ c.new.ensures c.unwrap-section.ensures in
    let part : held_by_lane (get_or c.args.rows.now index []) ≡ land_of_rows c.args.rows.now (index + 1) =
    sym (kept_at held_by_lane c.args.rows.now index [] (omega arith) (omega arith)) in
    let other : held_by_lane (get_or c.args.other.now index []) ≡ land_of_rows c.args.other.now (index + 1) =
    sym (kept_at held_by_lane c.args.other.now index [] (omega arith) (omega arith)) in
    let here =
    whole_part (index + 1) c.unwrap-section.result (land_of_rows c.args.rows.now (index + 1))
    (held_by_lane (get_or c.args.rows.now index [])) (sym is) (sym part)
    (λ lot. whole.0 (index + 1) lot range) in
    let there =
    whole_part (index + 1) c.unwrap-section.result (land_of_rows c.args.other.now (index + 1))
    (held_by_lane (get_or c.args.other.now index [])) (sym is) (sym other)
    (λ lot. whole.1 (index + 1) lot range) in
    cc (c.take_section.ensures.whole.1 (here, there), c.if-not-take_section.true)

pub loop-place-preserved : goal.loop-place-preserved
loop-place-preserved c =
    let at = c.loop-place.invariant in
    let index : ℕ = 6 * c.loop-tier.tier + c.loop-place.place in
    let is : c.unwrap-section.result ≡ index + 1 =
    section_is (index + 1) c.unwrap-section.result _ c.new.ensures c.unwrap-section.ensures in
    let part : held_by_lane (get_or c.args.rows.now index []) ≡ land_of_rows c.args.rows.now (index + 1) =
    sym (kept_at held_by_lane c.args.rows.now index [] (omega arith) (omega arith)) in
    let other : held_by_lane (get_or c.args.other.now index []) ≡ land_of_rows c.args.other.now (index + 1) =
    sym (kept_at held_by_lane c.args.other.now index [] (omega arith) (omega arith)) in
    let both = c.take_section.ensures.whole.0 c.if-not-take_section.false in
    let next : index + 1 ≡ 6 * c.loop-tier.tier + (c.loop-place.place + 1) = omega arith in
    let whole =
    whole_next (land_of_rows c.args.rows.now) index at.whole
    (whole_part c.unwrap-section.result (index + 1) (held_by_lane (get_or c.args.rows.now index []))
    (land_of_rows c.args.rows.now (index + 1)) is part both.0) in
    let whole_other =
    whole_next (land_of_rows c.args.other.now) index at.whole_other
    (whole_part c.unwrap-section.result (index + 1) (held_by_lane (get_or c.args.other.now index []))
    (land_of_rows c.args.other.now (index + 1)) is other both.1) in
    record {
      relates = subst (λ n.
          RelatesTo n c.take_section.new.relation (land_of_rows c.args.rows.now)
          (land_of_rows c.args.other.now))
          next
          (relates_next (land_of_rows c.args.rows.now) (land_of_rows c.args.other.now) index
          c.loop-place.relation c.take_section.new.relation _ _ part other c.take_section.ensures.contains
          c.take_section.ensures.is_contained c.take_section.ensures.shares at.relates);
      whole = λ section lot least below. whole section lot least (omega (arith, below));
      whole_other = λ section lot least below. whole_other section lot least (omega (arith, below));
    }

pub loop-tier-preserved : goal.loop-tier-preserved
loop-tier-preserved c =
    let at = c.loop-place.invariant in
    let next : 6 * c.loop-tier.tier + c.loop-place.place ≡ 6 * (c.loop-tier.tier + 1) = omega arith in
    record {
      relates = subst (λ n.
          RelatesTo n c.loop-place.relation (land_of_rows c.args.rows.now) (land_of_rows c.args.other.now))
          next
          at.relates;
      whole = λ section lot least below. at.whole section lot least (omega (arith, below));
      whole_other = λ section lot least below. at.whole_other section lot least (omega (arith, below));
    }

pub returns : goal.returns
returns c =
    let at = c.loop-tier.invariant in (
      (
        λ section lot range. at.whole section lot range.0 (omega (arith, range.1)),
        λ section lot range. at.whole_other section lot range.0 (omega (arith, range.1)),
      ),
      c.comparison.ensures (land_of_rows c.args.rows.now) (land_of_rows c.args.other.now)
          (relates_all held_by_lane c.args.rows.now c.args.other.now (6 * c.loop-tier.tier)
          c.loop-tier.relation
          (omega arith) at.relates),
    )
