-- The part in one more section with lots, and all sections with lots.
use Rattle.std.proofs.Common.{◌≡◌, ℕ, ◌+◌, ◌-◌, [], get_or, ap, refl, sym, ◌∙◌, inl, inr, arith}
use Rattle.std.proofs.lemmas.Bool.{cases_lt}
use Rattle.twp_grid.specs.Winding.{IsSection}
use Rattle.twp_grid.specs.Lands.{IsWholeOrNot}
use Rattle.twp_grid.specs.Lands.{STANDARD_LOTS}
use Rattle.twp_land.specs.Storage.{held_by_lane, land_of_rows}
use Rattle.twp_land.proofs.LandFacts.{kept_at}
use Rattle.twp_land.proofs.LotFacts.{section_is}
use Rattle.twp_land.proofs.LotSections.{lot_sections, is_lot_section, whole_if_in_each, whole_part}
use Rattle.twp_land.proofs.lots.lots_whole.Goals as goal

pub returns-then-not-holds_whole_lots : goal.returns-then-not-holds_whole_lots
returns-then-not-holds_whole_lots c =
    let number : ℕ = get_or lot_sections c.loop-at.at 0 in
    let range : IsSection number = is_lot_section c.loop-at.at (omega arith) in
    let back : number - 1 + 1 ≡ number = omega (arith, range.0) in
    let is : c.unwrap-section.result ≡ number =
    section_is number c.unwrap-section.result _ c.new.ensures c.unwrap-section.ensures in
    let part : held_by_lane (get_or c.args.rows.now (number - 1) []) ≡ land_of_rows c.args.rows.now number =
    sym (kept_at held_by_lane c.args.rows.now (number - 1) [] (omega (arith, range.1)) (omega arith))
    ∙ ap (λ n. land_of_rows c.args.rows.now n) back in (
      λ h. cc h,
      λ whole.
          let here =
          whole_part number c.unwrap-section.result (land_of_rows c.args.rows.now number)
          (held_by_lane (get_or c.args.rows.now (number - 1) [])) (sym is) (sym part)
          (λ lot. whole number lot range) in
          absurd
          (cc ((rw c.from.ensures at c.holds_whole_lots.ensures).1 here, c.if-not-holds_whole_lots.true)),
    )

pub loop-at-preserved : goal.loop-at-preserved
loop-at-preserved c =
    let number : ℕ = get_or lot_sections c.loop-at.at 0 in
    let range : IsSection number = is_lot_section c.loop-at.at (omega arith) in
    let back : number - 1 + 1 ≡ number = omega (arith, range.0) in
    let is : c.unwrap-section.result ≡ number =
    section_is number c.unwrap-section.result _ c.new.ensures c.unwrap-section.ensures in
    let part : held_by_lane (get_or c.args.rows.now (number - 1) []) ≡ land_of_rows c.args.rows.now number =
    sym (kept_at held_by_lane c.args.rows.now (number - 1) [] (omega (arith, range.1)) (omega arith))
    ∙ ap (λ n. land_of_rows c.args.rows.now n) back in
    let here : (lot : ℕ) → IsWholeOrNot STANDARD_LOTS number lot (land_of_rows c.args.rows.now number) =
    whole_part c.unwrap-section.result number (held_by_lane (get_or c.args.rows.now (number - 1) []))
    (land_of_rows c.args.rows.now number) is part
    ((rw c.from.ensures at c.holds_whole_lots.ensures).0 c.if-not-holds_whole_lots.false) in
    λ at lot below. elim (cases_lt at c.loop-at.at) [
      | inl before ↦ c.loop-at.invariant at lot before
      | inr last ↦ let same : at ≡ c.loop-at.at = omega arith in rw same (here lot)
    ]

pub returns : goal.returns
returns c = (
  λ _. whole_if_in_each (land_of_rows c.args.rows.now) (λ at lot below.
      c.loop-at.invariant at lot (omega (arith, below))),
  λ _. refl,
)
