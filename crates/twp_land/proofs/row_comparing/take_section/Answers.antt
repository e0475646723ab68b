-- The parts of the sets are those of the lanes. A section without lots contains part of none.
use Rattle.std.proofs.Common.{◌≡◌, ℕ, Bool, refl, inl, inr, arith}
use Rattle.std.proofs.lemmas.Bool.{cases_lt}
use Rattle.twp_grid.specs.Lots.{number_of_lots}
use Rattle.twp_grid.specs.Lands.{STANDARD_LOTS, IsWholeOrNot}
use Rattle.twp_grid.specs.Winding.{IsSection}
use Rattle.twp_land.specs.Storage.{held_by_lane}
use Rattle.twp_land.proofs.LotFacts.{no_such_lot}
use Rattle.twp_land.proofs.RelationFacts.{contains_as}
use Rattle.twp_land.proofs.row_comparing.take_section.Goals as goal

no_lots : (s lot : ℕ) (held : ℕ → ℕ → Bool) → IsSection s → number_of_lots s ≡ 0
    → IsWholeOrNot STANDARD_LOTS s lot held
no_lots s lot held range few = no_such_lot s lot held range (elim (cases_lt lot 1) [
  | inl below ↦ inl below
  | inr above ↦ inr (omega arith)
])

pub returns-then-lot_count-eq0-clause-whole : goal.returns-then-lot_count-eq0-clause-whole
returns-then-lot_count-eq0-clause-whole c =
    let few : number_of_lots c.args.section ≡ 0 =
    omega (arith, c.lot_count.ensures.count, c.if-lot_count-eq0.true) in (
      λ _. (
        λ lot. no_lots c.args.section lot (held_by_lane c.args.lanes.now) c.lot_count.ensures.section few,
        λ lot. no_lots c.args.section lot (held_by_lane c.args.other.now) c.lot_count.ensures.section few,
      ),
      λ _. refl,
    )

pub returns-then-lot_count-eq0-clause-contains : goal.returns-then-lot_count-eq0-clause-contains
returns-then-lot_count-eq0-clause-contains c =
    contains_as c.add.new.self.contains c.args.relation.now.contains
    (held_by_lane c.of_lanes-plot.result.lanes) (held_by_lane c.args.lanes.now)
    (held_by_lane c.of_lanes-more.result.lanes) (held_by_lane c.args.other.now) c.of_lanes-plot.ensures
    c.of_lanes-more.ensures
    c.add.ensures.contains

pub returns-then-lot_count-eq0-clause-is_contained :
    goal.returns-then-lot_count-eq0-clause-is_contained
returns-then-lot_count-eq0-clause-is_contained c =
    contains_as c.add.new.self.is_contained c.args.relation.now.is_contained
    (held_by_lane c.of_lanes-more.result.lanes) (held_by_lane c.args.other.now)
    (held_by_lane c.of_lanes-plot.result.lanes) (held_by_lane c.args.lanes.now) c.of_lanes-more.ensures
    c.of_lanes-plot.ensures
    c.add.ensures.is_contained

pub returns-then-not-has_whole_lots-clause-contains : goal.returns-then-not-has_whole_lots-clause-contains
returns-then-not-has_whole_lots-clause-contains c =
    contains_as c.add.new.self.contains c.args.relation.now.contains
    (held_by_lane c.of_lanes-plot.result.lanes) (held_by_lane c.args.lanes.now)
    (held_by_lane c.of_lanes-more.result.lanes) (held_by_lane c.args.other.now) c.of_lanes-plot.ensures
    c.of_lanes-more.ensures
    c.add.ensures.contains

pub returns-then-not-has_whole_lots-clause-is_contained :
    goal.returns-then-not-has_whole_lots-clause-is_contained
returns-then-not-has_whole_lots-clause-is_contained c =
    contains_as c.add.new.self.is_contained c.args.relation.now.is_contained
    (held_by_lane c.of_lanes-more.result.lanes) (held_by_lane c.args.other.now)
    (held_by_lane c.of_lanes-plot.result.lanes) (held_by_lane c.args.lanes.now) c.of_lanes-more.ensures
    c.of_lanes-plot.ensures
    c.add.ensures.is_contained

pub returns-clause-contains : goal.returns-clause-contains
returns-clause-contains c =
    contains_as c.add.new.self.contains c.args.relation.now.contains
    (held_by_lane c.of_lanes-plot.result.lanes) (held_by_lane c.args.lanes.now)
    (held_by_lane c.of_lanes-more.result.lanes) (held_by_lane c.args.other.now) c.of_lanes-plot.ensures
    c.of_lanes-more.ensures
    c.add.ensures.contains

pub returns-clause-is_contained : goal.returns-clause-is_contained
returns-clause-is_contained c =
    contains_as c.add.new.self.is_contained c.args.relation.now.is_contained
    (held_by_lane c.of_lanes-more.result.lanes) (held_by_lane c.args.other.now)
    (held_by_lane c.of_lanes-plot.result.lanes) (held_by_lane c.args.lanes.now) c.of_lanes-more.ensures
    c.of_lanes-plot.ensures
    c.add.ensures.is_contained
