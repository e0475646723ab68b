use Rattle.twp_land.proofs.CompareFacts.{same_of_both}
use Rattle.twp_land.proofs.comparing.compare.Goals as goal

pub returns-then-same : goal.returns-then-same
returns-then-same g c = c.same.ensures.0 c.if-same.true

pub returns-then-holds_land : goal.returns-then-holds_land
returns-then-holds_land g c = (
  c.holds_land.ensures.0 c.if-holds_land.true,
  λ contained. cc (
    c.same.ensures.1 (same_of_both _ _ (c.holds_land.ensures.0 c.if-holds_land.true) contained),
    c.if-same.false,
  ),
)

pub returns-then-holds_land-2 : goal.returns-then-holds_land-2
returns-then-holds_land-2 g c = (
  c.holds_land-2.ensures.0 c.if-holds_land-2.true,
  λ contains. cc (c.holds_land.ensures.1 contains, c.if-holds_land.false),
)

pub returns-then-meets_land : goal.returns-then-meets_land
returns-then-meets_land g c = (
  c.meets_land.ensures.0 c.if-meets_land.true,
  λ contains. cc (c.holds_land.ensures.1 contains, c.if-holds_land.false),
  λ contained. cc (c.holds_land-2.ensures.1 contained, c.if-holds_land-2.false),
)

pub returns : goal.returns
returns g c = (
  λ shared. cc (c.meets_land.ensures.1 shared, c.if-meets_land.false),
  λ contains. cc (c.holds_land.ensures.1 contains, c.if-holds_land.false),
  λ contained. cc (c.holds_land-2.ensures.1 contained, c.if-holds_land-2.false),
)
