use Rattle.std.proofs.Common.{map, refl}
use Rattle.twp_grid.specs.Lands.{lotting}
use Rattle.twp_rules.specs.Changes.{seen}
use Rattle.twp_suggest.specs.Closed.{IsWayGiven}
use Rattle.twp_suggest.proofs.PlainFacts.{is_shared}
use Rattle.twp_suggest.proofs.closed.are_given.Goals as goal

pub returns-then-is_plain : goal.returns-then-is_plain
returns-then-is_plain g c = λ _.
    let ampersand = rw c.as_slice.ensures.value at c.if-is_plain.ensures.ampersand in
    record {
      turned = c.in_ok-is_turned.ensures c.if-not-is_turned.false;
      shared = λ _.
          is_shared
          (IsWayGiven (lotting (g.P.Lotting.layout c.args.lots.now)) c.args.readings.now c.args.own.now
          c.args.made.now)
          c.args.text.now
          c.args.made.now (map seen c.args.own.now.changes.items) (ampersand refl)
          (c.if-is_plain.ensures.plain refl);
    }
