-- Lot by lot, the set grows by the places of a lot that shares none with those before.
use Rattle.std.proofs.Common.{sym, ◌∙◌, arith}
use Rattle.twp_grid.specs.Lands.{lotting}
use Rattle.twp_resolve.proofs.RangeFacts.{no_lots}
use Rattle.twp_diagnose.proofs.SectionLotFacts.{all_filled, lot_filled}
use Rattle.twp_diagnose.proofs.section_lots.fill_with_lots.Goals as goal

pub loop-number-init : goal.loop-number-init
loop-number-init g c = record {
  most = omega arith;
  filled =
      c.clear.ensures
      ∙ sym (no_lots (lotting (g.P.Lotting.layout c.args.lots.now)) c.args.section 1 0 (omega arith));
}

pub add_lot-requires-clause-room : goal.add_lot-requires-clause-room
add_lot-requires-clause-room g c = g.met.L.Land.roomy c.loop-number.land c.args.section

pub add_lot-requires-clause-lot : goal.add_lot-requires-clause-lot
add_lot-requires-clause-lot g c = c.in-Some.ensures.has

pub loop-number-preserved : goal.loop-number-preserved
loop-number-preserved g c =
    let has = c.in-Some.ensures.has in
    let numbered =
    (g.met.P.Lotting.lots c.args.lots.now).numbered c.args.section c.in-Some.number has.0 has.1 has.2 in
    record {
      most = numbered.1;
      filled =
          lot_filled (lotting (g.P.Lotting.layout c.args.lots.now)) c.args.section c.loop-number.last
          c.in-Some.number c.add_lot.result _ _ numbered.0 c.in-Some.ensures c.loop-number.invariant.filled
          c.add_lot.ensures.places c.add_lot.ensures.met;
    }

pub returns : goal.returns
returns g c =
    c.loop-number.invariant.filled
    ∙ all_filled (lotting (g.P.Lotting.layout c.args.lots.now)) c.args.section c.loop-number.last
    (g.met.P.Lotting.lots c.args.lots.now) c.loop-number.invariant.most c.in_default.ensures
