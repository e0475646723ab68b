-- Number by number, the lots that the land meets are added.
use Rattle.std.proofs.Common.{ℕ, ◌+◌, refl, arith}
use Rattle.std.proofs.lemmas.Bool.{false≢true}
use Rattle.twp_grid.specs.Lands.{HasLot, IsLotHeld, lotting}
use Rattle.twp_spell.proofs.HeldFacts.{lot_of_held}
use Rattle.twp_spell.proofs.SpellingFacts.{below_next, below_none, below_skip, below_more, below_all}
use Rattle.twp_spell.proofs.spelling.held_lots.Goals as goal

pub loop-number-init : goal.loop-number-init
loop-number-init g c =
    let plan = lotting (g.P.Lotting.layout c.args.lots.now) in
    let held = g.L.PlaceSet.places c.args.land.now c.args.section in
    record {
      most = omega arith;
      listed =
          rw c.new-held.ensures.items
          (below_none (IsLotHeld plan c.args.section held) 1 (λ n it.
          let lot = lot_of_held plan c.args.section held n it in
          ((g.met.P.Lotting.lots c.args.lots.now).numbered c.args.section n lot.0 lot.1 lot.2).0));
    }

pub loop-number-preserved-in_ok-push : goal.loop-number-preserved-in_ok-push
loop-number-preserved-in_ok-push g c =
    let plan = lotting (g.P.Lotting.layout c.args.lots.now) in
    let held = g.L.PlaceSet.places c.args.land.now c.args.section in
    let lot = c.in-Some.ensures.has in
    let before =
    below_next plan c.args.section (IsLotHeld plan c.args.section held) c.loop-number.last c.in-Some.number
    c.loop-number.held.items (λ n it. lot_of_held plan c.args.section held n it) c.in-Some.ensures
    c.loop-number.invariant.listed in
    record {
      most =
          ((g.met.P.Lotting.lots c.args.lots.now).numbered c.args.section c.in-Some.number lot.0 lot.1
          lot.2).1;
      listed =
          rw c.in_ok-push.ensures.items
          (below_more (IsLotHeld plan c.args.section held) c.in-Some.number c.loop-number.held.items before
          (c.meets_lot.ensures.0 c.if-meets_lot.true));
    }

pub loop-number-preserved : goal.loop-number-preserved
loop-number-preserved g c =
    let plan = lotting (g.P.Lotting.layout c.args.lots.now) in
    let held = g.L.PlaceSet.places c.args.land.now c.args.section in
    let lot = c.in-Some.ensures.has in
    let before =
    below_next plan c.args.section (IsLotHeld plan c.args.section held) c.loop-number.last c.in-Some.number
    c.loop-number.held.items (λ n it. lot_of_held plan c.args.section held n it) c.in-Some.ensures
    c.loop-number.invariant.listed in
    record {
      most =
          ((g.met.P.Lotting.lots c.args.lots.now).numbered c.args.section c.in-Some.number lot.0 lot.1
          lot.2).1;
      listed =
          below_skip (IsLotHeld plan c.args.section held) c.in-Some.number c.loop-number.held.items before
          (λ it. false≢true (c.if-meets_lot.ensures.1 it));
    }

pub returns : goal.returns
returns g c =
    let plan = lotting (g.P.Lotting.layout c.args.lots.now) in
    let held = g.L.PlaceSet.places c.args.land.now c.args.section in
    below_all (IsLotHeld plan c.args.section held) (c.loop-number.last + 1) c.loop-number.held.items
    c.loop-number.invariant.listed
    (λ n it. omega (arith, c.in_default.ensures n (lot_of_held plan c.args.section held n it)))
