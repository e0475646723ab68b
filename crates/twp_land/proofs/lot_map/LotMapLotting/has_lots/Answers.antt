use Rattle.std.proofs.Common.{◌≡◌, refl, subst, inl, inr, arith}
use Rattle.std.proofs.lemmas.Bool.{cases_lt}
use Rattle.twp_grid.specs.Lands.{HasLot, lotting}
use Rattle.twp_land.specs.LotMaps.{layout_of_bytes}
use Rattle.twp_land.proofs.lot_map.LotMapLotting.has_lots.Goals as goal

pub loop-number-preserved : goal.loop-number-preserved
loop-number-preserved c = record {
  have = λ lot least less. elim (cases_lt lot c.loop-number.number) [
    | inl before ↦ c.loop-number.invariant.have lot least before
    | inr last ↦
        let same : c.loop-number.number ≡ lot = omega (arith, last, less) in
        subst
        (λ n.
        HasLot (lotting (layout_of_bytes c.args.self.now.positions c.args.self.now.divided)) c.args.section n)
        same (c.if-not-has_lot.ensures.0 refl)
  ];
}
