use Rattle.std.proofs.Common.{◌≡◌, true, refl, arith}
use Rattle.std.proofs.lemmas.Bool.{false≢true}
use Rattle.twp_grid.specs.Spans.{in_rectangle}
use Rattle.twp_land.specs.steps.Marked.{marked}
use Rattle.twp_land.proofs.MarkedLoops.{each_next}
use Rattle.twp_land.proofs.lot_map.LotMap.search_block.Goals as goal

pub returns-then-share_place : goal.returns-then-share_place
returns-then-share_place c =
    let shared = c.if-share_place.ensures.0 refl in (
      λ _. record {
        column = shared.column;
        row = shared.row;
        inside = shared.inside;
        is_held = c.in-Some.ensures.next.is_set shared.column shared.row shared.is_held;
      },
      λ _. refl,
    )

pub loop-found-preserved : goal.loop-found-preserved
loop-found-preserved c =
    let self = c.args.self.now in
    record {
      none =
          each_next (marked self.positions self.divided c.args.section c.args.least c.args.most)
          c.loop-found.from (λ column row. ¬ (in_rectangle c.args.block column row ≡ true))
          c.in-Some.found.block c.in-Some.found.end c.in-Some.ensures.next c.loop-found.invariant.none
          (λ column row inside in_block. false≢true
          (c.if-share_place.ensures.1
          (record { column = column; row = row; inside = in_block; is_held = inside })));
    }

pub returns-then-found-last : goal.returns-then-found-last
returns-then-found-last c =
    let self = c.args.self.now in (
      λ no. absurd (false≢true no),
      λ met.
          let most = c.last_place-last.ensures met.column met.row met.inside in
          absurd
          (each_next (marked self.positions self.divided c.args.section c.args.least c.args.most)
          c.loop-found.from (λ column row. ¬ (in_rectangle c.args.block column row ≡ true))
          c.in-Some.found.block c.in-Some.found.end c.in-Some.ensures.next c.loop-found.invariant.none
          (λ column row inside in_block. false≢true
          (c.if-share_place.ensures.1
          (record { column = column; row = row; inside = in_block; is_held = inside })))
          met.column met.row met.is_held (omega (arith, most, c.if-found-last.true)) met.inside),
    )
