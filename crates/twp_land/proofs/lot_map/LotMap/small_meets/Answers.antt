-- One byte decides, or each place does.
use Rattle.std.proofs.Common.{◌≡◌, refl, inl, inr, arith}
use Rattle.std.proofs.lemmas.Bool.{cases_lt, false≢true}
use Rattle.twp_land.proofs.SectionMarks.{inside_of, range_of, small_marked}
use Rattle.twp_land.proofs.lot_map.LotMap.small_meets.Goals as goal

pub returns-then-position-le-NO_LAND : goal.returns-then-position-le-NO_LAND
returns-then-position-le-NO_LAND c =
    let self = c.args.self.now in
    rw c.is_between.ensures
    (small_marked self.positions self.divided c.args.section c.args.least c.args.most
    c.position-position.result c.place_number.result c.args.block c.column.ensures.dyadic c.row.ensures.dyadic
    c.requires.width c.requires.height
    (rw (c.place_number.ensures.number, c.column.ensures.value, c.row.ensures.value) refl)
    c.position-position.ensures c.if-position-le-NO_LAND.true)

pub returns-then-row_meets : goal.returns-then-row_meets
returns-then-row_meets c =
    let found = c.if-row_meets.ensures.0 refl in (
      λ _. record {
        column = found.0;
        row = c.loop-row.row;
        inside =
            inside_of c.args.block found.0 c.loop-row.row
            (omega (arith, found.1, c.column-2.ensures.value))
            (omega (arith, found.2, c.column-3.ensures.value, c.width.ensures.value))
            (omega (arith, c.loop-row.auto.row, c.row-row.ensures.value))
            (omega (arith, c.loop-row-test.true, c.row-2.ensures.value, c.height.ensures.value));
        is_held = found.3;
      },
      λ _. refl,
    )

pub loop-row-preserved : goal.loop-row-preserved
loop-row-preserved c = record {
  none = λ column row least less least' less'. elim (cases_lt row c.loop-row.row) [
    | inl before ↦ c.loop-row.invariant.none column row least less least' before
    | inr last ↦
        let same : c.loop-row.row ≡ row = omega (arith, last, less') in
        λ is. absurd
        (false≢true (c.if-row_meets.ensures.1 (column, least, less, rw same is)))
  ];
}

pub returns : goal.returns
returns c = (
  λ no. absurd (false≢true no),
  λ met.
      let range = range_of c.args.block met.column met.row met.inside in
      absurd
      (c.loop-row.invariant.none met.column met.row (omega (arith, range.0, c.column-2.ensures.value))
      (omega (arith, range.1, c.column-3.ensures.value, c.width.ensures.value)) range.2
      (omega (arith, range.3, c.loop-row-test.false, c.row-2.ensures.value, c.height.ensures.value))
      met.is_held),
)
