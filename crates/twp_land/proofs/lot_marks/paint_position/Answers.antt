-- The places of a position are numbered one after another.
use Rattle.std.proofs.Common.{◌≡◌, ◌+◌, ◌-◌, ◌*◌, get_or, ap, refl, sym, ◌∙◌, arith}
use Rattle.twp_land.proofs.TilePaint.{position_painted, position_taken}
use Rattle.twp_land.proofs.lot_marks.paint_position.Goals as goal

pub returns-then-has_marks-clause-taken : goal.returns-then-has_marks-clause-taken
returns-then-has_marks-clause-taken c _ =
    let found = c.if-has_marks.ensures.marked refl in
    position_taken c.args.column c.args.row found.0 c.args.marks.now c.requires.column c.requires.row found.1
    (λ none. found.2 (rw c.from-first.ensures none))

pub returns-clause-painted : goal.returns-clause-painted
returns-clause-painted c _ =
    let at = c.loop-within.invariant in
    let first : c.from-first.result * 64 ≡ (c.args.row * 4 + c.args.column) * 64 =
    omega (arith, c.from-first.ensures) in
    position_painted c.args.column c.args.row c.args.mark c.args.marks.now c.loop-within.marks
    c.requires.column
    (λ number least less.
    let here : c.from-first.result * 64 + (number - c.from-first.result * 64) ≡ number =
    omega (arith, first, least) in
    ap (λ n. get_or c.args.marks.now n 0) (sym here)
    ∙ c.if-has_marks.ensures.free refl (number - c.from-first.result * 64)
    (omega (arith, first, least, less)))
    (λ number least less. at.painted number (omega (arith, first, least))
    (omega (arith, first, less, c.loop-within-test.false)))
    (λ number less. at.before number (omega (arith, first, less)))
    (λ number past. at.after number (omega (arith, first, past, c.loop-within.auto.within-end)))
