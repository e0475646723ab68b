-- Section by section, the positions get their bytes, or keep the byte 0 if none of their places has a mark.
use Rattle.std.proofs.Common.{◌≡◌, ℕ, ◌+◌, ◌*◌, get_or, [], refl, ap, subst, sym, ◌∙◌, arith}
use Rattle.twp_land.specs.steps.Dividing.{AreDivided}
use Rattle.twp_land.proofs.DividingFacts.{all_divided, clear_divided, few_divided, none_divided, zeros}
use Rattle.twp_land.proofs.dividing.map_of_marks.Goals as goal
use Rattle.twp_land.proofs.dividing.map_of_marks.Goals.{then-has_marks+in-Some, else-has_marks}

pub loop-index-init : goal.loop-index-init
loop-index-init c = record {
  long = refl;
  so_far = none_divided c.args.marks.now.sections _ _;
  none = λ i _. zeros 576 i;
}

pub loop-index-preserved : goal.loop-index-preserved
loop-index-preserved c =
    let sections = c.args.marks.now.sections in
    let index = c.loop-index.index in
    let before = c.loop-index.invariant in
    record {
      long = elim c.if-has_marks.branch [
        | then-has_marks+in-Some w ↦ rw w.positions-is w.add_section.array_long
        | else-has_marks w ↦ rw w.positions-is before.long
      ];
      so_far = elim c.if-has_marks.branch [
        | then-has_marks+in-Some w ↦ rw (w.used-is, w.positions-is, w.divided-is) w.in-Some.ensures.sections
        | else-has_marks w ↦
            let clear : (number : ℕ) → get_or (get_or sections index []) number 0 ≡ 0 = λ number.
            ap (λ s. get_or s number 0) (sym c.section.ensures)
            ∙ c.has_marks.ensures w.if-has_marks.false number in
            let next : index * 16 + 16 ≡ (index + 1) * 16 = omega arith in
            rw (w.used-is, w.positions-is, w.divided-is)
            (subst
            (λ i. AreDivided sections i c.loop-index.used c.loop-index.positions c.loop-index.divided) next
            (clear_divided sections index c.loop-index.used c.loop-index.positions c.loop-index.divided
            before.so_far clear before.none))
      ];
      none = λ i after. elim c.if-has_marks.branch [
        | then-has_marks+in-Some w ↦
            rw w.positions-is
            (w.add_section.ensures.others i 0 after ∙ before.none i (omega (arith, after)))
        | else-has_marks w ↦ rw w.positions-is (before.none i (omega (arith, after)))
      ];
    }

pub returns : goal.returns
returns c =
    let all : c.loop-index.index * 16 ≡ 576 =
    omega (arith, c.loop-index-test.false, c.loop-index.auto.index-end) in
    let so_far =
    subst
    (λ i.
    AreDivided c.args.marks.now.sections i c.loop-index.used c.loop-index.positions c.loop-index.divided)
    all
    c.loop-index.invariant.so_far in (
      few_divided c.args.marks.now.sections c.loop-index.used c.loop-index.positions c.loop-index.divided
          so_far,
      rw (c.new.ensures.positions, c.new.ensures.divided)
          (all_divided c.args.marks.now.sections c.loop-index.used c.loop-index.positions
          c.loop-index.divided so_far),
    )
