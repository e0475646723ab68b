-- A figure more is appended if something is entered for the next lot.
use Rattle.std.proofs.Common.{◌≡◌, ◌∙◌, arith, refl, subst}
use Rattle.std.proofs.lemmas.List.{get_or-set_other, length-set}
use Rattle.twp_grid.proofs.TotalFacts.{total-zero}
use Rattle.twp_plat.proofs.lots.Among.{AreAppended, appended_beyond, appended_more, appended_none}
use Rattle.twp_plat.proofs.lots.Among.{appended_rest, appended_skip}
use Rattle.twp_plat.proofs.lots.EnteredSections.{counted_more, counted_most, counted_rest, counted_skip}
use Rattle.twp_plat.proofs.lots.EnteredSections.{entered_one}
use Rattle.twp_plat.proofs.lots.returned.append.Goals as goal
use Rattle.twp_plat.proofs.lots.returned.append.Goals.{then-entered-index-ne0+else-end-eq-RETURNED_MOST}
use Rattle.twp_plat.proofs.lots.returned.append.Goals.{else-entered-index-ne0}

pub loop-index-init : goal.loop-index-init
loop-index-init c = record {
  long = (c.told-figures, c.told-numbers);
  from = omega arith;
  most = omega (arith, c.requires);
  count = let none = total-zero (entered_one c.args.entered.now) in omega (arith, none);
  before = λ k d less. refl;
  numbers_before = λ k d less. refl;
  appended = appended_none c.args.figures.now c.args.numbers.now c.args.entered.now c.args.used;
}

pub returns-then-end-eq-RETURNED_MOST : goal.returns-then-end-eq-RETURNED_MOST
returns-then-end-eq-RETURNED_MOST c =
    let more =
    counted_most c.args.entered.now c.loop-index.index
    (omega (arith, c.loop-index-test.true, c.last_entered-index-end.ensures.most))
    c.if-entered-index-ne0.true in
    omega (arith, more, c.loop-index.invariant.count, c.if-end-eq-RETURNED_MOST.true)

pub loop-index-preserved : goal.loop-index-preserved
loop-index-preserved c =
    let so_far = c.loop-index.invariant in
    let entered = c.args.entered.now in
    elim c.if-entered-index-ne0.branch [
      | then-entered-index-ne0+else-end-eq-RETURNED_MOST w ↦
          let some = w.if-entered-index-ne0.true in
          let room = w.if-end-eq-RETURNED_MOST.false in
          let counted = counted_more entered c.loop-index.index some in
          rw (w.figures-is, w.numbers-is, w.end-is)
          (record {
            long = (
              length-set c.loop-index.figures c.loop-index.end _ ∙ so_far.long.0,
              length-set c.loop-index.numbers c.loop-index.end _ ∙ so_far.long.1,
            );
            from = omega (arith, so_far.from);
            most = omega (arith, so_far.most, room);
            count = omega (arith, so_far.count, counted);
            before = λ k d less.
                get_or-set_other c.loop-index.figures c.loop-index.end k _ d
                (λ same. absurd (omega (arith, same, less, so_far.from)))
                ∙ so_far.before k d less;
            numbers_before = λ k d less.
                get_or-set_other c.loop-index.numbers c.loop-index.end k _ d
                (λ same. absurd (omega (arith, same, less, so_far.from)))
                ∙ so_far.numbers_before k d less;
            appended =
                appended_more c.loop-index.figures c.loop-index.numbers entered c.args.used c.loop-index.end
                c.loop-index.index so_far.from (omega (arith, so_far.long.0, so_far.most, room))
                (omega (arith, so_far.long.1, so_far.most, room)) some so_far.appended;
          })
      | else-entered-index-ne0 w ↦
          let none = w.if-entered-index-ne0.false in
          let counted = counted_skip entered c.loop-index.index none in
          rw (w.figures-is, w.numbers-is, w.end-is)
          (record {
            long = so_far.long;
            from = so_far.from;
            most = so_far.most;
            count = omega (arith, so_far.count, counted);
            before = so_far.before;
            numbers_before = so_far.numbers_before;
            appended =
                appended_skip c.loop-index.figures c.loop-index.numbers entered c.args.used c.loop-index.end
                c.loop-index.index none so_far.appended;
          })
    ]

pub returns : goal.returns
returns c =
    let so_far = c.loop-index.invariant in
    let figures = c.loop-index.figures in
    let numbers = c.loop-index.numbers in
    let entered = c.args.entered.now in
    let last = c.last_entered-index-end.result in
    let rest = c.last_entered-index-end.ensures.rest in
    let all : c.loop-index.index ≡ last =
    omega (arith, c.loop-index-test.false, c.loop-index.auto.index-end) in
    let appended =
    subst (λ i. AreAppended figures numbers entered c.args.used c.loop-index.end i) all so_far.appended in
    let counted = counted_rest entered last c.last_entered-index-end.ensures.most rest in
    let count = rw all at so_far.count in (
      omega (arith, count, counted),
      so_far.most,
      record {
        before = so_far.before;
        numbers_before = so_far.numbers_before;
        appended = λ number some _. appended_rest figures numbers entered c.args.used c.loop-index.end last
            appended rest number some;
        beyond = λ number more.
            appended_beyond figures numbers entered c.args.used c.loop-index.end last appended number
            (omega (arith, more, c.last_entered-index-end.ensures.most));
      },
    )
