-- Position by position, the byte is that of all its places, or of the next divided position.
use Rattle.std.proofs.Common.{◌≡◌, ◌+◌, ◌*◌, ◌%◌, ◌/◌, ◌<◌, get_or, length, set, min, [], refl, ap, subst}
use Rattle.std.proofs.Common.{sym, ◌∙◌, arith}
use Rattle.std.proofs.lemmas.List.{get_or-set_other}
use Rattle.std.proofs.lemmas.Bool.Decides.{nat_tests}
use Rattle.twp_land.specs.steps.Dividing.{AreDivided}
use Rattle.twp_land.proofs.DividingFacts.{alike_divided, alike_there, first_there, mark_there, more_divided}
use Rattle.twp_land.proofs.DividingFacts.{too_many}
use Rattle.twp_land.proofs.dividing.add_section.Goals as goal
use Rattle.twp_land.proofs.dividing.add_section.Goals.{then-are_alike}
use Rattle.twp_land.proofs.dividing.add_section.Goals.{else-are_alike+else-used-eq-DIVIDED_MOST}

pub loop-position-init : goal.loop-position-init
loop-position-init c =
    let first : c.args.index * 16 ≡ c.args.index * 16 + 0 = omega arith in
    record {
      long = c.told-positions;
      so_far =
          subst
          (λ i. AreDivided c.args.marks.now.sections i c.args.before c.args.positions.now c.args.divided.now)
          first c.requires.before;
      others = λ i d after. refl;
    }

pub returns-then-used-eq-DIVIDED_MOST-clause-sections : goal.returns-then-used-eq-DIVIDED_MOST-clause-sections
returns-then-used-eq-DIVIDED_MOST-clause-sections c =
    let sections = c.args.marks.now.sections in
    let index = c.args.index in
    let position = c.loop-position.position in
    too_many sections (index * 16 + position) c.loop-position.used c.loop-position.positions
    c.loop-position.divided (omega (arith, c.requires.index, c.loop-position-test.true))
    (grind (arith, nat_tests, c.if-used-eq-DIVIDED_MOST.true)) c.loop-position.invariant.so_far
    (alike_there sections c.section-section.result.now index position c.loop-position-test.true
    c.section-section.ensures
    ∙ sym c.are_alike.ensures
    ∙ c.if-are_alike.false)

pub loop-position-preserved : goal.loop-position-preserved
loop-position-preserved c =
    let sections = c.args.marks.now.sections in
    let section = c.section-section.result.now in
    let index = c.args.index in
    let position = c.loop-position.position in
    let few = c.loop-position-test.true in
    let below = c.requires.index in
    let so_far = c.loop-position.invariant in
    let next : index * 16 + position + 1 ≡ index * 16 + (position + 1) = omega arith in
    let fits : index * 16 + position < length c.loop-position.positions =
    omega (arith, so_far.long, few, below) in
    let alike = alike_there sections section index position few c.section-section.ensures in
    record {
      long = c.if-are_alike.array_long;
      so_far = elim c.if-are_alike.branch [
        | then-are_alike w ↦
            let byte
            : min (get_or (get_or sections ((index * 16 + position) / 16) [])
            ((index * 16 + position) % 16 * 64) 0) 100 ≡ w.at_most.result =
            ap (λ m. min m 100) (first_there sections section index position few c.section-section.ensures)
            ∙ sym w.at_most.ensures in
            rw (w.used-is, w.positions-is, w.divided-is)
            (subst
            (λ i. AreDivided sections i c.loop-position.used
            (set c.loop-position.positions (index * 16 + position) w.at_most.result) c.loop-position.divided)
            next
            (subst
            (λ b. AreDivided sections (index * 16 + position + 1) c.loop-position.used
            (set c.loop-position.positions (index * 16 + position) b) c.loop-position.divided) byte
            (alike_divided sections (index * 16 + position) c.loop-position.used c.loop-position.positions
            c.loop-position.divided fits so_far.so_far
            (alike ∙ sym c.are_alike.ensures ∙ w.if-are_alike.true))))
        | else-are_alike+else-used-eq-DIVIDED_MOST w ↦
            rw (w.used-is, w.positions-is, w.divided-is)
            (subst
            (λ i. AreDivided sections i (c.loop-position.used + 1)
            (set c.loop-position.positions (index * 16 + position) (101 + c.loop-position.used))
            w.copy_marks.new.divided)
            next
            (more_divided sections (index * 16 + position) c.loop-position.used c.loop-position.positions
            c.loop-position.divided w.copy_marks.new.divided fits
            (grind (arith, nat_tests, w.if-used-eq-DIVIDED_MOST.false, so_far.so_far.most))
            so_far.so_far
            (alike ∙ sym c.are_alike.ensures ∙ w.if-are_alike.false)
            (λ n d less.
            w.copy_marks.ensures.copied n d less
            ∙ sym (mark_there sections section index position n few c.section-section.ensures))
            w.copy_marks.ensures.others))
      ];
      others = λ i d after. elim c.if-are_alike.branch [
        | then-are_alike w ↦
            rw w.positions-is
            (get_or-set_other c.loop-position.positions (index * 16 + position) i _ d
            (λ same. absurd (omega (arith, same, after, few)))
            ∙ so_far.others i d after)
        | else-are_alike+else-used-eq-DIVIDED_MOST w ↦
            rw w.positions-is
            (get_or-set_other c.loop-position.positions (index * 16 + position) i _ d
            (λ same. absurd (omega (arith, same, after, few)))
            ∙ so_far.others i d after)
      ];
    }
