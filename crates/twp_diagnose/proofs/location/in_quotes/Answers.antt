-- Each byte of the text is passed as the definition says.
use Rattle.std.proofs.Common.{◌≡◌, ◌+◌, ◌-◌, ℕ, drop, sym, ap, subst, ◌∙◌, arith, true≢false}
use Rattle.twp_diagnose.specs.Origins.{place_in_quotes}
use Rattle.twp_diagnose.proofs.OriginFacts.{closing_at, doubled_at, doubled_here, plain_at, plain_here}
use Rattle.twp_diagnose.proofs.location.in_quotes.Goals.{else-is_mark-via-then-is_mark+else-not-mark_at}
use Rattle.twp_diagnose.proofs.location.in_quotes.Goals.{else-is_mark-via-else-is_mark, then-is_mark-2}
use Rattle.twp_diagnose.proofs.location.in_quotes.Goals.{else-is_mark-2}
use Rattle.twp_diagnose.proofs.location.in_quotes.Goals as goal

pub returns-then-not-mark_at : goal.returns-then-not-mark_at
returns-then-not-mark_at c =
    let closes =
    closing_at c.args.file.now c.loop-index.index c.loop-index.left (sym c.if-is_mark.ensures.value)
    (sym c.if-not-mark_at.ensures.value) in
    omega (arith, closes, c.loop-index.invariant, c.after_closing.ensures)

pub returns-then-left-eq0 : goal.returns-then-left-eq0
returns-then-left-eq0 c =
    let here : place_in_quotes (drop c.loop-index.index c.args.file.now) 0 ≡ 0 = elim c.else-is_mark.branch [
      | else-is_mark-via-then-is_mark+else-not-mark_at w ↦
          doubled_here c.args.file.now c.loop-index.index (sym w.if-is_mark.ensures.value)
          (sym w.if-not-mark_at.ensures.value)
      | else-is_mark-via-else-is_mark w ↦
          plain_here (drop c.loop-index.index c.args.file.now) (sym w.if-is_mark.ensures.value)
    ] in
    let none = ap (place_in_quotes (drop c.loop-index.index c.args.file.now)) c.if-left-eq0.true ∙ here in
    omega (arith, none, c.loop-index.invariant, c.loop-index-test.true)

pub loop-index-preserved : goal.loop-index-preserved
loop-index-preserved c =
    let Goes = λ (size : ℕ).
    c.loop-index.index + size
    + place_in_quotes (drop (c.loop-index.index + size) c.args.file.now) (c.loop-index.left - 1)
    ≡ c.args.start + place_in_quotes (drop c.args.start c.args.file.now) c.args.at in
    elim c.if-is_mark-2.branch [
      | then-is_mark-2 w ↦ elim c.else-is_mark.branch [
        | else-is_mark-via-then-is_mark+else-not-mark_at v ↦
            let more =
            doubled_at c.args.file.now c.loop-index.index c.loop-index.left (sym v.if-is_mark.ensures.value)
            (sym v.if-not-mark_at.ensures.value) c.if-left-eq0.false in
            subst Goes (sym w.index-is) (omega (arith, more, c.loop-index.invariant))
        | else-is_mark-via-else-is_mark v ↦
            absurd (true≢false (w.if-is_mark-2.ensures.value ∙ sym v.if-is_mark.ensures.value))
      ]
      | else-is_mark-2 w ↦
          let more =
          plain_at c.args.file.now c.loop-index.index c.loop-index.left c.loop-index-test.true
          (sym w.if-is_mark-2.ensures.value) c.if-left-eq0.false in
          subst Goes (sym w.index-is) (omega (arith, more, c.loop-index.invariant))
    ]
