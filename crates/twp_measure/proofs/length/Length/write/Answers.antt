use Rattle.std.proofs.Common.{◌≡◌, ◌≢◌, ◌-◌, ◌+◌, ◌%◌, ◌/◌, ◌⊎◌, length, take, drop, decimal, inl}
use Rattle.std.proofs.Common.{inr, arith, rules}
use Rattle.std.proofs.lemmas.Fmt.{length-decimal-le}
use Rattle.std.proofs.lemmas.Grind.{common_steps}
use Rattle.twp_measure.specs.LengthTexts.{length_text}
use Rattle.twp_measure.proofs.TextFacts.{length_text_in}
use Rattle.twp_measure.proofs.length.Length.write.Goals as goal
use Rattle.twp_measure.proofs.length.Length.write.Goals.{then-thousandths-eq0, else-thousandths-eq0}

pub write_digits-start-requires : goal.write_digits-start-requires
write_digits-start-requires c = search (rules, length-decimal-le 2)

pub returns-clause-ok : goal.returns-clause-ok
returns-clause-ok c =
    let w = c.write_digits-start in
    let end : ((c.args.self % 10 ≡ 0) × (c.if-thousandths-eq0.end ≡ 5))
    ⊎ ((c.args.self % 10 ≢ 0) × (c.if-thousandths-eq0.end ≡ 6)) =
    elim c.if-thousandths-eq0.branch [
      | then-thousandths-eq0 two ↦ inl (rw c.self.view_is at two.if-thousandths-eq0.true, two.end-is)
      | else-thousandths-eq0 three ↦ inr (rw c.self.view_is at three.if-thousandths-eq0.false, three.end-is)
    ] in
    let whole : c.from.result ≡ c.args.self / 1000 = rw c.self.view_is at c.from.ensures in
    let start : w.result + length (decimal (c.args.self / 1000)) ≡ 2 = rw whole at w.ensures.start in
    let text : take (c.if-thousandths-eq0.end - w.result) (drop w.result w.new.buf)
    ≡ length_text c.args.self =
    length_text_in c.args.self w.result c.if-thousandths-eq0.end w.new.buf (grind (arith, common_steps))
    start end in
    grind (arith, common_steps)
