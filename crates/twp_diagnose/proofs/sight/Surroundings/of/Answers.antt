use Rattle.std.proofs.Common.{◌≡◌, arith, length, drop, sym, ap, subst, ◌∙◌}
use Rattle.std.specs.List.{AllPass}
use Rattle.std.proofs.lemmas.Bool.{eqb-true, eq-eqb, false≢true}
use Rattle.std.proofs.lemmas.List.{drop_min}
use Rattle.twp_excerpt.specs.Spots.{is_white}
use Rattle.twp_diagnose.specs.Sights.{TakesSign}
use Rattle.twp_diagnose.proofs.SightFacts.{shown_at_end, shown_there, dark_within}
use Rattle.twp_diagnose.proofs.sight.Surroundings.of.Goals as goal
use Rattle.twp_diagnose.proofs.sight.Surroundings.of.Goals.{then-is_empty, else-is_empty}

pub returns-clause-start : goal.returns-clause-start
returns-clause-start c =
    let text = c.args.text.now in
    let at = c.args.refusal.at in
    let after : c.split_at.result.1.now ≡ drop at text =
    c.split_at.ensures.back ∙ ap (λ n. drop n text) c.min-at.ensures ∙ drop_min at text in
    elim c.if-is_empty.branch [
      | then-is_empty w ↦
          let none = eqb-true (length c.split_at-2.result.0.now) 0
          (sym c.is_empty.ensures ∙ w.if-is_empty.true) in
          let white =
          c.size_of_sign.ensures.white
          (omega (arith, none, c.split_at-2.ensures.front_len, c.size_of_sign.ensures.within)) in
          w.result-is ∙ w.end_of_text.ensures.end
          ∙ sym (shown_at_end text at (subst (AllPass is_white) after white))
      | else-is_empty w ↦
          let dark = λ (white : AllPass is_white (drop at text)).
          false≢true (sym w.if-is_empty.false ∙ c.is_empty.ensures
          ∙ eq-eqb (length c.split_at-2.result.0.now) 0
          (omega (
            arith,
            c.split_at-2.ensures.front_len,
            c.size_of_sign.ensures.dark (subst (AllPass is_white) (sym after) white),
          ))) in
          w.result-is ∙ c.min-at.ensures ∙ omega (arith, dark_within text at dark)
          ∙ sym (shown_there text at dark)
    ]

pub returns-clause-sign : goal.returns-clause-sign
returns-clause-sign c =
    let after : c.split_at.result.1.now ≡ drop c.args.refusal.at c.args.text.now =
    c.split_at.ensures.back
    ∙ ap (λ n. drop n c.args.text.now) c.min-at.ensures
    ∙ drop_min c.args.refusal.at c.args.text.now in
    subst (λ b. TakesSign b (length c.split_at-2.result.0.now)) after
    (subst (TakesSign c.split_at.result.1.now) (sym c.split_at-2.ensures.front_len)
    c.size_of_sign.ensures.sign)
