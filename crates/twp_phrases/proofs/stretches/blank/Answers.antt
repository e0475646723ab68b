use Rattle.std.proofs.Common.{◌≡◌, ◌≤◌, length, min, arith, subst, ◌∙◌}
use Rattle.twp_phrases.proofs.UnreadFacts.{all_blank}
use Rattle.twp_phrases.proofs.stretches.blank.Goals as goal

pub returns : goal.returns
returns c =
    let end_is : c.min-at-end.result ≡ min c.args.phrase.end (length c.args.left.now) =
    c.min-at-end.ensures in
    λ k. c.loop-at.invariant.1 k
    ∙ all_blank c.args.phrase.start c.loop-at.at c.args.phrase.end k c.args.left.now (omega arith)
    (subst (λ m. m ≤ c.loop-at.at) end_is c.loop-at-test.false)
    (λ more. subst (λ m. c.loop-at.at ≤ m) end_is (c.loop-at.invariant.0 more))
