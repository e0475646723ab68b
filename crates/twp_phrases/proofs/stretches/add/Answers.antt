use Rattle.std.proofs.Common.{◌≡◌, [], ◌∷◌, ◌++◌, sym, subst}
use Rattle.twp_phrases.specs.declared.stretches.Stretch.{Stretch}
use Rattle.twp_phrases.specs.Unread.{AreRunsUpTo}
use Rattle.twp_phrases.proofs.UnreadFacts.{added_apart, added_longer}
use Rattle.twp_phrases.proofs.stretches.add.Goals as goal

pub returns-then-has_break : goal.returns-then-has_break
returns-then-has_break c = λ from are is.
    let same : c.push-then-has_break-2.new.self.items ≡ c.args.runs.now.items ++ c.args.word ∷ [] =
    cc (c.in-Some.ensures.items, c.in_ok-push-2.ensures.items, c.in_ok-push-3.ensures.items) in
    subst (λ list. AreRunsUpTo c.args.left.now c.args.word.end list) (sym same)
    (added_apart c.args.left.now from c.args.runs.now.items c.args.word are is)

pub returns : goal.returns
returns c = λ from are is.
    let new : Stretch = record { start = c.in-Some.last.start; end = c.args.word.end } in
    let before : c.args.runs.now.items ≡ c.pop.new.self.items ++ c.in-Some.last ∷ [] =
    cc (c.in-Some.ensures.items) in
    let after : c.push-2.new.self.items ≡ c.pop.new.self.items ++ new ∷ [] =
    cc (c.in_ok-push-4.ensures.items) in
    subst (λ list. AreRunsUpTo c.args.left.now c.args.word.end list) (sym after)
    (added_longer c.args.left.now from c.pop.new.self.items c.in-Some.last c.args.word
    (subst (λ list. AreRunsUpTo c.args.left.now from list) before are) is
    (c.has_break.ensures c.if-has_break.false))
