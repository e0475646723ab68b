-- One more word, and what the list continues with after it.
use Rattle.std.proofs.Common.{List, ℕ}
use Rattle.twp_grammar.specs.declared.item.Item.{Item}
use Rattle.twp_read.specs.declared.description.Reached.{Reached}
use Rattle.twp_read.proofs.Leading.{leads_then}
use Rattle.twp_read.proofs.items.Items.take_list.Goals as goal

pub take_joined-requires-clause-place : goal.take_joined-requires-clause-place
take_joined-requires-clause-place c = (c.in-Some.ensures.leads c.words.self).within

pub words-preserved : goal.words-preserved
words-preserved c =
    let text : List ℕ = c.args.text.now in
    let from : Reached = c.args.from in
    let reached : Reached = c.words.reached in
    let before : List Item = c.words.self in
    let word : Reached = c.in-Some.word in
    let joined : Reached = c.in_ok-joined.joined in
    let more : List Item = c.take_joined.new.self in
    let last : Reached = c.in_ok-reached-2.reached in
    let grown : List Item = c.take_numbers-in-Some.new.self in
    leads_then text from.at from.state c.args.self.now reached.at reached.state before last.at last.state
    grown c.words.invariant
    (leads_then text reached.at reached.state before word.at word.state before last.at last.state grown
    (c.in-Some.ensures.leads before)
    (leads_then text word.at word.state before joined.at joined.state more last.at last.state grown
    c.in_ok-joined.ensures
    c.in_ok-reached-2.ensures))
