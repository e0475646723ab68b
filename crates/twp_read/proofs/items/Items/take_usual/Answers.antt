use Rattle.std.proofs.Common.{ℕ, List}
use Rattle.twp_grammar.specs.declared.item.Item.{Item}
use Rattle.twp_read.specs.declared.description.Reached.{Reached}
use Rattle.twp_read.proofs.Leading.{leads_then}
use Rattle.twp_read.proofs.items.Items.take_usual.Goals as goal

pub returns : goal.returns
returns c =
    let text : List ℕ = c.args.text.now in
    let from : Reached = c.args.from in
    let before : List Item = c.args.self.now in
    let begun : Reached = c.in_ok-begun.begun in
    let with_begun : List Item = c.take_begun.new.self in
    let section : Reached = c.in_ok-section.section in
    let sectioned : List Item = c.take_section.new.self in
    let lots : Reached = c.in_ok-lots.lots in
    let begun_lots : List Item = c.take_lots.new.self in
    let list : Reached = c.in_ok-list.list in
    let listed : List Item = c.take_list.new.self in
    let parts : Reached = c.in_ok-parts.parts in
    let grown : List Item = c.take_parts.new.self in
    let end : Reached = c.after_stop.result in
    leads_then text from.at from.state before parts.at parts.state grown end.at end.state grown
    (leads_then text from.at from.state before list.at list.state listed parts.at parts.state grown
    (leads_then text from.at from.state before lots.at lots.state begun_lots list.at list.state listed
    (leads_then text from.at from.state before section.at section.state sectioned lots.at lots.state
    begun_lots
    (leads_then text from.at from.state before begun.at begun.state with_begun section.at section.state
    sectioned
    c.in_ok-begun.ensures c.in_ok-section.ensures)
    c.in_ok-lots.ensures) c.in_ok-list.ensures) c.in_ok-parts.ensures) (c.after_stop.ensures grown)
