-- One more number of the list, or the comma after the last.
use Rattle.std.proofs.Common.{◌≡◌, ℕ, ◌+◌, ◌<◌, ◌≤◌, List, length, drop, refl, arith}
use Rattle.std.specs.List.{prefix_len}
use Rattle.twp_grammar.specs.Tokens.{is_white}
use Rattle.twp_grammar.specs.declared.item.Item.{Item}
use Rattle.twp_read.specs.declared.description.Reached.{Reached}
use Rattle.twp_read.specs.steps.Usual.{Leads}
use Rattle.twp_read.proofs.Leading.{leads_then}
use Rattle.twp_read.proofs.NumberFacts.{entry_leads, goes_on_after}
use Rattle.twp_read.proofs.items.Items.take_numbers.Goals as goal

pub returns-in_default-number_at : goal.returns-in_default-number_at
returns-in_default-number_at c =
    let from : Reached = c.args.from in
    let reached : Reached = c.numbers.reached in
    let after : Reached = c.after_list_comma.result in
    leads_then c.args.text.now from.at from.state c.args.self.now reached.at reached.state c.numbers.self
    after.at after.state c.numbers.self c.numbers.invariant.led (c.after_list_comma.ensures c.numbers.self)

pub numbers-smaller : goal.numbers-smaller
numbers-smaller c =
    let text : List ℕ = c.args.text.now in
    let next : c.after_white-next.result
    ≡ (c.numbers.reached.at + 1) + prefix_len is_white (drop (c.numbers.reached.at + 1) text) =
    c.after_white-next.ensures.value in
    let further : c.after_white-next.result < c.in-Some-number_at.number.end =
    c.in-Some-number_at.ensures.forward in
    let
    led : Leads text c.in-Some-number_at.number.end c.state.result c.push.new.self
    c.ahead-reached-in-numbers.result.at
    c.ahead-reached-in-numbers.result.state c.push.new.self =
    c.ahead-reached-in-numbers.ensures.leads c.push.new.self in
    let ahead : c.in-Some-number_at.number.end ≤ c.ahead-reached-in-numbers.result.at = led.forward in
    let within : c.ahead-reached-in-numbers.result.at ≤ length text = led.within in
    omega arith

pub numbers-preserved : goal.numbers-preserved
numbers-preserved c =
    let text : List ℕ = c.args.text.now in
    let from : Reached = c.args.from in
    let reached : Reached = c.numbers.reached in
    let so_far : List Item = c.numbers.self in
    let number = c.in-Some-number_at.number in
    let grown : List Item = c.push.new.self in
    let ahead : Reached = c.ahead-reached-in-numbers.result in
    let entry : Leads text reached.at reached.state so_far number.end c.state.result grown =
    rw (c.state.ensures, c.in_ok-push.ensures, c.entry.ensures)
    (entry_leads text reached.at c.after_white-next.result reached.state so_far c.in-Some.list number.numeral
    number.end
    c.numbers.invariant.goes_on (c.numbers-test.ensures.spelled refl) (c.numbers-test.ensures.within refl)
    (c.after_white-next.ensures.value, c.after_white-next.ensures.range)
    c.in-Some-number_at.ensures.number) in
    record {
      led =
          leads_then text from.at from.state c.args.self.now reached.at reached.state so_far ahead.at
          ahead.state grown
          c.numbers.invariant.led
          (leads_then text reached.at reached.state so_far number.end c.state.result grown ahead.at
          ahead.state grown
          entry (c.ahead-reached-in-numbers.ensures.leads grown));
      goes_on = rw (c.ahead-reached-in-numbers.ensures.same, c.state.ensures) (goes_on_after c.in-Some.list);
    }
