use Rattle.std.proofs.Common.{◌<◌, ◌++◌, length, ap, ◌∙◌, arith}
use Rattle.std.proofs.Math.ListN.{take}
use Rattle.std.proofs.lemmas.Bool.Decides.{nat_tests}
use Rattle.twp_spell.proofs.SpellingFacts.{lead_is, numbers_text, numbers_begin, lots_end}
use Rattle.twp_spell.proofs.spelling.write_lots.Goals as goal

pub loop-index-init : goal.loop-index-init
loop-index-init c =
    let some : 0 < length c.args.lots.now =
    grind (arith, nat_tests, c.is_empty.ensures, c.if-is_empty.false) in
    let lead =
    lead_is (length c.args.lots.now) c.lots_lead-lead.result.now c.lots_lead-lead.ensures.one
    c.lots_lead-lead.ensures.several in
    record {
      written =
          numbers_begin c.args.text.now.items c.lots_lead-lead.result.now c.extend_from_slice.new.self.items
          c.write_number.new.text.items c.args.lots.now _
          some c.in_ok-extend_from_slice.ensures.items c.in_ok-write_number.ensures
          ∙ ap (λ l. c.args.text.now.items ++ (l ++ numbers_text (take 1 c.args.lots.now))) lead;
      first = omega arith;
      within = omega (arith, some);
    }

pub returns : goal.returns
returns c =
    let so_far = c.loop-index.invariant in
    lots_end c.args.text.now.items c.loop-index.text.items c.args.lots.now c.loop-index.index so_far.first
    (omega (arith, so_far.within)) so_far.written
