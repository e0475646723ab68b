-- The first record for the lot, before the one that is for it again.
use Rattle.std.proofs.Common.{arith}
use Rattle.twp_sentences.proofs.lot_tables.earlier.first_for_lot.Goals as goal

pub returns : goal.returns
returns c =
    let first = rw c.in-Some-2.is at (rw c.in_ok-number.was at c.number_of_first.ensures.first) in
    let most = rw c.in-Some-2.is at (rw c.in_ok-number.was at c.number_of_first.ensures.most) in
    record {
      section = c.in-Some.lot.section;
      lot = c.in-Some.lot.lot;
      names = c.in-Some.ensures;
      is_first = first;
      precedes = omega (arith, most, first.from_one, c.saturating_sub-before.ensures);
      found = c.in-Some-3.earlier;
      found_is = rw c.in-Some-3.is at (rw c.in_ok-earlier.was at (c.numbered.ensures first.from_one));
      span_is = c.span.ensures;
    }
