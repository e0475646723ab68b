use Rattle.std.proofs.Common.{◌≡◌, ◌+◌, ◌≤◌, ◌∙◌, true, length, drop, slice_index, ap, sym, arith}
use Rattle.std.specs.Char.{is_ascii_digit}
use Rattle.twp_read.proofs.NumberFacts.{BeginsHere, begins_here, digit_here}
use Rattle.twp_read.proofs.usual.list.number_at.Goals as goal

pub overflow_add-result : goal.overflow_add-result
overflow_add-result c =
    let text = c.args.text.now in
    let digit : is_ascii_digit (slice_index (drop c.args.at text) 0) ≡ true =
    ap is_ascii_digit (sym c.byte_at.ensures.value) ∙ sym c.if-not-is_ascii_digit.ensures.value in
    let it : BeginsHere text c.args.at (record { value = c.in-Number.value; at = c.args.at })
    (c.args.at + c.digits-number.result.size) =
    begins_here text c.args.at c.args.at c.in-Number.value c.digits-number.result
    (digit_here text c.args.at digit) digit c.digits-number.ensures c.in-Number.is in
    let within : c.args.at + c.digits-number.result.size ≤ length c.args.text.now = it.within in
    omega arith

pub returns-clause-number : goal.returns-clause-number
returns-clause-number c =
    let text = c.args.text.now in
    let digit : is_ascii_digit (slice_index (drop c.args.at text) 0) ≡ true =
    ap is_ascii_digit (sym c.byte_at.ensures.value) ∙ sym c.if-not-is_ascii_digit.ensures.value in
    let it : BeginsHere text c.args.at (record { value = c.in-Number.value; at = c.args.at })
    (c.args.at + c.digits-number.result.size) =
    begins_here text c.args.at c.args.at c.in-Number.value c.digits-number.result
    (digit_here text c.args.at digit) digit c.digits-number.ensures c.in-Number.is in
    it.leads

pub returns-clause-token : goal.returns-clause-token
returns-clause-token c =
    let text = c.args.text.now in
    let digit : is_ascii_digit (slice_index (drop c.args.at text) 0) ≡ true =
    ap is_ascii_digit (sym c.byte_at.ensures.value) ∙ sym c.if-not-is_ascii_digit.ensures.value in
    let it : BeginsHere text c.args.at (record { value = c.in-Number.value; at = c.args.at })
    (c.args.at + c.digits-number.result.size) =
    begins_here text c.args.at c.args.at c.in-Number.value c.digits-number.result
    (digit_here text c.args.at digit) digit c.digits-number.ensures c.in-Number.is in
    it.first

pub returns-clause-within : goal.returns-clause-within
returns-clause-within c =
    let text = c.args.text.now in
    let digit : is_ascii_digit (slice_index (drop c.args.at text) 0) ≡ true =
    ap is_ascii_digit (sym c.byte_at.ensures.value) ∙ sym c.if-not-is_ascii_digit.ensures.value in
    let it : BeginsHere text c.args.at (record { value = c.in-Number.value; at = c.args.at })
    (c.args.at + c.digits-number.result.size) =
    begins_here text c.args.at c.args.at c.in-Number.value c.digits-number.result
    (digit_here text c.args.at digit) digit c.digits-number.ensures c.in-Number.is in
    it.within

pub returns-clause-forward : goal.returns-clause-forward
returns-clause-forward c =
    let text = c.args.text.now in
    let digit : is_ascii_digit (slice_index (drop c.args.at text) 0) ≡ true =
    ap is_ascii_digit (sym c.byte_at.ensures.value) ∙ sym c.if-not-is_ascii_digit.ensures.value in
    let it : BeginsHere text c.args.at (record { value = c.in-Number.value; at = c.args.at })
    (c.args.at + c.digits-number.result.size) =
    begins_here text c.args.at c.args.at c.in-Number.value c.digits-number.result
    (digit_here text c.args.at digit) digit c.digits-number.ensures c.in-Number.is in
    it.further
