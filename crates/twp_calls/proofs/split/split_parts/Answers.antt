-- The first token begins a heading; or none does; or the text is refused at the first that does.
use Rattle.std.proofs.Common.{◌≤◌, arith, length, refl}
use Rattle.twp_grammar.specs.Tokens.{seen}
use Rattle.twp_calls.specs.Splits.{SPLIT_LIMIT}
use Rattle.twp_calls.proofs.SplitParts.{split_with_heading, split_without_heading, refused_at}
use Rattle.twp_calls.proofs.split.split_parts.Goals as goal

pub returns-in-T-clause-split : goal.returns-in-T-clause-split
returns-in-T-clause-split c =
    let within : length c.args.text.now ≤ SPLIT_LIMIT = omega (arith, c.if-text-gt-LIMIT.false) in
    split_with_heading c.args.text.now _ (seen c.in-Some.first) c.in_ok-headed_parts.field-0.items within
    c.in-Some.ensures c.in-T.is refl c.in_ok-headed_parts.ensures

pub returns-in-Some-next_heading : goal.returns-in-Some-next_heading
returns-in-Some-next_heading c =
    let within : length c.args.text.now ≤ SPLIT_LIMIT = omega (arith, c.if-text-gt-LIMIT.false) in
    record {
      split = tt;
      refused =
          refused_at c.args.text.now _ (seen c.in-Some.first) c.in-Some-next_heading.next within
          c.in-Some.ensures c.in_default-kind.not-T refl c.in-Some-next_heading.ensures;
    }

pub returns-in_ok-one_part-in-None : goal.returns-in_ok-one_part-in-None
returns-in_ok-one_part-in-None c =
    let within : length c.args.text.now ≤ SPLIT_LIMIT = omega (arith, c.if-text-gt-LIMIT.false) in
    record {
      split =
          split_without_heading c.args.text.now _ (seen c.in-Some.first)
          c.in_ok-one_part-in-None.field-0.items within c.in-Some.ensures refl c.in-None.ensures
          c.in_ok-one_part-in-None.ensures;
      refused = tt;
    }
