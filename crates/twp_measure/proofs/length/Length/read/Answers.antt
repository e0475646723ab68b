-- A text that is a length has the parts of one; each fault contradicts those parts.
use Rattle.std.proofs.Common.{arith, inr}
use Rattle.std.proofs.lemmas.Grind.{common_steps}
use Rattle.twp_measure.proofs.LengthFacts.{HasParts, parts_of, text_of_parts}
use Rattle.twp_measure.proofs.length.Length.read.Goals as goal

pub returns-then-not-is_numeral-clause-taken : goal.returns-then-not-is_numeral-clause-taken
returns-then-not-is_numeral-clause-taken c v is =
    let parts : HasParts c.args.text.now v = parts_of c.args.text.now v is in
    grind (arith, common_steps)

pub returns-then-at-text-clause-taken : goal.returns-then-at-text-clause-taken
returns-then-at-text-clause-taken c v is =
    let parts : HasParts c.args.text.now v = parts_of c.args.text.now v is in
    grind (arith, common_steps)

pub returns-then-not-is_numeral-2-clause-taken : goal.returns-then-not-is_numeral-2-clause-taken
returns-then-not-is_numeral-2-clause-taken c v is =
    let parts : HasParts c.args.text.now v = parts_of c.args.text.now v is in
    grind (arith, common_steps)

pub returns-in_err-chains-clause-taken : goal.returns-in_err-chains-clause-taken
returns-in_err-chains-clause-taken c v is =
    let parts : HasParts c.args.text.now v = parts_of c.args.text.now v is in
    grind (arith, common_steps)

pub returns-clause-taken : goal.returns-clause-taken
returns-clause-taken c v is =
    let parts : HasParts c.args.text.now v = parts_of c.args.text.now v is in
    grind (arith, common_steps)

pub returns-clause-value : goal.returns-clause-value
returns-clause-value c =
    text_of_parts _ _ (record {
      whole = grind (arith, common_steps);
      few = grind (arith, common_steps);
      rest = inr (
        grind (arith, common_steps),
        grind (arith, common_steps),
        grind (arith, common_steps),
        grind (arith, common_steps),
      );
    })
