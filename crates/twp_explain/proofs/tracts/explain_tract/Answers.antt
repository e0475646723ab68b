-- What was found of the description is shown in the list.
use Rattle.std.proofs.Common.{refl}
use Rattle.twp_explain.specs.BlamedTracts.{refused}
use Rattle.twp_explain.proofs.TractFacts.{holds_on_ok}
use Rattle.twp_explain.proofs.tracts.explain_tract.Goals as goal

pub returns-then-is_quoted-clause-shows : goal.returns-then-is_quoted-clause-shows
returns-then-is_quoted-clause-shows g c = λ line none. holds_on_ok c.push_str-then-is_quoted.result
    (refused (record {
      finding = c.in-Err-Found.inner;
      is = rw c.in-Err-Found.field-0-is at c.in-Err-Found.ensures.shown;
      location_is = c.shown_in_list-finding.ensures;
      other_is = refl;
    }))

pub returns-clause-shows : goal.returns-clause-shows
returns-clause-shows g c = λ line none. holds_on_ok c.push_str-4.result
    (refused (record {
      finding = c.in-Err-Found.inner;
      is = rw c.in-Err-Found.field-0-is at c.in-Err-Found.ensures.shown;
      location_is = c.shown_in_list-finding.ensures;
      other_is = refl;
    }))
