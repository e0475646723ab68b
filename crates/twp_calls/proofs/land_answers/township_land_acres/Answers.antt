-- There is no such land, or no such account; or the townships differ, or the land is of a plat with other
-- lots; or the acres are those of the land.
use Rattle.std.proofs.Common.{sym, ◌∙◌}
use Rattle.twp_calls.specs.Calls.{by_account, by_none, on_plat}
use Rattle.twp_calls.specs.LandCalls.{of_one, of_two, on_land, on_no_land}
use Rattle.twp_calls.proofs.LandCallFacts.{agree, differ}
use Rattle.twp_calls.proofs.land_answers.township_land_acres.Goals as goal

pub returns-in_default-land : goal.returns-in_default-land
returns-in_default-land c =
    on_plat c.in-Some.plat c.in-Some.ensures
    (on_no_land c.in_default-land.ensures c.bare-in_default-land.ensures)

pub returns-in_default-account_of : goal.returns-in_default-account_of
returns-in_default-account_of c =
    on_plat c.in-Some.plat c.in-Some.ensures
    (on_land c.in-Some-land.land.township _ c.in-Some-land.ensures
    (by_none (sym c.account_of.ensures ∙ c.in_default-account_of.is) c.bare-in_default-account_of.ensures))

pub returns-then-not-is_same_township : goal.returns-then-not-is_same_township
returns-then-not-is_same_township c =
    on_plat c.in-Some.plat c.in-Some.ensures
    (on_land c.in-Some-land.land.township _ c.in-Some-land.ensures
    (by_account c.in-Some-account_of.account (sym c.account_of.ensures ∙ c.in-Some-account_of.is)
    (differ _ c.in-Some.plat.township c.in-Some-land.land.township c.township.result
    c.is_same_township.result _ c.township.ensures c.is_same_township.ensures
    c.if-not-is_same_township.true c.bare-then-not-is_same_township.ensures)))

pub returns-then-own_lots-ne0 : goal.returns-then-own_lots-ne0
returns-then-own_lots-ne0 c =
    on_plat c.in-Some.plat c.in-Some.ensures
    (on_land c.in-Some-land.land.township _ c.in-Some-land.ensures
    (by_account c.in-Some-account_of.account (sym c.account_of.ensures ∙ c.in-Some-account_of.is)
    (agree _ c.in-Some.plat.township c.in-Some-land.land.township c.township.result
    c.is_same_township.result _ c.township.ensures c.is_same_township.ensures
    c.if-not-is_same_township.false (of_two c.if-own_lots-ne0.true c.bare-then-own_lots-ne0.ensures))))

pub returns : goal.returns
returns c =
    on_plat c.in-Some.plat c.in-Some.ensures
    (on_land c.in-Some-land.land.township _ c.in-Some-land.ensures
    (by_account c.in-Some-account_of.account (sym c.account_of.ensures ∙ c.in-Some-account_of.is)
    (agree _ c.in-Some.plat.township c.in-Some-land.land.township c.township.result
    c.is_same_township.result _ c.township.ensures c.is_same_township.ensures
    c.if-not-is_same_township.false (of_one c.if-own_lots-ne0.false (record {
      hundredths = c.acres_of.result;
      acres = c.acres_of.ensures;
      answer_is = c.of_acres.ensures;
    })))))
