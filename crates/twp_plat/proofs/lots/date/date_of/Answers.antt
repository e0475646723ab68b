-- The date that the parts of the text give, if there is such a day.
use Rattle.std.proofs.Common.{◌≡◌, rules}
use Rattle.twp_plat.proofs.lots.DateFacts.{AreNumerals, date_found, none_found}
use Rattle.twp_plat.proofs.lots.date.date_of.Goals as goal

pub returns-in_err-century : goal.returns-in_err-century
returns-in_err-century c =
    none_found c.args.text.now c.from_residual.result (search rules)
    (λ (are : AreNumerals c.args.text.now). c.in_err-century.ensures.value are.century)

pub returns-in_err-years : goal.returns-in_err-years
returns-in_err-years c =
    none_found c.args.text.now c.from_residual-in_err-years.result (search rules)
    (λ (are : AreNumerals c.args.text.now). c.in_err-years.ensures.value are.years)

pub returns-in_err-month : goal.returns-in_err-month
returns-in_err-month c =
    none_found c.args.text.now c.from_residual-in_err-month.result (search rules)
    (λ (are : AreNumerals c.args.text.now). c.in_err-month.ensures.value are.month)

pub returns-in_err-day : goal.returns-in_err-day
returns-in_err-day c =
    none_found c.args.text.now c.from_residual-in_err-day.result (search rules)
    (λ (are : AreNumerals c.args.text.now). c.in_err-day.ensures.value are.day)

pub returns : goal.returns
returns c =
    date_found c.args.text.now c.number_of.result c.in_ok-century.century c.in_ok-years.years
    c.in_ok-month.month c.in_ok-day.day c.if-text-ne10.false c.if-text-ne-DASH.false
    c.if-text-ne-DASH-2.false
    (record {
      century = c.in_ok-century.ensures.value.0;
      years = c.in_ok-years.ensures.value.0;
      month = c.in_ok-month.ensures.value.0;
      day = c.in_ok-day.ensures.value.0;
    })
    c.in_ok-century.ensures.value.1 c.in_ok-years.ensures.value.1 c.in_ok-month.ensures.value.1
    c.in_ok-day.ensures.value.1 c.number_of.ensures
