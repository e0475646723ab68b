-- Why the record of a lot is not entered.
use Rattle.std.proofs.Common.{◌≡◌, refl, sym, ◌∙◌, inl}
use Rattle.twp_plat.proofs.lots.land_row.enter_lot.Goals as goal

pub returns-in_default-clause-fault : goal.returns-in_default-clause-fault
returns-in_default-clause-fault c =
    (refl, c.requires.columns, (_, _, c.requires.lot, rw c.field.ensures at c.in_default.ensures))

pub returns-else-add-clause-fault : goal.returns-else-add-clause-fault
returns-else-add-clause-fault c = (
  refl,
  c.requires.columns,
  (
    c.args.section,
    c.args.lot,
    c.enter_parts.new.marks.sections,
    c.requires.lot,
    inl (
      c.requires.lot,
      sym c.figure.ensures ∙ c.if-figure-ne0.false,
      (c.in-Some.hundredths, rw c.field.ensures at c.in-Some.ensures.0),
    ),
    c.in_default-enter_parts.ensures.painted,
    c.if-add.ensures.full refl,
  ),
)
