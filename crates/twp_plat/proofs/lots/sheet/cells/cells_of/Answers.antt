use Rattle.std.proofs.Common.{sym, ◌∙◌}
use Rattle.twp_plat.proofs.lots.sheet.CellFacts.{kept_by_joining, kept_by_opening, kept_by_ending}
use Rattle.twp_plat.proofs.lots.sheet.CellFacts.{none_by_failing, none_within_quotes, cells_at_end}
use Rattle.twp_plat.proofs.lots.sheet.cells.cells_of.Goals as goal
use Rattle.twp_plat.proofs.lots.sheet.cells.cells_of.Goals.{in-Joins+in_ok-push-in-Joins, in-Opens}
use Rattle.twp_plat.proofs.lots.sheet.cells.cells_of.Goals.{in-EndsCell+in_ok-push_field-in-EndsCell}

pub returns-in-Fails : goal.returns-in-Fails
returns-in-Fails c =
    none_by_failing _ _ _ _ _ _ _ c.loop-byte-test.true (sym c.effect_of.ensures ∙ c.in-Fails.is)
    c.loop-byte.invariant.cells

pub loop-byte-preserved : goal.loop-byte-preserved
loop-byte-preserved c = elim c.match-effect_of.branch [
  | in-Joins+in_ok-push-in-Joins w ↦ record {
    cells = rw (w.cells-is, w.place-is, w.cell-is, w.in_ok-push-in-Joins.ensures.items)
        (kept_by_joining _ _ _ _ _ _ _ _ c.loop-byte-test.true (sym c.effect_of.ensures ∙ w.in-Joins.is)
        c.loop-byte.invariant.cells);
    partial = rw w.cells-is c.loop-byte.invariant.partial;
  }
  | in-Opens w ↦ record {
    cells = rw (w.cells-is, w.place-is, w.cell-is)
        (kept_by_opening _ _ _ _ _ _ _ _ c.loop-byte-test.true (sym c.effect_of.ensures ∙ w.in-Opens.is)
        c.loop-byte.invariant.cells);
    partial = rw w.cells-is c.loop-byte.invariant.partial;
  }
  | in-EndsCell+in_ok-push_field-in-EndsCell w ↦ record {
    cells = rw (
      w.cells-is,
      w.place-is,
      w.cell-is,
      w.clear.ensures.items,
      w.in_ok-push_field-in-EndsCell.ensures.fields,
      c.loop-byte.invariant.partial,
      w.as_slice.ensures.value,
    )
        (kept_by_ending _ _ _ _ _ _ _ c.loop-byte-test.true (sym c.effect_of.ensures ∙ w.in-EndsCell.is)
        c.loop-byte.invariant.cells);
    partial = rw w.cells-is w.in_ok-push_field-in-EndsCell.ensures.partial;
  }
]

pub returns-in-Quoted : goal.returns-in-Quoted
returns-in-Quoted c =
    none_within_quotes _ _ _ _ _ _ c.loop-byte-test.false
    (rw c.in-Quoted.is at c.loop-byte.invariant.cells)

pub returns : goal.returns
returns c = rw (c.in_ok-push_field.ensures.fields, c.loop-byte.invariant.partial, c.as_slice-2.ensures.value)
    (cells_at_end _ _ _ _ _ _ _ c.loop-byte-test.false c.in_default.not-Quoted c.loop-byte.invariant.cells)
