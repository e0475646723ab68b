use Rattle.std.proofs.Common.{◌∙◌, sym, arith}
use Rattle.std.proofs.lemmas.Result.{on_ok_weaker}
use Rattle.twp_plat.proofs.lots.sheet.LineFacts.{kept_at_line_end, kept_within_line, last_line_is}
use Rattle.twp_plat.proofs.lots.sheet.write_lines.Goals as goal
use Rattle.twp_plat.proofs.lots.sheet.write_lines.Goals.{then-is_line_end+in_ok-write_line+in_ok-push}
use Rattle.twp_plat.proofs.lots.sheet.write_lines.Goals.{else-is_line_end}

pub loop-at-preserved : goal.loop-at-preserved
loop-at-preserved c = elim c.if-is_line_end.branch [
  | then-is_line_end+in_ok-write_line+in_ok-push w ↦ record {
    order = rw w.start-is (omega arith);
    written = rw (w.plain-is, w.unclosed-is, w.start-is, w.is_unclosed_after-unclosed.ensures)
        (kept_at_line_end _ _ _ c.loop-at.start _ _ _ _ _ c.loop-at-test.true
        (sym c.is_line_end.ensures ∙ w.if-is_line_end.true)
        w.in_ok-write_line.ensures w.in_ok-push.ensures.items
        c.loop-at.invariant.written);
  }
  | else-is_line_end w ↦ record {
    order = let e = w.start-is in let order = c.loop-at.invariant.order in omega arith;
    written = rw (w.plain-is, w.unclosed-is, w.start-is)
        (kept_within_line _ _ _ _ _ _ _ c.loop-at.invariant.order c.loop-at-test.true
        (sym c.is_line_end.ensures ∙ w.if-is_line_end.false) c.loop-at.invariant.written);
  }
]

pub returns : goal.returns
returns c =
    on_ok_weaker c.write_line-2.result
    (last_line_is _ _ _ _ _ _ _ c.loop-at-test.false c.loop-at.invariant.written _)
    c.write_line-2.ensures
