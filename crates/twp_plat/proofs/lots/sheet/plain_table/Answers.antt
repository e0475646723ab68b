use Rattle.twp_plat.proofs.lots.sheet.PlainTexts.{table_is}
use Rattle.twp_plat.proofs.lots.sheet.plain_table.Goals as goal

pub returns : goal.returns
returns c =
    rw (
      c.in_ok-write_lines.ensures,
      c.in_ok-plain.ensures.items,
      c.split_byte_order_mark.ensures.mark,
      c.split_byte_order_mark.ensures.rest,
    )
    (table_is c.args.text.now)
