use Rattle.std.proofs.Common.{◌∙◌, sym}
use Rattle.twp_plat.proofs.lots.sheet.PlainTexts.{one_table}
use Rattle.twp_plat.proofs.laws.plain_tables.one_plain_table.Goals as goal

pub returns : goal.returns
returns c text plain other is other_is = one_table text plain is ∙ sym (one_table text other other_is)
