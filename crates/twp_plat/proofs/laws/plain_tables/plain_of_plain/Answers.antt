use Rattle.twp_plat.proofs.lots.sheet.PlainTableLaws as laws
use Rattle.twp_plat.proofs.laws.plain_tables.plain_of_plain.Goals as goal

pub returns : goal.returns
returns c = laws.plain_of_plain
