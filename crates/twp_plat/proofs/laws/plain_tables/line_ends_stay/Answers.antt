use Rattle.twp_plat.proofs.lots.sheet.PlainLaws as laws
use Rattle.twp_plat.proofs.laws.plain_tables.line_ends_stay.Goals as goal

pub returns : goal.returns
returns c = laws.line_ends_stay
