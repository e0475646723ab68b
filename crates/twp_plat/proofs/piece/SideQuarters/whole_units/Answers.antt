use Rattle.twp_plat.proofs.PieceFacts.{whole_quotient}
use Rattle.twp_plat.proofs.piece.SideQuarters.whole_units.Goals as goal

pub returns-clause-piece : goal.returns-clause-piece
returns-clause-piece c =
    whole_quotient c.args.self c.args.column c.args.row c.parts.result c.divisor.result c.requires.column
    c.requires.row c.requires.regular
    c.divisor.ensures.range (rw c.divisor.ensures.value c.parts.ensures.piece)
