use Rattle.twp_plat.specs.Formula.{west_length, north_length}
use Rattle.twp_plat.proofs.PieceFacts.{piece_in_parts, parts_most}
use Rattle.twp_plat.proofs.piece.SideQuarters.parts.Goals as goal

pub returns-clause-piece : goal.returns-clause-piece
returns-clause-piece c =
    piece_in_parts c.args.self c.args.column c.args.row c.doubled_width.result c.doubled_height.result
    c.requires.column c.requires.row
    c.doubled_width.ensures.value c.doubled_height.ensures.value

pub returns-clause-most : goal.returns-clause-most
returns-clause-most c =
    parts_most (west_length c.args.self) (north_length c.args.self) c.doubled_width.result
    c.doubled_height.result
    c.doubled_width.ensures.most c.doubled_height.ensures.most
