use Rattle.twp_plat.proofs.PlatPieces as pieces
use Rattle.twp_plat.proofs.laws.piece_is_whole.Goals as goal

pub returns : goal.returns
returns c = pieces.piece_is_whole
