use Rattle.twp_plat.proofs.PieceFacts.{doubled_mean_is}
use Rattle.twp_plat.proofs.piece.doubled_mean.Goals as goal

pub returns-clause-value : goal.returns-clause-value
returns-clause-value c =
    doubled_mean_is c.args.start c.args.end c.args.length c.args.doubled_middle c.from.result c.from-2.result
    c.requires.middle c.from.ensures c.from-2.ensures
