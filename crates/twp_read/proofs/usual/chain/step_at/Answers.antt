use Rattle.twp_read.proofs.StandingSteps.{step_stands}
use Rattle.twp_read.proofs.usual.chain.step_at.Goals as goal

pub returns : goal.returns
returns c =
    step_stands c.args.text.now c.split_at.result.1.now c.args.at c.step_of.result c.split_at.ensures.back
    c.if-bytes-lt-LONGEST.false c.step_of.ensures
