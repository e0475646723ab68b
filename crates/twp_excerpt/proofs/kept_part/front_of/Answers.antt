use Rattle.twp_excerpt.specs.Excerpts.{front_within}
use Rattle.twp_excerpt.specs.Signs.{signs}
use Rattle.twp_excerpt.proofs.ExcerptFacts.{front_whole}
use Rattle.twp_excerpt.proofs.PieceFacts.{part_whole, part_cut}
use Rattle.twp_excerpt.proofs.kept_part.front_of.Goals as goal

pub returns-then-not-whole-clause-piece : goal.returns-then-not-whole-clause-piece
returns-then-not-whole-clause-piece c =
    let whole = c.front_within-whole in
    part_whole front_within c.args.room (signs c.args.bytes.now) whole.result front_whole whole.ensures.kept
    whole.ensures.cut whole.ensures.columns c.if-not-whole.true

pub returns-clause-piece : goal.returns-clause-piece
returns-clause-piece c =
    let whole = c.front_within-whole in
    let front = c.front_within-front in
    part_cut front_within c.args.room (signs c.args.bytes.now) whole.result front.result whole.ensures.cut
    c.if-not-whole.false front.ensures.kept front.ensures.cut front.ensures.columns
