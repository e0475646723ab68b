use Rattle.twp_excerpt.specs.Excerpts.{end_within}
use Rattle.twp_excerpt.specs.Signs.{signs}
use Rattle.twp_excerpt.proofs.ExcerptFacts.{end_whole}
use Rattle.twp_excerpt.proofs.PieceFacts.{part_whole, part_cut}
use Rattle.twp_excerpt.proofs.kept_part.end_of.Goals as goal

pub returns-then-not-whole-clause-piece : goal.returns-then-not-whole-clause-piece
returns-then-not-whole-clause-piece c =
    let whole = c.end_within-whole in
    part_whole end_within c.args.room (signs c.args.bytes.now) whole.result end_whole whole.ensures.kept
    whole.ensures.cut whole.ensures.columns c.if-not-whole.true

pub returns-clause-piece : goal.returns-clause-piece
returns-clause-piece c =
    let whole = c.end_within-whole in
    let end = c.end_within-end in
    part_cut end_within c.args.room (signs c.args.bytes.now) whole.result end.result whole.ensures.cut
    c.if-not-whole.false end.ensures.kept end.ensures.cut end.ensures.columns
