use Rattle.std.proofs.Common.{◌≡◌, true}
use Rattle.std.specs.Prelude.{slice_range}
use Rattle.twp_rules.specs.Edges.{is_one_of}
use Rattle.twp_phrases.specs.Unread.{connectives}
use Rattle.twp_phrases.proofs.UnreadFacts.{all_runs, passed}
use Rattle.twp_phrases.proofs.stretches.runs_of.Goals as goal

pub loop-word-preserved : goal.loop-word-preserved
loop-word-preserved c =
    let joins : is_one_of (slice_range c.args.left.now c.in-Some.word.start c.in-Some.word.end) connectives
    ≡ true = cc in (
      c.in-Some.ensures.within,
      passed c.args.left.now c.loop-word.at c.loop-word.runs.items c.in-Some.word c.loop-word.invariant.1
          c.in-Some.ensures joins,
    )

pub returns : goal.returns
returns c =
    all_runs c.args.left.now c.loop-word.at c.loop-word.runs.items c.loop-word.invariant.1
    c.loop-word.invariant.0 c.in_default.ensures
