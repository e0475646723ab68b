-- By the first line feed, and the byte before it.
use Rattle.std.proofs.Common.{◌+◌, ◌-◌, true, false, lt-ltb, le-ltb, eq-eqb, ne_eqb, slice_index}
use Rattle.twp_excerpt.proofs.LineEndFacts.{end_missing, end_found, both_tests, first_fails, second_fails}
use Rattle.twp_excerpt.proofs.excerpt.end_of_line.Goals as goal
use Rattle.twp_excerpt.proofs.excerpt.end_of_line.Goals.{else-end-start-via-else-end-start}
use Rattle.twp_excerpt.proofs.excerpt.end_of_line.Goals.{else-end-start-via-then-end-start+else-text-end-eq13}

pub returns-in_default-clause-value : goal.returns-in_default-clause-value
returns-in_default-clause-value c =
    end_missing c.args.text.now c.args.at c.args.start c.requires.within c.requires.starts
    c.in_default.ensures

pub returns-then-text-end-eq13-clause-value : goal.returns-then-text-end-eq13-clause-value
returns-then-text-end-eq13-clause-value c =
    end_found c.args.text.now c.args.at c.in-Some.feed c.args.start true c.requires.within c.requires.starts
    c.in-Some.ensures
    (both_tests _ _ (lt-ltb c.args.start (c.args.at + c.in-Some.feed) c.if-end-start.true)
    (eq-eqb (slice_index c.args.text.now (c.args.at + c.in-Some.feed - 1)) 13 c.if-text-end-eq13.true))

pub returns-else-end-start-clause-value : goal.returns-else-end-start-clause-value
returns-else-end-start-clause-value c = elim c.else-end-start.branch [
  | else-end-start-via-then-end-start+else-text-end-eq13 w ↦
      end_found c.args.text.now c.args.at c.in-Some.feed c.args.start false c.requires.within
      c.requires.starts
      c.in-Some.ensures
      (second_fails _ _ (lt-ltb c.args.start (c.args.at + c.in-Some.feed) w.if-end-start.true)
      (ne_eqb (slice_index c.args.text.now (c.args.at + c.in-Some.feed - 1)) 13 w.if-text-end-eq13.false))
  | else-end-start-via-else-end-start w ↦
      end_found c.args.text.now c.args.at c.in-Some.feed c.args.start false c.requires.within
      c.requires.starts
      c.in-Some.ensures
      (first_fails _ _ (le-ltb c.args.start (c.args.at + c.in-Some.feed) w.if-end-start.false))
]
