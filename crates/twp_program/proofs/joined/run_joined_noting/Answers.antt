-- The two parts of the joined bytes are the notes and the description.
use Rattle.std.proofs.Common.{◌==◌, ℕ, List, [], Some, ap, refl, subst, ◌∙◌}
use Rattle.std.specs.Prelude.{unwrap_or}
use Rattle.std.specs.List.{before_first, after_first}
use Rattle.twp_read.specs.Doubts.{HasNoDoubtfulPlace}
use Rattle.twp_program.specs.Joined.{joined_bytes, joined_notes, joined_description}
use Rattle.twp_answers.proofs.RunFacts.{some_bytes, told_are, told_one, keeps_nothing, none_failed_of}
use Rattle.twp_program.proofs.joined.run_joined_noting.Goals as goal

pub returns-in-Err-clause-ran : goal.returns-in-Err-clause-ran
returns-in-Err-clause-ran g c =
    let told = g.R.Source.remaining c.args.input.now in
    record {
      bytes = unwrap_or told [];
      tells = some_bytes told;
      holds = rw (c.failed.ensures.outcome, c.from.ensures) (keeps_nothing _ _ c.in-Err.fault);
    }

pub returns-clause-ran : goal.returns-clause-ran
unfolding joined_bytes
returns-clause-ran g c =
    let read = c.in-Ok.ensures.bytes in
    let bytes = c.as_slice.ensures.value ∙ read.2 in
    let notes =
    c.new.ensures ∙ c.split_at_line_feed.ensures.after ∙ ap (after_first (λ byte. byte == 10)) bytes in
    let description =
    c.new-2.ensures ∙ c.split_at_line_feed.ensures.before ∙ ap (before_first (λ byte. byte == 10)) bytes in
    record {
      bytes = read.0;
      tells = read.1;
      holds = c.run_acres_noting.ensures.run.told (joined_notes read.0) (joined_description read.0)
          (ap (λ (b : List ℕ). Some b) notes) (ap (λ (b : List ℕ). Some b) description);
    }

pub returns-clause-told : goal.returns-clause-told
returns-clause-told g c bytes is = told_one _ bytes _ (returns-clause-ran g c) is

pub returns-clause-clear : goal.returns-clause-clear
unfolding joined_bytes
returns-clause-clear g c bytes is clear =
    let read = c.in-Ok.ensures.bytes in
    let same = told_are _ bytes read.0 is read.1 in
    let description =
    c.new-2.ensures ∙ c.split_at_line_feed.ensures.before
    ∙ ap (before_first (λ byte. byte == 10)) (c.as_slice.ensures.value ∙ read.2) in
    subst (λ (b : List ℕ). HasNoDoubtfulPlace (joined_description b)) same
    (c.run_acres_noting.ensures.clear (joined_description read.0) (ap (λ (b : List ℕ). Some b) description)
    clear)

-- the bytes that were read are sources that never fail
pub returns-clause-read : goal.returns-clause-read
returns-clause-read g c = (
  (λ is. absurd (none_failed_of _ _ refl refl (c.run_acres_noting.ensures.run.read.0 is))),
  (λ failed. cc (c.in-Ok.ensures.failed.1 failed)),
)

pub returns-clause-answers : goal.returns-clause-answers
returns-clause-answers g c _ out_open = c.run_acres_noting.ensures.run.answers refl refl out_open
