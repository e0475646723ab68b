-- The first doubtful place is noted of what has an area; the refusal that is explained is the description's
-- own; or memory ran out.
use Rattle.std.proofs.Common.{IfOk, subst, ap, inl}
use Rattle.twp_calls.specs.Calls.{refused_for, no_memory, on_plat}
use Rattle.twp_answers.specs.Answers.{IsNoDescription}
use Rattle.twp_diagnose.specs.ShownMessages.{ShowsIn}
use Rattle.twp_explain.specs.ShownNotes.{IsNoteOf}
use Rattle.twp_calls.proofs.CallFacts.{held_by}
use Rattle.twp_calls.proofs.NoteFacts.{noted_on}
use Rattle.twp_calls.proofs.ExplanationPartFacts.{kept_clear, noted_in_parts, or_no_memory}
use Rattle.twp_calls.proofs.ExplanationPartFacts.{parts_not_accepted}
use Rattle.twp_calls.proofs.ExplanationPartFacts.{shown_in_parts}
use Rattle.twp_calls.proofs.PlaceFacts.{refused_where}
use Rattle.twp_explain.specs.ExplainedPlaces.{IsExplainedWhereRefused}
use Rattle.twp_calls.proofs.explaining.township_explain_description_parts.Goals as goal
use Rattle.twp_grid.specs.Lands.{STANDARD_LOTS}

pub returns-in-Ok-clause-answer : goal.returns-in-Ok-clause-answer
returns-in-Ok-clause-answer c =
    on_plat c.in-Some.plat c.in-Some.ensures
    (noted_on _ c.in-Some.plat c.args.description.now c.args.text.now c.put_noted.new.text c.put_noted.result
    c.in-Ok.field-0 c.note_description.result c.in-Ok.ensures
    (subst (λ bytes. IfOk c.note_description.result (IsNoteOf bytes)) c.given-file.ensures.bytes
    c.note_description.ensures.note)
    c.put_noted.ensures.noted)

pub returns-in-Ok-clause-kept : goal.returns-in-Ok-clause-kept
returns-in-Ok-clause-kept c = λ none. c.put_noted.ensures.kept none.0

pub returns-in-Ok-clause-notes : goal.returns-in-Ok-clause-notes
returns-in-Ok-clause-notes c =
    noted_in_parts c.args.description.now c.args.name.now c.args.text.now c.put_noted.new.text
    c.args.explanation.now c.put_noted.new.explanation c.put_noted.result c.given-file.result
    c.note_description.result
    (record {
      name_is = c.given-file.ensures.name;
      bytes_are = c.given-file.ensures.bytes;
      first_line_is = c.given-file.ensures.first_line;
    })
    c.note_description.ensures.shows c.put_noted.ensures.noted c.put_noted.ensures.parts

pub returns-in-Ok-clause-kept_parts : goal.returns-in-Ok-clause-kept_parts
returns-in-Ok-clause-kept_parts c = λ none. c.put_noted.ensures.kept_parts none.0

pub returns-in-Ok-clause-kept_if_clear : goal.returns-in-Ok-clause-kept_if_clear
returns-in-Ok-clause-kept_if_clear c =
    kept_clear c.args.text.now c.put_noted.new.text c.args.explanation.now c.put_noted.new.explanation
    c.put_noted.result c.given-file.result c.note_description.result c.note_description.ensures.shows
    c.put_noted.ensures.noted c.put_noted.ensures.parts

pub returns-in-Err-Failed-clause-answer : goal.returns-in-Err-Failed-clause-answer
returns-in-Err-Failed-clause-answer c =
    on_plat c.in-Some.plat c.in-Some.ensures (no_memory c.bare-in-Err-Failed.ensures)

pub returns-in-Ok-Some-clause-answer : goal.returns-in-Ok-Some-clause-answer
returns-in-Ok-Some-clause-answer c =
    on_plat c.in-Some.plat c.in-Some.ensures
    (or_no_memory _ _ c.of_refusal-refused.result c.in-Ok-Some.explained c.args.text.now
    c.put_explained.new.text c.put_explained.new.explanation c.put_explained.result
    c.put_explained.ensures.explained
    (λ puts. refused_for (refused_where c.in-Some.plat.township c.args.description.now c.args.text.now
    c.put_explained.new.text c.given-file.result c.in-Err-Refused.field-0 c.in-Err-Refused.refusal
    c.in-Ok-Some.explained
    c.of_refusal-refused.result c.put_explained.result c.in-Err-Refused.field-0-is c.in-Err-Refused.ensures
    c.given-file.ensures.bytes c.given-file.ensures.first_line
    (subst (λ township.
    IsNoDescription STANDARD_LOTS township c.given-file.result.bytes.now c.in-Ok-Some.explained.refusal)
    c.township.ensures
    (held_by (λ explained.
    IsNoDescription STANDARD_LOTS c.township.result c.given-file.result.bytes.now explained.refusal)
    c.in-Ok-Some.field-0 c.in-Ok-Some.explained c.in-Ok-Some.field-0-is c.in-Ok-Some.ensures.refusal))
    (held_by (IsExplainedWhereRefused c.given-file.result) c.in-Ok-Some.field-0 c.in-Ok-Some.explained
    c.in-Ok-Some.field-0-is c.in-Ok-Some.ensures.spot)
    c.of_refusal-refused.ensures puts)))

pub returns-in-Ok-None-clause-answer : goal.returns-in-Ok-None-clause-answer
returns-in-Ok-None-clause-answer c =
    on_plat c.in-Some.plat c.in-Some.ensures (no_memory c.bare-in-Ok-None.ensures)

pub returns-in-Err-clause-answer : goal.returns-in-Err-clause-answer
returns-in-Err-clause-answer c =
    on_plat c.in-Some.plat c.in-Some.ensures (no_memory c.bare-in-Err.ensures)

pub returns-in-Ok-Some-clause-shows : goal.returns-in-Ok-Some-clause-shows
returns-in-Ok-Some-clause-shows c =
    shown_in_parts c.args.description.now c.args.name.now c.args.text.now c.put_explained.new.text
    c.put_explained.new.explanation c.of_refusal-refused.result c.put_explained.result c.given-file.result
    c.in-Ok-Some.explained
    (record {
      name_is = c.given-file.ensures.name;
      bytes_are = c.given-file.ensures.bytes;
      first_line_is = c.given-file.ensures.first_line;
    })
    (held_by (ShowsIn c.given-file.result) c.in-Ok-Some.field-0 c.in-Ok-Some.explained
    c.in-Ok-Some.field-0-is c.in-Ok-Some.ensures.shows)
    c.put_explained.ensures.explained

pub returns-in-Ok-Some-clause-notes : goal.returns-in-Ok-Some-clause-notes
returns-in-Ok-Some-clause-notes c = λ accepts. absurd
    (parts_not_accepted c.of_refusal-refused.result _ _ _ _ c.put_explained.result
    (inl (ap (λ explained. explained.verdict) c.of_refusal-refused.ensures))
    c.put_explained.ensures.explained accepts)

pub returns-in-Ok-Some-clause-kept_if_clear : goal.returns-in-Ok-Some-clause-kept_if_clear
returns-in-Ok-Some-clause-kept_if_clear c = λ accepts. absurd
    (parts_not_accepted c.of_refusal-refused.result _ _ _ _ c.put_explained.result
    (inl (ap (λ explained. explained.verdict) c.of_refusal-refused.ensures))
    c.put_explained.ensures.explained accepts)
