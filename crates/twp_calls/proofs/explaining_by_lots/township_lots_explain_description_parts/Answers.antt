-- The refusal that is explained is the description's own, or that of the first lot that the table lacks; of
-- what has an area by the table, the first doubtful place is noted; or memory ran out.
use Rattle.std.proofs.Common.{IfOk, subst, ap, inl}
use Rattle.twp_plat.specs.LotTables.{lots_of}
use Rattle.twp_answers.specs.Answers.{IsNoDescription}
use Rattle.twp_diagnose.specs.ShownMessages.{ShowsIn}
use Rattle.twp_explain.specs.ExplainedPlaces.{IsExplainedWhereRefused}
use Rattle.twp_explain.specs.ShownNotes.{IsNoteOf}
use Rattle.twp_calls.specs.Calls.{refused_for, no_memory}
use Rattle.twp_calls.specs.LotCalls.{by_lots}
use Rattle.twp_calls.specs.LotExplanations.{explained_land}
use Rattle.twp_calls.proofs.CallFacts.{held_by}
use Rattle.twp_calls.proofs.ExplanationPartFacts.{kept_clear, noted_in_parts, or_no_memory}
use Rattle.twp_calls.proofs.ExplanationPartFacts.{parts_not_accepted, shown_in_parts}
use Rattle.twp_calls.proofs.LotExplanationFacts.{explained_by_lot}
use Rattle.twp_calls.proofs.NoteFacts.{noted_by_lots}
use Rattle.twp_calls.proofs.PlaceFacts.{refused_where}
use Rattle.twp_calls.proofs.explaining_by_lots.township_lots_explain_description_parts.Goals as goal

pub returns-in-Err-Failed-clause-answer : goal.returns-in-Err-Failed-clause-answer
returns-in-Err-Failed-clause-answer c =
    by_lots c.in-Some.township c.in-Some.ensures (no_memory c.bare-in-Err-Failed.ensures)

pub returns-in-Ok-Some-clause-answer : goal.returns-in-Ok-Some-clause-answer
returns-in-Ok-Some-clause-answer c =
    by_lots c.in-Some.township c.in-Some.ensures
    (or_no_memory _ _ c.of_refusal-refused.result c.in-Ok-Some.explained c.args.text.now
    c.put_explained.new.text c.put_explained.new.explanation c.put_explained.result
    c.put_explained.ensures.explained
    (λ puts. refused_for (explained_land (refused_where c.in-Some.township c.args.description.now
    c.args.text.now c.put_explained.new.text c.given-file.result c.in-Err-Refused.field-0
    c.in-Err-Refused.refusal c.in-Ok-Some.explained c.of_refusal-refused.result c.put_explained.result
    c.in-Err-Refused.field-0-is c.in-Err-Refused.ensures c.given-file.ensures.bytes
    c.given-file.ensures.first_line
    (held_by (λ explained.
    IsNoDescription (lots_of c.args.lots.now.lots) c.in-Some.township c.given-file.result.bytes.now
    explained.refusal)
    c.in-Ok-Some.field-0 c.in-Ok-Some.explained c.in-Ok-Some.field-0-is c.in-Ok-Some.ensures.refusal)
    (held_by (IsExplainedWhereRefused c.given-file.result) c.in-Ok-Some.field-0 c.in-Ok-Some.explained
    c.in-Ok-Some.field-0-is c.in-Ok-Some.ensures.spot)
    c.of_refusal-refused.ensures puts))))

pub returns-in-Ok-Some-clause-shows : goal.returns-in-Ok-Some-clause-shows
returns-in-Ok-Some-clause-shows c =
    shown_in_parts c.args.description.now c.args.name.now c.args.text.now c.put_explained.new.text
    c.put_explained.new.explanation c.of_refusal-refused.result c.put_explained.result c.given-file.result
    c.in-Ok-Some.explained
    (record {
      name_is = c.given-file.ensures.name;
      bytes_are = c.given-file.ensures.bytes;
      first_line_is = c.given-file.ensures.first_line;
    })
    (held_by (ShowsIn c.given-file.result) c.in-Ok-Some.field-0 c.in-Ok-Some.explained
    c.in-Ok-Some.field-0-is c.in-Ok-Some.ensures.shows)
    c.put_explained.ensures.explained

pub returns-in-Ok-Some-clause-notes : goal.returns-in-Ok-Some-clause-notes
returns-in-Ok-Some-clause-notes c = λ accepts. absurd
    (parts_not_accepted c.of_refusal-refused.result _ _ _ _ c.put_explained.result
    (inl (ap (λ explained. explained.verdict) c.of_refusal-refused.ensures))
    c.put_explained.ensures.explained accepts)

pub returns-in-Ok-Some-clause-kept_if_clear : goal.returns-in-Ok-Some-clause-kept_if_clear
returns-in-Ok-Some-clause-kept_if_clear c = λ accepts. absurd
    (parts_not_accepted c.of_refusal-refused.result _ _ _ _ c.put_explained.result
    (inl (ap (λ explained. explained.verdict) c.of_refusal-refused.ensures))
    c.put_explained.ensures.explained accepts)

pub returns-in-Ok-None-clause-answer : goal.returns-in-Ok-None-clause-answer
returns-in-Ok-None-clause-answer c =
    by_lots c.in-Some.township c.in-Some.ensures (no_memory c.bare-in-Ok-None.ensures)

pub returns-in-Err-clause-answer : goal.returns-in-Err-clause-answer
returns-in-Err-clause-answer c =
    by_lots c.in-Some.township c.in-Some.ensures (no_memory c.bare-in-Err.ensures)

pub returns-in-Ok-area_by_lots-clause-answer : goal.returns-in-Ok-area_by_lots-clause-answer
returns-in-Ok-area_by_lots-clause-answer c =
    by_lots c.in-Some.township c.in-Some.ensures
    (noted_by_lots _ c.args.lots.now c.in-Some.township c.args.description.now c.args.text.now
    c.put_noted.new.text c.put_noted.result c.in-Ok-area_by_lots.field-0 c.note_without_acres.result
    (record {
      places = _;
      described = c.in-Ok.ensures;
      holds = record {
        figures = c.in-Ok-area_by_lots.ensures.figures;
        area_is = c.in-Ok-area_by_lots.ensures.area;
      };
    })
    (subst (λ bytes. IfOk c.note_without_acres.result (IsNoteOf bytes)) c.given-file.ensures.bytes
    c.note_without_acres.ensures.note)
    c.put_noted.ensures.noted)

pub returns-in-Ok-area_by_lots-clause-kept_if_clear : goal.returns-in-Ok-area_by_lots-clause-kept_if_clear
returns-in-Ok-area_by_lots-clause-kept_if_clear c =
    kept_clear c.args.text.now c.put_noted.new.text c.args.explanation.now c.put_noted.new.explanation
    c.put_noted.result c.given-file.result c.note_without_acres.result c.note_without_acres.ensures.shows
    c.put_noted.ensures.noted c.put_noted.ensures.parts

pub returns-in-Ok-area_by_lots-clause-notes : goal.returns-in-Ok-area_by_lots-clause-notes
returns-in-Ok-area_by_lots-clause-notes c =
    noted_in_parts c.args.description.now c.args.name.now c.args.text.now c.put_noted.new.text
    c.args.explanation.now c.put_noted.new.explanation c.put_noted.result c.given-file.result
    c.note_without_acres.result
    (record {
      name_is = c.given-file.ensures.name;
      bytes_are = c.given-file.ensures.bytes;
      first_line_is = c.given-file.ensures.first_line;
    })
    c.note_without_acres.ensures.shows c.put_noted.ensures.noted c.put_noted.ensures.parts

pub returns-in-Ok-explain_lacking-clause-answer : goal.returns-in-Ok-explain_lacking-clause-answer
returns-in-Ok-explain_lacking-clause-answer c =
    by_lots c.in-Some.township c.in-Some.ensures
    (explained_by_lot _ c.args.lots.now c.in-Some.township c.args.description.now c.args.text.now
    c.put_explained-in-Ok-explain_lacking.new.text c.of_refusal-refused-in-Ok-explain_lacking.result
    c.in-Ok-explain_lacking.explained c.put_explained-in-Ok-explain_lacking.new.explanation
    c.put_explained-in-Ok-explain_lacking.result _ c.in-Err-area_by_lots.lot.section
    c.in-Err-area_by_lots.lot.number c.in-Ok.ensures c.in-Err-area_by_lots.ensures.lacking
    c.in-Ok-explain_lacking.ensures.refusal c.of_refusal-refused-in-Ok-explain_lacking.ensures
    c.put_explained-in-Ok-explain_lacking.ensures.explained)

pub returns-in-Ok-explain_lacking-clause-shows : goal.returns-in-Ok-explain_lacking-clause-shows
returns-in-Ok-explain_lacking-clause-shows c =
    shown_in_parts c.args.description.now c.args.name.now c.args.text.now
    c.put_explained-in-Ok-explain_lacking.new.text
    c.put_explained-in-Ok-explain_lacking.new.explanation
    c.of_refusal-refused-in-Ok-explain_lacking.result c.put_explained-in-Ok-explain_lacking.result
    c.given-file.result c.in-Ok-explain_lacking.explained
    (record {
      name_is = c.given-file.ensures.name;
      bytes_are = c.given-file.ensures.bytes;
      first_line_is = c.given-file.ensures.first_line;
    })
    c.in-Ok-explain_lacking.ensures.shows c.put_explained-in-Ok-explain_lacking.ensures.explained

pub returns-in-Err-explain_lacking-clause-answer : goal.returns-in-Err-explain_lacking-clause-answer
returns-in-Err-explain_lacking-clause-answer c =
    by_lots c.in-Some.township c.in-Some.ensures (no_memory c.bare-in-Err-explain_lacking.ensures)
