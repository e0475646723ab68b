-- There may be a note on what has an account; the fault that is explained is the list's first; or memory ran
-- out.
use Rattle.std.proofs.Common.{◌≡◌, Some, sym, subst, ◌∙◌}
use Rattle.twp_answers.specs.LotTractFaults.{IsFirstFaultByLots}
use Rattle.twp_answers.specs.TractFaults.{refusal_of}
use Rattle.twp_calls.specs.Calls.{no_memory}
use Rattle.twp_calls.specs.LotCalls.{by_lots}
use Rattle.twp_diagnose.specs.ShownMessages.{ShowsIn}
use Rattle.twp_calls.proofs.CallFacts.{held_by, kept_list, refused_verdict}
use Rattle.twp_calls.proofs.LotListFacts.{explained_list_by, noted_list_by}
use Rattle.twp_calls.proofs.ExplanationPartFacts.{kept_clear, noted_in_parts, or_no_memory}
use Rattle.twp_calls.proofs.ExplanationPartFacts.{parts_not_accepted}
use Rattle.twp_calls.proofs.ExplanationPartFacts.{shown_in_parts}
use Rattle.twp_calls.proofs.explaining_lists_by_lots.township_lots_explain_list_parts.Goals as goal

pub returns-in-Ok-clause-answer : goal.returns-in-Ok-clause-answer
returns-in-Ok-clause-answer c =
    by_lots c.in-Some.township c.in-Some.ensures
    (noted_list_by _ c.in-Some.township c.args.lots.now.lots c.args.list.now c.args.text.now
    c.put_noted.new.text c.put_noted.result c.in-Ok.field-0.tracts.items c.in-Ok.field-0.total
    c.note_tracts_without_acres.result c.in-Ok.ensures.account c.put_noted.ensures.noted)

pub returns-in-Ok-clause-kept : goal.returns-in-Ok-clause-kept
returns-in-Ok-clause-kept c = λ none. c.put_noted.ensures.kept none.0

pub returns-in-Ok-clause-notes : goal.returns-in-Ok-clause-notes
returns-in-Ok-clause-notes c =
    noted_in_parts c.args.list.now c.args.name.now c.args.text.now c.put_noted.new.text
    c.args.explanation.now c.put_noted.new.explanation c.put_noted.result c.given-file.result
    c.note_tracts_without_acres.result
    (record {
      name_is = c.given-file.ensures.name;
      bytes_are = c.given-file.ensures.bytes;
      first_line_is = c.given-file.ensures.first_line;
    })
    c.note_tracts_without_acres.ensures.shows c.put_noted.ensures.noted c.put_noted.ensures.parts

pub returns-in-Ok-clause-kept_parts : goal.returns-in-Ok-clause-kept_parts
returns-in-Ok-clause-kept_parts c = λ none. c.put_noted.ensures.kept_parts none.0

pub returns-in-Ok-clause-kept_if_clear : goal.returns-in-Ok-clause-kept_if_clear
returns-in-Ok-clause-kept_if_clear c =
    kept_clear c.args.text.now c.put_noted.new.text c.args.explanation.now c.put_noted.new.explanation
    c.put_noted.result c.given-file.result c.note_tracts_without_acres.result
    c.note_tracts_without_acres.ensures.shows
    c.put_noted.ensures.noted c.put_noted.ensures.parts

pub returns-in_default-refusal-clause-answer : goal.returns-in_default-refusal-clause-answer
returns-in_default-refusal-clause-answer c =
    by_lots c.in-Some.township c.in-Some.ensures (no_memory c.bare-in_default-refusal.ensures)

pub returns-in-Ok-Some-clause-answer : goal.returns-in-Ok-Some-clause-answer
returns-in-Ok-Some-clause-answer c =
    by_lots c.in-Some.township c.in-Some.ensures
    (or_no_memory _ _ c.of_fault-refused.result c.in-Ok-Some.explained.explanation c.args.text.now
    c.put_explained.new.text c.put_explained.new.explanation c.put_explained.result
    c.put_explained.ensures.explained
    (λ puts.
    explained_list_by c.in-Some.township c.args.lots.now.lots c.args.list.now c.args.text.now
    c.put_explained.new.text
    c.of_fault-refused.result c.put_explained.result c.in-Err.fault _
    (sym c.refusal.ensures ∙ c.in-Some-refusal.is) c.in-Err.ensures.fault c.of_fault-refused.ensures
    (record {
      explanation = c.in-Ok-Some.explained.explanation;
      is_such = record {
        fault = c.in-Ok-Some.explained.fault;
        first =
            subst (λ bytes.
            IsFirstFaultByLots c.in-Some.township c.args.lots.now.lots bytes c.in-Ok-Some.explained.fault)
            c.given-file.ensures.bytes
            (held_by (λ explained.
            IsFirstFaultByLots c.in-Some.township c.args.lots.now.lots c.given-file.result.bytes.now
            explained.fault)
            c.in-Ok-Some.field-0 c.in-Ok-Some.explained c.in-Ok-Some.field-0-is c.in-Ok-Some.ensures.first);
        refusal_is =
            held_by (λ explained. refusal_of explained.fault ≡ Some explained.explanation.refusal)
            c.in-Ok-Some.field-0
            c.in-Ok-Some.explained c.in-Ok-Some.field-0-is c.in-Ok-Some.ensures.refusal;
      };
      explained_is = puts;
    })))

pub returns-in-Ok-Some-clause-kept : goal.returns-in-Ok-Some-clause-kept
returns-in-Ok-Some-clause-kept c =
    λ none. kept_list c.args.text.now c.put_explained.new.text c.of_fault-refused.result
    c.put_explained.result c.in-Err.fault _ (sym c.refusal.ensures ∙ c.in-Some-refusal.is)
    c.of_fault-refused.ensures c.put_explained.ensures.kept none.1

pub returns-in-Ok-Some-clause-kept_parts : goal.returns-in-Ok-Some-clause-kept_parts
returns-in-Ok-Some-clause-kept_parts c =
    λ none. kept_list c.args.explanation.now c.put_explained.new.explanation c.of_fault-refused.result
    c.put_explained.result c.in-Err.fault _ (sym c.refusal.ensures ∙ c.in-Some-refusal.is)
    c.of_fault-refused.ensures c.put_explained.ensures.kept_parts none.1

pub returns-in-Ok-None-clause-answer : goal.returns-in-Ok-None-clause-answer
returns-in-Ok-None-clause-answer c =
    by_lots c.in-Some.township c.in-Some.ensures (no_memory c.bare-in-Ok-None.ensures)

pub returns-in-Err-explain_tracts_by_lots-clause-answer :
    goal.returns-in-Err-explain_tracts_by_lots-clause-answer
returns-in-Err-explain_tracts_by_lots-clause-answer c =
    by_lots c.in-Some.township c.in-Some.ensures (no_memory c.bare-in-Err-explain_tracts_by_lots.ensures)

pub returns-in-Ok-Some-clause-shows : goal.returns-in-Ok-Some-clause-shows
returns-in-Ok-Some-clause-shows c =
    shown_in_parts c.args.list.now c.args.name.now c.args.text.now c.put_explained.new.text
    c.put_explained.new.explanation c.of_fault-refused.result c.put_explained.result c.given-file.result
    c.in-Ok-Some.explained.explanation
    (record {
      name_is = c.given-file.ensures.name;
      bytes_are = c.given-file.ensures.bytes;
      first_line_is = c.given-file.ensures.first_line;
    })
    (held_by (λ explained. ShowsIn c.given-file.result explained.explanation) c.in-Ok-Some.field-0
    c.in-Ok-Some.explained c.in-Ok-Some.field-0-is c.in-Ok-Some.ensures.shows)
    c.put_explained.ensures.explained

pub returns-in-Ok-Some-clause-notes : goal.returns-in-Ok-Some-clause-notes
returns-in-Ok-Some-clause-notes c = λ accepts. absurd
    (parts_not_accepted c.of_fault-refused.result _ _ _ _ c.put_explained.result
    (refused_verdict c.of_fault-refused.result c.in-Err.fault _
    (sym c.refusal.ensures ∙ c.in-Some-refusal.is) c.of_fault-refused.ensures)
    c.put_explained.ensures.explained accepts)

pub returns-in-Ok-Some-clause-kept_if_clear : goal.returns-in-Ok-Some-clause-kept_if_clear
returns-in-Ok-Some-clause-kept_if_clear c = λ accepts. absurd
    (parts_not_accepted c.of_fault-refused.result _ _ _ _ c.put_explained.result
    (refused_verdict c.of_fault-refused.result c.in-Err.fault _
    (sym c.refusal.ensures ∙ c.in-Some-refusal.is) c.of_fault-refused.ensures)
    c.put_explained.ensures.explained accepts)
