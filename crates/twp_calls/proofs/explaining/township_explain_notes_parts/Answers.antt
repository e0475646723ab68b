-- The explanation is of the refusal of the notes; or memory ran out.
use Rattle.std.proofs.Common.{subst}
use Rattle.twp_answers.specs.Answers.{IsNoPlat}
use Rattle.twp_calls.specs.Calls.{refused_for}
use Rattle.twp_calls.specs.Explanations.{PutsExplanation}
use Rattle.twp_diagnose.specs.ShownMessages.{ShowsIn}
use Rattle.twp_calls.proofs.CallFacts.{refused_in, held_by}
use Rattle.twp_calls.proofs.ExplanationPartFacts.{or_no_memory, shown_in_parts}
use Rattle.twp_calls.proofs.explaining.township_explain_notes_parts.Goals as goal

pub returns-in-Ok-Some-clause-answer : goal.returns-in-Ok-Some-clause-answer
returns-in-Ok-Some-clause-answer c =
    or_no_memory _ _ c.of_refusal-refused.result c.in-Ok-Some.explained c.args.text.now
    c.put_explained.new.text c.put_explained.new.explanation c.put_explained.result
    c.put_explained.ensures.explained
    (λ puts. refused_for (record {
      refusal = c.in-Err-Refused.refusal;
      first =
          refused_in c.args.notes.now c.in-Err-Refused.field-0 c.in-Err-Refused.refusal
          c.in-Err-Refused.field-0-is c.in-Err-Refused.ensures;
      explained = record {
        explanation = c.in-Ok-Some.explained;
        is_such =
            subst (λ bytes. IsNoPlat bytes c.in-Ok-Some.explained.refusal) c.given.ensures.bytes
            (held_by (λ explained. IsNoPlat c.given.result.bytes.now explained.refusal) c.in-Ok-Some.field-0
            c.in-Ok-Some.explained c.in-Ok-Some.field-0-is c.in-Ok-Some.ensures.refusal);
        explained_is =
            subst
            (λ explained.
            PutsExplanation explained c.in-Ok-Some.explained c.args.text.now c.put_explained.new.text
            c.put_explained.result)
            c.of_refusal-refused.ensures puts;
      };
    }))

pub returns-in-Ok-Some-clause-shows : goal.returns-in-Ok-Some-clause-shows
returns-in-Ok-Some-clause-shows c =
    shown_in_parts c.args.notes.now c.args.name.now c.args.text.now c.put_explained.new.text
    c.put_explained.new.explanation c.of_refusal-refused.result c.put_explained.result c.given.result
    c.in-Ok-Some.explained
    (record {
      name_is = c.given.ensures.name;
      bytes_are = c.given.ensures.bytes;
      first_line_is = c.given.ensures.first_line;
    })
    (held_by (ShowsIn c.given.result) c.in-Ok-Some.field-0 c.in-Ok-Some.explained c.in-Ok-Some.field-0-is
    c.in-Ok-Some.ensures.shows)
    c.put_explained.ensures.explained
