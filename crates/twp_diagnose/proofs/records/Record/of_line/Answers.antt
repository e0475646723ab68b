-- One more record was read that does not name the line.
use Rattle.std.proofs.Common.{◌≡◌, ◌++◌, ◌∷◌, ◌+◌, [], length, ap, sym, ◌∙◌, arith}
use Rattle.std.proofs.lemmas.List.{append_assoc, length_push}
use Rattle.csv.specs.Records.{fields_of}
use Rattle.twp_notes.specs.Records.{records_left}
use Rattle.twp_diagnose.proofs.RecordFacts.{none_names_more}
use Rattle.twp_diagnose.proofs.records.Record.of_line.Goals as goal

pub records-preserved : goal.records-preserved
records-preserved c =
    let is = c.records.invariant in
    let fields = fields_of c.read.new.row in
    let next = rw c.if-branch.true at c.in_ok-read.ensures in
    let size : length (is.before ++ fields ∷ []) ≡ length is.before + 1 = length_push is.before fields in
    record {
      reading = next.1;
      before = is.before ++ fields ∷ [];
      split =
          is.split ∙ ap (λ rows. is.before ++ rows) next.0
          ∙ sym (append_assoc is.before (fields ∷ []) (records_left c.read.new.self));
      none_before =
          none_names_more c.args.line is.before fields is.none_before
          (λ named. absurd (cc (c.names.ensures.1 named)));
      counted = omega (arith, size, is.counted, c.saturating_add-number.ensures);
    }
