-- One more tract was passed, or the next one is that at the index.
use Rattle.std.proofs.Common.{arith, sym, ◌∙◌, ◌≡◌}
use Rattle.std.proofs.lemmas.Result.{IfOk-weaker}
use Rattle.std.proofs.lemmas.Bool.Decides.{when_true}
use Rattle.twp_notes.specs.Records.{records_left}
use Rattle.twp_notes.proofs.Taking.{next_record_is}
use Rattle.twp_explain.proofs.sharing.read_tract.Goals as goal

pub records-preserved : goal.records-preserved
records-preserved c =
    let next = rw c.if-not-branch.false at c.in_ok-read.ensures in
    let is =
    next_record_is (records_left c.args.records.now) c.records.passed _ _
    (sym c.records.invariant.rest ∙ next.0) in
    record { reading = next.1; rest = is.after }

pub returns : goal.returns
returns c =
    let end : c.records.passed ≡ c.args.index = omega arith in
    let rest = rw end at c.records.invariant.rest in
    IfOk-weaker c.read-2.result _ _ (λ found next is_found.
    let now = when_true _ _ is_found next in
    sym (next_record_is (records_left c.args.records.now) c.args.index _ _ (sym rest ∙ now.0)).is)
    c.read-2.ensures
