-- A failure to read is returned whatever the bytes are.
use Rattle.std.proofs.Common.{◌≡◌, [], subst, sym}
use Rattle.std.specs.Prelude.{unwrap_or}
use Rattle.std.proofs.lemmas.Result.{err_from_is_err_and}
use Rattle.twp_notes.proofs.DeviceFacts.{tells_some}
use Rattle.twp_plat.proofs.lots.FirstPlatFaults.{answers_reading, too_large_first}
use Rattle.twp_plat.specs.LotsFaults.{IsFirstLotsFault}
use Rattle.twp_plat.specs.declared.lots.fault.LotsFault.TheVariants.{TooLarge}
use Rattle.twp_plat.proofs.lots.table.LotTable.read.Goals as goal

pub returns-in_err-bytes-clause-answer : goal.returns-in_err-bytes-clause-answer
returns-in_err-bytes-clause-answer g c =
    let known = g.R.Source.remaining c.args.source.now in
    let gone = err_from_is_err_and c.from_residual.result c.from_residual.ensures.1 in
    (unwrap_or known [], tells_some known, rw (gone.1, gone.2) (answers_reading _ c.in_err-bytes.field-0.0))

pub returns-in-None-clause-told : goal.returns-in-None-clause-told
returns-in-None-clause-told g c bytes known =
    let is = rw c.in-None.is at c.in_ok-bytes.ensures.bytes in
    let same : bytes ≡ is.0 = rw known at is.1 in
    subst (λ b. IsFirstLotsFault b TooLarge) (sym same) (too_large_first is.0 is.2)
