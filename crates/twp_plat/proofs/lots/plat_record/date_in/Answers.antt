-- The record has a sixth field.
use Rattle.std.proofs.Common.{◌≡◌, inl, inr, arith, length}
use Rattle.csv.specs.Records.{fields_of}
use Rattle.twp_plat.proofs.lots.DateFacts.{dated}
use Rattle.twp_plat.proofs.lots.plat_record.date_in.Goals as goal

pub returns : goal.returns
returns c =
    let long = c.len.ensures in
    let six : length (fields_of c.args.row.now) ≡ 6 = elim c.requires [
      | inl five ↦ let not = c.if-len-eq-FIELDS.false in absurd (omega (arith, five, long, not))
      | inr six ↦ six
    ] in
    dated (fields_of c.args.row.now) c.date_of.result six (rw c.field.ensures at c.date_of.ensures)
