-- No lot was added yet.
use Rattle.std.proofs.Common.{◌≡◌, ◌-◌, refl}
use Rattle.twp_plat.proofs.lots.EntryFacts.{no_entry_of, no_entry}
use Rattle.twp_plat.proofs.lots.land_entries.LotEntries.none.Goals as goal

pub returns : goal.returns
returns c = record {
  figures = λ section lot. no_entry_of 36 (section - 1) (lot - 1);
  counts = λ section. no_entry 36 (section - 1);
  count = refl;
}
