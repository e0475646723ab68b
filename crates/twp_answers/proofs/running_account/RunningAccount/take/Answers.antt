-- The tract was added, and its area is no larger than the remaining one.
use Rattle.std.proofs.Common.{ℕ, Bool, sym, subst}
use Rattle.csv.specs.Records.{fields_of}
use Rattle.twp_answers.specs.EarlierTracts.{earlier_of, TakesLand}
use Rattle.twp_answers.specs.steps.TractTaking.{AreTotals}
use Rattle.twp_answers.proofs.EarlierFacts.{taken_apart, taken_places}
use Rattle.twp_answers.proofs.TractAreas.{taken_from, totals_next}
use Rattle.twp_answers.proofs.running_account.RunningAccount.take.Goals as goal
use Rattle.twp_grid.specs.Lands.{STANDARD_LOTS}

pub take-requires-clause-part : goal.take-requires-clause-part
take-requires-clause-part g c =
    let more : ℕ → ℕ → ℕ → Bool = g.L.PlaceSet.places c.read.new.self.tract in
    let takes : TakesLand STANDARD_LOTS c.args.plat.now.township (fields_of c.args.row.now)
    (earlier_of g.L.PlaceSet.places c.args.self.now.tracts) (earlier_of g.L.PlaceSet.places c.add.new.self)
    more =
    record {
      read = earlier_of g.L.PlaceSet.places c.read.new.self;
      reads = rw c.township.ensures at c.in_ok-name.ensures.read;
      adds = c.in_ok-add.ensures.added;
    } in
    (taken_from c.args.plat.now (g.L.PlaceSet.places c.args.self.now.tracts.land) more c.area_of-area.result
    c.args.self.now.totals.remaining (taken_apart STANDARD_LOTS _ _ _ _ more takes)
    (rw c.in_ok-add.ensures.tract at c.area_of-area.ensures) c.requires.remaining_is).0

pub returns-clause-taken : goal.returns-clause-taken
returns-clause-taken g c =
    let more : ℕ → ℕ → ℕ → Bool = g.L.PlaceSet.places c.read.new.self.tract in
    let takes : TakesLand STANDARD_LOTS c.args.plat.now.township (fields_of c.args.row.now)
    (earlier_of g.L.PlaceSet.places c.args.self.now.tracts) (earlier_of g.L.PlaceSet.places c.add.new.self)
    more =
    record {
      read = earlier_of g.L.PlaceSet.places c.read.new.self;
      reads = rw c.township.ensures at c.in_ok-name.ensures.read;
      adds = c.in_ok-add.ensures.added;
    } in
    let area_is = rw c.in_ok-add.ensures.tract at c.area_of-area.ensures in
    record {
      more = more;
      takes = takes;
      hundredths = c.hundredths-hundredths.result;
      acres = record {
        area = c.area_of-area.result;
        area_is = area_is;
        rounded = c.hundredths-hundredths.ensures;
      };
      totals_are =
          subst (λ p. AreTotals c.args.plat.now p c.take.new.self)
          (sym (taken_places STANDARD_LOTS _ _ _ _ more takes))
          (totals_next c.args.plat.now _ _ _ _ c.area_of-area.result
          (taken_apart STANDARD_LOTS _ _ _ _ more takes) area_is
          c.requires c.take.ensures);
      text_is = rw c.in_ok-name.ensures.name at c.in_ok-write_tract.ensures.ok;
    }
