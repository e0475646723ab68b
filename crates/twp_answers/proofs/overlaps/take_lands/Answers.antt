-- The next record's land is found; if none is left, all were.
use Rattle.std.proofs.Common.{◌≡◌, sym, ◌∙◌, length, subst, arith}
use Rattle.twp_notes.specs.Records.{records_left}
use Rattle.twp_notes.proofs.Taking.{next_record_is, no_record_left}
use Rattle.twp_answers.specs.steps.OverlapTaking.{AreLandsTo}
use Rattle.twp_answers.proofs.OverlapFacts.{lands_next, whole_lands}
use Rattle.twp_answers.proofs.overlaps.take_lands.Goals as goal

pub records-preserved : goal.records-preserved
records-preserved g c =
    let rows = records_left c.args.records.now in
    let next = rw c.if-branch.true at c.in_ok-read.ensures in
    let is = next_record_is rows c.records.taken _ _ (sym c.records.invariant.rest ∙ next.0) in
    record {
      reading = next.1;
      rest = is.after;
      within = omega (arith, is.within);
      few = omega arith;
      lands =
          rw c.in_ok-push.ensures.items
          (lands_next g.L.PlaceSet.places (g.M.Measuring.measure c.args.by.now).lots
          (g.M.Measuring.measure c.args.by.now).township rows c.records.taken _ _ c.records.invariant.lands
          (rw is.is c.in_ok-land.ensures));
    }

pub returns-clause-few : goal.returns-clause-few
returns-clause-few g c =
    let none = rw c.if-branch.false at c.in_ok-read.ensures in
    let short =
    no_record_left (records_left c.args.records.now) c.records.taken (sym c.records.invariant.rest ∙ none) in
    omega arith

pub returns-clause-lands : goal.returns-clause-lands
returns-clause-lands g c =
    let rows = records_left c.args.records.now in
    let none = rw c.if-branch.false at c.in_ok-read.ensures in
    let short = no_record_left rows c.records.taken (sym c.records.invariant.rest ∙ none) in
    let all : c.records.taken ≡ length rows = omega arith in
    subst (λ count.
    AreLandsTo g.L.PlaceSet.places (g.M.Measuring.measure c.args.by.now).lots
    (g.M.Measuring.measure c.args.by.now).township rows count c.records.lands.items) all
    c.records.invariant.lands

pub returns-clause-whole : goal.returns-clause-whole
returns-clause-whole g c =
    let rows = records_left c.args.records.now in
    let none = rw c.if-branch.false at c.in_ok-read.ensures in
    let short = no_record_left rows c.records.taken (sym c.records.invariant.rest ∙ none) in
    let all : c.records.taken ≡ length rows = omega arith in
    whole_lands g.L.PlaceSet.places (g.M.Measuring.measure c.args.by.now).lots
    (g.M.Measuring.measure c.args.by.now).township rows c.records.lands.items
    (subst (λ count.
    AreLandsTo g.L.PlaceSet.places (g.M.Measuring.measure c.args.by.now).lots
    (g.M.Measuring.measure c.args.by.now).township rows count c.records.lands.items) all
    c.records.invariant.lands)
