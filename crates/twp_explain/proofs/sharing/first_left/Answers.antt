-- The next tract shares land with the one at the index, or doesn't.
use Rattle.std.proofs.Common.{rules, sym, ◌∙◌}
use Rattle.twp_grid.specs.Lands.{lotting}
use Rattle.twp_notes.specs.Records.{record_at, records_left}
use Rattle.twp_notes.proofs.Taking.{next_record_is}
use Rattle.twp_explain.proofs.SharingFacts.{no_overlap, none_more}
use Rattle.twp_explain.proofs.sharing.first_left.Goals as goal

pub records-preserved : goal.records-preserved
records-preserved g c =
    let rows = records_left c.args.records.now in
    let next = rw c.if-not-branch.false at c.in_ok-read.ensures in
    let is =
    next_record_is rows c.records.earlier _ _ (sym c.records.invariant.rest ∙ next.0) in
    record {
      reading = next.1;
      rest = is.after;
      apart =
          none_more (lotting (g.P.Lotting.layout c.args.lots.now)) c.args.township rows c.args.index
          c.records.earlier c.records.invariant.apart
          (no_overlap (lotting (g.P.Lotting.layout c.args.lots.now)) c.args.township
          (record_at rows c.records.earlier) (record_at rows c.args.index) _ _
          (rw (← is.is) at (c.in_ok-land_into.ensures c.if-not-branch-2.false)) c.requires.land
          (λ shared. absurd (cc (c.meets_land.ensures.1 shared, c.if-meets_land.false))));
    }

pub returns-then-meets_land : goal.returns-then-meets_land
returns-then-meets_land g c =
    let rows = records_left c.args.records.now in
    let next = rw c.if-not-branch.false at c.in_ok-read.ensures in
    let is =
    next_record_is rows c.records.earlier _ _ (sym c.records.invariant.rest ∙ next.0) in
    record {
      is_earlier = search rules;
      overlap = record {
        places = _;
        more = g.L.PlaceSet.places c.args.land.now;
        land = rw (← is.is) at (c.in_ok-land_into.ensures c.if-not-branch-2.false);
        other_land = c.requires.land;
        shared = c.meets_land.ensures.0 c.if-meets_land.true;
      };
      first = c.records.invariant.apart;
      common_is = c.keep_common.ensures;
    }
