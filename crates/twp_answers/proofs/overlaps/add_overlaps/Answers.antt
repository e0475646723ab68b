-- One pair more was compared.
use Rattle.std.proofs.Common.{◌≡◌, sym, subst, arith}
use Rattle.twp_notes.specs.Records.{record_at}
use Rattle.twp_answers.specs.steps.OverlapTaking.{AreFoundTo, IsLandOfRecord}
use Rattle.twp_answers.proofs.OverlapFacts.{compared}
use Rattle.twp_answers.proofs.overlaps.add_overlaps.Goals as goal

pub loop-first-preserved : goal.loop-first-preserved
loop-first-preserved g c = λ rows are before.
    compared (g.M.Measuring.measure c.args.by.now) rows c.loop-first.first c.args.second _ _
    c.shared_acres-found.result
    (c.loop-first.invariant rows are before) (omega arith)
    (c.shared_acres-found.ensures (record_at rows c.loop-first.first) (record_at rows c.args.second)
    (subst
    (IsLandOfRecord g.L.PlaceSet.places (g.M.Measuring.measure c.args.by.now).lots
    (g.M.Measuring.measure c.args.by.now).township (record_at rows c.loop-first.first))
    (sym c.index-lands-first.is)
    (are.each c.loop-first.first c.index-lands-first.result (omega (arith, are.count_is))))
    (subst
    (IsLandOfRecord g.L.PlaceSet.places (g.M.Measuring.measure c.args.by.now).lots
    (g.M.Measuring.measure c.args.by.now).township (record_at rows c.args.second))
    (sym c.index-lands-second.is)
    (are.each c.args.second c.index-lands-second.result (omega (arith, are.count_is)))))
    c.in_ok-note_overlap.ensures

pub returns : goal.returns
returns g c = λ rows are before.
    let all : c.loop-first.first ≡ c.args.second = omega arith in
    subst
    (λ n. AreFoundTo (g.M.Measuring.measure c.args.by.now) rows n c.args.second c.loop-first.overlaps.items)
    all
    (c.loop-first.invariant rows are before)
