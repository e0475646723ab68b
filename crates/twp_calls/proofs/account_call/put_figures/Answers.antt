-- There is too little room, or all tracts are put there.
use Rattle.std.proofs.Common.{refl, arith, length}
use Rattle.twp_calls.proofs.AccountFacts.{all_put, too_many}
use Rattle.twp_calls.proofs.account_call.put_figures.Goals as goal

pub returns-then-tracts-count-clause-has : goal.returns-then-tracts-count-clause-has
returns-then-tracts-count-clause-has c = λ plat list account counted.
    too_many plat list c.args.figures.now c.args.made c.args.tracts.now c.args.totals.now c.counted.result
    (length c.args.figures.now)
    refl (omega arith) c.counted.ensures account counted

pub returns-clause-has : goal.returns-clause-has
returns-clause-has c = λ plat list account counted.
    all_put plat list c.args.figures.now c.args.made c.args.tracts.now c.put_tracts.new.tracts _
    c.counted-2.result
    (length c.args.figures.now) refl (omega arith) c.put_tracts.ensures.length_is c.put_tracts.ensures.lines
    c.put_tracts.ensures.ended c.put_tracts.ensures.kept refl
    c.counted-2.ensures account counted
