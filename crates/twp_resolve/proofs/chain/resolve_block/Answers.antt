-- A block contains land of a lot, is not all land, shares a place with the items before it, or is added.
use Rattle.twp_resolve.proofs.ChainFaults.{is_on_lot, is_no_land, chain_taken, chain_refused}
use Rattle.twp_resolve.proofs.chain.resolve_block.Goals as goal

pub returns-then-holds_of_lot-clause-refused : goal.returns-then-holds_of_lot-clause-refused
returns-then-holds_of_lot-clause-refused g c = λ steps cut.
    is_on_lot (g.P.Lotting.layout c.args.lots.now) c.args.section steps c.args.at
    (g.L.PlaceSet.places c.args.land.now) c.args.block cut.within
    cut.block_is (c.holds_of_lot.ensures.0 c.if-holds_of_lot.true)

pub returns-then-lacks_land-clause-refused : goal.returns-then-lacks_land-clause-refused
returns-then-lacks_land-clause-refused g c = λ steps cut.
    is_no_land (g.P.Lotting.layout c.args.lots.now) c.args.section steps c.args.at
    (g.L.PlaceSet.places c.args.land.now) c.args.block cut.within cut.block_is
    (λ held. absurd (cc (c.holds_of_lot.ensures.1 held, c.if-holds_of_lot.false)))
    (c.lacks_land.ensures.0 c.if-lacks_land.true)

pub returns-clause-taken : goal.returns-clause-taken
returns-clause-taken g c = λ steps cut.
    chain_taken (g.P.Lotting.layout c.args.lots.now) c.add_block.result c.args.section steps c.args.at
    (g.L.PlaceSet.places c.args.land.now)
    (g.L.PlaceSet.places c.add_block.new.land) c.args.block
    cut.within cut.block_is (λ held. absurd (cc (c.holds_of_lot.ensures.1 held, c.if-holds_of_lot.false)))
    (λ lacks. absurd (cc (c.lacks_land.ensures.1 lacks, c.if-lacks_land.false)))
    c.add_block.ensures.added

pub returns-clause-refused : goal.returns-clause-refused
returns-clause-refused g c = λ steps cut.
    chain_refused (g.P.Lotting.layout c.args.lots.now) c.add_block.result c.args.section steps c.args.at
    (g.L.PlaceSet.places c.args.land.now)
    (g.L.PlaceSet.places c.add_block.new.land) c.args.block
    cut.within cut.block_is (λ held. absurd (cc (c.holds_of_lot.ensures.1 held, c.if-holds_of_lot.false)))
    (λ lacks. absurd (cc (c.lacks_land.ensures.1 lacks, c.if-lacks_land.false)))
    c.add_block.ensures.added
