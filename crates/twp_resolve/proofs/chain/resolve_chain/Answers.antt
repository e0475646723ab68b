-- A part is too small, or its block is added.
use Rattle.twp_resolve.proofs.ChainFaults.{is_too_fine}
use Rattle.twp_resolve.proofs.chain.resolve_chain.Goals as goal

pub returns-in-Some-clause-taken : goal.returns-in-Some-clause-taken
returns-in-Some-clause-taken g c = c.resolve_block.ensures.taken c.args.steps.now c.in-Some.ensures

pub returns-in-Some-clause-refused : goal.returns-in-Some-clause-refused
returns-in-Some-clause-refused g c = c.resolve_block.ensures.refused c.args.steps.now c.in-Some.ensures

pub returns-in_default-chain_block-clause-refused : goal.returns-in_default-chain_block-clause-refused
returns-in_default-chain_block-clause-refused g c =
    is_too_fine (g.P.Lotting.layout c.args.lots.now) c.args.section c.args.steps.now c.args.at
    (g.L.PlaceSet.places c.args.land.now)
    c.in_default-chain_block.ensures

pub returns-clause-taken : goal.returns-clause-taken
returns-clause-taken g c = c.resolve_block-2.ensures.taken c.args.steps.now (record {
  within = (c.in-Some-chain_block.ensures).0;
  block_is = (c.in-Some-chain_block.ensures).1;
})

pub returns-clause-refused : goal.returns-clause-refused
returns-clause-refused g c = c.resolve_block-2.ensures.refused c.args.steps.now (record {
  within = (c.in-Some-chain_block.ensures).0;
  block_is = (c.in-Some-chain_block.ensures).1;
})
