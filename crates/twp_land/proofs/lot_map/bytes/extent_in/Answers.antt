-- The bits of half a position are those of its columns, or none.
use Rattle.std.proofs.Common.{◌≡◌, subst, arith}
use Rattle.twp_land.specs.declared.lot_map.bytes.Columns.TheVariants.{All, East, West}
use Rattle.twp_land.specs.steps.LotBytes.{AreColumns}
use Rattle.twp_land.proofs.DividedFacts.{columns_held, none_held}
use Rattle.twp_land.proofs.lot_map.bytes.extent_in.Goals as goal

pub returns-then-bits-eq0-clause-nothing : goal.returns-then-bits-eq0-clause-nothing
returns-then-bits-eq0-clause-nothing c _ =
    let bits = c.half_bits-bits in
    none_held c.args.divided.now c.args.first c.args.least c.args.most c.top_of.result bits.result
    bits.ensures.fits c.fits-divided (omega (arith, c.if-least-gt-NO_LAND.false)) c.requires.range
    c.top_of.ensures.least c.top_of.type_inv c.top_of.ensures.marks bits.ensures.bits
    (omega (arith, c.if-bits-eq0.true))

pub returns-then-bits-eq-ALL_BITS-clause-held : goal.returns-then-bits-eq-ALL_BITS-clause-held
returns-then-bits-eq-ALL_BITS-clause-held c columns is =
    let bits = c.half_bits-bits in
    let same : All ≡ columns = cc is in
    subst (λ k. AreColumns c.args.divided.now c.args.first c.args.least c.args.most k) same
    (columns_held c.args.divided.now c.args.first c.args.least c.args.most c.top_of.result bits.result All
    bits.ensures.fits c.fits-divided (omega (arith, c.if-least-gt-NO_LAND.false)) c.requires.range
    c.top_of.ensures.least c.top_of.type_inv c.top_of.ensures.marks bits.ensures.bits
    c.if-bits-eq-ALL_BITS.true)

pub returns-then-bits-eq-EAST_BITS-clause-held : goal.returns-then-bits-eq-EAST_BITS-clause-held
returns-then-bits-eq-EAST_BITS-clause-held c columns is =
    let bits = c.half_bits-bits in
    let same : East ≡ columns = cc is in
    subst (λ k. AreColumns c.args.divided.now c.args.first c.args.least c.args.most k) same
    (columns_held c.args.divided.now c.args.first c.args.least c.args.most c.top_of.result bits.result East
    bits.ensures.fits c.fits-divided (omega (arith, c.if-least-gt-NO_LAND.false)) c.requires.range
    c.top_of.ensures.least c.top_of.type_inv c.top_of.ensures.marks bits.ensures.bits
    c.if-bits-eq-EAST_BITS.true)

pub returns-then-bits-eq-WEST_BITS-clause-held : goal.returns-then-bits-eq-WEST_BITS-clause-held
returns-then-bits-eq-WEST_BITS-clause-held c columns is =
    let bits = c.half_bits-bits in
    let same : West ≡ columns = cc is in
    subst (λ k. AreColumns c.args.divided.now c.args.first c.args.least c.args.most k) same
    (columns_held c.args.divided.now c.args.first c.args.least c.args.most c.top_of.result bits.result West
    bits.ensures.fits c.fits-divided (omega (arith, c.if-least-gt-NO_LAND.false)) c.requires.range
    c.top_of.ensures.least c.top_of.type_inv c.top_of.ensures.marks bits.ensures.bits
    c.if-bits-eq-WEST_BITS.true)
