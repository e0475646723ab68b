-- The answer for each kind of item is the answer for the item.
use Rattle.std.proofs.lemmas.Result.{err_from_is_err_and}
use Rattle.twp_resolve.specs.steps.ResolvingSteps.{number_of_section}
use Rattle.twp_resolve.proofs.ItemFaults.{heading_taken, heading_refused}
use Rattle.twp_resolve.proofs.resolving.resolve_item.Goals as goal
use Rattle.twp_resolve.proofs.resolving.resolve_item.Goals.{in-Heading+in_ok-resolve_heading-in-Heading}
use Rattle.twp_resolve.proofs.resolving.resolve_item.Goals.{in-Lots+in_ok-resolve_lots-in-Lots}
use Rattle.twp_resolve.proofs.resolving.resolve_item.Goals.{in-Chain+in_ok-resolve_chain-in-Chain}
use Rattle.twp_resolve.proofs.resolving.resolve_item.Goals.{in-All+in_ok-resolve_all-in-All}

pub returns-in_err-resolve_heading-in-Heading-clause-refused :
    goal.returns-in_err-resolve_heading-in-Heading-clause-refused
returns-in_err-resolve_heading-in-Heading-clause-refused g c =
    let it = c.in-Heading in
    let gone = err_from_is_err_and c.from_residual.result c.from_residual.ensures.1 in
    rw (gone.1, gone.2, (c.in_err-resolve_heading-in-Heading.ensures).0, it.is)
    (heading_refused (g.P.Lotting.layout c.args.lots.now) (number_of_section c.args.section) it.number
    it.north_south it.range it.east_west it.at
    (g.L.PlaceSet.places c.args.land.now) c.args.township (c.in_err-resolve_heading-in-Heading.ensures).1)

pub returns-in_err-resolve_sections-in-Sections-clause-refused :
    goal.returns-in_err-resolve_sections-in-Sections-clause-refused
returns-in_err-resolve_sections-in-Sections-clause-refused g c =
    let gone =
    err_from_is_err_and c.from_residual-in_err-resolve_sections-in-Sections.result
    c.from_residual-in_err-resolve_sections-in-Sections.ensures.1 in
    rw (gone.1, gone.2, c.in-Sections.is)
    (c.in_err-resolve_sections-in-Sections.ensures.refused c.args.township
    (number_of_section c.args.section))

pub returns-in_err-resolve_lots-in-Lots-clause-refused :
    goal.returns-in_err-resolve_lots-in-Lots-clause-refused
returns-in_err-resolve_lots-in-Lots-clause-refused g c =
    let gone =
    err_from_is_err_and c.from_residual-in_err-resolve_lots-in-Lots.result
    c.from_residual-in_err-resolve_lots-in-Lots.ensures.1 in
    rw (gone.1, gone.2, c.in-Lots.is, c.unwrap.ensures)
    (c.in_err-resolve_lots-in-Lots.ensures.refused c.args.township)

pub returns-in_err-resolve_chain-in-Chain-clause-refused :
    goal.returns-in_err-resolve_chain-in-Chain-clause-refused
returns-in_err-resolve_chain-in-Chain-clause-refused g c =
    let gone =
    err_from_is_err_and c.from_residual-in_err-resolve_chain-in-Chain.result
    c.from_residual-in_err-resolve_chain-in-Chain.ensures.1 in
    rw (gone.1, gone.2, c.in-Chain.is, c.unwrap-in-Chain.ensures)
    (c.in_err-resolve_chain-in-Chain.ensures.refused c.args.township)

pub returns-in-Sections-clause-taken : goal.returns-in-Sections-clause-taken
returns-in-Sections-clause-taken g c =
    rw c.in-Sections.is
    (c.in_ok-resolve_sections-in-Sections.ensures.taken c.args.township
    (number_of_section c.args.section))

pub returns-in_err-resolve_all-in-All-clause-refused :
    goal.returns-in_err-resolve_all-in-All-clause-refused
returns-in_err-resolve_all-in-All-clause-refused g c =
    let gone =
    err_from_is_err_and c.from_residual-in_err-resolve_all-in-All.result
    c.from_residual-in_err-resolve_all-in-All.ensures.1 in
    rw (gone.1, gone.2, c.in-All.is, c.unwrap-in-All.ensures)
    (c.in_err-resolve_all-in-All.ensures.refused c.args.township)

pub returns-clause-taken : goal.returns-clause-taken
returns-clause-taken g c = elim c.match-item.branch [
  | in-Heading+in_ok-resolve_heading-in-Heading w ↦
      let it = w.in-Heading in
      rw (w.land-is, it.is)
      (heading_taken (g.P.Lotting.layout c.args.lots.now) (number_of_section c.args.section) it.number
      it.north_south it.range it.east_west it.at
      (g.L.PlaceSet.places c.args.land.now) c.args.township w.in_ok-resolve_heading-in-Heading.ensures)
  | in-Lots+in_ok-resolve_lots-in-Lots w ↦
      rw (w.land-is, w.in-Lots.is, w.unwrap.ensures)
      (w.in_ok-resolve_lots-in-Lots.ensures.taken c.args.township)
  | in-Chain+in_ok-resolve_chain-in-Chain w ↦
      rw (w.land-is, w.in-Chain.is, w.unwrap-in-Chain.ensures)
      (w.in_ok-resolve_chain-in-Chain.ensures.taken c.args.township)
  | in-All+in_ok-resolve_all-in-All w ↦
      rw (w.land-is, w.in-All.is, w.unwrap-in-All.ensures)
      (w.in_ok-resolve_all-in-All.ensures.taken c.args.township)
]
