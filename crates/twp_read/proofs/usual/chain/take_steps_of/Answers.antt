use Rattle.std.proofs.Common.{◌≤◌, List, ◌∷◌, arith}
use Rattle.twp_grammar.specs.declared.item.Item.{Item}
use Rattle.twp_grammar.specs.declared.item.Item.TheVariants.{Chain}
use Rattle.twp_read.specs.declared.description.Reached.{Reached}
use Rattle.twp_read.proofs.Leading.{leads_then}
use Rattle.twp_read.proofs.usual.chain.take_steps_of.Goals as goal

pub returns-then-row-reached : goal.returns-then-row-reached
returns-then-row-reached c place items =
    let from : Reached = c.args.from in
    let reached : Reached = c.rows.reached in
    let row : Reached = c.in_ok-row.row in
    leads_then c.args.text.now from.at from.state (Chain c.args.steps.now place ∷ items) reached.at
    reached.state (Chain c.rows.steps place ∷ items) row.at row.state
    (Chain c.take_row_of.new.steps place ∷ items) (c.rows.invariant.3 place items)
    (c.in_ok-row.ensures.leads place items)

pub returns-in-Some : goal.returns-in-Some
returns-in-Some c place items =
    let from : Reached = c.args.from in
    let reached : Reached = c.rows.reached in
    let row : Reached = c.in_ok-row.row in
    let to : Reached = c.in_ok-reached.reached in
    let after : Reached = c.in-Some.after in
    let begun : List Item = Chain c.args.steps.now place ∷ items in
    let grown : List Item = Chain c.take_adjoining.new.steps place ∷ items in
    leads_then c.args.text.now from.at from.state begun to.at to.state grown after.at after.state grown
    (leads_then c.args.text.now from.at from.state begun reached.at reached.state
    (Chain c.rows.steps place ∷ items) to.at to.state grown (c.rows.invariant.3 place items)
    (leads_then c.args.text.now reached.at reached.state (Chain c.rows.steps place ∷ items) row.at
    row.state (Chain c.take_row_of.new.steps place ∷ items) to.at to.state grown
    (c.in_ok-row.ensures.leads place items) (c.in_ok-reached.ensures.leads place items)))
    (c.in-Some.ensures grown)

pub rows-preserved : goal.rows-preserved
rows-preserved c =
    let from : Reached = c.args.from in
    let reached : Reached = c.rows.reached in
    let row : Reached = c.in_ok-row.row in
    let to : Reached = c.in_ok-reached.reached in
    let forward : from.at ≤ reached.at = c.rows.invariant.1 in
    let further : reached.at ≤ row.at = c.in_ok-row.ensures.forward in
    let end : row.at ≤ to.at = c.in_ok-reached.ensures.forward in (
      c.in_ok-reached.ensures.within,
      omega arith,
      c.in_ok-reached.ensures.chain,
      λ place items.
          let begun : List Item = Chain c.args.steps.now place ∷ items in
          let grown : List Item = Chain c.take_adjoining.new.steps place ∷ items in
          leads_then c.args.text.now from.at from.state begun reached.at reached.state
          (Chain c.rows.steps place ∷ items) to.at to.state grown (c.rows.invariant.3 place items)
          (leads_then c.args.text.now reached.at reached.state (Chain c.rows.steps place ∷ items) row.at
          row.state (Chain c.take_row_of.new.steps place ∷ items) to.at to.state grown
          (c.in_ok-row.ensures.leads place items) (c.in_ok-reached.ensures.leads place items)),
    )
