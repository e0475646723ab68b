-- The part before the heading is added.
use Rattle.std.proofs.Common.{◌≡◌, ◌++◌, ◌∷◌, [], rules, subst, sym, List}
use Rattle.twp_calls.specs.declared.unread.TownshipStretch.{TownshipStretch}
use Rattle.twp_calls.proofs.SplitParts.{AtHeading, at_next_heading}
use Rattle.twp_calls.proofs.split.headed_parts.Goals as goal

pub parts-preserved : goal.parts-preserved
parts-preserved c =
    let pushed : c.push.new.self.items ≡ c.parts.parts.items ++ c.part_between.result ∷ [] = search rules in
    subst (λ (ps : List TownshipStretch).
    AtHeading c.args.text.now c.args.from c.in-Some.next.at c.in-Some.next.end ps) (sym pushed)
    (at_next_heading c.args.text.now c.args.from c.parts.start c.parts.at c.parts.parts.items c.in-Some.next
    c.part_between.result c.parts.invariant c.in-Some.ensures c.part_between.ensures)
