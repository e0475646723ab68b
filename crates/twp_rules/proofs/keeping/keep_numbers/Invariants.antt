use Rattle.std.proofs.Common.{◌≡◌, drop, map}
use Rattle.twp_rules.specs.declared.role.NumberRole.TheVariants.{Nothing}
use Rattle.twp_rules.specs.Changes.{AreChangesFrom, seen}
use Rattle.twp_rules.specs.Keeping.{keep_numbers}
use Rattle.twp_rules.proofs.keeping.keep_numbers.Given as goal

-- the changes that are left are changes from here on, and decide of numbers
abbrev pub invariant-loop-index : goal.invariant-loop-index
invariant-loop-index l =
    AreChangesFrom l.place l.text (map seen (drop l.index l.changes))
    × (keep_numbers l.text Nothing 0 0 (map seen l.changes)
    ≡ keep_numbers l.text l.role l.place l.copied (map seen (drop l.index l.changes)))
