-- The laws of written parts and of their list.
use Rattle.std.proofs.Common.{◌≡◌, ◌↔◌, ℕ, Bool, true, List, sym, subst}
use Rattle.std.specs.List.{Contains, AllPairs}
use Rattle.twp_grid.specs.Places.{IsPlace}
use Rattle.twp_spell.specs.WrittenParts.{Part, IsInPart, IsWritten, ComesBefore, AreWrittenParts}
use Rattle.twp_grammar.proofs.Membership.{Among, among_contains}
use Rattle.twp_spell.proofs.Listings.{other_pairs}
use Rattle.twp_spell.proofs.WrittenFacts.{one_part, written_held, has_part}
use Rattle.twp_spell.proofs.PartOrder.{ahead_once, has_parts, one_parts}

pub one_list : (g : ℕ) (held : ℕ → ℕ → Bool)
    → (parts : List Part) × AreWrittenParts g held parts
    × ((other : List Part) → AreWrittenParts g held other → other ≡ parts)
one_list g held =
    let found = has_parts g held in
    (found.0, found.1, λ other are. one_parts g held other found.0 are found.1)

pub apart : (g : ℕ) (held : ℕ → ℕ → Bool) (parts : List Part) → AreWrittenParts g held parts
    → AllPairs (λ part other. (column row : ℕ) → IsInPart g part column row → ¬ IsInPart g other column row)
    parts
apart g held parts are =
    other_pairs (ComesBefore g)
    (λ part other. (column row : ℕ) → IsInPart g part column row → ¬ IsInPart g other column row) parts
    are.ordered
    (λ part other there there' ahead column row inside inside'.
    let same =
    one_part g held column row part other (written part there) (written other there') inside inside' in
    let itself : ComesBefore g part part = subst (λ p. ComesBefore g part p) (sym same) ahead in
    ahead_once g part part itself itself)
  where
    written : (part : Part) → Among part parts → IsWritten g held part
    written part there = (are.listed part).1 (among_contains part parts there)

pub hold_all : (g : ℕ) (held : ℕ → ℕ → Bool) (parts : List Part) → AreWrittenParts g held parts
    → (column row : ℕ) → IsPlace g column row
    → (held column row ≡ true) ↔ ((part : Part) × Contains parts part × IsInPart g part column row)
hold_all g held parts are column row place = (
  (λ is.
      let found = has_part g held column row place is in (
        found.part,
        (are.listed found.part).0 found.written,
        found.inside,
      )),
  (λ found. written_held g held column row found.0 ((are.listed found.0).1 found.1) found.2),
)
