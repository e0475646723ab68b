-- The range of sections within which a set of places lies.
use Rattle.std.proofs.Common.{sym, subst, ◌∙◌, ◌≡◌, ◌==◌, ℕ, ◌<◌, ◌≤◌, Bool, false, ap, inl, inr, arith}
use Rattle.std.proofs.Math.Path.{fun_ext}
use Rattle.std.proofs.lemmas.Bool.{cases_Bool, cases_eq, eqb-true, ne_eqb, and_parts}
use Rattle.twp_grid.specs.Spans.{Rectangle}
use Rattle.twp_grid.specs.Lands.{no_places, union, difference, block_places, LieWithin}
use Rattle.twp_land.specs.steps.Exchanges.{exchanged}

-- an empty set lies within any range
pub nothing_within : (places : ℕ → ℕ → ℕ → Bool) (first last : ℕ) → places ≡ no_places
    → LieWithin places first last
nothing_within places first last none section column row held = cc (ap (λ p. p section column row) none, held)

-- if the range contains no section, the set is empty
pub none_within : (places : ℕ → ℕ → ℕ → Bool) (first last : ℕ) → LieWithin places first last → last < first
    → places ≡ no_places
none_within places first last within none =
    fun_ext (λ section. fun_ext (λ column. fun_ext (λ row. elim (cases_Bool (places section column row)) [
      | inl held ↦ let lies = within section column row held in absurd (omega (arith, lies.0, lies.1))
      | inr not ↦ not
    ])))

-- the places of one section lie within its range
block_within : (section : ℕ) (block : Rectangle) → LieWithin (block_places section block) section section
block_within section block other column row held =
    let same : section ≡ other = eqb-true section other (and_parts (section == other) _ held).0 in
    (omega arith, omega arith)

-- a set within a range lies within a wider one
pub within_wider : (places : ℕ → ℕ → ℕ → Bool) (first last first' last' : ℕ) → first' ≤ first → last ≤ last'
    → LieWithin places first last
    → LieWithin places first' last'
within_wider places first last first' last' down up is section column row held =
    let lies = is section column row held in
    (omega (arith, lies.0), omega (arith, lies.1))

-- the places in either of two sets
union_within : (places more : ℕ → ℕ → ℕ → Bool) (first last : ℕ) → LieWithin places first last
    → LieWithin more first last
    → LieWithin (union places more) first last
union_within places more first last is is' section column row held =
    elim (cases_Bool (places section column row)) [
      | inl there ↦ is section column row there
      | inr not ↦ is' section column row (rw not at held)
    ]

-- a block is added, and the range is widened for it
pub added_within : (places now : ℕ → ℕ → ℕ → Bool) (section : ℕ) (block : Rectangle)
    (first last first' last' : ℕ)
    → now ≡ union places (block_places section block) → first' ≤ first → last ≤ last' → first' ≤ section
    → section ≤ last'
    → LieWithin places first last → LieWithin now first' last'
added_within places now section block first last first' last' is down up below above before =
    subst (λ p. LieWithin p first' last') (sym is)
    (union_within places (block_places section block) first' last'
    (within_wider places first last first' last' down up before)
    (within_wider (block_places section block) section section first' last' below above
    (block_within section block)))

-- a block is removed
pub removed_within : (places now less : ℕ → ℕ → ℕ → Bool) (first last : ℕ) → now ≡ difference places less
    → LieWithin places first last
    → LieWithin now first last
removed_within places now less first last is before section column row held =
    before section column row
    (and_parts (places section column row) _ (sym (ap (λ p. p section column row) is) ∙ held)).0

-- the part in one section is replaced, and the range is widened for it
pub exchanged_within : (places : ℕ → ℕ → ℕ → Bool) (section : ℕ) (held : ℕ → ℕ → Bool)
    (first last first' last' : ℕ)
    → first' ≤ first → last ≤ last' → first' ≤ section → section ≤ last' → LieWithin places first last
    → LieWithin (exchanged places section held) first' last'
exchanged_within places section held first last first' last' down up below above before other column row is =
    elim (cases_eq section other) [
      | inl same ↦ (omega (arith, below, same), omega (arith, above, same))
      | inr apart ↦
          let test : (section == other) ≡ false = ne_eqb section other apart in
          let lies = before other column row (rw test at is) in
          (omega (arith, lies.0, down), omega (arith, lies.1, up))
    ]
