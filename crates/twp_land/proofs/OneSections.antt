-- Sets of places in one section.
use Rattle.std.proofs.Common.{◌≡◌, ◌==◌, ℕ, Bool, true, IsTrue, refl, inl, inr, arith}
use Rattle.std.proofs.Math.Path.{fun_ext}
use Rattle.std.proofs.lemmas.Bool.{cases_Bool, cases_eq, ne_eqb, eq-eqb}
use Rattle.std.proofs.lemmas.Bool.Decides.{nat_tests}
use Rattle.twp_grid.specs.Winding.{IsSection}
use Rattle.twp_grid.specs.Spans.{Rectangle}
use Rattle.twp_grid.specs.Lands.{union, block_places}
use Rattle.twp_land.specs.Storage.{is_section, held_in_one, with_block}

-- a block is added to the places of the section that the set has
pub added_in_one : (number section : ℕ) (held held' : ℕ → ℕ → Bool) (block : Rectangle)
    → IsSection section → IsTrue (number == section) → held' ≡ with_block held block
    → held_in_one number held' ≡ union (held_in_one number held) (block_places section block)
added_in_one number section held held' block range same added =
    fun_ext (λ other. fun_ext (λ column. fun_ext (λ row.
    let number_is : number ≡ section = grind (arith, nat_tests) in
    let inside : is_section section ≡ true = grind (arith, nat_tests) in
    rw (added, number_is) (elim (cases_eq section other) [
      | inl here ↦ rw (← here, inside, eq-eqb section section refl) refl
      | inr apart ↦
          rw (ne_eqb section other apart) (elim (cases_Bool (is_section other)) [
            | inl is ↦ rw is refl
            | inr not ↦ rw not refl
          ])
    ]))))
