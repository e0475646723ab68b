-- What is written is read back.
use Rattle.std.proofs.Common.{rules, ◌≡◌, ℕ, List, sym, subst}
use Rattle.twp_grid.specs.Townships.{IsTownshipNumber}
use Rattle.twp_calls.specs.DesignationTexts.{IsSpelling, designation_text}
use Rattle.twp_calls.proofs.DesignationReadBack.{read_back}
use Rattle.twp_calls.proofs.designation_text.spell_designation.Goals as goal

pub returns-clause-read_back : goal.returns-clause-read_back
returns-clause-read_back c =
    let written : c.extend_from_slice-3.new.self.items ≡ designation_text c.args.township = search rules in
    subst (λ (bytes : List ℕ). IsSpelling bytes c.args.township) (sym written)
    (read_back c.args.township
    (subst (λ (n : ℕ). IsTownshipNumber n) c.number.ensures.value c.number.ensures.range)
    (subst (λ (n : ℕ). IsTownshipNumber n) c.range.ensures.value c.range.ensures.range))
