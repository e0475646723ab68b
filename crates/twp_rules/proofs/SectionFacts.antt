-- Only sections decide where land lies, each of them once; over plain values.
use Rattle.std.proofs.Common.{◌≡◌, ◌==◌, ◌&&◌, ◌++◌, Bool, true, false, List, [], ◌∷◌, ℕ, refl, sym}
use Rattle.std.proofs.Common.{Option, None, Some, length, if◌then◌else◌}
use Rattle.std.proofs.lemmas.Bool.{eqb-true}
use Rattle.twp_rules.specs.Arrangement.{has_no_other, is_no_other, lie_from, lies, lies_after, lies_before}
use Rattle.twp_rules.specs.declared.lying.Lying.{Lying}
use Rattle.twp_rules.specs.declared.mark.Mark.{Mark}
use Rattle.twp_rules.specs.declared.mark.Mark.TheVariants.{Section, Land}
use Rattle.twp_rules.specs.steps.Sections.{begins_with_section, sections_of}
use Rattle.twp_rules.proofs.SameTexts.{both}

-- a fact twice is as good as once
twice : (x y : Bool) → (x && y) ≡ (x && (x && y))
twice true y = refl
twice false y = refl

-- a section that is named again rules out as much as once
again : (text : List ℕ) (it : Lying) (from to number place : ℕ) (marks : List Mark)
    → begins_with_section number place marks ≡ true
    → has_no_other text it from to marks
    ≡ (is_no_other text it from to (Section number place) && has_no_other text it from to marks)
again text it from to number place [] is = cc is
again text it from to number place (Land spot ∷ marks) is = cc is
again text it from to number place (Section next spot ∷ marks) is =
    let parts = both (next == number) (spot == place) is in
    let e : next ≡ number = eqb-true next number parts.0 in
    let f : spot ≡ place = eqb-true spot place parts.1 in
    rw (e, f)
    (twice (is_no_other text it from to (Section number place)) (has_no_other text it from to marks))

with_section : (text : List ℕ) (it : Lying) (from to number place : ℕ) (marks : List Mark) (is_next : Bool)
    → begins_with_section number place marks ≡ is_next
    → has_no_other text it from to (sections_of marks) ≡ has_no_other text it from to marks
    → has_no_other text it from to
    ((if is_next then [] else Section number place ∷ []) ++ sections_of marks)
    ≡ (is_no_other text it from to (Section number place) && has_no_other text it from to marks)
with_section text it from to number place marks true e rest =
    rw rest (again text it from to number place marks e)
with_section text it from to number place marks false e rest = rw rest refl

-- land is no other section
same_others : (text : List ℕ) (it : Lying) (from to : ℕ) (marks : List Mark)
    → has_no_other text it from to (sections_of marks) ≡ has_no_other text it from to marks
same_others text it from to [] = refl
same_others text it from to (Section number place ∷ marks) =
    with_section text it from to number place marks (begins_with_section number place marks) refl
    (same_others text it from to marks)
same_others text it from to (Land place ∷ marks) = same_others text it from to marks

same_after : (text : List ℕ) (all : List Mark) (last : Option Lying) (it : Lying)
    → lies_after text (sections_of all) last it ≡ lies_after text all last it
same_after text all None it = refl
same_after text all (Some last) it = rw (same_others text it 0 (length text) all) refl

same_before : (text : List ℕ) (all : List Mark) (last : Option Lying) (it : Lying)
    → lies_before text (sections_of all) last it ≡ lies_before text all last it
same_before text all None it = rw (same_others text it 0 it.land all) refl
same_before text all (Some last) it = refl

same_lies : (text : List ℕ) (all : List Mark) (last : Option Lying) (it : Lying)
    → lies text (sections_of all) last it ≡ lies text all last it
same_lies text all last it =
    rw (
      same_others text it it.section it.land all,
      same_others text it it.land it.section all,
      same_after text all last it,
      same_before text all last it,
    ) refl

same_lie : (text : List ℕ) (all : List Mark) (number section : ℕ) (last : Option Lying) (marks : List Mark)
    → lie_from text (sections_of all) number section last marks ≡ lie_from text all number section last marks
same_lie text all number section last [] = refl
same_lie text all number section last (Section next place ∷ marks) =
    same_lie text all next place last marks
same_lie text all number section last (Land place ∷ marks) =
    let it : Lying = record { number = number; section = section; land = place } in
    rw (same_lies text all last it, same_lie text all number section (Some it) marks) refl

-- LAND LIES WITH ITS SECTIONS if it does by the list of sections alone
pub lie_by_sections : (text : List ℕ) (marks : List Mark)
    → lie_from text (sections_of marks) 0 0 None marks ≡ true → lie_from text marks 0 0 None marks ≡ true
lie_by_sections text marks is = rw (same_lie text marks 0 0 None marks) at is
