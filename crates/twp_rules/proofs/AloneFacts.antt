-- Land of the only section lies with it; over plain values.
use Rattle.std.proofs.Common.{◌≡◌, ◌==◌, ◌||◌, ◌&&◌, ◌<◌, ◌+◌, Bool, true, false, List, [], ◌∷◌, ℕ, suc, refl}
use Rattle.std.proofs.Common.{Option, None, Some, add-one, drop, length, nat_le, not, slice_index_or}
use Rattle.std.proofs.Common.{slice_range}
use Rattle.std.proofs.lemmas.Bool.{eqb-true, eq-eqb}
use Rattle.std.proofs.Math.Seq.{drop-cons}
use Rattle.twp_grammar.specs.declared.item.Item.{Item}
use Rattle.twp_rules.specs.Arrangement.{has_break, has_no_other, is_after, lie_from, lies, lies_after}
use Rattle.twp_rules.specs.Arrangement.{lies_before}
use Rattle.twp_rules.specs.Changes.{Change}
use Rattle.twp_rules.specs.Origins.{marks_of, marks_of_item}
use Rattle.twp_rules.specs.declared.alone.Alone.{Alone}
use Rattle.twp_rules.specs.declared.lying.Lying.{Lying}
use Rattle.twp_rules.specs.declared.mark.Mark.{Mark}
use Rattle.twp_rules.specs.declared.mark.Mark.TheVariants.{Section, Land}
use Rattle.twp_rules.specs.steps.Alone.{IsAloneFrom, alone, is_alone}
use Rattle.twp_rules.proofs.SameTexts.{both}

-- all sections have a number
abbrev are_numbered : ℕ → List Mark → Bool
are_numbered number [] = true
are_numbered number (Section next place ∷ marks) = (next == number) && are_numbered number marks
are_numbered number (Land place ∷ marks) = are_numbered number marks

all_numbered : (number section : ℕ) (after : Bool) (marks : List Mark)
    → is_alone (Some (alone number section after)) marks ≡ true → are_numbered number marks ≡ true
all_numbered number section after [] is = refl
all_numbered number section after (Section next place ∷ marks) is =
    let parts = both ((next == number) && (place == section))
    (is_alone (Some (alone number section after)) marks) is in
    let first = both (next == number) (place == section) parts.0 in
    rw first.0 (all_numbered number section after marks parts.1)
all_numbered number section after (Land place ∷ marks) is =
    let parts = both (not after || nat_le section place)
    (is_alone (Some (alone number section (nat_le section place))) marks) is in
    all_numbered number section (nat_le section place) marks parts.1

-- so no section is another one
no_other : (text : List ℕ) (it : Lying) (from to : ℕ) (marks : List Mark)
    → are_numbered it.number marks ≡ true → has_no_other text it from to marks ≡ true
no_other text it from to [] all = refl
no_other text it from to (Section next place ∷ marks) all =
    let parts = both (next == it.number) (are_numbered it.number marks) all in
    rw parts.0 (no_other text it from to marks parts.1)
no_other text it from to (Land place ∷ marks) all = no_other text it from to marks all

or_true : (x : Bool) → (x || true) ≡ true
or_true true = refl
or_true false = refl

-- the last land is of a section, and after it or before it
abbrev IsLast : ℕ → Bool → Option Lying → Type 0
IsLast section after None = after ≡ false
IsLast section after (Some last) = (last.section ≡ section) × (is_after last ≡ after)

lies_after_it : (text : List ℕ) (all : List Mark) (after : Bool) (last : Option Lying) (it : Lying)
    → are_numbered it.number all ≡ true → IsLast it.section after last
    → lies_after text all last it ≡ true
lies_after_it text all after None it numbered is = refl
lies_after_it text all after (Some last) it numbered is =
    rw (
      eq-eqb last.section it.section is.0,
      no_other text it 0 (length text) all numbered,
      or_true (has_break (slice_range text it.section it.land)),
      or_true (nat_le last.section last.land),
    ) refl

lies_before_it : (text : List ℕ) (all : List Mark) (last : Option Lying) (it : Lying)
    → are_numbered it.number all ≡ true → IsLast it.section false last
    → lies_before text all last it ≡ true
lies_before_it text all None it numbered is = rw (no_other text it 0 it.land all numbered) refl
lies_before_it text all (Some last) it numbered is = rw is.1 refl

lies_with_it : (text : List ℕ) (all : List Mark) (after now : Bool) (last : Option Lying) (it : Lying)
    → nat_le it.section it.land ≡ now → are_numbered it.number all ≡ true → IsLast it.section after last
    → (not after || now) ≡ true → lies text all last it ≡ true
lies_with_it text all after true last it e numbered is ok =
    rw (e, no_other text it it.section it.land all numbered)
    (lies_after_it text all after last it numbered is)
lies_with_it text all true false last it e numbered is ok = cc ok
lies_with_it text all false false last it e numbered is ok =
    rw (e, no_other text it it.land it.section all numbered) (lies_before_it text all last it numbered is)

lie_with_it : (text : List ℕ) (all : List Mark) (number section : ℕ) (after : Bool) (last : Option Lying)
    (marks : List Mark)
    → are_numbered number all ≡ true → IsLast section after last
    → is_alone (Some (alone number section after)) marks ≡ true
    → lie_from text all number section last marks ≡ true
lie_with_it text all number section after last [] numbered is one = refl
lie_with_it text all number section after last (Section next place ∷ marks) numbered is one =
    let parts = both ((next == number) && (place == section))
    (is_alone (Some (alone number section after)) marks) one in
    let first = both (next == number) (place == section) parts.0 in
    let e : next ≡ number = eqb-true next number first.0 in
    let f : place ≡ section = eqb-true place section first.1 in
    rw (e, f) (lie_with_it text all number section after last marks numbered is parts.1)
lie_with_it text all number section after last (Land place ∷ marks) numbered is one =
    let parts = both (not after || nat_le section place)
    (is_alone (Some (alone number section (nat_le section place))) marks) one in
    let it : Lying = record { number = number; section = section; land = place } in
    rw (lies_with_it text all after (nat_le section place) last it refl numbered is parts.0)
    (lie_with_it text all number section (nat_le section place) (Some it) marks numbered (refl, refl) parts.1)

-- ALL LAND LIES WITH THE ONLY SECTION
pub alone_lies : (text : List ℕ) (marks : List Mark) → is_alone None marks ≡ true
    → lie_from text marks 0 0 None marks ≡ true
alone_lies text [] is = refl
alone_lies text (Section number place ∷ marks) is =
    lie_with_it text (Section number place ∷ marks) number place false None marks
    (rw (eq-eqb number number refl) (all_numbered number place false marks is)) refl is
alone_lies text (Land place ∷ marks) is = cc is

-- after all marks, nothing is left to decide
pub none_left : (it : Option Alone) → is_alone it [] ≡ true
none_left None = refl
none_left (Some it) = refl

-- after an item, the rest decides
pub next_alone : (changes : List Change) (base : ℕ) (items : List Item) (index : ℕ) (default : Item)
    (before after : Option Alone)
    → index < length items
    → IsAloneFrom (marks_of_item changes base (slice_index_or items index default)) before after
    → is_alone after (marks_of changes base (drop (index + 1) items)) ≡ true
    → is_alone before (marks_of changes base (drop index items)) ≡ true
next_alone changes base items index default before after within from is =
    let e = drop-cons items index default within in
    let f = add-one index in
    rw e (from (marks_of changes base (drop (suc index) items)) (rw f at is))

-- the numbers of the first section are the same, and so are their places
pub one_section : (number section next place : ℕ) → next ≡ number → place ≡ section
    → IsAloneFrom (Section number section ∷ Section next place ∷ []) None (Some (alone number section false))
one_section number section next place e f = λ marks is.
    rw (eq-eqb next number e, eq-eqb place section f) is

-- land is on the side of the section where the land before it is, or after it
pub land_beside : (it : Alone) (place : ℕ) (after : Bool) → nat_le it.section place ≡ after
    → (not it.is_after || after) ≡ true
    → IsAloneFrom (Land place ∷ []) (Some it) (Some (alone it.number it.section after))
land_beside it place after e ok = λ marks is. rw (e, ok) is
