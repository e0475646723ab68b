-- The newest of the items is the last of the vector.
use Rattle.std.proofs.Common.{◌≡◌, ℕ, ◌-◌, ◌<◌, List, [], ◌∷◌, ◌++◌, length, get_or, reverse, OnOk, IfOk}
use Rattle.std.proofs.Common.{IfSome, Option, Some, None, Result, Ok, Err, refl, sym, ap, subst, ◌∙◌, arith}
use Rattle.std.proofs.Common.{length-append}
use Rattle.std.proofs.Math.ListN.{set}
use Rattle.std.proofs.Math.Seq.{get_or-append_seam, set-append_seam}
use Rattle.std.proofs.lemmas.List.{reverse-append}
use Rattle.twp_grammar.specs.declared.item.Item.{Item}
use Rattle.twp_read.specs.declared.watch.ItemChange.{ItemChange}
use Rattle.twp_read.specs.steps.TokenSteps.{with_newest, changed}
use Rattle.twp_grammar.specs.declared.state.State.{State}
use Rattle.twp_read.specs.steps.Usual.{Leads}

record HasLast (items : List Item) : Type 0 where
  front : List Item
  last : Item
  is : items ≡ front ++ last ∷ []

has_last : (first : Item) (more : List Item) → HasLast (first ∷ more)
has_last first [] = record { front = []; last = first; is = refl }
has_last first (second ∷ more) =
    let rest : HasLast (second ∷ more) = has_last second more in
    record { front = first ∷ rest.front; last = rest.last; is = ap (λ xs. first ∷ xs) rest.is }

changes_last : (change : ItemChange) (items : List Item) (last new : Item) → 0 < length items
    → last ≡ get_or items (length items - 1) last → new ≡ changed change last
    → reverse (set items (length items - 1) new) ≡ with_newest change (reverse items)
changes_last change [] last new some is made = absurd (omega arith)
changes_last change (first ∷ more) last new some is made =
    let parts : HasLast (first ∷ more) = has_last first more in
    let P : List Item → Type 0 = λ items.
    last ≡ get_or items (length items - 1) last
    → reverse (set items (length items - 1) new) ≡ with_newest change (reverse items) in
    subst P (sym parts.is) (at_last parts.front parts.last) is
  where
    at_last : (front : List Item) (z : Item)
        → last ≡ get_or (front ++ z ∷ []) (length (front ++ z ∷ []) - 1) last
        → reverse (set (front ++ z ∷ []) (length (front ++ z ∷ []) - 1) new)
        ≡ with_newest change (reverse (front ++ z ∷ []))
    at_last front z same =
        let long : length (front ++ z ∷ []) - 1 ≡ length front =
        rw (length-append front (z ∷ [])) (omega arith) in
        let it : last ≡ z = (rw long at same) ∙ get_or-append_seam front z [] last in
        rw (
          long,
          set-append_seam front z [] new,
          reverse-append front (new ∷ []),
          reverse-append front (z ∷ []),
          made,
          it,
        ) refl

pub changes_newest : (change : ItemChange) (items : List Item) (n : ℕ) (last new : Item) → n ≡ length items
    → 0 < n → last ≡ get_or items (n - 1) last → new ≡ changed change last
    → reverse (set items (n - 1) new) ≡ with_newest change (reverse items)
changes_newest change items n last new long some is made =
    let P : ℕ → Type 0 = λ n.
    0 < n → last ≡ get_or items (n - 1) last
    → reverse (set items (n - 1) new) ≡ with_newest change (reverse items) in
    subst P (sym long) (λ some is. changes_last change items last new some is made) some is

-- what leads on with the newest item changed, whatever is before it
leads_by_last : (text : List ℕ) (at : ℕ) (state : State) (to : ℕ) (after : State) (items : List Item)
    (last new : Item)
    → 0 < length items → last ≡ get_or items (length items - 1) last
    → ((before : List Item) → Leads text at state (last ∷ before) to after (new ∷ before))
    → Leads text at state (reverse items) to after (reverse (set items (length items - 1) new))
leads_by_last text at state to after [] last new some is leads = absurd (omega arith)
leads_by_last text at state to after (first ∷ more) last new some is leads =
    let parts : HasLast (first ∷ more) = has_last first more in
    let P : List Item → Type 0 = λ items.
    last ≡ get_or items (length items - 1) last
    → Leads text at state (reverse items) to after (reverse (set items (length items - 1) new)) in
    subst P (sym parts.is) (at_last parts.front parts.last) is
  where
    at_last : (front : List Item) (z : Item)
        → last ≡ get_or (front ++ z ∷ []) (length (front ++ z ∷ []) - 1) last
        → Leads text at state (reverse (front ++ z ∷ [])) to after
        (reverse (set (front ++ z ∷ []) (length (front ++ z ∷ []) - 1) new))
    at_last front z same =
        let long : length (front ++ z ∷ []) - 1 ≡ length front =
        rw (length-append front (z ∷ [])) (omega arith) in
        let it : last ≡ z = (rw long at same) ∙ get_or-append_seam front z [] last in
        rw (
          long,
          set-append_seam front z [] new,
          reverse-append front (new ∷ []),
          reverse-append front (z ∷ []),
          sym it,
        ) (leads (reverse front))

pub leads_by_newest : (text : List ℕ) (at : ℕ) (state : State) (to : ℕ) (after : State) (items : List Item)
    (n : ℕ) (last new : Item)
    → n ≡ length items → 0 < n → last ≡ get_or items (n - 1) last
    → ((before : List Item) → Leads text at state (last ∷ before) to after (new ∷ before))
    → Leads text at state (reverse items) to after (reverse (set items (n - 1) new))
leads_by_newest text at state to after items n last new long some is leads =
    let P : ℕ → Type 0 = λ n.
    0 < n → last ≡ get_or items (n - 1) last
    → Leads text at state (reverse items) to after (reverse (set items (n - 1) new)) in
    subst P (sym long) (λ some is. leads_by_last text at state to after items last new some is leads) some is

pub if_ok : {T E : Type 0} (r : Result T E) (P Q : T → Type 0) → ((x : T) → P x → Q x) → IfOk r P → IfOk r Q
if_ok (Ok x) P Q f p = f x p
if_ok (Err e) P Q f p = p

pub on_ok : {T E : Type 0} (r : Result T E) (P Q : Type 0) → (P → Q) → OnOk r P → OnOk r Q
on_ok (Ok x) P Q f p = f p
on_ok (Err e) P Q f p = p

pub if_some : {T : Type 0} (o : Option T) (P Q : T → Type 0) → ((x : T) → P x → Q x) → IfSome o P → IfSome o Q
if_some (Some x) P Q f p = f x p
if_some None P Q f p = p
