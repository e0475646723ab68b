-- Items that lie on the plat without overlapping have no fault, and others have only one first
-- fault.
use Rattle.std.proofs.Common.{◌≡◌, ℕ, zero, suc, ◌<◌, ◌||◌, ◌⊎◌, Bool, true, false, List, [], ◌∷◌, Some}
use Rattle.std.proofs.Common.{length, take, slice_get, refl, sym, ap, subst, ◌∙◌, inl, inr, arith, Result, Ok}
use Rattle.std.proofs.Common.{Err}
use Rattle.std.specs.List.{AllPairs, list_any}
use Rattle.std.proofs.Math.ListN.{get_or}
use Rattle.std.proofs.lemmas.Option.{slice_get_within, get_or_from_slice_get}
use Rattle.twp_grid.specs.Townships.{Designation}
use Rattle.twp_grammar.specs.declared.item.Item.{Item}
use Rattle.twp_grammar.specs.declared.item.Item.TheVariants as item
use Rattle.twp_resolve.specs.declared.place_fault.PlaceFault.{PlaceFault}
use Rattle.twp_grammar.specs.ItemPlaces.{ItemOfSection, item_places, parts_of, land_of}
use Rattle.twp_grid.specs.Lands.{SharePlace}
use Rattle.twp_grid.specs.Lands.{Lotting, HasLand, HasLots}
use Rattle.twp_grammar.specs.OnPlat.{Each, LiesOnPlat, AreOnPlat}
use Rattle.twp_resolve.specs.PlaceFaults.{IsFirstUnlike, HasFault, HasFaultAt, IsFrom}
use Rattle.twp_resolve.specs.PlaceFaults.{turn_of}
use Rattle.twp_resolve.specs.PlaceFaults.{IsFirstPlaceFault, AnswersPlaces}
use Rattle.twp_resolve.specs.declared.place_fault.PlaceFault.TheVariants as fault
use Rattle.twp_grid.specs.Winding.{IsSection}
use Rattle.twp_grammar.specs.declared.item.Numeral.{Numeral}
use Rattle.twp_resolve.proofs.RangeFaults.{none_unlike, none_lacking, none_without_land}
use Rattle.twp_grammar.specs.ItemPlaces.{item_of}

-- an item on the plat has no fault if no item before it named any of its places
pub none_of_item : (lots : Lotting) (township : Designation) (earlier : ℕ → ℕ → ℕ → Bool) (section : ℕ)
    (it : Item)
    (is : PlaceFault)
    → LiesOnPlat lots township section it → ¬ SharePlace earlier (item_places lots (item_of section it))
    → ¬ HasFault lots township earlier section it is
none_of_item lots township earlier section (item.Heading number north_south range east_west start)
    (fault.OtherTownship at) lies apart has = has.1 lies
none_of_item lots township earlier section (item.Sections first last whole) (fault.NoSection at) lies apart
    has =
    none_unlike IsSection first last at lies.0 lies.1 has
none_of_item lots township earlier section (item.Sections first last whole) (fault.Backward at) lies apart
    has =
    omega (arith, lies.2, has.1)
none_of_item lots township earlier section (item.Lots first last) (fault.Backward at) lies apart has =
    omega (arith, lies.0, has.1)
none_of_item lots township earlier section (item.Lots first last) (fault.NoLot at) lies apart has =
    none_lacking lots section first last at lies.0 lies.1 has
none_of_item lots township earlier section (item.Chain steps start) (fault.TooFine at) lies apart has =
    has.1 lies.0
none_of_item lots township earlier section (item.Chain steps start) (fault.OnLot at) lies apart has =
    lies.1 has.1
none_of_item lots township earlier section (item.Sections first last whole) (fault.NoLand at) lies apart has =
    none_without_land lots first last at lies.2 (lies.3 has.0) has.1
none_of_item lots township earlier section (item.Chain steps start) (fault.NoLand at) lies apart has =
    lies.2 has.1
none_of_item lots township earlier section (item.All start) (fault.NoLand at) lies apart has = has.1 lies
none_of_item lots township earlier section it (fault.Overlap at) lies apart has = apart has.1
none_of_item lots township earlier section it other lies apart has = has

-- some of the first elements pass a test
pub record IsFound {X : Type 0} (test : X → Bool) (xs : List X) (n : ℕ) (d : X) : Type 0 where
  pub at : ℕ
  pub before : at < n
  pub within : at < length xs
  pub passes : test (get_or xs at d) ≡ true

pub found : {X : Type 0} (test : X → Bool) (xs : List X) (n : ℕ) (d : X) → list_any test (take n xs) ≡ true
    → IsFound test xs n d
found test xs zero d any = cc any
found test [] (suc n) d any = cc any
found {X = X} test (x ∷ xs) (suc n) d any = elim (either (test x) (list_any test (take n xs)) any) [
  | inl here ↦ record { at = 0; before = omega arith; within = omega arith; passes = here }
  | inr further ↦
      let rest : IsFound test xs n d = found test xs n d further in
      let before : rest.at < n = rest.before in
      let within : rest.at < length xs = rest.within in
      record { at = suc rest.at; before = omega arith; within = omega arith; passes = rest.passes }
]
  where
    either : (a b : Bool) → (a || b) ≡ true → (a ≡ true) ⊎ (b ≡ true)
    either true b h = inl refl
    either false b h = inr h

any_of : {X : Type 0} (test : X → Bool) (xs : List X) (n i : ℕ) (d : X) → i < n → i < length xs
    → test (get_or xs i d) ≡ true → list_any test (take n xs) ≡ true
any_of test xs zero i d before within passes = absurd (omega arith)
any_of test [] (suc n) i d before within passes = absurd (omega arith)
any_of test (x ∷ xs) (suc n) zero d before within passes = ap (λ b. b || list_any test (take n xs)) passes
any_of test (x ∷ xs) (suc n) (suc i) d before within passes =
    or_true (test x) (any_of test xs n i d (omega arith) (omega arith) passes)
  where
    or_true : (a : Bool) {b : Bool} → b ≡ true → (a || b) ≡ true
    or_true true h = refl
    or_true false h = h

-- items are apart from the land of those before them exactly if every two items are apart
pub apart_of_pairs : (lots : Lotting) (parts : List ItemOfSection)
    → AllPairs (λ p q. ¬ SharePlace (item_places lots p) (item_places lots q)) parts
    → (i : ℕ) (d : ItemOfSection) → i < length parts
    → ¬ SharePlace (land_of lots (take i parts)) (item_places lots (get_or parts i d))
apart_of_pairs lots parts pairs i d within shared =
    let at : IsFound (λ p. item_places lots p shared.section shared.column shared.row) parts i d =
    found (λ p. item_places lots p shared.section shared.column shared.row) parts i d shared.in_first in
    pairs at.at i d at.before within (record {
      section = shared.section;
      column = shared.column;
      row = shared.row;
      in_first = at.passes;
      in_second = shared.in_second;
    })

pub pairs_of_apart : (lots : Lotting) (parts : List ItemOfSection)
    → ((i : ℕ) (d : ItemOfSection) → i < length parts
    → ¬ SharePlace (land_of lots (take i parts)) (item_places lots (get_or parts i d)))
    → AllPairs (λ p q. ¬ SharePlace (item_places lots p) (item_places lots q)) parts
pairs_of_apart lots parts apart i j d before within shared =
    apart j d within (record {
      section = shared.section;
      column = shared.column;
      row = shared.row;
      in_first =
          any_of (λ p. item_places lots p shared.section shared.column shared.row) parts j i d before
          (omega arith) shared.in_first;
      in_second = shared.in_second;
    })

-- items that lie on the plat without overlapping have no fault
none_at : (lots : Lotting) (township : Designation) (items : List Item) (index : ℕ) (is : PlaceFault)
    → AreOnPlat lots township items → ¬ HasFaultAt lots township items index is
none_at lots township items index is on has =
    let part = has.part in
    let within : index < length (parts_of items) = slice_get_within (parts_of items) index part has.part_is in
    let same : get_or (parts_of items) index part ≡ part =
    get_or_from_slice_get (parts_of items) index part part has.part_is in
    let lies : LiesOnPlat lots township part.section part.item =
    subst (λ (p : ItemOfSection). LiesOnPlat lots township p.section p.item) same
    (on.each index part within) in
    let apart =
    subst
    (λ (p : ItemOfSection). ¬ SharePlace (land_of lots (take index (parts_of items))) (item_places lots p))
    same (apart_of_pairs lots (parts_of items) on.apart index part within) in
    none_of_item lots township (land_of lots (take index (parts_of items))) part.section part.item is lies
    apart
    has.has

pub no_fault : (lots : Lotting) (township : Designation) (items : List Item) (is : PlaceFault)
    → AreOnPlat lots township items → ¬ IsFirstPlaceFault lots township items is
no_fault lots township items is on first = none_at lots township items first.index is on first.is

-- only one number is the first that lacks the property
one_unlike : (IsOfKind : ℕ → Type 0) (first last : Numeral) (at at' : ℕ)
    → IsFirstUnlike IsOfKind first last at → IsFirstUnlike IsOfKind first last at' → at ≡ at'
one_unlike IsOfKind first last at at' (inl a) (inl b) = a.0 ∙ sym b.0
one_unlike IsOfKind first last at at' (inl a) (inr b) = absurd (a.1 b.1)
one_unlike IsOfKind first last at at' (inr a) (inl b) = absurd (b.1 a.1)
one_unlike IsOfKind first last at at' (inr a) (inr b) = a.0 ∙ sym b.0

-- an item has only one fault with a number
one_of_number : (lots : Lotting) (township : Designation) (earlier : ℕ → ℕ → ℕ → Bool) (section : ℕ)
    (it : Item)
    (one other : PlaceFault)
    → turn_of one ≡ turn_of other
    → HasFault lots township earlier section it one → HasFault lots township earlier section it other
    → one ≡ other
one_of_number lots township earlier section (item.Heading number north_south range east_west start)
    (fault.OtherTownship at) (fault.OtherTownship at') same a b =
    ap (λ x. fault.OtherTownship x) (a.0 ∙ sym b.0)
one_of_number lots township earlier section (item.Sections first last whole) (fault.NoSection at)
    (fault.NoSection at') same a b =
    ap (λ x. fault.NoSection x) (one_unlike IsSection first last at at' a b)
one_of_number lots township earlier section (item.Sections first last whole) (fault.Backward at)
    (fault.Backward at') same a b = ap (λ x. fault.Backward x) (a.0 ∙ sym b.0)
one_of_number lots township earlier section (item.Lots first last) (fault.Backward at) (fault.Backward at')
    same
    a b = ap (λ x. fault.Backward x) (a.0 ∙ sym b.0)
one_of_number lots township earlier section (item.Lots first last) (fault.NoLot at) (fault.NoLot at') same a
    b =
    ap (λ x. fault.NoLot x)
    (one_unlike (λ number. HasLots lots section first.value number) first last at at' a b)
one_of_number lots township earlier section (item.Chain steps start) (fault.TooFine at) (fault.TooFine at')
    same
    a b = ap (λ x. fault.TooFine x) (a.0 ∙ sym b.0)
one_of_number lots township earlier section (item.Chain steps start) (fault.OnLot at) (fault.OnLot at') same a
    b = ap (λ x. fault.OnLot x) (a.0 ∙ sym b.0)
one_of_number lots township earlier section (item.Sections first last whole) (fault.NoLand at)
    (fault.NoLand at') same a b =
    ap (λ x. fault.NoLand x) (one_unlike (Each (HasLand lots) first.value) first last at at' a.1 b.1)
one_of_number lots township earlier section (item.Chain steps start) (fault.NoLand at) (fault.NoLand at')
    same
    a b = ap (λ x. fault.NoLand x) (a.0 ∙ sym b.0)
one_of_number lots township earlier section (item.All start) (fault.NoLand at) (fault.NoLand at') same a b =
    ap (λ x. fault.NoLand x) (a.0 ∙ sym b.0)
one_of_number lots township earlier section it (fault.Overlap at) (fault.Overlap at') same a b =
    ap (λ x. fault.Overlap x) (a.0 ∙ sym b.0)
one_of_number lots township earlier section it one other same a b =
    absurd (first_of (omega (arith, same), assumption (a, b)))

same_index : (i j : ℕ) (f h : PlaceFault) → IsFrom i f j h → IsFrom j h i f
    → (i ≡ j) × (turn_of f ≡ turn_of h)
same_index i j f h (inl a) (inl b) = absurd (omega arith)
same_index i j f h (inl a) (inr b) = absurd (omega (arith, b.0))
same_index i j f h (inr a) (inl b) = absurd (omega (arith, a.0))
same_index i j f h (inr a) (inr b) = (a.0, omega (arith, a.1, b.1))

some_inside : {X : Type 0} (a b : X) → Some a ≡ Some b → a ≡ b
some_inside a b e = cc e

-- only one fault is the first
pub one_fault : (lots : Lotting) (township : Designation) (items : List Item) (one other : PlaceFault)
    → IsFirstPlaceFault lots township items one → IsFirstPlaceFault lots township items other → one ≡ other
one_fault lots township items one other a b =
    let same = same_index a.index b.index one other (a.first b.index other b.is) (b.first a.index one a.is) in
    let p = a.is.part in
    let q = b.is.part in
    let parts : q ≡ p =
    some_inside q p
    (sym b.is.part_is ∙ ap (λ i. slice_get (parts_of items) i) (sym same.0) ∙ a.is.part_is) in
    let here : HasFault lots township (land_of lots (take a.index (parts_of items))) p.section p.item other =
    subst (λ (x : ItemOfSection).
    HasFault lots township (land_of lots (take a.index (parts_of items))) x.section x.item other) parts
    (subst (λ i. HasFault lots township (land_of lots (take i (parts_of items))) q.section q.item other)
    (sym same.0) b.is.has) in
    one_of_number lots township (land_of lots (take a.index (parts_of items))) p.section p.item one other
    same.1
    a.is.has here

pub one_answer : (lots : Lotting) (township : Designation) (items : List Item)
    (answer answer' : Result (ℕ → ℕ → ℕ → Bool) PlaceFault)
    → AnswersPlaces lots township items answer → AnswersPlaces lots township items answer' → answer ≡ answer'
one_answer lots township items (Ok p) (Ok q) a b = ap (λ x. Ok x) (a.land_is ∙ sym b.land_is)
one_answer lots township items (Ok p) (Err f) a b = absurd (no_fault lots township items f a.on_plat b)
one_answer lots township items (Err e) (Ok q) a b = absurd (no_fault lots township items e b.on_plat a)
one_answer lots township items (Err e) (Err f) a b = ap (λ x. Err x) (one_fault lots township items e f a b)
