-- What the reader takes as a whole leads it on as if it were cut token by token.
use Rattle.std.proofs.Common.{◌≡◌, ℕ, ◌+◌, Bool, true, List, [], ◌∷◌, ◌++◌, Some, length, drop, refl}
use Rattle.std.proofs.Common.{sym, ap, subst, ◌∙◌, arith, suc, ◌<◌, ◌≤◌, get_or}
use Rattle.std.specs.Option.{is_some}
use Rattle.std.proofs.lemmas.List.{drop-drop}
use Rattle.twp_grid.specs.declared.block.Side.TheVariants as side
use Rattle.twp_read.specs.declared.watch.ItemChange.TheVariants.{Grown}
use Rattle.twp_grammar.specs.declared.item.Item.{Item}
use Rattle.twp_grammar.specs.declared.item.Item.TheVariants.{Chain}
use Rattle.twp_grammar.specs.declared.item.Step.{Step}
use Rattle.twp_grammar.specs.declared.item.Step.TheVariants as step
use Rattle.twp_grammar.specs.declared.tokens.Kind.{Kind}
use Rattle.twp_grammar.specs.declared.state.State.{State}
use Rattle.twp_grammar.specs.declared.state.State.TheVariants as past
use Rattle.twp_grammar.specs.Grammar.{class_of, lot}
use Rattle.twp_grammar.specs.Machine.{next, is_in_chain}
use Rattle.twp_read.specs.steps.TokenSteps.{take_token, with_newest, before_parts}
use Rattle.twp_read.specs.steps.Usual.{Leads, IsKindAt, IsStepAt, letters_of, fraction_of}
use Rattle.twp_grammar.specs.Tokens.{Token}
use Rattle.twp_read.specs.steps.Watching.{is_usual}
use Rattle.twp_read.proofs.Leading.{leads_then, leads_token}
use Rattle.twp_read.proofs.WatchFacts.{usual_here, letters_are_usual, fraction_is_usual}

-- a chain continues with the letters of a step and with its fraction
record GrowsBy (state : State) (it : Step) : Type 0 where
  between : State
  letters : next state (class_of (letters_of it)) ≡ Some between
  fraction : next between (class_of (fraction_of it)) ≡ Some past.Step
  grown : (at : ℕ) (its : List Item) → take_token state (letters_of it) at its ≡ with_newest (Grown it) its
  kept : (at : ℕ) (its : List Item) → take_token between (fraction_of it) at its ≡ its

grown_by : {state : State} {it : Step} (between : State)
    → next state (class_of (letters_of it)) ≡ Some between
    → next between (class_of (fraction_of it)) ≡ Some past.Step
    → ((at : ℕ) (its : List Item) → take_token state (letters_of it) at its ≡ with_newest (Grown it) its)
    → ((at : ℕ) (its : List Item) → take_token between (fraction_of it) at its ≡ its)
    → GrowsBy state it
grown_by between letters fraction grown kept =
    record { between = between; letters = letters; fraction = fraction; grown = grown; kept = kept }

grows_by : (state : State) (it : Step) → is_in_chain state ≡ true → GrowsBy state it
grows_by past.Step (step.Half side.N) h = grown_by past.Side refl refl (λ at its. refl) (λ at its. refl)
grows_by past.Step (step.Half side.S) h = grown_by past.Side refl refl (λ at its. refl) (λ at its. refl)
grows_by past.Step (step.Half side.E) h = grown_by past.Side refl refl (λ at its. refl) (λ at its. refl)
grows_by past.Step (step.Half side.W) h = grown_by past.Side refl refl (λ at its. refl) (λ at its. refl)
grows_by past.Step (step.Quarter corner) h = grown_by past.Corner refl refl (λ at its. refl) (λ at its. refl)
grows_by past.Of (step.Half side.N) h = grown_by past.Side refl refl (λ at its. refl) (λ at its. refl)
grows_by past.Of (step.Half side.S) h = grown_by past.Side refl refl (λ at its. refl) (λ at its. refl)
grows_by past.Of (step.Half side.E) h = grown_by past.Side refl refl (λ at its. refl) (λ at its. refl)
grows_by past.Of (step.Half side.W) h = grown_by past.Side refl refl (λ at its. refl) (λ at its. refl)
grows_by past.Of (step.Quarter corner) h = grown_by past.Corner refl refl (λ at its. refl) (λ at its. refl)
grows_by past.OfThe (step.Half side.N) h = grown_by past.Side refl refl (λ at its. refl) (λ at its. refl)
grows_by past.OfThe (step.Half side.S) h = grown_by past.Side refl refl (λ at its. refl) (λ at its. refl)
grows_by past.OfThe (step.Half side.E) h = grown_by past.Side refl refl (λ at its. refl) (λ at its. refl)
grows_by past.OfThe (step.Half side.W) h = grown_by past.Side refl refl (λ at its. refl) (λ at its. refl)
grows_by past.OfThe (step.Quarter corner) h = grown_by past.Corner refl refl (λ at its. refl) (λ at its. refl)
grows_by _ it h = cc h

stands_leads : (text : List ℕ) (at : ℕ) (state : State) (its : List Item) (kind : Kind) (size : ℕ)
    (after : State) (grown : List Item)
    → IsKindAt text at kind size → next state (class_of kind) ≡ Some after
    → ((place : ℕ) → take_token state kind place its ≡ grown)
    → ((token : Token) → is_usual state token.at token kind ≡ true)
    → Leads text at state its (at + size) after grown
stands_leads text at state its kind size after grown s is grows usual =
    let step_is : next state (class_of s.token.kind) ≡ Some after =
    ap (λ k. next state (class_of k)) s.kind_is ∙ is in
    let grown_is : take_token state s.token.kind s.token.at its ≡ grown =
    ap (λ k. take_token state k s.token.at its) s.kind_is ∙ grows s.token.at in
    subst (λ (js : List Item). Leads text at state its (at + size) after js) grown_is
    (leads_token text at state its s.token (at + size) after s.starts s.ends s.within step_is
    (usual_here state at s.token kind s.kind_is s.here (usual s.token)))

-- a chain continues with a step
pub step_leads : (text : List ℕ) (from : ℕ) (begun : State) (its : List Item) (at : ℕ) (state : State)
    (some : List Item) (it : Step) (size : ℕ)
    → is_in_chain state ≡ true → Leads text from begun its at state some → IsStepAt text at it size
    → Leads text from begun its (at + size) past.Step (with_newest (Grown it) some)
step_leads text from begun its at state some it size in_chain so_far s =
    let by : GrowsBy state it = grows_by state it in_chain in
    let grown : List Item = with_newest (Grown it) some in
    let end : (at + s.letters_size) + s.fraction_size ≡ at + size = rw (s.size_is) (omega arith) in
    let letters : Leads text at state some (at + s.letters_size) by.between grown =
    stands_leads text at state some (letters_of it) s.letters_size by.between grown s.letters by.letters
    (λ place. by.grown place some) (letters_are_usual state it) in
    let fraction : Leads text (at + s.letters_size) by.between grown
    ((at + s.letters_size) + s.fraction_size) past.Step grown =
    stands_leads text (at + s.letters_size) by.between grown (fraction_of it) s.fraction_size past.Step
    grown s.fraction by.fraction (λ place. by.kept place grown) (fraction_is_usual by.between it) in
    leads_then text from begun its at state some (at + size) past.Step grown so_far
    (subst (λ (n : ℕ). Leads text at state some n past.Step grown) end
    (leads_then text at state some (at + s.letters_size) by.between grown
    ((at + s.letters_size) + s.fraction_size) past.Step grown letters fraction))

-- a part begins with the letters of a step and with its fraction
record BeginsWith (state : State) (it : Step) : Type 0 where
  between : State
  letters : next state (class_of (letters_of it)) ≡ Some between
  fraction : next between (class_of (fraction_of it)) ≡ Some past.Step
  begun : (at : ℕ) (its : List Item)
      → take_token state (letters_of it) at its ≡ Chain (it ∷ []) at ∷ before_parts state its
  kept : (at : ℕ) (its : List Item) → take_token between (fraction_of it) at its ≡ its

begun_by : {state : State} {it : Step} (between : State)
    → next state (class_of (letters_of it)) ≡ Some between
    → next between (class_of (fraction_of it)) ≡ Some past.Step
    → ((at : ℕ) (its : List Item)
    → take_token state (letters_of it) at its ≡ Chain (it ∷ []) at ∷ before_parts state its)
    → ((at : ℕ) (its : List Item) → take_token between (fraction_of it) at its ≡ its)
    → BeginsWith state it
begun_by between letters fraction begun kept =
    record { between = between; letters = letters; fraction = fraction; begun = begun; kept = kept }

part_begins_with : (state : State) (it : Step) → is_some (next state lot) ≡ true → BeginsWith state it
part_begins_with past.SectionNumber (step.Half side.N) h =
    begun_by past.Side refl refl (λ at its. refl) (λ at its. refl)
part_begins_with past.SectionNumber (step.Half side.S) h =
    begun_by past.Side refl refl (λ at its. refl) (λ at its. refl)
part_begins_with past.SectionNumber (step.Half side.E) h =
    begun_by past.Side refl refl (λ at its. refl) (λ at its. refl)
part_begins_with past.SectionNumber (step.Half side.W) h =
    begun_by past.Side refl refl (λ at its. refl) (λ at its. refl)
part_begins_with past.SectionNumber (step.Quarter which) h =
    begun_by past.Corner refl refl (λ at its. refl) (λ at its. refl)
part_begins_with past.SectionComma (step.Half side.N) h =
    begun_by past.Side refl refl (λ at its. refl) (λ at its. refl)
part_begins_with past.SectionComma (step.Half side.S) h =
    begun_by past.Side refl refl (λ at its. refl) (λ at its. refl)
part_begins_with past.SectionComma (step.Half side.E) h =
    begun_by past.Side refl refl (λ at its. refl) (λ at its. refl)
part_begins_with past.SectionComma (step.Half side.W) h =
    begun_by past.Side refl refl (λ at its. refl) (λ at its. refl)
part_begins_with past.SectionComma (step.Quarter which) h =
    begun_by past.Corner refl refl (λ at its. refl) (λ at its. refl)
part_begins_with past.LotComma (step.Half side.N) h =
    begun_by past.Side refl refl (λ at its. refl) (λ at its. refl)
part_begins_with past.LotComma (step.Half side.S) h =
    begun_by past.Side refl refl (λ at its. refl) (λ at its. refl)
part_begins_with past.LotComma (step.Half side.E) h =
    begun_by past.Side refl refl (λ at its. refl) (λ at its. refl)
part_begins_with past.LotComma (step.Half side.W) h =
    begun_by past.Side refl refl (λ at its. refl) (λ at its. refl)
part_begins_with past.LotComma (step.Quarter which) h =
    begun_by past.Corner refl refl (λ at its. refl) (λ at its. refl)
part_begins_with past.LotLastComma (step.Half side.N) h =
    begun_by past.Side refl refl (λ at its. refl) (λ at its. refl)
part_begins_with past.LotLastComma (step.Half side.S) h =
    begun_by past.Side refl refl (λ at its. refl) (λ at its. refl)
part_begins_with past.LotLastComma (step.Half side.E) h =
    begun_by past.Side refl refl (λ at its. refl) (λ at its. refl)
part_begins_with past.LotLastComma (step.Half side.W) h =
    begun_by past.Side refl refl (λ at its. refl) (λ at its. refl)
part_begins_with past.LotLastComma (step.Quarter which) h =
    begun_by past.Corner refl refl (λ at its. refl) (λ at its. refl)
part_begins_with past.LotAnd (step.Half side.N) h =
    begun_by past.Side refl refl (λ at its. refl) (λ at its. refl)
part_begins_with past.LotAnd (step.Half side.S) h =
    begun_by past.Side refl refl (λ at its. refl) (λ at its. refl)
part_begins_with past.LotAnd (step.Half side.E) h =
    begun_by past.Side refl refl (λ at its. refl) (λ at its. refl)
part_begins_with past.LotAnd (step.Half side.W) h =
    begun_by past.Side refl refl (λ at its. refl) (λ at its. refl)
part_begins_with past.LotAnd (step.Quarter which) h =
    begun_by past.Corner refl refl (λ at its. refl) (λ at its. refl)
part_begins_with past.BeforePart (step.Half side.N) h =
    begun_by past.Side refl refl (λ at its. refl) (λ at its. refl)
part_begins_with past.BeforePart (step.Half side.S) h =
    begun_by past.Side refl refl (λ at its. refl) (λ at its. refl)
part_begins_with past.BeforePart (step.Half side.E) h =
    begun_by past.Side refl refl (λ at its. refl) (λ at its. refl)
part_begins_with past.BeforePart (step.Half side.W) h =
    begun_by past.Side refl refl (λ at its. refl) (λ at its. refl)
part_begins_with past.BeforePart (step.Quarter which) h =
    begun_by past.Corner refl refl (λ at its. refl) (λ at its. refl)
part_begins_with past.PartComma (step.Half side.N) h =
    begun_by past.Side refl refl (λ at its. refl) (λ at its. refl)
part_begins_with past.PartComma (step.Half side.S) h =
    begun_by past.Side refl refl (λ at its. refl) (λ at its. refl)
part_begins_with past.PartComma (step.Half side.E) h =
    begun_by past.Side refl refl (λ at its. refl) (λ at its. refl)
part_begins_with past.PartComma (step.Half side.W) h =
    begun_by past.Side refl refl (λ at its. refl) (λ at its. refl)
part_begins_with past.PartComma (step.Quarter which) h =
    begun_by past.Corner refl refl (λ at its. refl) (λ at its. refl)
part_begins_with _ it h = cc h

-- a token that is at a place leads on from there
token_leads : (text : List ℕ) (at : ℕ) (state : State) (its : List Item) (kind : Kind) (size : ℕ)
    (after : State) (grown : List Item) (s : IsKindAt text at kind size)
    → next state (class_of kind) ≡ Some after → take_token state kind at its ≡ grown
    → ((token : Token) → is_usual state token.at token kind ≡ true)
    → Leads text at state its (at + size) after grown
token_leads text at state its kind size after grown s is grows usual =
    let step_is : next state (class_of s.token.kind) ≡ Some after =
    ap (λ k. next state (class_of k)) s.kind_is ∙ is in
    let grown_is : take_token state s.token.kind s.token.at its ≡ grown =
    ap (λ k. take_token state k s.token.at its) s.kind_is
    ∙ ap (λ n. take_token state kind n its) s.here
    ∙ grows in
    subst (λ (js : List Item). Leads text at state its (at + size) after js) grown_is
    (leads_token text at state its s.token (at + size) after s.starts s.ends s.within step_is
    (usual_here state at s.token kind s.kind_is s.here (usual s.token)))

-- the first step of a part leads on, and then what follows the step
pub first_leads : (text : List ℕ) (at : ℕ) (state : State) (its : List Item) (it : Step) (size to : ℕ)
    (after : State) (grown : List Item)
    → true ≡ is_some (next state lot) → IsStepAt text at it size
    → Leads text (at + size) past.Step (Chain (it ∷ []) at ∷ before_parts state its) to after grown
    → Leads text at state its to after grown
first_leads text at state its it size to after grown begins s more =
    let by : BeginsWith state it = part_begins_with state it (sym begins) in
    let begun : List Item = Chain (it ∷ []) at ∷ before_parts state its in
    let end : (at + s.letters_size) + s.fraction_size ≡ at + size = rw (s.size_is) (omega arith) in
    let letters : Leads text at state its (at + s.letters_size) by.between begun =
    token_leads text at state its (letters_of it) s.letters_size by.between begun s.letters by.letters
    (by.begun at its) (letters_are_usual state it) in
    let fraction : Leads text (at + s.letters_size) by.between begun
    ((at + s.letters_size) + s.fraction_size) past.Step begun =
    token_leads text (at + s.letters_size) by.between begun (fraction_of it) s.fraction_size past.Step
    begun s.fraction by.fraction (by.kept (at + s.letters_size) begun) (fraction_is_usual by.between it) in
    let both : Leads text at state its (at + size) past.Step begun =
    subst (λ (n : ℕ). Leads text at state its n past.Step begun) end
    (leads_then text at state its (at + s.letters_size) by.between begun
    ((at + s.letters_size) + s.fraction_size) past.Step begun letters fraction) in
    leads_then text at state its (at + size) past.Step begun to after grown both more

-- what a test of the bytes at a place says, one by one
pub begins_there : (text : List ℕ) (at : ℕ) (bytes left : List ℕ) → left ≡ drop at text
    → length bytes ≤ length left
    → ((k : ℕ) → k < length bytes → get_or left k 0 ≡ get_or bytes k 0)
    → drop at text ≡ bytes ++ drop (at + length bytes) text
begins_there text at bytes left left_is few same =
    sym left_is
    ∙ alike left bytes few same
    ∙ ap (λ b. bytes ++ drop (length bytes) b) left_is
    ∙ ap (λ b. bytes ++ b) (drop-drop (length bytes) at text)
  where
    alike : (xs ys : List ℕ) → length ys ≤ length xs
        → ((k : ℕ) → k < length ys → get_or xs k 0 ≡ get_or ys k 0)
        → xs ≡ ys ++ drop (length ys) xs
    alike xs [] few same = refl
    alike [] (y ∷ ys) few same = absurd (omega arith)
    alike (x ∷ xs) (y ∷ ys) few same =
        ap (λ z. z ∷ xs) (same 0 (omega arith))
        ∙ ap (λ zs. y ∷ zs) (alike xs ys (omega arith) (λ k below. same (suc k) (omega arith)))
