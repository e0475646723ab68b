-- What is taken in its usual spelling is not left to the reader's loop, and white space after a step is.
use Rattle.std.proofs.Common.{◌≡◌, ℕ, ◌&&◌, ◌||◌, ◌==◌, not, Bool, true, false, List, [], ◌∷◌, ◌++◌}
use Rattle.std.proofs.Common.{Option, Some, None, length, drop, refl, sym, ap, subst, ◌∙◌, arith, ltb}
use Rattle.std.proofs.Common.{if◌then◌else◌}
use Rattle.std.specs.Option.{is_some}
use Rattle.std.proofs.lemmas.Bool.{le-ltb}
use Rattle.std.proofs.lemmas.List.{append-nil, drop-drop}
use Rattle.std.proofs.Math.Seq.{drop-append_seam}
use Rattle.twp_grid.specs.declared.block.Side.TheVariants as side
use Rattle.twp_grammar.specs.declared.item.Item.{Item}
use Rattle.twp_grammar.specs.declared.item.Step.{Step}
use Rattle.twp_grammar.specs.declared.item.Step.TheVariants as step
use Rattle.twp_grammar.specs.declared.tokens.Kind.{Kind}
use Rattle.twp_grammar.specs.declared.tokens.Kind.TheVariants.{Sec, Lot, And, To, NorthSouth, EastWest}
use Rattle.twp_grammar.specs.declared.tokens.Kind.TheVariants.{Corner}
use Rattle.twp_grammar.specs.declared.tokens.Kind.TheVariants.{Number}
use Rattle.twp_grammar.specs.declared.state.State.{State}
use Rattle.twp_grammar.specs.declared.state.State.TheVariants as past
use Rattle.twp_grammar.specs.Tokens.{Token, StartsWith}
use Rattle.twp_grammar.specs.Grammar.{Class, class_of, comma, lot}
use Rattle.twp_grammar.specs.Machine.{next}
use Rattle.twp_read.specs.Doubts.{end_of, is_padded, is_singular}
use Rattle.twp_read.specs.steps.TokenSteps.{run, take_token}
use Rattle.twp_read.specs.steps.Usual.{letters_of, fraction_of, may_be_doubtful, begins_with_zero}
use Rattle.twp_read.specs.steps.Usual.{joins_doubtfully}
use Rattle.twp_read.specs.declared.watch.ListWord.{ListWord}
use Rattle.twp_read.specs.declared.watch.ListWord.TheVariants as word
use Rattle.twp_read.specs.steps.Watching.{is_step, is_section, is_heading, is_lot_join, is_usual, end_from}
use Rattle.twp_read.specs.steps.Watching.{is_pending_at, clouds, begins_list, word_after, word_from}
use Rattle.twp_read.specs.steps.Watching.{Unclouded}

-- what a step doesn't continue with begins at no step
pub not_step : (class : Class) (state after : State) → next past.Step class ≡ None
    → next state class ≡ Some after → is_step state ≡ false
not_step class past.Step after none is =
    let both : ◌≡◌ {A = Option State} None (Some after) = sym none ∙ is in
    cc both
not_step class _ after none is = refl

abbrev is_step_at : Option State → Bool
is_step_at None = false
is_step_at (Some state) = is_step state

comma_ends_no_step : (state : State) → is_step_at (next state comma) ≡ false
comma_ends_no_step past.TownshipSide = refl
comma_ends_no_step _ = refl

pub comma_no_step : (state after : State) → next state comma ≡ Some after → is_step after ≡ false
comma_no_step state after is = sym (ap is_step_at is) ∙ comma_ends_no_step state

-- no part begins after a step
pub part_no_step : (state : State) → is_some (next state lot) ≡ true → is_step state ≡ false
part_no_step past.Step h = cc h
part_no_step _ h = refl

pub no_white_after_step : (state : State) (at to : ℕ) → is_step state ≡ true → is_step state ≡ false → to ≡ at
no_white_after_step state at to step no_step =
    let both : true ≡ false = sym step ∙ no_step in
    absurd (cc both)

abbrev state_of : State → Option (State × List Item) → State
state_of other None = other
state_of other (Some reached) = reached.0

-- more tokens after some, of which none clouds the text
pub unclouded_then : (ands : Bool) (it : ListWord) (end : ℕ) (o : Option State) (its : List Item)
    (state : State)
    (some : List Item) (fs gs : List Token)
    → Unclouded ands it end o fs → run o its fs ≡ Some (state, some)
    → Unclouded ands (word_from it o fs) (end_from end fs) (Some state) gs
    → Unclouded ands it end o (fs ++ gs)
unclouded_then ands it end None its state some fs gs first walked after_that = absurd first
unclouded_then ands it end (Some begun) its state some [] gs first walked after_that =
    let same : begun ≡ state = ap (state_of begun) walked in
    subst (λ (s : State). Unclouded ands it end (Some s) gs) (sym same) after_that
unclouded_then ands it end (Some begun) its state some (token ∷ fs) gs first walked after_that = (
  first.0,
  unclouded_then ands (word_after token.kind token.text (next begun (class_of token.kind)) it) (end_of token)
      (next begun (class_of token.kind)) (take_token begun token.kind token.at its) state some fs gs first.1
      walked after_that,
)

pub word_then : (it : ListWord) (o : Option State) (its : List Item) (state : State) (some : List Item)
    (fs gs : List Token)
    → run o its fs ≡ Some (state, some)
    → word_from it o (fs ++ gs) ≡ word_from (word_from it o fs) (Some state) gs
word_then it None its state some [] gs walked = cc walked
word_then it None its state some (token ∷ fs) gs walked = cc walked
word_then it (Some begun) its state some [] gs walked =
    let same : begun ≡ state = ap (state_of begun) walked in
    ap (λ (s : State). word_from it (Some s) gs) same
word_then it (Some begun) its state some (token ∷ fs) gs walked =
    word_then (word_after token.kind token.text (next begun (class_of token.kind)) it)
    (next begun (class_of token.kind)) (take_token begun token.kind token.at its) state some fs gs walked

-- if `and` after a step is let pass, so is what clouds the text without it
let_pass : (section step_there ands : Bool) → (section || (step_there && not ands)) ≡ false
    → (section || (step_there && false)) ≡ false
let_pass false false ands h = refl
let_pass false true ands h = refl
let_pass true step_there ands h = cc h

clouds_less : (ands : Bool) (it : ListWord) (state : State) (end : ℕ) (token : Token) (kind : Kind)
    → clouds ands it state end token kind ≡ false → clouds true it state end token kind ≡ false
clouds_less ands it state end token And h = let_pass (begins_list it state) (is_step state) ands h
clouds_less ands it state end token _ h = h

unclouded_less : (ands : Bool) (it : ListWord) (end : ℕ) (o : Option State) (tokens : List Token)
    → Unclouded ands it end o tokens → Unclouded true it end o tokens
unclouded_less ands it end None tokens h = h
unclouded_less ands it end (Some state) [] h = h
unclouded_less ands it end (Some state) (token ∷ tokens) h = (
  clouds_less ands it state end token token.kind h.0,
  unclouded_less ands (word_after token.kind token.text (next state (class_of token.kind)) it) (end_of token)
      (next state (class_of token.kind)) tokens h.1,
)

pub unclouded_or : (ands more : Bool) (it : ListWord) (end : ℕ) (o : Option State) (tokens : List Token)
    → Unclouded ands it end o tokens → Unclouded (ands || more) it end o tokens
unclouded_or true more it end o tokens h = h
unclouded_or false false it end o tokens h = h
unclouded_or false true it end o tokens h = unclouded_less false it end o tokens h

-- where the token before ends matters only after a step
moved_letters : (b : Bool) (mid at place : ℕ) → (b ≡ true → mid ≡ at) → (b && ltb mid place) ≡ false
    → (b && ltb at place) ≡ false
moved_letters false mid at place same h = refl
moved_letters true mid at place same h = subst (λ n. ltb n place ≡ false) (same refl) h

pub moved_clouds : (ands : Bool) (it : ListWord) (state : State) (mid at : ℕ) (token : Token) (kind : Kind)
    → (is_step state ≡ true → mid ≡ at) → clouds ands it state mid token kind ≡ false
    → clouds ands it state at token kind ≡ false
moved_clouds ands it state mid at token (NorthSouth which) same h =
    moved_letters (is_step state) mid at token.at same h
moved_clouds ands it state mid at token (EastWest which) same h =
    moved_letters (is_step state) mid at token.at same h
moved_clouds ands it state mid at token (Corner which) same h =
    moved_letters (is_step state) mid at token.at same h
moved_clouds ands it state mid at token _ same h = h

pub moved_unclouded : (ands : Bool) (it : ListWord) (state : State) (mid at : ℕ) (tokens : List Token)
    → (is_step state ≡ true → mid ≡ at) → Unclouded ands it mid (Some state) tokens
    → Unclouded ands it at (Some state) tokens
moved_unclouded ands it state mid at [] same clear = tt
moved_unclouded ands it state mid at (token ∷ tokens) same clear =
    (moved_clouds ands it state mid at token token.kind same clear.0, clear.1)

-- what is usual clouds no text, and needs no watching
yes : (b : Bool) → not b ≡ true → b ≡ false
yes false h = refl
yes true h = cc h

pub no_cloud : (ands : Bool) (state : State) (end : ℕ) (token : Token) (kind : Kind)
    → is_usual state end token kind ≡ true → clouds ands word.Usual state end token kind ≡ false
no_cloud true state end token And h =
    let_pass (begins_list word.Usual state) (is_step state) false
    (yes (clouds false word.Usual state end token And) h)
no_cloud false state end token And h = yes (clouds false word.Usual state end token And) h
no_cloud ands state end token Sec h = refl
no_cloud ands state end token Lot h = refl
no_cloud ands state end token kind h = yes (clouds ands word.Usual state end token kind) h

usual_either : (b : Bool) → (if b then word.Usual else word.Usual) ≡ word.Usual
usual_either true = refl
usual_either false = refl

pub word_stays : (state : State) (end : ℕ) (token : Token) (kind : Kind) (after : Option State)
    → is_usual state end token kind ≡ true → word_after kind token.text after word.Usual ≡ word.Usual
word_stays state end token Sec after h = rw h refl
word_stays state end token Lot after h = rw (yes (is_singular token.text) h) refl
word_stays state end token kind after h = usual_either (is_pending_at after)

pub word_end : (it : ListWord) (o : Option State) → word_from it o [] ≡ it
word_end it None = refl
word_end it (Some state) = refl

pub one_unclouded : (ands : Bool) (it : ListWord) (end : ℕ) (state after : State) (token : Token)
    → clouds ands it state end token token.kind ≡ false → next state (class_of token.kind) ≡ Some after
    → Unclouded ands it end (Some state) (token ∷ [])
one_unclouded ands it end state after token h step = (
  h,
  subst (λ (o : Option State). Unclouded ands (word_after token.kind token.text o it) (end_of token) o [])
      (sym step) tt,
)

pub end_from-append : (at : ℕ) (fs gs : List Token) → end_from at (fs ++ gs) ≡ end_from (end_from at fs) gs
end_from-append at [] gs = refl
end_from-append at (token ∷ fs) gs = end_from-append (end_of token) fs gs

pub stays_then : (at mid to : ℕ) (between : State) (some : List Item) (after : State) (grown : List Item)
    (fs gs : List Token)
    → (is_step between ≡ true → mid ≡ end_from at fs) → run (Some between) some gs ≡ Some (after, grown)
    → (is_step after ≡ true → to ≡ end_from mid gs) → is_step after ≡ true → to ≡ end_from at (fs ++ gs)
stays_then at mid to between some after grown fs [] first walked last is =
    let same : between ≡ after = ap (state_of between) walked in
    let begun : is_step between ≡ true = ap is_step same ∙ is in
    last is ∙ first begun ∙ ap (end_from at) (sym (append-nil fs))
stays_then at mid to between some after grown fs (token ∷ gs) first walked last is =
    last is ∙ sym (end_from-append at fs (token ∷ gs))

-- a token right where the one before it ends
pub usual_here : (state : State) (at : ℕ) (token : Token) (kind : Kind) → token.kind ≡ kind → token.at ≡ at
    → is_usual state token.at token kind ≡ true → is_usual state at token token.kind ≡ true
usual_here state at token kind kind_is here h =
    subst (λ (k : Kind). is_usual state at token k ≡ true) (sym kind_is)
    (subst (λ (n : ℕ). is_usual state n token kind ≡ true) here h)

not_before_itself : (b : Bool) (n : ℕ) → not (b && ltb n n) ≡ true
not_before_itself false n = refl
not_before_itself true n = rw (le-ltb n n (omega arith)) refl

pub letters_are_usual : (state : State) (it : Step) (token : Token)
    → is_usual state token.at token (letters_of it) ≡ true
letters_are_usual state (step.Half side.N) token = not_before_itself (is_step state) token.at
letters_are_usual state (step.Half side.S) token = not_before_itself (is_step state) token.at
letters_are_usual state (step.Half side.E) token = not_before_itself (is_step state) token.at
letters_are_usual state (step.Half side.W) token = not_before_itself (is_step state) token.at
letters_are_usual state (step.Quarter which) token = not_before_itself (is_step state) token.at

pub fraction_is_usual : (state : State) (it : Step) (token : Token)
    → is_usual state token.at token (fraction_of it) ≡ true
fraction_is_usual state (step.Half which) token = refl
fraction_is_usual state (step.Quarter which) token = refl

neither : (a b : Bool) → (a || b) ≡ false → (a ≡ false) × (b ≡ false)
neither false b h = (refl, h)
neither true b h = cc h

number_usual : (section heading zero_first padded join : Bool)
    → (section || (heading && zero_first)) ≡ false → (zero_first ≡ false → padded ≡ false)
    → not (((section && true) || (heading && padded)) || (join && false)) ≡ true
number_usual true heading zero_first padded join h plain = cc h
number_usual false false zero_first padded false h plain = refl
number_usual false false zero_first padded true h plain = refl
number_usual false true zero_first padded false h plain = rw (plain h) refl
number_usual false true zero_first padded true h plain = rw (plain h) refl

not_padded : (digits rest : List ℕ) → begins_with_zero (digits ++ rest) ≡ false → is_padded digits ≡ false
not_padded [] rest h = refl
not_padded (digit ∷ []) rest h = refl
not_padded (digit ∷ second ∷ more) rest h = h

-- a token's text where it is
pub text_there : (text : List ℕ) (from : ℕ) (token : Token) (rest : List ℕ)
    → StartsWith from (drop from text) token rest → drop token.at text ≡ token.text ++ rest
text_there text from token rest starts =
    ap (λ n. drop n text) starts.place
    ∙ sym (drop-drop (length starts.space) from text)
    ∙ ap (drop (length starts.space)) starts.spelled
    ∙ drop-append_seam starts.space (token.text ++ rest)

pub number_is_usual : (text : List ℕ) (from : ℕ) (state : State) (token : Token) (value : ℕ) (rest : List ℕ)
    → StartsWith from (drop from text) token rest → token.kind ≡ Number value
    → may_be_doubtful state (drop token.at text) ≡ false
    → is_usual state from token token.kind ≡ true
number_is_usual text from state token value rest starts kind_is sure =
    subst (λ (k : Kind). is_usual state from token k ≡ true) (sym kind_is)
    (number_usual (is_section state) (is_heading state) (begins_with_zero (drop token.at text))
    (is_padded token.text) (is_lot_join state) sure
    (λ plain.
    not_padded token.text rest (sym (ap begins_with_zero (text_there text from token rest starts)) ∙ plain)))

-- `and` and `to` in lists
word_usual : (section step_there : Bool) → (step_there || section) ≡ false
    → not ((section && true) || (step_there && true)) ≡ true
word_usual section true h = cc h
word_usual true false h = cc h
word_usual false false h = refl

pub and_is_usual : (state : State) (from : ℕ) (token : Token) → joins_doubtfully state ≡ false
    → is_usual state from token And ≡ true
and_is_usual state from token h = word_usual (is_section state) (is_step state) h

to_usual : (section step_there : Bool) → (step_there || section) ≡ false → not (section && true) ≡ true
to_usual section true h = cc h
to_usual true false h = cc h
to_usual false false h = refl

pub to_is_usual : (state : State) (from : ℕ) (token : Token) → joins_doubtfully state ≡ false
    → is_usual state from token To ≡ true
to_is_usual state from token h = to_usual (is_section state) (is_step state) h

-- a number that doesn't begin with a zero
pub no_zero : (bytes : List ℕ) → (begins_with_zero bytes ≡ true → ⊥) → begins_with_zero bytes ≡ false
no_zero [] h = refl
no_zero (byte ∷ bytes) h = no_zero_bool (byte == 48) h
  where
    no_zero_bool : (b : Bool) → (b ≡ true → ⊥) → b ≡ false
    no_zero_bool false h = refl
    no_zero_bool true h = absurd (h refl)
