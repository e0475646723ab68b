-- A word in the singular and several numbers cloud a text.
use Rattle.std.proofs.Common.{◌≡◌, ℕ, ◌&&◌, ◌||◌, Bool, true, false, List, [], ◌∷◌, Option, Some, None}
use Rattle.std.proofs.Common.{refl, if◌then◌else◌}
use Rattle.twp_grammar.specs.declared.tokens.Kind.{Kind}
use Rattle.twp_grammar.specs.declared.tokens.Kind.TheVariants.{Sec, Lot, And, To}
use Rattle.twp_grammar.specs.declared.tokens.Kind.TheVariants.{Number, Comma}
use Rattle.twp_grammar.specs.declared.tokens.Kind.TheVariants.{Stop}
use Rattle.twp_grammar.specs.declared.state.State.{State}
use Rattle.twp_grammar.specs.declared.state.State.TheVariants as past
use Rattle.twp_grammar.specs.Tokens.{Token}
use Rattle.twp_grammar.specs.Grammar.{class_of, sec, lot}
use Rattle.twp_grammar.specs.Machine.{next}
use Rattle.twp_read.specs.declared.watch.ListWord.{ListWord}
use Rattle.twp_read.specs.declared.watch.ListWord.TheVariants as word
use Rattle.twp_read.specs.declared.doubt.DoubtfulPlace.{DoubtfulPlace}
use Rattle.twp_read.specs.Doubts.{end_of, is_number, is_and}
use Rattle.twp_read.specs.Doubts.{is_singular, begin_with_number, begin_with_and_number, joins_number}
use Rattle.twp_read.specs.Doubts.{begin_several, are_several_after, are_several, several_at}
use Rattle.twp_read.specs.steps.Watching.{clouds, word_after, Unclouded}
use Rattle.twp_read.specs.steps.Watching.{is_lot_join}

pub none_if_false : (b : Bool) (some : DoubtfulPlace) → b ≡ false
    → ◌≡◌ {A = Option DoubtfulPlace} (if b then Some some else None) None
none_if_false false some h = refl
none_if_false true some h = cc h

-- where the words lead
after_sec : (ands : Bool) (it : ListWord) (end : ℕ) (state : State) (tokens : List Token)
    → Unclouded ands it end (next state sec) tokens → Unclouded ands it end (Some past.SectionWord) tokens
after_sec ands it end past.Start tokens u = u
after_sec ands it end past.RangeSide tokens u = u
after_sec ands it end past.RangeSideStop tokens u = u
after_sec ands it end past.BeforeGroup tokens u = u
after_sec ands it end past.Semicolon tokens u = u
after_sec ands it end _ tokens u = absurd u

after_lot : (ands : Bool) (it : ListWord) (end : ℕ) (state : State) (tokens : List Token)
    → Unclouded ands it end (next state lot) tokens → Unclouded ands it end (Some past.Lot) tokens
after_lot ands it end past.SectionNumber tokens u = u
after_lot ands it end past.SectionComma tokens u = u
after_lot ands it end past.LotComma tokens u = u
after_lot ands it end past.LotLastComma tokens u = u
after_lot ands it end past.LotAnd tokens u = u
after_lot ands it end past.BeforePart tokens u = u
after_lot ands it end past.PartComma tokens u = u
after_lot ands it end _ tokens u = absurd u

-- SEVERAL, of sections
no_second_section : (ands : Bool) (end : ℕ) (tokens : List Token)
    → Unclouded ands word.Usual end (Some past.SectionComma) tokens
    → (begin_with_number tokens || begin_with_and_number tokens) ≡ false
no_second_section ands end [] u = refl
no_second_section ands end (token ∷ more) u = by_kind token.kind u.0
  where
    by_kind : (kind : Kind) → clouds ands word.Usual past.SectionComma end token kind ≡ false
        → (is_number kind || (is_and kind && begin_with_number more)) ≡ false
    by_kind (Number value) h = cc h
    by_kind And h = cc h
    by_kind _ h = refl

no_list_of_sections : (ands : Bool) (end : ℕ) (join : Token) (more : List Token)
    → Unclouded ands word.Usual end (Some past.SectionNumber) (join ∷ more)
    → joins_number join.kind more ≡ false
no_list_of_sections ands end join more u = by_kind join.kind u.0 u.1
  where
    by_kind : (kind : Kind) → clouds ands word.Usual past.SectionNumber end join kind ≡ false
        → Unclouded ands (word_after kind join.text (next past.SectionNumber (class_of kind)) word.Usual)
        (end_of join) (next past.SectionNumber (class_of kind)) more
        → joins_number kind more ≡ false
    by_kind To h v = cc h
    by_kind And h v = cc h
    by_kind Comma h v = no_second_section ands (end_of join) more v
    by_kind _ h v = refl

-- the two states before the number of a section
abbrev before_section : State → Bool
before_section past.SectionWord = true
before_section past.SectionStop = true
before_section _ = false

no_several_sections : (ands : Bool) (end : ℕ) (state : State) (tokens : List Token)
    → before_section state ≡ true
    → Unclouded ands word.Usual end (Some state) tokens → begin_several tokens ≡ false
no_several_sections ands end state [] before u = refl
no_several_sections ands end state (number ∷ []) before u = refl
no_several_sections ands end state (number ∷ join ∷ more) before u = by_kind number.kind state before u.1
  where
    by_kind : (kind : Kind) (state : State) → before_section state ≡ true
        → Unclouded ands (word_after kind number.text (next state (class_of kind)) word.Usual)
        (end_of number)
        (next state (class_of kind)) (join ∷ more)
        → (is_number kind && joins_number join.kind more) ≡ false
    by_kind (Number value) past.SectionWord h v = no_list_of_sections ands (end_of number) join more v
    by_kind (Number value) past.SectionStop h v = no_list_of_sections ands (end_of number) join more v
    by_kind (Number value) _ h v = cc h
    by_kind _ state h v = refl

none_of_section : (ands : Bool) (end : ℕ) (tokens : List Token)
    → Unclouded ands word.Usual end (Some past.SectionWord) tokens → are_several tokens ≡ false
none_of_section ands end [] u = refl
none_of_section ands end (token ∷ more) u = by_kind token.kind u.1
  where
    by_kind : (kind : Kind)
        → Unclouded ands (word_after kind token.text (next past.SectionWord (class_of kind)) word.Usual)
        (end_of token) (next past.SectionWord (class_of kind)) more
        → are_several_after kind token more ≡ false
    by_kind Stop v = no_several_sections ands (end_of token) past.SectionStop more refl v
    by_kind _ v = no_several_sections ands end past.SectionWord (token ∷ more) refl u

-- SEVERAL, of lots
-- where the second number of a lot is doubtful
no_second_lot : (ands : Bool) (end : ℕ) (state : State) (tokens : List Token) → is_lot_join state ≡ true
    → Unclouded ands word.Lot end (Some state) tokens → begin_with_number tokens ≡ false
no_second_lot ands end state [] before u = refl
no_second_lot ands end state (token ∷ more) before u = by_kind token.kind state before u.0
  where
    by_kind : (kind : Kind) (state : State) → is_lot_join state ≡ true
        → clouds ands word.Lot state end token kind ≡ false → is_number kind ≡ false
    by_kind (Number value) past.LotComma join h = cc h
    by_kind (Number value) past.LotAnd join h = cc h
    by_kind (Number value) past.LotTo join h = cc h
    by_kind (Number value) _ join h = cc join
    by_kind _ state join h = refl

no_second_lot_and : (ands : Bool) (end : ℕ) (tokens : List Token)
    → Unclouded ands word.Lot end (Some past.LotComma) tokens
    → (begin_with_number tokens || begin_with_and_number tokens) ≡ false
no_second_lot_and ands end [] u = refl
no_second_lot_and ands end (token ∷ more) u = by_kind token.kind u.0 u.1
  where
    by_kind : (kind : Kind) → clouds ands word.Lot past.LotComma end token kind ≡ false
        → Unclouded ands (word_after kind token.text (next past.LotComma (class_of kind)) word.Lot)
        (end_of token) (next past.LotComma (class_of kind)) more
        → (is_number kind || (is_and kind && begin_with_number more)) ≡ false
    by_kind (Number value) h v = cc h
    by_kind And h v = no_second_lot ands (end_of token) past.LotAnd more refl v
    by_kind _ h v = refl

no_list_of_lots : (ands : Bool) (end : ℕ) (join : Token) (more : List Token)
    → Unclouded ands word.Lot end (Some past.LotNumber) (join ∷ more) → joins_number join.kind more ≡ false
no_list_of_lots ands end join more u = by_kind join.kind u.1
  where
    by_kind : (kind : Kind)
        → Unclouded ands (word_after kind join.text (next past.LotNumber (class_of kind)) word.Lot)
        (end_of join) (next past.LotNumber (class_of kind)) more
        → joins_number kind more ≡ false
    by_kind To v = no_second_lot ands (end_of join) past.LotTo more refl v
    by_kind And v = no_second_lot ands (end_of join) past.LotAnd more refl v
    by_kind Comma v = no_second_lot_and ands (end_of join) more v
    by_kind _ v = refl

no_several_lots : (ands : Bool) (end : ℕ) (tokens : List Token)
    → Unclouded ands word.Lot end (Some past.Lot) tokens → begin_several tokens ≡ false
no_several_lots ands end [] u = refl
no_several_lots ands end (number ∷ []) u = refl
no_several_lots ands end (number ∷ join ∷ more) u = by_kind number.kind u.1
  where
    by_kind : (kind : Kind)
        → Unclouded ands (word_after kind number.text (next past.Lot (class_of kind)) word.Lot)
        (end_of number) (next past.Lot (class_of kind)) (join ∷ more)
        → (is_number kind && joins_number join.kind more) ≡ false
    by_kind (Number value) v = no_list_of_lots ands (end_of number) join more v
    by_kind _ v = refl

none_of_lot : (ands : Bool) (end : ℕ) (tokens : List Token)
    → Unclouded ands word.Lot end (Some past.Lot) tokens → are_several tokens ≡ false
none_of_lot ands end [] u = refl
none_of_lot ands end (token ∷ more) u = by_kind token.kind u.1
  where
    by_kind : (kind : Kind)
        → Unclouded ands (word_after kind token.text (next past.Lot (class_of kind)) word.Lot)
        (end_of token) (next past.Lot (class_of kind)) more
        → are_several_after kind token more ≡ false
    by_kind Stop v = absurd v
    by_kind _ v = no_several_lots ands end (token ∷ more) u

pub none_of_word : (ands : Bool) (state : State) (it : ListWord) (word_token : Token) (tokens : List Token)
    (kind : Kind) (several : (singular : Bool) → is_singular word_token.text ≡ singular
    → (singular && are_several tokens) ≡ false)
    → several_at word_token tokens ≡ None
none_of_word ands state it word_token tokens kind several =
    none_if_false (is_singular word_token.text && are_several tokens) _
    (several (is_singular word_token.text) refl)

pub no_sections : (ands : Bool) (state : State) (it : ListWord) (token : Token) (tokens : List Token)
    → Unclouded ands (word_after Sec token.text (next state sec) it) (end_of token) (next state sec) tokens
    → (singular : Bool) → is_singular token.text ≡ singular → (singular && are_several tokens) ≡ false
no_sections ands state it token tokens u false is = refl
no_sections ands state it token tokens u true is =
    none_of_section ands (end_of token) tokens
    (after_sec ands word.Usual (end_of token) state tokens (rw is at u))

pub no_lots : (ands : Bool) (state : State) (it : ListWord) (token : Token) (tokens : List Token)
    → Unclouded ands (word_after Lot token.text (next state lot) it) (end_of token) (next state lot) tokens
    → (singular : Bool) → is_singular token.text ≡ singular → (singular && are_several tokens) ≡ false
no_lots ands state it token tokens u false is = refl
no_lots ands state it token tokens u true is =
    none_of_lot ands (end_of token) tokens
    (after_lot ands word.Lot (end_of token) state tokens (rw is at u))
