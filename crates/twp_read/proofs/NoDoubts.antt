-- Tokens that cloud no text have no doubtful place.
use Rattle.std.proofs.Common.{◌≡◌, ℕ, ◌&&◌, ◌||◌, Bool, true, false, List, [], ◌∷◌, Option, Some, None}
use Rattle.std.proofs.Common.{refl, ap, ◌∙◌, ltb, if◌then◌else◌}
use Rattle.twp_grammar.specs.declared.tokens.Kind.{Kind}
use Rattle.twp_grammar.specs.declared.tokens.Kind.TheVariants.{Sec, Lot, And, Of, The, T, R}
use Rattle.twp_grammar.specs.declared.tokens.Kind.TheVariants.{NorthSouth, EastWest}
use Rattle.twp_grammar.specs.declared.tokens.Kind.TheVariants.{Corner, Half, Quarter, Number, Comma, Colon}
use Rattle.twp_grammar.specs.declared.tokens.Kind.TheVariants.{Stop}
use Rattle.twp_grammar.specs.declared.state.State.{State}
use Rattle.twp_grammar.specs.declared.state.State.TheVariants as past
use Rattle.twp_grammar.specs.Tokens.{Token}
use Rattle.twp_grammar.specs.Grammar.{class_of, t, r, half, quarter}
use Rattle.twp_grammar.specs.Machine.{next}
use Rattle.twp_read.specs.declared.watch.ListWord.{ListWord}
use Rattle.twp_read.specs.declared.doubt.DoubtfulPlace.{DoubtfulPlace}
use Rattle.twp_read.specs.Doubts.{end_of, begins_step, is_of_step, is_number, is_and, is_of, joined_at}
use Rattle.twp_read.specs.Doubts.{after_steps, begin_with_of, begin_with_part_of, joins_part, shared_at}
use Rattle.twp_read.specs.Doubts.{is_of_part, after_part, adds_part, spread_at, first_place, part_at}
use Rattle.twp_read.specs.Doubts.{begin_with_lone_part}
use Rattle.twp_read.specs.Doubts.{is_padded}
use Rattle.twp_read.specs.Doubts.{padded_number, padded_after, padded_at, doubt_after, with_place, doubts}
use Rattle.twp_read.specs.steps.Watching.{clouds, word_after, Unclouded, is_heading}
use Rattle.twp_read.proofs.NoSeveral.{none_if_false, none_of_word, no_sections, no_lots}

-- no token is `of`
abbrev pub NoOf : List Token → Type 0
NoOf [] = Unit {0}
NoOf (token ∷ tokens) = (is_of token.kind ≡ false) × NoOf tokens

-- where a kind of token leads
after_half : (ands : Bool) (it : ListWord) (end : ℕ) (state : State) (tokens : List Token)
    → Unclouded ands it end (next state half) tokens → Unclouded ands it end (Some past.Step) tokens
after_half ands it end past.Side tokens u = u
after_half ands it end _ tokens u = absurd u

after_quarter : (ands : Bool) (it : ListWord) (end : ℕ) (state : State) (tokens : List Token)
    → Unclouded ands it end (next state quarter) tokens → Unclouded ands it end (Some past.Step) tokens
after_quarter ands it end past.Corner tokens u = u
after_quarter ands it end _ tokens u = absurd u

after_t : (ands : Bool) (it : ListWord) (end : ℕ) (state : State) (tokens : List Token)
    → Unclouded ands it end (next state t) tokens → Unclouded ands it end (Some past.Township) tokens
after_t ands it end past.Start tokens u = u
after_t ands it end _ tokens u = absurd u

after_r : (ands : Bool) (it : ListWord) (end : ℕ) (state : State) (tokens : List Token)
    → Unclouded ands it end (next state r) tokens → Unclouded ands it end (Some past.Range) tokens
after_r ands it end past.TownshipSide tokens u = u
after_r ands it end past.TownshipSideStop tokens u = u
after_r ands it end past.TownshipComma tokens u = u
after_r ands it end _ tokens u = absurd u

-- JOINED
letters_clear : (ands : Bool) (it : ListWord) (end : ℕ) (token : Token) (kind : Kind)
    → clouds ands it past.Step end token kind ≡ false → (begins_step kind && ltb end token.at) ≡ false
letters_clear ands it end token (NorthSouth which) h = h
letters_clear ands it end token (EastWest which) h = h
letters_clear ands it end token (Corner which) h = h
letters_clear ands it end token _ h = refl

none_joined : (ands : Bool) (it : ListWord) (fraction : Token) (tokens : List Token)
    → Unclouded ands it (end_of fraction) (Some past.Step) tokens → joined_at fraction tokens ≡ None
none_joined ands it fraction [] u = refl
none_joined ands it fraction (letters ∷ more) u =
    none_if_false (begins_step letters.kind && ltb (end_of fraction) letters.at) _
    (letters_clear ands it (end_of fraction) letters letters.kind u.0)

-- PADDED
left_false : (a b : Bool) → (a || b) ≡ false → a ≡ false
left_false false b h = refl
left_false true b h = cc h

none_padded : (ands : Bool) (it : ListWord) (end : ℕ) (state : State) (tokens : List Token)
    → is_heading state ≡ true
    → Unclouded ands it end (Some state) tokens → padded_number tokens ≡ None
none_padded ands it end state [] in_heading u = refl
none_padded ands it end state (token ∷ more) in_heading u =
    none_if_false (is_number token.kind && is_padded token.text) _ (by_kind token.kind state in_heading u.0)
  where
    by_kind : (kind : Kind) (state : State) → is_heading state ≡ true
        → clouds ands it state end token kind ≡ false
        → (is_number kind && is_padded token.text) ≡ false
    by_kind (Number value) past.Township heading h = left_false (is_padded token.text) false h
    by_kind (Number value) past.TownshipStop heading h = left_false (is_padded token.text) false h
    by_kind (Number value) past.Range heading h = left_false (is_padded token.text) false h
    by_kind (Number value) past.RangeStop heading h = left_false (is_padded token.text) false h
    by_kind (Number value) _ heading h = cc heading
    by_kind _ state heading h = refl

none_of_township : (ands : Bool) (it : ListWord) (end : ℕ) (tokens : List Token)
    → Unclouded ands it end (Some past.Township) tokens → padded_at tokens ≡ None
none_of_township ands it end [] u = refl
none_of_township ands it end (token ∷ more) u = by_kind token.kind u.1
  where
    by_kind : (kind : Kind)
        → Unclouded ands (word_after kind token.text (next past.Township (class_of kind)) it) (end_of token)
        (next past.Township (class_of kind)) more
        → padded_after kind token more ≡ None
    by_kind Stop v = none_padded ands _ (end_of token) past.TownshipStop more refl v
    by_kind _ v = none_padded ands it end past.Township (token ∷ more) refl u

none_of_range : (ands : Bool) (it : ListWord) (end : ℕ) (tokens : List Token)
    → Unclouded ands it end (Some past.Range) tokens → padded_at tokens ≡ None
none_of_range ands it end [] u = refl
none_of_range ands it end (token ∷ more) u = by_kind token.kind u.1
  where
    by_kind : (kind : Kind)
        → Unclouded ands (word_after kind token.text (next past.Range (class_of kind)) it) (end_of token)
        (next past.Range (class_of kind)) more
        → padded_after kind token more ≡ None
    by_kind Stop v = none_padded ands _ (end_of token) past.RangeStop more refl v
    by_kind _ v = none_padded ands it end past.Range (token ∷ more) refl u

-- SHARED and SPREAD
abbrev in_part : State → Bool
in_part past.Side = true
in_part past.Corner = true
in_part past.Step = true
in_part past.Of = true
in_part past.OfThe = true
in_part past.TownshipSide = true
in_part past.RangeSide = true
in_part _ = false

abbrev in_part_at : Option State → Bool
in_part_at None = true
in_part_at (Some state) = in_part state

letters_lead : (state : State) (kind : Kind) → begins_step kind ≡ true
    → in_part_at (next state (class_of kind)) ≡ true
letters_lead past.Start (NorthSouth which) h = refl
letters_lead _ (NorthSouth which) h = refl
letters_lead _ (EastWest which) h = refl
letters_lead _ (Corner which) h = refl
letters_lead state _ h = cc h

steps_lead : (state : State) (kind : Kind) → is_of_step kind ≡ true
    → in_part_at (next state (class_of kind)) ≡ true
steps_lead past.Start Half h = refl
steps_lead _ Half h = refl
steps_lead _ Quarter h = refl
steps_lead _ (NorthSouth which) h = refl
steps_lead _ (EastWest which) h = refl
steps_lead _ (Corner which) h = refl
steps_lead state _ h = cc h

part_leads : (state : State) (kind : Kind) → is_of_part kind ≡ true
    → in_part_at (next state (class_of kind)) ≡ true
part_leads past.Start Of h = refl
part_leads _ Of h = refl
part_leads _ The h = refl
part_leads state kind h = steps_lead state kind h

no_and : (it word_more : ListWord) (end : ℕ) (state : State) (token : Token) (more : List Token) (kind : Kind)
    (follows : Bool)
    → in_part state ≡ true → clouds false it state end token kind ≡ false
    → Unclouded false word_more (end_of token) (next state (class_of kind)) more
    → (is_and kind && follows) ≡ false
no_and it word_more end past.Step token more And follows h c u = cc c
no_and it word_more end past.Side token more And follows h c u = absurd u
no_and it word_more end past.Corner token more And follows h c u = absurd u
no_and it word_more end past.Of token more And follows h c u = absurd u
no_and it word_more end past.OfThe token more And follows h c u = absurd u
no_and it word_more end past.TownshipSide token more And follows h c u = absurd u
no_and it word_more end past.RangeSide token more And follows h c u = absurd u
no_and it word_more end _ token more And follows h c u = cc h
no_and it word_more end _ token more _ follows h c u = refl

no_join : (it : ListWord) (end : ℕ) (o : Option State) (tokens : List Token) → in_part_at o ≡ true
    → Unclouded false it end o tokens → joins_part (after_steps tokens) ≡ false
no_join it end None tokens h u = absurd u
no_join it end (Some state) [] h u = refl
no_join it end (Some state) (token ∷ more) h u =
    by_step (is_of_step token.kind) refl
    (λ lead.
    no_join (word_after token.kind token.text (next state (class_of token.kind)) it) (end_of token)
    (next state (class_of token.kind)) more lead u.1)
  where
    by_step : (b : Bool) → is_of_step token.kind ≡ b
        → (in_part_at (next state (class_of token.kind)) ≡ true → joins_part (after_steps more) ≡ false)
        → joins_part (if b then after_steps more else token ∷ more) ≡ false
    by_step true is go_on = go_on (steps_lead state token.kind is)
    by_step false is go_on =
        no_and it (word_after token.kind token.text (next state (class_of token.kind)) it) end state token
        more token.kind (begin_with_part_of more) h u.0 u.1

no_added : (it : ListWord) (end : ℕ) (o : Option State) (tokens : List Token) → in_part_at o ≡ true
    → Unclouded false it end o tokens → adds_part (after_part tokens) ≡ false
no_added it end None tokens h u = absurd u
no_added it end (Some state) [] h u = refl
no_added it end (Some state) (token ∷ more) h u =
    by_part (is_of_part token.kind) refl
    (λ lead.
    no_added (word_after token.kind token.text (next state (class_of token.kind)) it) (end_of token)
    (next state (class_of token.kind)) more lead u.1)
  where
    by_part : (b : Bool) → is_of_part token.kind ≡ b
        → (in_part_at (next state (class_of token.kind)) ≡ true → adds_part (after_part more) ≡ false)
        → adds_part (if b then after_part more else token ∷ more) ≡ false
    by_part true is go_on = go_on (part_leads state token.kind is)
    by_part false is go_on =
        no_and it (word_after token.kind token.text (next state (class_of token.kind)) it) end state token
        more token.kind (begin_with_lone_part more) h u.0 u.1

-- without `of`
no_of_after : (tokens : List Token) → NoOf tokens → NoOf (after_steps tokens)
no_of_after [] none = tt
no_of_after (token ∷ more) none = by_step (is_of_step token.kind) (no_of_after more none.1)
  where
    by_step : (b : Bool) → NoOf (after_steps more) → NoOf (if b then after_steps more else token ∷ more)
    by_step true after = after
    by_step false after = none

no_of_first : (tokens : List Token) → NoOf tokens → begin_with_of tokens ≡ false
no_of_first [] none = refl
no_of_first (token ∷ more) none = none.0

and_false : (b c : Bool) → c ≡ false → (b && c) ≡ false
and_false true c h = h
and_false false c h = refl

no_part_of : (tokens : List Token) → NoOf tokens → begin_with_part_of tokens ≡ false
no_part_of [] none = refl
no_part_of (token ∷ more) none =
    and_false (begins_step token.kind) (begin_with_of (after_steps more))
    (no_of_first (after_steps more) (no_of_after more none.1))

no_part_joined : (tokens : List Token) → NoOf tokens → joins_part tokens ≡ false
no_part_joined [] none = refl
no_part_joined (token ∷ more) none =
    and_false (is_and token.kind) (begin_with_part_of more) (no_part_of more none.1)

none_shared : (ands : Bool) (it : ListWord) (end : ℕ) (o : Option State) (tokens : List Token)
    → Unclouded ands it end o tokens → (ands ≡ true → NoOf tokens) → shared_at tokens ≡ None
none_shared ands it end None tokens u none = absurd u
none_shared ands it end (Some state) [] u none = refl
none_shared true it end (Some state) (letters ∷ more) u none =
    none_if_false (begins_step letters.kind && joins_part (after_steps more)) _
    (and_false (begins_step letters.kind) (joins_part (after_steps more))
    (no_part_joined (after_steps more) (no_of_after more (none refl).1)))
none_shared false it end (Some state) (letters ∷ more) u none =
    none_if_false (begins_step letters.kind && joins_part (after_steps more)) _
    (by_letters (begins_step letters.kind) refl)
  where
    by_letters : (b : Bool) → begins_step letters.kind ≡ b → (b && joins_part (after_steps more)) ≡ false
    by_letters false is = refl
    by_letters true is =
        no_join (word_after letters.kind letters.text (next state (class_of letters.kind)) it)
        (end_of letters) (next state (class_of letters.kind)) more (letters_lead state letters.kind is) u.1

false_and : (b c : Bool) → b ≡ false → (b && c) ≡ false
false_and true c h = cc h
false_and false c h = refl

none_spread : (ands : Bool) (it : ListWord) (end : ℕ) (o : Option State) (tokens : List Token)
    → Unclouded ands it end o tokens → (ands ≡ true → NoOf tokens) → spread_at tokens ≡ None
none_spread ands it end None tokens u none = absurd u
none_spread ands it end (Some state) [] u none = refl
none_spread true it end (Some state) (letters ∷ more) u none =
    none_if_false (begin_with_part_of (letters ∷ more) && adds_part (after_part more)) _
    (false_and (begin_with_part_of (letters ∷ more)) (adds_part (after_part more))
    (no_part_of (letters ∷ more) (none refl)))
none_spread false it end (Some state) (letters ∷ more) u none =
    none_if_false (begin_with_part_of (letters ∷ more) && adds_part (after_part more)) _
    (by_letters (begins_step letters.kind) refl)
  where
    by_letters : (b : Bool) → begins_step letters.kind ≡ b
        → ((b && begin_with_of (after_steps more)) && adds_part (after_part more)) ≡ false
    by_letters false is = refl
    by_letters true is =
        and_false (begin_with_of (after_steps more)) (adds_part (after_part more))
        (no_added (word_after letters.kind letters.text (next state (class_of letters.kind)) it)
        (end_of letters) (next state (class_of letters.kind)) more (letters_lead state letters.kind is) u.1)

none_of_part : (ands : Bool) (it : ListWord) (end : ℕ) (o : Option State) (tokens : List Token)
    → Unclouded ands it end o tokens → (ands ≡ true → NoOf tokens) → part_at tokens ≡ None
none_of_part ands it end o tokens u none =
    ap (λ (first : Option DoubtfulPlace). first_place first (spread_at tokens))
    (none_shared ands it end o tokens u none)
    ∙ none_spread ands it end o tokens u none

-- all of them
none_after : (ands : Bool) (it : ListWord) (state : State) (token : Token) (tokens : List Token)
    (kind : Kind)
    → Unclouded ands (word_after kind token.text (next state (class_of kind)) it) (end_of token)
    (next state (class_of kind)) tokens
    → (ands ≡ true → NoOf tokens) → doubt_after kind token tokens ≡ None
none_after ands it state token tokens Half u none =
    none_joined ands _ token tokens (after_half ands _ (end_of token) state tokens u)
none_after ands it state token tokens Quarter u none =
    none_joined ands _ token tokens (after_quarter ands _ (end_of token) state tokens u)
none_after ands it state token tokens Sec u none =
    none_of_word ands state it token tokens Sec (no_sections ands state it token tokens u)
none_after ands it state token tokens Lot u none =
    none_of_word ands state it token tokens Lot (no_lots ands state it token tokens u)
none_after ands it state token tokens T u none =
    none_of_township ands _ (end_of token) tokens (after_t ands _ (end_of token) state tokens u)
none_after ands it state token tokens R u none =
    none_of_range ands _ (end_of token) tokens (after_r ands _ (end_of token) state tokens u)
none_after ands it state token tokens (Number value) u none =
    none_of_part ands _ (end_of token) (next state (class_of (Number value))) tokens u none
none_after ands it state token tokens Comma u none =
    none_of_part ands _ (end_of token) (next state (class_of Comma)) tokens u none
none_after ands it state token tokens Colon u none =
    none_of_part ands _ (end_of token) (next state (class_of Colon)) tokens u none
none_after ands it state token tokens And u none =
    none_of_part ands _ (end_of token) (next state (class_of And)) tokens u none
none_after ands it state token tokens _ u none = refl

pub no_doubts : (ands : Bool) (it : ListWord) (end : ℕ) (o : Option State) (tokens : List Token)
    → Unclouded ands it end o tokens → (ands ≡ true → NoOf tokens) → doubts tokens ≡ []
no_doubts ands it end None tokens u none = absurd u
no_doubts ands it end (Some state) [] u none = refl
no_doubts ands it end (Some state) (token ∷ more) u none =
    let word_more : ListWord = word_after token.kind token.text (next state (class_of token.kind)) it in
    let none_more : ands ≡ true → NoOf more = λ yes. (none yes).1 in
    let none_here : doubt_after token.kind token more ≡ None =
    none_after ands it state token more token.kind u.1 none_more in
    ap (λ (o : Option DoubtfulPlace). with_place o (doubts more)) none_here
    ∙ no_doubts ands word_more (end_of token) (next state (class_of token.kind)) more u.1 none_more
