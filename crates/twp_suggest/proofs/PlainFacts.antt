-- Plain tokens have no place that can be read in two ways; over plain values.
use Rattle.std.proofs.Common.{◌≡◌, ◌||◌, ◌&&◌, Bool, true, false, List, [], ◌∷◌, ℕ, refl, subst, ap, ◌∙◌}
use Rattle.std.proofs.Common.{Option, None, arith, length, map, nat_lt, not, if◌then◌else◌, ◌+◌, ◌-◌}
use Rattle.std.proofs.lemmas.Bool.{le-ltb}
use Rattle.std.specs.List.{AllPass}
use Rattle.twp_grammar.specs.Tokens.{HasTokens, StartsWith, Token, is_white}
use Rattle.twp_read.specs.Doubts.{after_part, begins_step, end_of, is_and, is_of, is_of_part}
use Rattle.twp_rules.specs.Changes.{Change}
use Rattle.twp_rules.proofs.SameTexts.{both}
use Rattle.twp_suggest.specs.Sharing.{AreShared, IsShared, after_of, apart_after, as_and, begins_part}
use Rattle.twp_suggest.specs.Sharing.{head_after, head_by, head_of, is_comma, is_comma_by, is_for_and}
use Rattle.twp_suggest.specs.Sharing.{is_fraction, is_listed, is_part_of, is_within, last_part}
use Rattle.twp_suggest.specs.Sharing.{leads_part, of_count, part_after_and, tail_after, tail_of}
use Rattle.twp_suggest.specs.declared.plain.Passed.{Passed}
use Rattle.twp_suggest.specs.declared.sharing.SoughtChanges.TheVariants.{Copies}
use Rattle.twp_suggest.specs.declared.way.Way.{Way}
use Rattle.twp_suggest.specs.declared.way.Way.TheVariants.{Apart}
use Rattle.twp_suggest.specs.Ways.{IfWay, way_if}
use Rattle.twp_suggest.specs.steps.Plain.{IsPlain, are_plain, has_no_ampersand, is_gap, nothing_passed}
use Rattle.twp_suggest.specs.steps.Plain.{passed_with}

-- one more token before plain tokens
pub next_plain : (it : Passed) (at : ℕ) (bytes : List ℕ) (token : Token) (to : ℕ) (rest : List ℕ)
    → StartsWith at bytes token rest → to ≡ token.at + length token.text → is_gap it token ≡ false
    → IsPlain (passed_with it token) to rest → IsPlain it at bytes
next_plain it at bytes token to rest starts place gap plain = record {
  tokens = token ∷ plain.tokens;
  cut = (rest, starts, subst (λ n. HasTokens n rest plain.tokens) place plain.cut);
  plain = rw gap plain.plain;
}

-- no more tokens
pub none_left : (it : Passed) (at : ℕ) (bytes : List ℕ) → AllPass is_white bytes
    → not (it.has_and && it.has_of) ≡ true → IsPlain it at bytes
none_left it at bytes white plain = record { tokens = []; cut = white; plain = plain }

-- some token is `and`, or `of`
abbrev has_and : List Token → Bool
has_and [] = false
has_and (token ∷ tokens) = is_and token.kind || has_and tokens

abbrev has_of : List Token → Bool
has_of [] = false
has_of (token ∷ tokens) = is_of token.kind || has_of tokens

neither : (x y : Bool) → (x || y) ≡ false → (x ≡ false) × (y ≡ false)
neither true y h = cc h
neither false y h = (refl, h)

-- plain tokens don't have both
not_both : (a o x y : Bool) → not ((a || x) && (o || y)) ≡ true → (x && y) ≡ false
not_both a o true true h = by_cases a o h
  where
    by_cases : (a o : Bool) → not ((a || true) && (o || true)) ≡ true → true ≡ false
    by_cases true true h = cc h
    by_cases true false h = cc h
    by_cases false true h = cc h
    by_cases false false h = cc h
not_both a o true false h = refl
not_both a o false y h = refl

or_false : (x : Bool) → (x || false) ≡ x
or_false true = refl
or_false false = refl

or_assoc : (x y z : Bool) → ((x || y) || z) ≡ (x || (y || z))
or_assoc true y z = refl
or_assoc false y z = refl

and_false : (x : Bool) → (x && false) ≡ false
and_false true = refl
and_false false = refl

not_true : (x : Bool) → not x ≡ true → x ≡ false
not_true true h = cc h
not_true false h = refl

not_all : (it : Passed) (tokens : List Token) → are_plain it tokens ≡ true
    → not ((it.has_and || has_and tokens) && (it.has_of || has_of tokens)) ≡ true
not_all it [] plain = rw (or_false it.has_and, or_false it.has_of) plain
not_all it (token ∷ tokens) plain =
    let parts = both (not (is_gap it token)) (are_plain (passed_with it token) tokens) plain in
    rw (
      ← or_assoc it.has_and (is_and token.kind) (has_and tokens),
      ← or_assoc it.has_of (is_of token.kind) (has_of tokens),
    ) (not_all (passed_with it token) tokens parts.1)

missing : (it : Passed) (tokens : List Token) → are_plain it tokens ≡ true
    → (has_and tokens && has_of tokens) ≡ false
missing it tokens plain =
    not_both it.has_and it.has_of (has_and tokens) (has_of tokens) (not_all it tokens plain)

if_nothing : (b : Bool) (xs ys : List Token) → xs ≡ [] → ys ≡ [] → (if b then xs else ys) ≡ []
if_nothing true xs ys e f = e
if_nothing false xs ys e f = f

-- without `of`, a part has none
after_none : (count : ℕ) (tokens : List Token) → has_of tokens ≡ false → after_of count tokens ≡ []
after_none count [] none = refl
after_none count (token ∷ more) none =
    let parts = neither (is_of token.kind) (has_of more) none in
    rw parts.0 (if_nothing (is_of_part token.kind) (after_of count more) []
    (after_none count more parts.1) refl)

last_step : (c l : Bool) (more rest : List Token) → c ≡ false → rest ≡ []
    → (if c then more else (if l then rest else [])) ≡ []
last_step c l more rest e f = rw e (if_nothing l rest [] f refl)

-- and no part is the last one of a list
last_without_of : (count : ℕ) (tokens : List Token) → has_of tokens ≡ false → last_part count tokens ≡ []
last_without_of count [] none = refl
last_without_of count (token ∷ more) none =
    let parts = neither (is_of token.kind) (has_of more) none in
    let nothing : is_part_of count more ≡ false =
    rw (after_none count more parts.1) (and_false (begins_part more)) in
    last_step (is_and token.kind && is_part_of count more) (is_listed token.kind) more (last_part count more)
    (rw nothing (and_false (is_and token.kind))) (last_without_of count more parts.1)

-- nor is it without `and`
last_without_and : (count : ℕ) (tokens : List Token) → has_and tokens ≡ false → last_part count tokens ≡ []
last_without_and count [] none = refl
last_without_and count (token ∷ more) none =
    let parts = neither (is_and token.kind) (has_and more) none in
    last_step (is_and token.kind && is_part_of count more) (is_listed token.kind) more (last_part count more)
    (rw parts.0 refl) (last_without_and count more parts.1)

-- the tokens after a part have no more than all
if_has_and : (b : Bool) (xs ys : List Token) → has_and xs ≡ false → has_and ys ≡ false
    → has_and (if b then xs else ys) ≡ false
if_has_and true xs ys e f = e
if_has_and false xs ys e f = f

and_after : (tokens : List Token) → has_and tokens ≡ false → has_and (after_part tokens) ≡ false
and_after [] none = refl
and_after (token ∷ more) none =
    let parts = neither (is_and token.kind) (has_and more) none in
    if_has_and (is_of_part token.kind) (after_part more) (token ∷ more) (and_after more parts.1) none

if_has_of : (b : Bool) (xs ys : List Token) → has_of xs ≡ false → has_of ys ≡ false
    → has_of (if b then xs else ys) ≡ false
if_has_of true xs ys e f = e
if_has_of false xs ys e f = f

of_after : (tokens : List Token) → has_of tokens ≡ false → has_of (after_part tokens) ≡ false
of_after [] none = refl
of_after (token ∷ more) none =
    let parts = neither (is_of token.kind) (has_of more) none in
    if_has_of (is_of_part token.kind) (after_part more) (token ∷ more) (of_after more parts.1) none

tail_none : (changes : List Change) (end : ℕ) (part : List Token) (x y : Bool) → has_and part ≡ x
    → has_of part ≡ y → (x && y) ≡ false → tail_of changes end part ≡ None
tail_none changes end part true true e f none = cc none
tail_none changes end part true false e f none =
    rw (last_without_of (of_count part) (after_part part) (of_after part f)) refl
tail_none changes end part false y e f none =
    rw (last_without_and (of_count part) (after_part part) (and_after part e)) refl

-- a part without `of` has no head that is for the next one
head_alone : (changes : List Change) (end : ℕ) (part others : List Token) → of_count part ≡ 0
    → head_by changes end part others ≡ None
head_alone changes end part [] none = refl
head_alone changes end part (token ∷ more) none =
    rw (none, le-ltb (of_count (token ∷ more)) 0 (omega arith)) refl

next_without_and : (tokens : List Token) → has_and tokens ≡ false → part_after_and tokens ≡ []
next_without_and [] none = refl
next_without_and (token ∷ more) none =
    let parts = neither (is_and token.kind) (has_and more) none in
    rw parts.0 refl

head_none : (changes : List Change) (end : ℕ) (part : List Token) (x y : Bool) → has_and part ≡ x
    → has_of part ≡ y → (x && y) ≡ false → head_of changes end part ≡ None
head_none changes end part true true e f none = cc none
head_none changes end part true false e f none =
    head_alone changes end part (part_after_and (after_part part)) (rw (after_none 0 part f) refl)
head_none changes end part false y e f none =
    rw (next_without_and (after_part part) (and_after part e)) refl

no_way : (f b l d : Bool) (way : Way) → not (f && b && l) ≡ true → way_if (f && b && l && d) way ≡ None
no_way true true true d way h = cc h
no_way true true false d way h = refl
no_way true false l d way h = refl
no_way false b l d way h = refl

apart_none : (changes : List Change) (it : Passed) (token : Token) (more : List Token)
    → are_plain (passed_with it token) more ≡ true → apart_after changes token more ≡ None
apart_none changes it token [] plain = refl
apart_none changes it token (next ∷ more) plain =
    let parts = both (not (is_gap (passed_with it token) next))
    (are_plain (passed_with (passed_with it token) next) more) plain in
    no_way (is_fraction token.kind) (begins_step next.kind) (nat_lt (end_of token) next.at)
    (not (is_within Copies (token.at - 2) token.at 0 0 changes)) (Apart (end_of token)) parts.0

if_no_way : (b : Bool) (way : Option Way) → way ≡ None → (if b then way else None) ≡ None
if_no_way true way e = e
if_no_way false way e = refl

if_way : (IsGiven : Way → Type 0) (way : Option Way) → way ≡ None → IfWay IsGiven way
if_way IsGiven way e = rw e tt

are_shared : (IsGiven : Way → Type 0) (changes : List Change) (end : ℕ) (it : Passed) (tokens : List Token)
    → are_plain it tokens ≡ true → AreShared IsGiven changes end tokens
are_shared IsGiven changes end it [] plain = tt
are_shared IsGiven changes end it (token ∷ more) plain =
    let parts = both (not (is_gap it token)) (are_plain (passed_with it token) more) plain in
    let none = missing (passed_with it token) more parts.1 in
    let leads = leads_part token.kind && begins_part more in
    let tail = if_way IsGiven (tail_after changes end token.kind more)
    (if_no_way leads (tail_of changes end more)
    (tail_none changes end more (has_and more) (has_of more) refl refl none)) in
    let head = if_way IsGiven (head_after changes end token.kind more)
    (if_no_way leads (head_of changes end more)
    (head_none changes end more (has_and more) (has_of more) refl refl none)) in
    let apart = if_way IsGiven (apart_after changes token more) (apart_none changes it token more parts.1) in
    ((tail, head, apart), are_shared IsGiven changes end (passed_with it token) more parts.1)

-- without a comma for `&`, the tokens are those of the text
no_ampersand : (text : List ℕ) (seat at place : ℕ) (changes : List Change)
    → has_no_ampersand text changes ≡ true → is_for_and text seat at place changes ≡ false
no_ampersand text seat at place [] none = refl
no_ampersand text seat at place (change ∷ changes) none =
    let parts = both (not (is_comma_by change.rule text change.start change.end))
    (has_no_ampersand text changes) none in
    rw (not_true (is_comma_by change.rule text change.start change.end) parts.0)
    (no_ampersand text seat change.end (place + (change.start - at) + length change.written) changes parts.1)

same_token : (text : List ℕ) (changes : List Change) (token : Token) → has_no_ampersand text changes ≡ true
    → token ≡ as_and text changes token
same_token text changes token none =
    rw (no_ampersand text token.at 0 0 changes none, and_false (is_comma token.kind)) refl

same_tokens : (text : List ℕ) (changes : List Change) (tokens : List Token)
    → has_no_ampersand text changes ≡ true → tokens ≡ map (as_and text changes) tokens
same_tokens text changes [] none = refl
same_tokens text changes (token ∷ tokens) none =
    let e = same_token text changes token none in
    let f = same_tokens text changes tokens none in
    ap (λ (t : Token). t ∷ tokens) e ∙ ap (λ (ts : List Token). as_and text changes token ∷ ts) f

-- NO PLACE OF A PLAIN TEXT can be read in two ways
pub is_shared : (IsGiven : Way → Type 0) (text made : List ℕ) (changes : List Change)
    → has_no_ampersand text changes ≡ true → IsPlain nothing_passed 0 made
    → IsShared IsGiven text made changes
is_shared IsGiven text made changes none plain = record {
  tokens = plain.tokens;
  joined = record {
    cut_tokens = plain.tokens;
    cut = plain.cut;
    joined = same_tokens text changes plain.tokens none;
  };
  given = are_shared IsGiven changes (length made) nothing_passed plain.tokens plain.plain;
}
