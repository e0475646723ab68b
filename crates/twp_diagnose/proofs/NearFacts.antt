-- No token holds white space, so the tokens behind white space are those of the bytes that follow it.
use Rattle.std.proofs.Common.{◌≡◌, ◌==◌, ℕ, suc, ◌+◌, ◌-◌, ◌<◌, ◌≤◌, Bool, true, false, not, List, []}
use Rattle.std.proofs.Common.{◌∷◌, ◌++◌, length, take, drop, get_or, drop-cons, refl, get_or-append-add, ◌⊎◌}
use Rattle.std.proofs.Common.{sym, ap, ◌∙◌, arith}
use Rattle.std.proofs.Common.{length-append, length-take, append_assoc, subst, inl, inr}
use Rattle.std.specs.Char.{is_ascii_alphabetic, is_ascii_digit}
use Rattle.std.specs.List.{AllPass, list_all}
use Rattle.std.proofs.lemmas.Bool.{cases_lt}
use Rattle.std.proofs.lemmas.Bool.Decides.{nat_tests}
use Rattle.std.proofs.lemmas.List.{take-append-drop}
use Rattle.std.proofs.lemmas.List.Sums.{AllPass-from_list_all}
use Rattle.twp_grammar.specs.declared.tokens.Kind.{Kind}
use Rattle.twp_grammar.specs.Tokens.{Token, StartsWith, HasTokens, IsToken, IsGoodToken, is_white}
use Rattle.twp_grammar.specs.Tokens.{good, bad, a_word, a_number, a_bad_number, a_half, a_half_sign}
use Rattle.twp_grammar.specs.Tokens.{a_quarter, a_quarter_sign, a_comma, a_semicolon, a_colon, a_stop}
use Rattle.twp_grammar.proofs.ByteRuns.{letter_no_space, digit_no_space}
use Rattle.twp_grammar.proofs.TokenFacts.{one_token_list}
use Rattle.twp_diagnose.specs.Marks.{tokens_from}

abbrev is_dark : ℕ → Bool
is_dark byte = not (is_white byte)

letters_are_dark : (b : ℕ) → is_ascii_alphabetic b ≡ true → is_dark b ≡ true
letters_are_dark b h = ap not (letter_no_space b h)

digits_are_dark : (b : ℕ) → is_ascii_digit b ≡ true → is_dark b ≡ true
digits_are_dark b h = ap not (digit_no_space b h)

all_dark : (text : List ℕ) (test : ℕ → Bool) → ((b : ℕ) → test b ≡ true → is_dark b ≡ true)
    → AllPass test text → AllPass is_dark text
all_dark text test dark all = λ k d within. dark _ (all k d within)

these : (text letters : List ℕ) → list_all is_dark letters ≡ true → text ≡ letters → AllPass is_dark text
these text letters dark is = AllPass-from_list_all is_dark text (ap (list_all is_dark) is ∙ dark)

good_is_dark : (text rest : List ℕ) (kind : Kind) → IsGoodToken text rest kind → AllPass is_dark text
good_is_dark text rest kind (a_word run is) = all_dark text is_ascii_alphabetic letters_are_dark run.all
good_is_dark text rest kind (a_number n few is) = all_dark text is_ascii_digit digits_are_dark n.run.all
good_is_dark text rest kind (a_bad_number n many is) =
    all_dark text is_ascii_digit digits_are_dark n.run.all
good_is_dark text rest kind (a_half is k) = these text _ refl is
good_is_dark text rest kind (a_half_sign is k) = these text _ refl is
good_is_dark text rest kind (a_quarter is k) = these text _ refl is
good_is_dark text rest kind (a_quarter_sign is k) = these text _ refl is
good_is_dark text rest kind (a_comma is k) = these text _ refl is
good_is_dark text rest kind (a_semicolon is k) = these text _ refl is
good_is_dark text rest kind (a_colon is k) = these text _ refl is
good_is_dark text rest kind (a_stop is k) = these text _ refl is

token_is_dark : (text rest : List ℕ) (kind : Kind) → IsToken text rest kind → AllPass is_dark text
token_is_dark text rest kind (good is) = good_is_dark text rest kind is
token_is_dark text rest kind (bad is k) =
    AllPass-from_list_all is_dark text
    (ap (list_all is_dark) is.is ∙ ap (λ b. list_all (λ x. x) (not b ∷ [])) is.no_space)

-- two fronts of the same bytes: the longer one begins with the other
longer : (front more front' more' : List ℕ) → front ++ more ≡ front' ++ more'
    → length front ≤ length front'
    → (between : List ℕ) × (front' ≡ front ++ between) × (more ≡ between ++ more')
longer [] more front' more' same less = (front', refl, same)
longer (b ∷ front) more [] more' same less = absurd (omega arith)
longer (b ∷ front) more (b' ∷ front') more' same less =
    let l = longer front more front' more' (ap (drop 1) same) (omega arith) in
    let first : b' ≡ b = sym (ap (λ t. get_or t 0 0) same) in
    (l.0, ap (λ t. b' ∷ t) l.1 ∙ ap (λ x. x ∷ (front ++ l.0)) first, l.2)

-- white space in the midst of some bytes
white_within : (front : List ℕ) (byte : ℕ) (more : List ℕ)
    → get_or ((front ++ (byte ∷ [])) ++ more) (length front) 0 ≡ byte
white_within [] byte more = refl
white_within (b ∷ front) byte more = white_within front byte more

not_within : (text front : List ℕ) (byte : ℕ) (more : List ℕ) → is_white byte ≡ true
    → AllPass is_dark text → text ≡ (front ++ (byte ∷ [])) ++ more → ⊥
not_within text front byte more white dark is =
    let long : length text ≡ (length front + 1) + length more =
    ap length is ∙ length-append (front ++ (byte ∷ [])) more
    ∙ ap (λ n. n + length more) (length-append front (byte ∷ [])) in
    let there : get_or text (length front) 0 ≡ byte =
    ap (λ t. get_or t (length front) 0) is ∙ white_within front byte more in
    let no : ◌≡◌ {A = Bool} false true =
    sym (ap not white) ∙ sym (ap is_dark there) ∙ dark (length front) 0 (omega arith) in
    cc no

-- what stands behind a front and a byte
get_or-behind : (front : List ℕ) (byte : ℕ) (bytes : List ℕ) (k d : ℕ)
    → get_or (front ++ (byte ∷ bytes)) (length front + suc k) d ≡ get_or bytes k d
get_or-behind front byte bytes k d = get_or-append-add front (byte ∷ bytes) (suc k) d

-- so it is of the tokens from a place on, if the white space stands further on
abbrev GoOn : ℕ → ℕ → ℕ → List ℕ → List Token → List Token → Type 0
GoOn start m byte bytes list left =
    (front : List ℕ) → m ≡ start + length front + 1 → HasTokens start (front ++ (byte ∷ bytes)) list
    → tokens_from m list ≡ tokens_from m left

-- behind white space, bytes have the tokens that they have alone
after_white : (n m : ℕ) (front : List ℕ) (byte : ℕ) (bytes : List ℕ) (list left : List Token)
    → is_white byte ≡ true → m ≡ n + length front + 1 → HasTokens n (front ++ (byte ∷ bytes)) list
    → HasTokens m bytes left → tokens_from m list ≡ tokens_from m left
after_white n m front byte bytes [] left white is has has' =
    let all : AllPass is_white bytes = λ k d within.
    subst (λ b. is_white b ≡ true) (get_or-behind front byte bytes k d)
    (has (length front + suc k) d (omega (arith, length-append front (byte ∷ bytes)))) in
    sym (ap (tokens_from m) (one_token_list m bytes left [] has' all))
after_white n m front byte bytes (token ∷ more) left white is (rest, s, has) has' =
    by_place (λ further m_is more_has.
    after_white (token.at + length token.text) m further byte bytes more left white m_is more_has has')
    (cases_lt (length s.space) (length front + 1))
  where
    spelled : (front ++ (byte ∷ [])) ++ bytes ≡ s.space ++ (token.text ++ rest)
    spelled = append_assoc front (byte ∷ []) bytes ∙ s.spelled

    long : length (front ++ (byte ∷ [])) ≡ length front + 1
    long = length-append front (byte ∷ [])

    in_space : length front + 1 ≤ length s.space
        → tokens_from m (token ∷ more) ≡ tokens_from m left
    in_space within =
        let l =
        longer (front ++ (byte ∷ [])) bytes s.space (token.text ++ rest) spelled (omega (arith, long)) in
        let size : length s.space ≡ (length front + 1) + length l.0 =
        ap length l.1 ∙ length-append (front ++ (byte ∷ [])) l.0 ∙ ap (λ n. n + length l.0) long in
        let white_left : AllPass is_white l.0 = λ k d under.
        subst (λ b. is_white b ≡ true)
        (ap (λ t. get_or t (length (front ++ (byte ∷ [])) + k) d) l.1
        ∙ get_or-append-add (front ++ (byte ∷ [])) l.0 k d)
        (s.white (length (front ++ (byte ∷ [])) + k) d (omega (arith, long, size))) in
        let starts : StartsWith m bytes token rest = record {
          space = l.0;
          white = white_left;
          spelled = l.2;
          place = omega (arith, s.place, is, size);
          is = s.is;
        } in
        ap (tokens_from m) (one_token_list m bytes (token ∷ more) left (rest, starts, has) has')

    -- the token ends before the white space
    ends_before : GoOn (token.at + length token.text) m byte bytes more left → (between : List ℕ)
        → front ≡ s.space ++ (token.text ++ between)
        → rest ≡ between ++ (byte ∷ bytes) → tokens_from m (token ∷ more) ≡ tokens_from m left
    ends_before go_on between front_is rest_is =
        let size : length front ≡ length s.space + (length token.text + length between) =
        ap length front_is ∙ length-append s.space (token.text ++ between)
        ∙ ap (λ n. length s.space + n) (length-append token.text between) in
        let elsewhere : token.at == m ≡ false = grind (arith, nat_tests, s.place, is, size) in
        rw elsewhere
        (go_on between (omega (arith, s.place, is, size))
        (subst (λ r. HasTokens (token.at + length token.text) r more) rest_is has))

    in_text : GoOn (token.at + length token.text) m byte bytes more left → (after : List ℕ)
        → front ≡ s.space ++ after → token.text ++ rest ≡ after ++ (byte ∷ bytes)
        → tokens_from m (token ∷ more) ≡ tokens_from m left
    in_text go_on after front_is same = by_size (cases_lt (length after) (length token.text))
      where
        by_size : (length after < length token.text) ⊎ (length token.text ≤ length after)
            → tokens_from m (token ∷ more) ≡ tokens_from m left
        by_size (inr fits) =
            let l = longer token.text rest after (byte ∷ bytes) same fits in
            ends_before go_on l.0 (front_is ∙ ap (λ t. s.space ++ t) l.1) l.2
        by_size (inl over) =
            let l = longer (after ++ (byte ∷ [])) bytes token.text rest
            (append_assoc after (byte ∷ []) bytes ∙ sym same)
            (omega (arith, length-append after (byte ∷ []), over)) in
            absurd
            (not_within token.text after byte l.0 white (token_is_dark token.text rest token.kind s.is) l.1)

    by_place : GoOn (token.at + length token.text) m byte bytes more left
        → (length s.space < length front + 1) ⊎ (length front + 1 ≤ length s.space)
        → tokens_from m (token ∷ more) ≡ tokens_from m left
    by_place go_on (inr within) = in_space within
    by_place go_on (inl over) =
        let l =
        longer s.space (token.text ++ rest) front (byte ∷ bytes) (sym s.spelled) (omega (arith, over)) in
        in_text go_on l.0 l.1 l.2

-- the same of a place in a text that white space is before
pub same_after_white : (text : List ℕ) (at : ℕ) → 0 < at → at ≤ length text
    → is_white (get_or text (at - 1) 0) ≡ true → (list left : List Token) → HasTokens 0 text list
    → HasTokens at (drop at text) left → tokens_from at list ≡ tokens_from at left
same_after_white text at some within white list left has has' =
    let next : suc (at - 1) ≡ at = omega arith in
    let cut : take (at - 1) text ++ (get_or text (at - 1) 0 ∷ drop at text) ≡ text =
    ap (λ n. take (at - 1) text ++ (get_or text (at - 1) 0 ∷ drop n text)) (sym next)
    ∙ ap (λ t. take (at - 1) text ++ t) (sym (drop-cons text (at - 1) 0 (omega arith)))
    ∙ take-append-drop (at - 1) text in
    after_white 0 at (take (at - 1) text) (get_or text (at - 1) 0) (drop at text) list left white
    (omega (arith, length-take (at - 1) text))
    (subst (λ t. HasTokens 0 t list) (sym cut) has) has'
