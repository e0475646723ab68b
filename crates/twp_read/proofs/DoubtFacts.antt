-- The search for doubtful places, over plain values.
use Rattle.std.proofs.Common.{◌≡◌, ℕ, zero, suc, ◌+◌, ◌<◌, ◌≤◌, ◌-◌, true, false, List, [], ◌∷◌}
use Rattle.std.proofs.Common.{◌++◌, Option}
use Rattle.std.proofs.Common.{Some, None, MatchOption, IfSome, length, drop, map, refl, sym, ap, subst, ◌∙◌}
use Rattle.std.proofs.Common.{arith, ltb, take, length-drop}
use Rattle.std.proofs.lemmas.List.{take_all}
use Rattle.std.specs.List.{AllPass}
use Rattle.std.proofs.lemmas.Bool.{lt-ltb, le-ltb}
use Rattle.twp_grammar.specs.declared.tokens.Token.{Token as Piece}
use Rattle.twp_grammar.specs.Tokens.{Token, HasTokens, StartsWith, is_white, seen}
use Rattle.twp_read.specs.declared.doubt.DoubtfulPlace.{DoubtfulPlace}
use Rattle.twp_read.specs.declared.doubt.Doubts.{Doubts}
use Rattle.twp_read.specs.Doubts.{doubt_at, doubts, with_place, IsFound}
use Rattle.twp_read.proofs.ReaderFacts.{Before, one_after, all_tokens, IsWithin, is_within}

-- the tokens so far
pub record Cut (text : List ℕ) (at : ℕ) (bytes : List ℕ) (tokens : List Token) : Type 0 where
  pub before : Before text at bytes tokens
  pub within : at + length bytes ≤ length text

pub cut_begun : (text : List ℕ) → Cut text 0 text []
cut_begun text = record {
  before = record { joins = λ left has. has };
  within = omega arith;
}

pub cut_next : (text : List ℕ) (at : ℕ) (bytes : List ℕ) (tokens : List Token) (token : Token) (to : ℕ)
    (rest : List ℕ)
    → Cut text at bytes tokens → StartsWith at bytes token rest → to ≡ token.at + length token.text
    → Cut text to rest (tokens ++ token ∷ [])
cut_next text at bytes tokens token to rest c starts place =
    let inside : IsWithin at bytes token rest = is_within at bytes token rest starts in
    let sum : (token.at + length token.text) + length rest ≡ at + length bytes = inside.sum in
    let within : at + length bytes ≤ length text = c.within in
    record {
      before =
          subst (λ n. Before text n rest (tokens ++ token ∷ [])) (sym place)
          (one_after text at bytes tokens token rest c.before starts);
      within = omega arith;
    }

pub cut_whole : (text : List ℕ) (at : ℕ) (bytes : List ℕ) (tokens : List Token) → Cut text at bytes tokens
    → AllPass is_white bytes → HasTokens 0 text tokens
cut_whole text at bytes tokens c white = all_tokens text at bytes tokens c.before white

-- what was found of places
abbrev pub AreFound : List DoubtfulPlace → Option Doubts → Type 0
AreFound places found = MatchOption found (places ≡ []) (λ it. IsFound places it)

-- with one more before them
pub found_first : (places : List DoubtfulPlace) (found : Option Doubts) (first : DoubtfulPlace) (count : ℕ)
    → AreFound places found → MatchOption found (count ≡ 0) (λ it. count ≡ it.others + 1)
    → IsFound (first ∷ places) (record { first = first; others = count })
found_first places None first count none zero_count =
    record { more = []; first = ap (λ (ps : List DoubtfulPlace). first ∷ ps) none; others = sym zero_count }
found_first places (Some it) first count found more =
    let few : length found.more ≡ it.others = found.others in
    let counted : count ≡ it.others + 1 = more in
    record {
      more = it.first ∷ found.more;
      first = ap (λ (ps : List DoubtfulPlace). first ∷ ps) found.first;
      others = omega arith;
    }

-- there are no more places than tokens
few_more : (o : Option DoubtfulPlace) (places : List DoubtfulPlace) (n : ℕ) → length places ≤ n
    → length (with_place o places) ≤ suc n
few_more None places n h = omega arith
few_more (Some place) places n h = omega arith

pub few : (tokens : List Token) → length (doubts tokens) ≤ length tokens
few [] = omega arith
few (token ∷ tokens) = few_more (doubt_at (token ∷ tokens)) (doubts tokens) (length tokens) (few tokens)

pub fits : (tokens : List Token) (found : Option Doubts) (most : ℕ) → length tokens < most
    → AreFound (doubts tokens) found → IfSome found (λ it. it.others < most)
fits tokens None most h found = tt
fits tokens (Some it) most h found =
    let all : length (doubts tokens) ≤ length tokens = few tokens in
    let size : length (doubts tokens) ≡ suc (length found.more) = ap length found.first in
    let others : length found.more ≡ it.others = found.others in
    omega arith

-- the last tokens, from one on
one_more : (tokens : List Token) (i : ℕ) → i < length tokens
    → (token : Token) × (drop i tokens ≡ token ∷ drop (suc i) tokens)
one_more [] i h = absurd (omega arith)
one_more (token ∷ tokens) zero h = (token, refl)
one_more (token ∷ tokens) (suc i) h = one_more tokens i (omega arith)

split : (tokens : List Token) (n : ℕ) → 0 < n → n ≤ length tokens
    → (token : Token) × (drop (n - 1) tokens ≡ token ∷ drop n tokens)
split tokens n some within =
    let it = one_more tokens (n - 1) (omega arith) in
    let same : suc (n - 1) ≡ n = omega arith in
    (it.0, it.1 ∙ ap (λ m. it.0 ∷ drop m tokens) same)

seen_drop : (i : ℕ) (pieces : List Piece) → map seen (drop i pieces) ≡ drop i (map seen pieces)
seen_drop zero pieces = refl
seen_drop (suc i) [] = refl
seen_drop (suc i) (piece ∷ pieces) = seen_drop i pieces

seen_size : (pieces : List Piece) → length (map seen pieces) ≡ length pieces
seen_size [] = refl
seen_size (piece ∷ pieces) = ap (λ n. suc n) (seen_size pieces)

-- all the pieces from one on
pub all_from : (pieces : List Piece) (i : ℕ) (o : Option DoubtfulPlace)
    → o ≡ doubt_at (map seen (take (length pieces - i) (drop i pieces)))
    → doubt_at (map seen (drop i pieces)) ≡ o
all_from pieces i o is =
    let all : take (length pieces - i) (drop i pieces) ≡ drop i pieces =
    take_all (length pieces - i) (drop i pieces) (rw (length-drop i pieces) (omega arith)) in
    sym (is ∙ ap (λ (ps : List Piece). doubt_at (map seen ps)) all)

-- what is found with one more token before the others
pub next_found : (pieces : List Piece) (n : ℕ) (found : Option Doubts) (first : DoubtfulPlace) (count : ℕ)
    → 0 < n → n ≤ length pieces → AreFound (doubts (drop n (map seen pieces))) found
    → doubt_at (map seen (drop (n - 1) pieces)) ≡ Some first
    → MatchOption found (count ≡ 0) (λ it. count ≡ it.others + 1)
    → IsFound (doubts (drop (n - 1) (map seen pieces))) (record { first = first; others = count })
next_found pieces n found first count some within so_far here counted =
    let tokens : List Token = map seen pieces in
    let it = split tokens n some (rw (seen_size pieces) within) in
    let here_too : doubt_at (it.0 ∷ drop n tokens) ≡ Some first =
    ap doubt_at (sym it.1) ∙ ap doubt_at (sym (seen_drop (n - 1) pieces)) ∙ here in
    let places : doubts (drop (n - 1) tokens) ≡ first ∷ doubts (drop n tokens) =
    ap doubts it.1 ∙ ap (λ (o : Option DoubtfulPlace). with_place o (doubts (drop n tokens))) here_too in
    subst (λ (ps : List DoubtfulPlace). IsFound ps (record { first = first; others = count })) (sym places)
    (found_first (doubts (drop n tokens)) found first count so_far counted)

pub next_none : (pieces : List Piece) (n : ℕ) (found : Option Doubts) → 0 < n → n ≤ length pieces
    → AreFound (doubts (drop n (map seen pieces))) found
    → doubt_at (map seen (drop (n - 1) pieces)) ≡ None
    → AreFound (doubts (drop (n - 1) (map seen pieces))) found
next_none pieces n found some within so_far here =
    let tokens : List Token = map seen pieces in
    let it = split tokens n some (rw (seen_size pieces) within) in
    let here_too : doubt_at (it.0 ∷ drop n tokens) ≡ None =
    ap doubt_at (sym it.1) ∙ ap doubt_at (sym (seen_drop (n - 1) pieces)) ∙ here in
    let places : doubts (drop (n - 1) tokens) ≡ doubts (drop n tokens) =
    ap doubts it.1 ∙ ap (λ (o : Option DoubtfulPlace). with_place o (doubts (drop n tokens))) here_too in
    subst (λ (ps : List DoubtfulPlace). AreFound ps found) (sym places) so_far

-- their count has room for one more
pub room_left : (pieces : List Piece) (n : ℕ) (found : Option Doubts) (most : ℕ) → length pieces - n < most
    → AreFound (doubts (drop n (map seen pieces))) found → IfSome found (λ it. it.others < most)
room_left pieces n found most small so_far =
    let less : length (drop n (map seen pieces)) < most =
    rw (length-drop n (map seen pieces), seen_size pieces) (omega arith) in
    fits (drop n (map seen pieces)) found most less so_far

seen_more : (pieces : List Piece) (piece : Piece)
    → map seen (pieces ++ piece ∷ []) ≡ map seen pieces ++ seen piece ∷ []
seen_more [] piece = refl
seen_more (first ∷ pieces) piece = ap (λ (ts : List Token). seen first ∷ ts) (seen_more pieces piece)

pub cut_more : (text : List ℕ) (at : ℕ) (bytes : List ℕ) (pieces grown : List Piece) (piece : Piece) (to : ℕ)
    (rest : List ℕ)
    → Cut text at bytes (map seen pieces) → StartsWith at bytes (seen piece) rest
    → to ≡ piece.at + length piece.text.now → grown ≡ pieces ++ piece ∷ []
    → Cut text to rest (map seen grown)
cut_more text at bytes pieces grown piece to rest c starts place is =
    subst (λ (ts : List Token). Cut text to rest ts) (sym (ap (map seen) is ∙ seen_more pieces piece))
    (cut_next text at bytes (map seen pieces) (seen piece) to rest c starts place)

-- a token ends before a place
pub is_after : (at size next : ℕ) → at < next → size < next - at → ltb (at + size) next ≡ true
is_after at size next below small = lt-ltb (at + size) next (omega arith)

pub is_at_or_after : (at size next : ℕ) → next ≤ at → ltb (at + size) next ≡ false
is_at_or_after at size next above = le-ltb (at + size) next (omega arith)

pub is_too_long : (at size next : ℕ) → at < next → next - at ≤ size → ltb (at + size) next ≡ false
is_too_long at size next below large = le-ltb (at + size) next (omega arith)
