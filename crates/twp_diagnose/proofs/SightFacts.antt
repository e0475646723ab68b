-- What is at a refused place has bytes unless the text ends there but for white space.
use Rattle.std.proofs.Common.{◌≡◌, ℕ, ◌<◌, false, List, [], ◌∷◌, ◌++◌}
use Rattle.std.proofs.Common.{length, drop, refl, sym, ap, subst, ◌∙◌, ◌+◌, arith, inl, inr}
use Rattle.std.proofs.Common.{slice_index, length-append, get_or-append-add}
use Rattle.std.proofs.lemmas.Bool.{cases_lt, false_from_ne_true, false≢true}
use Rattle.std.specs.List.{AllPass, list_all}
use Rattle.std.proofs.lemmas.List.{drop_all}
use Rattle.std.proofs.lemmas.List.Sums.{list_all-from_AllPass, AllPass-from_list_all}
use Rattle.twp_excerpt.specs.Spots.{is_white, end_of}
use Rattle.twp_grammar.specs.Tokens.{Token, StartsWith, begins_with}
use Rattle.twp_grammar.proofs.Cuts.{IsTheCut, the_cut}
use Rattle.twp_diagnose.specs.Sights.{shown_place}

-- bytes that a token begins aren't white space alone, and it has bytes
pub record HasToken (bytes : List ℕ) (token : Token) : Type 0 where
  pub some : 0 < length token.text
  pub long : 0 < length bytes
  pub dark : ¬ AllPass is_white bytes

begins_dark : (bytes : List ℕ) → 0 < length bytes → begins_with is_white bytes ≡ false
    → is_white (slice_index bytes 0) ≡ false
begins_dark [] some dark = absurd (omega arith)
begins_dark (byte ∷ bytes) some dark = dark

pub has_token : (at : ℕ) (bytes : List ℕ) (token : Token) (rest : List ℕ) → StartsWith at bytes token rest
    → HasToken bytes token
has_token at bytes token rest s =
    let cut : IsTheCut token.text rest token.kind = the_cut token.text rest token.kind s.is in
    let some : 0 < length token.text = cut.some in
    let after : length (token.text ++ rest) ≡ length token.text + length rest =
    length-append token.text rest in
    let whole : length bytes ≡ length s.space + length (token.text ++ rest) =
    ap length s.spelled ∙ length-append s.space (token.text ++ rest) in
    let here : slice_index bytes (length s.space + 0) ≡ slice_index (token.text ++ rest) 0 =
    ap (λ b. slice_index b (length s.space + 0)) s.spelled
    ∙ get_or-append-add s.space (token.text ++ rest) 0 0 in
    record {
      some = some;
      long = omega arith;
      dark = λ white.
          false≢true (sym (ap is_white here ∙ begins_dark (token.text ++ rest) (omega arith) cut.no_space)
          ∙ white (length s.space + 0) 0 (omega arith));
    }

-- where a text is shown, by whether nothing but white space follows
pub shown_at_end : (text : List ℕ) (at : ℕ) → AllPass is_white (drop at text)
    → shown_place text at ≡ end_of text
shown_at_end text at white = rw (list_all-from_AllPass is_white (drop at text) white) refl

pub shown_there : (text : List ℕ) (at : ℕ) → ¬ AllPass is_white (drop at text)
    → shown_place text at ≡ at
shown_there text at dark =
    rw (false_from_ne_true (list_all is_white (drop at text))
    (λ e. dark (AllPass-from_list_all is_white (drop at text) e))) refl

-- what isn't white space stands within the text
pub dark_within : (text : List ℕ) (at : ℕ) → ¬ AllPass is_white (drop at text) → at < length text
dark_within text at dark = elim (cases_lt at (length text)) [
  | inl within ↦ within
  | inr past ↦
      let none : AllPass is_white [] = λ k d below. absurd (omega arith) in
      absurd (dark (subst (AllPass is_white) (sym (drop_all at text past)) none))
]
