-- The next heading after a place, and where the land before it ends.
use Rattle.std.proofs.Common.{◌≡◌, ℕ, ◌+◌, ◌<◌, ◌≤◌, List, [], ◌∷◌, ◌++◌, length, drop, refl, sym, ap, subst}
use Rattle.std.proofs.Common.{◌∙◌, arith, length-append}
use Rattle.std.specs.List.{AllPass}
use Rattle.std.proofs.lemmas.List.{append_assoc, append-nil}
use Rattle.twp_grammar.specs.Tokens.{Token, HasTokens, is_white}
use Rattle.twp_grammar.specs.Cutting.{IsFirstIn}
use Rattle.twp_grammar.specs.declared.tokens.Kind.{Kind}
use Rattle.twp_grammar.specs.declared.tokens.Kind.TheVariants.{And, Semicolon}
use Rattle.twp_calls.specs.Splits.{BeginsHeading, NoHeading, SeparateTownships, no_token, a_semicolon}
use Rattle.twp_calls.specs.Splits.{semicolon_and, EndInSeparator, end_of_tokens}
use Rattle.twp_calls.specs.steps.SplitSteps.{land_end, after_land, after_and, after_token, IsNextHeading}
use Rattle.twp_calls.specs.steps.SplitSteps.{HasNoHeadingAfter}
use Rattle.twp_calls.specs.declared.land_end.Separator.{Separator}
use Rattle.twp_calls.specs.declared.land_end.Separator.TheVariants as separator
use Rattle.twp_calls.specs.declared.land_end.LandEnd.{LandEnd}

-- lists with one more element at the end are the same only if both are
pub record AreSame (xs ys : List Token) (x y : Token) : Type 0 where
  pub fronts : xs ≡ ys
  pub lasts : x ≡ y

not_empty : (xs : List Token) (x : Token) → ¬ (xs ++ x ∷ [] ≡ [])
not_empty [] x e = cc e
not_empty (z ∷ xs) x e = cc e

pub same_ends : (xs ys : List Token) (x y : Token) → xs ++ x ∷ [] ≡ ys ++ y ∷ [] → AreSame xs ys x y
same_ends [] [] x y e = record { fronts = refl; lasts = cc e }
same_ends [] (w ∷ ys) x y e =
    let rest : [] ≡ ys ++ y ∷ [] = cc e in
    absurd (not_empty ys y (sym rest))
same_ends (z ∷ xs) [] x y e =
    let rest : xs ++ x ∷ [] ≡ [] = cc e in
    absurd (not_empty xs x rest)
same_ends (z ∷ xs) (w ∷ ys) x y e =
    let heads : z ≡ w = cc e in
    let tails : xs ++ x ∷ [] ≡ ys ++ y ∷ [] = cc e in
    let same = same_ends xs ys x y tails in
    record { fronts = ap (λ l. z ∷ l) same.fronts ∙ ap (λ t. t ∷ ys) heads; lasts = same.lasts }

-- the last of two tokens at the end
last_of_two : (xs front : List Token) (x mark word : Token) → xs ++ x ∷ [] ≡ front ++ mark ∷ word ∷ []
    → AreSame xs (front ++ mark ∷ []) x word
last_of_two xs front x mark word e =
    same_ends xs (front ++ mark ∷ []) x word (e ∙ sym (append_assoc front (mark ∷ []) (word ∷ [])))

-- the tokens of a separator
abbrev IsOfShape : Separator → List Token → Type 0
IsOfShape separator.Nothing tokens = tokens ≡ []
IsOfShape separator.Semicolon tokens = (mark : Token) × (mark.kind ≡ Semicolon) × (tokens ≡ mark ∷ [])
IsOfShape separator.SemicolonAnd tokens =
    (mark : Token) × (word : Token) × (mark.kind ≡ Semicolon) × (word.kind ≡ And)
    × (tokens ≡ mark ∷ word ∷ [])

-- what is known of the end of land after tokens that follow a place
pub record Tracks (from : ℕ) (tokens : List Token) (state : LandEnd) : Type 0 where
  pub land : List Token
  pub separator : List Token
  pub separated : EndInSeparator tokens land separator
  pub land_is : state.land ≡ end_of_tokens from land
  pub end_is : state.end ≡ end_of_tokens from tokens
  pub shape : IsOfShape state.separator separator

pub end_after : (from : ℕ) (tokens : List Token) (token : Token)
    → end_of_tokens from (tokens ++ token ∷ []) ≡ token.at + length token.text
end_after from [] token = refl
end_after from (other ∷ tokens) token = end_after (other.at + length other.text) tokens token

-- land with no separator after it
plain : (from : ℕ) (tokens : List Token) (token : Token) (place : ℕ)
    → place ≡ token.at + length token.text
    → ((front other : List Token) → tokens ++ token ∷ [] ≡ front ++ other → SeparateTownships other
    → length other ≤ 0)
    → Tracks from (tokens ++ token ∷ []) (after_land place)
plain from tokens token place place_is none = record {
  land = tokens ++ token ∷ [];
  separator = [];
  separated = record {
    joined = sym (append-nil (tokens ++ token ∷ []));
    separates = no_token refl;
    longest = none;
  };
  land_is = place_is ∙ sym (end_after from tokens token);
  end_is = place_is ∙ sym (end_after from tokens token);
  shape = refl;
}

-- a token that is neither a semicolon nor `and` ends no separator
no_separator : (tokens : List Token) (token : Token) → ¬ (token.kind ≡ Semicolon) → ¬ (token.kind ≡ And)
    → (front other : List Token) → tokens ++ token ∷ [] ≡ front ++ other → SeparateTownships other
    → length other ≤ 0
no_separator tokens token no_mark no_word front other e (no_token is) = rw is (omega arith)
no_separator tokens token no_mark no_word front other e (a_semicolon mark kind is) =
    let same = same_ends tokens front token mark (e ∙ ap (λ o. front ++ o) is) in
    absurd (no_mark (ap (λ (t : Token). t.kind) same.lasts ∙ kind))
no_separator tokens token no_mark no_word front other e (semicolon_and mark word kind word_kind is) =
    let same = last_of_two tokens front token mark word (e ∙ ap (λ o. front ++ o) is) in
    absurd (no_word (ap (λ (t : Token). t.kind) same.lasts ∙ word_kind))

-- after a semicolon
after_mark : (from : ℕ) (tokens : List Token) (state : LandEnd) (token : Token) (place : ℕ)
    → Tracks from tokens state → place ≡ token.at + length token.text → token.kind ≡ Semicolon
    → Tracks from (tokens ++ token ∷ []) (land_end state.end place separator.Semicolon)
after_mark from tokens state token place tracks place_is kind = record {
  land = tokens;
  separator = token ∷ [];
  separated = record {
    joined = refl;
    separates = a_semicolon token kind refl;
    longest = at_most_one;
  };
  land_is = tracks.end_is;
  end_is = place_is ∙ sym (end_after from tokens token);
  shape = (token, kind, refl);
}
  where
    at_most_one : (front other : List Token) → tokens ++ token ∷ [] ≡ front ++ other
        → SeparateTownships other → length other ≤ 1
    at_most_one front other e (no_token is) = rw is (omega arith)
    at_most_one front other e (a_semicolon mark kind' is) = rw is (omega arith)
    at_most_one front other e (semicolon_and mark word kind' word_kind is) =
        let same = last_of_two tokens front token mark word (e ∙ ap (λ o. front ++ o) is) in
        let never : Semicolon ≡ And = sym kind ∙ ap (λ (t : Token). t.kind) same.lasts ∙ word_kind in
        cc never

at_most_two : (other : List Token) → SeparateTownships other → length other ≤ 2
at_most_two other (no_token is) = rw is (omega arith)
at_most_two other (a_semicolon mark kind is) = rw is (omega arith)
at_most_two other (semicolon_and mark word kind word_kind is) = rw is (omega arith)

-- after `and`, where no semicolon is before it
no_mark_before : (from : ℕ) (tokens : List Token) (state : LandEnd) (token : Token) (place : ℕ)
    → place ≡ token.at + length token.text → token.kind ≡ And
    → ((front : List Token) (mark : Token) → mark.kind ≡ Semicolon → ¬ (tokens ≡ front ++ mark ∷ []))
    → Tracks from (tokens ++ token ∷ []) (after_land place)
no_mark_before from tokens state token place place_is kind none =
    plain from tokens token place place_is none_other
  where
    none_other : (front other : List Token) → tokens ++ token ∷ [] ≡ front ++ other
        → SeparateTownships other → length other ≤ 0
    none_other front other e (no_token is) = rw is (omega arith)
    none_other front other e (a_semicolon mark mark_kind is) =
        let same = same_ends tokens front token mark (e ∙ ap (λ o. front ++ o) is) in
        let never : And ≡ Semicolon = sym kind ∙ ap (λ (t : Token). t.kind) same.lasts ∙ mark_kind in
        cc never
    none_other front other e (semicolon_and mark word mark_kind word_kind is) =
        let same = last_of_two tokens front token mark word (e ∙ ap (λ o. front ++ o) is) in
        absurd (none front mark mark_kind same.fronts)

-- after `and`
after_word : (shape : Separator) (from : ℕ) (tokens : List Token) (state : LandEnd) (token : Token)
    (place : ℕ) → state.separator ≡ shape
    → Tracks from tokens state → place ≡ token.at + length token.text → token.kind ≡ And
    → Tracks from (tokens ++ token ∷ []) (after_and shape state.land place)
after_word separator.Nothing from tokens state token place shape_is tracks place_is kind =
    let shape : tracks.separator ≡ [] =
    subst (λ (s : Separator). IsOfShape s tracks.separator) shape_is tracks.shape in
    no_mark_before from tokens state token place place_is kind (λ front mark mark_kind is.
    let few : length (mark ∷ []) ≤ length tracks.separator =
    tracks.separated.longest front (mark ∷ []) is (a_semicolon mark mark_kind refl) in
    let none : length tracks.separator ≡ 0 = ap length shape in
    absurd (omega (arith, few, none)))
after_word separator.Semicolon from tokens state token place shape_is tracks place_is kind =
    let shape : IsOfShape separator.Semicolon tracks.separator =
    subst (λ (s : Separator). IsOfShape s tracks.separator) shape_is tracks.shape in
    let joined : tokens ≡ tracks.land ++ shape.0 ∷ [] =
    tracks.separated.joined ∙ ap (λ s. tracks.land ++ s) shape.2 in
    record {
      land = tracks.land;
      separator = shape.0 ∷ token ∷ [];
      separated = record {
        joined = ap (λ ts. ts ++ token ∷ []) joined ∙ append_assoc tracks.land (shape.0 ∷ []) (token ∷ []);
        separates = semicolon_and shape.0 token shape.1 kind refl;
        longest = λ front other e separates. at_most_two other separates;
      };
      land_is = tracks.land_is;
      end_is = place_is ∙ sym (end_after from tokens token);
      shape = (shape.0, token, shape.1, kind, refl);
    }
after_word separator.SemicolonAnd from tokens state token place shape_is tracks place_is kind =
    let shape : IsOfShape separator.SemicolonAnd tracks.separator =
    subst (λ (s : Separator). IsOfShape s tracks.separator) shape_is tracks.shape in
    no_mark_before from tokens state token place place_is kind (λ front mark mark_kind is.
    let same = last_of_two front tracks.land mark shape.0 shape.1
    (sym is ∙ tracks.separated.joined ∙ ap (λ s. tracks.land ++ s) shape.4) in
    let never : Semicolon ≡ And =
    sym mark_kind ∙ ap (λ (t : Token). t.kind) same.lasts ∙ shape.3 in
    cc never)

-- after one more token
track_kind : (kind : Kind) (from : ℕ) (tokens : List Token) (state : LandEnd) (token : Token) (place : ℕ)
    → token.kind ≡ kind → Tracks from tokens state → place ≡ token.at + length token.text
    → Tracks from (tokens ++ token ∷ []) (after_token state kind place)
track_kind Semicolon from tokens state token place kind_is tracks place_is =
    after_mark from tokens state token place tracks place_is kind_is
track_kind And from tokens state token place kind_is tracks place_is =
    after_word state.separator from tokens state token place refl tracks place_is kind_is
track_kind kind from tokens state token place kind_is tracks place_is =
    plain from tokens token place place_is
    (no_separator tokens token
    (λ same. let never : kind ≡ Semicolon = sym kind_is ∙ same in cc never)
    (λ same. let never : kind ≡ And = sym kind_is ∙ same in cc never))

pub track : (from : ℕ) (tokens : List Token) (state : LandEnd) (token : Token) (place : ℕ)
    → Tracks from tokens state → place ≡ token.at + length token.text
    → Tracks from (tokens ++ token ∷ []) (after_token state token.kind place)
track from tokens state token place tracks place_is =
    track_kind token.kind from tokens state token place refl tracks place_is

pub track_none : (from : ℕ) → Tracks from [] (after_land from)
track_none from = record {
  land = [];
  separator = [];
  separated = record { joined = refl; separates = no_token refl; longest = no_longer };
  land_is = refl;
  end_is = refl;
  shape = refl;
}
  where
    no_longer : (front other : List Token) → [] ≡ front ++ other → SeparateTownships other
        → length other ≤ 0
    no_longer front other e separates =
        let sizes : length front + length other ≡ 0 = rw length-append at (ap length (sym e)) in
        omega (arith, sizes)

no_heading_after : (tokens : List Token) (token : Token) → NoHeading tokens → ¬ BeginsHeading token
    → NoHeading (tokens ++ token ∷ [])
no_heading_after [] token none not = (not, tt)
no_heading_after (other ∷ tokens) token none not = (none.0, no_heading_after tokens token none.1 not)

-- between two tokens of a text, with no heading since a place
pub record AtToken (text : List ℕ) (from at : ℕ) (state : LandEnd) : Type 0 where
  pub within : at ≤ length text
  pub after : from ≤ at
  pub before : List Token
  pub none : NoHeading before
  pub tracks : Tracks from before state
  pub joins : (left : List Token) → HasTokens at (drop at text) left
      → HasTokens from (drop from text) (before ++ left)

pub at_first : (text : List ℕ) (from : ℕ) (state : LandEnd) → from ≤ length text
    → state ≡ after_land from → AtToken text from from state
at_first text from state within state_is = record {
  within = within;
  after = omega arith;
  before = [];
  none = tt;
  tracks = subst (λ (s : LandEnd). Tracks from [] s) (sym state_is) (track_none from);
  joins = λ left has. has;
}

pub at_next : (text : List ℕ) (from at place : ℕ) (state after : LandEnd) (token : Token)
    → AtToken text from at state → IsFirstIn text at token → ¬ BeginsHeading token
    → place ≡ token.at + length token.text → after ≡ after_token state token.kind place
    → AtToken text from place after
at_next text from at place state after token s first not place_is after_is = record {
  within = rw place_is first.within;
  after = let further : at < token.at + length token.text = first.further in
      let so_far : from ≤ at = s.after in rw place_is (omega (arith, further, so_far));
  before = s.before ++ token ∷ [];
  none = no_heading_after s.before token s.none not;
  tracks =
      subst (λ (l : LandEnd). Tracks from (s.before ++ token ∷ []) l) (sym after_is)
      (track from s.before state token place s.tracks place_is);
  joins = λ left has.
      let there : HasTokens (token.at + length token.text) (drop (token.at + length token.text) text) left =
      subst (λ (n : ℕ). HasTokens n (drop n text) left) place_is has in
      subst (λ (ts : List Token). HasTokens from (drop from text) ts)
      (sym (append_assoc s.before (token ∷ []) left))
      (s.joins (token ∷ left) (drop (token.at + length token.text) text, first.starts, there));
}

pub heading_there : (text : List ℕ) (from at place : ℕ) (state : LandEnd) (token : Token)
    → AtToken text from at state → IsFirstIn text at token → BeginsHeading token
    → place ≡ token.at + length token.text
    → IsNextHeading text from (record { at = token.at; end = place; land_end = state.land })
heading_there text from at place state token s first begins place_is =
    let further : at < token.at + length token.text = first.further in
    let so_far : from ≤ at = s.after in
    record {
      between = s.before;
      none = s.none;
      heading = token;
      begins = begins;
      at_is = refl;
      end_is = place_is;
      within = rw place_is first.within;
      further = rw place_is (omega (arith, further, so_far));
      land = s.tracks.land;
      separator = s.tracks.separator;
      separated = s.tracks.separated;
      land_end_is = s.tracks.land_is;
      joins = λ more has.
          let there : HasTokens (token.at + length token.text) (drop (token.at + length token.text) text)
          more =
          subst (λ (n : ℕ). HasTokens (token.at + length token.text) (drop n text) more) place_is has in
          s.joins (token ∷ more) (drop (token.at + length token.text) text, first.starts, there);
    }

pub no_heading_there : (text : List ℕ) (from at : ℕ) (state : LandEnd) → AtToken text from at state
    → AllPass is_white (drop at text) → HasNoHeadingAfter text from
no_heading_there text from at state s white = record {
  tokens = s.before ++ [];
  cut = s.joins [] white;
  none = subst NoHeading (sym (append-nil s.before)) s.none;
}
