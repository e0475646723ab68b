-- How tokens are gone through to find what is underlined.
use Rattle.std.specs.Prelude.{◌≡◌, ℕ, Bool, true, false, ◌+◌, List, [], ◌∷◌, ◌++◌, Option, Some, None}
use Rattle.std.specs.Prelude.{length, if◌then◌else◌}
use Rattle.std.specs.List.{flat_map}
use Rattle.twp_grammar.specs.declared.tokens.Kind.{Kind}
use Rattle.twp_grammar.specs.declared.tokens.Kind.TheVariants.{NorthSouth, EastWest, Corner, Half}
use Rattle.twp_grammar.specs.declared.tokens.Kind.TheVariants.{Quarter, Of, The}
use Rattle.twp_grammar.specs.declared.tokens.Token.{Token as Piece}
use Rattle.twp_grammar.specs.Tokens.{Token, Left, HasTokens, seen}
use Rattle.twp_grammar.specs.Grammar.{Ebnf, step, of, the, maybe, one, ◌⨾◌}
use Rattle.twp_grammar.specs.Items.{Tree, tokens}
use Rattle.twp_diagnose.specs.Marks.{AreMarked, end_of, tokens_from}

-- these tokens are left
abbrev pub AreLeft : Left → List Token → Type 0
AreLeft left tokens = HasTokens left.at left.bytes tokens

-- what is left of a text has the tokens from a place on that the whole text has
abbrev pub HaveSameFrom : ℕ → List ℕ → Left → Type 0
HaveSameFrom at text left =
    (all some : List Token) → HasTokens 0 text all → AreLeft left some
    → tokens_from at all ≡ tokens_from at some

-- where what is left ends
abbrev pub end_of_left : Left → ℕ
end_of_left left = left.at + length left.bytes

-- where a token ends
abbrev pub end_of_token : Piece → ℕ
end_of_token token = token.at + length token.text.now

-- the first of some tokens was taken, and those after it are left; or there was none
abbrev pub GivesFirstOf : List Token → Option Piece → Left → Type 0
GivesFirstOf tokens None after = tokens ≡ []
GivesFirstOf tokens (Some token) after =
    (rest : List Token) × (tokens ≡ seen token ∷ rest) × AreLeft after rest

-- the word `of`
abbrev pub is_of : Kind → Bool
is_of Of = true
is_of _ = false

-- the word `the`
abbrev pub is_the : Kind → Bool
is_the The = true
is_the _ = false

-- what comes after `the`, or all
abbrev pub after_the : List Token → List Token
after_the [] = []
after_the (token ∷ more) = if is_the token.kind then more else token ∷ more

-- what comes after `of` or `of the`, or all
abbrev pub after_of_word : List Token → List Token
after_of_word [] = []
after_of_word (token ∷ more) = if is_of token.kind then after_the more else token ∷ more

-- two tokens are a half or a quarter
abbrev pub is_step : Kind → Kind → Bool
is_step (NorthSouth side) Half = true
is_step (EastWest side) Half = true
is_step (Corner corner) Quarter = true
is_step _ _ = false

-- what comes after a half or a quarter, which begins with a token of this kind
abbrev pub after_second : Kind → List Token → Option (List Token)
after_second first [] = None
after_second first (token ∷ more) = if is_step first token.kind then Some more else None

-- what comes after a half or a quarter
abbrev pub after_chain_step : List Token → Option (List Token)
after_chain_step [] = None
after_chain_step (token ∷ more) = after_second token.kind more

-- what comes after a further half or quarter
abbrev pub after_link : List Token → Option (List Token)
after_link tokens = after_chain_step (after_of_word tokens)

-- a further half or quarter: 1/2 NE, of NE1/4, of the NE1/4
abbrev pub link : Ebnf
link = maybe (one of ⨾ maybe (one the)) ⨾ step

-- the first token makes a half or a quarter; it ends here, and the tokens after it are left
pub record IsSecond (first : Kind) (list : List Token) (end : ℕ) (after : Left) : Type 0 where
  pub second : Token
  pub rest : List Token
  pub list_is : list ≡ second ∷ rest
  pub step_is : is_step first second.kind ≡ true
  pub end_is : second.at + length second.text ≡ end
  pub left : AreLeft after rest

-- such a token was taken, or there was none
abbrev pub TakesSecond : Kind → List Token → Option ℕ → Left → Type 0
TakesSecond first list None after = after_second first list ≡ None
TakesSecond first list (Some end) after = IsSecond first list end after

-- the tokens begin with a further half or quarter; it ends here, and those after it are left
pub record IsLink (list : List Token) (end : ℕ) (after : Left) : Type 0 where
  pub tree : Tree link
  pub rest : List Token
  pub list_is : list ≡ tokens link tree ++ rest
  pub end_is : (start : ℕ) → end_of start (tokens link tree) ≡ end
  pub left : AreLeft after rest

-- a further half or quarter was taken, or there was none
abbrev pub TakesLink : List Token → Option ℕ → Left → Type 0
TakesLink list None after = after_link list ≡ None
TakesLink list (Some end) after = IsLink list end after

-- the tokens of further halves and quarters
abbrev pub tokens_of_links : List (Tree link) → List Token
tokens_of_links links = flat_map (λ v. tokens link v) links

-- these tokens begin with further halves and quarters, which end here, and no more follow
pub record EndsLinks (list : List Token) (start end : ℕ) : Type 0 where
  pub links : List (Tree link)
  pub rest : List Token
  pub list_is : list ≡ tokens_of_links links ++ rest
  pub end_is : end_of start (tokens_of_links links) ≡ end
  pub none : after_link rest ≡ None

-- what is underlined of these tokens ends here
pub record EndsPart (list : List Token) (end : ℕ) : Type 0 where
  pub marked : List Token
  pub rest : List Token
  pub marked_are : AreMarked list marked
  pub list_is : list ≡ marked ++ rest
  pub end_is : end_of 0 marked ≡ end
  pub some : ¬ (marked ≡ [])
