-- Which lists of tokens are descriptions, and where one that is not goes wrong; and which texts are
-- read as items.
use Rattle.std.specs.Prelude.{◌≡◌, ℕ, ◌+◌, ◌≤◌, ◌<◌, List, ◌∷◌, ◌++◌, length, take}
use Rattle.twp_grammar.specs.declared.item.Item.{Item}
use Rattle.twp_grammar.specs.Tokens.{Token, HasTokens}
use Rattle.twp_grammar.specs.Grammar.{Class, class_of, description}
use Rattle.twp_grammar.specs.Items as derived

-- the grammar derives the tokens, with these items
pub record HasItems (tokens : List Token) (items : List Item) : Type 0 where
  pub tree : derived.Tree description
  pub spelled : derived.tokens description tree ≡ tokens
  pub read_off : derived.items tree ≡ items

-- the grammar derives the tokens
pub record IsSentence (tokens : List Token) : Type 0 where
  pub tree : derived.Tree description
  pub spelled : derived.tokens description tree ≡ tokens

-- the most tokens that the beginning of a sentence can need to become a sentence
abbrev pub LONGEST_COMPLETION : ℕ
LONGEST_COMPLETION = 7

-- a sentence begins with the tokens, and at most that many more complete it
abbrev pub IsFront : List Token → Type 0
IsFront tokens =
    (more : List Token) × (length more ≤ LONGEST_COMPLETION) × IsSentence (tokens ++ more)

-- a token of the class comes after these tokens in some sentence
pub record MayFollow (tokens : List Token) (class : Class) : Type 0 where
  pub token : Token
  pub more : List Token
  pub of_class : class_of token.kind ≡ class
  pub sentence : IsSentence (tokens ++ token ∷ more)

-- the tokens before the i-th begin a sentence, but no sentence begins with them and the i-th; or i
-- is the number of tokens, which begin a sentence but are not one
pub record IsFault (tokens : List Token) (i : ℕ) : Type 0 where
  pub within : i ≤ length tokens
  pub before : IsFront (take i tokens)
  pub here : i < length tokens → (more : List Token) → ¬ IsSentence (take (i + 1) tokens ++ more)
  pub at_end : i ≡ length tokens → ¬ IsSentence tokens

-- the most bytes of a description
abbrev pub TEXT_LIMIT : ℕ
TEXT_LIMIT = 65536

-- the bytes are read as these items
pub record IsReadAs (text : List ℕ) (items : List Item) : Type 0 where
  pub within : length text ≤ TEXT_LIMIT
  pub tokens : List Token
  pub cut : HasTokens 0 text tokens
  pub named : HasItems tokens items
