-- Laws over the definitions of tokens, sentences, and items.
use Rattle.std.specs.Prelude.{◌≡◌, ℕ, ◌↔◌, List, [], ◌∷◌}
use Rattle.twp_grammar.specs.declared.item.Item.{Item}
use Rattle.twp_grammar.specs.Tokens.{Token, HasTokens}
use Rattle.twp_grammar.specs.Grammar.{entries, several, number, description}
use Rattle.twp_grammar.specs.Items.{Leaf, Tree, token_of, tokens}
use Rattle.twp_grammar.specs.Sentences.{HasItems}

-- each list of bytes can be split into tokens
abbrev pub HasTokenList : Type 0
HasTokenList = (at : ℕ) (bytes : List ℕ) → (tokens : List Token) × HasTokens at bytes tokens

-- bytes can be split into tokens in only one way
abbrev pub OneTokenList : Type 0
OneTokenList =
    (at : ℕ) (bytes : List ℕ) (tokens tokens' : List Token)
    → HasTokens at bytes tokens → HasTokens at bytes tokens' → tokens ≡ tokens'

-- a list of tokens is read as only one list of items
abbrev pub OneItemList : Type 0
OneItemList =
    (tokens : List Token) (items items' : List Item)
    → HasItems tokens items → HasItems tokens items' → items ≡ items'

-- a sentence has only one derivation: trees with the same tokens are the same tree
abbrev pub OneDerivation : Type 0
OneDerivation =
    (tree tree' : Tree description)
    → tokens description tree ≡ tokens description tree' → tree ≡ tree'

-- one number alone
abbrev pub IsOneNumber : List Token → Type 0
IsOneNumber ts = (n : Leaf number) × (ts ≡ token_of number n ∷ [])

-- several entries are entries, and not one number alone
abbrev pub SeveralAreEntries : Type 0
SeveralAreEntries = (ts : List Token) →
    ((v : Tree several) × (tokens several v ≡ ts))
    ↔ (((v : Tree entries) × (tokens entries v ≡ ts)) × ¬ IsOneNumber ts)
