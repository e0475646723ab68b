-- The search for a text's leftmost bad token. No public promise speaks of it.
use Rattle.std.specs.Prelude.{◌≡◌, ℕ, List, [], ◌∷◌, ◌++◌, Option, Some, None}
use Rattle.twp_grammar.specs.declared.tokens.Kind.{Kind}
use Rattle.twp_grammar.specs.declared.tokens.Kind.TheVariants.{BadByte, BadNumber}
use Rattle.twp_grammar.specs.Tokens.{Token, HasTokens}
use Rattle.twp_read.specs.declared.fault.TextFault.{TextFault}
use Rattle.twp_read.specs.declared.fault.TextFault.TheVariants as fault

-- the fault that a token of this kind is wherever it is
abbrev pub fault_of_bad : Kind → ℕ → Option TextFault
fault_of_bad BadByte at = Some (fault.BadByte at)
fault_of_bad BadNumber at = Some (fault.BadNumber at)
fault_of_bad _ at = None

-- no token is bad
abbrev pub NoneBad : List Token → Type 0
NoneBad [] = Unit {0}
NoneBad (token ∷ tokens) = (fault_of_bad token.kind token.at ≡ None) × NoneBad tokens

-- the text has no bad token
pub record HasNoneBad (text : List ℕ) : Type 0 where
  pub tokens : List Token
  pub cut : HasTokens 0 text tokens
  pub none_bad : NoneBad tokens

-- the fault is that of the text's leftmost bad token
pub record IsLeftmostBad (text : List ℕ) (text_fault : TextFault) : Type 0 where
  pub before : List Token
  pub token : Token
  pub after : List Token
  pub cut : HasTokens 0 text (before ++ token ∷ after)
  pub none_before : NoneBad before
  pub fault_is : fault_of_bad token.kind token.at ≡ Some text_fault
