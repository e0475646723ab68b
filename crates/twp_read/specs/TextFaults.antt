-- What may be wrong with a text, each fault as a statement about all its tokens, which fault is
-- answered, and what it reports.
use Rattle.std.specs.Prelude.{◌≡◌, ◌⊎◌, ℕ, ◌≤◌, ◌<◌, zero, suc, List, [], ◌∷◌, ◌++◌, Option, Some}
use Rattle.std.specs.Prelude.{None, length, take, ⊤}
use Rattle.std.specs.Option.{option_map_or}
use Rattle.twp_grid.specs.declared.refusal.Refusal.{Refusal}
use Rattle.twp_grammar.specs.declared.tokens.Kind.{Kind}
use Rattle.twp_grammar.specs.declared.tokens.Kind.TheVariants.{BadByte, BadNumber}
use Rattle.twp_read.specs.declared.fault.TextFault.{TextFault}
use Rattle.twp_read.specs.declared.fault.TextFault.TheVariants as fault
use Rattle.twp_grammar.specs.Tokens.{Token, HasTokens}
use Rattle.twp_grammar.specs.Grammar.{Class, class_of}
use Rattle.twp_grammar.specs.Sentences.{IsSentence, IsFault, MayFollow}
use Rattle.twp_grammar.specs.Expected.{reported, named, IsClassNamed}
use Rattle.twp_grammar.specs.declared.expected.Expected.{Expected}
pub use Rattle.twp_grammar.specs.Sentences.{TEXT_LIMIT, IsReadAs}

-- a refusal of a number, at a place
abbrev pub refusal : ℕ → ℕ → Refusal
refusal number at = record { number = number; at = at }

-- the number and the place of a fault; want of memory has none
abbrev pub refusal_of : TextFault → Option Refusal
refusal_of fault.TooLarge = Some (refusal 41 TEXT_LIMIT)
refusal_of (fault.BadByte at) = Some (refusal 42 at)
refusal_of (fault.BadNumber at) = Some (refusal 43 at)
refusal_of (fault.Syntax at expected) = Some (refusal 44 at)
refusal_of fault.Memory = None

-- a token of this kind is at this place of the text
pub record HasToken (text : List ℕ) (kind : Kind) (at : ℕ) : Type 0 where
  pub before : List Token
  pub token : Token
  pub after : List Token
  pub cut : HasTokens 0 text (before ++ token ∷ after)
  pub kind_is : token.kind ≡ kind
  pub place : token.at ≡ at

-- where the i-th token stands, or the end of the text
abbrev pub place_of_token : List Token → ℕ → ℕ → ℕ
place_of_token [] i end = end
place_of_token (token ∷ tokens) zero end = token.at
place_of_token (token ∷ tokens) (suc i) end = place_of_token tokens i end

-- the text goes wrong at this place, whether or not it has bad tokens
pub record GoesWrong (text : List ℕ) (at : ℕ) : Type 0 where
  pub tokens : List Token
  pub cut : HasTokens 0 text tokens
  pub i : ℕ
  pub fault : IsFault tokens i
  pub place : at ≡ place_of_token tokens i (length text)

-- the fault is there; what one of syntax reports is `Helps`, below
abbrev pub HasTextFault : List ℕ → TextFault → Type 0
HasTextFault text fault.TooLarge = TEXT_LIMIT < length text
HasTextFault text (fault.BadByte at) = HasToken text BadByte at
HasTextFault text (fault.BadNumber at) = HasToken text BadNumber at
HasTextFault text (fault.Syntax at expected) = GoesWrong text at
HasTextFault text fault.Memory = ⊥

-- the size of the text comes first, then tokens that are not good, and at last whether they are a sentence
abbrev pub stage_of : TextFault → ℕ
stage_of fault.TooLarge = 0
stage_of (fault.Syntax at expected) = 2
stage_of other = 1

-- the place of a fault's refusal
abbrev pub place_of : TextFault → ℕ
place_of fault = option_map_or (λ (refusal : Refusal). refusal.at) (refusal_of fault) 0

-- the fault is at this stage and place, or after it
abbrev pub IsFrom : ℕ → ℕ → TextFault → Type 0
IsFrom stage place fault =
    (stage < stage_of fault) ⊎ ((stage ≡ stage_of fault) × (place ≤ place_of fault))

-- the fault is there, and none that comes before it
pub record IsFirstTextFault (text : List ℕ) (fault : TextFault) : Type 0 where
  pub is : HasTextFault text fault
  pub first : (other : TextFault) → HasTextFault text other
      → IsFrom (stage_of fault) (place_of fault) other

-- The text goes wrong at this place; whatever token a sentence could have there is named; and of
-- each class that is reported, a sentence could have one there.
pub record NamesWhatFollows (text : List ℕ) (at : ℕ) (expected : Expected) : Type 0 where
  pub wrong : GoesWrong text at
  pub named_is : (token : Token) (more : List Token)
      → IsSentence (take wrong.i wrong.tokens ++ token ∷ more)
      → IsClassNamed (class_of token.kind) (named expected)
  pub reported_is : (class : Class) → IsClassNamed class (reported expected)
      → MayFollow (take wrong.i wrong.tokens) class

-- the refusal of syntax names whatever could be at its place, and what it reports could
abbrev pub Helps : List ℕ → TextFault → Type 0
Helps text (fault.Syntax at expected) = NamesWhatFollows text at expected
Helps text other = ⊤
