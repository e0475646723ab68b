-- Laws of what is read, and of what is refused.
use Rattle.std.specs.Prelude.{◌≡◌, ℕ, ◌↔◌, List, ◌∷◌, ◌++◌, map}
use Rattle.twp_grammar.specs.declared.tokens.Kind.{Kind}
use Rattle.twp_grammar.specs.declared.tokens.Kind.TheVariants.{Other, BadNumber, BadByte}
use Rattle.twp_grammar.specs.declared.item.Item.{Item}
use Rattle.twp_grammar.specs.Tokens.{Token}
use Rattle.twp_grammar.specs.Grammar.{Class, class_of}
use Rattle.twp_grammar.specs.Items.{tokens}
use Rattle.twp_read.specs.declared.fault.TextFault.{TextFault}
use Rattle.twp_grammar.specs.Sentences.{IsSentence, IsFront, IsReadAs}
use Rattle.twp_read.specs.TextFaults.{HasTextFault, IsFirstTextFault, refusal_of}

-- an unknown word, a number of too many digits, or a byte that begins no token
abbrev pub IsStray : Kind → Type 0
IsStray Other = Unit {0}
IsStray BadNumber = Unit {0}
IsStray BadByte = Unit {0}
IsStray _ = ⊥

-- none of these is in a sentence
abbrev pub NoStrayInSentence : Type 0
NoStrayInSentence =
    (before after : List Token) (token : Token)
    → IsStray token.kind → ¬ IsSentence (before ++ token ∷ after)

-- the classes of tokens, in turn
abbrev pub classes_of : List Token → List Class
classes_of tokens = map (λ token. class_of token.kind) tokens

-- Tokens of the same classes are sentences together, and begin sentences together: which number or
-- which side one is, how it is written and where it is don't matter.
abbrev pub ClassesDecide : Type 0
ClassesDecide =
    (tokens tokens' : List Token) → classes_of tokens ≡ classes_of tokens'
    → (IsSentence tokens ↔ IsSentence tokens') × (IsFront tokens ↔ IsFront tokens')

-- however a sentence continues, a few tokens would do
abbrev pub ShortCompletion : Type 0
ShortCompletion = (tokens more : List Token) → IsSentence (tokens ++ more) → IsFront tokens

-- a text is read as one list of items
abbrev pub OneReading : Type 0
OneReading =
    (text : List ℕ) (items items' : List Item)
    → IsReadAs text items → IsReadAs text items' → items ≡ items'

-- a text that is read has no fault
abbrev pub ReadHasNoFault : Type 0
ReadHasNoFault =
    (text : List ℕ) (items : List Item) (fault : TextFault)
    → IsReadAs text items → ¬ HasTextFault text fault

-- a text has one first fault: its refusal is one
abbrev pub OneTextFault : Type 0
OneTextFault =
    (text : List ℕ) (fault fault' : TextFault)
    → IsFirstTextFault text fault → IsFirstTextFault text fault'
    → refusal_of fault ≡ refusal_of fault'
