-- How a text with the land of several townships is split: before the `T` of each heading but the first. Each
-- part is the text of one township, up to the separator before the next heading, and is read as if it were
-- the only one.
use Rattle.std.specs.Prelude.{◌≡◌, ◌⊎◌, ℕ, ◌+◌, ◌<◌, ◌≤◌, List, [], ◌∷◌, ◌++◌, length, ⊤}
use Rattle.twp_grid.specs.declared.refusal.Refusal.{Refusal}
use Rattle.twp_grammar.specs.declared.item.Item.{Item}
use Rattle.twp_grammar.specs.Tokens.{Token, HasTokens}
use Rattle.twp_grammar.specs.Sentences.{IsReadAs}
use Rattle.twp_grammar.specs.declared.tokens.Kind.TheVariants.{T, And, Semicolon}
use Rattle.twp_read.specs.TextFaults.{refusal}
use Rattle.twp_calls.specs.Answers.{bare, NO_MEMORY}
use Rattle.twp_calls.specs.Calls.{IsRefusedFor}
use Rattle.twp_calls.specs.UnreadCalls.{AreStretchesPut}
use Rattle.twp_calls.specs.declared.answer.TownshipAnswer.{TownshipAnswer}
use Rattle.twp_calls.specs.declared.unread.TownshipStretch.{TownshipStretch}

-- the most bytes of such a text
abbrev pub SPLIT_LIMIT : ℕ
SPLIT_LIMIT = 1048576

-- the first token of a heading
abbrev pub BeginsHeading : Token → Type 0
BeginsHeading token = token.kind ≡ T

-- none of the tokens is the first of a heading
abbrev pub NoHeading : List Token → Type 0
NoHeading [] = ⊤
NoHeading (token ∷ tokens) = (¬ BeginsHeading token) × NoHeading tokens

-- the tokens between the land of one township and the next heading: none, `;`, or `; and`
pub data SeparateTownships (tokens : List Token) : Type 0 where
  no_token : tokens ≡ [] → SeparateTownships tokens
  a_semicolon : (mark : Token) → mark.kind ≡ Semicolon → tokens ≡ mark ∷ [] → SeparateTownships tokens
  semicolon_and : (mark word : Token) → mark.kind ≡ Semicolon → word.kind ≡ And → tokens ≡ mark ∷ word ∷ []
      → SeparateTownships tokens

-- the tokens are those of land, and the longest separator that they end with
pub record EndInSeparator (tokens land separator : List Token) : Type 0 where
  pub joined : tokens ≡ land ++ separator
  pub separates : SeparateTownships separator
  pub longest : (front other : List Token) → tokens ≡ front ++ other → SeparateTownships other
      → length other ≤ length separator

-- where tokens end, the first of which follows this place
abbrev pub end_of_tokens : ℕ → List Token → ℕ
end_of_tokens place [] = place
end_of_tokens place (token ∷ tokens) = end_of_tokens (token.at + length token.text) tokens

-- a part of the text
abbrev pub part_between : ℕ → ℕ → TownshipStretch
part_between start end = record { start = start; end = end; ways = 0; reserved = 0 }

-- The part is the text of the first township: from this place, to the end of the land before the separator,
-- the next heading, and more.
pub record IsFirstOfSeveral (start : ℕ) (tokens : List Token) (part : TownshipStretch) (next : Token)
    (more : List Token) : Type 0 where
  pub heading : Token
  pub begins : BeginsHeading heading
  pub between : List Token
  pub no_other : NoHeading between
  pub next_begins : BeginsHeading next
  pub spelled : tokens ≡ heading ∷ (between ++ (next ∷ more))
  pub land : List Token
  pub separator : List Token
  pub separated : EndInSeparator between land separator
  pub part_is : part ≡ part_between start (end_of_tokens (heading.at + length heading.text) land)

-- no token but the first begins a heading
abbrev pub HaveOneTownship : List Token → Type 0
HaveOneTownship [] = ⊤
HaveOneTownship (token ∷ tokens) = NoHeading tokens

-- the part is the text of the only township, from this place to the end
pub record IsOnlyPart (start end : ℕ) (tokens : List Token) (part : TownshipStretch)
    (others : List TownshipStretch) : Type 0 where
  pub no_others : others ≡ []
  pub one : HaveOneTownship tokens
  pub part_is : part ≡ part_between start end

-- THE PARTS of the text of these tokens, which is between two places: the text of the only township; or that
-- of the first, and the parts from the next heading on
abbrev pub AreParts : ℕ → ℕ → List Token → List TownshipStretch → Type 0
AreParts start end tokens [] = ⊥
AreParts start end tokens (part ∷ parts) =
    IsOnlyPart start end tokens part parts
    ⊎ ((next : Token) × (more : List Token) × IsFirstOfSeveral start tokens part next more
    × AreParts next.at end (next ∷ more) parts)

-- the text is split into these parts
pub record IsSplit (text : List ℕ) (parts : List TownshipStretch) : Type 0 where
  pub within : length text ≤ SPLIT_LIMIT
  pub tokens : List Token
  pub cut : HasTokens 0 text tokens
  pub are : AreParts 0 (length text) tokens parts

-- the refusal of a text with a heading, but with something else before it, at this heading
pub record IsWithoutHeading (text : List ℕ) (answer : Refusal) : Type 0 where
  pub before : List Token
  pub some : 0 < length before
  pub none : NoHeading before
  pub heading : Token
  pub begins : BeginsHeading heading
  pub more : List Token
  pub cut : HasTokens 0 text (before ++ (heading ∷ more))
  pub is : answer ≡ refusal 38 heading.at

-- the text has too many bytes, or its first township has no heading
pub data IsNoSplit (text : List ℕ) (answer : Refusal) : Type 0 where
  too_large : SPLIT_LIMIT < length text → answer ≡ refusal 39 SPLIT_LIMIT → IsNoSplit text answer
  no_heading : length text ≤ SPLIT_LIMIT → IsWithoutHeading text answer → IsNoSplit text answer

-- `township_split`: the only parts into which the text can be split; or it can't be split, and is refused
pub data IsSplitCall (text : List ℕ) (old new : List TownshipStretch) (answer : TownshipAnswer)
    : Type 0 where
  split : (parts : List TownshipStretch) → IsSplit text parts
      → ((other : List TownshipStretch) → IsSplit text other → other ≡ parts)
      → AreStretchesPut parts old new answer → IsSplitCall text old new answer
  not_split : ((parts : List TownshipStretch) → ¬ IsSplit text parts) → IsRefusedFor (IsNoSplit text) answer
      → IsSplitCall text old new answer
  no_memory : answer ≡ bare NO_MEMORY → IsSplitCall text old new answer

-- a description is its own only part
abbrev pub DescriptionIsOnePart : Type 0
DescriptionIsOnePart =
    (text : List ℕ) (items : List Item) → IsReadAs text items
    → IsSplit text (part_between 0 (length text) ∷ [])
