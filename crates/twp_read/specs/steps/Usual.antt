-- What the reader takes as a whole, though it is several tokens. No public promise speaks of it.
use Rattle.std.specs.Prelude.{◌≡◌, ◌⊎◌, ◌≤◌, ◌<◌, ◌==◌, ◌||◌, ◌&&◌, ℕ, ◌+◌, Bool, true, false, List, [], ◌∷◌}
use Rattle.std.specs.Prelude.{◌++◌, Option, Some, None}
use Rattle.std.specs.Prelude.{length}
use Rattle.std.specs.Prelude.{drop}
use Rattle.std.specs.List.{prefix_len}
use Rattle.twp_grid.specs.declared.block.Side.TheVariants as side
use Rattle.twp_grid.specs.declared.township.NorthSouth.TheVariants as ns
use Rattle.twp_grid.specs.declared.township.EastWest.TheVariants as ew
use Rattle.twp_grammar.specs.declared.item.Item.{Item}
use Rattle.twp_grammar.specs.declared.item.Item.TheVariants.{Lots, Sections}
use Rattle.twp_grammar.specs.declared.item.Step.{Step}
use Rattle.twp_grammar.specs.declared.item.Step.TheVariants as step
use Rattle.twp_grammar.specs.declared.tokens.Kind.{Kind}
use Rattle.twp_grammar.specs.declared.tokens.Kind.TheVariants.{NorthSouth, EastWest, Corner, Half}
use Rattle.twp_grammar.specs.declared.tokens.Kind.TheVariants.{Quarter, Number}
use Rattle.twp_read.specs.declared.usual.list.ListKind.{ListKind}
use Rattle.twp_read.specs.declared.usual.list.ListKind.TheVariants as listed
use Rattle.twp_grammar.specs.declared.state.State.{State}
use Rattle.twp_grammar.specs.declared.state.State.TheVariants as past
use Rattle.twp_grammar.specs.Tokens.{Token, StartsWith, HasTokens, is_white, begins_with, kind_among, words}
use Rattle.twp_grammar.specs.Cutting.{small_letter}
use Rattle.twp_grammar.specs.declared.item.Numeral.{Numeral}
use Rattle.twp_grammar.specs.Grammar.{number}
use Rattle.twp_grammar.specs.Machine.{next}
use Rattle.twp_read.specs.steps.TokenSteps.{run, take_number}
use Rattle.twp_read.specs.steps.BadTokens.{NoneBad}
use Rattle.twp_read.specs.declared.description.Reached.{Reached}
use Rattle.twp_read.specs.declared.watch.ListWord.{ListWord}
use Rattle.twp_read.specs.declared.watch.ListWord.TheVariants as word
use Rattle.twp_read.specs.steps.Watching.{Unclouded, word_from, is_step, is_section, is_heading, end_from}
pub use Rattle.twp_read.specs.Doubts.{end_of}

-- The tokens of a text between two places lead the machine from a state and items to others, and the word
-- whose numbers are read one by one to another. None of them clouds the text, and no white space follows the
-- last one if it ends a step.
pub record LeadsBy (it last : ListWord) (text : List ℕ) (at : ℕ) (state : State) (items : List Item)
    (to : ℕ) (after : State) (grown : List Item) : Type 0 where
  pub tokens : List Token
  pub cut : (left : List Token) → HasTokens to (drop to text) left
      → HasTokens at (drop at text) (tokens ++ left)
  pub walked : run (Some state) items tokens ≡ Some (after, grown)
  pub clear : Unclouded false it at (Some state) tokens
  pub ended : word_from it (Some state) tokens ≡ last
  pub stays : is_step after ≡ true → to ≡ end_from at tokens
  pub forward : at ≤ to
  pub within : to ≤ length text

-- the same where no word needs watching before them or after them
abbrev pub Leads : List ℕ → ℕ → State → List Item → ℕ → State → List Item → Type 0
Leads text at state items to after grown = LeadsBy word.Usual word.Usual text at state items to after grown

-- after the usual words what follows is taken as a whole; after others nothing is
abbrev pub MovesOn : ListWord → List ℕ → Reached → List Item → List Item → Reached → Type 0
MovesOn it text from items grown to =
    ((it ≡ word.Usual) × Leads text from.at from.state items to.at to.state grown)
    ⊎ ((to ≡ from) × (grown ≡ items))

-- what the letters of a step are, and what its fraction is
abbrev pub letters_of : Step → Kind
letters_of (step.Half side.N) = NorthSouth ns.N
letters_of (step.Half side.S) = NorthSouth ns.S
letters_of (step.Half side.E) = EastWest ew.E
letters_of (step.Half side.W) = EastWest ew.W
letters_of (step.Quarter corner) = Corner corner

abbrev pub fraction_of : Step → Kind
fraction_of (step.Half side) = Half
fraction_of (step.Quarter corner) = Quarter

-- at a place of a text stands a token of this kind, of this many bytes
pub record IsKindAt (text : List ℕ) (at : ℕ) (kind : Kind) (size : ℕ) : Type 0 where
  pub token : Token
  pub starts : StartsWith at (drop at text) token (drop (at + size) text)
  pub kind_is : token.kind ≡ kind
  pub here : token.at ≡ at
  pub ends : end_of token ≡ at + size
  pub within : at + size ≤ length text

-- at a place of a text stand the letters of a step, and its fraction right after them
pub record IsStepAt (text : List ℕ) (at : ℕ) (step : Step) (size : ℕ) : Type 0 where
  pub letters_size : ℕ
  pub letters : IsKindAt text at (letters_of step) letters_size
  pub fraction_size : ℕ
  pub fraction : IsKindAt text (at + letters_size) (fraction_of step) fraction_size
  pub size_is : size ≡ letters_size + fraction_size
  pub some : 0 < size

-- a letter is that of a half
pub record AreHalf (first : ℕ) (it : Step) : Type 0 where
  pub small : ℕ
  pub letter : Some small ≡ small_letter first
  pub letters : kind_among (small ∷ []) words ≡ letters_of it
  pub fraction : fraction_of it ≡ Half

-- two letters are those of a quarter
pub record AreQuarter (first second : ℕ) (it : Step) : Type 0 where
  pub small : ℕ
  pub letter : Some small ≡ small_letter first
  pub after : ℕ
  pub letter_after : Some after ≡ small_letter second
  pub letters : kind_among (small ∷ after ∷ []) words ≡ letters_of it
  pub fraction : fraction_of it ≡ Quarter

-- five bytes begin with a step: with the letter of a half and 1/2 or its sign, or with those of a
-- quarter and 1/4 or its sign
abbrev pub BeginWithStep : ℕ → ℕ → ℕ → ℕ → ℕ → Step → ℕ → Type 0
BeginWithStep first second third fourth fifth it size =
    (AreHalf first it × (size ≡ 4) × (second ≡ 49) × (third ≡ 47) × (fourth ≡ 50))
    ⊎ (AreQuarter first second it × (size ≡ 5) × (third ≡ 49) × (fourth ≡ 47) × (fifth ≡ 52))
    ⊎ (AreHalf first it × (size ≡ 3) × (second ≡ 0xC2) × (third ≡ 0xBD))
    ⊎ (AreQuarter first second it × (size ≡ 4) × (third ≡ 0xC2) × (fourth ≡ 0xBC))

abbrev pub begins_with_zero : List ℕ → Bool
begins_with_zero bytes = begins_with (λ byte. byte == 48) bytes

-- a number that the bytes begin with may be doubtful in a state: the second one of a list of sections, or one
-- of a heading that begins with a zero
abbrev pub may_be_doubtful : State → List ℕ → Bool
may_be_doubtful state bytes = is_section state || (is_heading state && begins_with_zero bytes)

-- a word that joins two numbers of a list, or two parts, may be doubtful in a state
abbrev pub joins_doubtfully : State → Bool
joins_doubtfully state = is_step state || is_section state

-- a number is the next token of a text from a place on, and ends at another, unless it may be doubtful
abbrev pub IsNumberAfter : List ℕ → ℕ → Numeral → ℕ → Type 0
IsNumberAfter text from it end =
    (state after : State) (items : List Item) → next state number ≡ Some after
    → may_be_doubtful state (drop it.at text) ≡ false
    → Leads text from state items end after (take_number state it items)

-- a number is the next token of a text from a place on, and ends at another
pub record IsNumberToken (text : List ℕ) (from : ℕ) (it : Numeral) (end : ℕ) : Type 0 where
  pub token : Token
  pub starts : StartsWith from (drop from text) token (drop end text)
  pub kind_is : token.kind ≡ Number it.value
  pub here : token.at ≡ it.at
  pub ends : end_of token ≡ end
  pub within : end ≤ length text

-- all the white space from a place on ends at another
abbrev pub IsAfterWhite : List ℕ → ℕ → ℕ → Type 0
IsAfterWhite text from at = (at ≡ from + prefix_len is_white (drop from text)) × (at ≤ length text)

-- the item of a number in a list
abbrev pub entry_of : ListKind → Numeral → Item
entry_of listed.Lots it = Lots it it
entry_of listed.Sections it = Sections it it true

-- the state after a number in a list
abbrev pub state_after : ListKind → State
state_after listed.Lots = past.LotNumber
state_after listed.Sections = past.ListNumber

-- the state after the last number of a range in a list
abbrev pub last_state_after : ListKind → State
last_state_after listed.Lots = past.LotLast
last_state_after listed.Sections = past.ListLast

-- what a list is of that continues in a state with a comma and a number
abbrev pub listed_in : State → Option ListKind
listed_in past.LotNumber = Some listed.Lots
listed_in past.LotLast = Some listed.Lots
listed_in past.LotInclusive = Some listed.Lots
listed_in past.ListNumber = Some listed.Sections
listed_in past.ListLast = Some listed.Sections
listed_in past.ListInclusive = Some listed.Sections
listed_in _ = None

-- what a list is of whose next number comes after `and`
abbrev pub listed_after_and : State → Option ListKind
listed_after_and past.LotAnd = Some listed.Lots
listed_after_and past.ListAnd = Some listed.Sections
listed_after_and _ = None

-- what a list is of that has a range whose last number comes after `to`
abbrev pub listed_after_to : State → Option ListKind
listed_after_to past.LotTo = Some listed.Lots
listed_after_to past.ListTo = Some listed.Sections
listed_after_to _ = None

-- no bad token is in a text before this place, after which its other tokens stand
pub record HasNoneBadBefore (text : List ℕ) (at : ℕ) : Type 0 where
  pub tokens : List Token
  pub joins : (left : List Token) → HasTokens at (drop at text) left → HasTokens 0 text (tokens ++ left)
  pub none_bad : NoneBad tokens
  pub within : at ≤ length text
