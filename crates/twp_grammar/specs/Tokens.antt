-- How the bytes of a description are split: into white space and the texts of tokens.
use Rattle.std.specs.Prelude.{◌≡◌, ◌==◌, ◌||◌, ◌&&◌, ℕ, ◌+◌, ◌<◌, ◌≤◌, Bool, true, false, List, []}
use Rattle.std.specs.Prelude.{◌∷◌, ◌++◌, Option, Some, None, length, if◌then◌else◌, codes}
use Rattle.std.specs.Char.{is_ascii_alphabetic, is_ascii_digit}
use Rattle.std.specs.List.{AllPass}
use Rattle.std.specs.Str.{str_to_ascii_lowercase}
use Rattle.std.specs.Str.Parse.{digits_value}
use Rattle.twp_grid.specs.declared.township.NorthSouth.TheVariants as ns
use Rattle.twp_grid.specs.declared.township.EastWest.TheVariants as ew
use Rattle.twp_grid.specs.declared.block.Corner.TheVariants as corner
use Rattle.twp_grammar.specs.declared.tokens.Token.{Token as Piece}
use Rattle.twp_grammar.specs.declared.tokens.Kind.{Kind}
use Rattle.twp_grammar.specs.declared.tokens.Kind.TheVariants.{Sec, Lot, All, And, To, Inclusive, Of}
use Rattle.twp_grammar.specs.declared.tokens.Kind.TheVariants.{The, T, R, NorthSouth, EastWest, Corner}
use Rattle.twp_grammar.specs.declared.tokens.Kind.TheVariants.{Half, Quarter, Number, Comma, Semicolon}
use Rattle.twp_grammar.specs.declared.tokens.Kind.TheVariants.{Colon, Stop, Other, BadNumber, BadByte}

-- a token: its kind, its bytes, and its place in the text
pub record Token : Type 0 where
  pub kind : Kind
  pub text : List ℕ
  pub at : ℕ

-- a space, a tab, a line feed, or a carriage return
abbrev pub is_white : ℕ → Bool
is_white byte = (byte == 32) || (byte == 9) || (byte == 10) || (byte == 13)

-- a word in lowercase letters, and its kind
pub record Word : Type 0 where
  pub letters : List ℕ
  pub kind : Kind

-- a word with these letters and this kind
abbrev pub word : List ℕ → Kind → Word
word letters kind = record { letters = letters; kind = kind }

-- the words of descriptions with four letters or more
abbrev pub long_words : List Word
long_words = word (codes "thru") To ∷ word (codes "lots") Lot ∷ word (codes "secs") Sec
    ∷ word (codes "section") Sec ∷ word (codes "sections") Sec ∷ word (codes "through") To
    ∷ word (codes "inclusive") Inclusive ∷ []

-- the words of descriptions with up to three letters
abbrev pub short_words : List Word
short_words = word (codes "sec") Sec ∷ word (codes "lot") Lot ∷ word (codes "all") All
    ∷ word (codes "and") And ∷ word (codes "the") The ∷ word (codes "to") To ∷ word (codes "of") Of
    ∷ word (codes "ne") (Corner corner.NE) ∷ word (codes "nw") (Corner corner.NW)
    ∷ word (codes "sw") (Corner corner.SW) ∷ word (codes "se") (Corner corner.SE)
    ∷ word (codes "n") (NorthSouth ns.N) ∷ word (codes "s") (NorthSouth ns.S)
    ∷ word (codes "e") (EastWest ew.E) ∷ word (codes "w") (EastWest ew.W)
    ∷ word (codes "t") T ∷ word (codes "r") R ∷ []

-- all words of descriptions
abbrev pub words : List Word
words = long_words ++ short_words

-- the same bytes
abbrev pub same_bytes : List ℕ → List ℕ → Bool
same_bytes [] [] = true
same_bytes [] (b ∷ bs) = false
same_bytes (a ∷ text) [] = false
same_bytes (a ∷ text) (b ∷ bs) = (a == b) && same_bytes text bs

-- the kind of these letters, if they are one of the words
abbrev pub kind_among : List ℕ → List Word → Kind
kind_among letters [] = Other
kind_among letters (w ∷ ws) = if same_bytes letters w.letters then w.kind else kind_among letters ws

-- the kind of a word in letters of either case
abbrev pub kind_of_word : List ℕ → Kind
kind_of_word text = kind_among (str_to_ascii_lowercase text) words

-- the first byte, if there is one, passes the test
abbrev pub begins_with : (ℕ → Bool) → List ℕ → Bool
begins_with is_such [] = false
begins_with is_such (byte ∷ bytes) = is_such byte

-- one or more bytes that pass the test, and all of those before the rest
pub record IsWholeRun (is_such : ℕ → Bool) (text rest : List ℕ) : Type 0 where
  pub some : 0 < length text
  pub all : AllPass is_such text
  pub ends : begins_with is_such rest ≡ false

-- the bytes begin with these
abbrev pub Begins : List ℕ → List ℕ → Type 0
Begins front bytes = (more : List ℕ) × (bytes ≡ front ++ more)

-- digits, unless they are the 1 of 1/2 or 1/4
pub record IsNumber (text rest : List ℕ) : Type 0 where
  pub run : IsWholeRun is_ascii_digit text rest
  pub no_half : ¬ Begins (codes "1/2") (text ++ rest)
  pub no_quarter : ¬ Begins (codes "1/4") (text ++ rest)

-- the text, before the rest, is a good token of this kind; U+00BD is the bytes C2 BD, and U+00BC is C2 BC
pub data IsGoodToken (text rest : List ℕ) (kind : Kind) : Type 0 where
  a_word : IsWholeRun is_ascii_alphabetic text rest → kind ≡ kind_of_word text → IsGoodToken text rest kind
  a_number : IsNumber text rest → length text ≤ 4 → kind ≡ Number (digits_value 10 text)
      → IsGoodToken text rest kind
  a_bad_number : IsNumber text rest → 4 < length text → kind ≡ BadNumber → IsGoodToken text rest kind
  a_half : text ≡ codes "1/2" → kind ≡ Half → IsGoodToken text rest kind
  a_half_sign : text ≡ 0xC2 ∷ 0xBD ∷ [] → kind ≡ Half → IsGoodToken text rest kind
  a_quarter : text ≡ codes "1/4" → kind ≡ Quarter → IsGoodToken text rest kind
  a_quarter_sign : text ≡ 0xC2 ∷ 0xBC ∷ [] → kind ≡ Quarter → IsGoodToken text rest kind
  a_comma : text ≡ codes "," → kind ≡ Comma → IsGoodToken text rest kind
  a_semicolon : text ≡ codes ";" → kind ≡ Semicolon → IsGoodToken text rest kind
  a_colon : text ≡ codes ":" → kind ≡ Colon → IsGoodToken text rest kind
  a_stop : text ≡ codes "." → kind ≡ Stop → IsGoodToken text rest kind

-- the bytes begin with no token other than a bad byte
abbrev pub NoGoodToken : List ℕ → Type 0
NoGoodToken bytes = (text rest : List ℕ) (kind : Kind) → bytes ≡ text ++ rest → ¬ IsGoodToken text rest kind

-- one byte that is not white space, and that no other token can begin with
pub record IsBadByte (text rest : List ℕ) : Type 0 where
  pub byte : ℕ
  pub is : text ≡ byte ∷ []
  pub no_space : is_white byte ≡ false
  pub no_token : NoGoodToken (text ++ rest)

-- the text, when the rest follows it, is a token of this kind
pub data IsToken (text rest : List ℕ) (kind : Kind) : Type 0 where
  good : IsGoodToken text rest kind → IsToken text rest kind
  bad : IsBadByte text rest → kind ≡ BadByte → IsToken text rest kind

-- the bytes at a place begin with white space, if any, and then with the token
pub record StartsWith (at : ℕ) (bytes : List ℕ) (token : Token) (rest : List ℕ) : Type 0 where
  pub space : List ℕ
  pub white : AllPass is_white space
  pub spelled : bytes ≡ space ++ (token.text ++ rest)
  pub place : token.at ≡ at + length space
  pub is : IsToken token.text rest token.kind

-- the bytes at a place consist of white space and the texts of these tokens, in order
abbrev pub HasTokens : ℕ → List ℕ → List Token → Type 0
HasTokens at bytes [] = AllPass is_white bytes
HasTokens at bytes (token ∷ tokens) = (rest : List ℕ) × StartsWith at bytes token rest
    × HasTokens (token.at + length token.text) rest tokens

-- the rest of a text, and its place
pub record Left : Type 0 where
  pub at : ℕ
  pub bytes : List ℕ

-- a token as a contract sees it
abbrev pub seen : Piece → Token
seen token = record { kind = token.kind; text = token.text.now; at = token.at }

-- the next token of the rest, or None if the rest is white space
abbrev pub GivesToken : Left → Option Piece → Left → Type 0
GivesToken left None after =
    AllPass is_white left.bytes
    × (after ≡ record { at = left.at + length left.bytes; bytes = [] })
GivesToken left (Some token) after =
    StartsWith left.at left.bytes (seen token) after.bytes
    × (after.at ≡ token.at + length token.text.now)
