-- How a sign is to be written, as the code stores it. No public contract cites this module.
use Rattle.std.specs.Prelude.{◌≡◌, ℕ, ◌-◌, ◌^◌, ◌<◌, ◌==◌, ◌++◌, nat_lt, if◌then◌else◌, Bool, true, List, []}
use Rattle.std.specs.Prelude.{◌∷◌, length, take}
use Rattle.std.specs.Int.{is_in_range}
use Rattle.twp_excerpt.specs.declared.escaped.Look.{Look}
use Rattle.twp_excerpt.specs.declared.escaped.Look.TheVariants.{Plain, Letter, Byte, Code}
use Rattle.twp_excerpt.specs.declared.escaped.Sign.{Sign as Drawn}
use Rattle.twp_excerpt.specs.Shown.{is_shown}
use Rattle.twp_excerpt.specs.Signs.{Sign, character, stray, sign_size, signs, in_line}
use Rattle.twp_excerpt.specs.Signs.{letter_escape, byte_escape, code_escape}

-- the printable ASCII characters
abbrev pub is_printable : ℕ → Bool
is_printable code = is_in_range 0x20 0x7E code

-- the characters that are written for it are shown
abbrev pub IsSafe : Look → Type 0
IsSafe (Plain code) = is_shown code ≡ true
IsSafe (Letter code) = is_printable code ≡ true
IsSafe (Byte byte) = byte < 256
IsSafe (Code code) = code < 2 ^ 32

-- the characters that are written for it
abbrev pub look_text : Look → List ℕ
look_text (Plain code) = code ∷ []
look_text (Letter code) = letter_escape code
look_text (Byte byte) = byte_escape byte
look_text (Code code) = code_escape code

-- how a character is written
abbrev pub look_of : ℕ → Look
look_of code =
    if is_shown code then Plain code
    else if code == 10 then Letter 110
    else if code == 13 then Letter 114
    else if code == 9 then Letter 116
    else if nat_lt code 128 then Byte code
    else Code code

-- how a sign is written
abbrev pub look_of_sign : Sign → Look
look_of_sign (character code) = look_of code
look_of_sign (stray byte) = Byte byte

-- the sign is stored like this
pub record IsDrawn (sign : Sign) (drawn : Drawn) : Type 0 where
  pub look_is : drawn.look ≡ look_of_sign sign
  pub size_is : drawn.size ≡ sign_size sign

-- the last sign of some bytes
pub record IsDrawnLast (bytes : List ℕ) (drawn : Drawn) : Type 0 where
  pub sign : Sign
  pub is : IsDrawn sign drawn
  pub last : signs bytes ≡ signs (take (length bytes - drawn.size) bytes) ++ sign ∷ []

-- a sign as it is shown in a line
pub record IsDrawnInLine (sign : Sign) (drawn : Drawn) : Type 0 where
  pub text_is : look_text drawn.look ≡ in_line sign
  pub size_is : drawn.size ≡ sign_size sign
