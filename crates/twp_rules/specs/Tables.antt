-- The tables of the rules by which a text that people write is changed into a description: what each looks
-- at, in lowercase, and what it writes instead.
use Rattle.std.specs.Prelude.{ℕ, List, [], ◌∷◌, ◌++◌, codes}
use Rattle.twp_rules.specs.Lists.{after, before, texts, words}

-- a text that a rule looks at, and what it writes instead
pub record Entry : Type 0 where
  pub seen : List ℕ
  pub written : List ℕ

infix 5 ◌⇒◌
-- this is written for that
abbrev pub ◌⇒◌ : List ℕ → List ℕ → Entry
seen ⇒ written = record { seen = seen; written = written }

-- this is left out
abbrev pub left_out : List ℕ → Entry
left_out seen = seen ⇒ []

-- each of these is
abbrev pub all_left_out : List (List ℕ) → List Entry
all_left_out [] = []
all_left_out (seen ∷ more) = left_out seen ∷ all_left_out more

-- the same is written for each of these
abbrev pub all_as : List (List ℕ) → List ℕ → List Entry
all_as [] written = []
all_as (seen ∷ more) written = (seen ⇒ written) ∷ all_as more written

-- what is after the `=` of each of these is written for what is before it
abbrev pub pairs : List (List ℕ) → List Entry
pairs [] = []
pairs (text ∷ texts) = (before 61 text ⇒ after 61 text) ∷ pairs texts

-- marks of more than one byte: ’ £ “ ” – —
abbrev pub right_quote : List ℕ
right_quote = 226 ∷ 128 ∷ 153 ∷ []

abbrev pub pound_sign : List ℕ
pound_sign = 194 ∷ 163 ∷ []

abbrev pub opening_quotes : List ℕ
opening_quotes = 226 ∷ 128 ∷ 156 ∷ []

abbrev pub closing_quotes : List ℕ
closing_quotes = 226 ∷ 128 ∷ 157 ∷ []

abbrev pub en_dash : List ℕ
en_dash = 226 ∷ 128 ∷ 147 ∷ []

abbrev pub em_dash : List ℕ
em_dash = 226 ∷ 128 ∷ 148 ∷ []

-- •
abbrev pub bullet : List ℕ
bullet = 226 ∷ 128 ∷ 162 ∷ []

-- a slash for fractions: ⁄
abbrev pub fraction_slash : List ℕ
fraction_slash = 226 ∷ 129 ∷ 132 ∷ []

-- ½ ¼ ¹ ₂ ₄ §
abbrev pub half_sign : List ℕ
half_sign = 194 ∷ 189 ∷ []

abbrev pub quarter_sign : List ℕ
quarter_sign = 194 ∷ 188 ∷ []

abbrev pub raised_one : List ℕ
raised_one = 194 ∷ 185 ∷ []

abbrev pub lowered_two : List ℕ
lowered_two = 226 ∷ 130 ∷ 130 ∷ []

abbrev pub lowered_four : List ℕ
lowered_four = 226 ∷ 130 ∷ 132 ∷ []

abbrev pub section_sign : List ℕ
section_sign = 194 ∷ 167 ∷ []

-- HALF: after N, S, E, or W, and white space, if any
abbrev pub halves : List Entry
halves = all_as (texts (codes "2|/2|half|one-half|one half")) (codes "1/2")
    ++ all_as ((49 ∷ fraction_slash ++ 50 ∷ []) ∷ texts (codes "/ 2|1-2|h.")) (codes "1/2")
    ++ all_as ((raised_one ++ fraction_slash ++ lowered_two) ∷ []) (codes "1/2")

-- and what scanning, or a slip of the pen, leaves of a half
abbrev pub worn_halves : List Entry
worn_halves = all_as (words (codes "l/2 i/2 '/2") ++ (right_quote ++ codes "/2") ∷ []) (codes "1/2")
    ++ all_as
    (words (codes "]/2 !/2 |/2 1/ 2/2 1/z v2 y2 % } 112") ++ pound_sign ∷ (195 ∷ 130 ∷ half_sign) ∷ [])
    (codes "1/2")
    ++ all_as (words (codes "haif balf lialf hali hulf holf hall")) (codes "1/2")

-- QUARTER: after NE, NW, SW, or SE, and white space, if any
abbrev pub quarters : List Entry
quarters = all_as (texts (codes "|4|/4|quarter|one-quarter|one quarter")) (codes "1/4")
    ++ all_as ((49 ∷ fraction_slash ++ 52 ∷ []) ∷ texts (codes "/ 4|1-4")) (codes "1/4")
    ++ all_as ((raised_one ++ fraction_slash ++ lowered_four) ∷ []) (codes "1/4")

-- and what scanning, or a slip of the pen, leaves of a quarter
abbrev pub worn_quarters : List Entry
worn_quarters = all_as (words (codes "^ l/4 i/4 '/4") ++ (right_quote ++ codes "/4") ∷ []) (codes "1/4")
    ++ all_as (words (codes "]/4 !/4 |/4 1/ v4 y4 % quater i a 1a } 114") ++ pound_sign ∷ []) (codes "1/4")
    ++ all_as ((codes "quar-" ++ 10 ∷ codes "ter") ∷ (195 ∷ 130 ∷ quarter_sign) ∷ []) (codes "1/4")
    ++ all_as (words (codes "'a !4 ^4 j")) (codes "1/4")
    ++ all_as (words (codes "quaiter qnarter quartcr quarier quarler quartor quartet")) (codes "1/4")
    ++ all_as (words (codes "quarteb quartev quaitei quarfer quartar qunrter guarter")) (codes "1/4")
    ++ all_as (words (codes "quorter")) (codes "1/4")

-- or abbreviated
abbrev pub quarter_abbreviations : List Entry
quarter_abbreviations = all_as (words (codes "qr. . qtr qtr. quar quar.")) (codes "1/4")

-- DAMAGE: letters that scanning makes of digits, and digits of letters
abbrev pub damages : List Entry
damages = pairs (words (codes "l=1 i=1 o=0 ll=11 li=11 il=11 lo=10 io=10"))

abbrev pub damaged_corners : List Entry
damaged_corners = all_as (words (codes "5 8")) (codes "S")

-- EXCEPTION: the words before what the land is without
abbrev pub exceptions : List Entry
exceptions = all_as (words (codes "less except excepting excluding save exc exclusive")) (codes " except ")
    ++ all_as (words (codes "l&e minus but with ex ls excl")) (codes " except ")
    ++ all_as (words (codes "l/e")) (codes " except ")

-- DIRECTION: words for sides and corners
abbrev pub directions : List Entry
directions = pairs (words (codes "north=N south=S east=E west=W northeast=NE northwest=NW southeast=SE"))
    ++ pairs
    (texts (codes "southwest=SW|north east=NE|north west=NW|south east=SE|south west=SW|no.=N|so.=S"))

-- and such words with a letter missing, or two letters in each other's place
abbrev pub worn_directions : List Entry
worn_directions = all_as (words (codes "nothwest norhwest nortwest northwset")) (codes "NW")
    ++ all_as (words (codes "notheast norhteast norteast northeat")) (codes "NE")
    ++ all_as (words (codes "sothwest souhwest soutwest")) (codes "SW")
    ++ all_as (words (codes "sotheast souhteast souteast")) (codes "SE")
    ++ all_as (words (codes "nortbeast nortlieast northcast norlheast northeasl norrheast")) (codes "NE")
    ++ all_as (words (codes "northeasr norfheast northeasf northeust northeaat noitheast")) (codes "NE")
    ++ all_as (words (codes "novtheast nertheast ncrtheast uortheast mortheast nortneast")) (codes "NE")
    ++ all_as (words (codes "northeaet")) (codes "NE")
    ++ all_as (words (codes "nortbwest nortliwest northwcst norlhwest northwesl norrhwest")) (codes "NW")
    ++ all_as (words (codes "northwesr norfhwest northwesf northweat noithwest novthwest")) (codes "NW")
    ++ all_as (words (codes "nerthwest ncrthwest northvest uorthwest morthwest nortnwest")) (codes "NW")
    ++ all_as (words (codes "nertlwest northwert northwect")) (codes "NW")
    ++ all_as (words (codes "soutbeast soutlieast southcast soulheast southeasl sourheast")) (codes "SE")
    ++ all_as (words (codes "southeasr soufheast southeasf southeust aoutheast southeaat")) (codes "SE")
    ++ all_as (words (codes "sontheast seutheast scutheast soutneast southeaet")) (codes "SE")
    ++ all_as (words (codes "soutbwest soutliwest southwcst soulhwest southwesl sourhwest")) (codes "SW")
    ++ all_as (words (codes "southwesr soufhwest southwesf aouthwest southweat sonthwest")) (codes "SW")
    ++ all_as (words (codes "seuthwest scuthwest southvest soutnwest")) (codes "SW")
    ++ pairs (words (codes "nortb=N nortli=N norlh=N soutb=S soutli=S soulh=S eaet=E eaat=E eust=E"))
    ++ pairs (words (codes "weat=W weet=W"))
    ++ pairs (words (codes "sonth=S uorth=N nortn=N soutn=S"))

-- NUMERAL: words for numbers up to twelve
abbrev pub numerals : List Entry
numerals = pairs (words (codes "one=1 two=2 three=3 four=4 five=5 six=6 seven=7 eight=8 nine=9 ten=10"))
    ++ pairs (words (codes "eleven=11 twelve=12"))

-- and from thirteen on, and for tens
abbrev pub more_numerals : List Entry
more_numerals = pairs (words (codes "thirteen=13 fourteen=14 fifteen=15 sixteen=16 seventeen=17 eighteen=18"))
    ++ pairs (texts (codes "nineteen=19|twenty=20|thirty=30|twenty-=2|thirty-=3|twenty =2|thirty =3"))

-- HEADING: the letters of a township and range, where they are missing
abbrev pub headings : List Entry
headings = pairs (texts (codes "=T. |= R. |=R. |= |= N., R. |= S., R. |= E., |= W., "))

-- and the words for them
abbrev pub heading_words : List Entry
heading_words = all_as (words (codes "township twp tp twsp")) (codes "T.")
    ++ all_as (words (codes "range rng rge rg")) (codes "R.")
    ++ pairs (texts (codes "in=|of=|0sn=, sec. |a=|numbered=|aliquot part:=|aliquot part=|twn=T.|no.="))
    ++ all_as (words (codes "townsbip townsliip towuship townahip townshlp townehip")) (codes "T.")
    ++ all_as (words (codes "tewnship twonship twnship")) (codes "T.")
    ++ all_as (words (codes "rauge rangc ronge")) (codes "R.")
    ++ all_left_out (words (codes "situated situate located"))

-- and the marks in them
abbrev pub heading_marks : List Entry
heading_marks = all_left_out (words (codes ". , :")) ++ all_as (words (codes "- / | ;")) (codes " ")

-- SECTION: the word for a section or for several, which may be missing
abbrev pub section_words : List Entry
section_words = pairs (texts (codes "=sec. |=secs. |s=sec. |sect=sec"))
    ++ all_as (words (codes "sect sects sec section")) (codes "secs") ++ pairs (codes ",=." ∷ [])
    ++ (section_sign ⇒ codes "sec") ∷ (section_sign ⇒ codes "secs") ∷ []

-- and what a slip of the pen, or scanning, leaves of them
abbrev pub worn_section_words : List Entry
worn_section_words =
    all_as (words (codes "scc sce seo see secton sectlon sectoin seciton sectiou seclion seotion sectior"))
    (codes "sec") ++ all_as ((codes "sec-" ++ 10 ∷ codes "tion") ∷ []) (codes "sec")
    ++ all_as (words (codes "scction seetion secfion sectian sectien soction")) (codes "sec")

-- LOT: the words for lots
abbrev pub lot_words : List Entry
lot_words = pairs (texts (codes "l=lot |lt=lot |lts=lots "))
    ++ all_left_out (words (codes "government govt gov t u s the numbered no nos"))
    ++ pairs (codes "gl=lot " ∷ []) ++ all_left_out (codes "trct" ∷ [])

-- and what scanning leaves of them
abbrev pub worn_lot_words : List Entry
worn_lot_words = pairs (words (codes "iot=lot iots=lots"))

-- and marks in them
abbrev pub lot_marks : List Entry
lot_marks = all_left_out (codes "'" ∷ right_quote ∷ words (codes ". # :"))

-- THROUGH: between numbers
abbrev pub dashes : List Entry
dashes = all_as (codes "-" ∷ en_dash ∷ em_dash ∷ []) (codes " thru ")

-- AND: an ampersand
abbrev pub ampersands : List Entry
ampersands = pairs (texts (codes "&= and |&=and"))

-- COMMA: between the parts of a section, before them, and after a heading
abbrev pub commas : List Entry
commas = pairs (codes "=, " ∷ [])
    ++ all_as (texts (codes "|;|:|.|&|-") ++ en_dash ∷ em_dash ∷ words (codes "| + plus")) (codes ",")

-- SEMICOLON: between one section, with its parts, and another
abbrev pub semicolons : List Entry
semicolons = pairs (codes "=; " ∷ [])
    ++ all_as (texts (codes "|,|.|&|-|:") ++ words (codes "| + /")) (codes ";")

-- MARK: a mark that means nothing is left out
abbrev pub marks : List Entry
marks = all_left_out (words (codes ", ; : . -") ++ en_dash ∷ em_dash ∷ codes "&" ∷ (34 ∷ []) ∷ [])
    ++ all_left_out (opening_quotes ∷ closing_quotes ∷ (92 ∷ []) ∷ codes "#" ∷ words (codes "= { }"))

-- and parentheses around land, and marks between cells
abbrev pub more_marks : List Entry
more_marks = all_left_out (words (codes "( ) | + / *") ++ bullet ∷ [])

-- WORD: a word that means nothing is left out
abbrev pub little_words : List Entry
little_words = all_left_out (words (codes "the of in and said all entire section"))
    ++ all_as (words (codes "entire whole entirety")) (codes "all")

abbrev pub more_little_words : List Entry
more_little_words = all_left_out (words (codes "public domain federal land lands fractional thereof except"))
    ++ all_left_out (words (codes "excepting for therefrom & fr. frl frl. frac. fract fract. fractl fractl."))
    ++ all_left_out (words (codes "tbe tlie tne tho"))

abbrev pub joining_words : List Entry
joining_words =
    all_left_out (words (codes "also together with not exception inclusive incl both numbered no."))
    ++ pairs (codes "everything=all" ∷ [])

-- ZEROS: before the other digits of a number
abbrev pub zeros : List Entry
zeros = all_left_out (words (codes "0 00 000"))

-- FRACTION DIGIT: registers write a 0 after the number of a township or a range
abbrev pub fraction_digits : List Entry
fraction_digits = left_out (codes "0") ∷ []

-- ONE PART: white space within a part is left out, and a hyphen at the end of a line
abbrev pub joints : List Entry
joints = all_left_out (codes " " ∷ (9 ∷ []) ∷ (10 ∷ []) ∷ (13 ∷ []) ∷ words (codes ". -"))
