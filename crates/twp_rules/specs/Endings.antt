-- What the texts that the rules look at, or leave out, begin and end with, in lowercase.
use Rattle.std.specs.Prelude.{ℕ, List, [], ◌∷◌, ◌++◌, codes}
use Rattle.twp_rules.specs.Lists.{texts, words}
use Rattle.twp_rules.specs.Tables.{em_dash, en_dash, half_sign, quarter_sign}

-- what the land is before of which HALF is written
abbrev pub sides : List (List ℕ)
sides = words (codes "n s e w n. s. e. w. north south east west no. so.")

-- what the land is before of which QUARTER is written, or the last word of it
abbrev pub corners : List (List ℕ)
corners = texts (codes "ne|nw|se|sw|e.|w.|east|west| e| w")

-- what scanning leaves of them
abbrev pub worn_sides : List (List ℕ)
worn_sides = words (codes "nortb soutb nortli soutli norlh soulh eaet eaat eust weat weet")
    ++ words (codes "sonth uorth nortn soutn")

abbrev pub worn_corners : List (List ℕ)
worn_corners = words (codes "cast easl easr easf eust eaat eaet wcst wesl wesr wesf vest weat wect wert")

-- what the range of a township ends with, and words for one that was named before
abbrev pub heading_ends : List (List ℕ)
heading_ends = words (codes "e w e. w. east west e) w) township range")

-- the spellings of a half, after white space, if any
abbrev pub half_texts : List (List ℕ)
half_texts = words (codes "2 /2 1/2") ++ half_sign ∷ texts (codes "half|one-half|one half")

-- the spellings of a quarter, after white space, if any
abbrev pub quarter_texts : List (List ℕ)
quarter_texts = texts (codes "|4|/4|1/4") ++ quarter_sign ∷ texts (codes "quarter|one-quarter|one quarter")

-- digits
abbrev pub digits : List (List ℕ)
digits = words (codes "0 1 2 3 4 5 6 7 8 9")

-- what the number of a section ends with, if not with a digit
abbrev pub section_ends : List (List ℕ)
section_ends = words (codes ") one two three four five six seven eight nine ten eleven twelve teen ty")

-- or with a digit that scanning made a letter of, or both
abbrev pub worn_section_ends : List (List ℕ)
worn_section_ends = words (codes "1l 1i 1o 2l 2i 2o 3l 3i 3o")
    ++ texts (codes " ll| li| il| lo| io|.ll|.li|.il|.lo|.io")

-- and the word for one that was named before
abbrev pub section_again : List (List ℕ)
section_again = words (codes "section sec sec.")

-- what a meridian or a county ends with, if not with a digit, or a cell after a state: the word for it, or a
-- meridian's name
abbrev pub meridian_ends : List (List ℕ)
meridian_ends = words (codes "meridian meridan mer mer. m m. county co co. | boise willamette humboldt")
    ++ codes "uintah" ∷ []

-- what a county or a state begins with, if not with its name, after white space
abbrev pub meridian_fronts : List (List ℕ)
meridian_fronts = texts (codes "county of|state of|in the county of")

-- or the word for it, and a colon
abbrev pub meridian_labels : List (List ℕ)
meridian_labels = words (codes "meridian: mer: county: state: st:")

-- the names of states that have public land
abbrev pub states : List (List ℕ)
states = words (codes "idaho wyoming nevada california utah montana oregon colorado mexico arizona dakota")
    ++ words (codes "alaska washington alabama arkansas florida illinois indiana iowa louisiana mississippi")
    ++ words (codes "missouri ohio wisconsin")

-- and more of them, with abbreviations
abbrev pub more_states : List (List ℕ)
more_states = words (codes "nebraska kansas oklahoma minnesota michigan nebr kans okla minn wyo colo mont")
    ++ words (codes "ariz calif nev ala ark fla kan mich oreg wis")

-- and the letters for them
abbrev pub state_letters : List (List ℕ)
state_letters = words (codes "id wy nv ca ut mt co nm az nd sd ak ar fl ia ks mn ok wa")

-- what stated acreage ends with
abbrev pub acreage_ends : List (List ℕ)
acreage_ends = words (codes "acres acre ac acres. ac. less m/l ) pooled total net gross /- acs acs. ]")

-- or begins with, after white space
abbrev pub acreage_fronts : List (List ℕ)
acreage_fronts = texts (codes "acres|acreage|ac|gross|net|total|containing|the area|gr ac|gr. ac|in all")
    ++ texts (codes "case acres|unit acres|lease acres|gis acres|calc acres|legal acres|leased acres")
    ++ texts (codes "parcel acres|assessed acres|deeded acres")

-- what is said of land begins with, if it isn't a remark: rights,
abbrev pub rights : List (List ℕ)
rights = texts (codes "subj|together with")

-- records,
abbrev pub records : List (List ℕ)
records = texts (codes "according|attached to|as shown|in the district")

-- minerals that are kept back,
abbrev pub reservations : List (List ℕ)
reservations = texts (codes "reserving|excepting and|grantor")

-- terms,
abbrev pub terms : List (List ℕ)
terms = texts (codes "insofar|limited|as to")

-- depths,
abbrev pub depths : List (List ℕ)
depths = texts (codes "from the|below|above|down to|all depths")

-- what is at them,
abbrev pub estates : List (List ℕ)
estates = texts (codes "depths|surface|from surf|mineral|oil|only")

-- titles of entries, deeds, and offices, and what is said of water, in which a word that limits land doesn't:
-- what they begin with,
abbrev pub title_fronts : List (List ℕ)
title_fronts = texts (codes "e.o.|w.d.|point of diversion|formerly lease|tax deed|survey type|survey number")
    ++ texts (codes "part of that certain oil|part of that certain lease|part of that certain paid")
    ++ texts (codes "part of that certain memorandum|part of that certain assignment")
    ++ texts (codes "part of the oil and gas lease|s-t-r|w/min|w/o min")
    ++ texts (codes "tax code|tax roll|tax district|tax id|tax acct|tax account|tax year|tax sale")
    ++ texts (codes "tax cert")

-- and what they end with
abbrev pub title_ends : List (List ℕ)
title_ends = texts (codes "u.s|u. s|h.e|h. e|d.l.e|c.e|d.e|placer claim|placer claims|by and between")
    ++ texts (codes "per acre|per ac")

-- or the number of a lease, or of a parcel
abbrev pub number_fronts : List (List ℕ)
number_fronts = words (codes "lease rp pin apn")

-- what an interest begins with,
abbrev pub interest_fronts : List (List ℕ)
interest_fronts = texts (codes "an und|und|one-half|one half|all the right|all right")
    ++ texts (codes "decedent|the decedent|grantor|lessor|seller|his|her|their|our|my|one-third")
    ++ texts (codes "one third|one-fourth|one fourth|one quarter|one-quarter|a one|an one")

-- or a property
abbrev pub property_fronts : List (List ℕ)
property_fronts = texts (codes "all that|that certain|all those|the lands|lands remaining")

-- and acreage that is more or less ends with
abbrev pub less_ends : List (List ℕ)
less_ends = texts (codes "or less|or less)|or less]|or less.")

-- what is in parentheses ends with
abbrev pub parenthesis_ends : List (List ℕ)
parenthesis_ends = words (codes ") ]")

-- land that was named before, without parentheses, begins with, after white space
abbrev pub being_fronts : List (List ℕ)
being_fronts = texts (codes "being|aka|a/|also known as|also described as")

-- what a word for tens ends with, before that for a number from one to nine
abbrev pub tens_ends : List (List ℕ)
tens_ends = texts (codes "-| ")

-- meridians of which only letters are written, and states whose names begin with a side
abbrev pub meridian_letters : List (List ℕ)
meridian_letters =
    texts (codes "w. m.|w.m.|w m|n.m.p.m.|n.m.p.m|n. m. p. m.|s.l.m.|s.l.b.m.|s.l.b.&m.|s.b.m.")
    ++ texts (codes "north dakota|south dakota")
    ++ texts (codes "state of north dakota|state of south dakota")

-- what is after `but` where it begins an exception,
abbrev pub but_what : List (List ℕ)
but_what = words (codes "not excluding except exclusive")

-- or before it
abbrev pub all_but : List (List ℕ)
all_but = texts (codes "all |everything ")

-- what is before a further word of an exception
abbrev pub first_exceptions : List (List ℕ)
first_exceptions = texts (codes "less and |save and |less & |save & |with the |but |less |save |save, ")

-- hyphens and dashes
abbrev pub dash_marks : List (List ℕ)
dash_marks = codes "-" ∷ en_dash ∷ em_dash ∷ []

-- what is before a number that is apart from the land before it
abbrev pub words_apart : List (List ℕ)
words_apart = texts (codes "and |of ")

-- what is before `the` that is not between two steps
abbrev pub before_articles : List (List ℕ)
before_articles = texts (codes "and |of ") ++ (97 ∷ 110 ∷ 100 ∷ 10 ∷ []) ∷ (111 ∷ 102 ∷ 10 ∷ []) ∷ []

-- what is before land that is joined to sections,
abbrev pub land_joints : List (List ℕ)
land_joints = texts (codes "and |and the |& |& the ")

-- and before the number of its own section
abbrev pub section_joints : List (List ℕ)
section_joints = texts (codes "of section |of sec. |of sec |of sections |of secs. |of secs ")
