-- The words and marks that tell what names land, what takes it away or says where it ends, and what a number
-- is of, in lowercase.
use Rattle.std.specs.Prelude.{ℕ, List, [], ◌∷◌, ◌++◌, codes}
use Rattle.twp_rules.specs.Lists.{texts, words}
use Rattle.twp_rules.specs.Tables.{half_sign}

-- the letters for north and south
abbrev pub north_south : List (List ℕ)
north_south = words (codes "n s")

-- and for east and west
abbrev pub east_west : List (List ℕ)
east_west = words (codes "e w")

-- the names of sides
abbrev pub side_names : List (List ℕ)
side_names = words (codes "n s e w north south east west")

-- words that name land: sections, lots, and corners
abbrev pub land_words : List (List ℕ)
land_words = words (codes "sec secs section sections sect sects lot lots lt lts ne nw se sw northeast")
    ++ words (codes "northwest southeast southwest")

-- letters that name land with a number after them, as in L1, T2N, and S14
abbrev pub number_letters : List (List ℕ)
number_letters = words (codes "l gl t r s")

-- what makes a half of a side, but for a 2 without a slash
abbrev pub half_fronts : List (List ℕ)
half_fronts = texts (codes "/2|/ 2|1/2") ++ half_sign ∷ texts (codes "half|one-half|one half")

-- words whose number is not that of a section or a lot
abbrev pub numbered_words : List (List ℕ)
numbered_words = words (codes "tract tr parcel no nos number bk book vol pg page p misc inst instrument doc")
    ++ words (codes "case exhibit item comment allotment owner unit property prop psc lease lse est probate")
    ++ words (codes "permit entry cat idi meridian mer jan january feb february mar march apr april may jun")
    ++ words (codes "june jul july aug august sep sept september oct october nov november dec december row")
    ++ words (codes "mch patent pat cert certificate application contract agreement order list paragraph")
    ++ words (codes "roll code account acct allot report form waste dry irr grz past crop")
    ++ codes "pasture" ∷ []
    ++ words (codes "district dist receipt sheet reel frame image volume ref tab")

-- words for what a number before them counts, and for a meridian
abbrev pub units : List (List ℕ)
units = words (codes "acres acre ac acs a net gross yr yrs year years shares feet foot ft pm p mer bm nmpm")

-- marks after the digits of a code, a share, or a measure
abbrev pub code_marks : List (List ℕ)
code_marks = words (codes "/ % '")

-- marks within a figure
abbrev pub figure_marks : List (List ℕ)
figure_marks = words (codes ". ,")

-- marks within a date, or the name of a well
abbrev pub date_marks : List (List ℕ)
date_marks = codes "-" ∷ []

-- marks before the digits of a code, or of a further number of it
abbrev pub marks_before_codes : List (List ℕ)
marks_before_codes = words (codes "# $ / . -")

-- words for a share, of land or of an interest in it
abbrev pub share_words : List (List ℕ)
share_words = words (codes "half halves quarter quarters")

-- words for sides and corners
abbrev pub side_words : List (List ℕ)
side_words = words (codes "n s e w north south east west northeast northwest southeast southwest corner cor")

-- words that take land away
abbrev pub taking_words : List (List ℕ)
taking_words = words (codes "except excepting exception exceptions excepted excluding excludes excluded")
    ++ words (codes "exclusive ex less save but not without")

-- and more of them
abbrev pub more_taking_words : List (List ℕ)
more_taking_words = words (codes "minus omitted deleted void cancelled withdrawn surrendered relinquished")
    ++ words (codes "remaining balance former formerly")

-- words for a part of land that is no aliquot part
abbrev pub portion_words : List (List ℕ)
portion_words = words (codes "portion portions part parts por pt ptn strip block blk claim claims lode tax")
    ++ codes "survey" ∷ []

-- words that tell where land ends
abbrev pub bound_words : List (List ℕ)
bound_words = words (codes "beginning thence lying bounded within outside inside along across between above")
    ++ words (codes "below adjacent adjoining")

-- and measures
abbrev pub measure_words : List (List ℕ)
measure_words = words (codes "feet foot ft rod rods chain chains centerline line point")

-- words that a phrase on rights may contain that take land away from nobody: a record or a plat
abbrev pub record_limits : List (List ℕ)
record_limits = words (codes "survey part")

-- the word by which minerals are kept back
abbrev pub reserving_words : List (List ℕ)
reserving_words = codes "excepting" ∷ []

-- what a phrase on depths may say
abbrev pub depth_limits : List (List ℕ)
depth_limits = words (codes "below above between within feet foot ft")

-- what somebody may have in land besides an interest
abbrev pub claim_words : List (List ℕ)
claim_words = words (codes "claim claims")

-- what is left of a lease
abbrev pub lease_limits : List (List ℕ)
lease_limits = codes "remaining" ∷ []

-- acreage is more or less
abbrev pub acreage_limits : List (List ℕ)
acreage_limits = codes "less" ∷ []

-- words for minerals, and for what is due for them
abbrev pub mineral_words : List (List ℕ)
mineral_words = words (codes "oil gas mineral minerals coal hydrocarbons royalty geothermal")

-- words for depths, and for what is at them
abbrev pub depth_words : List (List ℕ)
depth_words = words (codes "depth depths surface subsurface formation formations base stratigraphic feet ft")
    ++ codes "rights" ∷ []

-- the names of columns
abbrev pub column_words : List (List ℕ)
column_words = words (codes "mer meridian twp township t rng range r sec section stype type nr no suff")
    ++ words (codes "survey subdivision legal desc description aliquot aliquots lots acres ac gross net")
    ++ words (codes "district field office county state st mgmt agency tract school")
    ++ words (codes "rge rg tp twn name remarks notes grantor grantee date book page inst status parcel pin")
    ++ words (codes "id use value mi int interest tr qq qqsec qsec instrument acreage owner")
    ++ words (codes "line code action act remark")
    ++ words (codes "styp snr aliq lot q qtr trs str mtrs lease lessor lessee rec recorded instr bk pg")
    ++ words (codes "doc file case serial acct account cnty nma royalty exp term record")

-- the words of a section that is written elsewhere, or that was named before
abbrev pub moved_section_words : List (List ℕ)
moved_section_words =
    words (codes "sec secs section sections sect sects s sn scc sce seo see ec ection secton")
    ++ words
    (codes "sectlon sectoin seciton sectiou seclion seotion sectior tion numbered no nos said same all")
    ++ words (codes "both fractional in of the and to thru through")
    ++ words (codes "scction seetion secfion sectian sectien soction")

-- the words of a township and range that are
abbrev pub moved_heading_words : List (List ℕ)
moved_heading_words = words (codes "t tp twp twsp township r rg rge rng range n nr s e w north south east")
    ++ words (codes "west said same all in of the and numbered no")
    ++ words (codes "twn townsbip townsliip towuship townahip townshlp townehip tewnship twonship")
    ++ words (codes "twnship rauge rangc ronge")
    ++ words (codes "situated situate located")

-- the words of a number, and letters that scanning makes of digits
abbrev pub number_words : List (List ℕ)
number_words = words (codes "one two three four five six seven eight nine ten eleven twelve thirteen")
    ++ words (codes "fourteen fifteen sixteen seventeen eighteen nineteen twenty thirty l i o")
    ++ words (codes "ll li il lo io")

-- the words of numbers from one to nine, which follow those for tens
abbrev pub one_to_nine : List (List ℕ)
one_to_nine = words (codes "one two three four five six seven eight nine")

-- words of an exception that another one begins
abbrev pub further_exceptions : List (List ℕ)
further_exceptions = words (codes "except excepting not exception with")

-- words with which land begins
abbrev pub first_words : List (List ℕ)
first_words = words (codes "n s e w north south east west northeast northwest southeast southwest lot lots")
    ++ words (codes "lt lts l gl all the entire whole aliq aliquot")

-- marks between cells
abbrev pub cell_marks : List (List ℕ)
cell_marks = codes "|" ∷ (9 ∷ []) ∷ []

-- the words for a section, with slips, that of a register, and the names of its column in maps of the survey
abbrev pub section_names : List (List ℕ)
section_names =
    words (codes "sec secs sect sects section sections scc sce seo see ec ection sn secton sectlon")
    ++ words (codes "sectoin seciton sectiou seclion seotion sectior tion frstdivno frstdivlab")
    ++ words (codes "scction seetion secfion sectian sectien soction")

-- the words between the numbers of a list of sections, or before them
abbrev pub list_words : List (List ℕ)
list_words = words (codes "and or thru through to numbered no nos inclusive incl all entire being both each")
    ++ codes "the" ∷ []

-- marks between the letter of a section and its number
abbrev pub letter_marks : List (List ℕ)
letter_marks = words (codes ". :")

-- marks between a section and its township
abbrev pub location_marks : List (List ℕ)
location_marks = words (codes ", . - | /")

-- words before the number of a township
abbrev pub township_words : List (List ℕ)
township_words = words (codes "in t tp twp township")

-- the words for north and south, and for east and west
abbrev pub north_words : List (List ℕ)
north_words = words (codes "n north nr")

abbrev pub south_words : List (List ℕ)
south_words = words (codes "s south sr")

abbrev pub east_words : List (List ℕ)
east_words = words (codes "e east")

abbrev pub west_words : List (List ℕ)
west_words = words (codes "w west")

-- marks that set a number apart from the land before it
abbrev pub apart_marks : List (List ℕ)
apart_marks = words (codes ", ; : . | ( ) - & +") ++ (34 ∷ []) ∷ []

-- marks between a section and its land
abbrev pub before_land_marks : List (List ℕ)
before_land_marks = words (codes ": - | (") ++ (9 ∷ []) ∷ []

-- letters that scanning makes of digits
abbrev pub damaged_digits : List (List ℕ)
damaged_digits = words (codes "l i o")

-- the words in a part, between its steps, and marks that don't part them
abbrev pub words_in_parts : List (List ℕ)
words_in_parts = codes "of" ∷ (92 ∷ []) ∷ codes "/" ∷ []

-- words for numbers
abbrev pub numeral_words : List (List ℕ)
numeral_words = words (codes "one two three four five six seven eight nine ten eleven twelve thirteen")
    ++ words (codes "fourteen fifteen sixteen seventeen eighteen nineteen twenty thirty ll li il lo io")

-- the words before the number of a township, as descriptions have them, and of a range
abbrev pub tier_words : List (List ℕ)
tier_words = codes "t" ∷ []

abbrev pub range_words : List (List ℕ)
range_words = codes "r" ∷ []
