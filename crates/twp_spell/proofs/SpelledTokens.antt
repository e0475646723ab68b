-- The canonical text as a derivation whose tokens have no places yet: a heading, and a group for
-- each section with all, or with lots and aliquot parts. Each byte of the text comes from it.
use Rattle.std.proofs.Common.{◌≡◌, ℕ, List, [], ◌∷◌, ◌++◌, map, codes, decimal, refl, sym, ap, ◌∙◌, inl, inr}
use Rattle.std.proofs.Common.{append_assoc}
use Rattle.std.specs.List.{flat_map}
use Rattle.twp_grid.specs.Townships.{Designation}
use Rattle.twp_grid.specs.declared.township.NorthSouth.TheVariants as ns
use Rattle.twp_grid.specs.declared.township.EastWest.TheVariants as ew
use Rattle.twp_grid.specs.declared.block.Side.TheVariants.{N, S, E, W}
use Rattle.twp_grid.specs.declared.block.Corner.TheVariants.{NE, NW, SW, SE}
use Rattle.twp_grammar.specs.declared.item.Step.{Step}
use Rattle.twp_grammar.specs.declared.item.Step.TheVariants.{Half, Quarter}
use Rattle.twp_grammar.specs.Grammar.{sec, lot, all, t, r, north_south, east_west, corner, half, quarter}
use Rattle.twp_grammar.specs.Grammar.{number, comma, semicolon, stop, Ebnf, ◌⨾◌, one, many, maybe, and, step}
use Rattle.twp_grammar.specs.Grammar.{of, the, entry, separator, part, group, heading, description}
use Rattle.twp_grammar.specs.Items.{◌&◌}
use Rattle.twp_spell.specs.CanonicalText.{step_text, with_commas, north_south_letter, east_west_letter}
use Rattle.twp_spell.specs.CanonicalText.{line_end, heading_line, land_lines}
use Rattle.twp_spell.proofs.Lexemes.{mark, Draft, bytes_each, bytes}

-- an entry of a section's list: all of the section, some lots, or an aliquot part, smallest step first
pub data ListEntry : Type 0 where
  all_entry : ListEntry
  lot_entry : ℕ → List ℕ → ListEntry
  part_entry : Step → List Step → ListEntry

-- a section and the entries of its list
pub record SectionLine : Type 0 where
  pub section : ℕ
  pub first : ListEntry
  pub more : List ListEntry

-- the text of lots, after the word that names them
abbrev pub lots_text : ℕ → List ℕ → List ℕ
lots_text n [] = codes "lot " ++ decimal n
lots_text n (m ∷ ns) = codes "lots " ++ with_commas (map decimal (n ∷ m ∷ ns))

abbrev pub entry_text : ListEntry → List ℕ
entry_text all_entry = codes "all"
entry_text (lot_entry n ns) = lots_text n ns
entry_text (part_entry s ss) = flat_map step_text (s ∷ ss)

abbrev pub line_text : SectionLine → List ℕ
line_text line =
    codes "sec. " ++ decimal line.section ++ codes ", "
    ++ with_commas (map entry_text (line.first ∷ line.more))

abbrev pub space : List ℕ
space = 32 ∷ []

abbrev a_stop_mark : Draft (one stop)
a_stop_mark = mark stop tt [] (codes ".")

abbrev a_comma_mark : Draft (one comma)
a_comma_mark = mark comma tt [] (codes ",")

abbrev pub number_mark : ℕ → Draft (one number)
number_mark n = mark number n space (decimal n)

-- the steps of an aliquot part
abbrev pub step_draft : List ℕ → Step → Draft step
step_draft front (Half N) =
    inl (inl (mark north_south ns.N front (codes "N")) & mark half tt [] (codes "1/2"))
step_draft front (Half S) =
    inl (inl (mark north_south ns.S front (codes "S")) & mark half tt [] (codes "1/2"))
step_draft front (Half E) = inl (inr (mark east_west ew.E front (codes "E")) & mark half tt [] (codes "1/2"))
step_draft front (Half W) = inl (inr (mark east_west ew.W front (codes "W")) & mark half tt [] (codes "1/2"))
step_draft front (Quarter NE) = inr (mark corner NE front (codes "NE") & mark quarter tt [] (codes "1/4"))
step_draft front (Quarter NW) = inr (mark corner NW front (codes "NW") & mark quarter tt [] (codes "1/4"))
step_draft front (Quarter SW) = inr (mark corner SW front (codes "SW") & mark quarter tt [] (codes "1/4"))
step_draft front (Quarter SE) = inr (mark corner SE front (codes "SE") & mark quarter tt [] (codes "1/4"))

abbrev pub further_step_grammar : Ebnf
further_step_grammar = maybe (one of ⨾ maybe (one the)) ⨾ step

abbrev pub further_step : Step → Draft further_step_grammar
further_step s = inr tt & step_draft [] s

-- lots: a number, and more after commas
abbrev pub number_entry : ℕ → Draft entry
number_entry n = number_mark n & inr tt

abbrev pub further_number : ℕ → Draft (separator ⨾ entry)
further_number n = inl (a_comma_mark & inr tt) & number_entry n

abbrev pub lots_word : List ℕ → List ℕ
lots_word [] = codes "lot"
lots_word (m ∷ ns) = codes "lots"

abbrev pub entry_draft : ListEntry → Draft part
entry_draft all_entry = inr (inr (mark all tt space (codes "all")))
entry_draft (lot_entry n ns) = inl (mark lot tt space (lots_word ns) & number_entry n & map further_number ns)
entry_draft (part_entry s ss) = inr (inl (step_draft space s & map further_step ss))

abbrev pub further_entry : ListEntry → Draft (separator ⨾ part)
further_entry e = inl (a_comma_mark & inr tt) & entry_draft e

-- a section and its list
abbrev pub line_draft : SectionLine → Draft group
line_draft line =
    inl (mark sec tt line_end (codes "sec") & inl a_stop_mark & number_mark line.section
    & inl (inl (inl a_comma_mark) & entry_draft line.first & map further_entry line.more))

abbrev pub further_line_grammar : Ebnf
further_line_grammar = one semicolon ⨾ maybe (one and) ⨾ group

abbrev pub further_line : SectionLine → Draft further_line_grammar
further_line line = mark semicolon tt [] (codes ";") & inr tt & line_draft line

abbrev pub heading_draft : Designation → Draft heading
heading_draft township =
    mark t tt [] (codes "T") & inl a_stop_mark & number_mark township.number
    & mark north_south township.north_south space (north_south_letter township.north_south) & inl a_stop_mark
    & inl a_comma_mark
    & mark r tt space (codes "R") & inl a_stop_mark & number_mark township.range
    & mark east_west township.east_west space (east_west_letter township.east_west) & inl a_stop_mark & inl
    a_comma_mark

abbrev pub land_draft : Designation → SectionLine → List SectionLine → Draft description
land_draft township first more =
    inl (heading_draft township) & line_draft first & map further_line more & inl a_stop_mark

-- the bytes of a list of drafts
bytes_list : {X A : Type 0} (f : A → List ℕ → List ℕ) (draft : X → A) (spelled : List ℕ → List ℕ)
    (text : X → List ℕ)
    → ((x : X) (rest : List ℕ) → f (draft x) rest ≡ spelled (text x) ++ rest)
    → (xs : List X) (rest : List ℕ)
    → bytes_each f (map draft xs) rest ≡ flat_map spelled (map text xs) ++ rest
bytes_list f draft spelled text each [] rest = refl
bytes_list f draft spelled text each (x ∷ xs) rest =
    each x (bytes_each f (map draft xs) rest)
    ∙ ap (λ us. spelled (text x) ++ us) (bytes_list f draft spelled text each xs rest)
    ∙ sym (append_assoc (spelled (text x)) (flat_map spelled (map text xs)) rest)

bytes_step : (front : List ℕ) (s : Step) (rest : List ℕ)
    → bytes step (step_draft front s) rest ≡ front ++ (step_text s ++ rest)
bytes_step front (Half N) rest = refl
bytes_step front (Half S) rest = refl
bytes_step front (Half E) rest = refl
bytes_step front (Half W) rest = refl
bytes_step front (Quarter NE) rest = refl
bytes_step front (Quarter NW) rest = refl
bytes_step front (Quarter SW) rest = refl
bytes_step front (Quarter SE) rest = refl

bytes_steps : (ss : List Step) (rest : List ℕ)
    → bytes (many further_step_grammar) (map further_step ss) rest ≡ flat_map step_text ss ++ rest
bytes_steps [] rest = refl
bytes_steps (s ∷ ss) rest =
    bytes_step [] s (bytes (many further_step_grammar) (map further_step ss) rest)
    ∙ ap (λ us. step_text s ++ us) (bytes_steps ss rest)
    ∙ sym (append_assoc (step_text s) (flat_map step_text ss) rest)

bytes_numbers : (ns : List ℕ) (rest : List ℕ)
    → bytes (many (separator ⨾ entry)) (map further_number ns) rest
    ≡ flat_map (λ y. codes ", " ++ y) (map decimal ns) ++ rest
bytes_numbers ns rest =
    bytes_list (λ v us. bytes (separator ⨾ entry) v us) further_number (λ y. codes ", " ++ y) decimal
    (λ n us. refl) ns rest

pub bytes_entry : (e : ListEntry) (rest : List ℕ)
    → bytes part (entry_draft e) rest ≡ space ++ (entry_text e ++ rest)
bytes_entry all_entry rest = refl
bytes_entry (lot_entry n []) rest = refl
bytes_entry (lot_entry n (m ∷ ns)) rest =
    ap (λ us. space ++ (codes "lots " ++ (decimal n ++ us))) (bytes_numbers (m ∷ ns) rest)
    ∙ ap (λ us. space ++ (codes "lots " ++ us))
    (sym (append_assoc (decimal n) (flat_map (λ y. codes ", " ++ y) (map decimal (m ∷ ns))) rest))
bytes_entry (part_entry s ss) rest =
    bytes_step space s (bytes (many further_step_grammar) (map further_step ss) rest)
    ∙ ap (λ us. space ++ (step_text s ++ us)) (bytes_steps ss rest)
    ∙ ap (λ us. space ++ us) (sym (append_assoc (step_text s) (flat_map step_text ss) rest))

bytes_entries : (es : List ListEntry) (rest : List ℕ)
    → bytes (many (separator ⨾ part)) (map further_entry es) rest
    ≡ flat_map (λ y. codes ", " ++ y) (map entry_text es) ++ rest
bytes_entries es rest =
    bytes_list (λ v us. bytes (separator ⨾ part) v us) further_entry (λ y. codes ", " ++ y) entry_text
    (λ e us. ap (λ us. codes "," ++ us) (bytes_entry e us)) es rest

-- four texts, one after the other
four_texts : (a b c d rest : List ℕ) → a ++ b ++ c ++ d ++ rest ≡ a ++ (b ++ (c ++ (d ++ rest)))
four_texts a b c d rest =
    append_assoc (a ++ b ++ c) d rest
    ∙ append_assoc (a ++ b) c (d ++ rest)
    ∙ append_assoc a b (c ++ (d ++ rest))

pub bytes_line : (line : SectionLine) (rest : List ℕ)
    → bytes group (line_draft line) rest ≡ line_end ++ (line_text line ++ rest)
bytes_line line rest =
    let first = entry_text line.first in
    let others = flat_map (λ y. codes ", " ++ y) (map entry_text line.more) in
    ap (λ us. line_end ++ (codes "sec. " ++ (decimal line.section ++ (codes "," ++ us))))
    (bytes_entry line.first (bytes (many (separator ⨾ part)) (map further_entry line.more) rest)
    ∙ ap (λ us. space ++ (first ++ us)) (bytes_entries line.more rest)
    ∙ ap (λ us. space ++ us) (sym (append_assoc first others rest)))
    ∙ ap (λ us. line_end ++ us)
    (sym (four_texts (codes "sec. ") (decimal line.section) (codes ", ") (first ++ others) rest))

bytes_lines : (lines : List SectionLine) (rest : List ℕ)
    → bytes (many further_line_grammar) (map further_line lines) rest
    ≡ flat_map (λ y. codes ";" ++ line_end ++ y) (map line_text lines) ++ rest
bytes_lines lines rest =
    bytes_list (λ v us. bytes further_line_grammar v us) further_line (λ y. codes ";" ++ line_end ++ y)
    line_text (λ line us. ap (λ us. codes ";" ++ us) (bytes_line line us)) lines rest

bytes_heading : (township : Designation) (rest : List ℕ)
    → bytes heading (heading_draft township) (line_end ++ rest) ≡ heading_line township ++ rest
bytes_heading township rest =
    let number = decimal township.number in
    let side = north_south_letter township.north_south in
    let range = decimal township.range in
    let way = east_west_letter township.east_west in
    sym
    (append_assoc
    (codes "T. " ++ number ++ space ++ side ++ codes "., R. " ++ range ++ space ++ way ++ codes ".,") line_end
    rest
    ∙ append_assoc (codes "T. " ++ number ++ space ++ side ++ codes "., R. " ++ range ++ space ++ way)
    (codes ".,") (line_end ++ rest)
    ∙ four_texts (codes "T. " ++ number ++ space ++ side ++ codes "., R. ") range space way
    (codes ".," ++ (line_end ++ rest))
    ∙ append_assoc (codes "T. " ++ number ++ space ++ side) (codes "., R. ")
    (range ++ (space ++ (way ++ (codes ".," ++ (line_end ++ rest)))))
    ∙ four_texts (codes "T. ") number space side
    (codes "., R. " ++ (range ++ (space ++ (way ++ (codes ".," ++ (line_end ++ rest)))))))

-- the bytes of the whole are those of the lines
pub bytes_land : (township : Designation) (first : SectionLine) (more : List SectionLine)
    → bytes description (land_draft township first more) line_end
    ≡ land_lines township (map line_text (first ∷ more))
bytes_land township first more =
    let others = flat_map (λ y. codes ";" ++ line_end ++ y) (map line_text more) in
    let stopped = codes "." ++ line_end in
    ap (λ us. bytes heading (heading_draft township) us)
    (bytes_line first (bytes (many further_line_grammar) (map further_line more) stopped)
    ∙ ap (λ us. line_end ++ (line_text first ++ us)) (bytes_lines more stopped)
    ∙ ap (λ us. line_end ++ us) (sym (append_assoc (line_text first) others stopped)))
    ∙ bytes_heading township (line_text first ++ others ++ stopped)
    ∙ sym (append_assoc (heading_line township ++ (line_text first ++ others)) (codes ".") line_end
    ∙ append_assoc (heading_line township) (line_text first ++ others) stopped)
