-- A tally that grows by one tract.
use Rattle.std.proofs.Common.{◌≡◌, ℕ, ◌+◌, ◌≤◌, false, List, [], ◌∷◌, ◌++◌}
use Rattle.std.proofs.Common.{length, get_or, ap, refl, sym, ◌∙◌, inl, inr, subst, arith}
use Rattle.std.proofs.Common.{append_assoc, append-nil}
use Rattle.std.proofs.lemmas.List.{length_push}
use Rattle.std.proofs.lemmas.Grind.{flat_map-append}
use Rattle.std.proofs.Math.ListN.{get_or-append}
use Rattle.std.proofs.Math.Seq.{get_or-append_seam}
use Rattle.twp_grid.specs.Lands.{no_places}
use Rattle.twp_notes.specs.Records.{Fields, record_at, record_numbered, records_of}
use Rattle.twp_plat.specs.Plats.{SurveyPlat}
use Rattle.twp_answers.specs.Names.{has_name}
use Rattle.twp_answers.specs.Tracts.{TRACTS_LIMIT, TRACTS_MOST, tracts_heading, tract_records, name_in}
use Rattle.twp_answers.specs.ReportAnswers.{tract_line, IsTractLine, AreTractLines, text_of}
use Rattle.twp_answers.specs.ReportAnswers.{total_lines, IsAccountOf}
use Rattle.twp_answers.specs.steps.TractTaking.{Tally, AreTotals, TakesTract, IsTallyOf, EndsAccount}
use Rattle.twp_answers.proofs.EarlierFacts.{next_earlier, no_earlier}
use Rattle.twp_answers.proofs.TractLands.{earlier_or_last}
use Rattle.twp_grid.specs.Lands.{STANDARD_LOTS}

-- the tally of no records
pub no_tally : (plat : SurveyPlat) (rows : List Fields) (tally : Tally)
    → ((name : List ℕ) → has_name tally.earlier.names name ≡ false)
    → tally.earlier.places ≡ no_places → AreTotals plat no_places tally.totals → tally.text ≡ []
    → IsTallyOf plat rows 0 tally
no_tally plat rows tally names places totals text = record {
  earlier = no_earlier STANDARD_LOTS plat.township rows tally.earlier names places;
  totals_are = subst (λ p. AreTotals plat p tally.totals) (sym places) totals;
  lines = [];
  lines_are = record { count_is = refl; each = λ index below. absurd (omega arith) };
  text_is = text;
}

module _ (plat : SurveyPlat) (rows : List Fields) (count : ℕ) (old new : Tally)
    (before : IsTallyOf plat rows count old) (takes : TakesTract plat (record_at rows count) old new) where
  abbrev line : List ℕ
  line = tract_line (name_in (record_at rows count)) takes.hundredths

  lines_are : AreTractLines plat rows (count + 1) (before.lines ++ line ∷ [])
  lines_are = record {
    count_is = longer;
    each = λ index below. elim (earlier_or_last count index below) [
      | inl earlier ↦
          let same =
          get_or-append before.lines (line ∷ []) [] index (omega (arith, before.lines_are.count_is)) in
          subst (λ l. IsTractLine plat (record_at rows index) l) (sym same)
          (before.lines_are.each index earlier)
      | inr next ↦
          let here : get_or (before.lines ++ line ∷ []) count [] ≡ line =
          ap (λ i. get_or (before.lines ++ line ∷ []) i []) (sym before.lines_are.count_is)
          ∙ get_or-append_seam before.lines line [] [] in
          let at_count : IsTractLine plat (record_at rows count)
          (get_or (before.lines ++ line ∷ []) count []) =
          subst (λ l. IsTractLine plat (record_at rows count) l) (sym here) (record {
            places = takes.more;
            land = takes.takes.reads.land;
            hundredths = takes.hundredths;
            acres = takes.acres;
            line_is = refl;
          }) in
          subst (λ i. IsTractLine plat (record_at rows i) (get_or (before.lines ++ line ∷ []) i []))
          (sym next) at_count
    ];
  }
    where
      longer : length (before.lines ++ line ∷ []) ≡ count + 1
      longer = rw (length_push before.lines line) (omega (arith, before.lines_are.count_is))

  text_is : new.text ≡ text_of (before.lines ++ line ∷ [])
  text_is =
      takes.text_is ∙ ap (λ t. t ++ line) before.text_is
      ∙ ap (λ t. text_of before.lines ++ t) (sym (append-nil line))
      ∙ sym (flat_map-append (λ l. l) before.lines (line ∷ []))

  -- the tally of one more record
  pub next_tally : IsTallyOf plat rows (count + 1) new
  next_tally = record {
    earlier =
        next_earlier STANDARD_LOTS plat.township rows count old.earlier new.earlier takes.more before.earlier
        takes.takes;
    totals_are = takes.totals_are;
    lines = before.lines ++ line ∷ [];
    lines_are = lines_are;
    text_is = text_is;
  }

-- four texts were appended
pub four_appended : (a b c d e x y z w : List ℕ) → b ≡ a ++ x → c ≡ b ++ y → d ≡ c ++ z → e ≡ d ++ w
    → e ≡ a ++ (x ++ y ++ z ++ w)
four_appended a b c d e x y z w is-b is-c is-d is-e =
    is-e
    ∙ ap (λ t. t ++ w)
    (is-d ∙ ap (λ t. t ++ z) (is-c ∙ ap (λ t. t ++ y) is-b ∙ append_assoc a x y) ∙ append_assoc a (x ++ y) z)
    ∙ append_assoc a (x ++ y ++ z) w

-- the account of all tracts
pub accepted : (plat : SurveyPlat) (bytes text : List ℕ) (rest : List Fields) (tally : Tally)
    → length bytes ≤ TRACTS_LIMIT
    → record_numbered (records_of bytes) 1 ≡ tracts_heading → tract_records bytes ≡ rest
    → length rest ≤ TRACTS_MOST
    → IsTallyOf plat rest (length rest) tally → EndsAccount plat tally.earlier.places tally.text text
    → IsAccountOf plat bytes text
accepted plat bytes text rest tally size heading_is after few taken ends =
    let all : IsTallyOf plat (tract_records bytes) (length (tract_records bytes)) tally =
    subst (λ rows. IsTallyOf plat rows (length rows) tally) (sym after) taken in
    record {
      list = record { size = size; heading_is = heading_is; few = rw after few; tracts = all.earlier.tracts };
      account = record {
        lines = all.lines;
        lines_are = all.lines_are;
        places = tally.earlier.places;
        land = all.earlier.land;
        total = ends.total;
        total_is = ends.total_is;
        remaining = ends.remaining;
        remaining_is = ends.remaining_is;
        text_is = ends.text_is ∙ ap (λ t. t ++ total_lines ends.total ends.remaining) all.text_is;
      };
    }
