-- The figures of an account by a lot table, one more at a time, and the account that they make.
use Rattle.std.proofs.Common.{◌≡◌, ℕ, ◌+◌, ◌≤◌, Bool, List, [], ◌∷◌, ◌++◌, length, get_or}
use Rattle.std.proofs.Common.{ap, refl, sym, ◌∙◌, inl, inr, subst, arith}
use Rattle.std.proofs.lemmas.List.{length_push}
use Rattle.std.proofs.Math.ListN.{get_or-append}
use Rattle.std.proofs.Math.Seq.{get_or-append_seam}
use Rattle.twp_measure.specs.Areas.{Fraction, IsRounded}
use Rattle.twp_plat.specs.LotAreas.{HasFigures}
use Rattle.twp_plat.specs.LotTables.{figure_of, lots_of}
use Rattle.twp_plat.specs.declared.lots.returned.ReturnedLots.{ReturnedLots}
use Rattle.twp_grid.specs.Townships.{Designation}
use Rattle.twp_notes.specs.Records.{Fields, record_at, record_numbered, records_of}
use Rattle.twp_answers.specs.Answers.{Describe}
use Rattle.twp_answers.specs.EarlierTracts.{AreEarlier, TractsSoFar}
use Rattle.twp_answers.specs.Tracts.{TRACTS_LIMIT, TRACTS_MOST, tracts_heading, tract_records}
use Rattle.twp_answers.specs.Tracts.{name_in, description_in}
use Rattle.twp_answers.specs.declared.account_figures.TractFigure.{TractFigure}
use Rattle.twp_answers.specs.declared.tract_fault.TractFault.{TractFault}
use Rattle.twp_answers.specs.declared.tract_fault.TractFault.TheVariants as fault
use Rattle.twp_answers.proofs.EarlierFacts.{taken_places}
use Rattle.twp_answers.proofs.OneAnswer.{one_land}
use Rattle.twp_answers.proofs.TractLands.{earlier_or_last}
use Rattle.twp_answers.specs.LotAccounts.{AreFiguresByLots, IsAccountByLots, IsFigureByLots}
use Rattle.twp_answers.specs.LotLands.{HasLotArea}
use Rattle.twp_answers.specs.LotTractFaults.{LacksLotAt}
use Rattle.twp_answers.specs.steps.LotTaking.{LackNoLots, TakesByLots}
use Rattle.twp_answers.proofs.UnitedFigures.{united_figures}

-- no figures
pub no_figures : (township : Designation) (lots : ReturnedLots) (rows : List Fields)
    → AreFiguresByLots township lots rows 0 []
no_figures township lots rows = record { count_is = refl; each = λ index default below. absurd (omega arith) }

-- the figure of one more tract
pub figures_next : (township : Designation) (lots : ReturnedLots) (rows : List Fields) (count : ℕ)
    (figures : List TractFigure)
    (figure : TractFigure) → AreFiguresByLots township lots rows count figures
    → IsFigureByLots township lots (record_at rows count) figure
    → AreFiguresByLots township lots rows (count + 1) (figures ++ figure ∷ [])
figures_next township lots rows count figures figure before here = record {
  count_is = rw (length_push figures figure) (omega (arith, before.count_is));
  each = λ index default below. elim (earlier_or_last count index below) [
    | inl earlier ↦
        rw (get_or-append figures (figure ∷ []) default index (omega (arith, before.count_is)))
        (before.each index default earlier)
    | inr next ↦
        let last : get_or (figures ++ figure ∷ []) index default ≡ figure =
        ap (λ i. get_or (figures ++ figure ∷ []) i default) (next ∙ sym before.count_is)
        ∙ get_or-append_seam figures figure [] default in
        rw (last, next) here
  ];
}

-- the figure of a tract that was added
pub figure_is : (township : Designation) (lots : ReturnedLots) (fields : Fields) (old new : TractsSoFar)
    (area : Fraction)
    (figure : TractFigure) (hundredths : ℕ) → TakesByLots township lots fields old new area
    → IsRounded area hundredths
    → figure.name.bytes ≡ name_in fields → figure.hundredths ≡ hundredths
    → IsFigureByLots township lots fields figure
figure_is township lots fields old new area figure hundredths takes rounded name_is hundredths_is = record {
  name_is = name_is;
  acres = record {
    area = area;
    area_is = record {
      places = takes.more;
      described = record { described = takes.takes.reads.land; whole = takes.takes.reads.whole };
      holds = takes.area_is;
    };
    rounded = subst (IsRounded area) (sym hundredths_is) rounded;
  };
}

-- a tract whose land has figures lacks no lot
pub returns_all : (township : Designation) (lots : ReturnedLots) (rows : List Fields) (index : ℕ)
    (more : ℕ → ℕ → ℕ → Bool)
    → Describe (lots_of lots) township (description_in (record_at rows index)) more
    → HasFigures (lots_of lots) (figure_of lots) more → (other : TractFault)
    → LacksLotAt township lots rows index other → ⊥
returns_all township lots rows index more land has (fault.TractRefused number inner) (at_record, lacks) =
    let same : lacks.places ≡ more =
    one_land (lots_of lots) township (description_in (record_at rows index)) lacks.places more
    lacks.described.described
    land in
    subst (HasFigures (lots_of lots) (figure_of lots)) (sym same) has lacks.holds.section lacks.holds.number
    lacks.holds.first.lacks
returns_all township lots rows index more land has (fault.TractRow n) none = none
returns_all township lots rows index more land has (fault.NameRepeated n) none = none
returns_all township lots rows index more land has (fault.TractsOverlap n) none = none
returns_all township lots rows index more land has fault.TractsTooLarge none = none
returns_all township lots rows index more land has fault.TooManyTracts none = none
returns_all township lots rows index more land has fault.Memory none = none

module _ (township : Designation) (lots : ReturnedLots) (rows : List Fields) (count : ℕ)
    (old new : TractsSoFar) (area : Fraction)
    (before : AreEarlier (lots_of lots) township rows count old)
    (takes : TakesByLots township lots (record_at rows count) old new area) where
  -- the table lacks no lot of one tract more
  pub lack_none_next : LackNoLots township lots rows count → LackNoLots township lots rows (count + 1)
  lack_none_next none index other below = elim (earlier_or_last count index below) [
    | inl earlier ↦ none index other earlier
    | inr last ↦
        rw last
        (returns_all township lots rows count takes.more takes.takes.reads.land takes.area_is.figures other)
  ]

  -- nor of all land so far
  pub figures_of_land : HasFigures (lots_of lots) (figure_of lots) old.places
      → HasFigures (lots_of lots) (figure_of lots) new.places
  figures_of_land has =
      subst (HasFigures (lots_of lots) (figure_of lots))
      (sym (taken_places (lots_of lots) township (record_at rows count) old new takes.more takes.takes))
      (united_figures (lots_of lots) (figure_of lots) old.places takes.more before.whole
      takes.takes.reads.whole has
      takes.area_is.figures)

-- the account of all tracts
pub account_of : (township : Designation) (lots : ReturnedLots) (bytes : List ℕ) (rest : List Fields)
    (earlier : TractsSoFar)
    (figures : List TractFigure) (area : Fraction) (total : ℕ) → length bytes ≤ TRACTS_LIMIT
    → record_numbered (records_of bytes) 1 ≡ tracts_heading → tract_records bytes ≡ rest
    → length rest ≤ TRACTS_MOST → AreEarlier (lots_of lots) township rest (length rest) earlier
    → AreFiguresByLots township lots rest (length rest) figures → HasLotArea lots earlier.places area
    → IsRounded area total → IsAccountByLots township lots bytes figures total
account_of township lots bytes rest earlier figures area total size heading_is after few are figures_are
    area_is
    rounded =
    let all : AreEarlier (lots_of lots) township (tract_records bytes) (length (tract_records bytes))
    earlier =
    subst (λ rows. AreEarlier (lots_of lots) township rows (length rows) earlier) (sym after) are in
    record {
      list = record { size = size; heading_is = heading_is; few = rw after few; tracts = all.tracts };
      figures_are =
          subst (λ rows. AreFiguresByLots township lots rows (length rows) figures) (sym after) figures_are;
      total_is = record {
        places = earlier.places;
        land = all.land;
        area = area;
        area_is = area_is;
        rounded = rounded;
      };
    }
