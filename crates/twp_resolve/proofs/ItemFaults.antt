-- The result for a heading and for `all`: the first of their faults, or their places are added.
use Rattle.std.proofs.Common.{◌≡◌, ◌≢◌, ℕ, ◌≤◌, ◌&&◌, Bool, true, false, refl}
use Rattle.std.proofs.Common.{arith}
use Rattle.std.proofs.Math.Path.{fun_ext}
use Rattle.twp_grid.specs.Places.{PLACE_DIGITS, is_place}
use Rattle.twp_grid.specs.Townships.{Designation, designation}
use Rattle.twp_grid.specs.declared.township.NorthSouth.{NorthSouth}
use Rattle.twp_grid.specs.declared.township.EastWest.{EastWest}
use Rattle.twp_grid.specs.Lands.{union, SharePlace, section_places, HasLand, Layout, lotting}
use Rattle.twp_grammar.specs.declared.item.Item.TheVariants.{Heading, All}
use Rattle.twp_resolve.specs.declared.place_fault.PlaceFault.TheVariants as fault
use Rattle.twp_resolve.specs.declared.place_fault.PlaceFault.{PlaceFault}
use Rattle.twp_resolve.specs.PlaceFaults.{HasFault, turn_of}
use Rattle.twp_resolve.specs.steps.ResolvingSteps.{AreAdded, IsItemTaken, IsItemsFirstFault}
use Rattle.twp_resolve.proofs.RangeFacts.{added_none}

-- a heading names no place
pub heading_taken : (layout : Layout) (section number : ℕ) (north_south : NorthSouth)
    (range : ℕ) (east_west : EastWest)
    (at : ℕ) (old : ℕ → ℕ → ℕ → Bool) (township : Designation)
    → designation number north_south range east_west ≡ township
    → IsItemTaken (lotting layout) township section (Heading number north_south range east_west at) old old
heading_taken layout section number north_south range east_west at old township is =
    let none : AreAdded (λ s c r. is_place PLACE_DIGITS c r && false) old old =
    added_none (λ s c r. is_place PLACE_DIGITS c r && false) old
    (fun_ext (λ s. fun_ext (λ c. fun_ext (λ r. off (is_place PLACE_DIGITS c r))))) in
    record { lies = is; apart = none.apart; added = none.added }
  where
    off : (b : Bool) → (b && false) ≡ false
    off true = refl
    off false = refl

pub heading_refused : (layout : Layout) (section number : ℕ) (north_south : NorthSouth)
    (range : ℕ) (east_west : EastWest)
    (at : ℕ) (old : ℕ → ℕ → ℕ → Bool) (township : Designation)
    → designation number north_south range east_west ≢ township
    → IsItemsFirstFault (lotting layout) township section (Heading number north_south range east_west at) old
    (fault.OtherTownship at)
heading_refused layout section number north_south range east_west at old township other = record {
  is = (refl, other);
  first = λ more has. least more;
}
  where
    least : (more : PlaceFault) → 61 ≤ turn_of more
    least (fault.OtherTownship at') = omega arith
    least more = omega arith

-- `all` of a section is all places at which the plat has land
pub all_taken : (layout : Layout) (section at : ℕ) (old new : ℕ → ℕ → ℕ → Bool)
    (township : Designation)
    → HasLand (lotting layout) section → ¬ SharePlace old (section_places (lotting layout) section)
    → new ≡ union old (section_places (lotting layout) section)
    → IsItemTaken (lotting layout) township section (All at) old new
all_taken layout section at old new township land free grown =
    record { lies = land; apart = free; added = grown }

-- a section without land
pub all_no_land : (layout : Layout) (section at : ℕ) (old : ℕ → ℕ → ℕ → Bool)
    (township : Designation)
    → ¬ HasLand (lotting layout) section
    → IsItemsFirstFault (lotting layout) township section (All at) old (fault.NoLand at)
all_no_land layout section at old township none = record { is = (refl, none); first = only }
  where
    only : (other : PlaceFault) → HasFault (lotting layout) township old section (All at) other
        → 68 ≤ turn_of other
    only (fault.Overlap at') has = omega arith
    only (fault.NoLand at') has = omega arith
    only other has = absurd has

-- land that was named before
pub all_overlap : (layout : Layout) (section at : ℕ) (old : ℕ → ℕ → ℕ → Bool)
    (township : Designation)
    → HasLand (lotting layout) section → SharePlace old (section_places (lotting layout) section)
    → IsItemsFirstFault (lotting layout) township section (All at) old (fault.Overlap at)
all_overlap layout section at old township land shared = record { is = (refl, shared); first = only }
  where
    only : (other : PlaceFault) → HasFault (lotting layout) township old section (All at) other
        → 69 ≤ turn_of other
    only (fault.Overlap at') has = omega arith
    only (fault.NoLand at') has = absurd (has.1 land)
    only other has = absurd has
