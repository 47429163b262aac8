-- SPACE: tracks, cylinders of 20, or blocks of some length, of which 7294 bytes fill a track; RLSE. (GC28-6704, SPACE parameter)
use Rattle.std.specs.Prelude.{◌≡◌, ◌≤◌, ℕ, Bool, true, false, not, ◌&&◌, ◌||◌, ◌+◌, ◌*◌, ◌/◌, ◌==◌, nat_lt, nat_le, List, [], ◌∷◌, ◌++◌, length, Option, Some, None, is_none, codes, if◌then◌else◌}
use Rattle.std.specs.List.{list_any}
use Rattle.std.specs.Str.{bytes_eq}
use Rattle.jname_core.specs.Decimals.{decimal_value, is_decimal, number_within}
use Rattle.jcl_plan.specs.declared.fault.Cause.{Cause}
use Rattle.jcl_plan.specs.declared.fault.Cause.TheVariants.{P}
use Rattle.jcl_plan.specs.declared.fault.StatementFault.TheVariants.{BadValue, LeftOut}
use Rattle.jcl_plan.specs.declared.plan.Space.{Space}
use Rattle.jcl_plan.specs.declared.plan.TheConstants.{MOST_TRACKS}
use Rattle.operand_core.specs.Faults.{when}
use Rattle.operand_core.specs.Subparameters.{first_place, inside, is_wrapped, subparameters_of}
use Rattle.operand_core.specs.Operands.{places_of}
use Rattle.value_core.specs.declared.space.SpaceUnit.{SpaceUnit}
use Rattle.value_core.specs.declared.space.SpaceUnit.TheVariants.{Tracks, Cylinders, Blocks}
use Rattle.value_core.specs.Reads.{Read, bad, good}

abbrev pub most_tracks : ℕ
most_tracks = MOST_TRACKS

abbrev pub bytes_a_track : ℕ
bytes_a_track = 7294

abbrev pub tracks_a_cylinder : ℕ
tracks_a_cylinder = 20

-- so many of what is asked in are so many tracks
abbrev pub tracks_of : List ℕ → ℕ → ℕ
tracks_of unit n =
    if bytes_eq unit (codes "TRK") then n
    else (if bytes_eq unit (codes "CYL") then n * tracks_a_cylinder
    else (n * decimal_value unit + 7293) / bytes_a_track)

abbrev pub is_unit : List ℕ → Bool
is_unit unit = bytes_eq unit (codes "TRK") || bytes_eq unit (codes "CYL") || not (is_none (number_within 1 bytes_a_track unit))

-- the unit that a text names, and how many tracks so many of it are
abbrev pub tracks_in : SpaceUnit → ℕ → ℕ
tracks_in Tracks n = n
tracks_in Cylinders n = n * tracks_a_cylinder
tracks_in (Blocks length) n = (n * length + 7293) / bytes_a_track

-- a block has at least one byte
abbrev pub HasLength : SpaceUnit → Type 0
HasLength Tracks = Unit {0}
HasLength Cylinders = Unit {0}
HasLength (Blocks length) = 1 ≤ length

pub record IsUnit (text : List ℕ) (unit : SpaceUnit) : Type 0 where
  pub named : is_unit text ≡ true
  pub has_length : HasLength unit
  pub tracks : (n : ℕ) → tracks_of text n ≡ tracks_in unit n

-- a quantity is a number of at most 4,000 tracks
abbrev pub is_quantity : List ℕ → List ℕ → Bool
is_quantity unit text = is_decimal text && nat_le (tracks_of unit (decimal_value text)) most_tracks

abbrev pub quantity_in : List ℕ → List ℕ → Option ℕ
quantity_in unit text = if is_quantity unit text then Some (tracks_of unit (decimal_value text)) else None

abbrev pub quantity : List ℕ → List ℕ → ℕ
quantity unit text = if is_quantity unit text then tracks_of unit (decimal_value text) else 0

-- three quantities, of which the last counts blocks of a directory
abbrev pub directory_faults : List ℕ → Option ℕ → List ℕ → List ℕ → List Cause
directory_faults unit primary secondary directory =
    when (is_none primary || (not (length secondary == 0) && not (is_quantity unit secondary)) || length directory == 0) (P BadValue)
    ++ when (not (length directory == 0)) (P LeftOut)

-- both quantities, where both are good
abbrev pub pair : Option ℕ → Option ℕ → Read (ℕ × ℕ)
pair None secondary = bad (0, 0) (P BadValue)
pair (Some primary) None = bad (0, 0) (P BadValue)
pair (Some primary) (Some secondary) = good (primary, secondary)

-- the quantities: a primary, a secondary; a third, of blocks of a directory, is left out, and before it the second may be empty
abbrev pub quantity_faults : List ℕ → List (List ℕ) → List Cause
quantity_faults unit [] = []
quantity_faults unit (p ∷ []) = when (not (is_quantity unit p)) (P BadValue)
quantity_faults unit (p ∷ s ∷ []) = when (not (is_quantity unit p) || not (is_quantity unit s)) (P BadValue)
quantity_faults unit (p ∷ s ∷ d ∷ []) = directory_faults unit (quantity_in unit p) s d
quantity_faults unit (p ∷ s ∷ d ∷ e ∷ more) = P BadValue ∷ []

abbrev pub secondary_of : List ℕ → List (List ℕ) → ℕ
secondary_of unit (p ∷ s ∷ more) = quantity unit s
secondary_of unit other = 0

abbrev pub quantities : List ℕ → List (List ℕ) → Read (ℕ × ℕ)
quantities unit places = record { value = (quantity unit (first_place places), secondary_of unit places); faults = quantity_faults unit places }

-- the places behind: RLSE in the third; what is left out may have empty places before it, and none stands past the fifth
abbrev pub is_left_out : List ℕ → Bool
is_left_out text = list_any (λ word. bytes_eq text word) (codes "CONTIG" ∷ codes "MXIG" ∷ codes "ALX" ∷ codes "ROUND" ∷ [])

abbrev pub further_place_faults : ℕ → List ℕ → Bool → List Cause
further_place_faults k text is_last =
    if is_left_out text then P LeftOut ∷ []
    else when (not (k == 2 && bytes_eq text (codes "RLSE")) && (not (length text == 0) || is_last || nat_lt 4 k)) (P BadValue)

abbrev pub further_faults : ℕ → List (List ℕ) → List Cause
further_faults k [] = []
further_faults k (text ∷ places) = further_place_faults k text (length places == 0) ++ further_faults (k + 1) places

abbrev pub releases : List (List ℕ) → Bool
releases [] = false
releases (text ∷ places) = bytes_eq text (codes "RLSE")

abbrev pub further : List (List ℕ) → Read Bool
further places = record { value = releases places; faults = further_faults 2 places }

abbrev pub no_space : Space
no_space = record { primary = 0; secondary = 0; release = false }

abbrev pub space_with : List ℕ → List (List ℕ) → List (List ℕ) → Read Space
space_with unit quantities further = record {
  value = record { primary = quantity unit (first_place quantities); secondary = secondary_of unit quantities; release = releases further };
  faults = when (not (is_unit unit)) (P BadValue) ++ (quantity_faults unit quantities ++ further_faults 2 further);
}

-- ABSTR is left out
abbrev pub space_of_places : List (List ℕ) → Read Space
space_of_places [] = bad no_space (P BadValue)
space_of_places (unit ∷ []) = if bytes_eq unit (codes "ABSTR") then bad no_space (P LeftOut) else bad no_space (P BadValue)
space_of_places (unit ∷ text ∷ further) = if bytes_eq unit (codes "ABSTR") then bad no_space (P LeftOut) else space_with unit (subparameters_of text) further

abbrev pub space : List ℕ → Read Space
space text = if is_wrapped text then space_of_places (places_of (inside text)) else bad no_space (P BadValue)
