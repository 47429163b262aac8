-- The places of the names in a list. (This profile)
use Rattle.std.specs.Prelude.{◌≡◌, ℕ, zero, suc, List, [], ◌∷◌, Option, Some, None, if◌then◌else◌}
use Rattle.std.specs.Option.{option_map}
use Rattle.std.specs.BTreeMap.{BTreeMap, get_by}
use Rattle.std.specs.Cmp.Lexicographic.{slice_cmp}
use Rattle.std.specs.Ordering.{nat_cmp}
use Rattle.std.specs.Str.{bytes_eq}

-- the place of the first that is equal, from 0
abbrev pub place_of : List (List ℕ) → List ℕ → Option ℕ
place_of [] name = None
place_of (first ∷ names) name = if bytes_eq first name then Some zero else option_map suc (place_of names name)

-- these are the places of these names
abbrev pub ArePlacesOf : BTreeMap (List ℕ) ℕ → List (List ℕ) → Type 0
ArePlacesOf places names = (name : List ℕ) → get_by (slice_cmp nat_cmp name) places ≡ place_of names name
