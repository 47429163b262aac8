-- The tracks of a volume that are never free, in a list. (This profile)
use Rattle.std.specs.Prelude.{ℕ, ◌+◌, ◌-◌, ◌==◌, nat_le, List, [], ◌∷◌, take, drop, codes, Option, Some, None, if◌then◌else◌}
use Rattle.std.specs.List.{position}
use Rattle.std.specs.Option.{option_map}
use Rattle.std.specs.Str.{bytes_eq}
use Rattle.extent_core.specs.declared.extent.Extent.{Extent}
use Rattle.jcl_plan.specs.declared.plan.TheConstants.{MOST_TRACKS}
use Rattle.jname_core.specs.Decimals.{number_within}
use Rattle.session_text.specs.Fields.{listed_in}

-- `a` or `a-b`: the tracks from a to b, or a alone; tracks count from 0
abbrev pub track_in : List ℕ → Option ℕ
track_in text = number_within 0 (MOST_TRACKS - 1) text

abbrev pub hyphen_in : List ℕ → Option ℕ
hyphen_in item = position (λ b. b == 45) item

abbrev pub first_track : Option ℕ → List ℕ → Option ℕ
first_track None item = track_in item
first_track (Some hyphen) item = track_in (take hyphen item)

abbrev pub last_track : Option ℕ → List ℕ → Option ℕ
last_track None item = track_in item
last_track (Some hyphen) item = track_in (drop (hyphen + 1) item)

abbrev pub from_to : ℕ → ℕ → Extent
from_to first last = record { start = first; tracks = last - first + 1 }

abbrev pub extent_with : Option ℕ → Option ℕ → Option Extent
extent_with None last = None
extent_with (Some first) None = None
extent_with (Some first) (Some last) = if nat_le first last then Some (from_to first last) else None

abbrev pub extent_of : List ℕ → Option Extent
extent_of item = extent_with (first_track (hyphen_in item) item) (last_track (hyphen_in item) item)

-- all of them, where each is one
abbrev pub extents_with : Option Extent → Option (List Extent) → Option (List Extent)
extents_with None others = None
extents_with (Some e) others = option_map (λ es. e ∷ es) others

abbrev pub extents_in : List (List ℕ) → Option (List Extent)
extents_in [] = Some []
extents_in (item ∷ items) = extents_with (extent_of item) (extents_in items)

-- `USED list`, or nothing
abbrev pub used_of : List (List ℕ) → Option (List Extent)
used_of [] = Some []
used_of (word ∷ []) = None
used_of (word ∷ list ∷ []) = if bytes_eq word (codes "USED") then extents_in (listed_in list) else None
used_of (word ∷ list ∷ next ∷ more) = None
