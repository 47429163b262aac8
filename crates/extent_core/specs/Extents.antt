-- Extents: which are free, the first that has so many tracks, and the largest.
use Rattle.std.specs.Prelude.{◌≡◌, ℕ, ◌+◌, ◌-◌, ◌<◌, ◌≤◌, Bool, true, false, ◌&&◌, ◌==◌, nat_lt, nat_le, List, [], ◌∷◌, Option, Some, None, if◌then◌else◌}
use Rattle.std.specs.List.{slice_get}
use Rattle.extent_core.specs.declared.extent.Extent.{Extent}

abbrev pub extent : ℕ → ℕ → Extent
extent start tracks = record { start = start; tracks = tracks }

-- a free track before these free extents
abbrev pub lengthened : ℕ → List Extent → List Extent
lengthened at [] = extent at 1 ∷ []
lengthened at (e ∷ es) = if e.start == at + 1 then extent at (e.tracks + 1) ∷ es else extent at 1 ∷ e ∷ es

abbrev pub free_from : ℕ → List Bool → List Extent
free_from at [] = []
free_from at (is_free ∷ tracks) = if is_free then lengthened at (free_from (at + 1) tracks) else free_from (at + 1) tracks

-- the free extents by place: as many neighbouring free tracks as there are, where it is known of each track whether it is free
abbrev pub free_extents : List Bool → List Extent
free_extents tracks = free_from 0 tracks

-- the first extent that has so many tracks
abbrev pub first_of : ℕ → List Extent → Option Extent
first_of n [] = None
first_of n (e ∷ es) = if nat_le n e.tracks then Some e else first_of n es

-- the largest extent, of equals the first
abbrev pub larger : Extent → Option Extent → Extent
larger e None = e
larger e (Some f) = if nat_le f.tracks e.tracks then e else f

abbrev pub largest_of : List Extent → Option Extent
largest_of [] = None
largest_of (e ∷ es) = Some (larger e (largest_of es))

-- the front of one of the extents is taken, so many tracks: what is left of it stands in its place
abbrev pub front_taken : Extent → ℕ → List Extent → List Extent
front_taken e n [] = []
front_taken e n (f ∷ fs) =
    if f.start == e.start then (if nat_le f.tracks n then fs else extent (f.start + n) (f.tracks - n) ∷ fs)
    else f ∷ front_taken e n fs

-- one more extent by place, as one with those that it touches
abbrev pub joined : Extent → List Extent → List Extent
joined e [] = e ∷ []
joined e (f ∷ fs) =
    if nat_lt (e.start + e.tracks) f.start then e ∷ f ∷ fs
    else (if e.start + e.tracks == f.start then extent e.start (e.tracks + f.tracks) ∷ fs
    else (if f.start + f.tracks == e.start then joined (extent f.start (f.tracks + e.tracks)) fs else f ∷ joined e fs))

-- a track lies in an extent
abbrev pub is_in : ℕ → Extent → Bool
is_in track e = nat_le e.start track && nat_lt track (e.start + e.tracks)

-- the tracks of an extent are now all free, or all not free
abbrev pub marked_from : ℕ → Bool → Extent → List Bool → List Bool
marked_from at free e [] = []
marked_from at free e (is_free ∷ tracks) = (if is_in at e then free else is_free) ∷ marked_from (at + 1) free e tracks

abbrev pub marked : Bool → Extent → List Bool → List Bool
marked free e tracks = marked_from 0 free e tracks

-- the tracks of an extent are tracks of the volume, and none is free
abbrev pub IsTaken : List Bool → Extent → Type 0
IsTaken tracks e = (track : ℕ) → is_in track e ≡ true → slice_get tracks track ≡ Some false

-- extents by place, the first at or behind a track: each has a track at least, no two touch, and none reaches past the end
abbrev pub AreApart : ℕ → ℕ → List Extent → Type 0
AreApart from end [] = Unit {0}
AreApart from end (e ∷ es) = (from ≤ e.start) × (0 < e.tracks) × (e.start + e.tracks ≤ end) × AreApart (e.start + e.tracks + 1) end es
