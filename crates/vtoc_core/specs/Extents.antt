-- Extents: which are free, which are taken for a number of tracks, and which stay of a set that is cut.
use Rattle.std.specs.Prelude.{ℕ, zero, suc, ◌+◌, ◌-◌, Bool, true, false, ◌==◌, nat_le, List, [], ◌∷◌, map, sum, Option, Some, None, if◌then◌else◌}
use Rattle.extent_core.specs.declared.extent.Extent.{Extent}
use Rattle.extent_core.specs.Extents.{extent, first_of, free_extents as free_extents_of, largest_of}
use Rattle.vtoc_core.specs.declared.volume.Track.{Track}
use Rattle.vtoc_core.specs.declared.volume.Track.TheVariants.{Free, Aside, InSet, Unusable}

abbrev pub is_free_track : Track → Bool
is_free_track Free = true
is_free_track Aside = false
is_free_track InSet = false
is_free_track Unusable = false

-- which tracks are free
abbrev pub are_free : List Track → List Bool
are_free tracks = map is_free_track tracks

-- the free extents by place: as many neighbouring free tracks as there are
abbrev pub free_extents : List Track → List Extent
free_extents tracks = free_extents_of (are_free tracks)

abbrev pub tracks_in : List Extent → ℕ
tracks_in extents = sum (map (λ e. e.tracks) extents)

-- the other extents
abbrev pub without_extent : Extent → List Extent → List Extent
without_extent e [] = []
without_extent e (f ∷ fs) = if f.start == e.start then fs else f ∷ without_extent e fs

-- the tracks of the largest extents, so many of them at most
abbrev pub tracks_of_largest_by : Option Extent → ℕ → ℕ
tracks_of_largest_by None rest = 0
tracks_of_largest_by (Some e) rest = e.tracks + rest

abbrev pub others_by : Option Extent → List Extent → List Extent
others_by None es = es
others_by (Some e) es = without_extent e es

abbrev pub tracks_of_largest : ℕ → List Extent → ℕ
tracks_of_largest zero es = 0
tracks_of_largest (suc k) es = tracks_of_largest_by (largest_of es) (tracks_of_largest k (others_by (largest_of es) es))

-- the sum of the five largest
unfoldable pub five_largest : List Extent → ℕ
five_largest es = tracks_of_largest 5 es

abbrev pub behind : Extent → Option (List Extent) → Option (List Extent)
behind e None = None
behind e (Some es) = Some (e ∷ es)

-- the largest extent whole, and of the last only the front
abbrev pub taken_by : Option Extent → ℕ → Option (List Extent) → Option (List Extent)
taken_by None n more = None
taken_by (Some e) n more = if nat_le n e.tracks then Some (extent e.start n ∷ []) else behind e more

abbrev pub left_by : Option Extent → ℕ → ℕ
left_by None n = n
left_by (Some e) n = n - e.tracks

abbrev pub largest_taken : ℕ → List Extent → ℕ → Option (List Extent)
largest_taken zero es n = None
largest_taken (suc k) es n =
    taken_by (largest_of es) n (largest_taken k (others_by (largest_of es) es) (left_by (largest_of es) n))

abbrev pub front_or : Option Extent → ℕ → Option (List Extent) → Option (List Extent)
front_or None n more = more
front_or (Some e) n more = Some (extent e.start n ∷ [])

-- the extents that so many tracks take of these free extents: none; the front of the first that has them all; else the largest, five at most
unfoldable pub planned : List Extent → ℕ → Option (List Extent)
planned free n = if n == 0 then Some [] else front_or (first_of n free) n (largest_taken 5 free n)

-- the first tracks of these extents, and those past them
abbrev pub kept_front : ℕ → List Extent → List Extent
kept_front n [] = []
kept_front n (e ∷ es) =
    if n == 0 then []
    else (if nat_le e.tracks n then e ∷ kept_front (n - e.tracks) es else extent e.start n ∷ [])

abbrev pub past_front : ℕ → List Extent → List Extent
past_front n [] = []
past_front n (e ∷ es) =
    if n == 0 then e ∷ es
    else (if nat_le e.tracks n then past_front (n - e.tracks) es else extent (e.start + n) (e.tracks - n) ∷ es)
