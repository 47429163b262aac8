-- What free extents are, and what is found among extents.
use Rattle.std.specs.Prelude.{◌≡◌, ℕ, ◌<◌, ◌≤◌, Bool, true, false, List, [], length, All, Contains, Option, Some, None, slice_index_or, take}
use Rattle.std.specs.List.{list_any}
use Rattle.extent_core.specs.declared.extent.Extent.{Extent}
use Rattle.extent_core.specs.Extents.{AreApart, IsTaken, first_of, free_extents, front_taken, is_in, joined, largest_of, marked}

-- Free extents stand by place, have a track at least each, do not touch, and lie within the volume.
abbrev pub FreeExtentsAreApart : Type 0
FreeExtentsAreApart = (tracks : List Bool) → AreApart 0 (length tracks) (free_extents tracks)

-- A track is free exactly where it lies in a free extent.
abbrev pub FreeTracksAreListed : Type 0
FreeTracksAreListed = (tracks : List Bool) (track : ℕ) → list_any (λ e. is_in track e) (free_extents tracks) ≡ slice_index_or tracks track false

-- one of the extents, where those in front of it have fewer tracks
abbrev pub IsFirstOf : List Extent → Extent → Type 0
IsFirstOf extents e = (k : ℕ) × (k < length extents) × (slice_index_or extents k e ≡ e) × All (λ f. f.tracks < e.tracks) (take k extents)

-- one of the extents, where those in front of it have fewer than so many tracks
abbrev pub IsFirstWith : ℕ → List Extent → Extent → Type 0
IsFirstWith n extents e = (k : ℕ) × (k < length extents) × (slice_index_or extents k e ≡ e) × (n ≤ e.tracks) × All (λ f. f.tracks < n) (take k extents)

abbrev pub AnswersFirst : ℕ → List Extent → Option Extent → Type 0
AnswersFirst n extents None = All (λ f. f.tracks < n) extents
AnswersFirst n extents (Some e) = IsFirstWith n extents e

-- The first that has so many tracks is one of them, those in front of it have fewer, and where there is none all have fewer.
abbrev pub FirstIsFirst : Type 0
FirstIsFirst = (n : ℕ) (extents : List Extent) → AnswersFirst n extents (first_of n extents)

abbrev pub AnswersLargest : List Extent → Option Extent → Type 0
AnswersLargest extents None = extents ≡ []
AnswersLargest extents (Some e) = IsFirstOf extents e × All (λ f. f.tracks ≤ e.tracks) extents

-- The largest is one of them, none has more tracks, those in front of it have fewer, and there is one where there is an extent.
abbrev pub LargestIsLargest : Type 0
LargestIsLargest = (extents : List Extent) → AnswersLargest extents (largest_of extents)

-- What is taken of the front of a free extent is not free, and once it is freed the same tracks are free as before.
abbrev pub TakenFrontIsTaken : Type 0
TakenFrontIsTaken = (tracks : List Bool) (e : Extent) (n : ℕ) → Contains (free_extents tracks) e → n ≤ e.tracks →
    let front : Extent = record { start = e.start; tracks = n } in
    IsTaken (marked false front tracks) front × (marked true front (marked false front tracks) ≡ tracks)

-- Where the front of a free extent is taken, what is left of it stands in its place among the free extents.
abbrev pub TakenFrontLeavesTheRest : Type 0
TakenFrontLeavesTheRest = (tracks : List Bool) (e : Extent) (n : ℕ) → Contains (free_extents tracks) e → n ≤ e.tracks →
    free_extents (marked false (record { start = e.start; tracks = n }) tracks) ≡ front_taken e n (free_extents tracks)

-- Where an extent is freed, it is one more free extent, as one with those that it touches.
abbrev pub FreedIsJoined : Type 0
FreedIsJoined = (tracks : List Bool) (e : Extent) → IsTaken tracks e → 0 < e.tracks →
    free_extents (marked true e tracks) ≡ joined e (free_extents tracks)
