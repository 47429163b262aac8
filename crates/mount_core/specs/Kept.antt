-- Tracks that are kept on a volume, each list for the set that a DD of a job is to make.
use Rattle.std.specs.Prelude.{◌≡◌, ℕ, List, IsSome, None}
use Rattle.std.specs.FinMap.{FinMap, entries, from_entries, get}
use Rattle.std.specs.List.{flat_map}
use Rattle.std.specs.Ordering.{nat_cmp, ordering_then}
use Rattle.std.specs.declared.cmp.Ordering.{Ordering}
use Rattle.extent_core.specs.declared.extent.Extent.{Extent}
use Rattle.vtoc_core.specs.declared.volume.Track.{Track}
use Rattle.vtoc_core.specs.declared.volume.Track.TheVariants.{Aside}
use Rattle.vtoc_core.specs.Extents.{tracks_in}
use Rattle.vtoc_core.specs.Volumes.{AreOf, count_of}
use Rattle.mount_core.specs.declared.place.KeptPlace.{KeptPlace}

-- in order by job, step and DD
abbrev pub place_cmp : KeptPlace → KeptPlace → Ordering
place_cmp a b = ordering_then (nat_cmp a.job b.job) (ordering_then (nat_cmp a.step b.step) (nat_cmp a.dd b.dd))

-- the lists by their places
abbrev pub Kept : Type 0
Kept = FinMap place_cmp (List Extent)

abbrev pub kept_of : List (KeptPlace × List Extent) → Kept
kept_of lists = from_entries lists

-- the extents of all lists
abbrev pub extents_kept : Kept → List Extent
extents_kept kept = flat_map (λ e. e.1) (entries kept)

-- no track is in two lists, all of them are set aside, and no other track is
pub record AreKept (tracks : List Track) (kept : Kept) : Type 0 where
  pub aside : AreOf Aside tracks (extents_kept kept)
  pub count : tracks_in (extents_kept kept) ≡ count_of Aside tracks

-- a list is kept at a place of a job
abbrev pub IsKeptFor : Kept → ℕ → KeptPlace → Type 0
IsKeptFor kept job at = (at.job ≡ job) × IsSome (get kept at)

-- nothing is kept for a job
abbrev pub KeepsNoneFor : Kept → ℕ → Type 0
KeepsNoneFor kept job = (at : KeptPlace) → at.job ≡ job → get kept at ≡ None
