-- What is kept for a job, given back list by list.
use Rattle.std.proofs.Common.{◌≡◌, ◌≢◌, ℕ, ◌+◌, ◌-◌, ◌<◌, Bool, true, false, cond, List, Option, Some, None, refl, ap, ◌∙◌, arith}
use Rattle.std.specs.Prelude.{IsSome, is_some}
use Rattle.std.specs.FinMap.{empty_of_len, get, get-empty, get-remove, len, len-remove, remove}
use Rattle.std.specs.Ordering.{eq_by_cmp}
use Rattle.extent_core.specs.declared.extent.Extent.{Extent}
use Rattle.vtoc_core.specs.declared.volume.Track.{Track}
use Rattle.vtoc_core.specs.declared.volume.Track.TheVariants.{Aside, Free, InSet}
use Rattle.vtoc_core.specs.Extents.{tracks_in}
use Rattle.vtoc_core.specs.Volumes.{Moves, count_of, marked}
use Rattle.vtoc_core.proofs.CountLemmas.{moves}
use Rattle.mount_core.specs.declared.place.KeptPlace.{KeptPlace}
use Rattle.mount_core.specs.Kept.{AreKept, Kept, place_cmp}
use Rattle.mount_core.specs.Mounts.{MountedState, all_tracks, kept_given_back, unusable_at}
use Rattle.mount_core.proofs.Keeping.{list_kept}
use Rattle.mount_core.proofs.Usable.{same_use}
use Rattle.mount_core.proofs.KeptMaps.{Entry, tied_equal}
use Rattle.mount_core.proofs.Places.{place_total}

-- Some of what was kept for a job is given back: what is kept for others stays.
pub record GivesBack (job : ℕ) (old new : MountedState) : Type 0 where
  pub others : (at : KeptPlace) → at.job ≢ job → get new.kept at ≡ get old.kept at
  pub sets : new.volume.sets ≡ old.volume.sets
  pub serial : new.serial ≡ old.serial
  pub tracks : all_tracks new.volume ≡ all_tracks old.volume
  pub unusable : (n : ℕ) → unusable_at new.volume.tracks n ≡ unusable_at old.volume.tracks n

aside≢free : Aside ≢ Free
aside≢free h = absurd cc

in_set≢aside : InSet ≢ Aside
in_set≢aside h = absurd cc

in_set≢free : InSet ≢ Free
in_set≢free h = absurd cc

-- tracks that were aside and are free
same_tracks : (tracks : List Track) (kept : Kept) (place : KeptPlace) (list : List Extent) → get kept place ≡ Some list → AreKept tracks kept →
    count_of Free (marked Free list tracks) + (count_of Aside (marked Free list tracks) + count_of InSet (marked Free list tracks))
    ≡ count_of Free tracks + (count_of Aside tracks + count_of InSet tracks)
same_tracks tracks kept place list h a =
    let m : Moves Aside Free (tracks_in list) tracks (marked Free list tracks) = moves Aside Free list tracks aside≢free (list_kept tracks kept place list h a) in
    omega (arith, m.fewer, m.more, m.others InSet in_set≢aside in_set≢free)

other_left : (b : Bool) (o : Option Entry) → b ≢ true → cond b None o ≡ o
other_left true o n = absurd (n refl)
other_left false o n = refl

other_job : (job : ℕ) (at place : KeptPlace) → place.job ≡ job → at.job ≢ job → eq_by_cmp place_cmp at place ≢ true
other_job job at place same differs h = differs (ap (λ (k : KeptPlace). k.job) (tied_equal at place h) ∙ same)

-- one list more is given back
pub one_back : (job : ℕ) (old m : MountedState) (place : KeptPlace) (o : Option (List Extent)) → get m.kept place ≡ o → place.job ≡ job →
    AreKept m.volume.tracks m.kept → GivesBack job old m → GivesBack job old (kept_given_back o m place)
one_back job old m place None e same a g = g
one_back job old m place (Some list) e same a g = record {
  others = λ at differs.
      get-remove place_total m.kept place at ∙ other_left (eq_by_cmp place_cmp at place) (get m.kept at) (other_job job at place same differs) ∙ g.others at differs;
  sets = g.sets;
  serial = g.serial;
  tracks = same_tracks m.volume.tracks m.kept place list e a ∙ g.tracks;
  unusable = λ n. same_use Free Aside list m.volume.tracks refl refl (list_kept m.volume.tracks m.kept place list e a) n ∙ g.unusable n;
}

-- and there are fewer
not_there : (o : Option Entry) → o ≡ None → IsSome o → ⊥
not_there None h s = absurd cc
not_there (Some v) h s = absurd cc

some_list : (kept : Kept) (place : KeptPlace) → IsSome (get kept place) → len kept ≢ 0
some_list kept place some h = not_there (get kept place) (ap (λ (k : Kept). get k place) (empty_of_len kept h) ∙ get-empty place_cmp place) some

fewer_if : (b : Bool) (a n : ℕ) → b ≡ true → n ≢ 0 → a ≡ cond b (n - 1) n → a < n
fewer_if true a n h z e = omega arith
fewer_if false a n h z e = absurd cc

pub fewer_lists : (m : MountedState) (place : KeptPlace) (o : Option (List Extent)) → get m.kept place ≡ o → IsSome (get m.kept place) →
    len (kept_given_back o m place).kept < len m.kept
fewer_lists m place None e some = absurd (not_there (get m.kept place) e some)
fewer_lists m place (Some list) e some =
    fewer_if (is_some (get m.kept place)) (len (remove m.kept place)) (len m.kept) some (some_list m.kept place some) (len-remove place_total m.kept place)
