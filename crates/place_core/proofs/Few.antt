-- A volume with fewer free tracks than are asked for has no room for them.
use Rattle.std.proofs.Common.{◌≡◌, ◌≢◌, ℕ, ◌<◌, ◌≤◌, nat_le, false, List, Option, Some, None, refl, ap, subst, arith}
use Rattle.std.proofs.lemmas.Bool.{false_from_ne_true, leb-true, true≢false}
use Rattle.extent_core.specs.declared.extent.Extent.{Extent}
use Rattle.vtoc_core.specs.declared.volume.Track.{Track}
use Rattle.vtoc_core.specs.declared.volume.Track.TheVariants.{Aside, Free}
use Rattle.vtoc_core.specs.Extents.{five_largest, free_extents, is_free_track, planned}
use Rattle.vtoc_core.specs.Volumes.{Moves, count_of, marked}
use Rattle.mount_core.specs.Mounts.{MountedState}
use Rattle.place_core.specs.Volumes.{has_room}
use Rattle.vtoc_core.proofs.CountLemmas.{moves}
use Rattle.vtoc_core.proofs.PlanLemmas.{IsPlan, planned_is, planned_refused}

apart : Free ≢ Aside
apart e = true≢false (ap is_free_track e)

-- what is planned is free
planned_free : (ts : List Track) (n : ℕ) (list : List Extent) → planned (free_extents ts) n ≡ Some list → n ≤ count_of Free ts
planned_free ts n list h =
    let p : IsPlan ts n list = planned_is ts n list h in
    let m : Moves Free Aside n ts (marked Aside list ts) = subst (λ (k : ℕ). Moves Free Aside k ts (marked Aside list ts)) p.tracks (moves Free Aside list ts apart p.free) in
    omega (arith, m.fewer)

few_lack : (ts : List Track) (n : ℕ) → count_of Free ts < n → five_largest (free_extents ts) < n
few_lack ts n few = by (planned (free_extents ts) n) refl
  where
    by : (o : Option (List Extent)) → planned (free_extents ts) n ≡ o → five_largest (free_extents ts) < n
    by None h = planned_refused (free_extents ts) n h
    by (Some list) h = absurd (omega (arith, few, planned_free ts n list h))

pub few_lack_room : (m : MountedState) (n : ℕ) → count_of Free m.volume.tracks < n → has_room n (Some m) ≡ false
few_lack_room m n few =
    let five : ℕ = five_largest (free_extents m.volume.tracks) in
    false_from_ne_true (nat_le n five) (λ h. omega (arith, few_lack m.volume.tracks n few, leb-true n five h))
