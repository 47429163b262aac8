-- The tracks of a sound volume that are in sets, and those that are aside.
use Rattle.std.proofs.Common.{◌≡◌, ◌≢◌, ℕ, suc, ◌+◌, ◌<◌, ◌≤◌, cond, List, [], ◌∷◌, length, Some, refl, ap, sym, ◌∙◌, arith, ⊎_elim}
use Rattle.std.specs.List.{slice_get}
use Rattle.std.proofs.lemmas.Bool.{cases_lt}
use Rattle.std.proofs.lemmas.Option.{same_Some}
use Rattle.vtoc_core.specs.declared.volume.Track.{Track}
use Rattle.vtoc_core.specs.declared.volume.Track.TheVariants.{Free, InSet, Unusable}
use Rattle.vtoc_core.specs.Extents.{tracks_in}
use Rattle.vtoc_core.specs.Volumes.{IsSoundVolume, VolumeState, count_of, extents_of_all, is_kind, marked, times_in}
use Rattle.vtoc_core.proofs.CountLemmas.{count-cons, counts_sum, kind_other, moves}
use Rattle.vtoc_core.proofs.KindLemmas.{free≢in_set, marked_in, marked_not_in}
use Rattle.mount_core.specs.Kept.{extents_kept}
use Rattle.mount_core.specs.Mounts.{MountedState}
use Rattle.shared_core.specs.Tracks.{AddsUp}

none_in_sets : (ts : List Track) → ((k : ℕ) → slice_get ts k ≢ Some InSet) → count_of InSet ts ≡ 0
none_in_sets [] h = refl
none_in_sets (t ∷ ts) h =
    let i : count_of InSet ts ≡ 0 = none_in_sets ts (λ k. h (suc k)) in
    let z : ◌≡◌ {A = ℕ} (cond (is_kind InSet t) 1 0) 0 = ap (λ b. cond b 1 0) (kind_other InSet t (λ q. h 0 (ap Some (sym q)))) in
    count-cons InSet t ts ∙ omega (arith, i, z)

module _ (v : VolumeState) (s : IsSoundVolume v) where
  freed : (k : ℕ) → slice_get (marked Free (extents_of_all v.sets) v.tracks) k ≢ Some InSet
  freed k h =
      ⊎_elim
      (λ (p : 0 < times_in k (extents_of_all v.sets)).
      free≢in_set (same_Some Free InSet (sym (marked_in Free (extents_of_all v.sets) v.tracks k InSet (s.in_sets.kinds k p) p) ∙ h)))
      (λ (p : times_in k (extents_of_all v.sets) ≤ 0).
      let q : 0 < times_in k (extents_of_all v.sets) = s.no_others k (sym (marked_not_in Free (extents_of_all v.sets) v.tracks k (omega arith)) ∙ h) in omega arith)
      (cases_lt 0 (times_in k (extents_of_all v.sets)))

  in_sets_are : count_of InSet v.tracks ≡ tracks_in (extents_of_all v.sets)
  in_sets_are =
      let m : count_of InSet (marked Free (extents_of_all v.sets) v.tracks) + tracks_in (extents_of_all v.sets) ≡ count_of InSet v.tracks =
      (moves InSet Free (extents_of_all v.sets) v.tracks (λ e. free≢in_set (sym e)) s.in_sets).fewer in
      let z : count_of InSet (marked Free (extents_of_all v.sets) v.tracks) ≡ 0 = none_in_sets (marked Free (extents_of_all v.sets) v.tracks) freed in
      omega (arith, m, z)

pub adds_up_by : (m : MountedState) → IsSoundVolume m.volume →
    count_of Free m.volume.tracks + tracks_in (extents_kept m.kept) + tracks_in (extents_of_all m.volume.sets) + count_of Unusable m.volume.tracks
    ≡ length m.volume.tracks →
    AddsUp m
adds_up_by m s sum = record {
  aside = omega (arith, counts_sum m.volume.tracks, in_sets_are m.volume s, sum);
  in_sets = in_sets_are m.volume s;
}
