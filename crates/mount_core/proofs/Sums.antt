-- The tracks of a volume add up.
use Rattle.std.proofs.Common.{◌≡◌, ◌≢◌, ℕ, suc, ◌+◌, ◌<◌, ◌≤◌, Bool, true, false, cond, List, [], ◌∷◌, length, Some, refl, ap, sym, ◌∙◌, arith, ⊎_elim}
use Rattle.std.specs.List.{slice_get}
use Rattle.std.proofs.lemmas.Bool.{cases_lt}
use Rattle.std.proofs.lemmas.Option.{same_Some}
use Rattle.vtoc_core.specs.declared.volume.Track.{Track}
use Rattle.vtoc_core.specs.declared.volume.Track.TheVariants.{Free, Aside, InSet, Unusable}
use Rattle.vtoc_core.specs.Extents.{tracks_in}
use Rattle.vtoc_core.specs.Volumes.{IsSoundVolume, VolumeState, count_of, extents_of_all, is_kind, marked, times_in}
use Rattle.vtoc_core.proofs.CountLemmas.{count-cons, counts_sum, moves}
use Rattle.vtoc_core.proofs.KindLemmas.{marked_in, marked_not_in}
use Rattle.mount_core.specs.Kept.{AreKept, Kept, extents_kept}

kind_is : (a b : Track) → is_kind a b ≡ true → b ≡ a
kind_is Free Free h = refl
kind_is Free Aside h = absurd cc
kind_is Free InSet h = absurd cc
kind_is Free Unusable h = absurd cc
kind_is Aside Free h = absurd cc
kind_is Aside Aside h = refl
kind_is Aside InSet h = absurd cc
kind_is Aside Unusable h = absurd cc
kind_is InSet Free h = absurd cc
kind_is InSet Aside h = absurd cc
kind_is InSet InSet h = refl
kind_is InSet Unusable h = absurd cc
kind_is Unusable Free h = absurd cc
kind_is Unusable Aside h = absurd cc
kind_is Unusable InSet h = absurd cc
kind_is Unusable Unusable h = refl

not_this : (kind t : Track) (b : Bool) → is_kind kind t ≡ b → (t ≢ kind) → ◌≡◌ {A = ℕ} (cond b 1 0) 0
not_this kind t true e n = absurd (n (kind_is kind t e))
not_this kind t false e n = refl

-- no track is of a kind
none_of : (kind : Track) (ts : List Track) → ((k : ℕ) → slice_get ts k ≢ Some kind) → count_of kind ts ≡ 0
none_of kind [] h = refl
none_of kind (t ∷ ts) h =
    let i : count_of kind ts ≡ 0 = none_of kind ts (λ k. h (suc k)) in
    let z : ◌≡◌ {A = ℕ} (cond (is_kind kind t) 1 0) 0 = not_this kind t (is_kind kind t) refl (λ q. h 0 (ap Some q)) in
    count-cons kind t ts ∙ omega (arith, i, z)

free≢in_set : Free ≢ InSet
free≢in_set h = absurd cc

in_set≢free : InSet ≢ Free
in_set≢free h = absurd cc

module _ (v : VolumeState) (s : IsSoundVolume v) where
  not_in_set : (k : ℕ) → slice_get (marked Free (extents_of_all v.sets) v.tracks) k ≢ Some InSet
  not_in_set k h =
      ⊎_elim
      (λ (p : 0 < times_in k (extents_of_all v.sets)).
      free≢in_set (same_Some Free InSet (sym (marked_in Free (extents_of_all v.sets) v.tracks k InSet (s.in_sets.kinds k p) p) ∙ h)))
      (λ (p : times_in k (extents_of_all v.sets) ≤ 0).
      let q : 0 < times_in k (extents_of_all v.sets) = s.no_others k (sym (marked_not_in Free (extents_of_all v.sets) v.tracks k (omega arith)) ∙ h) in omega arith)
      (cases_lt 0 (times_in k (extents_of_all v.sets)))

  -- the tracks of sets are those in their extents
  in_sets_are : count_of InSet v.tracks ≡ tracks_in (extents_of_all v.sets)
  in_sets_are =
      let m : count_of InSet (marked Free (extents_of_all v.sets) v.tracks) + tracks_in (extents_of_all v.sets) ≡ count_of InSet v.tracks =
      (moves InSet Free (extents_of_all v.sets) v.tracks in_set≢free s.in_sets).fewer in
      let z : count_of InSet (marked Free (extents_of_all v.sets) v.tracks) ≡ 0 = none_of InSet (marked Free (extents_of_all v.sets) v.tracks) not_in_set in
      omega (arith, m, z)

  pub add_up : (kept : Kept) → AreKept v.tracks kept →
      count_of Free v.tracks + tracks_in (extents_kept kept) + tracks_in (extents_of_all v.sets) + count_of Unusable v.tracks ≡ length v.tracks
  add_up kept a = omega (arith, counts_sum v.tracks, in_sets_are, a.count)
