-- Tracks that one volume's sets lose are free, and the other way round.
use Rattle.std.proofs.Common.{◌≡◌, ℕ, ◌+◌, Bool, true, false, cond, List, [], ◌∷◌, ◌++◌, Option, Some, None, map, refl, sym, ap, subst, ◌∙◌, arith}
use Rattle.std.specs.FinMap.{get, keys}
use Rattle.std.specs.List.{All, sum_by}
use Rattle.std.specs.Option.{option_map}
use Rattle.std.specs.Str.{bytes_eq}
use Rattle.std.proofs.lemmas.List.Elements.{All-head, All-tail}
use Rattle.std.proofs.lemmas.Option.{none-some, same_Some}
use Rattle.vtoc_core.specs.declared.entry.SetKey.{SetKey}
use Rattle.vtoc_core.specs.declared.volume.Track.TheVariants.{Free}
use Rattle.vtoc_core.specs.Extents.{tracks_in}
use Rattle.vtoc_core.specs.Volumes.{count_of, extents_of_all}
use Rattle.world_meaning.specs.Lenses.{WorldStore}
use Rattle.world_meaning.specs.Tracks.{IsConserved, is_touched, kept_on, tracks_of, used_by}
use Rattle.world_meaning.specs.Worlds.{Shared}
use Rattle.mount_core.specs.Kept.{extents_kept}
use Rattle.mount_core.specs.Mounts.{MountedState}
use Rattle.shared_core.specs.declared.store.SharedStore.{SharedStore}
use Rattle.shared_core.specs.Laws.{TracksAreConserved}
use Rattle.shared_core.specs.Rooms.{Room, all_tracks, room_of}
use Rattle.shared_core.specs.Shown.{data_of, mounted_in, set_on}
use Rattle.shared_core.specs.Tracks.{AddsUp, IsShown, VolumesAddUp, free_tracks, kept_tracks}
use Rattle.shared_core.proofs.SetTracks.{not_among, not_among_both, once, once-are_different, once-touches, sum_of_all}
use Rattle.shared_core.proofs.Showing.{sum_shown}

-- sums that are equal part by part
sums : (a b c x y z free kept used was_free was_kept was_used : ℕ) → a ≡ free → b ≡ kept → c ≡ used → x ≡ was_free → y ≡ was_kept → z ≡ was_used →
    free + (kept + used) ≡ was_free + (was_kept + was_used) → a + (b + c) ≡ x + (y + z)
sums a b c x y z free kept used was_free was_kept was_used h i j k l m e = omega arith

-- the room of the volume of a serial
abbrev room_in : List Room → List ℕ → Option Room
room_in [] serial = None
room_in (r ∷ rooms) serial = cond (bytes_eq r.serial serial) (Some r) (room_in rooms serial)

its_room_step : (b : Bool) (m : MountedState) (o : Option MountedState) (r : Option Room) → option_map room_of o ≡ r →
    option_map room_of (cond b (Some m) o) ≡ cond b (Some (room_of m)) r
its_room_step true m o r h = refl
its_room_step false m o r h = h

its_room : (volumes : List MountedState) (serial : List ℕ) → option_map room_of (mounted_in volumes serial) ≡ room_in (map room_of volumes) serial
its_room [] serial = refl
its_room (m ∷ ms) serial = its_room_step (bytes_eq m.serial serial) m (mounted_in ms serial) (room_in (map room_of ms) serial) (its_room ms serial)

-- what holds of each volume holds of that of a serial
found_step : (P : MountedState → Type 0) (b : Bool) (m x : MountedState) (o : Option MountedState) → P m → (o ≡ Some x → P x) → cond b (Some m) o ≡ Some x → P x
found_step P true m x o p h e = let q : m ≡ x = same_Some m x e in let R : MountedState → Type 0 = P in subst R q p
found_step P false m x o p h e = h e

found_in : (P : MountedState → Type 0) (volumes : List MountedState) (serial : List ℕ) (x : MountedState) → All P volumes → mounted_in volumes serial ≡ Some x → P x
found_in P [] serial x a e = absurd (none-some x e)
found_in P (m ∷ ms) serial x a e =
    found_step P (bytes_eq m.serial serial) m x (mounted_in ms serial) (All-head P m ms a) (found_in P ms serial x (All-tail P m ms a)) e

-- tracks are free, kept or in sets
by_use : (m : MountedState) → AddsUp m →
    all_tracks m.volume.tracks ≡ count_of Free m.volume.tracks + (tracks_in (extents_kept m.kept) + tracks_in (extents_of_all m.volume.sets))
by_use m a = omega (arith, a.aside, a.in_sets)

-- what is shown of the volume of a serial
module _ (s : SharedStore) (shared : Shared) (shown : IsShown s shared) (serial : List ℕ) (o : Option MountedState) (e : mounted_in s.volumes serial ≡ o) where
  set_is : (k : SetKey) → shared.store.set k serial ≡ set_on o k
  set_is k = ap (λ (w : WorldStore). w.set k serial) shown.store ∙ ap (λ v. set_on v k) e

  used_is : (keys : List SetKey) → used_by shared.store serial keys ≡ sum_by (λ k. tracks_of (set_on o k)) keys
  used_is keys = ap (λ (w : WorldStore). used_by w serial keys) shown.store ∙ ap (λ v. sum_by (λ k. tracks_of (set_on v k)) keys) e

  free_is : shared.free serial ≡ free_tracks o
  free_is = shown.free serial ∙ ap free_tracks e

  kept_is : kept_on shared.kept serial ≡ sum_by (λ k. k.tracks) (kept_tracks o)
  kept_is = ap (λ kept. kept_on kept serial) shown.kept ∙ ap (λ v. sum_by (λ k. k.tracks) (kept_tracks v)) e

module _ (old new : SharedStore) (before after : Shared) (shown_old : IsShown old before) (shown_new : IsShown new after) (serial : List ℕ) where
  no_volume : mounted_in old.volumes serial ≡ None → mounted_in new.volumes serial ≡ None → IsConserved before after serial
  no_volume e f = record {
    touched = [];
    once = refl;
    others = λ k t. set_is new after shown_new serial None f k ∙ sym (set_is old before shown_old serial None e k);
    sum = omega (
      arith,
      free_is new after shown_new serial None f,
      kept_is new after shown_new serial None f,
      used_is new after shown_new serial None f [],
      free_is old before shown_old serial None e,
      kept_is old before shown_old serial None e,
      used_is old before shown_old serial None e [],
    );
  }

  module _ (m n : MountedState) (e : mounted_in old.volumes serial ≡ Some m) (f : mounted_in new.volumes serial ≡ Some n) where
    abbrev all_keys : List SetKey
    all_keys = keys m.volume.sets ++ keys n.volume.sets

    nothing_in : (k : SetKey) → is_touched (once all_keys) k ≡ false → (get m.volume.sets k ≡ None) × (get n.volume.sets k ≡ None)
    nothing_in k t =
        let p = not_among_both (keys m.volume.sets) (keys n.volume.sets) k (once-touches all_keys k t) in
        (not_among m.volume.sets k p.0, not_among n.volume.sets k p.1)

    one_volume : room_of n ≡ room_of m → AddsUp m → AddsUp n → IsConserved before after serial
    one_volume r a b =
        let rooms : all_tracks n.volume.tracks ≡ all_tracks m.volume.tracks = ap (λ (room : Room). room.all) r in
        let sum_old : sum_by (λ k. tracks_of (set_on (Some m) k)) (once all_keys) ≡ tracks_in (extents_of_all m.volume.sets) =
        sum_of_all (once all_keys) m.volume.sets (once-are_different all_keys) (λ k t. (nothing_in k t).0) in
        let sum_new : sum_by (λ k. tracks_of (set_on (Some n) k)) (once all_keys) ≡ tracks_in (extents_of_all n.volume.sets) =
        sum_of_all (once all_keys) n.volume.sets (once-are_different all_keys) (λ k t. (nothing_in k t).1) in
        record {
          touched = once all_keys;
          once = once-are_different all_keys;
          others = λ k t.
              set_is new after shown_new serial (Some n) f k ∙ ap (option_map data_of) (nothing_in k t).1
              ∙ sym (set_is old before shown_old serial (Some m) e k ∙ ap (option_map data_of) (nothing_in k t).0);
          sum = sums (after.free serial) (kept_on after.kept serial) (used_by after.store serial (once all_keys))
              (before.free serial) (kept_on before.kept serial) (used_by before.store serial (once all_keys))
              (count_of Free n.volume.tracks) (tracks_in (extents_kept n.kept)) (tracks_in (extents_of_all n.volume.sets))
              (count_of Free m.volume.tracks) (tracks_in (extents_kept m.kept)) (tracks_in (extents_of_all m.volume.sets))
              (free_is new after shown_new serial (Some n) f)
              (kept_is new after shown_new serial (Some n) f ∙ sum_shown n)
              (used_is new after shown_new serial (Some n) f (once all_keys) ∙ sum_new)
              (free_is old before shown_old serial (Some m) e)
              (kept_is old before shown_old serial (Some m) e ∙ sum_shown m)
              (used_is old before shown_old serial (Some m) e (once all_keys) ∙ sum_old)
              (sym (by_use n b) ∙ rooms ∙ by_use m a);
        }

  by_volume : (o p : Option MountedState) → mounted_in old.volumes serial ≡ o → mounted_in new.volumes serial ≡ p → option_map room_of p ≡ option_map room_of o →
      VolumesAddUp old → VolumesAddUp new → IsConserved before after serial
  by_volume None None e f r a b = no_volume e f
  by_volume None (Some n) e f r a b = absurd (none-some (room_of n) (sym r))
  by_volume (Some m) None e f r a b = absurd (none-some (room_of m) r)
  by_volume (Some m) (Some n) e f r a b =
      one_volume m n e f (same_Some (room_of n) (room_of m) r)
      (found_in AddsUp old.volumes serial m a e) (found_in AddsUp new.volumes serial n b f)

pub conserved : TracksAreConserved
conserved old new a b rooms before after shown_old shown_new serial =
    by_volume old new before after shown_old shown_new serial (mounted_in old.volumes serial) (mounted_in new.volumes serial) refl refl
    (its_room new.volumes serial ∙ ap (λ r. room_in r serial) rooms ∙ sym (its_room old.volumes serial)) a b
