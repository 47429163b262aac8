-- One list more kept among volumes, on that of a serial.
use Rattle.std.proofs.Common.{◌≡◌, ◌≢◌, ℕ, ◌&&◌, Bool, true, false, cond, List, [], ◌∷◌, Option, Some, None, map, refl, sym, ap, ◌∙◌, arith}
use Rattle.std.specs.FinMap.{get, get-insert}
use Rattle.std.specs.Option.{option_map}
use Rattle.std.specs.Str.{bytes_eq}
use Rattle.std.proofs.lemmas.Bool.{leb-true, true≢false}
use Rattle.std.proofs.lemmas.Bool.Decides.{same_from_decides}
use Rattle.std.proofs.lemmas.Slice.Eq.{bytes_eq-Decides}
use Rattle.extent_core.specs.declared.extent.Extent.{Extent}
use Rattle.vtoc_core.specs.declared.entry.SetKey.{SetKey}
use Rattle.vtoc_core.specs.declared.volume.Track.{Track}
use Rattle.vtoc_core.specs.declared.volume.Track.TheVariants.{Aside, Free, InSet}
use Rattle.vtoc_core.specs.Extents.{five_largest, free_extents, planned, tracks_in}
use Rattle.vtoc_core.specs.Volumes.{Moves, marked}
use Rattle.vtoc_core.proofs.CountLemmas.{moves}
use Rattle.vtoc_core.proofs.PlanLemmas.{IsPlan, planned_is, planned_refused}
use Rattle.mount_core.specs.declared.place.KeptPlace.{KeptPlace}
use Rattle.mount_core.specs.Mounts.{MountedState}
use Rattle.mount_core.proofs.Places.{place_total}
use Rattle.shared_core.specs.Rooms.{all_tracks, is_same_place, room_of}
use Rattle.shared_core.specs.Shown.{data_of, kept_extents, mounted_in, set_on}
use Rattle.shared_core.proofs.Making.{same_in_order}
use Rattle.place_core.specs.Keepings.{keep_on}
use Rattle.place_core.specs.Volumes.{aside_by, changed_on, has_room}
use Rattle.place_core.proofs.KeptAside.{keep_is, keep_serial}

names_turned : (a b : List ℕ) → bytes_eq a b ≡ bytes_eq b a
names_turned a b =
    same_from_decides (bytes_eq a b) (bytes_eq b a) (bytes_eq-Decides a b) (λ h. sym ((bytes_eq-Decides b a).0 h), λ h. (bytes_eq-Decides b a).1 (sym h))

twice : {Y : Type 0} (b : Bool) (x y r : Y) → cond b x r ≡ cond b x (cond b y r)
twice true x y r = refl
twice false x y r = refl

swapped : {Y : Type 0} (a b : Bool) (x y r : Y) → (a ≡ true → b ≡ true → ⊥) → cond a x (cond b y r) ≡ cond b y (cond a x r)
swapped true true x y r h = absurd (h refl refl)
swapped true false x y r h = refl
swapped false b x y r h = refl

-- the volume of a serial, where that of another is changed
module _ (f : MountedState → MountedState) (serial : List ℕ) (stays : (m : MountedState) → (f m).serial ≡ m.serial) where
  same_mount : (m : MountedState) (v : List ℕ) → bytes_eq m.serial serial ≡ true → bytes_eq m.serial v ≡ bytes_eq v serial
  same_mount m v e = ap (λ s. bytes_eq s v) ((bytes_eq-Decides m.serial serial).0 e) ∙ names_turned serial v

  other_mount : (m : MountedState) (v : List ℕ) → bytes_eq m.serial serial ≡ false → bytes_eq m.serial v ≡ true → bytes_eq v serial ≡ true → ⊥
  other_mount m v e g h = true≢false (sym (ap (bytes_eq m.serial) (sym ((bytes_eq-Decides v serial).0 h)) ∙ g) ∙ e)

  changed_step : (v : List ℕ) (m : MountedState) (ms : List MountedState) (b : Bool) → bytes_eq m.serial serial ≡ b →
      mounted_in (changed_on f serial ms) v ≡ cond (bytes_eq v serial) (option_map f (mounted_in ms serial)) (mounted_in ms v) →
      mounted_in (cond b (f m ∷ ms) (m ∷ changed_on f serial ms)) v
      ≡ cond (bytes_eq v serial) (option_map f (cond b (Some m) (mounted_in ms serial))) (mounted_in (m ∷ ms) v)
  changed_step v m ms true e ih =
      ap (λ t. cond (bytes_eq t v) (Some (f m)) (mounted_in ms v)) (stays m)
      ∙ ap (λ b. cond b (Some (f m)) (mounted_in ms v)) (same_mount m v e)
      ∙ twice (bytes_eq v serial) (Some (f m)) (Some m) (mounted_in ms v)
      ∙ ap (λ b. cond (bytes_eq v serial) (Some (f m)) (cond b (Some m) (mounted_in ms v))) (sym (same_mount m v e))
  changed_step v m ms false e ih =
      ap (cond (bytes_eq m.serial v) (Some m)) ih
      ∙ swapped (bytes_eq m.serial v) (bytes_eq v serial) (Some m) (option_map f (mounted_in ms serial)) (mounted_in ms v) (other_mount m v e)

  nothing_mounted : (b : Bool) → ◌≡◌ {A = Option MountedState} None (cond b None None)
  nothing_mounted true = refl
  nothing_mounted false = refl

  pub changed_in : (v : List ℕ) (volumes : List MountedState) →
      mounted_in (changed_on f serial volumes) v ≡ cond (bytes_eq v serial) (option_map f (mounted_in volumes serial)) (mounted_in volumes v)
  changed_in v [] = nothing_mounted (bytes_eq v serial)
  changed_in v (m ∷ ms) = changed_step v m ms (bytes_eq m.serial serial) refl (changed_in v ms)

  rooms_step : (m : MountedState) (ms : List MountedState) (b : Bool) → room_of (f m) ≡ room_of m → map room_of (changed_on f serial ms) ≡ map room_of ms →
      map room_of (cond b (f m ∷ ms) (m ∷ changed_on f serial ms)) ≡ map room_of (m ∷ ms)
  rooms_step m ms true h ih = ap (λ r. r ∷ map room_of ms) h
  rooms_step m ms false h ih = ap (λ rs. room_of m ∷ rs) ih

  pub rooms_stay : ((m : MountedState) → room_of (f m) ≡ room_of m) → (volumes : List MountedState) → map room_of (changed_on f serial volumes) ≡ map room_of volumes
  rooms_stay h [] = refl
  rooms_stay h (m ∷ ms) = rooms_step m ms (bytes_eq m.serial serial) (h m) (rooms_stay h ms)

-- so many tracks are kept at a place on the volume of a serial, and nothing else changes
pub record KeepsOne (old new : List MountedState) (here : KeptPlace) (serial : List ℕ) (n : ℕ) : Type 0 where
  pub list : List Extent
  pub tracks : tracks_in list ≡ n
  pub kept : (v : List ℕ) (at : KeptPlace) →
      kept_extents (mounted_in new v) at ≡ cond (is_same_place at here && bytes_eq v serial) (Some list) (kept_extents (mounted_in old v) at)
  pub sets : (v : List ℕ) (k : SetKey) → set_on (mounted_in new v) k ≡ set_on (mounted_in old v) k
  pub rooms : map room_of new ≡ map room_of old

free≢aside : Free ≢ Aside
free≢aside h = absurd cc

in_set≢free : InSet ≢ Free
in_set≢free h = absurd cc

in_set≢aside : InSet ≢ Aside
in_set≢aside h = absurd cc

same_tracks : (tracks : List Track) (n : ℕ) (list : List Extent) → planned (free_extents tracks) n ≡ Some list → all_tracks (marked Aside list tracks) ≡ all_tracks tracks
same_tracks tracks n list p =
    let x : IsPlan tracks n list = planned_is tracks n list p in
    let m : Moves Free Aside (tracks_in list) tracks (marked Aside list tracks) = moves Free Aside list tracks free≢aside x.free in
    omega (arith, m.fewer, m.more, m.others InSet in_set≢free in_set≢aside)

and_true : (a : Bool) → (a && true) ≡ a
and_true true = refl
and_true false = refl

and_false : (a : Bool) → (a && false) ≡ false
and_false true = refl
and_false false = refl

module _ (here : KeptPlace) (n : ℕ) where
  room_by : (m : MountedState) (o : Option (List Extent)) → planned (free_extents m.volume.tracks) n ≡ o → room_of (aside_by o here m) ≡ room_of m
  room_by m None p = refl
  room_by m (Some list) p = λ i. record { serial = m.serial; all = same_tracks m.volume.tracks n list p i }

  pub keep_room : (m : MountedState) → room_of (keep_on here n m) ≡ room_of m
  keep_room m = room_by m (planned (free_extents m.volume.tracks) n) refl

  sets_by : (m : MountedState) (o : Option (List Extent)) (k : SetKey) → option_map data_of (get (aside_by o here m).volume.sets k) ≡ option_map data_of (get m.volume.sets k)
  sets_by m None k = refl
  sets_by m (Some list) k = refl

  keep_sets : (o : Option MountedState) (k : SetKey) → set_on (option_map (keep_on here n) o) k ≡ set_on o k
  keep_sets None k = refl
  keep_sets (Some m) k = sets_by m (planned (free_extents m.volume.tracks) n) k

  module _ (volumes : List MountedState) (serial : List ℕ) where
    abbrev now : List MountedState
    now = changed_on (keep_on here n) serial volumes

    sets_step : (v : List ℕ) (k : SetKey) (b : Bool) → bytes_eq v serial ≡ b →
        set_on (cond b (option_map (keep_on here n) (mounted_in volumes serial)) (mounted_in volumes v)) k ≡ set_on (mounted_in volumes v) k
    sets_step v k true e =
        keep_sets (mounted_in volumes serial) k ∙ ap (λ s. set_on (mounted_in volumes s) k) (sym ((bytes_eq-Decides v serial).0 e))
    sets_step v k false e = refl

    sets_stay : (v : List ℕ) (k : SetKey) → set_on (mounted_in now v) k ≡ set_on (mounted_in volumes v) k
    sets_stay v k =
        ap (λ o. set_on o k) (changed_in (keep_on here n) serial (keep_serial here n) v volumes) ∙ sets_step v k (bytes_eq v serial) refl

    module _ (x : MountedState) (found : mounted_in volumes serial ≡ Some x) (list : List Extent) (plan : planned (free_extents x.volume.tracks) n ≡ Some list) where
      put_here : (at : KeptPlace) → get (keep_on here n x).kept at ≡ cond (is_same_place at here) (Some list) (get x.kept at)
      put_here at =
          ap (λ (m : MountedState). get m.kept at) (keep_is here n x list plan)
          ∙ get-insert place_total x.kept here list at
          ∙ ap (λ b. cond b (Some list) (get x.kept at)) (same_in_order at here)

      kept_step : (v : List ℕ) (at : KeptPlace) (b : Bool) → bytes_eq v serial ≡ b →
          kept_extents (cond b (option_map (keep_on here n) (mounted_in volumes serial)) (mounted_in volumes v)) at
          ≡ cond (is_same_place at here && b) (Some list) (kept_extents (mounted_in volumes v) at)
      kept_step v at true e =
          ap (λ o. kept_extents (option_map (keep_on here n) o) at) found
          ∙ put_here at
          ∙ sym (ap (λ s. cond (is_same_place at here && true) (Some list) (kept_extents (mounted_in volumes s) at)) ((bytes_eq-Decides v serial).0 e)
          ∙ ap (λ o. cond (is_same_place at here && true) (Some list) (kept_extents o at)) found
          ∙ ap (λ b. cond b (Some list) (get x.kept at)) (and_true (is_same_place at here)))
      kept_step v at false e = sym (ap (λ b. cond b (Some list) (kept_extents (mounted_in volumes v) at)) (and_false (is_same_place at here)))

      one_kept : KeepsOne volumes now here serial n
      one_kept = record {
        list = list;
        tracks = (planned_is x.volume.tracks n list plan).tracks;
        kept = λ v at.
            ap (λ o. kept_extents o at) (changed_in (keep_on here n) serial (keep_serial here n) v volumes) ∙ kept_step v at (bytes_eq v serial) refl;
        sets = sets_stay;
        rooms = rooms_stay (keep_on here n) serial (keep_serial here n) keep_room volumes;
      }

    by_plan : (x : MountedState) → mounted_in volumes serial ≡ Some x → has_room n (Some x) ≡ true → (o : Option (List Extent)) →
        planned (free_extents x.volume.tracks) n ≡ o → KeepsOne volumes now here serial n
    by_plan x found room None plan =
        absurd (omega (arith, planned_refused (free_extents x.volume.tracks) n plan, leb-true n (five_largest (free_extents x.volume.tracks)) room))
    by_plan x found room (Some list) plan = one_kept x found list plan

    by_volume : (o : Option MountedState) → mounted_in volumes serial ≡ o → has_room n o ≡ true → KeepsOne volumes now here serial n
    by_volume None found room = absurd cc
    by_volume (Some x) found room = by_plan x found room (planned (free_extents x.volume.tracks) n) refl

    pub keeps_one : has_room n (mounted_in volumes serial) ≡ true → KeepsOne volumes now here serial n
    keeps_one room = by_volume (mounted_in volumes serial) refl room
