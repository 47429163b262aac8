-- What is kept for a job, given back on each volume.
use Rattle.std.proofs.Common.{◌≡◌, ℕ, ◌==◌, not, Bool, true, false, cond, List, [], ◌∷◌, Option, Some, None, map, refl, sym, ap, subst, ◌∙◌, inl, inr}
use Rattle.std.specs.FinMap.{get}
use Rattle.std.specs.List.{AllZip}
use Rattle.std.specs.Option.{option_map}
use Rattle.std.specs.Str.{bytes_eq}
use Rattle.extent_core.specs.declared.extent.Extent.{Extent}
use Rattle.vtoc_core.specs.declared.entry.SetKey.{SetKey}
use Rattle.world_meaning.specs.Tracks.{kept_without}
use Rattle.mount_core.specs.declared.place.KeptPlace.{KeptPlace}
use Rattle.mount_core.specs.Mounts.{MountedState}
use Rattle.shared_core.specs.Extents.{FollowOn, Follows, StaysKept, extents_of, extents_on}
use Rattle.shared_core.specs.Giving.{whole_front}
use Rattle.shared_core.specs.Rooms.{room_of}
use Rattle.shared_core.specs.Shown.{data_of, kept_extents, mounted_in, set_on}
use Rattle.shared_core.specs.Tracks.{kept_shown}
use Rattle.shared_core.proofs.Showing.{part_shown}
use Rattle.place_core.specs.Keepings.{IsGivenBackOn}

-- the volumes of a serial in two lists that are related volume by volume
module _ (R : MountedState → MountedState → Type 0) (serials : (x y : MountedState) → R x y → y.serial ≡ x.serial) (P : Option MountedState → Option MountedState → Type 0)
    (none : P None None) (some : (x y : MountedState) → R x y → P (Some x) (Some y)) (serial : List ℕ) where
  found_step : (x y : MountedState) (a b : Bool) (o p : Option MountedState) → a ≡ b → R x y → P o p → P (cond a (Some x) o) (cond b (Some y) p)
  found_step x y true true o p e r h = some x y r
  found_step x y true false o p e r h = absurd cc
  found_step x y false true o p e r h = absurd cc
  found_step x y false false o p e r h = h

  pub found_zip : (old new : List MountedState) → AllZip R old new → P (mounted_in old serial) (mounted_in new serial)
  found_zip [] [] a = none
  found_zip [] (y ∷ ys) a = absurd a
  found_zip (x ∷ xs) [] a = absurd a
  found_zip (x ∷ xs) (y ∷ ys) a =
      found_step x y (bytes_eq x.serial serial) (bytes_eq y.serial serial) (mounted_in xs serial) (mounted_in ys serial)
      (ap (λ s. bytes_eq s serial) (sym (serials x y a.0))) a.0 (found_zip xs ys a.1)

none_out : (b : Bool) → ◌≡◌ {A = Option (List Extent)} None (cond b None None)
none_out true = refl
none_out false = refl

turned : (b : Bool) (x : Option (List Extent)) → cond b None x ≡ cond (not b) x None
turned true x = refl
turned false x = refl

module _ (job : ℕ) (old new : List MountedState) (a : AllZip (IsGivenBackOn job) old new) where
  kept_back : (serial : List ℕ) (at : KeptPlace) →
      kept_extents (mounted_in new serial) at ≡ cond (not (at.job == job)) (kept_extents (mounted_in old serial) at) None
  kept_back serial at =
      found_zip (IsGivenBackOn job) (λ x y r. r.serial) (λ o p. kept_extents p at ≡ cond (at.job == job) None (kept_extents o at))
      (none_out (at.job == job)) (λ x y r. r.kept at) serial old new a
      ∙ turned (at.job == job) (kept_extents (mounted_in old serial) at)

  pub shown_back : kept_shown new ≡ kept_without (kept_shown old) job
  shown_back i serial =
      part_shown (λ at. not (at.job == job)) (λ k. not (k.job == job)) (λ e. refl) (mounted_in old serial) (mounted_in new serial) (kept_back serial) i

  pub sets_back : (k : SetKey) (serial : List ℕ) → set_on (mounted_in new serial) k ≡ set_on (mounted_in old serial) k
  sets_back k serial =
      found_zip (IsGivenBackOn job) (λ x y r. r.serial) (λ o p. set_on p k ≡ set_on o k) refl
      (λ x y r. ap (λ sets. option_map data_of (get sets k)) r.sets) serial old new a

-- what becomes of a volume's extents
stays_or_not : (b : Bool) (x y : Option (List Extent)) → y ≡ cond b None x → StaysKept x y
stays_or_not true x y e = inr e
stays_or_not false x y e = inl e

follows_same : (old new : Option MountedState) (x y : Option (List Extent)) → y ≡ x → Follows old new x y
follows_same old new x y e = subst (λ z. Follows old new x z) (sym e) (by x)
  where
    by : (z : Option (List Extent)) → Follows old new z z
    by None = tt
    by (Some list) = inl (whole_front list)

follows_back : (job : ℕ) (x y : MountedState) → IsGivenBackOn job x y → FollowOn (Some x) (Some y)
follows_back job x y r = record {
  sets = λ k. follows_same (Some x) (Some y) (extents_on (Some x) k) (extents_on (Some y) k) (ap (λ sets. option_map extents_of (get sets k)) r.sets);
  kept = λ at. stays_or_not (at.job == job) (get x.kept at) (get y.kept at) (r.kept at);
  unusable = r.unusable;
}

nothing_follows : FollowOn None None
nothing_follows = record { sets = λ k. tt; kept = λ at. inl refl; unusable = λ n. refl }

pub follow_back : (job : ℕ) (old new : List MountedState) → AllZip (IsGivenBackOn job) old new → (serial : List ℕ) → FollowOn (mounted_in old serial) (mounted_in new serial)
follow_back job old new a serial =
    found_zip (IsGivenBackOn job) (λ x y r. r.serial) (λ o p. FollowOn o p) nothing_follows (follows_back job) serial old new a

pub rooms_zip : (job : ℕ) (old new : List MountedState) → AllZip (IsGivenBackOn job) old new → map room_of new ≡ map room_of old
rooms_zip job [] [] a = refl
rooms_zip job [] (y ∷ ys) a = absurd a
rooms_zip job (x ∷ xs) [] a = absurd a
rooms_zip job (x ∷ xs) (y ∷ ys) a = λ i. record { serial = a.0.serial i; all = a.0.all i } ∷ rooms_zip job xs ys a.1 i
