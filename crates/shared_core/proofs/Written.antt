-- One set of a volume written, and what it is among all volumes.
use Rattle.std.proofs.Common.{◌≡◌, ◌≢◌, ℕ, Bool, true, false, ◌&&◌, cond, List, Option, Some, None, get_or, slice_set, refl, sym, subst, ap, ◌∙◌, arith}
use Rattle.std.specs.FinMap.{get, insert, remove}
use Rattle.std.specs.Option.{option_map}
use Rattle.std.specs.Str.{bytes_eq}
use Rattle.std.proofs.lemmas.Option.{get_or_from_slice_get}
use Rattle.vtoc_core.specs.declared.entry.SetEntry.{SetEntry}
use Rattle.vtoc_core.specs.declared.entry.SetKey.{SetKey}
use Rattle.vtoc_core.specs.declared.volume.Track.{Track}
use Rattle.vtoc_core.specs.declared.volume.Track.TheVariants.{Aside, Free, InSet}
use Rattle.vtoc_core.specs.Entries.{Sets, changed, changed_by, same_key}
use Rattle.vtoc_core.specs.Volumes.{Moves}
use Rattle.jcl_meaning.specs.declared.store.DataSet.{DataSet}
use Rattle.mount_core.specs.declared.place.KeptPlace.{KeptPlace}
use Rattle.mount_core.specs.Kept.{Kept}
use Rattle.mount_core.specs.Mounts.{MountedState}
use Rattle.shared_core.specs.Rooms.{all_tracks, is_same_place}
use Rattle.shared_core.specs.Shown.{data_of, kept_extents, mounted_in, set_on}
use Rattle.shared_core.specs.Writes.{Changes, ChangesOn, IsFirstMounted, Keeps, KeepsOn, KeepsOthers, KeepsOthersOn, Writes, WritesOn}
use Rattle.shared_core.proofs.WorldKeys.{names_same, set_put, set_taken}
use Rattle.vtoc_core.proofs.PlaceLemmas.{keys_same}

-- where there is nothing a change writes nothing
nothing_changed : (b : Bool) (f : DataSet → DataSet) (x r : Option DataSet) → x ≡ None → (b ≡ true → r ≡ x) → r ≡ cond b (option_map f x) r
nothing_changed true f x r n h = h refl ∙ n ∙ sym (ap (option_map f) n)
nothing_changed false f x r n h = refl

pub not_there_on : (f : DataSet → DataSet) (m : MountedState) (k : SetKey) → get m.volume.sets k ≡ None → ChangesOn f m m k
not_there_on f m k n = (
  record {
    set = λ q. nothing_changed (same_key q k) f (set_on (Some m) k) (set_on (Some m) q) (ap (option_map data_of) n) (λ e. ap (set_on (Some m)) (keys_same q k e));
    serial = refl;
    all = refl;
  },
  refl,
)

pub at_its_place : (volumes : List MountedState) (q k : SetKey) (v serial : List ℕ) → (same_key q k && bytes_eq v serial) ≡ true →
    set_on (mounted_in volumes v) q ≡ set_on (mounted_in volumes serial) k
at_its_place volumes q k v serial e = parted (same_key q k) (bytes_eq v serial) refl refl e
  where
    parted : (a b : Bool) → same_key q k ≡ a → bytes_eq v serial ≡ b → (a && b) ≡ true → set_on (mounted_in volumes v) q ≡ set_on (mounted_in volumes serial) k
    parted true true f g e = λ i. set_on (mounted_in volumes (names_same v serial g i)) (keys_same q k f i)
    parted true false f g e = absurd cc
    parted false b f g e = absurd cc

pub not_there : (f : DataSet → DataSet) (volumes : List MountedState) (k : SetKey) (serial : List ℕ) → set_on (mounted_in volumes serial) k ≡ None →
    Changes f volumes volumes k serial
not_there f volumes k serial n = (
  record {
    set = λ q v.
        nothing_changed (same_key q k && bytes_eq v serial) f (set_on (mounted_in volumes serial) k) (set_on (mounted_in volumes v) q) n
        (at_its_place volumes q k v serial);
    rooms = refl;
  },
  λ v at. refl,
)

-- the map with one entry put, taken out or changed
shown_if : (b : Bool) (x r : Option SetEntry) → option_map data_of (cond b x r) ≡ cond b (option_map data_of x) (option_map data_of r)
shown_if true x r = refl
shown_if false x r = refl

module _ (old new : MountedState) (k : SetKey) (serial : new.serial ≡ old.serial) (all : all_tracks new.volume.tracks ≡ all_tracks old.volume.tracks) where
  pub put_on : (e : SetEntry) → new.volume.sets ≡ insert old.volume.sets k e → WritesOn old new k (Some (data_of e))
  put_on e p = record {
    set = λ q.
        ap (λ (m : Sets). option_map data_of (get m q)) p
        ∙ ap (option_map data_of) (set_put old.volume.sets k e q)
        ∙ shown_if (same_key q k) (Some e) (get old.volume.sets q);
    serial = serial;
    all = all;
  }

  pub taken_on : new.volume.sets ≡ remove old.volume.sets k → WritesOn old new k None
  taken_on p = record {
    set = λ q.
        ap (λ (m : Sets). option_map data_of (get m q)) p
        ∙ ap (option_map data_of) (set_taken old.volume.sets k q)
        ∙ shown_if (same_key q k) None (get old.volume.sets q);
    serial = serial;
    all = all;
  }

  changed_step : (f : SetEntry → SetEntry) (g : DataSet → DataSet) (o : Option SetEntry) → get old.volume.sets k ≡ o →
      ((e : SetEntry) → o ≡ Some e → data_of (f e) ≡ g (data_of e)) → (q : SetKey) →
      option_map data_of (get (changed_by o old.volume.sets k f) q) ≡ cond (same_key q k) (option_map g (option_map data_of o)) (set_on (Some old) q)
  changed_step f g None n h q =
      nothing_changed (same_key q k) g None (set_on (Some old) q) refl (λ e. ap (set_on (Some old)) (keys_same q k e) ∙ ap (option_map data_of) n)
  changed_step f g (Some e) n h q =
      ap (option_map data_of) (set_put old.volume.sets k (f e) q)
      ∙ shown_if (same_key q k) (Some (f e)) (get old.volume.sets q)
      ∙ ap (λ d. cond (same_key q k) (Some d) (set_on (Some old) q)) (h e refl)

  pub changed_on : (f : SetEntry → SetEntry) (g : DataSet → DataSet) → new.volume.sets ≡ changed old.volume.sets k f →
      ((e : SetEntry) → get old.volume.sets k ≡ Some e → data_of (f e) ≡ g (data_of e)) → new.kept ≡ old.kept → ChangesOn g old new k
  changed_on f g p h kept = (
    record {
      set = λ q. ap (λ (m : Sets). option_map data_of (get m q)) p ∙ changed_step f g (get old.volume.sets k) refl h q;
      serial = serial;
      all = all;
    },
    kept,
  )

-- tracks that move between free, aside and in sets are as many
module _ (n : ℕ) (old new : List Track) where
  aside_is_other : (Aside ≢ Free) × (Aside ≢ InSet)
  aside_is_other = (λ e. absurd cc, λ e. absurd cc)

  free_is_other : (Free ≢ Aside) × (Free ≢ InSet)
  free_is_other = (λ e. absurd cc, λ e. absurd cc)

  pub taken_all : Moves Free InSet n old new → all_tracks new ≡ all_tracks old
  taken_all m = omega (arith, m.fewer, m.more, m.others Aside aside_is_other.0 aside_is_other.1)

  pub used_all : Moves Aside InSet n old new → all_tracks new ≡ all_tracks old
  used_all m = omega (arith, m.fewer, m.more, m.others Free free_is_other.0 free_is_other.1)

  pub freed_all : Moves InSet Free n old new → all_tracks new ≡ all_tracks old
  freed_all m = omega (arith, m.fewer, m.more, m.others Aside aside_is_other.1 aside_is_other.0)

-- what is written on the volume of a serial is written among all
written_step : (q : SetKey) (b c : Bool) (new its : MountedState) (o : Option MountedState) (there : Option DataSet) → (c ≡ true → o ≡ Some its) →
    set_on (Some new) q ≡ cond b there (set_on (Some its) q) → set_on (cond c (Some new) o) q ≡ cond (b && c) there (set_on o q)
written_step q true true new its o there h w = w
written_step q false true new its o there h w = w ∙ ap (λ o. set_on o q) (sym (h refl))
written_step q true false new its o there h w = refl
written_step q false false new its o there h w = refl

kept_step : (at : KeptPlace) (c : Bool) (new its : MountedState) (o : Option MountedState) → (c ≡ true → o ≡ Some its) → get new.kept at ≡ get its.kept at →
    kept_extents (cond c (Some new) o) at ≡ kept_extents o at
kept_step at true new its o h w = w ∙ ap (λ o. kept_extents o at) (sym (h refl))
kept_step at false new its o h w = refl

used_step : (at : KeptPlace) (b c : Bool) (new its : MountedState) (o : Option MountedState) → (c ≡ true → o ≡ Some its) →
    get new.kept at ≡ cond b None (get its.kept at) → kept_extents (cond c (Some new) o) at ≡ cond (b && c) None (kept_extents o at)
used_step at true true new its o h w = w
used_step at false true new its o h w = w ∙ ap (λ o. kept_extents o at) (sym (h refl))
used_step at true false new its o h w = refl
used_step at false false new its o h w = refl

each_step : (R : Option MountedState → Option MountedState → Type 0) → ((o : Option MountedState) → R o o) → (c : Bool) (new its : MountedState)
    (o : Option MountedState) → (c ≡ true → o ≡ Some its) → (c ≡ true → R (Some its) (Some new)) → R o (cond c (Some new) o)
each_step R stays true new its o h r = subst (λ p. R p (Some new)) (sym (h refl)) (r refl)
each_step R stays false new its o h r = stays o

module _ (volumes : List MountedState) (serial : List ℕ) (place : ℕ) (f : IsFirstMounted volumes serial place) (new : MountedState) where
  found_at : (v : List ℕ) → bytes_eq v serial ≡ true → mounted_in volumes v ≡ Some f.its_volume
  found_at v e = ap (mounted_in volumes) (names_same v serial e) ∙ f.found

  pub writes_at : (k : SetKey) (there : Option DataSet) → WritesOn f.its_volume new k there → Writes volumes (slice_set volumes place new) k serial there
  writes_at k there w = record {
    set = λ q v.
        ap (λ o. set_on o q) (f.changed new v w.serial)
        ∙ written_step q (same_key q k) (bytes_eq v serial) new f.its_volume (mounted_in volumes v) there (found_at v) (w.set q);
    rooms = f.rooms new (λ i. record { serial = w.serial i; all = w.all i });
  }

  pub keeps_at : new.serial ≡ f.its_volume.serial → KeepsOn f.its_volume new → Keeps volumes (slice_set volumes place new)
  keeps_at s w v at =
      ap (λ o. kept_extents o at) (f.changed new v s)
      ∙ kept_step at (bytes_eq v serial) new f.its_volume (mounted_in volumes v) (found_at v) (ap (λ (m : Kept). get m at) w)

  pub keeps_others_at : (its : KeptPlace) → new.serial ≡ f.its_volume.serial → KeepsOthersOn f.its_volume new its → KeepsOthers volumes (slice_set volumes place new) serial its
  keeps_others_at its s w v at =
      ap (λ o. kept_extents o at) (f.changed new v s)
      ∙ used_step at (is_same_place at its) (bytes_eq v serial) new f.its_volume (mounted_in volumes v) (found_at v) (w at)

  pub each_at : (R : List ℕ → Option MountedState → Option MountedState → Type 0) → ((v : List ℕ) (o : Option MountedState) → R v o o) →
      new.serial ≡ f.its_volume.serial → R serial (Some f.its_volume) (Some new) → (v : List ℕ) → R v (mounted_in volumes v) (mounted_in (slice_set volumes place new) v)
  each_at R stays s r v =
      subst (R v (mounted_in volumes v)) (sym (f.changed new v s))
      (each_step (R v) (stays v) (bytes_eq v serial) new f.its_volume (mounted_in volumes v) (found_at v)
      (λ e. subst (λ u. R u (Some f.its_volume) (Some new)) (sym (names_same v serial e)) r))

-- as the code has it: the list, the volume that it read there, and the list with that volume written
module _ (volumes slice items after : List MountedState) (serial : List ℕ) (place : ℕ) (x : MountedState) (new : MountedState) (k : SetKey)
    (seen : slice ≡ volumes) (same : items ≡ volumes) (read : x ≡ get_or items place x) (put : after ≡ slice_set items place new) where
  its_volume_is : (f : IsFirstMounted volumes serial place) → f.its_volume ≡ x
  its_volume_is f = sym (get_or_from_slice_get volumes place f.its_volume x f.stands) ∙ ap (λ l. get_or l place x) (sym same) ∙ sym read

  first_of : IsFirstMounted slice serial place → IsFirstMounted volumes serial place
  first_of f = subst (λ l. IsFirstMounted l serial place) seen f

  after_is : slice_set volumes place new ≡ after
  after_is = sym (put ∙ (λ i. slice_set (same i) place new))

  pub writes_in : (there : Option DataSet) → IsFirstMounted slice serial place → WritesOn x new k there → Writes volumes after k serial there
  writes_in there f w =
      let h : IsFirstMounted volumes serial place = first_of f in
      subst (λ l. Writes volumes l k serial there) after_is
      (writes_at volumes serial place h new k there (subst (λ (y : MountedState). WritesOn y new k there) (sym (its_volume_is h)) w))

  pub keeps_in : IsFirstMounted slice serial place → new.serial ≡ x.serial → KeepsOn x new → Keeps volumes after
  keeps_in f s w =
      let h : IsFirstMounted volumes serial place = first_of f in
      let m : x ≡ h.its_volume = sym (its_volume_is h) in
      subst (λ l. Keeps volumes l) after_is
      (keeps_at volumes serial place h new (s ∙ ap (λ (y : MountedState). y.serial) m) (subst (λ (y : MountedState). KeepsOn y new) m w))

  pub keeps_others_in : (its : KeptPlace) → IsFirstMounted slice serial place → new.serial ≡ x.serial → KeepsOthersOn x new its → KeepsOthers volumes after serial its
  keeps_others_in its f s w =
      let h : IsFirstMounted volumes serial place = first_of f in
      let m : x ≡ h.its_volume = sym (its_volume_is h) in
      subst (λ l. KeepsOthers volumes l serial its) after_is
      (keeps_others_at volumes serial place h new its (s ∙ ap (λ (y : MountedState). y.serial) m) (subst (λ (y : MountedState). KeepsOthersOn y new its) m w))

  pub its_state : IsFirstMounted slice serial place → mounted_in volumes serial ≡ Some x
  its_state f =
      let h : IsFirstMounted volumes serial place = first_of f in
      h.found ∙ ap Some (its_volume_is h)

  pub changes_in : (g : DataSet → DataSet) → IsFirstMounted slice serial place → ChangesOn g x new k → Changes g volumes after k serial
  changes_in g f w = (
    subst (λ o. Writes volumes after k serial (option_map g (set_on o k))) (sym (its_state f)) (writes_in (option_map g (set_on (Some x) k)) f w.0),
    keeps_in f w.0.serial w.1,
  )

  -- what becomes of its volume becomes of each, where it is what becomes of one that stays
  pub each_in : (R : List ℕ → Option MountedState → Option MountedState → Type 0) → ((v : List ℕ) (o : Option MountedState) → R v o o) →
      IsFirstMounted slice serial place → new.serial ≡ x.serial → R serial (Some x) (Some new) →
      (v : List ℕ) → R v (mounted_in volumes v) (mounted_in after v)
  each_in R stays f s r v =
      let h : IsFirstMounted volumes serial place = first_of f in
      let m : x ≡ h.its_volume = sym (its_volume_is h) in
      subst (λ l. R v (mounted_in volumes v) (mounted_in l v)) after_is
      (each_at volumes serial place h new R stays (s ∙ ap (λ (y : MountedState). y.serial) m) (subst (λ (y : MountedState). R serial (Some y) (Some new)) m r) v)
