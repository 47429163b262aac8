-- The volumes with one of them changed: what is the same of all, and what holds of each.
use Rattle.std.proofs.Common.{◌≡◌, ℕ, suc, Bool, true, false, cond, List, [], ◌∷◌, All, IsSome, Option, Some, None, length, refl, sym, ap, subst}
use Rattle.std.specs.FinMap as finite
use Rattle.std.specs.FinMap.{get, get-insert}
use Rattle.std.specs.Ordering.{eq_by_cmp}
use Rattle.std.specs.Str.{bytes_eq}
use Rattle.std.proofs.lemmas.List.Elements.{All-cons, All-head, All-tail}
use Rattle.extent_core.specs.declared.extent.Extent.{Extent}
use Rattle.vtoc_core.specs.declared.entry.SetEntry.{SetEntry}
use Rattle.vtoc_core.specs.declared.entry.SetKey.{SetKey}
use Rattle.vtoc_core.specs.declared.entry.SetKey.TheVariants.{Named}
use Rattle.vtoc_core.specs.Entries.{key_cmp}
use Rattle.vtoc_core.proofs.MapLemmas.{tied_equal}
use Rattle.vtoc_core.proofs.PlaceLemmas.{key_total}
use Rattle.mount_core.specs.Mounts.{MountedState}
use Rattle.config_core.specs.Configs.{changed_at, with_set_in, with_set_on}
use Rattle.config_core.specs.Configured.{HasNamedSets, IsNamed, serials_of}
use Rattle.config_core.specs.Sets.{NothingKept}
use Rattle.session_input.specs.declared.statement.SetStatement.{SetStatement}

module _ (f : MountedState → MountedState) (serial : List ℕ) where
  all_by : (P : MountedState → Type 0) (b : Bool) (m : MountedState) (ms ns : List MountedState) → P m → P (f m) → All P ms → All P ns →
      All P (cond b (f m ∷ ms) (m ∷ ns))
  all_by P true m ms ns old new olds news = All-cons P (f m) ms new olds
  all_by P false m ms ns old new olds news = All-cons P m ns old news

  pub all_changed : (P : MountedState → Type 0) → ((m : MountedState) → P m → P (f m)) → (volumes : List MountedState) → All P volumes →
      All P (changed_at f volumes serial)
  all_changed P keeps [] h = h
  all_changed P keeps (m ∷ ms) h =
      let head = All-head P m ms h in
      let tail = All-tail P m ms h in
      all_by P (bytes_eq m.serial serial) m ms (changed_at f ms serial) head (keeps m head) tail (all_changed P keeps ms tail)

  serials_by : (b : Bool) (m : MountedState) (ms ns : List MountedState) → (f m).serial ≡ m.serial → serials_of ns ≡ serials_of ms →
      serials_of (cond b (f m ∷ ms) (m ∷ ns)) ≡ m.serial ∷ serials_of ms
  serials_by true m ms ns same rest = ap (λ s. s ∷ serials_of ms) same
  serials_by false m ms ns same rest = ap (λ ss. m.serial ∷ ss) rest

  pub serials_changed : ((m : MountedState) → (f m).serial ≡ m.serial) →
      (volumes : List MountedState) → serials_of (changed_at f volumes serial) ≡ serials_of volumes
  serials_changed same [] = refl
  serials_changed same (m ∷ ms) = serials_by (bytes_eq m.serial serial) m ms (changed_at f ms serial) (same m) (serials_changed same ms)

  length_by : (b : Bool) (m : MountedState) (ms ns : List MountedState) → length ns ≡ length ms → length (cond b (f m ∷ ms) (m ∷ ns)) ≡ suc (length ms)
  length_by true m ms ns rest = refl
  length_by false m ms ns rest = ap (λ n. suc n) rest

  pub length_changed : (volumes : List MountedState) → length (changed_at f volumes serial) ≡ length volumes
  length_changed [] = refl
  length_changed (m ∷ ms) = length_by (bytes_eq m.serial serial) m ms (changed_at f ms serial) (length_changed ms)

-- a set of a name is made
named_by : (b : Bool) (key : SetKey) (name : List ℕ) (entry : SetEntry) (there : Option SetEntry) → (b ≡ true → key ≡ Named name) →
    (IsSome there → IsNamed key) → IsSome (cond b (Some entry) there) → IsNamed key
named_by true key name entry there is old h = subst IsNamed (sym (is refl)) tt
named_by false key name entry there is old h = old h

named_sets : (extents : List Extent) (s : SetStatement) (m : MountedState) → HasNamedSets m → HasNamedSets (with_set_on m extents s)
named_sets extents s m old key h =
    let entry : SetEntry = record { extents = record { items = extents }; expires = s.expires; records = s.records } in
    named_by (eq_by_cmp key_cmp key (Named s.name)) key s.name entry (get m.volume.sets key) (tied_equal key (Named s.name)) (old key)
    (subst IsSome (get-insert key_total m.volume.sets (Named s.name) entry key) h)

pub still_named : (volumes : List MountedState) (o : Option (List Extent)) (s : SetStatement) →
    All HasNamedSets volumes → All HasNamedSets (with_set_in volumes o s)
still_named volumes None s h = h
still_named volumes (Some extents) s h = all_changed (λ m. with_set_on m extents s) s.serial HasNamedSets (named_sets extents s) volumes h

abbrev KeepsNothing : MountedState → Type 0
KeepsNothing m = m.kept ≡ finite.empty

pub still_nothing_kept : (volumes : List MountedState) (o : Option (List Extent)) (s : SetStatement) →
    NothingKept volumes → NothingKept (with_set_in volumes o s)
still_nothing_kept volumes None s k = k
still_nothing_kept volumes (Some extents) s k = all_changed (λ m. with_set_on m extents s) s.serial KeepsNothing (λ m h. h) volumes k

pub same_serials : (volumes : List MountedState) (o : Option (List Extent)) (s : SetStatement) → serials_of (with_set_in volumes o s) ≡ serials_of volumes
same_serials volumes None s = refl
same_serials volumes (Some extents) s = serials_changed (λ m. with_set_on m extents s) s.serial (λ m. refl) volumes

pub same_length : (volumes : List MountedState) (o : Option (List Extent)) (s : SetStatement) → length (with_set_in volumes o s) ≡ length volumes
same_length volumes None s = refl
same_length volumes (Some extents) s = length_changed (λ m. with_set_on m extents s) s.serial volumes
