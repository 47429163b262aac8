-- What the copies show of the store of all jobs.
use Rattle.std.proofs.Common.{◌≡◌, ℕ, Bool, true, false, cond, List, Option, Some, None, IfSome, refl, ap, sym, ◌∙◌}
use Rattle.std.specs.FinMap.{get}
use Rattle.std.specs.Option.{option_map}
use Rattle.std.proofs.lemmas.Option.{MatchOption-at_some}
use Rattle.jname_core.specs.declared.key.Key.{Key}
use Rattle.jname_core.specs.declared.key.Key.TheVariants.{Named, Relative, Temporary, Unnamed}
use Rattle.group_core.specs.declared.entry.CatEntry.TheVariants.{Group}
use Rattle.vtoc_core.specs.declared.entry.SetEntry.{SetEntry}
use Rattle.vtoc_core.specs.declared.entry.SetKey.{SetKey}
use Rattle.vtoc_core.specs.declared.entry.SetKey.TheVariants as world
use Rattle.jcl_meaning.specs.declared.names.HeldName.{HeldName}
use Rattle.jcl_meaning.specs.declared.store.DataSet.{DataSet}
use Rattle.jcl_meaning.specs.declared.store.SoloStore.{SoloStore}
use Rattle.jcl_meaning.specs.Parts.{sees_key}
use Rattle.jcl_meaning.specs.Stores.{entry_in, set_in, store_of}
use Rattle.jcl_meaning.specs.Views.{shown_set}
use Rattle.part_laws.specs.Keeping.{HasSoundGroups}
use Rattle.world_meaning.specs.Lenses.{seen, seen_set}
use Rattle.mount_core.specs.Mounts.{MountedState}
use Rattle.shared_core.specs.declared.store.SharedStore.{SharedStore}
use Rattle.shared_core.specs.Shown.{data_of, mounted_in, set_on, world_store_of}
use Rattle.part_copy.specs.Copies.{Spot, bare, bare_at, bare_under, set_at}
use Rattle.part_copy.specs.Parts.{ShowsSets}

entry_shown : (o : Option SetEntry) (date : ℕ) → shown_set (option_map data_of o) date ≡ shown_set (option_map bare o) date
entry_shown None date = refl
entry_shown (Some e) date = refl

bare_shown : (m : Option MountedState) (k : SetKey) (date : ℕ) → shown_set (set_on m k) date ≡ shown_set (bare_under (Some k) m) date
bare_shown None k date = refl
bare_shown (Some m) k date = entry_shown (get m.volume.sets k) date

set_shown : (job : ℕ) (store : SharedStore) (k : Key) (serial : List ℕ) (date : ℕ) →
    shown_set (seen_set job (world_store_of store) k serial) date ≡ shown_set (bare_at job store.volumes (k, serial)) date
set_shown job store (Named n) serial date = bare_shown (mounted_in store.volumes serial) (world.Named n) date
set_shown job store (Relative base sign amount) serial date = refl
set_shown job store (Temporary n) serial date = bare_shown (mounted_in store.volumes serial) (world.Temporary job n) date
set_shown job store (Unnamed step dd) serial date = bare_shown (mounted_in store.volumes serial) (world.Unnamed job step dd) date

module _ (job : ℕ) (store : SharedStore) (names : List HeldName) (part : SoloStore) where
  shown_by : (k : Key) (serial : List ℕ) (date : ℕ) (b : Bool) → (b ≡ true → set_in part.sets k serial ≡ bare_at job store.volumes (k, serial)) →
      shown_set (cond b (seen_set job (world_store_of store) k serial) None) date ≡ shown_set (cond b (set_in part.sets k serial) None) date
  shown_by k serial date true h = set_shown job store k serial date ∙ ap (λ (o : Option DataSet). shown_set o date) (sym (h refl))
  shown_by k serial date false h = refl

  pub sets_shown : ((q : Spot) → sees_key names q.0 ≡ true → set_at part.sets q ≡ bare_at job store.volumes q) → ShowsSets names (seen job (world_store_of store)) (store_of part)
  sets_shown h k serial date = shown_by k serial date (sees_key names k) (h (k, serial))

  pub groups_sound : ((n : List ℕ) → IfSome (entry_in part.catalog n) (λ e. get store.catalog n ≡ Some e)) →
      HasSoundGroups (seen job (world_store_of store)) → HasSoundGroups (store_of part)
  groups_sound copied sound base g there =
      sound base g (MatchOption-at_some _ (λ e. get store.catalog base ≡ Some e) (Group g) there (copied base))
