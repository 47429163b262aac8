-- A catalog of volumes has no group.
use Rattle.std.proofs.Common.{◌≡◌, ◌++◌, ◌∷◌, Bool, true, false, cond, ℕ, List, [], Option, Some, None, refl}
use Rattle.std.specs.Str.{bytes_eq}
use Rattle.group_core.specs.declared.entry.CatEntry.{CatEntry}
use Rattle.group_core.specs.declared.entry.CatEntry.TheVariants.{Volume, Group}
use Rattle.group_core.specs.Groups.{GroupState}
use Rattle.jcl_meaning.specs.declared.store.SoloEntry.{SoloEntry}
use Rattle.jcl_meaning.specs.declared.store.SoloStore.{SoloStore}
use Rattle.jcl_meaning.specs.Stores.{entry_in, store_of}
use Rattle.part_laws.specs.Keeping.{HasSoundGroups}
use Rattle.path_rows.specs.Catalogs.{AreVolumes, IsVolume}

pub volumes_more : (catalog : List SoloEntry) (e : SoloEntry) → AreVolumes catalog → IsVolume e.entry → AreVolumes (catalog ++ e ∷ [])
volumes_more [] e h is = (is, tt)
volumes_more (x ∷ catalog) e h is = (h.0, volumes_more catalog e h.1 is)

no_volume : (e : CatEntry) (g : GroupState) → IsVolume e → Some e ≡ Some (Group g) → ⊥
no_volume (Volume serial) g is same = absurd cc
no_volume (Group h) g is same = is

no_group : (catalog : List SoloEntry) (name : List ℕ) (g : GroupState) → AreVolumes catalog → entry_in catalog name ≡ Some (Group g) → ⊥
no_group [] name g h found = absurd cc
no_group (x ∷ catalog) name g h found = by_name (bytes_eq name x.name) (no_group catalog name g h.1) found
  where
    by_name : (b : Bool) → (entry_in catalog name ≡ Some (Group g) → ⊥) → cond b (Some x.entry) (entry_in catalog name) ≡ Some (Group g) → ⊥
    by_name true later same = no_volume x.entry g h.0 same
    by_name false later same = later same

pub sound_volumes : (store : SoloStore) → AreVolumes store.catalog → HasSoundGroups (store_of store)
sound_volumes store h = λ base g found. absurd (no_group store.catalog base g h found)
