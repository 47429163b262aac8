-- A set that gets its records, and is taken off again.
use Rattle.std.proofs.Common.{◌≡◌, ℕ, List, [], ◌∷◌, ◌++◌, Option, Some, None, sym, ap, subst, ◌∙◌}
use Rattle.std.specs.FinMap as finite
use Rattle.extent_core.specs.declared.extent.Extent.{Extent}
use Rattle.std.proofs.lemmas.Option.{none-some, same_Some}
use Rattle.vtoc_core.specs.declared.entry.SetEntry.{SetEntry}
use Rattle.vtoc_core.specs.declared.entry.SetKey.{SetKey}
use Rattle.vtoc_core.specs.declared.volume.Track.TheVariants.{Free, InSet}
use Rattle.vtoc_core.specs.Entries.{changed, changed_by, with_records}
use Rattle.vtoc_core.specs.Extents.{free_extents, planned}
use Rattle.vtoc_core.specs.Volumes.{marked}
use Rattle.vtoc_core.proofs.KindLemmas.{marked_back}
use Rattle.vtoc_core.proofs.MapLemmas.{get_inserted, insert-insert, remove-insert}
use Rattle.vtoc_core.proofs.PlanLemmas.{planned_is}
use Rattle.mount_core.specs.declared.place.KeptPlace.{KeptPlace}
use Rattle.mount_core.specs.Kept.{place_cmp}
use Rattle.mount_core.specs.Mounts.{MountedState, WasMade}
use Rattle.config_core.specs.Sets.{with_records_on}

-- a set that was just made gets its records
pub its_records : (m : MountedState) (extents : List Extent) (key : SetKey) (expires : Option ℕ) (records : List (List ℕ)) →
    changed (with_records_on m extents key expires []).volume.sets key (with_records (λ _. records)) ≡ (with_records_on m extents key expires records).volume.sets
its_records m extents key expires records =
    ap (λ o. changed_by o (with_records_on m extents key expires []).volume.sets key (with_records (λ _. records))) (get_inserted m.volume.sets key _)
    ∙ insert-insert m.volume.sets key _ _

-- taken off again
pub taken_off : (m : MountedState) (extents : List Extent) (key : SetKey) (expires : Option ℕ) (records : List (List ℕ)) (n : ℕ) →
    planned (free_extents m.volume.tracks) n ≡ Some extents → finite.get m.volume.sets key ≡ None →
    record m {
      volume = record {
        tracks = marked Free extents (with_records_on m extents key expires records).volume.tracks;
        sets = finite.remove (with_records_on m extents key expires records).volume.sets key;
      };
    } ≡ m
taken_off m extents key expires records n p none = λ i. record m {
  volume = record {
    tracks = marked_back InSet Free extents m.volume.tracks (planned_is m.volume.tracks n extents p).free i;
    sets = remove-insert m.volume.sets key (record { extents = record { items = extents }; expires = expires; records = records }) none i;
  };
}

-- a set that was made is there
pub still_there : (m : MountedState) (extents : List Extent) (key : SetKey) (expires : Option ℕ) (records : List (List ℕ)) (old : MountedState) → old ≡ with_records_on m extents key expires records →
    finite.get old.volume.sets key ≡ None → ⊥
still_there m extents key expires records old was none =
    none-some _ (sym none ∙ ap (λ x. finite.get x.volume.sets key) was ∙ get_inserted m.volume.sets key _)

-- and once it is scratched the volume is as it was
pub scratched : (m : MountedState) (extents : List Extent) (key : SetKey) (expires : Option ℕ) (records : List (List ℕ)) (n : ℕ) →
    planned (free_extents m.volume.tracks) n ≡ Some extents → finite.get m.volume.sets key ≡ None →
    (old new : MountedState) → old ≡ with_records_on m extents key expires records → (entry : SetEntry) → finite.get old.volume.sets key ≡ Some entry →
    new.volume ≡ record { tracks = marked Free entry.extents.items old.volume.tracks; sets = finite.remove old.volume.sets key } →
    new ≡ record old { volume = new.volume } → new ≡ m
scratched m extents key expires records n plan none old new was entry at volume others =
    let made = with_records_on m extents key expires records in
    let found : finite.get made.volume.sets key ≡ Some entry = sym (ap (λ x. finite.get x.volume.sets key) was) ∙ at in
    let its_extents : entry.extents.items ≡ extents =
    ap (λ (e : SetEntry). e.extents.items) (same_Some entry _ (sym found ∙ get_inserted m.volume.sets key _)) in
    others ∙ (λ i. record (was i) { volume = volume i })
    ∙ (λ i. record made { volume = record { tracks = marked Free (its_extents i) (was i).volume.tracks; sets = finite.remove (was i).volume.sets key } })
    ∙ taken_off m extents key expires records n plan none

-- and its volume is as if it had been made with them
pub filled : (m : MountedState) (extents : List Extent) (key : SetKey) (expires : Option ℕ) (records : List (List ℕ)) (old new : MountedState) →
    old ≡ with_records_on m extents key expires [] →
    new.volume ≡ record old.volume { sets = changed old.volume.sets key (with_records (λ _. records)) } →
    new ≡ record old { volume = new.volume } → new ≡ with_records_on m extents key expires records
filled m extents key expires records old new was volume others =
    let made = with_records_on m extents key expires [] in
    others ∙ (λ i. record old { volume = volume i })
    ∙ (λ i. record (was i) { volume = record (was i).volume { sets = changed (was i).volume.sets key (with_records (λ _. records)) } })
    ∙ (λ i. record made { volume = record made.volume { sets = its_records m extents key expires records i } })

-- a set of free tracks, where none are kept at the place
pub made_free : (old new : MountedState) (place : KeptPlace) (key : SetKey) (n : ℕ) (expires : Option ℕ) → old.kept ≡ finite.empty →
    WasMade (finite.get old.kept place) old place key n expires new →
    (extents : List Extent) × (planned (free_extents old.volume.tracks) n ≡ Some extents) × (new ≡ with_records_on old extents key expires [])
made_free old new place key n expires none made =
    let was = subst (λ o. WasMade o old place key n expires new) (ap (λ kept. finite.get kept place) none ∙ finite.get-empty place_cmp place) made in
    (was.0, was.1, was.3)
