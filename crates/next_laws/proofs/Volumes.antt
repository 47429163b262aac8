-- So the whole volume.
use Rattle.std.proofs.Common.{◌≡◌, List, Option, Some, None, refl, sym, ap, ◌∙◌, subst, arith}
use Rattle.std.specs.FinMap.{get, same_map}
use Rattle.std.specs.Option.{option_map}
use Rattle.extent_core.specs.declared.extent.Extent.{Extent}
use Rattle.jcl_meaning.specs.declared.store.DataSet.{DataSet}
use Rattle.vtoc_core.specs.declared.entry.SetEntry.{SetEntry}
use Rattle.vtoc_core.specs.declared.entry.SetKey.{SetKey}
use Rattle.vtoc_core.specs.Volumes.{empty_among}
use Rattle.vtoc_core.proofs.FreeLemmas.{empty-append}
use Rattle.vtoc_core.proofs.MapLemmas.{size_fewer}
use Rattle.vtoc_core.proofs.PlaceLemmas.{key_total, keys_tie}
use Rattle.mount_core.specs.Mounts.{MountedState}
use Rattle.shared_core.specs.Extents.{Follows, extents_of, extents_on}
use Rattle.shared_core.specs.LaidOut.{IsLaidOut}
use Rattle.shared_core.specs.Shown.{data_of}
use Rattle.next_laws.specs.Next.{AreShownAlike, IsNextVolume, NextVolumeIsDecided}
use Rattle.next_laws.proofs.Extents.{follow_so}
use Rattle.next_laws.proofs.Keeping.{same_kept}
use Rattle.next_laws.proofs.Marks.{same_tracks}

module _ (old one other : MountedState) (laid_out : IsLaidOut old) (first : IsNextVolume old one) (second : IsNextVolume old other)
    (alike : AreShownAlike one other) where
  kept : one.kept ≡ other.kept
  kept = same_kept old.kept one.kept other.kept alike.kept first.follows.kept second.follows.kept

  -- no extent of a set was without a track
  by_entry : (key : SetKey) (entry : Option SetEntry) → get old.volume.sets key ≡ entry → (list : List Extent) → option_map extents_of entry ≡ Some list →
      empty_among list ≡ 0
  by_entry key None there list is = absurd cc
  by_entry key (Some entry) there list is =
      let same : extents_of entry ≡ list = cc in
      subst (λ l. empty_among l ≡ 0) same
      (omega (arith, size_fewer empty_among empty-append old.volume.sets key entry there, laid_out.sets.in_sets.none_empty))

  -- each set is one
  by : (key : SetKey) (entry entry_too : Option SetEntry) → get one.volume.sets key ≡ entry → get other.volume.sets key ≡ entry_too →
      option_map data_of entry ≡ option_map data_of entry_too → entry ≡ entry_too
  by key None None there there_too shown = refl
  by key None (Some y) there there_too shown = absurd cc
  by key (Some x) None there there_too shown = absurd cc
  by key (Some x) (Some y) there there_too shown =
      let shown_one : data_of x ≡ data_of y = cc in
      let so : Follows (Some old) (Some one) (extents_on (Some old) key) (Some (extents_of x)) =
      subst (λ e. Follows (Some old) (Some one) (extents_on (Some old) key) (option_map extents_of e)) there (first.follows.sets key) in
      let so_too : Follows (Some old) (Some other) (extents_on (Some old) key) (Some (extents_of y)) =
      subst (λ e. Follows (Some old) (Some other) (extents_on (Some old) key) (option_map extents_of e)) there_too (second.follows.sets key) in
      let list : extents_of x ≡ extents_of y =
      follow_so old one other kept first.follows.kept (extents_on (Some old) key) (by_entry key (get old.volume.sets key) refl) (extents_of x) (extents_of y)
      so so_too (ap (λ (d : DataSet). d.tracks) shown_one) in
      let same : x ≡ y = (λ i. record { extents = record { items = list i }; expires = (shown_one i).expires; records = (shown_one i).records }) in
      ap Some same

  sets : one.volume.sets ≡ other.volume.sets
  sets =
      same_map key_total keys_tie one.volume.sets other.volume.sets
      (λ key. by key (get one.volume.sets key) (get other.volume.sets key) refl refl (alike.sets key))

  tracks : one.volume.tracks ≡ other.volume.tracks
  tracks =
      same_tracks one other first.laid_out second.laid_out sets kept (λ n. first.follows.unusable n ∙ sym (second.follows.unusable n))

  pub next_volume : one ≡ other
  next_volume = λ i. record { serial = alike.serial i; volume = record { tracks = tracks i; sets = sets i }; kept = kept i }

pub next_volume_is_decided : NextVolumeIsDecided
next_volume_is_decided old one other laid_out first second alike = next_volume old one other laid_out first second alike
