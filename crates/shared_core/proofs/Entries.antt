-- An entry that is cut or grows, as a set, and when tracks are granted.
use Rattle.std.proofs.Common.{◌≡◌, ℕ, ◌+◌, ◌<◌, ◌≤◌, min, true, false, List, ◌++◌, length, Option, Some, None, Result, Ok, Err, OnErr, OnOk, IsSome, refl, ap, ◌∙◌, arith}
use Rattle.std.proofs.lemmas.Bool.{le-leb}
use Rattle.std.specs.FinMap.{get}
use Rattle.extent_core.specs.declared.extent.Extent.{Extent}
use Rattle.jcl_plan.specs.Tracks.{tracks_for}
use Rattle.jcl_meaning.specs.Programs.{grown_by}
use Rattle.jcl_meaning.specs.Stores.{cut}
use Rattle.vtoc_core.specs.declared.entry.SetEntry.{SetEntry}
use Rattle.vtoc_core.specs.declared.entry.SetKey.{SetKey}
use Rattle.vtoc_core.specs.Entries.{with_extents}
use Rattle.vtoc_core.specs.Extents.{five_largest, free_extents, kept_front, planned, tracks_in}
use Rattle.vtoc_core.specs.Volumes.{VolumeState}
use Rattle.shared_core.specs.Rooms.{entry_grows, fits_behind}
use Rattle.shared_core.specs.Shown.{data_of}
use Rattle.vtoc_core.proofs.PlanLemmas.{planned_is, planned_some}
use Rattle.mount_core.proofs.Keeping.{tracks_in-append}
use Rattle.shared_core.proofs.CutSets.{kept_size}

pub ok_by : {X E P Q : Type 0} (r : Result X E) → (P → Q) → OnOk r P → OnOk r Q
ok_by (Ok x) f p = f p
ok_by (Err e) f p = tt

pub ok_both : {X E P R Q : Type 0} (r : Result X E) → (P → R → Q) → OnOk r P → OnOk r R → OnOk r Q
ok_both (Ok x) f p q = f p q
ok_both (Err e) f p q = tt

pub err_by : {X E P Q : Type 0} (r : Result X E) → (P → Q) → OnErr r P → OnErr r Q
err_by (Ok x) f p = tt
err_by (Err e) f p = f p

pub either_way : {X E P : Type 0} (r : Result X E) → OnOk r P → OnErr r P → P
either_way (Ok x) p q = p
either_way (Err e) p q = q

pub same_found : (o : Option SetEntry) (x e : SetEntry) → Some x ≡ o → o ≡ Some e → x ≡ e
same_found o x e p q = let r : Some x ≡ Some e = p ∙ q in cc

-- a set that is cut to the tracks that its records fill
pub trimmed : (used : ℕ) (x e : SetEntry) → x ≡ e → used ≡ tracks_for (length x.records) → data_of (with_extents (kept_front used) e) ≡ cut (data_of e)
trimmed used x e p u =
    let q : used ≡ tracks_for (length e.records) = u ∙ ap (λ (y : SetEntry). tracks_for (length y.records)) p in
    let r : tracks_in (kept_front used e.extents.items) ≡ min (tracks_in e.extents.items) (tracks_for (length e.records)) =
    kept_size used e.extents.items ∙ omega (arith, q) in
    λ i. record { tracks = r i; expires = e.expires; records = e.records }

-- a set that grows
pub grown : (v : VolumeState) (n : ℕ) (e : SetEntry) (more : List Extent) → planned (free_extents v.tracks) n ≡ Some more →
    data_of (with_extents (λ all. all ++ more) e) ≡ grown_by n (data_of e)
grown v n e more h =
    let r : tracks_in (e.extents.items ++ more) ≡ tracks_in e.extents.items + n =
    tracks_in-append e.extents.items more ∙ ap (λ k. tracks_in e.extents.items + k) (planned_is v.tracks n more h).tracks in
    λ i. record { tracks = r i; expires = e.expires; records = e.records }

module _ (v : VolumeState) (k : SetKey) (n : ℕ) where
  pub grows : (e : SetEntry) (more : List Extent) → get v.sets k ≡ Some e → planned (free_extents v.tracks) n ≡ Some more →
      length e.extents.items + length more ≤ 16 → entry_grows (get v.sets k) v n ≡ true
  grows e more g p l =
      ap (λ o. entry_grows o v n) g ∙ ap (fits_behind e) p ∙ le-leb (length e.extents.items + length more) 16 l

  lacks : (e : SetEntry) (o : Option (List Extent)) → planned (free_extents v.tracks) n ≡ o → five_largest (free_extents v.tracks) < n → fits_behind e o ≡ false
  lacks e None p l = refl
  lacks e (Some more) p l = absurd (omega (arith, l, planned_some (free_extents v.tracks) n more p))

  lacks_by : (o : Option SetEntry) → IsSome o → five_largest (free_extents v.tracks) < n → entry_grows o v n ≡ false
  lacks_by None s l = absurd cc
  lacks_by (Some e) s l = lacks e (planned (free_extents v.tracks) n) refl l

  pub grows_not : IsSome (get v.sets k) → five_largest (free_extents v.tracks) < n → entry_grows (get v.sets k) v n ≡ false
  grows_not s l = lacks_by (get v.sets k) s l
