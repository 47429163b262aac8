-- A set made of free tracks, and what is kept beside it.
use Rattle.std.proofs.Common.{◌≡◌, ◌≢◌, ℕ, List, [], Option, Some, None, Result, Ok, Err, OnOk, OnErr, ap, sym, subst}
use Rattle.std.specs.FinMap.{get, insert, remove}
use Rattle.extent_core.specs.declared.extent.Extent.{Extent}
use Rattle.vtoc_core.specs.declared.entry.SetEntry.{SetEntry}
use Rattle.vtoc_core.specs.declared.entry.SetKey.{SetKey}
use Rattle.vtoc_core.specs.declared.fault.VolumeFault.{VolumeFault}
use Rattle.vtoc_core.specs.declared.fault.VolumeFault.TheVariants as fault
use Rattle.vtoc_core.specs.declared.volume.Track.{Track}
use Rattle.vtoc_core.specs.declared.volume.Track.TheVariants.{Free, Aside, InSet}
use Rattle.vtoc_core.specs.Entries.{changed, with_extents}
use Rattle.vtoc_core.specs.Extents.{free_extents, kept_front, past_front, planned, tracks_in}
use Rattle.vtoc_core.specs.Volumes.{AnswersGrow, AreOf, IsSoundVolume, Moves, VolumeState, marked, tracks_past}
use Rattle.vtoc_core.proofs.PlanLemmas.{planned_is}
use Rattle.vtoc_core.proofs.SoundLemmas.{past_tracks, set_tracks}
use Rattle.mount_core.specs.declared.place.KeptPlace.{KeptPlace}
use Rattle.mount_core.specs.Kept.{AreKept, Kept}
use Rattle.mount_core.specs.Mounts.{MountedState, WasMade}
use Rattle.mount_core.proofs.Keeping.{others_kept}

aside≢free : Aside ≢ Free
aside≢free h = absurd cc

aside≢in_set : Aside ≢ InSet
aside≢in_set h = absurd cc

free≢aside : Free ≢ Aside
free≢aside h = absurd cc

-- free tracks that become those of a set leave what is kept
pub taken_kept : (n : ℕ) (tracks now : List Track) (list : List Extent) (kept : Kept) → planned (free_extents tracks) n ≡ Some list → now ≡ marked InSet list tracks →
    Moves Free InSet n tracks now → AreKept tracks kept → AreKept now kept
taken_kept n tracks now list kept p q m a =
    others_kept Free InSet tracks now list kept free≢aside (planned_is tracks n list p).free q (m.others Aside aside≢free aside≢in_set) a

module _ (key : SetKey) (n : ℕ) (expires : Option ℕ) where
  abbrev made_on : VolumeState → List Extent → VolumeState
  made_on v list = record {
    tracks = marked InSet list v.tracks;
    sets = insert v.sets key (record { extents = record { items = list }; expires = expires; records = [] });
  }

  abbrev MadeOn : VolumeState → VolumeState → Type 0
  MadeOn old new = (list : List Extent) × (planned (free_extents old.tracks) n ≡ Some list) × (new ≡ made_on old list)

  pub made_kept : {X E : Type 0} (r : Result X E) (old new : VolumeState) (kept now : Kept) → OnOk r (MadeOn old new) → OnOk r (Moves Free InSet n old.tracks new.tracks) →
      OnErr r (new ≡ old) → now ≡ kept → AreKept old.tracks kept → AreKept new.tracks now
  made_kept (Ok x) old new kept now made moves err q a =
      subst (AreKept new.tracks) (sym q) (taken_kept n old.tracks new.tracks made.0 kept made.1 (ap (λ v. v.tracks) made.2) moves a)
  made_kept (Err e) old new kept now made moves err q a = subst (AreKept new.tracks) (sym q) (subst (λ v. AreKept v.tracks kept) (sym err) a)

  pub made_free : {X E : Type 0} (r : Result X E) (old : MountedState) (place : KeptPlace) (volume : VolumeState) (kept : Kept) → OnOk r (MadeOn old.volume volume) →
      OnOk r (Moves Free InSet n old.volume.tracks volume.tracks) → kept ≡ old.kept →
      OnOk r (WasMade None old place key n expires (record { serial = old.serial; volume = volume; kept = kept }))
  made_free (Ok x) old place volume kept made moves q = (
    made.0,
    made.1,
    (planned_is old.volume.tracks n made.0 made.1).tracks,
    (λ i. record { serial = old.serial; volume = made.2 i; kept = q i }),
    moves,
  )
  made_free (Err e) old place volume kept made moves q = made

-- what volumes do to sets leaves what is kept
pub grown_kept : {A : Type 0} (r : Result A VolumeFault) (old new : VolumeState) (key : SetKey) (n : ℕ) (kept : Kept) → AnswersGrow r old key n new →
    AreKept old.tracks kept → AreKept new.tracks kept
grown_kept (Ok x) old new key n kept h a = taken_kept n old.tracks new.tracks h.1 kept h.3 (ap (λ v. v.tracks) h.5) h.6 a
grown_kept (Err fault.NameMissing) old new key n kept h a = subst (λ v. AreKept v.tracks kept) (sym h.1) a
grown_kept (Err fault.NoSpace) old new key n kept h a = subst (λ v. AreKept v.tracks kept) (sym h.2) a
grown_kept (Err fault.TooManyExtents) old new key n kept h a = subst (λ v. AreKept v.tracks kept) (sym h.5) a
grown_kept (Err fault.NameThere) old new key n kept h a = absurd h
grown_kept (Err fault.Memory) old new key n kept h a = absurd h

in_set≢aside : InSet ≢ Aside
in_set≢aside h = absurd cc

freed_kept : (old new : VolumeState) (n : ℕ) (es : List Extent) (kept : Kept) → AreOf InSet old.tracks es → new.tracks ≡ marked Free es old.tracks →
    Moves InSet Free n old.tracks new.tracks → AreKept old.tracks kept → AreKept new.tracks kept
freed_kept old new n es kept x q m a = others_kept InSet Free old.tracks new.tracks es kept in_set≢aside x q (m.others Aside aside≢in_set aside≢free) a

module _ {X E : Type 0} (r : Result X E) (old new : VolumeState) (key : SetKey) (kept : Kept) where
  pub scratched_kept : OnOk r ((entry : SetEntry) × (get old.sets key ≡ Some entry) × (new ≡ record { tracks = marked Free entry.extents.items old.tracks; sets = remove old.sets key })
      × Moves InSet Free (tracks_in entry.extents.items) old.tracks new.tracks) → OnErr r (new ≡ old) → IsSoundVolume old → AreKept old.tracks kept → AreKept new.tracks kept
  scratched_kept = by r
    where
      by : (q : Result X E) → OnOk q ((entry : SetEntry) × (get old.sets key ≡ Some entry) × (new ≡ record { tracks = marked Free entry.extents.items old.tracks; sets = remove old.sets key })
          × Moves InSet Free (tracks_in entry.extents.items) old.tracks new.tracks) → OnErr q (new ≡ old) → IsSoundVolume old → AreKept old.tracks kept → AreKept new.tracks kept
      by (Ok x) h e s a = freed_kept old new (tracks_in h.0.extents.items) h.0.extents.items kept (set_tracks old key h.0 h.1 s) (ap (λ v. v.tracks) h.2) h.3 a
      by (Err f) h e s a = subst (λ v. AreKept v.tracks kept) (sym e) a

  pub trimmed_kept : (n : ℕ) → OnOk r ((entry : SetEntry) × (get old.sets key ≡ Some entry) × (new ≡ record {
    tracks = marked Free (past_front n entry.extents.items) old.tracks;
    sets = changed old.sets key (with_extents (kept_front n));
  }) × Moves InSet Free (tracks_past n entry.extents.items) old.tracks new.tracks) → OnErr r (new ≡ old) → IsSoundVolume old → AreKept old.tracks kept → AreKept new.tracks kept
  trimmed_kept n = by r
    where
      by : (q : Result X E) → OnOk q ((entry : SetEntry) × (get old.sets key ≡ Some entry) × (new ≡ record {
        tracks = marked Free (past_front n entry.extents.items) old.tracks;
        sets = changed old.sets key (with_extents (kept_front n));
      }) × Moves InSet Free (tracks_past n entry.extents.items) old.tracks new.tracks) → OnErr q (new ≡ old) → IsSoundVolume old → AreKept old.tracks kept → AreKept new.tracks kept
      by (Ok x) h e s a =
          freed_kept old new (tracks_past n h.0.extents.items) (past_front n h.0.extents.items) kept (past_tracks old n key h.0 h.1 s) (ap (λ v. v.tracks) h.2) h.3 a
      by (Err f) h e s a = subst (λ v. AreKept v.tracks kept) (sym e) a
