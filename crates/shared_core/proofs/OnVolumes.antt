-- What becomes of the extents on one volume.
use Rattle.std.proofs.Common.{◌≡◌, ◌≢◌, ◌<◌, ◌≤◌, ℕ, ◌+◌, Bool, true, false, cond, List, [], ◌∷◌, ◌++◌, Option, Some, None, slice_get, refl, sym, subst, ap, ◌∙◌, arith, ⊎_elim, inl, inr}
use Rattle.std.proofs.lemmas.Bool.{cases_lt}
use Rattle.std.specs.FinMap.{get, insert, remove}
use Rattle.std.specs.Option.{option_map}
use Rattle.extent_core.specs.declared.extent.Extent.{Extent}
use Rattle.vtoc_core.specs.declared.entry.SetEntry.{SetEntry}
use Rattle.vtoc_core.specs.declared.entry.SetKey.{SetKey}
use Rattle.vtoc_core.specs.declared.volume.Track.{Track}
use Rattle.vtoc_core.specs.declared.volume.Track.TheVariants.{Aside, Free, InSet}
use Rattle.vtoc_core.specs.Entries.{Sets, changed, changed_by, same_key, with_extents, with_records}
use Rattle.vtoc_core.specs.Extents.{free_extents, kept_front, past_front, planned, tracks_in}
use Rattle.vtoc_core.specs.Volumes.{AreOf, IsSoundVolume, VolumeState, marked, times_in}
use Rattle.vtoc_core.proofs.PlaceLemmas.{keys_same}
use Rattle.vtoc_core.proofs.PlanLemmas.{planned_is}
use Rattle.vtoc_core.proofs.SoundLemmas.{past_tracks, set_tracks}
use Rattle.mount_core.specs.declared.place.KeptPlace.{KeptPlace}
use Rattle.mount_core.specs.Kept.{AreKept}
use Rattle.mount_core.specs.Mounts.{MountedState, WasMade, unusable_at}
use Rattle.mount_core.proofs.Keeping.{list_kept}
use Rattle.mount_core.proofs.Usable.{same_use}
use Rattle.shared_core.specs.Extents.{GiveUpOn, GivesUp, StayOn, TakeOn, Takes, extents_of, extents_on, tracks_on}
use Rattle.shared_core.specs.Shown.{data_of, kept_extents, set_on}
use Rattle.shared_core.specs.Writes.{kept_there}
use Rattle.shared_core.specs.Giving.{set_stays, set_takes_none}
use Rattle.shared_core.proofs.WorldKeys.{name_itself, set_put, set_taken}

-- nothing becomes of them
pub all_stay : (o : Option MountedState) → StayOn o o
all_stay o = record { extents = λ k. refl; tracks = refl }

pub none_given_up : (o : Option MountedState) → GiveUpOn o o
none_given_up o = record { extents = λ k. set_stays (extents_on o k); unusable = λ n. refl }

pub none_taken_up : (kept : Option (List Extent)) (o : Option MountedState) → TakeOn kept o o
none_taken_up kept o = record {
  extents = λ k. set_takes_none kept (free_extents (tracks_on o)) (extents_on o k) (extents_on o k) (set_stays (extents_on o k));
  unusable = λ n. refl;
}

-- where the volume is as before
pub volume_as_before : (old new : MountedState) → new.volume ≡ old.volume → GiveUpOn (Some old) (Some new)
volume_as_before old new h = record {
  extents = λ k. subst (λ (v : VolumeState). GivesUp (extents_on (Some old) k) (option_map extents_of (get v.sets k))) (sym h) (set_stays (extents_on (Some old) k));
  unusable = λ n. ap (λ (v : VolumeState). unusable_at v.tracks n) h;
}

pub not_taken : (kept : Option (List Extent)) (old new : Option MountedState) → GiveUpOn old new → TakeOn kept old new
not_taken kept old new g = record {
  extents = λ k. set_takes_none kept (free_extents (tracks_on old)) (extents_on old k) (extents_on new k) (g.extents k);
  unusable = g.unusable;
}

-- where one set of all is another now, or none
key_step : (P : Option SetEntry → Option SetEntry → Type 0) → ((o : Option SetEntry) → P o o) → (b : Bool) (o there : Option SetEntry) →
    (b ≡ true → P o there) → P o (cond b there o)
key_step P stays true o there h = h refl
key_step P stays false o there h = stays o

pub on_each_key : (P : Option SetEntry → Option SetEntry → Type 0) → ((o : Option SetEntry) → P o o) → (old new : Sets) (k : SetKey) (there : Option SetEntry) →
    ((q : SetKey) → get new q ≡ cond (same_key q k) there (get old q)) → P (get old k) there → (q : SetKey) → P (get old q) (get new q)
on_each_key P stays old new k there w p q =
    subst (P (get old q)) (sym (w q))
    (key_step P stays (same_key q k) (get old q) there (λ e. subst (λ r. P (get old r) there) (sym (keys_same q k e)) p))

on_changed : (P : Option SetEntry → Option SetEntry → Type 0) → ((o : Option SetEntry) → P o o) → (old : Sets) (k : SetKey) (f : SetEntry → SetEntry)
    (o : Option SetEntry) → get old k ≡ o → ((e : SetEntry) → o ≡ Some e → P (Some e) (Some (f e))) → (q : SetKey) →
    P (get old q) (get (changed_by o old k f) q)
on_changed P stays old k f None e h q = stays (get old q)
on_changed P stays old k f (Some x) e h q =
    on_each_key P stays old (insert old k (f x)) k (Some (f x)) (λ r. set_put old k (f x) r) (subst (λ y. P y (Some (f x))) (sym e) (h x refl)) q

module _ (old new : MountedState) (k : SetKey) where
  pub records_changed : (f : List (List ℕ) → List (List ℕ)) → new.volume.tracks ≡ old.volume.tracks → new.volume.sets ≡ changed old.volume.sets k (with_records f) →
      StayOn (Some old) (Some new)
  records_changed f t s = record {
    extents = λ q.
        ap (λ (sets : Sets). option_map extents_of (get sets q)) s
        ∙ on_changed (λ o n. option_map extents_of n ≡ option_map extents_of o) (λ o. refl) old.volume.sets k (with_records f) (get old.volume.sets k) refl
        (λ e h. refl) q;
    tracks = t;
  }

  pub set_gone : (e : SetEntry) → get old.volume.sets k ≡ Some e → IsSoundVolume old.volume → new.volume.tracks ≡ marked Free e.extents.items old.volume.tracks →
      new.volume.sets ≡ remove old.volume.sets k → GiveUpOn (Some old) (Some new)
  set_gone e there sound t s = record {
    extents = λ q.
        subst (λ (sets : Sets). GivesUp (extents_on (Some old) q) (option_map extents_of (get sets q))) (sym s)
        (on_each_key (λ o n. GivesUp (option_map extents_of o) (option_map extents_of n)) (λ o. set_stays (option_map extents_of o))
        old.volume.sets (remove old.volume.sets k) k None (set_taken old.volume.sets k) (gone_by (get old.volume.sets k)) q);
    unusable = λ n.
        ap (λ tracks. unusable_at tracks n) t
        ∙ same_use Free InSet e.extents.items old.volume.tracks refl refl (set_tracks old.volume k e there sound) n;
  }
    where
      gone_by : (o : Option SetEntry) → GivesUp (option_map extents_of o) None
      gone_by None = tt
      gone_by (Some x) = tt

  pub set_cut : (count : ℕ) (e : SetEntry) → get old.volume.sets k ≡ Some e → IsSoundVolume old.volume →
      new.volume.tracks ≡ marked Free (past_front count e.extents.items) old.volume.tracks →
      new.volume.sets ≡ changed old.volume.sets k (with_extents (kept_front count)) → GiveUpOn (Some old) (Some new)
  set_cut count e there sound t s = record {
    extents = λ q.
        subst (λ (sets : Sets). GivesUp (extents_on (Some old) q) (option_map extents_of (get sets q))) (sym s)
        (on_changed (λ o n. GivesUp (option_map extents_of o) (option_map extents_of n)) (λ o. set_stays (option_map extents_of o))
        old.volume.sets k (with_extents (kept_front count)) (get old.volume.sets k) refl (λ x h. (count, refl)) q);
    unusable = λ n.
        ap (λ tracks. unusable_at tracks n) t
        ∙ same_use Free InSet (past_front count e.extents.items) old.volume.tracks refl refl (past_tracks old.volume count k e there sound) n;
  }

  pub set_grown : (count : ℕ) (more : List Extent) → planned (free_extents old.volume.tracks) count ≡ Some more →
      new.volume.tracks ≡ marked InSet more old.volume.tracks →
      new.volume.sets ≡ changed old.volume.sets k (with_extents (λ all. all ++ more)) → TakeOn None (Some old) (Some new)
  set_grown count more plan t s =
      let is = planned_is old.volume.tracks count more plan in
      record {
        extents = λ q.
            subst (λ (sets : Sets). Takes None (free_extents old.volume.tracks) (extents_on (Some old) q) (option_map extents_of (get sets q))) (sym s)
            (on_changed (λ o n. Takes None (free_extents old.volume.tracks) (option_map extents_of o) (option_map extents_of n))
            (λ o. set_takes_none None (free_extents old.volume.tracks) (option_map extents_of o) (option_map extents_of o) (set_stays (option_map extents_of o)))
            old.volume.sets k (with_extents (λ all. all ++ more)) (get old.volume.sets k) refl
            (λ x h. inr (more, ap (planned (free_extents old.volume.tracks)) is.tracks ∙ plan, refl)) q);
        unusable = λ n.
            ap (λ tracks. unusable_at tracks n) t
            ∙ same_use InSet Free more old.volume.tracks refl refl is.free n;
      }

-- a set that is made where there was none
module _ (old new : MountedState) (place : KeptPlace) (key : SetKey) (n : ℕ) (expires : Option ℕ) where
  none_was : (o : Option SetEntry) → option_map data_of o ≡ None → o ≡ None
  none_was None h = refl
  none_was (Some e) h = absurd cc

  abbrev entry_of : List Extent → SetEntry
  entry_of list = record { extents = record { items = list }; expires = expires; records = [] }

  made_with : (kept : Option (List Extent)) (list : List Extent) → set_on (Some old) key ≡ None →
      Takes kept (free_extents old.volume.tracks) None (Some list) → new.volume.sets ≡ insert old.volume.sets key (entry_of list) →
      (q : SetKey) → Takes kept (free_extents old.volume.tracks) (extents_on (Some old) q) (extents_on (Some new) q)
  made_with kept list none take s q =
      subst (λ (sets : Sets). Takes kept (free_extents old.volume.tracks) (extents_on (Some old) q) (option_map extents_of (get sets q))) (sym s)
      (on_each_key (λ o r. Takes kept (free_extents old.volume.tracks) (option_map extents_of o) (option_map extents_of r))
      (λ o. set_takes_none kept (free_extents old.volume.tracks) (option_map extents_of o) (option_map extents_of o) (set_stays (option_map extents_of o)))
      old.volume.sets (insert old.volume.sets key (entry_of list)) key (Some (entry_of list)) (set_put old.volume.sets key (entry_of list))
      (subst (λ o. Takes kept (free_extents old.volume.tracks) (option_map extents_of o) (Some list)) (sym (none_was (get old.volume.sets key) none)) take) q)

  pub made_take : (o : Option (List Extent)) → get old.kept place ≡ o → set_on (Some old) key ≡ None → AreKept old.volume.tracks old.kept →
      WasMade o old place key n expires new → TakeOn o (Some old) (Some new)
  made_take None e none are w =
      let is = planned_is old.volume.tracks n w.0 w.1 in
      record {
        extents = made_with None w.0 none (ap (planned (free_extents old.volume.tracks)) w.2 ∙ w.1) (ap (λ (m : MountedState). m.volume.sets) w.3);
        unusable = λ t.
            ap (λ (m : MountedState). unusable_at m.volume.tracks t) w.3
            ∙ same_use InSet Free w.0 old.volume.tracks refl refl is.free t;
      }
  made_take (Some list) e none are w = record {
    extents = made_with (Some list) list none refl (ap (λ (m : MountedState). m.volume.sets) w.1);
    unusable = λ t.
        ap (λ (m : MountedState). unusable_at m.volume.tracks t) w.1
        ∙ same_use InSet Aside list old.volume.tracks refl refl (list_kept old.volume.tracks old.kept place list e are) t;
  }

-- what is kept at a place on the volume of a serial
pub here_kept : (serial : List ℕ) (place : KeptPlace) (old new : Option MountedState) → TakeOn (kept_extents old place) old new →
    TakeOn (kept_there serial place serial old) old new
here_kept serial place old new h = subst (λ b. TakeOn (cond b (kept_extents old place) None) old new) (sym (name_itself serial)) h
