-- What a job's turn asks of a machine holds of one that is sound and supplied.
use Rattle.std.proofs.Common.{◌≡◌, ℕ, ◌==◌, ◌||◌, Bool, true, false, cond, List, [], ◌∷◌, Option, Some, None, eq-eqb, refl, ap, subst}
use Rattle.std.specs.Prelude.{filter}
use Rattle.std.specs.List.{list_any}
use Rattle.cb_queue.specs.RecordQueues.{RecordQueue}
use Rattle.extent_core.specs.declared.extent.Extent.{Extent}
use Rattle.case_laws.specs.Cases.{CanGoOn, is_assured_at}
use Rattle.case_laws.proofs.KeptAlone.{none_before}
use Rattle.law_core.specs.Soundness.{RunsAt, plan_read}
use Rattle.law_core.proofs.Reading.{plan_formed}
use Rattle.world_laws.specs.Beside.{FitsAt, RunsFit}
use Rattle.world_meaning.specs.Worlds as world
use Rattle.world_meaning.specs.Worlds.{Config, Kept, World}
use Rattle.mount_core.specs.declared.place.KeptPlace.{KeptPlace}
use Rattle.mount_core.specs.Mounts.{MountedState}
use Rattle.shared_core.specs.Shown.{kept_extents, mounted_in}
use Rattle.shared_core.specs.Tracks.{kept_tracks}
use Rattle.shared_core.proofs.ShownLists.{any_shown}
use Rattle.place_core.specs.Placings.{NothingKeptFor}
use Rattle.init_core.specs.Providing.{IsProvided, IsProvidedAt}
use Rattle.init_core.specs.Running.{shown_running, shown_stage}
use Rattle.init_core.specs.declared.running.Running.{Running}
use Rattle.init_core.specs.declared.running.Stage.{Stage}
use Rattle.init_core.specs.declared.running.Stage.TheVariants.{Admitted, Named, Selected, Wanting}
use Rattle.sched_core.specs.Fits.{IsKept}
use Rattle.sched_core.specs.Machines.{RunsIn, world_in}
use Rattle.sched_core.specs.declared.state.State.{State}
use Rattle.sched_core.proofs.Seats.{runs_at}

none_passes : (p : Kept → Bool) (ks : List Kept) → filter p ks ≡ [] → list_any p ks ≡ true → ⊥
none_passes p [] none some = absurd cc
none_passes p (k ∷ ks) none some = by_test (p k) none some (none_passes p ks)
  where
    by_test : (b : Bool) → cond b (k ∷ filter p ks) (filter p ks) ≡ [] → (b || list_any p ks) ≡ true → (filter p ks ≡ [] → list_any p ks ≡ true → ⊥) → ⊥
    by_test true none some more = absurd cc
    by_test false none some more = more none some

-- where no tracks of a job are shown none are kept for it
none_for : (job : ℕ) (o : Option MountedState) (at : KeptPlace) → at.job ≡ job → filter (λ k. k.job == job) (kept_tracks o) ≡ [] → kept_extents o at ≡ None
none_for job o at its none = by_list (kept_extents o at) refl
  where
    by_list : (x : Option (List Extent)) → kept_extents o at ≡ x → x ≡ None
    by_list None e = refl
    by_list (Some list) e = absurd (none_passes (λ k. k.job == job) (kept_tracks o) none (any_shown (λ k. k.job == job) o at list e (eq-eqb at.job job its)))

module _ {Q : Type 0} (queue_of : Q → RecordQueue) (c : Config) (s : State Q) (kept : IsKept queue_of c s) (place : ℕ) (r : Running)
    (its : RunsIn s.initiators.items place r) where
  abbrev w : World
  w = world_in queue_of c s

  abbrev shown_r : world.Running
  shown_r = shown_running c (queue_of s.parts.queue) r

  runs : RunsAt w place shown_r
  runs = runs_at queue_of c s place r its

  nothing_kept : is_assured_at (shown_stage c r.walk r.stage) ≡ false → NothingKeptFor r.job s.parts.store
  nothing_kept unassured serial at same =
      none_for r.job (mounted_in s.parts.store.volumes serial) at same (none_before w kept.sound kept.supplied.kept place shown_r runs unassured serial)

  can_go_on : (stage : Stage) → r.stage ≡ stage → CanGoOn c w.shared r.job (shown_stage c r.walk stage)
  can_go_on stage is = subst (λ (x : Stage). CanGoOn c w.shared r.job (shown_stage c r.walk x)) is (kept.supplied.running place shown_r runs)

  its_fit : (stage : Stage) → r.stage ≡ stage → FitsAt c (shown_stage c r.walk stage)
  its_fit stage is =
      subst (λ (x : Stage). FitsAt c (shown_stage c r.walk x)) is (subst (RunsFit c) runs.running (kept.sound.fits place runs.it runs.at))

  provided_at : (stage : Stage) → r.stage ≡ stage → IsProvidedAt queue_of c s.parts r.job r.walk stage
  provided_at (Selected first) is = tt
  provided_at (Wanting plan wants) is = tt
  provided_at (Named named) is = record {
    nothing = nothing_kept (ap (λ (x : Stage). is_assured_at (shown_stage c r.walk x)) is);
    formed = plan_formed c.layout.most_steps _ named.plan
        (kept.sound.denoted place shown_r named.plan runs (ap (λ (x : Stage). plan_read (shown_stage c r.walk x)) is)).denoted.in_range;
    groups = kept.sound.groups r.job;
  }
  provided_at (Admitted a) is = λ assured. record {
    programs = kept.sound.programs;
    fits = its_fit (Admitted a) is;
    covered = (can_go_on (Admitted a) is).1 assured;
  }

  pub provided : IsProvided queue_of c s.parts r
  provided = provided_at r.stage refl
