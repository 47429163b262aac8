-- The job of an initiator goes on where it is.
use Rattle.std.proofs.Common.{◌≡◌, ◌∙◌, ℕ, List, Option, Some, ap, drop, refl, slice_get, subst, sym}
use Rattle.std.specs.Prelude.{slice_set}
use Rattle.std.proofs.lemmas.List.{length-set}
use Rattle.cb_queue.specs.RecordQueues.{RecordQueue}
use Rattle.jcl_plan.specs.declared.entry.Entry.{Entry}
use Rattle.machine_core.specs.declared.parts.Parts.{Parts}
use Rattle.init_core.specs.Going.{WentInPlace}
use Rattle.init_core.specs.Providing.{IsProvided}
use Rattle.init_core.specs.Running.{IsReady, config_of}
use Rattle.init_core.specs.declared.running.Profile.{Profile}
use Rattle.init_core.specs.declared.running.Progress.TheVariants.{GoesOn}
use Rattle.init_core.specs.declared.running.Running.{Running}
use Rattle.world_meaning.specs.Worlds.{of_job}
use Rattle.sched_core.specs.Fits.{IsKept}
use Rattle.sched_core.specs.Going.{TurnsAt, TurnsJob}
use Rattle.sched_core.specs.Machines.{RunsIn, config_in}
use Rattle.sched_core.specs.declared.state.Initiator.{Initiator}
use Rattle.sched_core.specs.declared.state.State.{State}
use Rattle.sched_core.proofs.Places.{set_same}
use Rattle.sched_core.proofs.Providing.{provided}
use Rattle.sched_core.proofs.Seats.{one_job}

-- with another initiator at a place
abbrev pub with_initiator : {Q : Type 0} → State Q → Parts Q → ℕ → Initiator → State Q
with_initiator s parts place y = record s {
  parts = parts;
  initiators = record s.initiators {
    items = slice_set s.initiators.items place y;
    ok = (s.initiators.ok.0 ∙ sym (length-set s.initiators.items place y), s.initiators.ok.1);
  };
}

module _ {Q : Type 0} (queue_of : Q → RecordQueue) (profile : Profile) (s : State Q) (kept : IsKept queue_of (config_in queue_of profile s) s)
    (r running : Running) (x : Initiator) where
  module _ (place : ℕ) (there : RunsIn s.initiators.items place r) (at : slice_get s.initiators.items place ≡ Some x) (is : x.running ≡ Some running) where
    same : r ≡ running
    same = one_job s.initiators.items place r running there (record { it = x; at = at; running = is })

    pub ready : IsReady (config_in queue_of profile s) s.parts.names running
    ready = subst (λ q. IsReady (config_in queue_of profile s) s.parts.names q) same (kept.fit.ready place r there)

    pub has_records : IsProvided queue_of (config_in queue_of profile s) s.parts running
    has_records = subst (IsProvided queue_of (config_in queue_of profile s) s.parts) same (provided queue_of (config_in queue_of profile s) s kept place r there)

    -- the same job stands there again
    pub back : (y : Running) → y ≡ running → slice_set s.initiators.items place (record x { running = Some y }) ≡ s.initiators.items
    back y e = set_same s.initiators.items place x (record x { running = Some y }) at (λ i. record x { running = (ap Some e ∙ sym is) i })

    -- it went on in its place, from where its new lines begin
    pub in_place : (parts : Parts Q) (after : Running) (from : ℕ) (lines : List Entry) →
        WentInPlace queue_of profile s.parts running parts after (Some from) → lines ≡ of_job running.job (drop from after.walk.course.lines) →
        TurnsAt queue_of (config_in queue_of profile s) place s.parts s.initiators.items parts
        (slice_set s.initiators.items place (record x { running = Some after })) lines
    in_place parts after from lines went told = record {
      it = x;
      at = at;
      then = record x { running = Some after };
      turns = record { running = running; runs = is; came = GoesOn after from; went = went; told = told; leaves = refl };
      leaves = refl;
    }

    module _ (kept_parts : Parts Q) (again : Running) (parts_are : kept_parts ≡ s.parts) (again_is : again ≡ running) (parts : Parts Q) (y : Initiator) where
      -- or by a turn by which it may leave
      pub away : (lines : List Entry) →
          TurnsJob queue_of (config_of profile (queue_of kept_parts.queue).layout) kept_parts (record x { running = Some again }) parts y lines →
          TurnsAt queue_of (config_in queue_of profile s) place s.parts s.initiators.items parts (slice_set s.initiators.items place y) lines
      away lines t = record {
        it = x;
        at = at;
        then = y;
        turns = subst
            (λ (z : Parts Q × Option Running).
            TurnsJob queue_of (config_of profile (queue_of z.0.queue).layout) z.0 (record x { running = z.1 }) parts y lines)
            (λ i. (parts_are i, (ap Some again_is ∙ sym is) i)) t;
        leaves = refl;
      }

      -- or nothing has changed
      pub stays : y ≡ record x { running = Some again } → slice_set s.initiators.items place y ≡ s.initiators.items
      stays e = set_same s.initiators.items place x y at (e ∙ (λ i. record x { running = (ap Some again_is ∙ sym is) i }))
