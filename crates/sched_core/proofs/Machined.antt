-- The machine's value, and the state that it stands for.
use Rattle.std.proofs.Common.{◌≡◌, ℕ, List, length, refl, sym, ◌∙◌, subst}
use Rattle.std.specs.Prelude.{Result}
use Rattle.cb_queue.specs.RecordQueues.{RecordQueue, shown}
use Rattle.jcl_plan.specs.declared.entry.Entry.{Entry}
use Rattle.proc_library.specs.declared.library.LibraryProcedure.{LibraryProcedure}
use Rattle.world_meaning.specs.Worlds.{World}
use Rattle.shared_core.specs.LaidOut.{VolumesAreLaidOut}
use Rattle.walk_laws.specs.WalkLaws.{AreRecords}
use Rattle.init_core.specs.Extents.{ExtentsFollow}
use Rattle.init_core.specs.Running.{config_of}
use Rattle.init_core.specs.declared.running.Profile.{Profile}
use Rattle.sched_core.specs.Fits.{IsKept}
use Rattle.sched_core.specs.Machines.{config_in, world_in}
use Rattle.sched_core.specs.Systems.{Applies, IsNext, IsSystem, Machine, machine_in, world_of}
use Rattle.sched_core.specs.declared.fault.ApplyFault.{ApplyFault}
use Rattle.sched_core.specs.declared.state.State.{State}

module _ {Q : Type 0} (queue_of : Q → RecordQueue) (p : Profile) (names : List (List ℕ)) (library : List LibraryProcedure) (s : State Q) where
  abbrev pub before : Machine
  before = machine_in queue_of p names library s

  module _ (new : State Q) (layout : (queue_of new.parts.queue).layout ≡ (queue_of s.parts.queue).layout) where
    abbrev pub after : Machine
    after = machine_in queue_of p names library new

    pub same_world : world_of after ≡ world_in queue_of (config_in queue_of p s) new
    same_world = λ i. world_in queue_of (config_of p (layout i)) new

    pub applied : (result : Result (List Entry) ApplyFault) (allows : List Entry → World → Type 0) →
        Applies result (world_of before) (world_in queue_of (config_in queue_of p s) new) allows → Applies result (world_of before) (world_of after) allows
    applied result allows h = subst (λ w. Applies result (world_of before) w allows) (sym same_world) h

    pub next_machine : ExtentsFollow s.parts.store new.parts.store → IsKept queue_of (config_in queue_of p s) new →
        VolumesAreLaidOut new.parts.store.volumes → AreRecords (shown (queue_of new.parts.queue)) → IsNext before after
    next_machine extents kept laid_out records = record {
      fixed = record { config = λ i. config_of p (layout i); unit_names = refl; library = refl };
      extents = extents;
      whole = record { serials = kept.fit.good.volumes; laid_out = laid_out; records = records };
    }

    pub system_again : IsKept queue_of (config_in queue_of p s) new → length names ≡ length p.units.now → IsSystem queue_of p names new
    system_again k named = record { kept = subst (λ l. IsKept queue_of (config_of p l) new) (sym layout) k; named = named }

-- a machine of which the count of events alone changed
module _ {Q : Type 0} (queue_of : Q → RecordQueue) (p : Profile) (names : List (List ℕ)) (library : List LibraryProcedure) (s new : State Q) (n : ℕ)
    (same : machine_in queue_of p names library new ≡ machine_in queue_of p names library (record s { events = n })) where
  pub counted_alone : machine_in queue_of p names library new ≡ record (machine_in queue_of p names library s) { events = new.events }
  counted_alone = same ∙ (λ i. record (machine_in queue_of p names library s) { events = (sym same i).events })

  pub counted_back : (m : ℕ) → m ≡ s.events → machine_in queue_of p names library (record new { events = m }) ≡ machine_in queue_of p names library s
  counted_back m is = (λ i. record (same i) { events = m }) ∙ (λ i. record (machine_in queue_of p names library s) { events = is i })
