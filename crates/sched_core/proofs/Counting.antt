-- A machine that counted one event more is as sound and as fit as it was.
use Rattle.std.proofs.Common.{◌≤◌, ℕ}
use Rattle.cb_queue.specs.RecordQueues.{RecordQueue}
use Rattle.machine_meaning.specs.declared.machine.TheConstants.{MOST_EVENTS}
use Rattle.law_core.specs.Soundness.{IsSound, RunsAt}
use Rattle.world_meaning.specs.Worlds.{Config, Running, World}
use Rattle.case_laws.specs.Cases.{HasAssured, IsSupplied}
use Rattle.sched_core.specs.Fits.{IsFit, IsKept}
use Rattle.sched_core.specs.Machines.{world_in}
use Rattle.sched_core.specs.declared.state.State.{State}

module _ (w : World) (n : ℕ) where
  back : (place : ℕ) (r : Running) → RunsAt (record w { events = n }) place r → RunsAt w place r
  back place r h = record { it = h.it; at = h.at; running = h.running }

  pub sound_at : IsSound w → IsSound (record w { events = n })
  sound_at s = record {
    layout = s.layout;
    programs = s.programs;
    initiators = s.initiators;
    in_order = s.in_order;
    numbered = s.numbered;
    alone = λ place r h. let a = s.alone place r (back place r h) in
        record { numbered = a.numbered; not_waiting = a.not_waiting; alone = λ other t g same. a.alone other t (back other t g) same };
    held = λ place r plan h e. s.held place r plan (back place r h) e;
    compatible = λ place other r t plan q h g apart e f. s.compatible place other r t plan q (back place r h) (back other t g) apart e f;
    denoted = λ place r plan h e. s.denoted place r plan (back place r h) e;
    fits = s.fits;
    groups = s.groups;
  }

  on : (place : ℕ) (r : Running) → RunsAt w place r → RunsAt (record w { events = n }) place r
  on place r h = record { it = h.it; at = h.at; running = h.running }

  assured_on : (job : ℕ) → HasAssured w job → HasAssured (record w { events = n }) job
  assured_on job h = record { place = h.place; running = h.running; runs = on h.place h.running h.runs; its = h.its; assured = h.assured }

  pub supplied_at : IsSupplied w → IsSupplied (record w { events = n })
  supplied_at s = record {
    spooled = s.spooled;
    running = λ place r h. s.running place r (back place r h);
    kept = λ serial k there. assured_on k.job (s.kept serial k there);
  }

module _ {Q : Type 0} (queue_of : Q → RecordQueue) (c : Config) (s : State Q) where
  pub fit_at : (n : ℕ) → n ≤ MOST_EVENTS → IsFit queue_of c s → IsFit queue_of c (record s { events = n })
  fit_at n few f = record {
    good = f.good;
    holds = f.holds;
    days = f.days;
    listed = f.listed;
    ready = f.ready;
    unnamed = f.unnamed;
    steps = f.steps;
    few_jobs = f.few_jobs;
    few_events = few;
  }

  pub kept_at : (n : ℕ) → n ≤ MOST_EVENTS → IsKept queue_of c s → IsKept queue_of c (record s { events = n })
  kept_at n few k = record {
    sound = sound_at (world_in queue_of c s) n k.sound;
    supplied = supplied_at (world_in queue_of c s) n k.supplied;
    fit = fit_at n few k.fit;
  }
