-- Printable machines by their parts: what is configured, what all jobs change, the jobs that wait, and the initiators.
use Rattle.std.proofs.Common.{◌≡◌, ◌++◌, ◌≤◌, ◌==◌, ℕ, Bool, true, false, not, cond, List, [], ◌∷◌, All, subst, sym}
use Rattle.std.specs.Prelude.{IfSome}
use Rattle.std.proofs.lemmas.List.Elements.{All-filter}
use Rattle.enq_core.specs.declared.table.Hold.{Hold}
use Rattle.machine_meaning.specs.declared.machine.TheConstants.{MOST_JOBS}
use Rattle.world_meaning.specs.Cancels.{with_cancel}
use Rattle.world_meaning.specs.Holdings.{released}
use Rattle.world_meaning.specs.Turns.{has_cancel}
use Rattle.world_meaning.specs.Worlds.{Config, Initiator, Shared, Waiting, World, counted}
use Rattle.line_laws.specs.Printable.{IsPrintable}
use Rattle.print_laws.specs.Printable.{ArePrintablePrograms}
use Rattle.print_laws.specs.Texts.{ArePrintableTexts, IsPrintableRunning, IsPrintableSpoolSet, IsPrintableWaiting, IsPrintableWorldStore}

pub record IsPrintableConfig (c : Config) : Type 0 where
  pub volumes : All IsPrintable c.volumes
  pub units : All (λ (serials : List (List ℕ)). All IsPrintable serials) c.units
  pub programs : ArePrintablePrograms c.programs

pub record IsPrintableShared (s : Shared) : Type 0 where
  pub store : IsPrintableWorldStore s.store
  pub holds : All (λ (h : Hold). IsPrintable h.name) s.holds
  pub spool : All IsPrintableSpoolSet s.spool

abbrev pub IsPrintableInitiator : Initiator → Type 0
IsPrintableInitiator x = IfSome x.running IsPrintableRunning

pub config_of : (w : World) → ArePrintableTexts w → IsPrintableConfig w.config
config_of w h = record { volumes = h.volumes; units = h.units; programs = h.programs }

pub shared_of : (w : World) → ArePrintableTexts w → IsPrintableShared w.shared
shared_of w h = record { store = h.store; holds = h.holds; spool = h.spool }

pub shared_as : (new at : Shared) → new ≡ at → IsPrintableShared at → IsPrintableShared new
shared_as new at is h = subst IsPrintableShared (sym is) h

-- what a job gives back is no text
pub released_printable : (c : Config) (s : Shared) (job : ℕ) (free : List ℕ → ℕ) → IsPrintableShared s → IsPrintableShared (released c s job free)
released_printable c s job free h = record {
  store = h.store;
  holds = All-filter (λ (x : Hold). not (x.job == job)) (λ (x : Hold). IsPrintable x.name) s.holds h.holds;
  spool = h.spool;
}

-- nor is a cancel
pub cancel_printable : (s : Shared) (job : ℕ) → IsPrintableShared s → IsPrintableShared (with_cancel s job)
cancel_printable s job h = by (has_cancel s.cancels job)
  where
    by : (b : Bool) → IsPrintableShared (cond b s (record s { cancels = s.cancels ++ job ∷ [] }))
    by true = h
    by false = record { store = h.store; holds = h.holds; spool = h.spool }

-- the machine with other parts
pub texts_with : (w : World) (s : Shared) (initiators : List Initiator) (waiting : List Waiting) (jobs : ℕ) → ArePrintableTexts w → IsPrintableShared s →
    All IsPrintableInitiator initiators → All IsPrintableWaiting waiting → jobs ≤ MOST_JOBS →
    ArePrintableTexts (record w { shared = s; initiators = initiators; waiting = waiting; jobs = jobs })
texts_with w s initiators waiting jobs h shared running waits few = record {
  volumes = h.volumes;
  units = h.units;
  programs = h.programs;
  store = shared.store;
  holds = shared.holds;
  spool = shared.spool;
  jobs = few;
  waiting = waits;
  running = running;
}

pub with_shared : (w : World) (s : Shared) → ArePrintableTexts w → IsPrintableShared s → ArePrintableTexts (record w { shared = s })
with_shared w s h shared = texts_with w s w.initiators w.waiting w.jobs h shared h.running h.waiting h.jobs

pub with_jobs : (w : World) (jobs : ℕ) → ArePrintableTexts w → jobs ≤ MOST_JOBS → ArePrintableTexts (record w { jobs = jobs })
with_jobs w jobs h few = texts_with w w.shared w.initiators w.waiting jobs h (shared_of w h) h.running h.waiting few

-- the count of events is no text
pub counted_printable : (w : World) → ArePrintableTexts w → ArePrintableTexts (counted w)
counted_printable w h = record {
  volumes = h.volumes;
  units = h.units;
  programs = h.programs;
  store = h.store;
  holds = h.holds;
  spool = h.spool;
  jobs = h.jobs;
  waiting = h.waiting;
  running = h.running;
}
