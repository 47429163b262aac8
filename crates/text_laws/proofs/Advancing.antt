-- An action of an admitted job writes printable lines, and leaves what is printable.
use Rattle.std.proofs.Common.{◌++◌, ◌≡◌, All, Bool, List, Option, Some, [], ℕ, drop, subst, sym}
use Rattle.std.specs.Prelude.{IfSome, filter}
use Rattle.std.proofs.lemmas.List.Elements.{All-append, All-drop, All-filter, All-nil, All-same}
use Rattle.jcl_plan.specs.declared.entry.JobLine.{JobLine}
use Rattle.jcl_plan.specs.declared.plan.JobPlan.{JobPlan}
use Rattle.jcl_meaning.specs.declared.state.Own.{Own}
use Rattle.jcl_meaning.specs.Agendas.{agenda}
use Rattle.machine_meaning.specs.declared.machine.SpoolSet.{SpoolSet}
use Rattle.machine_meaning.specs.Spools.{has_lines, sets_of}
use Rattle.world_meaning.specs.Lenses.{seen}
use Rattle.world_meaning.specs.Turns.{Advanced, Advances, advanced, answers_due, granting, shared_after, state_in, with_output}
use Rattle.world_meaning.specs.Worlds.{Admission, Admitted, Config, Running, Shared}
use Rattle.world_meaning.specs.Readings.{waits}
use Rattle.line_laws.specs.Printable.{IsPrintableLine}
use Rattle.print_laws.specs.Printable.{IsPrintableAction, IsPrintableDone, IsPrintableFixed, IsPrintableOwn, IsPrintablePlan}
use Rattle.print_laws.specs.PrintLaws.{ActIsPrintable, AgendasArePrintable}
use Rattle.print_laws.specs.Texts.{IsPrintableRunning, IsPrintableSpoolSet}
use Rattle.text_laws.proofs.Running.{advance_printable, back_printable, seen_printable}
use Rattle.text_laws.proofs.Shares.{IsPrintableConfig, IsPrintableShared, released_printable, shared_as}
use Rattle.text_laws.proofs.Turns.{IsPrintableTurn, goes_on, gone}
use Rattle.text_laws.proofs.Spooling.{sets_printable}

module _ (c : Config) (old : Shared) (r : Running) (lines : List JobLine) (new : Shared) (runs : Option Running) (shared : IsPrintableShared old)
    (job : IsPrintableRunning r) where
  abbrev Turned : Type 0
  Turned = IsPrintableTurn lines new runs

  -- an admitted job does its next action
  module _ (agendas : AgendasArePrintable) (acts : ActIsPrintable) (configured : IsPrintableConfig c) (plan : JobPlan) (h : IsPrintablePlan plan)
      (a : Admission) (is : IsPrintableFixed a.fixed) (own : Own) (its : IsPrintableOwn own) where
    acted_printable : (count : ℕ) (growth primary : Bool) (x : Advanced) → advanced c old r.job plan a count own growth primary ≡ Some x →
        IsPrintableDone x.done
    acted_printable count growth primary x so =
        advance_printable acts a.fixed is (answers_due c.programs plan.steps (granting old r.job growth primary)) (drop count (agenda plan c.programs))
        (state_in (seen r.job old.store) own) count x
        (All-drop IsPrintableAction count (agenda plan c.programs) (agendas.whole plan c.programs h configured.programs))
        (seen_printable r.job old.store shared.store) its so

    after_printable : (x : Advanced) (free : List ℕ → ℕ) → IsPrintableDone x.done → IsPrintableShared (shared_after old r.job x free)
    after_printable x free done = record {
      store = back_printable r.job old.store x.done.state.store shared.store done.store;
      holds = shared.holds;
      spool = shared.spool;
    }

    output_of : (x : Advanced) (free : List ℕ → ℕ) → IsPrintableDone x.done → IsPrintableShared (with_output (shared_after old r.job x free) r plan x)
    output_of x free done =
        let sets : List SpoolSet = sets_of r.job plan.message_class (r.listing ++ x.done.lines) x.done.state.own.outputs in
        record {
          store = (after_printable x free done).store;
          holds = shared.holds;
          spool = All-append IsPrintableSpoolSet old.spool (filter has_lines sets) shared.spool
              (All-filter has_lines IsPrintableSpoolSet sets
              (sets_printable r.job plan.message_class (r.listing ++ x.done.lines) x.done.state.own.outputs h.message_class
              (All-append IsPrintableLine r.listing x.done.lines job.listing done.lines) done.own.outputs));
        }

    pub advances_printable : (count : ℕ) → Advances c old r plan a count own lines new runs → Turned
    advances_printable count (Advances.waits x growth primary so waits told left stays) = record {
      told = All-same IsPrintableLine lines [] told (All-nil IsPrintableLine);
      shared = shared_as new old left shared;
      runs_on = subst (λ (o : Option Running). IfSome o IsPrintableRunning) (sym stays) job;
    }
    advances_printable count (Advances.acts x growth primary free so granted goes on told left conserves stays) =
        let done : IsPrintableDone x.done = acted_printable count growth primary x so in
        let tells : All IsPrintableLine lines = All-same IsPrintableLine lines x.done.lines told done.lines in
        record {
          told = tells;
          shared = shared_as new _ left (after_printable x free done);
          runs_on = goes_on runs r lines (Admitted plan a x.count x.done.state.own) stays job tells (h, is, done.own);
        }
    advances_printable count (Advances.ends x growth primary free so granted goes over told left conserves none) =
        let done : IsPrintableDone x.done = acted_printable count growth primary x so in
        record {
          told = All-same IsPrintableLine lines x.done.lines told done.lines;
          shared = shared_as new _ left (released_printable c _ r.job free (output_of x free done));
          runs_on = gone runs none;
        }
