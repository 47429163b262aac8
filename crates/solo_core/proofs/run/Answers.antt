-- The runner starts fresh, and what it did is the run of the agenda.
use Rattle.std.proofs.Common.{◌∙◌, ◌==◌, List, length, true, refl, ap}
use Rattle.jcl_meaning.specs.declared.store.SoloStore.{SoloStore}
use Rattle.jcl_meaning.specs.Stores.{store_of}
use Rattle.store_core.specs.Actions.{state_at}
use Rattle.solo_core.specs.declared.path.MetFault.{MetFault}
use Rattle.solo_core.specs.Meets.{faults_of}
use Rattle.solo_core.proofs.Starts.{is_run_of}
use Rattle.solo_core.proofs.run.Goals as goal

pub returns : goal.returns
returns c =
    is_run_of _ _ _ c.args.store.now _ c.run_agenda.new.self c.in_ok-faults.faults c.is_empty-clean.result
    c.empty.ensures c.empty-2.ensures (ap (λ (s : SoloStore). s.volumes) c.in_ok-copy_of.ensures)
    (λ i. record {
      job_tests = c.as_slice.ensures.value i;
      volumes = c.as_slice-2.ensures i;
      places = c.args.places.now;
      meanings = c.in_ok-meanings.ensures i;
      date = c.args.date;
    })
    (λ i. state_at (store_of (c.in_ok-copy_of.ensures i)) (c.nothing_own.ensures i)
    (record { outcomes = c.args.outcomes.now; cancels = c.args.cancels.now; grants = c.args.grants.now; primary = true }))
    c.in_ok-run_agenda.ensures (c.in_ok-faults.ensures ∙ ap faults_of c.as_slice-3.ensures)
    (c.is_empty-clean.ensures ∙ ap (λ (l : List MetFault). length l == 0) c.as_slice-4.ensures)
