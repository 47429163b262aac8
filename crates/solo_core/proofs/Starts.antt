-- A runner that starts fresh.
use Rattle.std.proofs.Common.{◌≡◌, ◌++◌, ◌==◌, ◌∙◌, Bool, List, [], Option, length, map, ap, sym}
use Rattle.std.proofs.lemmas.List.{length-map}
use Rattle.jcl_plan.specs.declared.fault.Fault.{Fault}
use Rattle.jcl_meaning.specs.declared.store.SoloStore.{SoloStore}
use Rattle.jcl_meaning.specs.Agendas.{Action}
use Rattle.jcl_meaning.specs.Solo.{Met, Ran, run}
use Rattle.jcl_meaning.specs.States.{Fixed, State}
use Rattle.disp_core.specs.Courses.{fixed_by}
use Rattle.solo_core.specs.declared.path.MetFault.{MetFault}
use Rattle.solo_core.specs.declared.runner.Runner.{Runner}
use Rattle.solo_core.specs.Meets.{faults_of, meets_in, met_of}
use Rattle.solo_core.specs.PathRuns.{IsPathRun}
use Rattle.solo_core.specs.Runners.{Acts, ran_by, state_by}
use Rattle.solo_core.proofs.Runs.{run_faults}

-- a runner without lines, that met nothing yet and has the start's volumes, from a state that is known
pub is_run_of : (actions : List Action) (f : Fixed) (s : State) (start : SoloStore) (a b : Runner) (faults : List MetFault) (clean : Bool) →
    a.course.lines ≡ [] → a.meets ≡ [] → a.store.store.volumes ≡ start.volumes → fixed_by a.given ≡ f → state_by a ≡ s → Acts actions a b →
    map met_of faults ≡ faults_of b.meets → clean ≡ (length faults == 0) →
    IsPathRun (record { run = record { lines = b.course.lines; store = b.store.store; clean = clean }; faults = faults }) start (run f actions s)
is_run_of actions f s start a b faults clean none no_meets volumes fixed state p told empty =
    let same : ran_by a actions ≡ run f actions s = λ i. run (fixed i) actions (state i) in
    let its : map met_of faults ≡ (run f actions s).faults =
    told ∙ ap faults_of p.meets ∙ (λ i. faults_of (no_meets i ++ meets_in (fixed i) actions (state i))) ∙ sym (run_faults f actions s) in
    record {
      run = record {
        lines = p.lines ∙ (λ i. none i ++ (same i).lines);
        store = ap (λ (t : State). t.store) p.state ∙ ap (λ (r : Ran). r.state.store) same;
        volumes = p.keeps.volumes ∙ volumes;
        clean = empty ∙ ap (λ n. n == 0) (sym (length-map faults met_of)) ∙ ap (λ (l : List Met). length l == 0) its;
      };
      faults = its;
    }
