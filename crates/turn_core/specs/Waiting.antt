-- The volume that an action needs idle, as it can be told before, and whether the action must wait.
use Rattle.std.specs.Prelude.{ℕ, Bool, true, false, not, ◌&&◌, ◌||◌, List, drop, slice_get, Option, Some, None, if◌then◌else◌}
use Rattle.jcl_plan.specs.declared.plan.DdKind.{DdKind}
use Rattle.jcl_plan.specs.declared.plan.DdKind.TheVariants.{Sysout, Dummy, Cards, Set}
use Rattle.jcl_plan.specs.declared.plan.DdPlan.{DdPlan}
use Rattle.jcl_plan.specs.declared.plan.StepPlan.{StepPlan}
use Rattle.jcl_meaning.specs.declared.program.Move.{Move}
use Rattle.jcl_meaning.specs.declared.program.Move.TheVariants.{From, To}
use Rattle.jcl_meaning.specs.declared.source.FoundRecord.{FoundRecord}
use Rattle.jcl_meaning.specs.declared.state.DdState.{DdState}
use Rattle.jcl_meaning.specs.declared.state.Own.{Own}
use Rattle.jcl_meaning.specs.declared.state.TakenSet.{TakenSet}
use Rattle.jcl_meaning.specs.Agendas.{Action, Ask}
use Rattle.jcl_meaning.specs.Programs.{dd_of, is_concatenated, is_read_only, located, members_at, sources_from}
use Rattle.jcl_meaning.specs.RequestActs.{dd_name}
use Rattle.jcl_meaning.specs.Stores.{Store}
use Rattle.prog_core.specs.declared.units.Operation.{Operation}
use Rattle.prog_core.specs.Operations.{has_operation, is_busy}
use Rattle.request_core.specs.Requests.{here_at}
use Rattle.request_core.specs.declared.here.Here.{Here}
use Rattle.job_text.specs.Places.{dd_at}
use Rattle.turn_core.specs.declared.walk.Setting.{Setting}
use Rattle.world_meaning.specs.Turns.{is_result, volume_taken}

-- of a record that a GET reads from a set
abbrev pub volume_by : Option (List ℕ) → Option (List ℕ) → Option (List ℕ)
volume_by None serial = None
volume_by (Some text) serial = serial

abbrev pub volume_found : FoundRecord → Option (List ℕ)
volume_found found = volume_by found.text found.serial

abbrev pub volume_reads : StepPlan → ℕ → ℕ → ℕ → Store → List DdState → Option (List ℕ)
volume_reads step d member position seen dds = volume_found (located (drop member (sources_from seen (members_at (drop d step.dds)) dds d)) member position)

-- of the set to which a PUT goes
abbrev pub volume_put : DdKind → Option TakenSet → Option (List ℕ)
volume_put (Sysout class) t = None
volume_put Dummy t = None
volume_put (Cards cards) t = None
volume_put (Set p) t = volume_taken t

abbrev pub volume_unless : Bool → DdKind → Option TakenSet → Option (List ℕ)
volume_unless true kind t = None
volume_unless false kind t = volume_put kind t

abbrev pub volume_of : StepPlan → Move → Here → DdPlan → Store → List DdState → Option (List ℕ)
volume_of step (From name) here dd seen dds = volume_reads step here.d here.member here.position seen dds
volume_of step (To name text) here dd seen dds = volume_unless (is_read_only dd.kind || is_concatenated (drop here.d step.dds)) dd.kind here.taken

abbrev pub volume_here : StepPlan → Move → Here → Store → List DdState → Option (List ℕ)
volume_here step wants here seen dds = volume_of step wants here (dd_at step.dds here.d) seen dds

abbrev pub volume_at_dd : Option DdState → Option DdPlan → StepPlan → Move → ℕ → Store → List DdState → Option (List ℕ)
volume_at_dd None dd step wants d seen dds = None
volume_at_dd (Some x) None step wants d seen dds = None
volume_at_dd (Some x) (Some dd) step wants d seen dds = volume_of step wants (here_at d x) dd seen dds

abbrev pub volume_at : Option ℕ → StepPlan → Move → Store → List DdState → Option (List ℕ)
volume_at None step wants seen dds = None
volume_at (Some d) step wants seen dds = volume_at_dd (slice_get dds d) (slice_get step.dds d) step wants d seen dds

-- of a request in whose place no cancel stands
abbrev pub volume_asked_for : StepPlan → Move → Store → List DdState → Option (List ℕ)
volume_asked_for step wants seen dds = volume_at (dd_of step.dds (dd_name wants)) step wants seen dds

abbrev pub volume_due : Bool → Action → Store → Own → Option (List ℕ)
volume_due cancelled (Ask step wants) seen own = if cancelled then None else volume_asked_for step wants seen own.dds
volume_due cancelled other seen own = None

abbrev pub waits_at : List Operation → ℕ → Bool → Action → Store → Own → Bool
waits_at operations job cancelled a seen own =
    is_busy operations (volume_due cancelled a seen own) || (is_result a && not cancelled && has_operation operations job)

abbrev pub waits_in : Setting → Action → Store → Own → Bool
waits_in s a seen own = waits_at s.units.now s.job s.cancelled a seen own
