-- A turn writes RISK only where it answers a job.
use Rattle.std.proofs.Common.{◌≡◌, ◌∙◌, ℕ, Bool, false, List, All, drop, Option, Some, refl, ap}
use Rattle.std.specs.List.{list_any}
use Rattle.cb_queue.specs.RecordQueues.{RecordQueue}
use Rattle.jcl_plan.specs.declared.entry.JobLine.{JobLine}
use Rattle.jcl_plan.specs.declared.plan.JobPlan.{JobPlan}
use Rattle.jcl_meaning.specs.declared.state.Own.{Own}
use Rattle.jcl_meaning.specs.Agendas.{agenda}
use Rattle.law_core.proofs.Over.{advance_stands, riskless}
use Rattle.law_core.proofs.PlainLines.{is_risk}
use Rattle.world_meaning.specs.Holdings.{Holds, ReadsRecords, blocked, broken, held, read}
use Rattle.world_meaning.specs.Transitions.{GoesOn}
use Rattle.world_meaning.specs.Turns.{Advanced, Advances, acts, advanced, ends, waits}
use Rattle.world_meaning.specs.Worlds as world
use Rattle.world_meaning.specs.Worlds.{Config, Shared}
use Rattle.turn_core.specs.Standing.{count_at}
use Rattle.turn_core.specs.declared.walk.Walk.{Walk}
use Rattle.machine_core.specs.Shown.{shown}
use Rattle.machine_core.specs.declared.parts.Parts.{Parts}
use Rattle.init_core.specs.Going.{IsToldOnce, Went}
use Rattle.init_core.specs.Admissions.{named_of}
use Rattle.init_core.specs.Running.{shown_admission, shown_running, shown_stage}
use Rattle.init_core.specs.declared.running.Progress.TheVariants as progress
use Rattle.init_core.specs.declared.running.Running.{Running}
use Rattle.init_core.specs.declared.running.Stage.{Stage}
use Rattle.init_core.specs.declared.running.Stage.TheVariants as stage
use Rattle.sched_core.specs.Copies.{unless_risk}
use Rattle.sched_core.proofs.Copying.{copied_lines}

in_holds : (s : Shared) (r : world.Running) (plan : JobPlan) (lines : List JobLine) (new : Shared) (runs : Option world.Running) → Holds s r plan lines new runs →
    list_any is_risk lines ≡ false
in_holds s r plan lines new runs (held free told is on) = ap (list_any is_risk) told
in_holds s r plan lines new runs (blocked by first told is on) = ap (list_any is_risk) told

in_reading : (c : Config) (s : Shared) (r : world.Running) (first : ℕ) (lines : List JobLine) (new : Shared) (runs : Option world.Running) →
    ReadsRecords c s r first lines new runs → list_any is_risk lines ≡ false
in_reading c s r first lines new runs (broken n free fault told is conserves over) = ap (list_any is_risk) told
in_reading c s r first lines new runs (read plan behind denotes h) = in_holds s r plan lines new runs h

in_turn : (c : Config) (s : Shared) (job : ℕ) (plan : JobPlan) (a : world.Admission) (count : ℕ) (own : Own) (growth primary : Bool) (x : Advanced) →
    advanced c s job plan a count own growth primary ≡ Some x → list_any is_risk x.done.lines ≡ false
in_turn c s job plan a count own growth primary x e =
    riskless (agenda plan c.programs) a.fixed x (advance_stands _ a.fixed (agenda plan c.programs) _ _ count x refl e)

in_advance : (c : Config) (s : Shared) (r : world.Running) (plan : JobPlan) (a : world.Admission) (count : ℕ) (own : Own) (lines : List JobLine) (new : Shared)
    (runs : Option world.Running) → Advances c s r plan a count own lines new runs → list_any is_risk lines ≡ false
in_advance c s r plan a count own lines new runs (waits x growth primary is must told same on) = ap (list_any is_risk) told
in_advance c s r plan a count own lines new runs (acts x growth primary free is granted goes further told same conserves on) =
    ap (list_any is_risk) told ∙ in_turn c s r.job plan a count own growth primary x is
in_advance c s r plan a count own lines new runs (ends x growth primary free is granted goes over told same conserves on) =
    ap (list_any is_risk) told ∙ in_turn c s r.job plan a count own growth primary x is

-- a job that is answered is told of with its answer, and its turn is none of these
by_stage : (c : Config) (walk : Walk) (stage : Stage) (s : Shared) (r : world.Running) (q : Running) (from : ℕ) (lines : List JobLine) (new : Shared)
    (runs : Option world.Running) → IsToldOnce stage (progress.GoesOn q from) → GoesOn c s r (shown_stage c walk stage) lines new runs → list_any is_risk lines ≡ false
by_stage c walk (stage.Selected first) s r q from lines new runs once g = in_reading c s r first lines new runs g
by_stage c walk (stage.Wanting plan wants) s r q from lines new runs once g = in_holds s r plan lines new runs g
by_stage c walk (stage.Named named) s r q from lines new runs once g = absurd once
by_stage c walk (stage.Admitted a) s r q from lines new runs once g =
    in_advance c s r (named_of a).plan (shown_admission c a) (count_at (named_of a).plan c.programs walk.todo) walk.course.own lines new runs g

pub no_risk : {Q : Type 0} (queue_of : Q → RecordQueue) (c : Config) (old : Parts Q) (r : Running) (new : Parts Q) (q : Running) (from : ℕ) →
    Went queue_of c old r new (progress.GoesOn q from) → All (λ l. unless_risk l ≡ Some l) (drop from q.walk.course.lines)
no_risk queue_of c old r new q from w =
    copied_lines (drop from q.walk.course.lines)
    (by_stage c r.walk r.stage (shown queue_of old) (shown_running c (queue_of old.queue) r) q from (drop from q.walk.course.lines) w.middle
    (Some (shown_running c (queue_of new.queue) q)) w.once w.goes)
