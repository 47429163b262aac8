-- What a job does with printable characters. (This profile)
use Rattle.std.specs.Prelude.{ℕ, List, All}
use Rattle.jcl_plan.specs.declared.plan.JobPlan.{JobPlan}
use Rattle.jcl_meaning.specs.declared.program.SoloProgram.{SoloProgram}
use Rattle.jcl_meaning.specs.Acts.{act}
use Rattle.jcl_meaning.specs.Agendas.{Action, agenda, path_agenda}
use Rattle.jcl_meaning.specs.States.{Fixed, State}
use Rattle.cb_meaning.specs.Writable.{IsWritable}
use Rattle.print_laws.specs.Printable.{ArePrintablePrograms, IsPrintableAction, IsPrintableDone, IsPrintableFixed, IsPrintableOwn, IsPrintablePlan, IsPrintableStore}

-- A plan that records spell is printable.
abbrev pub WritableIsPrintable : Type 0
WritableIsPrintable = (most_steps units : ℕ) (plan : JobPlan) → IsWritable most_steps units plan → IsPrintablePlan plan

-- So are the actions of a printable plan, with printable programs, and along a path.
pub record AgendasArePrintable : Type 0 where
  pub whole : (plan : JobPlan) (programs : List SoloProgram) → IsPrintablePlan plan → ArePrintablePrograms programs → All IsPrintableAction (agenda plan programs)
  pub path : (plan : JobPlan) → IsPrintablePlan plan → All IsPrintableAction (path_agenda plan)

-- An action writes printable lines, and leaves what is printable.
abbrev pub ActIsPrintable : Type 0
ActIsPrintable = (fixed : Fixed) (a : Action) (s : State) → IsPrintableFixed fixed → IsPrintableAction a → IsPrintableStore s.store → IsPrintableOwn s.own →
    IsPrintableDone (act fixed a s)
