-- What an admission tells, and the job that goes on behind it.
use Rattle.std.specs.Prelude.{ℕ, Bool, true, false, List}
use Rattle.jcl_plan.specs.declared.entry.JobLine.{JobLine}
use Rattle.jcl_plan.specs.declared.entry.JobLine.TheVariants as line
use Rattle.jcl_plan.specs.declared.plan.JobPlan.{JobPlan}
use Rattle.jcl_meaning.specs.Solo.{fixed_with}
use Rattle.jcl_meaning.specs.States.{Fixed}
use Rattle.admit_core.specs.declared.admission.Admission.{Admission}
use Rattle.admit_core.specs.declared.admission.Admission.TheVariants.{Assured, Risky, SpaceWait, TooMany}
use Rattle.admit_core.specs.declared.admission.AdmittedJob.{AdmittedJob}
use Rattle.admit_core.specs.declared.admission.AdmittedJob.TheVariants as admitted
use Rattle.admit_core.specs.declared.admission.Behind.{Behind}
use Rattle.admit_core.specs.declared.admission.Behind.TheVariants.{Admitted, Waits}
use Rattle.admit_core.specs.declared.admission.NamedJob.{NamedJob}
use Rattle.admit_core.specs.declared.admission.Provision.{Provision}

-- ASSURED, RISK, TOOMANY or WAIT SPACE
abbrev pub line_of : Admission → JobLine
line_of (Assured job) = line.Assured job.tracks job.actions
line_of (Risky job report) = line.Risk report.fault report.step report.dd report.path.items
line_of (TooMany job step) = line.TooMany step
line_of (SpaceWait job serial) = line.WaitSpace serial

-- a job is admitted, to run with checks where it is not assured, or waits as it was
abbrev pub behind : Admission → Behind
behind (Assured job) = Admitted (admitted.Assured job)
behind (Risky job report) = Admitted (admitted.Risky job)
behind (TooMany job step) = Admitted (admitted.Risky job)
behind (SpaceWait job serial) = Waits job

-- an admitted job: its plan with its names, what is fixed for it, and whether it cannot fail
abbrev pub named_of : AdmittedJob → NamedJob
named_of (admitted.Assured job) = job.named
named_of (admitted.Risky job) = job.named

abbrev pub given_to : AdmittedJob → Provision
given_to (admitted.Assured job) = job.given
given_to (admitted.Risky job) = job.given

abbrev pub is_assured : AdmittedJob → Bool
is_assured (admitted.Assured job) = true
is_assured (admitted.Risky job) = false

-- on these volumes, as the meaning of jobs has it
abbrev pub fixed_for : List (List ℕ) → JobPlan → Provision → Fixed
fixed_for volumes plan p = fixed_with volumes plan p.places p.meanings p.date
