-- The line of an admission tells what holds of the job.
use Rattle.std.proofs.Common.{ℕ, refl}
use Rattle.jcl_plan.specs.declared.entry.JobLine.TheVariants as line
use Rattle.jcl_meaning.specs.States.{Fixed}
use Rattle.shared_core.specs.declared.store.SharedStore.{SharedStore}
use Rattle.admit_core.specs.Admissions.{line_of}
use Rattle.admit_core.specs.Admitted.{IsAdmission}
use Rattle.admit_core.specs.Told.{IsTold, assured, no_space, risk, too_many}
use Rattle.admit_core.specs.declared.admission.Admission.{Admission}
use Rattle.admit_core.specs.declared.admission.Admission.TheVariants.{Assured, Risky, SpaceWait, TooMany}
use Rattle.admit_core.specs.declared.admission.NamedJob.{NamedJob}
use Rattle.admit_core.specs.declared.admission.Provision.{Provision}
use Rattle.admit_core.specs.declared.admit.Terms.{Terms}

pub told_of : (store : SharedStore) (t : Terms) (number : ℕ) (job : NamedJob) (fixed : Fixed) (its : Provision) (new : SharedStore) (a : Admission) →
    IsAdmission store t number job fixed its new a → IsTold store t.programs.now t.most_views number job.plan fixed (line_of a)
told_of store t number job fixed its new (Assured a) is = assured is.made is.free is.room (λ i. line.Assured (is.is i).tracks (is.is i).actions)
told_of store t number job fixed its new (Risky a report) is = risk report.fault report.step report.dd report.path.items is.earliest refl
told_of store t number job fixed its new (TooMany a step) is = too_many step is.more refl
told_of store t number job fixed its new (SpaceWait a serial) is = no_space is.made serial is.free is.room is.there refl
