-- How a job's admission is asked for, and whether it then runs.
use Rattle.std.specs.Prelude.{Bool, not, ◌&&◌}
use Rattle.admit_core.specs.Admissions.{is_assured}
use Rattle.admit_core.specs.declared.admission.AdmittedJob.{AdmittedJob}
use Rattle.admit_core.specs.declared.admit.Terms.{Terms}
use Rattle.init_core.specs.declared.running.Profile.{Profile}

abbrev pub terms_of : Profile → Terms
terms_of p = record { units = p.units; programs = p.programs; most_views = p.most_views; explains = p.explains }

-- a job that is admitted with checks is not run where such jobs are refused
abbrev pub is_turned_away : Bool → AdmittedJob → Bool
is_turned_away refuses job = refuses && not (is_assured job)
