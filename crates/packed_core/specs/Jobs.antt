-- What stands for a job where none is told.
use Rattle.std.specs.Prelude.{[]}
use Rattle.jcl_plan.specs.declared.plan.JobPlan.{JobPlan}
use Rattle.jcl_meaning.specs.States.{Fixed}

abbrev pub no_job : JobPlan
no_job = record { name = []; class = 0; priority = 0; message_class = 0; tests = record { items = [] }; steps = [] }

abbrev pub nothing_fixed : Fixed
nothing_fixed = record { job_tests = []; volumes = []; places = []; meanings = []; date = 0 }
