-- What is fixed for a job that starts.
use Rattle.jcl_plan.specs.declared.plan.JobPlan.{JobPlan}
use Rattle.jcl_meaning.specs.Solo.{fixed_alone}
use Rattle.jcl_meaning.specs.States.{Fixed}
use Rattle.path_core.specs.declared.start.StartView.{StartView}

abbrev pub fixed_from : StartView → JobPlan → Fixed
fixed_from start plan = fixed_alone start.store plan start.places start.date
