-- What is known of a job that was looked at before.
use Rattle.std.specs.Prelude.{List, Option, Some, None}
use Rattle.jcl_plan.specs.declared.plan.JobPlan.{JobPlan}
use Rattle.jcl_meaning.specs.declared.state.Place.{Place}
use Rattle.jcl_meaning.specs.Stores.{store_of}
use Rattle.path_core.specs.declared.start.StartView.{StartView}
use Rattle.path_core.specs.Starts.{fixed_from}
use Rattle.path_meaning.specs.Verdicts.{IsFree}
use Rattle.verdict_core.specs.declared.known.Found.{Found}

-- a job that starts so is free, and makes its sets at these places
abbrev pub IsFreeFrom : JobPlan → StartView → List Place → Type 0
IsFreeFrom plan start made = IsFree (fixed_from start plan) plan (store_of start.store) start.most_views made

-- where it starts as it did then, it is free, and makes its sets there
abbrev pub IsKnown : JobPlan → Option Found → Type 0
IsKnown plan None = Unit {0}
IsKnown plan (Some f) = IsFreeFrom plan f.start f.made.items
