-- What each action of a job does, at a state.
use Rattle.std.specs.Prelude.{◌-◌, [], ◌∷◌, slice_get}
use Rattle.jcl_plan.specs.declared.entry.JobLine.TheVariants as line
use Rattle.jcl_meaning.specs.Agendas.{Action, Start, Take, Ask, Receive, Finish, Dispose, Left, Over}
use Rattle.jcl_meaning.specs.EndActs.{disposes, finished, left_at}
use Rattle.jcl_meaning.specs.RequestActs.{asked, received}
use Rattle.jcl_meaning.specs.TakeActs.{started, takes}
use Rattle.jcl_meaning.specs.States.{Done, Fixed, State, goes, if_runs}

-- one action, at a state
unfoldable pub act : Fixed → Action → State → Done
act fixed (Start n step) s = started fixed n step s
act fixed (Take n dd d) s = if_runs s.own.runs s (takes fixed n dd d.name d.kind s)
act fixed (Ask step move) s = asked step move s
act fixed Receive s = received s
act fixed (Finish n) s = finished n s
act fixed (Dispose n dd d) s = if_runs s.own.runs s (disposes (slice_get s.own.dds (dd - 1)) fixed n dd d.name d.kind s)
act fixed (Left n dd d) s = left_at fixed n dd d.name d.kind s
act fixed Over s = goes (line.End ∷ []) s
