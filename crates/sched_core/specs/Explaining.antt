-- The most lines by which what a job is answered next may be explained.
use Rattle.std.specs.Prelude.{ℕ, ◌+◌, if◌then◌else◌, length}
use Rattle.jcl_meaning.specs.Agendas.{budget_of}
use Rattle.init_core.specs.declared.running.Profile.{Profile}
use Rattle.init_core.specs.declared.running.Running.{Running}
use Rattle.init_core.specs.declared.running.Stage.{Stage}
use Rattle.init_core.specs.declared.running.Stage.TheVariants.{Admitted, Named, Selected, Wanting}

abbrev pub most_explained_at : Profile → Stage → ℕ
most_explained_at p (Selected first) = 0
most_explained_at p (Wanting plan wants) = 0
most_explained_at p (Named job) = budget_of job.plan p.programs.now
most_explained_at p (Admitted job) = 0

abbrev pub most_explained : Profile → Running → ℕ
most_explained p r = if p.explains then most_explained_at p r.stage else 0

-- the most lines of a turn: two, with those that explain the first, or that of a fault and one for each DD that the step took
abbrev pub most_lines : Profile → Running → ℕ
most_lines p r = 2 + length r.walk.course.own.dds + most_explained p r
