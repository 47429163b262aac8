use Rattle.std.proofs.Common.{◌-◌, refl}
use Rattle.jcl_meaning.specs.Acts.{act}
use Rattle.jcl_meaning.specs.Agendas.{Start}
use Rattle.jcl_meaning.specs.Stores.{store_of}
use Rattle.job_text.specs.Places.{step_at}
use Rattle.solo_core.specs.Runners.{answers_by}
use Rattle.solo_core.proofs.Carried.{does_cleanly}
use Rattle.solo_core.proofs.runner.Runner.begin.Goals as goal

pub returns : goal.returns
unfolding act
returns g c =
    let old = c.args.self.now in
    does_cleanly (Start c.args.n (step_at (g.T.JobText.plan c.args.text.now).steps (c.args.n - 1))) old (record old { course = c.begin.new.course }) c.met.new.self
    (c.in_ok-begin.ensures.ok (store_of old.store.store) (answers_by old)) (record { given = refl; volumes = refl }) refl c.in_ok-met.ensures
