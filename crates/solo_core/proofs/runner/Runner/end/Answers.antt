use Rattle.std.proofs.Common.{refl}
use Rattle.jcl_meaning.specs.Acts.{act}
use Rattle.jcl_meaning.specs.Agendas.{Over}
use Rattle.jcl_meaning.specs.Stores.{store_of}
use Rattle.solo_core.specs.Runners.{answers_by}
use Rattle.solo_core.proofs.Carried.{does_cleanly}
use Rattle.solo_core.proofs.runner.Runner.end.Goals as goal

pub returns : goal.returns
unfolding act
returns c =
    let old = c.args.self.now in
    does_cleanly Over old (record old { course = c.end.new.course }) c.met.new.self
    (c.in_ok-end.ensures.ok (store_of old.store.store) (answers_by old)) (record { given = refl; volumes = refl }) refl c.in_ok-met.ensures
