use Rattle.std.proofs.Common.{refl, sym, true}
use Rattle.jcl_meaning.specs.Acts.{act}
use Rattle.jcl_meaning.specs.Agendas.{Finish}
use Rattle.jcl_meaning.specs.Stores.{store_of}
use Rattle.solo_core.specs.Runners.{answers_by}
use Rattle.solo_core.proofs.Carried.{does_cleanly, with_answers}
use Rattle.solo_core.proofs.runner.Runner.finish.Goals as goal

pub returns : goal.returns
unfolding act
returns c =
    let old = c.args.self.now in
    does_cleanly (Finish c.args.n) old (record old { outcomes = c.others-self.result; cancels = c.others-self-2.result; course = c.finish.new.course }) c.met.new.self
    (with_answers (λ i. record { outcomes = sym c.others-self.ensures i; cancels = sym c.others-self-2.ensures i; grants = old.grants.now; primary = true })
    (c.in_ok-finish.ensures.ok (store_of old.store.store) (answers_by old) (sym c.next_outcome-outcome.ensures) (sym c.cancel_due-cancelled.ensures)))
    (record { given = refl; volumes = refl }) refl c.in_ok-met.ensures
