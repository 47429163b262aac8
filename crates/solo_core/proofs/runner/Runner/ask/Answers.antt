use Rattle.std.proofs.Common.{◌-◌, ◌∙◌, ◌++◌, ◌∷◌, [], None, ap, refl, sym}
use Rattle.jcl_meaning.specs.Acts.{act}
use Rattle.jcl_meaning.specs.Agendas.{Ask}
use Rattle.jcl_meaning.specs.Stores.{store_of}
use Rattle.job_text.specs.Places.{step_at}
use Rattle.request_core.specs.Requests.{growth_asked}
use Rattle.solo_core.specs.declared.runner.Runner.{Runner}
use Rattle.solo_core.specs.Runners.{answers_by}
use Rattle.solo_core.proofs.Answered.{grant_left, next_grants, no_grant_left, with_grants}
use Rattle.solo_core.proofs.Carried.{does_cleanly, with_answers}
use Rattle.solo_core.proofs.runner.Runner.ask.Goals as goal
use Rattle.solo_core.proofs.runner.Runner.ask.Goals.{then-asked, else-asked}

pub returns : goal.returns
unfolding act
returns g c =
    let old = c.args.self.now in
    let step = step_at (g.T.JobText.plan c.args.text.now).steps (c.args.n - 1) in
    let growth = growth_asked c.cancel_due.result step c.args.wants.now old.course.own (store_of old.store.store) in
    let met = c.in_ok-met.ensures in
    elim c.if-asked.branch [
      | then-asked w ↦
          does_cleanly (Ask step c.args.wants.now) old (record old { grants = w.others-self.result; store = c.ask.new.store; course = c.ask.new.course })
          c.met.new.self
          (with_answers (grant_left growth (answers_by old) c.in_ok-asked.asked c.in_ok-asked.ensures.ok.its_growth w.if-asked.true ∙ ap (with_grants (answers_by old)) (sym w.others-self.ensures))
          (c.in_ok-asked.ensures.ok.its_act (answers_by old) (sym c.cancel_due.ensures) (next_grants growth (answers_by old) c.next_grant-self.result c.next_grant-self.ensures)))
          (record { given = refl; volumes = c.in_ok-asked.ensures.rest }) refl
          (met ∙ ap (λ (r : Runner). record r { meets = r.meets ++ None ∷ [] }) w.self-is)
      | else-asked w ↦
          does_cleanly (Ask step c.args.wants.now) old (record old { store = c.ask.new.store; course = c.ask.new.course }) c.met.new.self
          (with_answers (no_grant_left growth (answers_by old) c.in_ok-asked.asked c.in_ok-asked.ensures.ok.its_growth w.if-asked.false)
          (c.in_ok-asked.ensures.ok.its_act (answers_by old) (sym c.cancel_due.ensures) (next_grants growth (answers_by old) c.next_grant-self.result c.next_grant-self.ensures)))
          (record { given = refl; volumes = c.in_ok-asked.ensures.rest }) refl
          (met ∙ ap (λ (r : Runner). record r { meets = r.meets ++ None ∷ [] }) w.self-is)
    ]
