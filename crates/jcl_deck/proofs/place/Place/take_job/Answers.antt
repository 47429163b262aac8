use Rattle.std.proofs.Common.{◌≡◌, Option, Some, None, not, is_none, refl, ap, ◌∙◌}
use Rattle.std.specs.Option.{is_some}
use Rattle.std.proofs.lemmas.Result.{err_from_is_err_and}
use Rattle.jcl_plan.specs.declared.fault.Cause.TheVariants.{P}
use Rattle.jcl_plan.specs.declared.fault.StatementFault.TheVariants.{NotOneJob}
use Rattle.operand_core.specs.Faults.{told, when}
use Rattle.jcl_cards.specs.declared.job.JobCard.{JobCard}
use Rattle.jcl_cards.specs.JobCards.{job_card}
use Rattle.jcl_deck.specs.Places.{denoted}
use Rattle.jcl_deck.proofs.Taken.{taken_err, taken_ok}
use Rattle.jcl_deck.proofs.place.Place.take_job.Goals as goal

has_one : (job : Option JobCard) → is_some job ≡ not (is_none job)
has_one None = refl
has_one (Some card) = refl

pub returns-in_err-job-clause-moves : goal.returns-in_err-job-clause-moves
returns-in_err-job-clause-moves c =
    let place = denoted c.args.self.now in
    taken_err c.args.statement.now job_card (when (not (is_none place.job)) (P NotOneJob)) (λ card. record place { job = Some card })
    c.job_card-card.result c.at_place.result c.args.self.now
    c.as_slice.ensures c.as_slice-operand.ensures
    (c.when-second.ensures ∙ ap (λ holds. told (when holds (P NotOneJob))) (c.is_some.ensures ∙ has_one place.job))
    c.job_card-card.ensures c.at_place.ensures c.in_err-job.was (err_from_is_err_and c.from_residual.result c.from_residual.ensures.1)

pub returns-clause-moves : goal.returns-clause-moves
returns-clause-moves c =
    let place = denoted c.args.self.now in
    taken_ok c.args.statement.now job_card (when (not (is_none place.job)) (P NotOneJob)) (λ card. record place { job = Some card })
    c.job_card-card.result
    c.as_slice.ensures c.as_slice-operand.ensures
    (c.when-second.ensures ∙ ap (λ holds. told (when holds (P NotOneJob))) (c.is_some.ensures ∙ has_one place.job))
    c.job_card-card.ensures c.in_ok-job.ensures
