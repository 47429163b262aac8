use Rattle.std.proofs.Common.{◌≡◌, ◌-◌, suc, Bool, true, false, ◌||◌, ◌++◌, ◌∷◌, [], nat_eq, List, length, slice_set, refl, sym, ap, ◌∙◌}
use Rattle.std.proofs.lemmas.Result.{on_ok_weaker}
use Rattle.jcl_dds.specs.declared.dd.DdCard.{DdCard}
use Rattle.jcl_procs.specs.declared.step.FlatStep.{FlatStep}
use Rattle.jcl_procs.specs.Calls.{Place, onto_last}
use Rattle.jcl_procs.specs.Calling.{denoted}
use Rattle.jcl_procs.proofs.Called.{one_more, onto_last_at}
use Rattle.jcl_procs.proofs.calls.Place.add_own.Goals as goal

or_false : (b : Bool) → b ≡ (b || false)
or_false true = refl
or_false false = refl

pub returns : goal.returns
returns c = λ card own.
    let place = denoted c.args.self.now in
    let at = c.len-last.result - 1 in
    let last = c.index_mut.result.now in
    let with_steps : List FlatStep → Place = λ steps. record place { steps = steps } in
    let kept : Bool → Place = λ b. record place { job_library = b; steps = onto_last card place.steps } in
    let made : List DdCard → Place = λ dds. with_steps (slice_set place.steps at (record last { dds = dds })) in
    let size : c.len-last.result ≡ length place.steps = c.len-last.ensures ∙ c.args.self.now.steps.ok.0 in
    let some : length place.steps ≡ suc at =
    sym size ∙ one_more c.len-last.result (c.if-is_empty.ensures ∙ ap (λ n. nat_eq n 0) (sym c.len-last.ensures)) in
    let none : false ≡ nat_eq (length place.steps) 0 = c.if-is_empty.ensures ∙ ap (λ n. nat_eq n 0) c.args.self.now.steps.ok.0 in
    on_ok_weaker c.push.result (λ pushed.
    ap made (pushed ∙ ap (λ dd. last.dds ++ dd ∷ []) (sym own))
    ∙ ap with_steps (onto_last_at card place.steps at last some c.index_mut.ensures.value)
    ∙ ap kept (or_false place.job_library ∙ ap (λ b. place.job_library || b) none)) c.push.ensures.ok
