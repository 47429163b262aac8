use Rattle.std.proofs.Common.{◌∷◌, ◌∙◌, List, map, ap, sym, subst}
use Rattle.jcl_plan.specs.declared.entry.JobLine.{JobLine}
use Rattle.jcl_plan.specs.declared.entry.Written.TheVariants as written
use Rattle.machine_meaning.specs.declared.machine.SpoolSet.{SpoolSet}
use Rattle.machine_meaning.specs.Spools.{output_set, with_sets}
use Rattle.spool_core.specs.Places.{AreStarts, filled_places, sets_at}
use Rattle.spool_core.proofs.Entering.{job_entered}
use Rattle.spool_core.proofs.spool.Spool.enter.Goals as goal

pub invariant_of-self-2 : goal.invariant_of-self-2
invariant_of-self-2 c =
    let starts = c.make_starts.new.starts.items in
    let made = c.make_starts.ensures c.self.inside.places.items c.self.invariant.1 in
    (c.put_outputs.ensures.stand, c.put_outputs.ensures.starts starts (c.put.ensures.starts starts (subst (AreStarts starts) (sym c.reserve-2.ensures.items) made)))

pub returns-clause-ok : goal.returns-clause-ok
returns-clause-ok c =
    let set : List JobLine → SpoolSet = λ lines. record { class = c.args.class; job = c.args.job; lines = map written.Line lines } in
    let listing = c.listing-queued.ensures ∙ ap set (c.replace-lines.ensures.value ∙ c.in_ok-push.ensures.ok) in
    let there = (λ i. sets_at (c.reserve.ensures.rest_kept i) (filled_places (c.reserve-2.ensures.items i))) ∙ c.self.view_is in
    job_entered _ _ _ c.args.self.now c.listing-queued.result (map (output_set c.args.job) c.replace-outputs.result) there c.put.ensures.entered c.put_outputs.ensures.entered
    ∙ (λ i. with_sets c.args.self.now (listing i ∷ map (output_set c.args.job) (c.replace-outputs.ensures.value i)))
