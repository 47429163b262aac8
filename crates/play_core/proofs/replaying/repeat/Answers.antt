use Rattle.std.proofs.Common.{replicate, sym, subst}
use Rattle.std.proofs.lemmas.Grind.{replicate_next}
use Rattle.play_core.specs.Giving.{Leads}
use Rattle.play_core.proofs.Adding.{Leads-more}
use Rattle.play_core.proofs.replaying.repeat.Goals as goal

pub loop-done-preserved : goal.loop-done-preserved
loop-done-preserved c =
    let old = c.args.system.now in
    let new = c.apply_shown.new.self in
    let e = c.args.event.now in
    let done = c.loop-done.done in
    subst (λ es. Leads old es new) (sym (replicate_next done e))
    (Leads-more old c.loop-done.system new (replicate done e) e c.in_ok-apply_shown.field-0 c.loop-done.invariant c.in_ok-apply_shown.ensures.step
    c.apply_shown.ensures.next)
