use Rattle.std.proofs.Common.{◌≡◌, List, Some, length, slice_get, refl, sym, ap, subst, ltb-true, ◌∙◌}
use Rattle.std.specs.Option.{option_map}
use Rattle.std.proofs.lemmas.Option.{slice_get_read}
use Rattle.sched_core.specs.Systems.{Machine}
use Rattle.sched_core.specs.Views.{seen_initiator}
use Rattle.sched_core.specs.declared.state.Initiator.{Initiator}
use Rattle.sched_core.proofs.Seats.{shown_at}
use Rattle.sched_core.proofs.system.System.initiator_at.Goals as goal

pub returns-in-Some : goal.returns-in-Some
returns-in-Some g c =
    let m = c.args.self.now in
    let xs = c.deref.result.now in
    let h = c.in-Some.ensures.lookup in
    let at : slice_get xs c.args.place ≡ Some c.in-Some.x.now
    = slice_get_read xs (length xs) c.args.place c.in-Some.x.now refl (ltb-true c.args.place (length xs) (sym h.0)) h.1 in
    let there : slice_get m.initiators c.args.place ≡ Some c.in-Some.x.now
    = subst (λ (ys : List Initiator). slice_get ys c.args.place ≡ Some c.in-Some.x.now)
    (c.deref.ensures.value ∙ ap (λ (s : Machine). s.initiators) c.self.view_is) at in
    ap Some (c.seen_initiator.ensures m.config m.parts.queue)
    ∙ sym (ap (option_map seen_initiator) (shown_at m.config m.parts.queue m.initiators c.args.place c.in-Some.x.now there))
