use Rattle.std.proofs.Common.{None, arith, refl, ap, ◌∙◌, subst}
use Rattle.std.proofs.lemmas.Option.{slice_get_within}
use Rattle.queued_job.specs.Selecting.{SelectsOf}
use Rattle.sched_core.specs.Selecting.{nobody}
use Rattle.sched_core.specs.declared.state.Initiator.{Initiator}
use Rattle.sched_core.proofs.Selected.{read_at, seats_job}
use Rattle.sched_core.proofs.Waits.{listing_there}
use Rattle.sched_core.proofs.selecting.seat_next.Goals as goal

pub returns-in_default-clause-ok : goal.returns-in_default-clause-ok
returns-in_default-clause-ok g c =
    let x = c.requires.idle.0 in
    let at = c.requires.idle.1 in
    let same = read_at c.args.initiators.now.items c.args.place x c.index-2.result.now at c.index-2.ensures in
    let classed = c.as_slice.ensures.value ∙ ap (λ (y : Initiator). y.classes) same in
    nobody x at (subst (λ cs. SelectsOf (g.Q.RecordStore.queue c.args.queue.now).waiting cs None) classed c.in_default.ensures.value) c.empty.ensures refl refl refl

pub take_out-requires-clause-listed : goal.take_out-requires-clause-listed
take_out-requires-clause-listed g c =
    listing_there (g.Q.RecordStore.queue c.args.queue.now).waiting c.args.backlog.now c.as_slice.result.now c.in-Some.queued c.requires.listed c.in-Some.ensures.value

pub index_mut-requires : goal.index_mut-requires
index_mut-requires g c =
    let within = slice_get_within c.args.initiators.now.items c.args.place c.requires.idle.0 c.requires.idle.1 in
    omega (arith, within, c.args.initiators.now.ok.0)

pub seat-requires : goal.seat-requires
seat-requires g c =
    ap (λ (y : Initiator). y.running)
    (read_at c.args.initiators.now.items c.args.place c.requires.idle.0 c.index_mut.result.now c.requires.idle.1 c.index_mut.ensures.value)
    ∙ c.requires.idle.2

pub returns-clause-ok : goal.returns-clause-ok
returns-clause-ok g c =
    let x = c.requires.idle.0 in
    let at = c.requires.idle.1 in
    let items = c.args.initiators.now.items in
    let named = read_at items c.args.place x c.index.result.now at c.index.ensures in
    let classed = read_at items c.args.place x c.index-2.result.now at c.index-2.ensures in
    seats_job (g.Q.RecordStore.queue c.args.queue.now) c.args.backlog.now items c.args.place
    (g.Q.RecordStore.queue c.take_out.new.queue) c.take_out.new.backlog c.in_ok-lines.lines
    x c.index_mut.result.now c.seat.new.x c.as_slice.result.now c.index.result.now.number c.in-Some.queued c.in_ok-listing.listing c.selected-running.result at
    (c.as_slice.ensures.value ∙ ap (λ (y : Initiator). y.classes) classed) (ap (λ (y : Initiator). y.number) named) c.in-Some.ensures.value c.in_ok-lines.ensures
    c.in_ok-listing.ensures.ok c.in_ok-listing.ensures.queue c.in_ok-listing.ensures.backlog c.selected-running.ensures
    (read_at items c.args.place x c.index_mut.result.now at c.index_mut.ensures.value) c.seat.ensures
