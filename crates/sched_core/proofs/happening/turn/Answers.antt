use Rattle.std.proofs.Common.{◌≢◌, All, arith, refl, subst}
use Rattle.sched_core.specs.declared.state.Initiator.{Initiator}
use Rattle.std.proofs.lemmas.Option.{slice_get_within}
use Rattle.sched_core.specs.Happening.{IsSeat}
use Rattle.sched_core.specs.Machines.{config_in, world_in}
use Rattle.sched_core.proofs.Happened.{never_refused, refused, refused_first, seat_idle, seat_runs, selects_acts, turn_answer}
use Rattle.sched_core.proofs.Followed.{on_ok, same_extents}
use Rattle.sched_core.proofs.happening.turn.Goals as goal

pub returns-in_default-clause-done : goal.returns-in_default-clause-done
returns-in_default-clause-done g c = record {
  answer =
      let s = c.args.state.now in (
        refused g.Q.RecordStore.queue (config_in g.Q.RecordStore.queue c.args.profile.now s) s c.args.number
            (subst (λ xs. All (λ (x : Initiator). x.number ≢ c.args.number) xs) c.as_slice.ensures.value (c.in_default.ensures.none)),
        refl,
      );
  fit = c.requires.fit;
  same = λ names library. refl;
}

pub returns-in_default-clause-refusal : goal.returns-in_default-clause-refusal
returns-in_default-clause-refusal g c =
    let s = c.args.state.now in
    refused_first g.Q.RecordStore.queue (config_in g.Q.RecordStore.queue c.args.profile.now s) s c.args.number _ refl

pub index-requires : goal.index-requires
index-requires g c =
    let seat = c.in-Some.ensures.some in
    let within = slice_get_within c.as_slice.result.now c.in-Some.place seat.it seat.at in
    omega (arith, within, c.as_slice.ensures.len)

pub go_on_at-requires-clause-runs : goal.go_on_at-requires-clause-runs
go_on_at-requires-clause-runs g c =
    let xs = c.args.state.now.initiators.items in
    let seat = subst (λ ys. IsSeat ys c.args.number c.in-Some.place) c.as_slice.ensures.value c.in-Some.ensures.some in
    seat_runs xs c.args.number c.in-Some.place seat c.index.result.now c.index.ensures c.is_some.result c.is_some.ensures c.if-is_some.true

pub select_at-requires-clause-idle : goal.select_at-requires-clause-idle
select_at-requires-clause-idle g c =
    let xs = c.args.state.now.initiators.items in
    let seat = subst (λ ys. IsSeat ys c.args.number c.in-Some.place) c.as_slice.ensures.value c.in-Some.ensures.some in
    (seat.it, seat.at, seat_idle xs c.args.number c.in-Some.place seat c.index.result.now c.index.ensures c.is_some.result c.is_some.ensures c.if-is_some.false)

pub returns-then-is_some-clause-done : goal.returns-then-is_some-clause-done
returns-then-is_some-clause-done g c = record {
  answer =
      let s = c.args.state.now in
      let config = config_in g.Q.RecordStore.queue c.args.profile.now s in
      let seat = subst (λ ys. IsSeat ys c.args.number c.in-Some.place) c.as_slice.ensures.value c.in-Some.ensures.some in
      turn_answer g.Q.RecordStore.queue config s c.args.number c.in-Some.place seat c.go_on_at.result (world_in g.Q.RecordStore.queue config c.go_on_at.new.state)
      c.go_on_at.ensures.done.answer c.go_on_at.ensures.never_refused;
  fit = c.go_on_at.ensures.done.fit;
  same = c.go_on_at.ensures.done.same;
}

pub returns-then-is_some-clause-refusal : goal.returns-then-is_some-clause-refusal
returns-then-is_some-clause-refusal g c =
    let s = c.args.state.now in
    let seat = subst (λ ys. IsSeat ys c.args.number c.in-Some.place) c.as_slice.ensures.value c.in-Some.ensures.some in
    never_refused g.Q.RecordStore.queue (config_in g.Q.RecordStore.queue c.args.profile.now s) s c.args.number c.in-Some.place seat c.go_on_at.result

pub returns-else-is_some-clause-done : goal.returns-else-is_some-clause-done
returns-else-is_some-clause-done g c = record {
  answer =
      let s = c.args.state.now in
      let xs = s.initiators.items in
      let config = config_in g.Q.RecordStore.queue c.args.profile.now s in
      let new = world_in g.Q.RecordStore.queue config c.select_at.new.state in
      let seat = subst (λ ys. IsSeat ys c.args.number c.in-Some.place) c.as_slice.ensures.value c.in-Some.ensures.some in
      let idle = seat_idle xs c.args.number c.in-Some.place seat c.index.result.now c.index.ensures c.is_some.result c.is_some.ensures c.if-is_some.false in
      turn_answer g.Q.RecordStore.queue config s c.args.number c.in-Some.place seat c.select_at.result new
      (selects_acts g.Q.RecordStore.queue config s c.args.number c.in-Some.place seat idle c.select_at.result new c.select_at.ensures.done.answer c.select_at.ensures.never_refused)
      c.select_at.ensures.never_refused;
  fit = c.select_at.ensures.done.fit;
  same = c.select_at.ensures.done.same;
}

pub returns-else-is_some-clause-refusal : goal.returns-else-is_some-clause-refusal
returns-else-is_some-clause-refusal g c =
    let s = c.args.state.now in
    let seat = subst (λ ys. IsSeat ys c.args.number c.in-Some.place) c.as_slice.ensures.value c.in-Some.ensures.some in
    never_refused g.Q.RecordStore.queue (config_in g.Q.RecordStore.queue c.args.profile.now s) s c.args.number c.in-Some.place seat c.select_at.result

pub returns-else-is_some-clause-extents : goal.returns-else-is_some-clause-extents
returns-else-is_some-clause-extents g c =
    on_ok c.select_at.result (same_extents c.args.state.now.parts.store c.select_at.new.state.parts.store c.select_at.ensures.store)
