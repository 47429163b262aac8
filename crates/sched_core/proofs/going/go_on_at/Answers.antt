use Rattle.std.proofs.Common.{◌≡◌, ◌≢◌, ◌++◌, ◌∙◌, All, Some, ap, length, refl, subst, sym}
use Rattle.std.proofs.lemmas.Option.{slice_get_read, slice_get_within}
use Rattle.init_core.specs.Going.{MayLeave, WentInPlace}
use Rattle.init_core.specs.Providing.{IsProvided}
use Rattle.init_core.specs.Running.{IsReady, config_of}
use Rattle.init_core.specs.declared.running.Running.{Running}
use Rattle.machine_core.specs.declared.parts.Parts.{Parts}
use Rattle.world_meaning.specs.Worlds.{of_job}
use Rattle.sched_core.specs.Copies.{unless_risk}
use Rattle.sched_core.specs.Events.{ActsAt}
use Rattle.sched_core.specs.Going.{HasRoomFor}
use Rattle.sched_core.specs.Machines.{config_in}
use Rattle.sched_core.proofs.Dones.{memory_wanting}
use Rattle.sched_core.proofs.GoingOn.{away, back, has_records, in_place, ready, stays, with_initiator}
use Rattle.sched_core.proofs.Risks.{no_risk}
use Rattle.sched_core.proofs.Turning.{fit, leads}
use Rattle.sched_core.proofs.Unchanged.{queue_alone}
use Rattle.sched_core.proofs.Unqueued.{unqueued_at}
use Rattle.sched_core.proofs.going.go_on_at.Goals as goal

pub returns-in_default-room_for-clause-done : goal.returns-in_default-room_for-clause-done
returns-in_default-room_for-clause-done g c =
    let queue_of = g.Q.RecordStore.queue in
    let profile = c.args.profile.now in
    let s = c.args.state.now in
    let xs = s.initiators.items in
    let x = c.index_mut-x.result.now in
    let there = c.requires.runs.1 in
    let at = slice_get_read xs (length xs) c.args.place x refl (slice_get_within xs c.args.place there.it there.at) c.index_mut-x.ensures.value in
    memory_wanting queue_of profile s (λ w. ActsAt s.parts.store w c.args.place) c.requires.kept _ refl refl refl
    (back queue_of profile s c.requires.kept c.requires.runs.0 c.in-Some.running x c.args.place there at c.in-Some.is c.in-Some.running refl) refl refl

pub go_on_in_place-requires-clause-ready : goal.go_on_in_place-requires-clause-ready
go_on_in_place-requires-clause-ready g c =
    let queue_of = g.Q.RecordStore.queue in
    let profile = c.args.profile.now in
    let s = c.args.state.now in
    let xs = s.initiators.items in
    let x = c.index_mut-x.result.now in
    let there = c.requires.runs.1 in
    let at = slice_get_read xs (length xs) c.args.place x refl (slice_get_within xs c.args.place there.it there.at) c.index_mut-x.ensures.value in
    let config = config_in queue_of profile s in
    ready queue_of profile s c.requires.kept c.requires.runs.0 c.in-Some.running x c.args.place there at c.in-Some.is

pub go_on_in_place-requires-clause-provided : goal.go_on_in_place-requires-clause-provided
go_on_in_place-requires-clause-provided g c =
    let queue_of = g.Q.RecordStore.queue in
    let profile = c.args.profile.now in
    let s = c.args.state.now in
    let xs = s.initiators.items in
    let x = c.index_mut-x.result.now in
    let there = c.requires.runs.1 in
    let at = slice_get_read xs (length xs) c.args.place x refl (slice_get_within xs c.args.place there.it there.at) c.index_mut-x.ensures.value in
    let config = config_in queue_of profile s in
    has_records queue_of profile s c.requires.kept c.requires.runs.0 c.in-Some.running x c.args.place there at c.in-Some.is

pub tell-requires-clause-no_risk : goal.tell-requires-clause-no_risk
tell-requires-clause-no_risk g c =
    let queue_of = g.Q.RecordStore.queue in
    let profile = c.args.profile.now in
    let s = c.args.state.now in
    let xs = s.initiators.items in
    let x = c.index_mut-x.result.now in
    let there = c.requires.runs.1 in
    let at = slice_get_read xs (length xs) c.args.place x refl (slice_get_within xs c.args.place there.it there.at) c.index_mut-x.ensures.value in
    let config = config_in queue_of profile s in
    subst (All (λ l. unless_risk l ≡ Some l)) (sym c.lines_from.ensures)
    (no_risk queue_of config s.parts c.in-Some.running c.go_on_in_place.new.parts c.go_on_in_place.new.running c.in-Ok-Some.from
    (subst (WentInPlace queue_of profile s.parts c.in-Some.running c.go_on_in_place.new.parts c.go_on_in_place.new.running) c.in-Ok-Some.field-0-is
    c.in-Ok-Some.ensures.ok))

pub turn_away-requires-clause-runs : goal.turn_away-requires-clause-runs
turn_away-requires-clause-runs g c =
    let queue_of = g.Q.RecordStore.queue in
    let profile = c.args.profile.now in
    let s = c.args.state.now in
    let xs = s.initiators.items in
    let x = c.index_mut-x.result.now in
    let there = c.requires.runs.1 in
    let at = slice_get_read xs (length xs) c.args.place x refl (slice_get_within xs c.args.place there.it there.at) c.index_mut-x.ensures.value in
    let config = config_in queue_of profile s in
    let went = subst (WentInPlace queue_of profile s.parts c.in-Some.running c.go_on_in_place.new.parts c.go_on_in_place.new.running) c.in-Ok-None.field-0-is
    c.in-Ok-None.ensures.ok in (
      c.go_on_in_place.new.running,
      refl,
      subst (λ (z : Parts _ × Running). IsReady (config_of profile (queue_of z.0.queue).layout) z.0.names z.1) (λ i. (sym went.0 i, sym went.1 i))
          (ready queue_of profile s c.requires.kept c.requires.runs.0 c.in-Some.running x c.args.place there at c.in-Some.is),
      subst (λ (z : Parts _ × Running). IsProvided queue_of (config_of profile (queue_of z.0.queue).layout) z.0 z.1) (λ i. (sym went.0 i, sym went.1 i))
          (has_records queue_of profile s c.requires.kept c.requires.runs.0 c.in-Some.running x c.args.place there at c.in-Some.is),
      subst (λ (z : Parts _ × Running). MayLeave profile z.0 z.1) (λ i. (sym went.0 i, sym went.1 i)) went.2,
      subst (λ r. HasRoomFor profile r c.in-Ok.entries) (sym went.1) c.in-Ok.ensures,
      subst (λ (z : Parts _ × Running). All (λ q. q.job ≢ z.1.job) (queue_of z.0.queue).waiting) (λ i. (sym went.0 i, sym went.1 i))
          (unqueued_at queue_of config s c.requires.kept c.args.place c.in-Some.running (record { it = x; at = at; running = c.in-Some.is })),
    )

pub returns-in-Ok-Some-clause-done : goal.returns-in-Ok-Some-clause-done
returns-in-Ok-Some-clause-done g c = record {
  answer =
      let queue_of = g.Q.RecordStore.queue in
      let profile = c.args.profile.now in
      let s = c.args.state.now in
      let xs = s.initiators.items in
      let x = c.index_mut-x.result.now in
      let there = c.requires.runs.1 in
      let at = slice_get_read xs (length xs) c.args.place x refl (slice_get_within xs c.args.place there.it there.at) c.index_mut-x.ensures.value in
      let config = config_in queue_of profile s in
      let went = subst (WentInPlace queue_of profile s.parts c.in-Some.running c.go_on_in_place.new.parts c.go_on_in_place.new.running) c.in-Ok-Some.field-0-is
      c.in-Ok-Some.ensures.ok in
      let turns = in_place queue_of profile s c.requires.kept c.requires.runs.0 c.in-Some.running x c.args.place there at c.in-Some.is
      c.go_on_in_place.new.parts c.go_on_in_place.new.running c.in-Ok-Some.from c.new-in-Ok-Some.result went
      (c.new-in-Ok-Some.ensures ∙ c.tell.ensures ∙ (λ i. c.in-Ok.ensures.none i ++ of_job (went.left.same i) (c.lines_from.ensures i))) in
      let new = with_initiator s c.go_on_in_place.new.parts c.args.place (record x { running = Some c.go_on_in_place.new.running }) in
      leads queue_of config s c.requires.kept c.args.place new c.new-in-Ok-Some.result refl refl refl turns;
  fit =
      let queue_of = g.Q.RecordStore.queue in
      let profile = c.args.profile.now in
      let s = c.args.state.now in
      let xs = s.initiators.items in
      let x = c.index_mut-x.result.now in
      let there = c.requires.runs.1 in
      let at = slice_get_read xs (length xs) c.args.place x refl (slice_get_within xs c.args.place there.it there.at) c.index_mut-x.ensures.value in
      let config = config_in queue_of profile s in
      let went = subst (WentInPlace queue_of profile s.parts c.in-Some.running c.go_on_in_place.new.parts c.go_on_in_place.new.running) c.in-Ok-Some.field-0-is
      c.in-Ok-Some.ensures.ok in
      let turns = in_place queue_of profile s c.requires.kept c.requires.runs.0 c.in-Some.running x c.args.place there at c.in-Some.is
      c.go_on_in_place.new.parts c.go_on_in_place.new.running c.in-Ok-Some.from c.new-in-Ok-Some.result went
      (c.new-in-Ok-Some.ensures ∙ c.tell.ensures ∙ (λ i. c.in-Ok.ensures.none i ++ of_job (went.left.same i) (c.lines_from.ensures i))) in
      fit queue_of config s c.requires.kept c.args.place _ c.new-in-Ok-Some.result refl refl refl turns;
  same = tt;
}

pub returns-in-Ok-turn_away-clause-done : goal.returns-in-Ok-turn_away-clause-done
returns-in-Ok-turn_away-clause-done g c = record {
  answer =
      let queue_of = g.Q.RecordStore.queue in
      let profile = c.args.profile.now in
      let s = c.args.state.now in
      let xs = s.initiators.items in
      let x = c.index_mut-x.result.now in
      let there = c.requires.runs.1 in
      let at = slice_get_read xs (length xs) c.args.place x refl (slice_get_within xs c.args.place there.it there.at) c.index_mut-x.ensures.value in
      let config = config_in queue_of profile s in
      let went = subst (WentInPlace queue_of profile s.parts c.in-Some.running c.go_on_in_place.new.parts c.go_on_in_place.new.running) c.in-Ok-None.field-0-is
      c.in-Ok-None.ensures.ok in
      let turns = away queue_of profile s c.requires.kept c.requires.runs.0 c.in-Some.running x c.args.place there at c.in-Some.is
      c.go_on_in_place.new.parts c.go_on_in_place.new.running went.0 went.1 c.turn_away.new.parts c.turn_away.new.x c.in-Ok-turn_away.lines
      c.in-Ok-turn_away.ensures.ok in
      let new = with_initiator s c.turn_away.new.parts c.args.place c.turn_away.new.x in
      leads queue_of config s c.requires.kept c.args.place new c.in-Ok-turn_away.lines refl refl refl turns;
  fit =
      let queue_of = g.Q.RecordStore.queue in
      let profile = c.args.profile.now in
      let s = c.args.state.now in
      let xs = s.initiators.items in
      let x = c.index_mut-x.result.now in
      let there = c.requires.runs.1 in
      let at = slice_get_read xs (length xs) c.args.place x refl (slice_get_within xs c.args.place there.it there.at) c.index_mut-x.ensures.value in
      let config = config_in queue_of profile s in
      let went = subst (WentInPlace queue_of profile s.parts c.in-Some.running c.go_on_in_place.new.parts c.go_on_in_place.new.running) c.in-Ok-None.field-0-is
      c.in-Ok-None.ensures.ok in
      let turns = away queue_of profile s c.requires.kept c.requires.runs.0 c.in-Some.running x c.args.place there at c.in-Some.is
      c.go_on_in_place.new.parts c.go_on_in_place.new.running went.0 went.1 c.turn_away.new.parts c.turn_away.new.x c.in-Ok-turn_away.lines
      c.in-Ok-turn_away.ensures.ok in
      fit queue_of config s c.requires.kept c.args.place _ c.in-Ok-turn_away.lines refl refl refl turns;
  same = tt;
}

pub returns-in-Ok-turn_away-clause-extents : goal.returns-in-Ok-turn_away-clause-extents
returns-in-Ok-turn_away-clause-extents g c =
    let queue_of = g.Q.RecordStore.queue in
    let profile = c.args.profile.now in
    let s = c.args.state.now in
    let xs = s.initiators.items in
    let x = c.index_mut-x.result.now in
    let there = c.requires.runs.1 in
    let at = slice_get_read xs (length xs) c.args.place x refl (slice_get_within xs c.args.place there.it there.at) c.index_mut-x.ensures.value in
    let config = config_in queue_of profile s in
    let went = subst (WentInPlace queue_of profile s.parts c.in-Some.running c.go_on_in_place.new.parts c.go_on_in_place.new.running) c.in-Ok-None.field-0-is
    c.in-Ok-None.ensures.ok in
    let turns = away queue_of profile s c.requires.kept c.requires.runs.0 c.in-Some.running x c.args.place there at c.in-Some.is
    c.go_on_in_place.new.parts c.go_on_in_place.new.running went.0 went.1 c.turn_away.new.parts c.turn_away.new.x c.in-Ok-turn_away.lines
    c.in-Ok-turn_away.ensures.ok in
    turns.turns.went.extents

pub returns-in-Err-turn_away-clause-done : goal.returns-in-Err-turn_away-clause-done
returns-in-Err-turn_away-clause-done g c =
    let queue_of = g.Q.RecordStore.queue in
    let profile = c.args.profile.now in
    let s = c.args.state.now in
    let xs = s.initiators.items in
    let x = c.index_mut-x.result.now in
    let there = c.requires.runs.1 in
    let at = slice_get_read xs (length xs) c.args.place x refl (slice_get_within xs c.args.place there.it there.at) c.index_mut-x.ensures.value in
    let went = subst (WentInPlace queue_of profile s.parts c.in-Some.running c.go_on_in_place.new.parts c.go_on_in_place.new.running) c.in-Ok-None.field-0-is
    c.in-Ok-None.ensures.ok in
    let same = c.in-Err-turn_away.ensures.err in
    let parts = same.0 ∙ went.0 in
    let initiators = stays queue_of profile s c.requires.kept c.requires.runs.0 c.in-Some.running x c.args.place there at c.in-Some.is
    c.go_on_in_place.new.parts c.go_on_in_place.new.running went.0 went.1 c.turn_away.new.parts c.turn_away.new.x same.1 in
    memory_wanting queue_of profile s (λ w. ActsAt s.parts.store w c.args.place) c.requires.kept
    (with_initiator s c.turn_away.new.parts c.args.place c.turn_away.new.x) (queue_alone s.parts c.turn_away.new.parts parts)
    (ap (λ (p : Parts _). queue_of p.queue) parts) refl initiators refl refl

pub returns-in-Err-clause-done : goal.returns-in-Err-clause-done
returns-in-Err-clause-done g c =
    let queue_of = g.Q.RecordStore.queue in
    let profile = c.args.profile.now in
    let s = c.args.state.now in
    let xs = s.initiators.items in
    let x = c.index_mut-x.result.now in
    let there = c.requires.runs.1 in
    let at = slice_get_read xs (length xs) c.args.place x refl (slice_get_within xs c.args.place there.it there.at) c.index_mut-x.ensures.value in
    let same = c.in-Err.ensures.err in
    memory_wanting queue_of profile s (λ w. ActsAt s.parts.store w c.args.place) c.requires.kept _ (queue_alone s.parts c.go_on_in_place.new.parts same.0)
    (ap (λ (p : Parts _). queue_of p.queue) same.0) refl
    (back queue_of profile s c.requires.kept c.requires.runs.0 c.in-Some.running x c.args.place there at c.in-Some.is c.go_on_in_place.new.running same.1) refl refl
