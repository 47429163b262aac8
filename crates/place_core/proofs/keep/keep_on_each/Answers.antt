use Rattle.std.proofs.Common.{◌≡◌, ◌+◌, true, take, get_or, sym, ap, subst, ◌∙◌}
use Rattle.jcl_meaning.specs.declared.state.Place.{Place}
use Rattle.shared_core.specs.Rooms.{kept_place}
use Rattle.shared_core.specs.Shown.{mounted_in}
use Rattle.world_meaning.specs.Admissions.{asked_at}
use Rattle.place_core.specs.Keepings.{keep_on}
use Rattle.place_core.specs.Volumes.{all_back, changed_on, has_room}
use Rattle.place_core.proofs.KeepingOn.{KeptUpTo, no_room, one_more}
use Rattle.place_core.proofs.keep.keep_on_each.Goals as goal

pub returns-in-Ok-false-clause-back : goal.returns-in-Ok-false-clause-back
returns-in-Ok-false-clause-back c =
    let volumes = c.loop-i.volumes in
    c.give_all_back.ensures
    ∙ ap (all_back c.args.job (take c.loop-i.i c.args.places.now))
    (c.in-Ok-false.ensures.ok
    ∙ no_room volumes c.kept_place-at.result c.asked_at.result c.index-places-i.result.serial (sym c.in-Ok-false.ensures.room ∙ c.in-Ok-false.field-0-test))
    ∙ c.loop-i.invariant.back

pub loop-i-preserved : goal.loop-i-preserved
loop-i-preserved c =
    let job = c.args.job in
    let plan = c.args.plan.now in
    let volumes = c.loop-i.volumes in
    let d = c.index-places-i.result in
    let here : Place = get_or c.args.places.now c.loop-i.i d in
    let is : here ≡ d = sym c.index-places-i.is in
    let room : has_room (asked_at plan here) (mounted_in volumes here.serial) ≡ true =
    ap (λ (q : Place). has_room (asked_at plan q) (mounted_in volumes q.serial)) is
    ∙ ap (λ n. has_room n (mounted_in volumes d.serial)) (sym c.asked_at.ensures) ∙ sym c.in-Ok-true.ensures.room ∙ c.in-Ok-true.field-0-test in
    let next : changed_on (keep_on (kept_place job here) (asked_at plan here)) here.serial volumes ≡ c.keep_at.new.volumes =
    ap (λ (q : Place). changed_on (keep_on (kept_place job q) (asked_at plan q)) q.serial volumes) is
    ∙ (λ i. changed_on (keep_on (sym c.kept_place-at.ensures i) (sym c.asked_at.ensures i)) d.serial volumes)
    ∙ sym c.in-Ok-true.ensures.ok in
    subst (KeptUpTo job plan c.args.places.now c.args.volumes.now (c.loop-i.i + 1)) next
    (one_more job plan c.args.places.now c.args.volumes.now c.loop-i.i volumes d c.loop-i-test.true c.loop-i.invariant room)
