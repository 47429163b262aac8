use Rattle.std.proofs.Common.{Err, get_or, slice_set, sym, ap, ◌∙◌}
use Rattle.place_core.specs.Keepings.{keep_on}
use Rattle.place_core.specs.Volumes.{has_room}
use Rattle.place_core.proofs.KeepingOn.{no_room}
use Rattle.place_core.proofs.KeptAside.{keep_is, keep_not}
use Rattle.place_core.proofs.aside.keep_at.Goals as goal

pub returns-then-has_too_few-clause-ok : goal.returns-then-has_too_few-clause-ok
returns-then-has_too_few-clause-ok c =
    sym (no_room c.args.volumes.now c.args.at c.args.tracks c.args.serial
    (ap (has_room c.args.tracks) (c.in-Some.ensures.there.found c.index-volumes-place.result)
    ∙ c.has_too_few.ensures c.if-has_too_few.true))

pub returns-in-Ok-clause-ok : goal.returns-in-Ok-clause-ok
returns-in-Ok-clause-ok c =
    let m = c.index-volumes-place-2.result in
    let x = get_or c.args.volumes.now c.in-Some.place m in
    let k = c.in-Ok.ensures.ok in
    ap (slice_set c.args.volumes.now c.in-Some.place)
    (k.2 ∙ sym (keep_is c.args.at c.args.tracks x k.0 k.1))
    ∙ sym (c.in-Some.ensures.there.changed (keep_on c.args.at c.args.tracks) m)

pub returns-in-Err-NoSpace-clause-ok : goal.returns-in-Err-NoSpace-clause-ok
returns-in-Err-NoSpace-clause-ok c =
    let m = c.index-volumes-place-2.result in
    let x = get_or c.args.volumes.now c.in-Some.place m in
    let full = (c.in-Err-NoSpace.ensures.space.0 (ap Err c.in-Err-NoSpace.field-0-is)).1 in
    ap (slice_set c.args.volumes.now c.in-Some.place)
    (c.in-Err-NoSpace.ensures.err ∙ sym (keep_not c.args.at c.args.tracks x full))
    ∙ sym (c.in-Some.ensures.there.changed (keep_on c.args.at c.args.tracks) m)
