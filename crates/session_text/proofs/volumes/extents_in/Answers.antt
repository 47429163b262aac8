use Rattle.std.proofs.Common.{Some, sym, ap, ◌∙◌}
use Rattle.session_text.proofs.Extents.{last_none, last_some, more_to, none_to}
use Rattle.session_text.proofs.volumes.extents_in.Goals as goal

pub returns-in-None : goal.returns-in-None
returns-in-None c =
    sym (none_to _ c.loop-comma.extents c.loop-comma.rest.now c.split_at.result.0.now c.split_at.result.1.now c.in-Some.comma
    c.loop-comma.invariant (sym c.in-Some.ensures.comma) c.split_at.ensures.front c.split_at.ensures.back (sym c.in-None.ensures))

pub loop-comma-preserved : goal.loop-comma-preserved
loop-comma-preserved c =
    rw c.in_ok-push-in-Some-extent_of.ensures.ok (more_to _ c.loop-comma.extents c.loop-comma.rest.now c.split_at.result.0.now c.split_at.result.1.now
    c.in-Some.comma c.in-Some-extent_of.extent c.loop-comma.invariant (sym c.in-Some.ensures.comma) c.split_at.ensures.front c.split_at.ensures.back
    (sym c.in-Some-extent_of.ensures))

pub returns-in-None-extent_of : goal.returns-in-None-extent_of
returns-in-None-extent_of c =
    sym (last_none _ c.loop-comma.extents c.loop-comma.rest.now c.loop-comma.invariant (sym c.in_default.ensures.comma) (sym c.in-None-extent_of.ensures))

pub returns-in_ok-push-in-Some-extent_of-2 : goal.returns-in_ok-push-in-Some-extent_of-2
returns-in_ok-push-in-Some-extent_of-2 c =
    ap Some c.in_ok-push-in-Some-extent_of-2.ensures.ok
    ∙ sym (last_some _ c.loop-comma.extents c.loop-comma.rest.now c.in-Some-extent_of-2.extent c.loop-comma.invariant (sym c.in_default.ensures.comma)
    (sym c.in-Some-extent_of-2.ensures))
