use Rattle.std.proofs.Common.{◌≡◌, sym, ◌∙◌}
use Rattle.world_meaning.specs.Holdings.{wants_of}
use Rattle.init_core.specs.declared.running.Stage.TheVariants as stage
use Rattle.init_core.proofs.Wanting.{waited}
use Rattle.init_core.proofs.names.want_in_place.Goals as goal

pub returns-clause-ok : goal.returns-clause-ok
returns-clause-ok g c = λ config good.
    let plan = c.requires.waits.0 in
    let both : stage.Wanting c.in-Wanting.plan c.in-Wanting.wants ≡ stage.Wanting plan (wants_of plan) = sym c.in-Wanting.is ∙ c.requires.waits.1 in
    let same : c.in-Wanting.wants ≡ wants_of plan = cc in
    let read : c.as_slice.result.now ≡ wants_of plan = c.as_slice.ensures ∙ same in
    let was = c.requires.waits.1 ∙ (λ i. stage.Wanting plan (sym read i)) in
    waited g.Q.RecordStore.queue config c.args.parts.now c.wish.new.parts c.args.job c.args.walk.now c.wish.new.walk plan c.as_slice.result.now
    c.args.waits.now c.go_behind.new.waits c.in_ok-held.held c.len-from.result was
    (c.go_behind.ensures plan c.as_slice.result.now was) c.len-from.ensures (c.in_ok-held.ensures.ok config plan read good)
