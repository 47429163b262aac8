use Rattle.std.proofs.Common.{◌≡◌, ◌++◌, ◌∷◌, ◌∙◌, [], ap, arith, map, take}
use Rattle.std.proofs.lemmas.List.{take_all}
use Rattle.jcl_plan.specs.declared.entry.Entry.TheVariants as entry
use Rattle.machine_core.specs.Events.{line_of}
use Rattle.machine_core.proofs.Volumes.{shows}
use Rattle.machine_core.proofs.events.show.Goals as goal

pub returns : goal.returns
returns g c =
    let volumes = c.as_slice-volumes.result.now in
    let all : take c.loop-m.m-index volumes ≡ volumes = take_all c.loop-m.m-index volumes (omega (arith, c.loop-m-test.false)) in
    let told : c.new.result ≡ map line_of c.args.parts.now.store.volumes ++ entry.Queue c.waiting_count.result c.args.running c.free_count.result ∷ [] =
    c.new.ensures ∙ c.push_reserved-2.ensures.items
    ∙ (λ i. (c.loop-m.invariant.0 ∙ ap (map line_of) (all ∙ c.as_slice-volumes.ensures)) i
    ++ entry.Queue c.waiting_count.result c.args.running c.free_count.result ∷ []) in
    shows g.Q.RecordStore.queue c.args.parts.now c.args.running c.waiting_count.result c.free_count.result c.new.result c.requires c.waiting_count.ensures
    c.free_count.ensures told
