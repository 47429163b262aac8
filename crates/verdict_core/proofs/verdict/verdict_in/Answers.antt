use Rattle.std.proofs.Common.{◌∙◌, [], ap, subst, sym}
use Rattle.jcl_plan.specs.declared.plan.JobPlan.{JobPlan}
use Rattle.jcl_meaning.specs.Names.{names_of}
use Rattle.path_meaning.specs.Verdicts.{IsFree}
use Rattle.jcl_meaning.specs.Solo.{fixed_in}
use Rattle.jcl_meaning.specs.Stores.{store_of}
use Rattle.shared_core.specs.Shown.{world_store_of}
use Rattle.place_core.specs.Placings.{serials_of}
use Rattle.world_meaning.specs.Lenses.{seen}
use Rattle.verdict_core.proofs.Seen.{judged, meant}
use Rattle.verdict_core.proofs.verdict.verdict_in.Goals as goal

pub returns-then-is_plainly_free-clause-found : goal.returns-then-is_plainly_free-clause-found
returns-then-is_plainly_free-clause-found c =
    let store = seen c.args.job (world_store_of c.args.store.now) in
    let fixed = fixed_in (serials_of c.args.store.now.volumes) store c.args.known.now c.args.places c.args.date in
    c.free.ensures fixed c.args.known.now store c.args.most_views c.args.explains
    (subst (λ (plan : JobPlan). IsFree fixed plan store c.args.most_views []) c.plan.ensures (c.if-is_plainly_free.ensures fixed (sym c.requires.meanings)))

pub returns-clause-found : goal.returns-clause-found
returns-clause-found c =
    judged c.meanings_are_seen.ensures c.free_is_seen.ensures c.earliest_is_seen.ensures c.first_with_more_is_seen.ensures c.path_is_seen.ensures c.start_fits.ensures c.args.known.now
    (seen c.args.job (world_store_of c.args.store.now)) (store_of c.in_ok-part.part) c.args.date c.args.most_views c.requires.plan c.requires.groups
    c.as_slice.result.now (serials_of c.args.store.now.volumes) c.in_ok-part.part.volumes c.args.places c.args.explains
    (c.as_slice.ensures ∙ c.in_ok-names.ensures ∙ ap names_of c.plan-2.ensures) c.in_ok-part.ensures.volumes c.in_ok-part.ensures.sets c.in_ok-part.ensures.catalog
    c.find.result c.find.ensures.found

pub find-requires-clause-meanings : goal.find-requires-clause-meanings
find-requires-clause-meanings c =
    meant c.meanings_are_seen.ensures c.free_is_seen.ensures c.earliest_is_seen.ensures c.first_with_more_is_seen.ensures c.path_is_seen.ensures c.start_fits.ensures c.args.known.now
    (seen c.args.job (world_store_of c.args.store.now)) (store_of c.in_ok-part.part) c.args.date c.args.most_views c.requires.plan c.requires.groups
    c.as_slice.result.now c.args.meanings.now (c.as_slice.ensures ∙ c.in_ok-names.ensures ∙ ap names_of c.plan-2.ensures) c.in_ok-part.ensures.sets c.in_ok-part.ensures.catalog c.requires.meanings
