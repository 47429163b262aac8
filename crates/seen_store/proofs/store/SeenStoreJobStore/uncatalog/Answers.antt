use Rattle.std.proofs.Common.{◌∙◌, ap, sym}
use Rattle.jcl_meaning.specs.declared.store.SoloStore.{SoloStore}
use Rattle.jcl_meaning.specs.Stores.{member_of, store_of, uncatalogued_by}
use Rattle.seen_store.proofs.Seen.{seen_unnumbered}
use Rattle.seen_store.proofs.store.SeenStoreJobStore.uncatalog.Goals as goal

pub returns-in-Some-clause-seen : goal.returns-in-Some-clause-seen
returns-in-Some-clause-seen c =
    let sets = c.self.inside.sets.entries in
    let old = c.self.inside.catalog.entries in
    let name = c.args.name.now in
    seen_unnumbered sets old c.drop_number.new.entries.entries name c.base_of.result (c.in-Some.number, c.in-Some.field-0-1.now)
    (c.in-Some.ensures.member ∙ ap (λ (s : SoloStore). member_of (store_of s) name) (sym c.self.view_is)) c.base_of.ensures.base c.drop_number.ensures
    ∙ ap (λ (s : SoloStore). uncatalogued_by (member_of (store_of s) name) (store_of s) name) c.self.view_is
