use Rattle.std.proofs.Common.{◌≡◌, Some, All, subst}
use Rattle.jcl_meaning.specs.declared.store.SoloStore.{SoloStore}
use Rattle.jcl_meaning.specs.Stores.{entry_in}
use Rattle.seen_store.proofs.Seen.{entries_found}
use Rattle.seen_store.proofs.store.SeenStore.entries.Goals as goal

pub returns-clause-found : goal.returns-clause-found
returns-clause-found c =
    subst (λ (s : SoloStore). All (λ x. entry_in s.catalog x.name ≡ Some x.entry) s.catalog) c.self.view_is
    (entries_found c.self.inside.catalog.entries c.iter.ensures.found)
