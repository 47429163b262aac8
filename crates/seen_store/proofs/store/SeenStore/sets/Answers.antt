use Rattle.std.proofs.Common.{◌≡◌, Some, All, subst}
use Rattle.jcl_meaning.specs.declared.store.SoloStore.{SoloStore}
use Rattle.jcl_meaning.specs.Stores.{set_in}
use Rattle.seen_store.proofs.Seen.{sets_found}
use Rattle.seen_store.proofs.store.SeenStore.sets.Goals as goal

pub returns-clause-found : goal.returns-clause-found
returns-clause-found c =
    subst (λ (s : SoloStore). All (λ x. set_in s.sets x.key x.serial ≡ Some x.set) s.sets) c.self.view_is (sets_found c.self.inside.sets.entries c.iter.ensures.found)
