-- The store behind an event is decided by what is shown of it.
use Rattle.std.proofs.Common.{◌≡◌, inl, inr, ℕ, not, List, [], sym, ap, ◌∙◌, subst}
use Rattle.std.specs.List.{Contains}
use Rattle.std.proofs.lemmas.Bool.{both_ways, eq-eqb}
use Rattle.world_meaning.specs.Worlds.{Kept}
use Rattle.shared_core.specs.LaidOut.{VolumesAreLaidOut}
use Rattle.shared_core.specs.Laws.{Follow}
use Rattle.shared_core.specs.Tracks.{kept_shown}
use Rattle.shared_core.specs.declared.store.SharedStore.{SharedStore}
use Rattle.next_laws.specs.Next.{IsNextStore, NextStoreIsDecided}
use Rattle.init_core.specs.Extents.{KeepsSome}
use Rattle.keep_laws.specs.Keeping.{IsNextOf, KeepingIsDecided, KeepsNoMore, NextOfIsDecided}
use Rattle.keep_laws.proofs.Elements.{has_passed, without_elements}
use Rattle.keep_laws.proofs.Places.{entry}
use Rattle.keep_laws.proofs.Stores.{as_it_was, is_of_another, itself, kept_as_before, nothing_made, some_kept}

-- a store whose extents follow an other's is next to it
follows : (old new : SharedStore) → IsNextOf old new → (follow : Follow old new) → IsNextStore old new
follows old new next follow = record { serials = next.serials; follow = follow; laid_out = next.laid_out }

pub keeping_is_decided : NextStoreIsDecided → KeepingIsDecided
keeping_is_decided decided job plan made old new differ laid_out next rising store are without =
    elim next.extents [
      | inl follow ↦
          decided old new old differ laid_out (follows old new next follow) (itself old laid_out) store (kept_as_before job old new follow without)
          ∙ sym (as_it_was job plan made old (nothing_made job old new follow without plan made are))
      | inr some ↦ some_kept job plan made old new some rising are without
    ]

-- where no more is kept than before none is kept for a job that is assured
module _ (old new : SharedStore) (laid_out : VolumesAreLaidOut old.volumes) (next : IsNextOf old new)
    (no_more : KeepsNoMore (kept_shown old.volumes) (kept_shown new.volumes)) where
  none_kept : (some : KeepsSome old new) → some.made ≡ []
  none_kept some =
      without_elements some.made (λ p h.
      let found = entry (kept_shown new.volumes) some.job some.plan some.made some.keeps.kept p h in
      let before : Contains (kept_shown old.volumes p.serial) found.0 = no_more p.serial found.0 found.1 in
      let for_another = has_passed (is_of_another some.job) (kept_shown new.volumes p.serial) found.0
      (subst (λ (kept : List ℕ → List Kept). Contains (kept p.serial) found.0) (sym some.keeps.others) before) in
      both_ways (is_of_another some.job found.0) (ap not (eq-eqb found.0.job some.job found.2.of_job)) for_another)

  is_next : IsNextStore old new
  is_next =
      elim next.extents [
        | inl follow ↦ follows old new next follow
        | inr some ↦ subst (IsNextStore old) (sym (some.keeps.volumes ∙ as_it_was some.job some.plan some.made old (none_kept some))) (itself old laid_out)
      ]

pub next_of_is_decided : NextStoreIsDecided → NextOfIsDecided
next_of_is_decided decided old one other differ laid_out first second no_more store kept =
    decided old one other differ laid_out (is_next old one laid_out first no_more)
    (is_next old other laid_out second (subst (KeepsNoMore (kept_shown old.volumes)) kept no_more)) store kept
