-- The volumes behind a step of the machine.
use Rattle.std.proofs.Common.{sym, ap, ◌∙◌, subst}
use Rattle.plain.specs.Lists.{Differ}
use Rattle.next_laws.specs.Next.{IsNextStore, NextStoreIsDecided}
use Rattle.sched_core.specs.Systems.{IsWhole, Machine}
use Rattle.world_meaning.specs.Worlds.{Config, World}
use Rattle.machine_laws.specs.Next.{IsNextWithoutKeeping, NextVolumesAreDecided}

next_store : (old new : Machine) → IsWhole old → IsNextWithoutKeeping old new → IsNextStore old.parts.store new.parts.store
next_store old new whole is = record {
  serials = is.next.whole.serials ∙ ap (λ (c : Config). c.volumes) is.next.fixed.config ∙ sym whole.serials;
  follow = is.follow;
  laid_out = is.next.whole.laid_out;
}

pub next_volumes_are_decided : NextStoreIsDecided → NextVolumesAreDecided
next_volumes_are_decided law old one other differ whole first second same =
    law old.parts.store one.parts.store other.parts.store (subst Differ (sym whole.serials) differ) whole.laid_out
    (next_store old one whole first) (next_store old other whole second)
    (ap (λ (w : World). w.shared.store) same) (ap (λ (w : World). w.shared.kept) same)
