-- What a writer writes, as the table of cases has it.
use Rattle.std.proofs.Common.{◌≡◌, ℕ, Option, Some, None, IfNone, IfSome, List, refl, sym, ap, subst, ◌∙◌}
use Rattle.jcl_plan.specs.declared.entry.Written.{Written}
use Rattle.machine_meaning.specs.declared.machine.SpoolSet.{SpoolSet}
use Rattle.machine_meaning.specs.Spools.{HasNoSet, Takes}
use Rattle.world_meaning.specs.Devices.{Writes, nothing_written, wrote}
use Rattle.world_meaning.specs.Worlds.{Shared, World}
use Rattle.machine_core.specs.Events.{written_lines}

pub writer_writes : (w : World) (s : Shared) (class : ℕ) (told : Option (ℕ × Written)) (left : List SpoolSet) → w.shared ≡ s →
    IfSome told (λ r. Takes s.spool class r.0 r.1 left) → IfNone told (HasNoSet s.spool class × (left ≡ s.spool)) →
    Writes w class (written_lines class told) (record w { shared = record s { spool = left } })
writer_writes w s class None left shared some none =
    nothing_written (subst (λ (x : Shared). HasNoSet x.spool class) (sym shared) none.0) refl
    (λ i. record w { shared = record (sym shared i) { spool = (none.1 ∙ ap (λ (x : Shared). x.spool) (sym shared)) i } })
writer_writes w s class (Some told) left shared some none =
    wrote told.0 told.1 left (subst (λ (x : Shared). Takes x.spool class told.0 told.1 left) (sym shared) some) refl
    (λ i. record w { shared = record (sym shared i) { spool = left } })
