-- The devices, and the writers: a device's end writes nothing; WRITER.
use Rattle.std.specs.Prelude.{◌≡◌, ◌≢◌, ℕ, List, [], ◌∷◌, All}
use Rattle.std.specs.List.{Contains}
use Rattle.jcl_plan.specs.declared.entry.Entry.{Entry}
use Rattle.jcl_plan.specs.declared.entry.Entry.TheVariants as entry
use Rattle.jcl_plan.specs.declared.entry.Written.{Written}
use Rattle.jcl_plan.specs.declared.fault.Cause.TheVariants.{A}
use Rattle.jcl_plan.specs.declared.fault.EventFault.TheVariants.{NoSuchVolume, NothingUnderWay}
use Rattle.machine_meaning.specs.declared.machine.SpoolSet.{SpoolSet}
use Rattle.machine_meaning.specs.Spools.{HasNoSet, Takes}
use Rattle.prog_core.specs.Operations.{is_busy, without_operation}
use Rattle.world_meaning.specs.Worlds.{World}
use Rattle.std.specs.Prelude.{true, false, Some}

pub data EndsDevice (old : World) (serial : List ℕ) (lines : List Entry) (new : World) : Type 0 where
  no_volume : All (λ v. v ≢ serial) old.config.volumes → lines ≡ entry.Refused (A NoSuchVolume) ∷ [] → new ≡ old → EndsDevice old serial lines new
  idle : Contains old.config.volumes serial → is_busy old.shared.operations (Some serial) ≡ false → lines ≡ entry.Refused (A NothingUnderWay) ∷ [] → new ≡ old →
      EndsDevice old serial lines new
  ended : Contains old.config.volumes serial → is_busy old.shared.operations (Some serial) ≡ true → lines ≡ [] →
      new ≡ record old { shared = record old.shared { operations = without_operation old.shared.operations serial } } → EndsDevice old serial lines new

-- WRITER c nnnn text: the first line of the writer's class, if there is one
pub data Writes (old : World) (class : ℕ) (lines : List Entry) (new : World) : Type 0 where
  nothing_written : HasNoSet old.shared.spool class → lines ≡ [] → new ≡ old → Writes old class lines new
  wrote : (job : ℕ) (line : Written) (left : List SpoolSet) → Takes old.shared.spool class job line left →
      lines ≡ entry.Writer class job line ∷ [] → new ≡ record old { shared = record old.shared { spool = left } } → Writes old class lines new
