-- Machines that are the same but for what is open in records: links, status bytes, and what stands in free ones. (This profile)
use Rattle.std.specs.Prelude.{◌≡◌}
use Rattle.cb_meaning.specs.declared.layout.Layout.{Layout}
use Rattle.cb_meaning.specs.Spelled.{Records}
use Rattle.world_meaning.specs.Records.{IsQueueLayout, SameRecords}
use Rattle.world_meaning.specs.Worlds.{World}

pub record IsSameButOpen (one other : World) : Type 0 where
  pub records : SameRecords one.config.layout one.shared.records other.shared.records
  pub rest : other ≡ record one { shared = record one.shared { records = other.shared.records } }

-- Records are the same but for what is open as they are themselves; and what is the same as one is the same as each that this is the same as.
pub record IsSameness (l : Layout) : Type 0 where
  pub itself : (q : Records) → SameRecords l q q
  pub back : (q r : Records) → SameRecords l q r → SameRecords l r q
  pub on : (p q r : Records) → SameRecords l p q → SameRecords l q r → SameRecords l p r

abbrev pub SamenessIsKept : Type 0
SamenessIsKept = (l : Layout) → IsQueueLayout l → IsSameness l
