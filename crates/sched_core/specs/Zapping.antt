-- Whether a Zap is refused, and of what. (This profile)
use Rattle.std.specs.Prelude.{◌≡◌, ℕ, ◌+◌, ◌≤◌, Bool, true, false, Option, Some, None, is_some}
use Rattle.cb_meaning.specs.declared.layout.TheConstants.{RECORD_BYTES}
use Rattle.cb_meaning.specs.Walks.{owner_of}
use Rattle.cb_queue.specs.RecordQueues.{RecordQueue, record_at}
use Rattle.jcl_plan.specs.declared.fault.QueueFault.{QueueFault}
use Rattle.jcl_plan.specs.declared.fault.QueueFault.TheVariants.{Full, NotOwner, Selected}
use Rattle.world_meaning.specs.Worlds.{World}
use Rattle.world_meaning.specs.Zaps.{has_initiator, may_be_zapped}

-- by whether the owner of a record has an initiator, and whether it waits
abbrev pub fault_of_owner : Bool → Bool → Option QueueFault
fault_of_owner true waits = Some Selected
fault_of_owner false true = None
fault_of_owner false false = Some NotOwner

-- It is not refused where the record's job waits; of a job that was selected by Q3, of any other by Q2.
abbrev pub IsJudged : World → ℕ → ℕ → ℕ → Option QueueFault → Type 0
IsJudged w n offset count None = (may_be_zapped w n offset count ≡ true) × (has_initiator w (owner_of w.shared.records n) ≡ false)
IsJudged w n offset count (Some Selected) = (may_be_zapped w n offset count ≡ true) × (has_initiator w (owner_of w.shared.records n) ≡ true)
IsJudged w n offset count (Some NotOwner) = may_be_zapped w n offset count ≡ false
IsJudged w n offset count (Some Full) = ⊥

-- a record in use, and bytes of it that are open to a Zap
pub record IsOpen (q : RecordQueue) (n offset count : ℕ) : Type 0 where
  pub there : is_some (record_at q n) ≡ true
  pub behind : 8 ≤ offset
  pub within : offset + count ≤ RECORD_BYTES
