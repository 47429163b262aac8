-- Bytes of a record are with_part, as long as its job waits. What stands in bytes 0 to 7 is the queue's own. (This profile)
use Rattle.std.specs.Prelude.{◌≡◌, ℕ, ◌+◌, Bool, true, false, not, ◌&&◌, ◌||◌, ◌==◌, nat_le, List, [], ◌∷◌, length, Option, Some, None}
use Rattle.std.specs.List.{list_any}
use Rattle.cb_meaning.specs.declared.layout.TheConstants.{RECORD_BYTES}
use Rattle.cb_meaning.specs.Walks.{is_free, owner_of}
use Rattle.jcl_plan.specs.declared.entry.Entry.{Entry}
use Rattle.jcl_plan.specs.declared.entry.Entry.TheVariants as entry
use Rattle.jcl_plan.specs.declared.fault.Cause.TheVariants.{Q}
use Rattle.jcl_plan.specs.declared.fault.QueueFault.TheVariants as refused
use Rattle.world_meaning.specs.Records.{with_record}
use Rattle.world_meaning.specs.Worlds.{Running, World}
use Rattle.cb_meaning.specs.Fields.{with_part}

abbrev pub most_zapped : ℕ
most_zapped = 32

-- a record of the queue, and bytes that stay within what is open to a Zap
abbrev pub is_within : ℕ → ℕ → ℕ → ℕ → Bool
is_within most n offset count =
    nat_le 1 n && nat_le n most && nat_le 8 offset && nat_le 1 count && nat_le count most_zapped && nat_le (offset + count) RECORD_BYTES

abbrev pub is_waiting : World → ℕ → Bool
is_waiting w job = list_any (λ x. x.job == job) w.waiting

abbrev pub runs_job : ℕ → Option Running → Bool
runs_job job None = false
runs_job job (Some r) = r.job == job

abbrev pub has_initiator : World → ℕ → Bool
has_initiator w job = list_any (λ x. runs_job job x.running) w.initiators

-- a record that a job has
abbrev pub is_owned : World → ℕ → Bool
is_owned w n = not (is_free w.shared.records n) && (is_waiting w (owner_of w.shared.records n) || has_initiator w (owner_of w.shared.records n))

abbrev pub may_be_zapped : World → ℕ → ℕ → ℕ → Bool
may_be_zapped w n offset count = is_within w.config.layout.most_records n offset count && is_owned w n

pub data ZapsRecord (old : World) (n offset : ℕ) (bytes : List ℕ) (lines : List Entry) (new : World) : Type 0 where
  not_owned : may_be_zapped old n offset (length bytes) ≡ false → lines ≡ entry.Refused (Q refused.NotOwner) ∷ [] → new ≡ old → ZapsRecord old n offset bytes lines new
  selected : may_be_zapped old n offset (length bytes) ≡ true → has_initiator old (owner_of old.shared.records n) ≡ true →
      lines ≡ entry.Refused (Q refused.Selected) ∷ [] → new ≡ old → ZapsRecord old n offset bytes lines new
  zapped : may_be_zapped old n offset (length bytes) ≡ true → has_initiator old (owner_of old.shared.records n) ≡ false → lines ≡ [] →
      new ≡ record old { shared = record old.shared { records = with_record old.shared.records n (with_part (old.shared.records.at n) offset bytes) } } →
      ZapsRecord old n offset bytes lines new
