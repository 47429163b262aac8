-- Records that are of the kinds that their places in a job ask, along its links. (This profile)
use Rattle.std.specs.Prelude.{◌≡◌, ◌≢◌, ℕ, zero, suc, ◌+◌, List}
use Rattle.cb_meaning.specs.Fields.{byte_at, number_at}
use Rattle.cb_meaning.specs.Spelled.{card_record, jct, jfcb, sct, siot}
use Rattle.cb_queue.specs.RecordQueues.{RecordQueue, shown}

-- something holds of each record of a chain, from a number on, over so many at most
unfoldable pub HoldsAlong : (ℕ → ℕ) → (ℕ → Type 0) → ℕ → ℕ → Type 0
HoldsAlong next P zero n = Unit {0}
HoldsAlong next P (suc fuel) n = n ≢ 0 → P n × HoldsAlong next P fuel (next n)

abbrev pub IsOfKind : RecordQueue → ℕ → ℕ → Type 0
IsOfKind q kind n = byte_at ((shown q).at n) 0 ≡ kind

abbrev pub AreCards : RecordQueue → ℕ → ℕ → Type 0
AreCards q fuel first = HoldsAlong (λ n. number_at ((shown q).at n) q.layout.next_cards) (IsOfKind q card_record) fuel first

-- what stands below an SIOT: a set's JFCB, or cards
pub record IsBelowOfKind (q : RecordQueue) (s : List ℕ) : Type 0 where
  pub set : byte_at s 12 ≡ 1 → IsOfKind q jfcb (number_at s q.layout.below)
  pub cards : byte_at s 12 ≡ 4 → AreCards q (q.layout.most_records + 1) (number_at s q.layout.below)

pub record IsDdOfKind (q : RecordQueue) (n : ℕ) : Type 0 where
  pub kind : IsOfKind q siot n
  pub below : IsBelowOfKind q ((shown q).at n)

abbrev pub AreDds : RecordQueue → ℕ → ℕ → Type 0
AreDds q fuel first = HoldsAlong (λ n. number_at ((shown q).at n) q.layout.next_dd) (IsDdOfKind q) fuel first

pub record IsStepOfKind (q : RecordQueue) (n : ℕ) : Type 0 where
  pub kind : IsOfKind q sct n
  pub dds : AreDds q (q.layout.most_records + 1) (number_at ((shown q).at n) q.layout.first_dd)

abbrev pub AreSteps : RecordQueue → ℕ → ℕ → Type 0
AreSteps q fuel first = HoldsAlong (λ n. number_at ((shown q).at n) q.layout.next_step) (IsStepOfKind q) fuel first

pub record IsJobOfKind (q : RecordQueue) (n : ℕ) : Type 0 where
  pub kind : IsOfKind q jct n
  pub steps : AreSteps q (q.layout.most_records + 1) (number_at ((shown q).at n) q.layout.first_step)
