-- A job that a queue's records denote, and the numbers of its records. Steps and DDs count from 0. (This profile)
use Rattle.std.specs.Prelude.{◌≡◌, ◌≢◌, ℕ, zero, suc, ◌+◌, ◌-◌, ◌<◌, ◌≤◌, List, ◌∷◌, length}
use Rattle.jcl_plan.specs.declared.plan.JobPlan.{JobPlan}
use Rattle.cb_meaning.specs.Fields.{number_at}
use Rattle.cb_meaning.specs.Layouts.{HasOwnFields}
use Rattle.cb_meaning.specs.Readings.{cards_of_record, cards_read}
use Rattle.cb_meaning.specs.Spelled.{Denotes, card_record}
use Rattle.cb_queue.specs.RecordQueues.{RecordQueue, shown}
use Rattle.cb_read.specs.Chains.{cards_from, plan_of}
use Rattle.cb_read.specs.Kinds.{AreCards, IsOfKind}
use Rattle.job_text.specs.Places.{card_at}
use Rattle.walk_laws.specs.WalkLaws.{AreRecords}
use Rattle.job_records.specs.Fields.{fields_of_cards, fields_of_jct, fields_of_jfcb, fields_of_sct, fields_of_siot}
use Rattle.job_records.specs.declared.cards.CardPlace.{CardPlace}
use Rattle.job_records.specs.declared.records.AtHand.{AtHand}

-- bytes that are lent of a record have the fields that the queue shows of it
abbrev pub ShowsJct : RecordQueue → ℕ → List ℕ → Type 0
ShowsJct q n bytes = fields_of_jct q.layout bytes ≡ fields_of_jct q.layout ((shown q).at n)

abbrev pub ShowsSct : RecordQueue → ℕ → List ℕ → Type 0
ShowsSct q n bytes = fields_of_sct q.layout bytes ≡ fields_of_sct q.layout ((shown q).at n)

abbrev pub ShowsSiot : RecordQueue → ℕ → List ℕ → Type 0
ShowsSiot q n bytes = fields_of_siot q.layout bytes ≡ fields_of_siot q.layout ((shown q).at n)

abbrev pub ShowsJfcb : RecordQueue → ℕ → List ℕ → Type 0
ShowsJfcb q n bytes = fields_of_jfcb q.layout bytes ≡ fields_of_jfcb q.layout ((shown q).at n)

abbrev pub ShowsCards : RecordQueue → ℕ → List ℕ → Type 0
ShowsCards q n bytes = fields_of_cards q.layout bytes ≡ fields_of_cards q.layout ((shown q).at n)

-- the records from a JCT on denote the job that is read from them
pub record IsRecorded (q : RecordQueue) (jct : ℕ) : Type 0 where
  pub own : HasOwnFields q.layout
  pub units : ℕ
  pub job : ℕ
  pub behind : List ℕ
  pub denotes : Denotes q.layout units (shown q) job (jct ∷ behind) (plan_of q jct)

-- A job that records denote is so recorded, and is the one that is read.
abbrev pub DenotedIsRecorded : Type 0
DenotedIsRecorded = (q : RecordQueue) (units job n : ℕ) (behind : List ℕ) (plan : JobPlan) → HasOwnFields q.layout → AreRecords (shown q) →
    Denotes q.layout units (shown q) job (n ∷ behind) plan → IsRecorded q n × (plan ≡ plan_of q n)

-- where so many links lead to
abbrev pub along : (ℕ → ℕ) → ℕ → ℕ → ℕ
along next n zero = n
along next n (suc count) = next (along next n count)

abbrev pub next_step : RecordQueue → ℕ → ℕ
next_step q n = number_at ((shown q).at n) q.layout.next_step

abbrev pub next_dd : RecordQueue → ℕ → ℕ
next_dd q n = number_at ((shown q).at n) q.layout.next_dd

abbrev pub next_cards : RecordQueue → ℕ → ℕ
next_cards q n = number_at ((shown q).at n) q.layout.next_cards

-- the SCT of a step, and the SIOT of a DD
abbrev pub first_sct : RecordQueue → ℕ → ℕ
first_sct q jct = number_at ((shown q).at jct) q.layout.first_step

abbrev pub sct_at : RecordQueue → ℕ → ℕ → ℕ
sct_at q jct step = along (next_step q) (first_sct q jct) step

abbrev pub first_siot : RecordQueue → ℕ → ℕ → ℕ
first_siot q jct step = number_at ((shown q).at (sct_at q jct step)) q.layout.first_dd

abbrev pub siot_at : RecordQueue → ℕ → ℕ → ℕ → ℕ
siot_at q jct step dd = along (next_dd q) (first_siot q jct step) dd

-- the first record below an SIOT
abbrev pub first_below : RecordQueue → ℕ → ℕ → ℕ → ℕ
first_below q jct step dd = number_at ((shown q).at (siot_at q jct step dd)) q.layout.below

-- so many cards are in so many records of cards from one on
abbrev pub cards_in_front : RecordQueue → ℕ → ℕ → ℕ
cards_in_front q n zero = 0
cards_in_front q n (suc count) = length (cards_of_record ((shown q).at n)) + cards_in_front q (next_cards q n) count

-- a record of cards that links lead to, and how many cards are passed on the way
pub record IsPassed (q : RecordQueue) (first n cards : ℕ) : Type 0 where
  pub links : ℕ
  pub is : n ≡ along (next_cards q) first links
  pub cards_so : cards ≡ cards_in_front q first links

-- one of so many records of cards from one on has the card of a place, from 0
pub record HasCard (q : RecordQueue) (n place : ℕ) : Type 0 where
  pub records : ℕ
  pub few : records ≤ q.layout.most_records + 1
  pub kinds : AreCards q records n
  pub there : place < length (cards_read q.layout (shown q) records n)

-- where it stands: in a record of cards, at a place of that
pub record IsCardPlace (q : RecordQueue) (first place : ℕ) (at : CardPlace) : Type 0 where
  pub kind : IsOfKind q card_record at.n
  pub there : at.place < length (cards_of_record ((shown q).at at.n))
  pub is : card_at (cards_from q first) place ≡ card_at (cards_of_record ((shown q).at at.n)) at.place
  pub within : at.place ≤ place
  pub passed : IsPassed q first at.n (place - at.place)

-- The numbers that are at hand are those of a step, of a DD of it, and of a record of its cards; 0 is none.
pub record IsAtHand (q : RecordQueue) (jct : ℕ) (h : AtHand) : Type 0 where
  pub sct : h.sct ≢ 0 → h.sct ≡ sct_at q jct h.step
  pub siot : h.siot ≢ 0 → h.siot ≡ siot_at q jct h.step h.dd
  pub cards : h.cards ≢ 0 → IsPassed q (first_below q jct h.step h.dd) h.cards h.card

-- so a job can be read
pub record CanBeRead (q : RecordQueue) (jct : ℕ) (h : AtHand) : Type 0 where
  pub recorded : IsRecorded q jct
  pub at_hand : IsAtHand q jct h
