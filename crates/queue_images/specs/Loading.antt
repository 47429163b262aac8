-- An image in a store of records. Links are the store's own, and a record without an owner has one that is no job.
use Rattle.std.specs.Prelude.{◌≡◌, ◌≢◌, ℕ, ◌+◌, ◌-◌, ◌≤◌, ◌==◌, List, [], ◌∷◌, length, Some, if◌then◌else◌}
use Rattle.plain.specs.Lists.{numbers_from}
use Rattle.cb_meaning.specs.declared.layout.TheConstants.{LAYOUT_1}
use Rattle.cb_meaning.specs.Fields.{field, number_at}
use Rattle.cb_queue.specs.RecordQueues.{RecordQueue, record_at}
use Rattle.world_meaning.specs.Records.{AgreeBut}
use Rattle.queue_images.specs.Images.{records_in}

abbrev pub nobody : ℕ
nobody = 65535

abbrev pub shown_owner : ℕ → ℕ
shown_owner owner = if owner == 0 then nobody else owner

-- a record of an image, and the record of a store that stands for it
pub record StandsFor (r t : List ℕ) : Type 0 where
  pub bytes : AgreeBut (field 2 2 ∷ LAYOUT_1.link ∷ []) r t
  pub owner : number_at t (field 2 2) ≡ shown_owner (number_at r (field 2 2))
  pub owned : number_at r (field 2 2) ≢ 0 → AgreeBut (LAYOUT_1.link ∷ []) r t

-- one more record was taken, and stands for these bytes
pub record IsLoadedAt (n : ℕ) (rest bytes : List ℕ) (old new : RecordQueue) : Type 0 where
  pub layout : new.layout ≡ old.layout
  pub size : length new.records ≡ length old.records
  pub free : new.free ≡ rest
  pub its : List ℕ
  pub there : record_at new n ≡ Some its
  pub stands : StandsFor bytes its
  pub others : (m : ℕ) → m ≢ n → record_at new m ≡ record_at old m

abbrev pub LoadsNext : List ℕ → RecordQueue → RecordQueue → Type 0
LoadsNext bytes old new = (n : ℕ) (rest : List ℕ) → old.free ≡ n ∷ rest → IsLoadedAt n rest bytes old new

-- a record of a queue stands for one of an image
pub record IsRecordOf (image : List ℕ) (q : RecordQueue) (n : ℕ) : Type 0 where
  pub its : List ℕ
  pub there : record_at q n ≡ Some its
  pub stands : StandsFor ((records_in image).at n) its

-- So do the first of them, and the others are free.
pub record IsLoadedTo (image : List ℕ) (count : ℕ) (q : RecordQueue) : Type 0 where
  pub layout : q.layout ≡ LAYOUT_1
  pub size : length q.records ≡ LAYOUT_1.most_records
  pub free : q.free ≡ numbers_from (count + 1) (LAYOUT_1.most_records - count)
  pub records : (n : ℕ) → 1 ≤ n → n ≤ count → IsRecordOf image q n

-- Each record of the queue stands for the one of its number.
pub record IsLoaded (image : List ℕ) (q : RecordQueue) : Type 0 where
  pub layout : q.layout ≡ LAYOUT_1
  pub size : length q.records ≡ LAYOUT_1.most_records
  pub free : q.free ≡ []
  pub records : (n : ℕ) → 1 ≤ n → n ≤ LAYOUT_1.most_records → IsRecordOf image q n
