-- Rows of words, by their bits.
use Rattle.std.specs.Prelude.{◌≡◌, ◌<◌, ◌≤◌, ◌+◌, ◌/◌, ◌%◌, ◌^◌, ◌==◌, ℕ, zero, suc, Bool, false, List, [], ◌∷◌, ◌++◌, length, slice_index_or}
use Rattle.std.specs.Int.{bit_at}
use Rattle.std.specs.Int.Bits.{bit_or}
use Rattle.packed_core.specs.declared.room.Room.{Room}

-- bit i stands behind the first word
abbrev pub word_bit : List ℕ → ℕ → ℕ
word_bit row i = bit_at (slice_index_or row (i / 64 + 1) 0) (i % 64)

abbrev pub bit : List ℕ → ℕ → Bool
bit row i = word_bit row i == 1

-- so many bits, from one of them on
abbrev pub bits_from : ℕ → ℕ → List ℕ → List Bool
bits_from zero start row = []
bits_from (suc n) start row = bit row start ∷ bits_from n (suc start) row

-- the bits of the tests of the JOB statement, and those of the steps to come
abbrev pub met_of : Room → List ℕ → List Bool
met_of room row = bits_from room.job 1 row ++ bits_from room.left (room.job + room.passed + 1) row

abbrev pub AreWords : List ℕ → Type 0
AreWords row = (j : ℕ) → slice_index_or row j 0 < 2 ^ 64

-- a row with the bits of another beside its own
abbrev pub joined_words : List ℕ → List ℕ → List ℕ
joined_words [] mask = []
joined_words (w ∷ row) [] = []
joined_words (w ∷ row) (m ∷ mask) = bit_or w m ∷ joined_words row mask

-- A row with room for the ABEND bit and those of all tests, of which those of steps that are behind are clear, and so are all that no test has.
pub record IsRow (room : Room) (row : List ℕ) : Type 0 where
  pub size : length row ≡ 2 + (room.job + room.passed + room.left) / 64
  pub within : AreWords row
  pub gap : (i : ℕ) → room.job < i → i ≤ room.job + room.passed → bit row i ≡ false
  pub beyond : (i : ℕ) → room.job + room.passed + room.left < i → bit row i ≡ false

-- so many bits are clear, from one of them on, and the others as they were
pub record IsCleared (from count : ℕ) (row new : List ℕ) : Type 0 where
  pub size : length new ≡ length row
  pub cleared : (k : ℕ) → from ≤ k → k < from + count → bit new k ≡ false
  pub before : (k : ℕ) → k < from → bit new k ≡ bit row k
  pub after : (k : ℕ) → from + count ≤ k → bit new k ≡ bit row k
  pub first : slice_index_or new 0 0 ≡ slice_index_or row 0 0
  pub within : AreWords new
