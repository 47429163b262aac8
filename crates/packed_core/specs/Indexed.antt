-- An index of rows: lists of those whose words come to one place.
use Rattle.std.specs.Prelude.{◌≡◌, ◌<◌, ◌≤◌, ◌+◌, ◌*◌, ◌%◌, ◌^◌, ℕ, List, [], ◌∷◌, ◌++◌, length, map, slice_index_or}
use Rattle.packed_core.specs.declared.index.Index.{Index}
use Rattle.packed_core.specs.declared.index.TheConstants.{FACTOR}

-- what the words of a row come to, one after another
abbrev pub mixed : ℕ → ℕ → ℕ
mixed h w = (h + w) % 2 ^ 64 * FACTOR % 2 ^ 64

abbrev pub hash_from : ℕ → List ℕ → ℕ
hash_from h [] = h
hash_from h (w ∷ row) = hash_from (mixed h w) row

-- the place of a row by what its words come to, of so many
abbrev pub place_in : ℕ → ℕ → ℕ
place_in places hash = hash % places

-- what the words of this row come to
abbrev pub hash_at : List ℕ → ℕ → ℕ
hash_at hashes n = slice_index_or hashes n 0

-- Of the first rows, so many, the last of each place is known, and of each row the one before it at its place; they are numbered from 1.
pub record IsIndexed (hashes : List ℕ) (count : ℕ) (heads next : List ℕ) : Type 0 where
  pub some : 0 < length heads
  pub size : length next ≡ count
  pub within : (b : ℕ) → slice_index_or heads b 0 ≤ count
  pub back : (j : ℕ) → j < count → slice_index_or next j 0 ≤ j
  pub first : (i : ℕ) → i < count → i < slice_index_or heads (place_in (length heads) (hash_at hashes i)) 0
  pub later : (i j : ℕ) → i < j → j < count → place_in (length heads) (hash_at hashes i) ≡ place_in (length heads) (hash_at hashes j) →
      i < slice_index_or next j 0
  pub at_head : (i b : ℕ) → slice_index_or heads b 0 ≡ i + 1 → place_in (length heads) (hash_at hashes i) ≡ b
  pub at_next : (i j : ℕ) → j < count → slice_index_or next j 0 ≡ i + 1 →
      place_in (length heads) (hash_at hashes i) ≡ place_in (length heads) (hash_at hashes j)

-- it is of these rows
pub record IsIndexOf (rows : List (List ℕ)) (index : Index) : Type 0 where
  pub hashes : index.hashes.items ≡ map (hash_from 0) rows
  pub places : IsIndexed index.hashes.items (length rows) index.heads.items index.next.items

-- of these and one more
abbrev pub IsIndexOfMore : List (List ℕ) → List ℕ → Index → Type 0
IsIndexOfMore rows row index = IsIndexOf (rows ++ row ∷ []) index
