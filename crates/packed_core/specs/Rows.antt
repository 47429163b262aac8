-- Rows of words.
use Rattle.std.specs.Prelude.{◌≡◌, ◌<◌, ℕ, Bool, false, List, [], Option, None, Some, length, slice_get, slice_index_or, nat_eq, Vec}
use Rattle.std.specs.Global.{Global}
use Rattle.std.specs.Cmp.Lexicographic.{pointwise}
use Rattle.std.specs.List.{list_any}

-- a row's words
abbrev pub items_of : Vec ℕ Global → List ℕ
items_of v = v.items

abbrev pub same_words : List ℕ → List ℕ → Bool
same_words a b = pointwise nat_eq a b

abbrev pub has_row : List ℕ → List (List ℕ) → Bool
has_row row rows = list_any (same_words row) rows

abbrev pub row_at : List (List ℕ) → ℕ → List ℕ
row_at rows n = slice_index_or rows n []

-- each row has so many words
abbrev pub AreAsLong : List (List ℕ) → ℕ → Type 0
AreAsLong rows width = (n : ℕ) → n < length rows → length (row_at rows n) ≡ width

-- a row's number, or that it is not among these
abbrev pub IsFound : List (List ℕ) → List ℕ → Option ℕ → Type 0
IsFound rows row None = has_row row rows ≡ false
IsFound rows row (Some n) = slice_get rows n ≡ Some row
