-- The fields of a record of the queue: 176 bytes. A number has its highest byte first, and a name is filled with blanks. (This profile)
use Rattle.std.specs.Prelude.{ℕ, ◌+◌, ◌-◌, ◌*◌, ◌/◌, ◌%◌, Bool, true, ◌&&◌, ◌||◌, ◌==◌, nat_le, nat_lt, List, [], ◌∷◌, ◌++◌, take, drop, length, fold, replicate, slice_index, Option, Some, None}
use Rattle.std.specs.List.{list_any}
use Rattle.cb_meaning.specs.declared.layout.Field.{Field}

abbrev pub byte_at : List ℕ → ℕ → ℕ
byte_at r k = slice_index r k

abbrev pub part : List ℕ → ℕ → ℕ → List ℕ
part r at width = take width (drop at r)

abbrev pub number_of : List ℕ → ℕ
number_of bytes = fold (λ n b. n * 256 + b) 0 bytes

abbrev pub number_at : List ℕ → Field → ℕ
number_at r f = number_of (part r f.at f.width)

abbrev pub field : ℕ → ℕ → Field
field at width = record { at = at; width = width }

-- a number of two bytes
abbrev pub two_bytes : ℕ → List ℕ
two_bytes n = n / 256 ∷ n % 256 ∷ []

-- a text, and blanks to the end of its field; one that is absent is blank
abbrev pub filled : ℕ → List ℕ → List ℕ
filled width text = text ++ replicate (width - length text) 32

abbrev pub filled_or_blank : ℕ → Option (List ℕ) → List ℕ
filled_or_blank width None = replicate width 32
filled_or_blank width (Some text) = filled width text

-- what stands first, and zeros to the end of the field
abbrev pub then_zeros : ℕ → List ℕ → List ℕ
then_zeros width bytes = bytes ++ replicate (width - length bytes) 0

-- a record with these bytes from a place on
abbrev pub with_part : List ℕ → ℕ → List ℕ → List ℕ
with_part r at bytes = take at r ++ (bytes ++ drop (at + length bytes) r)

-- every byte but those of these fields is zero
abbrev pub is_in : Field → ℕ → Bool
is_in f k = nat_le f.at k && nat_lt k (f.at + f.width)

abbrev pub zero_from : List Field → ℕ → List ℕ → Bool
zero_from named k [] = true
zero_from named k (b ∷ bytes) = (list_any (λ f. is_in f k) named || b == 0) && zero_from named (k + 1) bytes

abbrev pub is_zero_but : List Field → List ℕ → Bool
is_zero_but named r = zero_from named 0 r
