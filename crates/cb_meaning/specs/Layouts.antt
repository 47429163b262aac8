-- Layouts whose fields have no byte in common. (This profile)
use Rattle.std.specs.Prelude.{◌≡◌, ◌+◌, nat_le, Bool, true, ◌&&◌, ◌||◌, List, [], ◌∷◌, ◌++◌}
use Rattle.std.specs.List.{list_all}
use Rattle.cb_meaning.specs.declared.layout.Field.{Field}
use Rattle.cb_meaning.specs.declared.layout.Layout.{Layout}
use Rattle.cb_meaning.specs.Fields.{field}
use Rattle.cb_meaning.specs.Spelled.{common, status_bytes}

-- no two of these fields have a byte in common
abbrev pub is_apart : Field → Field → Bool
is_apart f g = nat_le (f.at + f.width) g.at || nat_le (g.at + g.width) f.at

abbrev pub all_apart : List Field → Bool
all_apart [] = true
all_apart (f ∷ fields) = list_all (λ g. is_apart f g) fields && all_apart fields

-- The fields of a record of each kind that are written one by one.
abbrev pub jct_places : Layout → List Field
jct_places l = common l ++ field 8 1 ∷ field 9 1 ∷ field 10 1 ∷ field 11 1 ∷ l.first_step ∷ l.steps ∷ field 16 8 ∷ field 24 1 ∷ field 26 24 ∷ status_bytes ∷ []

abbrev pub sct_places : Layout → List Field
sct_places l = common l ++ l.next_step ∷ l.first_dd ∷ l.dds ∷ field 14 1 ∷ field 15 1 ∷ field 16 8 ∷ field 24 8 ∷ field 32 8 ∷ field 40 40 ∷ status_bytes ∷ []

abbrev pub siot_places : Layout → List Field
siot_places l = common l ++ l.next_dd ∷ l.below ∷ field 12 1 ∷ field 13 1 ∷ field 14 1 ∷ field 15 1 ∷ field 16 8 ∷ field 24 1 ∷ field 25 1 ∷ l.cards ∷ field 28 1
    ∷ field 30 4 ∷ field 34 2 ∷ field 36 2 ∷ field 38 2 ∷ status_bytes ∷ []

-- a JFCB has no status; none of its fields stands where another record has one
abbrev pub jfcb_places : Layout → List Field
jfcb_places l = common l ++ field 8 1 ∷ field 9 3 ∷ field 12 44 ∷ field 56 6 ∷ field 62 44 ∷ l.expiry_kind ∷ l.expiry_days ∷ status_bytes ∷ []

abbrev pub card_places : Layout → List Field
card_places l = common l ++ l.next_cards ∷ field 10 1 ∷ field 16 160 ∷ []

-- The fields of a record of each kind are apart.
pub record HasOwnFields (l : Layout) : Type 0 where
  pub jct : all_apart (jct_places l) ≡ true
  pub sct : all_apart (sct_places l) ≡ true
  pub siot : all_apart (siot_places l) ≡ true
  pub jfcb : all_apart (jfcb_places l) ≡ true
  pub cards : all_apart (card_places l) ≡ true
