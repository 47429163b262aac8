-- What strict reading does not look at: links, status bytes, and which other job an owner is. (This profile)
use Rattle.std.specs.Prelude.{◌≡◌, ℕ, ◌≤◌, ◌==◌, false, List, ◌∷◌}
use Rattle.cb_meaning.specs.declared.layout.Layout.{Layout}
use Rattle.cb_meaning.specs.Fields.{field, number_at}
use Rattle.cb_meaning.specs.Spelled.{Records}
use Rattle.cb_meaning.specs.Walks.{first_fault, is_free}
use Rattle.world_meaning.specs.Records.{AgreeBut, IsQueueLayout, open_fields}

-- The same bytes but for what is open and for the owner, who is a job in both or in none.
pub record AreReadAlike (l : Layout) (job : ℕ) (r s : List ℕ) : Type 0 where
  pub bytes : AgreeBut (field 2 2 ∷ open_fields l r) r s
  pub owner : (number_at s (field 2 2) == job) ≡ (number_at r (field 2 2) == job)

-- Records of which the same are free, and those in use are read alike.
pub record AreAlikeFor (l : Layout) (job : ℕ) (old new : Records) : Type 0 where
  pub free : (n : ℕ) → 1 ≤ n → n ≤ l.most_records → is_free new n ≡ is_free old n
  pub used : (n : ℕ) → 1 ≤ n → n ≤ l.most_records → is_free old n ≡ false → AreReadAlike l job (old.at n) (new.at n)

-- Strict reading tells the same of a job in them.
abbrev pub FirstFaultStays : Type 0
FirstFaultStays = (l : Layout) (units job n : ℕ) (old new : Records) → IsQueueLayout l → AreAlikeFor l job old new →
    first_fault l units new job n ≡ first_fault l units old job n
