-- Classes of which each has all bits of those before it, or none beside theirs.
use Rattle.std.proofs.Common.{◌≡◌, inl, inr, ◌∙◌, ℕ, Bool, true, false, List, ap, sym}
use Rattle.packed_core.specs.Ways.{AreNested, Leads}
use Rattle.packed_core.specs.Words.{joined_words}
use Rattle.packed_core.proofs.Joining.{joined_assoc, joined_self}

within_on : (a b c : List ℕ) → joined_words a b ≡ b → joined_words b c ≡ c → joined_words a c ≡ c
within_on a b c h g =
    ap (joined_words a) (sym g) ∙ sym (joined_assoc a b c) ∙ ap (λ (l : List ℕ). joined_words l c) h ∙ g

pub leads_itself : (rising : Bool) (a : List ℕ) → Leads rising a a
leads_itself true a = joined_self a
leads_itself false a = joined_self a

pub leads_on : (rising : Bool) (a b c : List ℕ) → Leads rising a b → Leads rising b c → Leads rising a c
leads_on true a b c h g = within_on a b c h g
leads_on false a b c h g = within_on c b a g h

pub nested_by : (rising : Bool) (a b : List ℕ) → Leads rising a b → AreNested b a
nested_by true a b h = inr h
nested_by false a b h = inl h

pub nested_so : (rising : Bool) (a b : List ℕ) → Leads rising a b → AreNested a b
nested_so true a b h = inl h
nested_so false a b h = inr h
