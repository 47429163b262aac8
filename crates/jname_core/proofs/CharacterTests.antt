-- Tests of characters against what they tell, and the first fault of four.
use Rattle.std.proofs.Common.{◌≡◌, ℕ, Bool, true, false, not, List, [], ◌∷◌, IsTrue, None, refl}
use Rattle.std.proofs.lemmas.Bool.{or_parts, or_from, or_left, not-false, not_from_true}
use Rattle.jname_core.specs.Characters.{is_first, is_digit, is_name_character}
use Rattle.jname_core.specs.Faults.{first_fault, has_other_than}
use Rattle.jname_core.specs.Grammar.{Consists}

-- each character is of the kind where none is of another
pub consists_from_none : (kind : ℕ → Bool) (text : List ℕ) → has_other_than kind text ≡ false → Consists kind text
consists_from_none kind [] h = tt
consists_from_none kind (c ∷ cs) h =
    let p : (not (kind c) ≡ false) × (has_other_than kind cs ≡ false) = or_parts (not (kind c)) (has_other_than kind cs) h in
    (not-false (kind c) p.0, consists_from_none kind cs p.1)

pub none_from_consists : (kind : ℕ → Bool) (text : List ℕ) → Consists kind text → has_other_than kind text ≡ false
none_from_consists kind [] h = refl
none_from_consists kind (c ∷ cs) h =
    or_from (not (kind c)) (has_other_than kind cs) (not_from_true (kind c) h.0) (none_from_consists kind cs h.1)

-- what a name may begin with it may hold, and a component may hold it too
pub name_from_first : (c : ℕ) → IsTrue (is_first c) → IsTrue (is_name_character c)
name_from_first c h = or_left (is_first c) (is_digit c) h

-- no fault is told exactly where none holds
pub first_fault_none : (a b c d : Bool) → first_fault a b c d ≡ None → (a ≡ false) × (b ≡ false) × (c ≡ false) × (d ≡ false)
first_fault_none false false false false h = (refl, refl, refl, refl)
first_fault_none false false false true h = absurd (cc)
first_fault_none false false true d h = absurd (cc)
first_fault_none false true c d h = absurd (cc)
first_fault_none true b c d h = absurd (cc)

pub first_fault_from : (a b c d : Bool) → a ≡ false → b ≡ false → c ≡ false → d ≡ false → first_fault a b c d ≡ None
first_fault_from false false false false ea eb ec ed = refl
first_fault_from false false false true ea eb ec ed = absurd (cc)
first_fault_from false false true d ea eb ec ed = absurd (cc)
first_fault_from false true c d ea eb ec ed = absurd (cc)
first_fault_from true b c d ea eb ec ed = absurd (cc)
