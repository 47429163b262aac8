-- places one by one, and what is told of them
use Rattle.std.proofs.Common.{◌≡◌, ℕ, List, [], ◌∷◌, ◌++◌, Option, Some, None, is_some, nat_lt, length, drop, refl, sym, ap, ◌∙◌, arith, Bor, MatchOption, length-drop, lt-ltb, le-ltb}
use Rattle.std.specs.List.{flat_map}
use Rattle.jcl_plan.specs.declared.fault.Cause.{Cause}
use Rattle.operand_core.specs.Faults.{earlier, told}
use Rattle.operand_core.proofs.Told.{earlier_assoc, told_append}
use Rattle.value_core.specs.Dispositions.{place}

-- of one more of several that have faults
pub told_one_more : {X : Type 0} (f : X → List Cause) (fault one : Option Cause) (x : X) (xs : List X) → one ≡ told (f x) →
    earlier (earlier fault one) (told (flat_map f xs)) ≡ earlier fault (told (flat_map f (x ∷ xs)))
told_one_more f fault one x xs is =
    earlier_assoc fault one (told (flat_map f xs))
    ∙ ap (λ a. earlier fault (earlier a (told (flat_map f xs)))) is
    ∙ ap (earlier fault) (sym (told_append (f x) (flat_map f xs)))

pub told_more : (fault one : Option Cause) (xs ys : List Cause) → one ≡ told xs → earlier (earlier fault one) (told ys) ≡ earlier fault (told (xs ++ ys))
told_more fault one xs ys is =
    earlier_assoc fault one (told ys) ∙ ap (λ a. earlier fault (earlier a (told ys))) is ∙ ap (earlier fault) (sym (told_append xs ys))

pub earlier_none : (fault : Option Cause) → earlier fault None ≡ fault
earlier_none None = refl
earlier_none (Some fault) = refl

pub second_place : (places : List (List ℕ)) → place (drop 1 places) 0 ≡ place places 1
second_place [] = refl
second_place (a ∷ places) = refl

pub third_place : (places : List (List ℕ)) → place (drop 1 (drop 1 places)) 0 ≡ place places 2
third_place [] = refl
third_place (a ∷ []) = refl
third_place (a ∷ b ∷ places) = refl

pub has_fourth : (places left behind : List (List ℕ)) (next : Option (Bor (List ℕ))) → left ≡ drop 1 (drop 1 (drop 1 places)) →
    MatchOption next ((left ≡ []) × (behind ≡ [])) (λ p. left ≡ p.now ∷ behind) → is_some next ≡ nat_lt 3 (length places)
has_fourth places left behind None is h =
    sym (le-ltb 3 (length places) (omega (arith, ap length h.0, ap length is, length-drop {A = List ℕ})))
has_fourth places left behind (Some p) is h =
    sym (lt-ltb 3 (length places) (omega (arith, ap length h, ap length is, length-drop {A = List ℕ})))
