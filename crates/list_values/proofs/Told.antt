-- which fault of several is told
use Rattle.std.proofs.Common.{◌≡◌, Bool, true, false, cond, ◌||◌, nat_lt, List, [], ◌∷◌, Option, Some, None, Ok, Err, refl, ap, ◌∙◌}
use Rattle.std.specs.List.{flat_map, list_any}
use Rattle.jcl_plan.specs.declared.fault.Cause.{Cause}
use Rattle.operand_core.specs.Faults.{earlier, lower, or_fault, rank, told, when}
use Rattle.operand_core.proofs.Told.{told_append}

pub ok_told : {A : Type 0} (f : Option Cause) (x y : A) → Ok y ≡ or_fault f x → (f ≡ None) × (y ≡ x)
ok_told None x y h = (refl, cc)
ok_told (Some fault) x y h = absurd (cc)

pub err_told : {A : Type 0} (f : Option Cause) (x : A) (e : Cause) → Err e ≡ or_fault f x → f ≡ Some e
err_told None x e h = absurd (cc)
err_told (Some fault) x e h = cc

pub earlier-some : (a : Option Cause) (b : Cause) → earlier a (Some b) ≡ None → ⊥
earlier-some None b h = cc
earlier-some (Some a) b h = cc

pub first-none : (a b : Option Cause) → earlier a b ≡ None → a ≡ None
first-none None b h = refl
first-none (Some a) None h = h
first-none (Some a) (Some b) h = absurd (cc)

pub second-none : (a b : Option Cause) → earlier a b ≡ None → b ≡ None
second-none None b h = h
second-none (Some a) None h = refl
second-none (Some a) (Some b) h = absurd (cc)

-- a fault that is told once is told of each that has it
same_lower : (fault : Cause) → lower fault fault ≡ fault
same_lower fault = either (nat_lt (rank fault) (rank fault))
  where
    either : (b : Bool) → cond b fault fault ≡ fault
    either true = refl
    either false = refl

pub told_once : {X : Type 0} (p : X → Bool) (fault : Cause) (xs : List X) → told (flat_map (λ x. when (p x) fault) xs) ≡ told (when (list_any p xs) fault)
told_once p fault [] = refl
told_once p fault (x ∷ xs) = told_append (when (p x) fault) (flat_map (λ y. when (p y) fault) xs) ∙ ap (earlier (told (when (p x) fault))) (told_once p fault xs) ∙ either (p x) (list_any p xs)
  where
    either : (a b : Bool) → earlier (told (when a fault)) (told (when b fault)) ≡ told (when (a || b) fault)
    either false b = refl
    either true false = refl
    either true true = ap (λ f. Some f) (same_lower fault)
