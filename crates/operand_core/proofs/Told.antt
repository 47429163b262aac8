-- the fault that is told of faults one behind another
use Rattle.std.proofs.Common.{◌≡◌, ℕ, ◌+◌, ◌<◌, ◌≤◌, Bool, cond, List, [], ◌∷◌, ◌++◌, length, take, get_or, Option, Some, None, ◌⊎◌, inl, inr, lt-ltb, le-ltb, refl, sym, ap, ◌∙◌, arith}
use Rattle.std.specs.List.{flat_map}
use Rattle.std.proofs.lemmas.List.{take_more, append-nil}
use Rattle.std.proofs.lemmas.Grind.{flat_map-append}
use Rattle.std.proofs.lemmas.Bool.{cases_lt}
use Rattle.jcl_plan.specs.declared.fault.Cause.{Cause}
use Rattle.operand_core.specs.Faults.{rank, lower, earlier, told}

earlier-none : (a : Option Cause) → earlier a None ≡ a
earlier-none None = refl
earlier-none (Some a) = refl

lower-yes : (a b : Cause) → rank b < rank a → lower a b ≡ b
lower-yes a b h = ap (λ (t : Bool). cond t b a) (lt-ltb (rank b) (rank a) h)

lower-no : (a b : Cause) → rank a ≤ rank b → lower a b ≡ a
lower-no a b h = ap (λ (t : Bool). cond t b a) (le-ltb (rank b) (rank a) h)

lower_cases : (a b c : Cause) → (rank b < rank a) ⊎ (rank a ≤ rank b) → (rank c < rank b) ⊎ (rank b ≤ rank c) → lower (lower a b) c ≡ lower a (lower b c)
lower_cases a b c (inl ba) (inl cb) = rw (lower-yes a b ba, lower-yes b c cb, lower-yes a c (omega arith))
lower_cases a b c (inl ba) (inr bc) = rw (lower-yes a b ba, lower-no b c bc, lower-yes a b ba)
lower_cases a b c (inr ab) (inl cb) = rw (lower-no a b ab, lower-yes b c cb)
lower_cases a b c (inr ab) (inr bc) = rw (lower-no a b ab, lower-no b c bc, lower-no a b ab, lower-no a c (omega arith))

lower_assoc : (a b c : Cause) → lower (lower a b) c ≡ lower a (lower b c)
lower_assoc a b c = lower_cases a b c (cases_lt (rank b) (rank a)) (cases_lt (rank c) (rank b))

pub earlier_assoc : (a b c : Option Cause) → earlier (earlier a b) c ≡ earlier a (earlier b c)
earlier_assoc None b c = refl
earlier_assoc (Some a) None c = refl
earlier_assoc (Some a) (Some b) None = refl
earlier_assoc (Some a) (Some b) (Some c) = ap (λ x. Some x) (lower_assoc a b c)

pub told_append : (faults others : List Cause) → told (faults ++ others) ≡ earlier (told faults) (told others)
told_append [] others = refl
told_append (fault ∷ faults) others =
    ap (earlier (Some fault)) (told_append faults others) ∙ sym (earlier_assoc (Some fault) (told faults) (told others))

earlier-some : (a : Cause) (b : Option Cause) → earlier (Some a) b ≡ None → ⊥
earlier-some a None h = cc
earlier-some a (Some b) h = cc

-- where nothing is told there is nothing to tell
pub told-none : (faults : List Cause) → told faults ≡ None → faults ≡ []
told-none [] h = refl
told-none (fault ∷ faults) h = absurd (earlier-some fault (told faults) h)

-- one more of several that each have faults
pub told_flat_map_more : {X : Type 0} (f : X → List Cause) (xs : List X) (i : ℕ) (d : X) → i < length xs →
    told (flat_map f (take (i + 1) xs)) ≡ earlier (told (flat_map f (take i xs))) (told (f (get_or xs i d)))
told_flat_map_more f xs i d lt =
    ap (λ front. told (flat_map f front)) (take_more xs i d lt)
    ∙ ap told (flat_map-append f (take i xs) (get_or xs i d ∷ []))
    ∙ told_append (flat_map f (take i xs)) (flat_map f (get_or xs i d ∷ []))
    ∙ ap (λ faults. earlier (told (flat_map f (take i xs))) (told faults)) (append-nil (f (get_or xs i d)))

-- two lists of faults one behind the other, by what is told of each
pub told_joined : (xs ys : List Cause) {a b r : Option Cause} → a ≡ told xs → b ≡ told ys → r ≡ earlier a b → r ≡ told (xs ++ ys)
told_joined xs ys {a} {b} a_is b_is r_is = r_is ∙ ap (λ x. earlier x b) a_is ∙ ap (earlier (told xs)) b_is ∙ sym (told_append xs ys)
