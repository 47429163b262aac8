-- Jobs that may run together.
use Rattle.std.proofs.Common.{◌≡◌, ℕ, Bool, true, false, cond, List, refl, rules, sym, ap, ◌∙◌, subst}
use Rattle.std.specs.Prelude.{not, ◌||◌}
use Rattle.std.specs.List.{Contains, list_all}
use Rattle.std.specs.Str.{bytes_eq}
use Rattle.std.proofs.lemmas.List.Elements.{All-contains, All-contains_itself, All-weaker}
use Rattle.std.proofs.lemmas.List.Sums.{AllPass-from_list_all, list_all-from_AllPass}
use Rattle.std.proofs.lemmas.Slice.Eq.{bytes_eq-Decides}
use Rattle.jcl_plan.specs.declared.plan.JobPlan.{JobPlan}
use Rattle.jcl_meaning.specs.declared.names.HeldName.{HeldName}
use Rattle.jcl_meaning.specs.Names.{IsCompatible, agree, names_of}

-- the names of the two agree, one by one
agreeing : (xs ys : List HeldName) (a b : HeldName) → list_all (λ x. list_all (agree x) ys) xs ≡ true → Contains xs a → Contains ys b → agree a b ≡ true
agreeing xs ys a b all in_xs in_ys =
    let inner : list_all (agree a) ys ≡ true =
    All-contains (λ x. list_all (agree x) ys ≡ true) xs a (AllPass-from_list_all (λ x. list_all (agree x) ys) xs all) in_xs in
    All-contains (λ y. agree a y ≡ true) ys b (AllPass-from_list_all (agree a) ys inner) in_ys

pub from_each : (p : HeldName → Bool) (xs : List HeldName) → ((x : HeldName) → Contains xs x → p x ≡ true) → list_all p xs ≡ true
from_each p xs each = list_all-from_AllPass p xs (All-weaker (Contains xs) (λ x. p x ≡ true) each xs (All-contains_itself xs))

same_bytes_back : (a b : List ℕ) → bytes_eq a b ≡ bytes_eq b a
same_bytes_back a b = grind (rules, bytes_eq-Decides a b, bytes_eq-Decides b a)

or_back : (x y : Bool) → (x || y) ≡ (y || x)
or_back true true = refl
or_back true false = refl
or_back false true = refl
or_back false false = refl

pub agree_back : (a b : HeldName) → agree a b ≡ agree b a
agree_back a b = λ i. cond (same_bytes_back a.name b.name i) (not (or_back a.exclusive b.exclusive i)) true

pub both_ways : (plan other : JobPlan) → IsCompatible plan other → IsCompatible other plan
both_ways plan other h =
    from_each (λ b. list_all (agree b) (names_of plan)) (names_of other) (λ b in_other.
    from_each (agree b) (names_of plan) (λ a in_plan.
    agree_back b a ∙ agreeing (names_of plan) (names_of other) a b h in_plan in_other))

neither : (x y : Bool) → not (x || y) ≡ true → (x ≡ false) × (y ≡ false)
neither true true h = absurd cc
neither true false h = absurd cc
neither false true h = absurd cc
neither false false h = (refl, refl)

same_bytes : (a : List ℕ) → bytes_eq a a ≡ true
same_bytes a = grind (rules, bytes_eq-Decides a a)

pub shared : (plan other : JobPlan) (a b : HeldName) → IsCompatible plan other → Contains (names_of plan) a → Contains (names_of other) b → a.name ≡ b.name →
    (a.exclusive ≡ false) × (b.exclusive ≡ false)
shared plan other a b h in_plan in_other e =
    let same : bytes_eq a.name b.name ≡ true = subst (λ (n : List ℕ). bytes_eq a.name n ≡ true) e (same_bytes a.name) in
    neither a.exclusive b.exclusive
    (ap (λ (t : Bool). cond t (not (a.exclusive || b.exclusive)) true) (sym same) ∙ agreeing (names_of plan) (names_of other) a b h in_plan in_other)
