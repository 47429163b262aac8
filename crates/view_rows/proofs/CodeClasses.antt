-- Classes of tests whose codes are told by computation.
use Rattle.std.proofs.Common.{◌≡◌, ℕ, ◌≤◌, ◌&&◌, Bool, true, List, [], ◌∷◌, All, Contains, nat_eq, nat_lt, nat_le, get_or, arith}
use Rattle.std.specs.List.{AllByRecursion, list_all, list_any}
use Rattle.std.specs.List.Sorted.{IsStrictlySortedBy}
use Rattle.std.specs.Ordering.{nat_cmp}
use Rattle.std.specs.declared.cmp.Ordering.TheVariants.{Less}
use Rattle.std.proofs.lemmas.Bool.{and_parts, eqb-true, leb-true}
use Rattle.std.proofs.lemmas.List.Elements.{All-cons, All-contains, All-head, All-nil, All-tail}
use Rattle.std.proofs.lemmas.List.Sums.{AllPass-from_list_all}
use Rattle.std.proofs.lemmas.Map.Keys.{IsStrictlyIncreasing-from_sorted}
use Rattle.std.proofs.lemmas.Map.Views.{Contains-from_any}
use Rattle.cond_core.specs.Breaks.{starts_of}
use Rattle.cond_core.specs.Classes.{AreClasses, IsInClass}
use Rattle.cond_core.proofs.Intervals.{classes_of_starts}
use Rattle.jcl_plan.specs.declared.plan.Test.{Test}
use Rattle.view_rows.specs.CodeClasses.{greatest_below}

abbrev pub rises : List ℕ → Bool
rises [] = true
rises (x ∷ xs) = list_all (λ y. nat_lt x y) xs && rises xs

abbrev pub has_all : List ℕ → List ℕ → Bool
has_all xs ys = list_all (λ y. list_any (nat_eq y) xs) ys

below_each : (x : ℕ) (ys : List ℕ) → list_all (λ y. nat_lt x y) ys ≡ true → AllByRecursion (λ y. nat_cmp x y ≡ Less) ys
below_each x [] h = tt
below_each x (y ∷ ys) h = let p = and_parts (nat_lt x y) (list_all (λ z. nat_lt x z) ys) h in (rw p.0, below_each x ys p.1)

sorted_from : (xs : List ℕ) → rises xs ≡ true → IsStrictlySortedBy nat_cmp xs
unfolding IsStrictlySortedBy
sorted_from [] h = tt
sorted_from (x ∷ xs) h = let p = and_parts (list_all (λ y. nat_lt x y) xs) (rises xs) h in (below_each x xs p.0, sorted_from xs p.1)

kept : (xs ys : List ℕ) → has_all xs ys ≡ true → (c : ℕ) → Contains ys c → Contains xs c
kept xs ys h c there =
    let passed : list_any (nat_eq c) xs ≡ true = All-contains (λ y. list_any (nat_eq y) xs ≡ true) ys c (AllPass-from_list_all (λ y. list_any (nat_eq y) xs) ys h) there in
    Contains-from_any eqb-true c xs passed

pub classes_from : (tests : List Test) (least : List ℕ) → rises least ≡ true → has_all least (starts_of tests) ≡ true →
    has_all (starts_of tests) least ≡ true → list_all (λ r. nat_le r 4095) least ≡ true → AreClasses tests least
classes_from tests least rise all only codes =
    classes_of_starts tests least (IsStrictlyIncreasing-from_sorted least (sorted_from least rise)) (kept least (starts_of tests) all)
    (kept (starts_of tests) least only) (λ k d p. leb-true (get_or least k d) 4095 (AllPass-from_list_all (λ r. nat_le r 4095) least codes k d p))

no_less : (code least : ℕ) (reps : List ℕ) → All (λ r. r ≤ code → r ≤ least) reps → greatest_below code reps ≤ least
no_less code least [] h = omega arith
no_less code least (r ∷ rs) h =
    let more = no_less code least rs (All-tail (λ r. r ≤ code → r ≤ least) r rs h) in
    let here = All-head (λ r. r ≤ code → r ≤ least) r rs h in
    grind (arith, more, here)

above_each : (code : ℕ) (reps : List ℕ) → All (λ r. r ≤ code → r ≤ greatest_below code reps) reps
above_each code [] = All-nil (λ r. r ≤ code → r ≤ greatest_below code [])
above_each code (r ∷ rs) =
    All-cons (λ x. x ≤ code → x ≤ greatest_below code (r ∷ rs)) r rs (λ low. grind (arith, low))
    (λ k d p low. let h : get_or rs k d ≤ greatest_below code rs = above_each code rs k d p low in grind (arith, h))

pub class_is_greatest_below : (representatives : List ℕ) (least code : ℕ) → IsInClass representatives least code → least ≡ greatest_below code representatives
class_is_greatest_below reps least code h =
    let low : greatest_below code reps ≤ least = no_less code least reps h.none_between in
    let high : least ≤ greatest_below code reps = All-contains (λ r. r ≤ code → r ≤ greatest_below code reps) reps least (above_each code reps) h.begun h.from_least in
    omega (arith, low, high)
