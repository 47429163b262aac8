-- The first job of a class, and of several.
use Rattle.std.proofs.Common.{◌≡◌, ◌≢◌, ◌≤◌, ◌<◌, ◌⊎◌, inl, inr, ℕ, List, [], ◌∷◌, All, arith, sym, ◌∙◌, subst}
use Rattle.std.specs.List.{Contains}
use Rattle.std.proofs.lemmas.Bool.{cases_eq, cases_lt, cases_order}
use Rattle.std.proofs.lemmas.List.Elements.{All-cons, All-contains, All-nil, All-weaker, Contains-append_left, Contains-append_right, Contains-push}
use Rattle.world_meaning.specs.Worlds.{Waiting}
use Rattle.world_meaning.specs.Selections.{HasNone, IsFirst, IsSelected}
use Rattle.case_laws.proofs.Firsts.{First, first_or_none, none_and_one, same_first}

-- a class that has a job has a first one
abbrev pub Best : List Waiting → ℕ → Type 0
Best waiting class = (w : Waiting) × IsFirst waiting class w

abbrev NotAbove : ℕ → Waiting → Waiting → Type 0
NotAbove class w x = x.class ≡ class → x.priority ≤ w.priority

abbrev NotBefore : ℕ → Waiting → Waiting → Type 0
NotBefore class w x = x.class ≡ class → x.priority ≡ w.priority → w.job ≤ x.job

it_is_there : (x : Waiting) (xs : List Waiting) → Contains (x ∷ xs) x
it_is_there x xs = Contains-append_left (x ∷ []) xs x (Contains-push [] x)

alone : (class : ℕ) (x : Waiting) (xs : List Waiting) → x.class ≡ class → HasNone xs class → IsFirst (x ∷ xs) class x
alone class x xs e none = record {
  contained = it_is_there x xs;
  of_class = e;
  highest = All-cons (NotAbove class x) x xs (λ h. omega arith) (All-weaker (λ y. y.class ≢ class) (NotAbove class x)
      (λ y isnt is_so. absurd (isnt is_so)) xs none);
  earliest = All-cons (NotBefore class x) x xs (λ h k. omega arith) (All-weaker (λ y. y.class ≢ class) (NotBefore class x)
      (λ y isnt is_so. absurd (isnt is_so)) xs none);
}

-- a job that stands before the others, and the best of them
stays : (class : ℕ) (x : Waiting) (xs : List Waiting) (w : Waiting) → IsFirst xs class w → NotAbove class w x → NotBefore class w x → IsFirst (x ∷ xs) class w
stays class x xs w b above before = record {
  contained = Contains-append_right (x ∷ []) xs w b.contained;
  of_class = b.of_class;
  highest = All-cons (NotAbove class w) x xs above b.highest;
  earliest = All-cons (NotBefore class w) x xs before b.earliest;
}

beats : (class : ℕ) (x : Waiting) (xs : List Waiting) (w : Waiting) → IsFirst xs class w → x.class ≡ class → w.priority < x.priority → IsFirst (x ∷ xs) class x
beats class x xs w b e more = record {
  contained = it_is_there x xs;
  of_class = e;
  highest = All-cons (NotAbove class x) x xs (λ h. omega arith)
      (All-weaker (NotAbove class w) (NotAbove class x) (λ y h k. let below : y.priority ≤ w.priority = h k in omega arith) xs b.highest);
  earliest = All-cons (NotBefore class x) x xs (λ h k. omega arith)
      (All-weaker (NotAbove class w) (NotBefore class x) (λ y h k same. let below : y.priority ≤ w.priority = h k in omega arith) xs b.highest);
}

goes_before : (class : ℕ) (x : Waiting) (xs : List Waiting) (w : Waiting) → IsFirst xs class w → x.class ≡ class → x.priority ≡ w.priority → x.job ≤ w.job →
    IsFirst (x ∷ xs) class x
goes_before class x xs w b e same less = record {
  contained = it_is_there x xs;
  of_class = e;
  highest = All-cons (NotAbove class x) x xs (λ h. omega arith)
      (All-weaker (NotAbove class w) (NotAbove class x) (λ y h k. let below : y.priority ≤ w.priority = h k in omega arith) xs b.highest);
  earliest = All-cons (NotBefore class x) x xs (λ h k. omega arith)
      (All-weaker (NotBefore class w) (NotBefore class x) (λ y h k l. let behind : w.job ≤ y.job = h k (l ∙ same) in omega arith) xs b.earliest);
}

by_job : (class : ℕ) (x : Waiting) (xs : List Waiting) (w : Waiting) → IsFirst xs class w → x.class ≡ class → x.priority ≡ w.priority →
    (x.job < w.job) ⊎ (w.job ≤ x.job) →
    Best (x ∷ xs) class
by_job class x xs w b e same (inl less) = (x, goes_before class x xs w b e same (omega arith))
by_job class x xs w b e same (inr more) = (w, stays class x xs w b (λ h. omega arith) (λ h k. more))

by_priority : (class : ℕ) (x : Waiting) (xs : List Waiting) (w : Waiting) → IsFirst xs class w → x.class ≡ class →
    (x.priority ≡ w.priority) ⊎ ((x.priority < w.priority) ⊎ (w.priority < x.priority)) → Best (x ∷ xs) class
by_priority class x xs w b e (inl same) = by_job class x xs w b e same (cases_lt x.job w.job)
by_priority class x xs w b e (inr (inl less)) = (w, stays class x xs w b (λ h. omega arith) (λ h k. absurd (omega arith)))
by_priority class x xs w b e (inr (inr more)) = (x, beats class x xs w b e more)

by_class : (class : ℕ) (x : Waiting) (xs : List Waiting) → (x.class ≡ class) ⊎ (x.class ≡ class → ⊥) → HasNone xs class ⊎ Best xs class →
    HasNone (x ∷ xs) class ⊎ Best (x ∷ xs) class
by_class class x xs (inl e) (inl none) = inr (x, alone class x xs e none)
by_class class x xs (inl e) (inr (w, b)) = inr (by_priority class x xs w b e (cases_order x.priority w.priority))
by_class class x xs (inr isnt) (inl none) = inl (All-cons (λ y. y.class ≢ class) x xs isnt none)
by_class class x xs (inr isnt) (inr (w, b)) = inr (w, stays class x xs w b (λ h. absurd (isnt h)) (λ h k. absurd (isnt h)))

pub best_or_none : (waiting : List Waiting) (class : ℕ) → HasNone waiting class ⊎ Best waiting class
best_or_none [] class = inl (All-nil (λ y. y.class ≢ class))
best_or_none (x ∷ xs) class = by_class class x xs (cases_eq x.class class) (best_or_none xs class)

-- the first of several classes
by_classes : (waiting : List Waiting) (classes : List ℕ) → (All (HasNone waiting) classes) ⊎ First (HasNone waiting) (Best waiting) classes →
    (All (HasNone waiting) classes) ⊎ ((w : Waiting) × IsSelected waiting classes w)
by_classes waiting classes (inl none) = inl none
by_classes waiting classes (inr f) =
    inr (f.is_it.0, record { before = f.before; class = f.it; after = f.after; stands = f.stands; none_before = f.none_before; first = f.is_it.1 })

pub selected_or_none : (waiting : List Waiting) (classes : List ℕ) → (All (HasNone waiting) classes) ⊎ ((w : Waiting) × IsSelected waiting classes w)
selected_or_none waiting classes = by_classes waiting classes (first_or_none (HasNone waiting) (Best waiting) (best_or_none waiting) classes)

clash : (waiting : List Waiting) (class : ℕ) → HasNone waiting class → Best waiting class → ⊥
clash waiting class none (w, b) = All-contains (λ y. y.class ≢ class) waiting w none b.contained b.of_class

pub not_both : (waiting : List Waiting) (classes : List ℕ) (w : Waiting) → All (HasNone waiting) classes → IsSelected waiting classes w → ⊥
not_both waiting classes w none s =
    none_and_one (HasNone waiting) (Best waiting) (clash waiting) s.before s.after s.class (subst (All (HasNone waiting)) s.stands none) (w, s.first)

-- the job that is selected is one
same_best : (waiting : List Waiting) (class : ℕ) (w v : Waiting) → IsFirst waiting class w → IsFirst waiting class v → w.job ≡ v.job
same_best waiting class w v b c =
    let up : w.priority ≤ v.priority = All-contains (NotAbove class v) waiting w c.highest b.contained b.of_class in
    let down : v.priority ≤ w.priority = All-contains (NotAbove class w) waiting v b.highest c.contained c.of_class in
    let one : w.priority ≡ v.priority = omega arith in
    let before : v.job ≤ w.job = All-contains (NotBefore class v) waiting w c.earliest b.contained b.of_class one in
    let behind : w.job ≤ v.job = All-contains (NotBefore class w) waiting v b.earliest c.contained c.of_class (sym one) in
    omega arith

pub same_job : (waiting : List Waiting) (classes : List ℕ) (w v : Waiting) → IsSelected waiting classes w → IsSelected waiting classes v → w.job ≡ v.job
same_job waiting classes w v s t =
    let one : s.class ≡ t.class = same_first (HasNone waiting) (Best waiting) (clash waiting) s.before t.before s.after t.after s.class t.class
    (sym s.stands ∙ t.stands) s.none_before t.none_before (w, s.first) (v, t.first) in
    same_best waiting t.class w v (subst (λ (c : ℕ). IsFirst waiting c w) one s.first) t.first
