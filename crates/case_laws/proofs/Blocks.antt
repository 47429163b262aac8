-- The first want in conflict and its lowest holder.
use Rattle.std.proofs.Common.{◌≡◌, ◌≤◌, ◌<◌, ◌⊎◌, inl, inr, ℕ, Bool, true, false, List, [], ◌∷◌, All, arith, refl, sym, ap, ◌∙◌, subst}
use Rattle.std.specs.Prelude.{◌&&◌, ◌||◌, ◌==◌}
use Rattle.std.specs.List.{list_any}
use Rattle.std.proofs.lemmas.Bool.{and_from, and_parts, cases_Bool, cases_lt, eq-eqb, eqb-true, or_cases}
use Rattle.std.proofs.lemmas.List.Elements.{All-cons, All-head, All-nil, All-tail, All-weaker}
use Rattle.enq_core.specs.declared.table.Blocked.{Blocked}
use Rattle.enq_core.specs.declared.table.Hold.{Hold}
use Rattle.enq_core.specs.declared.table.Want.{Want}
use Rattle.enq_core.specs.Holds.{IsFirstBlock, conflicts, is_blocked}
use Rattle.case_laws.proofs.Firsts.{First, first_or_none, none_and_one, same_first}

-- the lowest job that has a hold of a kind
record Lowest (p : Hold → Bool) (holds : List Hold) (job : ℕ) : Type 0 where
  there : list_any (λ h. p h && h.job == job) holds ≡ true
  least : All (λ h. p h ≡ true → job ≤ h.job) holds

true_or : (b : Bool) → (true || b) ≡ true
true_or true = refl
true_or false = refl

or_true : (b : Bool) → (b || true) ≡ true
or_true true = refl
or_true false = refl

it_first : (p : Hold → Bool) (h : Hold) (hs : List Hold) → p h ≡ true → list_any (λ x. p x && x.job == h.job) (h ∷ hs) ≡ true
it_first p h hs e =
    let here : (p h && h.job == h.job) ≡ true = and_from (p h) (h.job == h.job) e (eq-eqb h.job h.job refl) in
    ap (λ b. b || list_any (λ x. p x && x.job == h.job) hs) here ∙ true_or (list_any (λ x. p x && x.job == h.job) hs)

later_there : (p : Hold → Bool) (h : Hold) (hs : List Hold) (job : ℕ) → list_any (λ x. p x && x.job == job) hs ≡ true →
    list_any (λ x. p x && x.job == job) (h ∷ hs) ≡ true
later_there p h hs job e = ap (λ b. (p h && h.job == job) || b) e ∙ or_true (p h && h.job == job)

both_ways : (b : Bool) → b ≡ false → b ≡ true → ⊥
both_ways b e f = cc

by_job : (p : Hold → Bool) (h : Hold) (hs : List Hold) (job : ℕ) → p h ≡ true → Lowest p hs job → (h.job < job) ⊎ (job ≤ h.job) → (j : ℕ) × Lowest p (h ∷ hs) j
by_job p h hs job e l (inl less) = (
  h.job,
  record {
    there = it_first p h hs e;
    least = All-cons (λ x. p x ≡ true → h.job ≤ x.job) h hs (λ k. omega arith)
        (All-weaker (λ x. p x ≡ true → job ≤ x.job) (λ x. p x ≡ true → h.job ≤ x.job) (λ x least k. let far : job ≤ x.job = least k in omega arith) hs l.least);
  },
)
by_job p h hs job e l (inr more) =
    (job, record { there = later_there p h hs job l.there; least = All-cons (λ x. p x ≡ true → job ≤ x.job) h hs (λ k. more) l.least })

by_test : (p : Hold → Bool) (h : Hold) (hs : List Hold) → (p h ≡ true) ⊎ (p h ≡ false) → (All (λ x. p x ≡ false) hs) ⊎ ((j : ℕ) × Lowest p hs j) →
    (All (λ x. p x ≡ false) (h ∷ hs)) ⊎ ((j : ℕ) × Lowest p (h ∷ hs) j)
by_test p h hs (inl e) (inl none) = inr (
  h.job,
  record {
    there = it_first p h hs e;
    least = All-cons (λ x. p x ≡ true → h.job ≤ x.job) h hs (λ k. omega arith)
        (All-weaker (λ x. p x ≡ false) (λ x. p x ≡ true → h.job ≤ x.job) (λ x isnt is_so. absurd (both_ways (p x) isnt is_so)) hs none);
  },
)
by_test p h hs (inl e) (inr (job, l)) = inr (by_job p h hs job e l (cases_lt h.job job))
by_test p h hs (inr e) (inl none) = inl (All-cons (λ x. p x ≡ false) h hs e none)
by_test p h hs (inr e) (inr (job, l)) = inr (
  job,
  record {
    there = later_there p h hs job l.there;
    least = All-cons (λ x. p x ≡ true → job ≤ x.job) h hs (λ k. absurd (both_ways (p h) e k)) l.least;
  },
)

lowest_or_none : (p : Hold → Bool) (holds : List Hold) → (All (λ x. p x ≡ false) holds) ⊎ ((j : ℕ) × Lowest p holds j)
lowest_or_none p [] = inl (All-nil (λ x. p x ≡ false))
lowest_or_none p (h ∷ hs) = by_test p h hs (cases_Bool (p h)) (lowest_or_none p hs)

any_of_none : (p : Hold → Bool) (holds : List Hold) → All (λ x. p x ≡ false) holds → list_any p holds ≡ false
any_of_none p [] all = refl
any_of_none p (h ∷ hs) all =
    ap (λ b. b || list_any p hs) (All-head (λ x. p x ≡ false) h hs all) ∙ any_of_none p hs (All-tail (λ x. p x ≡ false) h hs all)

-- wants
abbrev pub Free : List Hold → Want → Type 0
Free holds want = is_blocked holds want ≡ false

abbrev Taken : List Hold → Want → Type 0
Taken holds want = is_blocked holds want ≡ true

free_or_taken : (holds : List Hold) (want : Want) → (is_blocked holds want ≡ true) ⊎ (is_blocked holds want ≡ false) → Free holds want ⊎ Taken holds want
free_or_taken holds want (inl e) = inr e
free_or_taken holds want (inr e) = inl e

holder_of : (holds : List Hold) (wants : List Want) (f : First (Free holds) (Taken holds) wants) →
    (All (λ x. conflicts f.it x ≡ false) holds) ⊎ ((j : ℕ) × Lowest (conflicts f.it) holds j) → (by : Blocked) × IsFirstBlock holds wants by
holder_of holds wants f (inl none) = absurd (both_ways (is_blocked holds f.it) (any_of_none (conflicts f.it) holds none) f.is_it)
holder_of holds wants f (inr (job, l)) = (
  record { job = job; name = f.it.name },
  record {
    before = f.before;
    want = f.it;
    behind = f.after;
    stands = f.stands;
    free = f.none_before;
    name = refl;
    holder = l.there;
    lowest = l.least;
  },
)

by_wants : (holds : List Hold) (wants : List Want) → (All (Free holds) wants) ⊎ First (Free holds) (Taken holds) wants →
    (All (Free holds) wants) ⊎ ((by : Blocked) × IsFirstBlock holds wants by)
by_wants holds wants (inl free) = inl free
by_wants holds wants (inr f) = inr (holder_of holds wants f (lowest_or_none (conflicts f.it) holds))

pub free_or_blocked : (holds : List Hold) (wants : List Want) → (All (Free holds) wants) ⊎ ((by : Blocked) × IsFirstBlock holds wants by)
free_or_blocked holds wants =
    by_wants holds wants (first_or_none (Free holds) (Taken holds) (λ want. free_or_taken holds want (cases_Bool (is_blocked holds want))) wants)

wider_by : (p q : Hold → Bool) (h : Hold) (hs : List Hold) → (p h ≡ true → q h ≡ true) → (list_any p hs ≡ true → list_any q hs ≡ true) →
    (p h ≡ true) ⊎ (list_any p hs ≡ true) →
    list_any q (h ∷ hs) ≡ true
wider_by p q h hs first rest (inl here) = ap (λ b. b || list_any q hs) (first here) ∙ true_or (list_any q hs)
wider_by p q h hs first rest (inr there) = ap (λ b. q h || b) (rest there) ∙ or_true (q h)

any_wider : (p q : Hold → Bool) → ((h : Hold) → p h ≡ true → q h ≡ true) → (holds : List Hold) → list_any p holds ≡ true → list_any q holds ≡ true
any_wider p q wider [] e = absurd cc
any_wider p q wider (h ∷ hs) e = wider_by p q h hs (wider h) (any_wider p q wider hs) (or_cases (p h) (list_any p hs) e)

least_by : (p : Hold → Bool) (h : Hold) (i j : ℕ) (rest : Bool) → (p h ≡ true → i ≤ h.job) → (rest ≡ true → i ≤ j) →
    ((p h && h.job == j) ≡ true) ⊎ (rest ≡ true) → i ≤ j
least_by p h i j rest first more (inl here) =
    let low : i ≤ h.job = first (and_parts (p h) (h.job == j) here).0 in
    let same : h.job ≡ j = eqb-true h.job j (and_parts (p h) (h.job == j) here).1 in
    omega arith
least_by p h i j rest first more (inr there) = more there

least_of : (p : Hold → Bool) (holds : List Hold) (i j : ℕ) → All (λ h. p h ≡ true → i ≤ h.job) holds → list_any (λ h. p h && h.job == j) holds ≡ true → i ≤ j
least_of p [] i j all e = absurd cc
least_of p (h ∷ hs) i j all e =
    least_by p h i j (list_any (λ x. p x && x.job == j) hs) (All-head (λ x. p x ≡ true → i ≤ x.job) h hs all)
    (least_of p hs i j (All-tail (λ x. p x ≡ true → i ≤ x.job) h hs all)) (or_cases (p h && h.job == j) (list_any (λ x. p x && x.job == j) hs) e)

taken_by : (holds : List Hold) (wants : List Want) (by : Blocked) (b : IsFirstBlock holds wants by) → Taken holds b.want
taken_by holds wants by b =
    any_wider (λ h. conflicts b.want h && h.job == by.job) (conflicts b.want) (λ h e. (and_parts (conflicts b.want h) (h.job == by.job) e).0) holds b.holder

pub not_both : (holds : List Hold) (wants : List Want) (by : Blocked) → All (Free holds) wants → IsFirstBlock holds wants by → ⊥
not_both holds wants by free b =
    none_and_one (Free holds) (Taken holds) (λ want. both_ways (is_blocked holds want)) b.before b.behind b.want (subst (All (Free holds)) b.stands free)
    (taken_by holds wants by b)

pub same_block : (holds : List Hold) (wants : List Want) (by other : Blocked) → IsFirstBlock holds wants by → IsFirstBlock holds wants other → by ≡ other
same_block holds wants by other b c =
    let one : b.want ≡ c.want = same_first (Free holds) (Taken holds) (λ want. both_ways (is_blocked holds want)) b.before c.before b.behind c.behind
    b.want c.want
    (sym b.stands ∙ c.stands) b.free c.free (taken_by holds wants by b) (taken_by holds wants other c) in
    let up : by.job ≤ other.job = least_of (conflicts b.want) holds by.job other.job b.lowest
    (subst (λ (want : Want). list_any (λ h. conflicts want h && h.job == other.job) holds ≡ true) (sym one) c.holder) in
    let down : other.job ≤ by.job = least_of (conflicts c.want) holds other.job by.job c.lowest
    (subst (λ (want : Want). list_any (λ h. conflicts want h && h.job == by.job) holds ≡ true) one b.holder) in
    let jobs : by.job ≡ other.job = omega arith in
    let names : by.name ≡ other.name = sym b.name ∙ ap (λ (want : Want). want.name) one ∙ c.name in
    λ i. record { job = jobs i; name = names i }
