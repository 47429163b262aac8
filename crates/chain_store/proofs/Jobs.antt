-- Jobs in the order of reading, and jobs that differ.
use Rattle.std.proofs.Common.{◌≡◌, ◌≢◌, ℕ, suc, ◌+◌, ◌<◌, ◌≤◌, true, false, cond, not, List, [], ◌∷◌, ◌++◌, All, length, arith, ◌∙◌, ap, sym, refl, inl, inr, ◌⊎◌}
use Rattle.std.specs.Prelude.{filter}
use Rattle.std.proofs.lemmas.Bool.{cases_lt, eq-eqb, le-ltb, lt-ltb, ne_eqb}
use Rattle.std.proofs.lemmas.List.Elements.{All-cons, All-head, All-nil, All-same, All-tail}
use Rattle.queue_core.specs.declared.queue.Queued.{Queued}
use Rattle.cb_queue.specs.RecordQueues.{AreInOrder}
use Rattle.chain_store.specs.Chains.{AreDifferentJobs, HasNoJob, is_other, ordered, put_in}

-- what holds of two lists one behind the other
pub all_left : {A : Type 0} (P : A → Type 0) (xs ys : List A) → All P (xs ++ ys) → All P xs
all_left P [] ys all = All-nil P
all_left P (x ∷ xs) ys all = All-cons P x xs (All-head P x (xs ++ ys) all) (all_left P xs ys (All-tail P x (xs ++ ys) all))

pub all_right : {A : Type 0} (P : A → Type 0) (xs ys : List A) → All P (xs ++ ys) → All P ys
all_right P [] ys all = all
all_right P (x ∷ xs) ys all = all_right P xs ys (All-tail P x (xs ++ ys) all)

-- one is put in
pub in_before : (x y : Queued) (ys : List Queued) → x.job < y.job → put_in x (y ∷ ys) ≡ x ∷ (y ∷ ys)
in_before x y ys h = ap (λ b. cond b (x ∷ (y ∷ ys)) (y ∷ put_in x ys)) (lt-ltb x.job y.job h)

pub in_behind : (x y : Queued) (ys : List Queued) → y.job ≤ x.job → put_in x (y ∷ ys) ≡ y ∷ put_in x ys
in_behind x y ys h = ap (λ b. cond b (x ∷ (y ∷ ys)) (y ∷ put_in x ys)) (le-ltb x.job y.job h)

pub all_in : (P : Queued → Type 0) (x : Queued) (ys : List Queued) → P x → All P ys → All P (put_in x ys)
all_in P x [] p all = All-cons P x [] p (All-nil P)
all_in P x (y ∷ ys) p all =
    elim (cases_lt x.job y.job) [
      | inl h ↦ All-same P (put_in x (y ∷ ys)) (x ∷ (y ∷ ys)) (in_before x y ys h) (All-cons P x (y ∷ ys) p all)
      | inr h ↦ All-same P (put_in x (y ∷ ys)) (y ∷ put_in x ys) (in_behind x y ys h)
          (All-cons P y (put_in x ys) (All-head P y ys all) (all_in P x ys p (All-tail P y ys all)))
    ]

all_out : (P : Queued → Type 0) (x : Queued) (ys : List Queued) → All P (put_in x ys) → P x × All P ys
all_out P x [] all = (All-head P x [] all, All-nil P)
all_out P x (y ∷ ys) all =
    elim (cases_lt x.job y.job) [
      | inl h ↦
          (let now = All-same P (x ∷ (y ∷ ys)) (put_in x (y ∷ ys)) (sym (in_before x y ys h)) all in
          (All-head P x (y ∷ ys) now, All-tail P x (y ∷ ys) now))
      | inr h ↦
          (let now = All-same P (y ∷ put_in x ys) (put_in x (y ∷ ys)) (sym (in_behind x y ys h)) all in
          let rest = all_out P x ys (All-tail P y (put_in x ys) now) in
          (rest.0, All-cons P y ys (All-head P y (put_in x ys) now) rest.1))
    ]

pub all_ordered : (P : Queued → Type 0) (xs : List Queued) → All P xs → All P (ordered xs)
all_ordered P [] all = All-nil P
all_ordered P (x ∷ xs) all = all_in P x (ordered xs) (All-head P x xs all) (all_ordered P xs (All-tail P x xs all))

pub all_unordered : (P : Queued → Type 0) (xs : List Queued) → All P (ordered xs) → All P xs
all_unordered P [] all = All-nil P
all_unordered P (x ∷ xs) all = let out = all_out P x (ordered xs) all in All-cons P x xs out.0 (all_unordered P xs out.1)

length_in : (x : Queued) (ys : List Queued) → length (put_in x ys) ≡ suc (length ys)
length_in x [] = refl
length_in x (y ∷ ys) = elim (cases_lt x.job y.job) [ inl h ↦ ap length (in_before x y ys h) | inr h ↦ ap length (in_behind x y ys h) ∙ ap suc (length_in x ys) ]

pub length_ordered : (xs : List Queued) → length (ordered xs) ≡ length xs
length_ordered [] = refl
length_ordered (x ∷ xs) = length_in x (ordered xs) ∙ ap suc (length_ordered xs)

-- one that was read behind all others is put in last
pub put_last : (x : Queued) (ys : List Queued) → All (λ y. y.job < x.job) ys → put_in x ys ≡ ys ++ x ∷ []
put_last x [] later = refl
put_last x (y ∷ ys) later =
    let first : y.job < x.job = All-head (λ z. z.job < x.job) y ys later in
    in_behind x y ys (omega (arith, first)) ∙ ap (λ zs. y ∷ zs) (put_last x ys (All-tail (λ z. z.job < x.job) y ys later))

-- two that differ are put in the one behind the other
pub put_swap : (x y : Queued) (zs : List Queued) → x.job ≢ y.job → put_in x (put_in y zs) ≡ put_in y (put_in x zs)
put_swap x y [] apart =
    elim (cases_lt x.job y.job) [
      | inl h ↦ in_before x y [] h ∙ sym (in_behind y x [] (omega (arith, h)))
      | inr h ↦ in_behind x y [] h ∙ sym (in_before y x [] (omega (arith, h, apart)))
    ]
put_swap x y (z ∷ zs) apart = by (cases_lt x.job z.job) (cases_lt y.job z.job) (put_swap x y zs apart)
  where
    by : ((x.job < z.job) ⊎ (z.job ≤ x.job)) → ((y.job < z.job) ⊎ (z.job ≤ y.job)) → put_in x (put_in y zs) ≡ put_in y (put_in x zs) →
        put_in x (put_in y (z ∷ zs)) ≡ put_in y (put_in x (z ∷ zs))
    by (inl a) (inl b) rest =
        elim (cases_lt x.job y.job) [
          | inl h ↦
              ap (put_in x) (in_before y z zs b) ∙ in_before x y (z ∷ zs) h
              ∙ sym (ap (put_in y) (in_before x z zs a) ∙ in_behind y x (z ∷ zs) (omega (arith, h)) ∙ ap (λ ws. x ∷ ws) (in_before y z zs b))
          | inr h ↦
              ap (put_in x) (in_before y z zs b) ∙ in_behind x y (z ∷ zs) h ∙ ap (λ ws. y ∷ ws) (in_before x z zs a)
              ∙ sym (ap (put_in y) (in_before x z zs a) ∙ in_before y x (z ∷ zs) (omega (arith, h, apart)))
        ]
    by (inl a) (inr b) rest =
        ap (put_in x) (in_behind y z zs b) ∙ in_before x z (put_in y zs) a
        ∙ sym (ap (put_in y) (in_before x z zs a) ∙ in_behind y x (z ∷ zs) (omega (arith, a, b)) ∙ ap (λ ws. x ∷ ws) (in_behind y z zs b))
    by (inr a) (inl b) rest =
        ap (put_in x) (in_before y z zs b) ∙ in_behind x y (z ∷ zs) (omega (arith, a, b)) ∙ ap (λ ws. y ∷ ws) (in_behind x z zs a)
        ∙ sym (ap (put_in y) (in_behind x z zs a) ∙ in_before y z (put_in x zs) b)
    by (inr a) (inr b) rest =
        ap (put_in x) (in_behind y z zs b) ∙ in_behind x z (put_in y zs) a ∙ ap (λ ws. z ∷ ws) rest
        ∙ sym (ap (put_in y) (in_behind x z zs a) ∙ in_behind y z (put_in x zs) b)

pub put_through : (x : Queued) (front back : List Queued) → HasNoJob x.job front → ordered (front ++ x ∷ back) ≡ put_in x (ordered (front ++ back))
put_through x [] back none = refl
put_through x (a ∷ front) back none =
    ap (put_in a) (put_through x front back none.1) ∙ put_swap a x (ordered (front ++ back)) none.0

-- a job that is among some is left out of them
other_is : (job : ℕ) (x : Queued) → x.job ≡ job → is_other job x ≡ false
other_is job x is = ap not (eq-eqb x.job job is)

other_not : (job : ℕ) (x : Queued) → x.job ≢ job → is_other job x ≡ true
other_not job x apart = ap not (ne_eqb x.job job apart)

filter_in : (job : ℕ) (x : Queued) (ys : List Queued) → x.job ≡ job → filter (is_other job) (put_in x ys) ≡ filter (is_other job) ys
filter_in job x [] is = ap (λ b. cond b (x ∷ []) []) (other_is job x is)
filter_in job x (y ∷ ys) is =
    elim (cases_lt x.job y.job) [
      | inl h ↦
          ap (filter (is_other job)) (in_before x y ys h) ∙ ap (λ b. cond b (x ∷ filter (is_other job) (y ∷ ys)) (filter (is_other job) (y ∷ ys))) (other_is job x is)
      | inr h ↦
          ap (filter (is_other job)) (in_behind x y ys h) ∙ ap (λ zs. cond (is_other job y) (y ∷ zs) zs) (filter_in job x ys is)
    ]

pub filter_all : (job : ℕ) (ys : List Queued) → All (λ y. y.job ≢ job) ys → filter (is_other job) ys ≡ ys
filter_all job [] others = refl
filter_all job (y ∷ ys) others =
    ap (λ b. cond b (y ∷ filter (is_other job) ys) (filter (is_other job) ys)) (other_not job y (All-head (λ y. y.job ≢ job) y ys others))
    ∙ ap (λ zs. y ∷ zs) (filter_all job ys (All-tail (λ y. y.job ≢ job) y ys others))

-- no job of a number
pub no_job_all : (job : ℕ) (xs : List Queued) → HasNoJob job xs → All (λ y. y.job ≢ job) xs
no_job_all job [] none = All-nil (λ y. y.job ≢ job)
no_job_all job (x ∷ xs) none = All-cons (λ y. y.job ≢ job) x xs none.0 (no_job_all job xs none.1)

pub all_no_job : (job : ℕ) (xs : List Queued) → All (λ y. y.job ≢ job) xs → HasNoJob job xs
all_no_job job [] all = tt
all_no_job job (x ∷ xs) all = (All-head (λ y. y.job ≢ job) x xs all, all_no_job job xs (All-tail (λ y. y.job ≢ job) x xs all))

no_job_left : (job : ℕ) (front back : List Queued) → HasNoJob job (front ++ back) → HasNoJob job front
no_job_left job [] back none = tt
no_job_left job (a ∷ front) back none = (none.0, no_job_left job front back none.1)

no_job_right : (job : ℕ) (front back : List Queued) → HasNoJob job (front ++ back) → HasNoJob job back
no_job_right job [] back none = none
no_job_right job (a ∷ front) back none = no_job_right job front back none.1

pub no_job_both : (job : ℕ) (front back : List Queued) → HasNoJob job front → HasNoJob job back → HasNoJob job (front ++ back)
no_job_both job [] back a b = b
no_job_both job (x ∷ front) back a b = (a.0, no_job_both job front back a.1 b)

-- one among jobs that differ: the others are not it, and they differ
pub others_differ : (x : Queued) (front back : List Queued) → AreDifferentJobs (front ++ x ∷ back) → HasNoJob x.job (front ++ back) × AreDifferentJobs (front ++ back)
others_differ x [] back all = all
others_differ x (a ∷ front) back all =
    let rest = others_differ x front back all.1 in
    let apart = no_job_right a.job front (x ∷ back) all.0 in
    let left = no_job_left a.job front (x ∷ back) all.0 in
    ((λ is. apart.0 (sym is), rest.0), (no_job_both a.job front back left apart.1, rest.1))

pub one_more_differs : (x : Queued) (front back : List Queued) → HasNoJob x.job (front ++ back) → AreDifferentJobs (front ++ back) → AreDifferentJobs (front ++ x ∷ back)
one_more_differs x [] back none all = (none, all)
one_more_differs x (a ∷ front) back none all =
    let left = no_job_left a.job front back all.0 in
    let right = no_job_right a.job front back all.0 in
    (no_job_both a.job front (x ∷ back) left (λ is. none.0 (sym is), right), one_more_differs x front back none.1 all.1)

-- one that was read behind all others waits too
pub ordered_entered : (x : Queued) (front back : List Queued) → All (λ y. y.job < x.job) (ordered (front ++ back)) → ordered (front ++ x ∷ back) ≡ ordered (front ++ back) ++ x ∷ []
ordered_entered x front back later =
    let each = all_unordered (λ y. y.job < x.job) (front ++ back) later in
    put_through x front back (all_no_job x.job front (later_apart front (all_left (λ y. y.job < x.job) front back each))) ∙ put_last x (ordered (front ++ back)) later
  where
    later_apart : (ys : List Queued) → All (λ y. y.job < x.job) ys → All (λ y. y.job ≢ x.job) ys
    later_apart [] all = All-nil (λ y. y.job ≢ x.job)
    later_apart (y ∷ ys) all =
        let first : y.job < x.job = All-head (λ z. z.job < x.job) y ys all in
        All-cons (λ z. z.job ≢ x.job) y ys (λ is. absurd (omega (arith, first, is))) (later_apart ys (All-tail (λ z. z.job < x.job) y ys all))

-- one waits no longer
pub ordered_left : (x : Queued) (front back : List Queued) → AreDifferentJobs (front ++ x ∷ back) → ordered (front ++ back) ≡ filter (is_other x.job) (ordered (front ++ x ∷ back))
ordered_left x front back all =
    let others = others_differ x front back all in
    sym (ap (filter (is_other x.job)) (put_through x front back (no_job_left x.job front back others.0)) ∙ filter_in x.job x (ordered (front ++ back)) refl
    ∙ filter_all x.job (ordered (front ++ back)) (all_ordered (λ y. y.job ≢ x.job) (front ++ back) (no_job_all x.job (front ++ back) others.0)))

-- jobs in order have different numbers, of which there are so many at most
few_from : (a b : ℕ) (xs : List Queued) → AreInOrder xs → All (λ x. (a ≤ x.job) × (x.job < b)) xs → a ≤ b → length xs + a ≤ b
few_from a b [] order all h = omega (arith, h)
few_from a b (x ∷ xs) order all h =
    let first = All-head (λ x. (a ≤ x.job) × (x.job < b)) x xs all in
    let rest = few_from (x.job + 1) b xs order.1 (both xs order.0 (All-tail (λ x. (a ≤ x.job) × (x.job < b)) x xs all)) (omega (arith, first.1)) in
    omega (arith, first.0, rest)
  where
    both : (ys : List Queued) → All (λ y. x.job < y.job) ys → All (λ y. (a ≤ y.job) × (y.job < b)) ys → All (λ y. (x.job + 1 ≤ y.job) × (y.job < b)) ys
    both [] p q = All-nil (λ y. (x.job + 1 ≤ y.job) × (y.job < b))
    both (y ∷ ys) p q =
        let later = All-head (λ y. x.job < y.job) y ys p in
        let within = All-head (λ y. (a ≤ y.job) × (y.job < b)) y ys q in
        All-cons (λ y. (x.job + 1 ≤ y.job) × (y.job < b)) y ys (omega (arith, later), within.1)
        (both ys (All-tail (λ y. x.job < y.job) y ys p) (All-tail (λ y. (a ≤ y.job) × (y.job < b)) y ys q))

pub few_jobs : (b : ℕ) (xs : List Queued) → AreInOrder xs → All (λ x. x.job < b) xs → length xs ≤ b
few_jobs b xs order all = let few = few_from 0 b xs order (zeros xs all) (omega arith) in omega (arith, few)
  where
    zeros : (ys : List Queued) → All (λ y. y.job < b) ys → All (λ y. (0 ≤ y.job) × (y.job < b)) ys
    zeros [] p = All-nil (λ y. (0 ≤ y.job) × (y.job < b))
    zeros (y ∷ ys) p = All-cons (λ y. (0 ≤ y.job) × (y.job < b)) y ys (omega arith, All-head (λ y. y.job < b) y ys p) (zeros ys (All-tail (λ y. y.job < b) y ys p))
