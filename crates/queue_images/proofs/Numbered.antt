-- Numbers of jobs that are looked at from the last to the first.
use Rattle.std.proofs.Common.{◌≡◌, ◌≢◌, ◌⊎◌, ℕ, zero, suc, ◌+◌, ◌-◌, ◌<◌, ◌≤◌, ◌==◌, ◌&&◌, ◌||◌, not, Bool, true, false, List, [], ◌∷◌, drop, get_or, length, map, replicate, set, length-set, arith, inl, inr, refl, sym, ap, ◌∙◌, subst, get_or-set_other, get_or-set_same}
use Rattle.std.specs.Prelude.{nat_le}
use Rattle.std.specs.List.{list_all, list_any}
use Rattle.std.proofs.lemmas.Bool.{and_parts, cases_eq, eq-eqb, leb-true, ne_eqb}
use Rattle.std.proofs.lemmas.List.{drop_all, drop_more, get_or-replicate}
use Rattle.plain.specs.Lists.{are_different}
use Rattle.queue_images.specs.declared.image.WaitingJob.{WaitingJob}
use Rattle.queue_images.specs.Images.{are_job_numbers}

abbrev pub numbers : List WaitingJob → List ℕ
numbers jobs = map (λ (w : WaitingJob). w.job) jobs

-- the numbers from one place on are jobs', each given once, and those have a mark
pub record AreMet (jobs : List WaitingJob) (n : ℕ) (met : List Bool) : Type 0 where
  pub within : n ≤ length jobs
  pub size : length met ≡ 10000
  pub marks : (j : ℕ) → j < 10000 → get_or met j false ≡ list_any (λ m. m == j) (numbers (drop n jobs))
  pub good : are_job_numbers (numbers (drop n jobs)) ≡ true

pub none_met : (jobs : List WaitingJob) (n : ℕ) (met : List Bool) → n ≡ length jobs → met ≡ replicate 10000 false → AreMet jobs n met
none_met jobs n met end marks =
    let none : drop n jobs ≡ [] = drop_all n jobs (omega (arith, end)) in
    record {
      within = omega (arith, end);
      size = ap length marks;
      marks = λ j h. ap (λ (ms : List Bool). get_or ms j false) marks ∙ get_or-replicate 10000 j false false h
          ∙ sym (ap (λ (ws : List WaitingJob). list_any (λ m. m == j) (numbers ws)) none);
      good = ap (λ (ws : List WaitingJob). are_job_numbers (numbers ws)) none;
    }

-- the numbers of a list with one more
good_by : (fits all_fit twice differ : Bool) → (fits && not twice) ≡ true → (all_fit && differ) ≡ true → ((fits && all_fit) && (not twice && differ)) ≡ true
good_by true true false true e h = refl
good_by true true false false e h = absurd cc
good_by true false false differ e h = absurd cc
good_by true all_fit true differ e h = absurd cc
good_by false all_fit twice differ e h = absurd cc

bad_by : (fits all_fit twice differ : Bool) → (fits && not twice) ≡ false → ((fits && all_fit) && (not twice && differ)) ≡ false
bad_by false all_fit twice differ e = refl
bad_by true true true differ e = refl
bad_by true false twice differ e = refl
bad_by true true false differ e = absurd cc

onto_bad : (fits all_fit twice differ : Bool) → (all_fit && differ) ≡ false → ((fits && all_fit) && (not twice && differ)) ≡ false
onto_bad false all_fit twice differ e = refl
onto_bad true false twice differ e = refl
onto_bad true true true differ e = refl
onto_bad true true false differ e = e

abbrev fits : ℕ → Bool
fits n = nat_le 1 n && nat_le n 9999

shifted : (a b c : Bool) → (a && b && not c) ≡ ((a && b) && not c)
shifted true b c = refl
shifted false b c = refl

second_of : (a b c : Bool) → (a && b && not c) ≡ true → b ≡ true
second_of true true c e = refl
second_of true false c e = absurd cc
second_of false b c e = absurd cc

module _ (jobs : List WaitingJob) (k : ℕ) (x : WaitingJob) (there : k < length jobs) (is : x ≡ get_or jobs k (record { job = 0; jct = 0 })) where
  abbrev rest : List ℕ
  rest = numbers (drop (k + 1) jobs)

  one_more : numbers (drop k jobs) ≡ x.job ∷ rest
  one_more = ap numbers (drop_more jobs k (record { job = 0; jct = 0 }) there ∙ ap (λ y. y ∷ drop (k + 1) jobs) (sym is))

  pub good_more : (met new : List Bool) → AreMet jobs (k + 1) met → (nat_le 1 x.job && nat_le x.job 9999 && not (get_or met x.job false)) ≡ true →
      x.job < 10000 → new ≡ set met x.job true → AreMet jobs k new
  good_more met new before fresh small is_set = record {
    within = omega (arith, there);
    size = ap length is_set ∙ length-set met x.job true ∙ before.size;
    marks = λ j h. by j h (cases_eq j x.job);
    good = ap are_job_numbers one_more
        ∙ good_by (fits x.job) (list_all fits rest) (list_any (λ m. m == x.job) rest) (are_different rest)
        (ap (λ b. fits x.job && not b) (sym (before.marks x.job small)) ∙ sym (shifted (nat_le 1 x.job) (nat_le x.job 9999) (get_or met x.job false)) ∙ fresh)
        before.good;
  }
    where
      by : (j : ℕ) → j < 10000 → (j ≡ x.job) ⊎ (j ≢ x.job) → get_or new j false ≡ list_any (λ m. m == j) (numbers (drop k jobs))
      by j h (inl same) =
          ap (λ ms. get_or ms j false) is_set ∙ ap (λ i. get_or (set met x.job true) i false) same
          ∙ get_or-set_same met x.job true false (omega (arith, small, before.size))
          ∙ sym (ap (list_any (λ m. m == j)) one_more ∙ ap (λ b. b || list_any (λ m. m == j) rest) (eq-eqb x.job j (sym same)))
      by j h (inr other) =
          ap (λ ms. get_or ms j false) is_set ∙ get_or-set_other met x.job j true false other ∙ before.marks j h
          ∙ sym (ap (list_any (λ m. m == j)) one_more ∙ ap (λ b. b || list_any (λ m. m == j) rest) (ne_eqb x.job j (λ e. other (sym e))))

  bad_here : (met : List Bool) → AreMet jobs (k + 1) met → (nat_le 1 x.job && nat_le x.job 9999 && not (get_or met x.job false)) ≡ false →
      are_job_numbers (numbers (drop k jobs)) ≡ false
  bad_here met before stale =
      ap are_job_numbers one_more
      ∙ bad_by (fits x.job) (list_all fits rest) (list_any (λ m. m == x.job) rest) (are_different rest) (by (fits x.job) refl)
    where
      by : (b : Bool) → fits x.job ≡ b → (fits x.job && not (list_any (λ m. m == x.job) rest)) ≡ false
      by false e = ap (λ b. b && not (list_any (λ m. m == x.job) rest)) e
      by true e =
          let most : x.job ≤ 9999 = leb-true x.job 9999 (and_parts (nat_le 1 x.job) (nat_le x.job 9999) e).1 in
          ap (λ b. fits x.job && not b) (sym (before.marks x.job (omega (arith, most))))
          ∙ sym (shifted (nat_le 1 x.job) (nat_le x.job 9999) (get_or met x.job false)) ∙ stale

bad_behind : (n : ℕ) (jobs : List WaitingJob) → are_job_numbers (numbers (drop n jobs)) ≡ false → are_job_numbers (numbers jobs) ≡ false
bad_behind zero jobs e = e
bad_behind (suc n) [] e = e
bad_behind (suc n) (w ∷ jobs) e =
    onto_bad (fits w.job) (list_all fits (numbers jobs)) (list_any (λ m. m == w.job) (numbers jobs)) (are_different (numbers jobs)) (bad_behind n jobs e)

-- of the number before those that were looked at
module _ (jobs : List WaitingJob) (n : ℕ) (x : WaitingJob) (met : List Bool) (some : 0 < n) (before : AreMet jobs n met)
    (is : x ≡ get_or jobs (n - 1) (record { job = 0; jct = 0 })) where
  last : n ≡ n - 1 + 1
  last = omega (arith, some)

  met_there : AreMet jobs (n - 1 + 1) met
  met_there = subst (λ m. AreMet jobs m met) last before

  pub goes_on : (new : List Bool) → (nat_le 1 x.job && nat_le x.job 9999 && not (get_or met x.job false)) ≡ true → new ≡ set met x.job true → AreMet jobs (n - 1) new
  goes_on new fresh is_set =
      let most : x.job ≤ 9999 = leb-true x.job 9999 (second_of (nat_le 1 x.job) (nat_le x.job 9999) (get_or met x.job false) fresh) in
      good_more jobs (n - 1) x (omega (arith, some, before.within)) is met new met_there fresh (omega (arith, most)) is_set

  pub fails : (nat_le 1 x.job && nat_le x.job 9999 && not (get_or met x.job false)) ≡ false → are_job_numbers (numbers jobs) ≡ false
  fails stale = bad_behind (n - 1) jobs (bad_here jobs (n - 1) x (omega (arith, some, before.within)) is met met_there stale)

pub fits_at : (jobs : List WaitingJob) (k : ℕ) → k < length jobs → are_job_numbers (numbers jobs) ≡ true →
    (1 ≤ (get_or jobs k (record { job = 0; jct = 0 })).job) × ((get_or jobs k (record { job = 0; jct = 0 })).job ≤ 9999)
fits_at [] k h e = absurd (omega (arith, h))
fits_at (w ∷ jobs) k h e =
    let whole = and_parts (fits w.job && list_all fits (numbers jobs)) (not (list_any (λ m. m == w.job) (numbers jobs)) && are_different (numbers jobs)) e in
    let front = and_parts (fits w.job) (list_all fits (numbers jobs)) whole.0 in
    let back = and_parts (not (list_any (λ m. m == w.job) (numbers jobs))) (are_different (numbers jobs)) whole.1 in
    by k h (λ i less. fits_at jobs i less ((λ j. front.1 j && back.1 j)))
  where
    by : (i : ℕ) → i < length (w ∷ jobs) →
        ((j : ℕ) → j < length jobs → (1 ≤ (get_or jobs j (record { job = 0; jct = 0 })).job) × ((get_or jobs j (record { job = 0; jct = 0 })).job ≤ 9999)) →
        (1 ≤ (get_or (w ∷ jobs) i (record { job = 0; jct = 0 })).job) × ((get_or (w ∷ jobs) i (record { job = 0; jct = 0 })).job ≤ 9999)
    by zero less on =
        let whole = and_parts (fits w.job && list_all fits (numbers jobs)) (not (list_any (λ m. m == w.job) (numbers jobs)) && are_different (numbers jobs)) e in
        let front = and_parts (fits w.job) (list_all fits (numbers jobs)) whole.0 in
        let both = and_parts (nat_le 1 w.job) (nat_le w.job 9999) front.0 in
        (leb-true 1 w.job both.0, leb-true w.job 9999 both.1)
    by (suc i) less on = on i (omega (arith, less))
