-- The walk over a whole job, of which nothing was met.
use Rattle.std.proofs.Common.{◌≡◌, ℕ, ◌+◌, ◌≢◌, Bool, List, [], ◌∷◌, Option, Some, None, refl, sym, ap, ◌∙◌, eq-eqb}
use Rattle.std.specs.Prelude.{Result, Ok, Err}
use Rattle.std.specs.Result.{result_err}
use Rattle.std.proofs.lemmas.Bool.{ne_eqb}
use Rattle.cb_meaning.specs.declared.layout.Layout.{Layout}
use Rattle.cb_meaning.specs.Fields.{number_at}
use Rattle.cb_meaning.specs.Spelled.{Records, jct}
use Rattle.cb_meaning.specs.Walks.{arrival_fault, fault_told, first_fault, jct_faults, lowest, walk_steps}
use Rattle.cb_queue.specs.RecordQueues.{RecordQueue, bytes_or_zeros, record_at, shown}
use Rattle.cb_walk.specs.Follows.{Ends}
use Rattle.cb_walk.specs.Jobs.{Tells}
use Rattle.cb_walk.specs.Marks.{IsAt}
use Rattle.cb_walk.specs.Steps.{steps_from}

module _ (l : Layout) (units : ℕ) (q : Records) (job n : ℕ) where
  unmet : (fault : ℕ) → arrival_fault l q job jct [] n ≡ Some fault → first_fault l units q job n ≡ Some fault
  unmet fault e = rw e refl

  module _ (fine : arrival_fault l q job jct [] n ≡ None) where
    bad : (fault : ℕ) → lowest (jct_faults l (q.at n)) ≡ Some fault → first_fault l units q job n ≡ Some fault
    bad fault f = rw fine (rw f refl)

    module _ (good : lowest (jct_faults l (q.at n)) ≡ None) where
      stepless : number_at (q.at n) l.first_step ≡ 0 → first_fault l units q job n ≡ Some 5
      stepless e = rw fine (rw good (rw (eq-eqb (number_at (q.at n) l.first_step) 0 e) refl))

      walked : (result : Result (List ℕ) ℕ) → number_at (q.at n) l.first_step ≢ 0 →
          walk_steps l units q job (l.most_records + 1) (number_at (q.at n) l.steps) [] (n ∷ []) (number_at (q.at n) l.first_step) ≡ result →
          first_fault l units q job n ≡ fault_told result
      walked result some e = rw fine (rw good (rw (ne_eqb (number_at (q.at n) l.first_step) 0 some) (ap fault_told e)))

pub unmet_job : (q : RecordQueue) (units job n fault : ℕ) → arrival_fault q.layout (shown q) job jct [] n ≡ Some fault → Tells q units job n (Some fault)
unmet_job q units job n fault e = sym (unmet q.layout units (shown q) job n fault e)

-- Of a JCT that was arrived at, as the code reads it.
module _ (q : RecordQueue) (l : Layout) (same : l ≡ q.layout) (units job n : ℕ) (later : List ℕ) (r : List ℕ) (here : IsAt q job jct [] n later r) where
  told_here : (o : Option ℕ) → o ≡ lowest (jct_faults l r) → lowest (jct_faults q.layout (bytes_or_zeros (record_at q n))) ≡ o
  told_here o told = sym (told ∙ ap (λ x. lowest (jct_faults x r)) same ∙ ap (λ x. lowest (jct_faults q.layout x)) here.bytes)

  pub bad_job : (fault : ℕ) → Some fault ≡ lowest (jct_faults l r) → Tells q units job n (Some fault)
  bad_job fault told = sym (bad q.layout units (shown q) job n here.fine fault (told_here (Some fault) told))

  module _ (told : None ≡ lowest (jct_faults l r)) (first : ℕ) (first_is : first ≡ number_at r l.first_step) where
    first_here : first ≡ number_at (bytes_or_zeros (record_at q n)) q.layout.first_step
    first_here = first_is ∙ ap (λ x. number_at r x.first_step) same ∙ ap (λ x. number_at x q.layout.first_step) here.bytes

    pub stepless_job : first ≡ 0 → Tells q units job n (Some 5)
    stepless_job e = sym (stepless q.layout units (shown q) job n here.fine (told_here None told) (sym first_here ∙ e))

    module _ (some : first ≢ 0) (most stated : ℕ) (fuel_is : most ≡ l.most_records + 1) (stated_is : stated ≡ number_at r l.steps) where
      steps_alike : walk_steps q.layout units (shown q) job (q.layout.most_records + 1) (number_at (bytes_or_zeros (record_at q n)) q.layout.steps) [] (n ∷ [])
          (number_at (bytes_or_zeros (record_at q n)) q.layout.first_step)
          ≡ steps_from q units job most stated [] first (n ∷ [])
      steps_alike =
          let s : List ℕ = bytes_or_zeros (record_at q n) in
          let fuels : most ≡ q.layout.most_records + 1 = fuel_is ∙ ap (λ x. x.most_records + 1) same in
          let counts : stated ≡ number_at s q.layout.steps =
          stated_is ∙ ap (λ x. number_at r x.steps) same ∙ ap (λ x. number_at x q.layout.steps) here.bytes in
          ap (λ x. steps_from q units job x (number_at s q.layout.steps) [] (number_at s q.layout.first_step) (n ∷ [])) (sym fuels)
          ∙ ap (λ x. steps_from q units job most x [] (number_at s q.layout.first_step) (n ∷ [])) (sym counts)
          ∙ ap (λ x. steps_from q units job most stated [] x (n ∷ [])) (sym first_here)

      told_of : (result : Result (List ℕ) ℕ) → steps_from q units job most stated [] first (n ∷ []) ≡ result → Tells q units job n (fault_told result)
      told_of result e =
          sym (walked q.layout units (shown q) job n here.fine (told_here None told) result (λ is. some (first_here ∙ is)) (steps_alike ∙ e))

      pub walked_job : (last : List ℕ) (result : Result (Unit {0}) ℕ) → Ends later last (steps_from q units job most stated [] first) result →
          Tells q units job n (result_err result)
      walked_job last (Ok x) ends = let all = ends (n ∷ []) here.marked in told_of (Ok all.0) all.2
      walked_job last (Err fault) ends = told_of (Err fault) (ends (n ∷ []) here.marked)
