-- The walk over steps, a step further.
use Rattle.std.proofs.Common.{◌≡◌, ℕ, suc, ◌+◌, ◌-◌, ◌<◌, ◌≤◌, ◌≢◌, Bool, List, [], ◌∷◌, length, length-append}
use Rattle.std.proofs.Common.{Option, Some, None, refl, sym, ap, subst, ◌∙◌, arith, eq-eqb}
use Rattle.std.specs.Prelude.{Ok, Err}
use Rattle.std.proofs.lemmas.Bool.{ne_eqb}
use Rattle.cb_meaning.specs.declared.layout.Layout.{Layout}
use Rattle.cb_meaning.specs.Fields.{number_at}
use Rattle.cb_meaning.specs.Spelled.{Records, sct}
use Rattle.cb_meaning.specs.Walks.{arrival_fault, lowest, sct_faults, walk_dds, walk_steps, with_dds}
use Rattle.cb_queue.specs.RecordQueues.{RecordQueue, bytes_or_zeros, record_at, shown}
use Rattle.cb_walk.specs.Dds.{dds_from}
use Rattle.cb_walk.specs.Follows.{Follows, From, Refuses}
use Rattle.cb_walk.specs.Marks.{AreMarked, IsAt}
use Rattle.cb_walk.specs.Steps.{PassesOne, steps_from}
use Rattle.cb_walk.proofs.Onward.{one_passed}

module _ (l : Layout) (units : ℕ) (q : Records) (job fuel stated : ℕ) (steps : List (List Bool)) (seen : List ℕ) (n : ℕ) (some : n ≢ 0) where
  unmet : (fault : ℕ) → arrival_fault l q job sct seen n ≡ Some fault → walk_steps l units q job (suc fuel) stated steps seen n ≡ Err fault
  unfolding walk_steps
  unmet fault e = rw (ne_eqb n 0 some) (rw e refl)

  module _ (fine : arrival_fault l q job sct seen n ≡ None) where
    many : length steps ≡ l.most_steps → walk_steps l units q job (suc fuel) stated steps seen n ≡ Err 10
    unfolding walk_steps
    many m = rw (ne_eqb n 0 some) (rw fine (rw (eq-eqb (length steps) l.most_steps m) refl))

    module _ (few : length steps ≢ l.most_steps) where
      bad : (fault : ℕ) → lowest (sct_faults l (length steps + 1) (q.at n)) ≡ Some fault → walk_steps l units q job (suc fuel) stated steps seen n ≡ Err fault
      unfolding walk_steps
      bad fault f = rw (ne_eqb n 0 some) (rw fine (rw (ne_eqb (length steps) l.most_steps few) (rw f refl)))

      module _ (good : lowest (sct_faults l (length steps + 1) (q.at n)) ≡ None) where
        under : (fault : ℕ) →
            walk_dds l units q job (l.most_records + 1) (number_at (q.at n) l.dds) steps [] (n ∷ seen) (number_at (q.at n) l.first_dd) ≡ Err fault →
            walk_steps l units q job (suc fuel) stated steps seen n ≡ Err fault
        unfolding walk_steps
        under fault e = rw (ne_eqb n 0 some) (rw fine (rw (ne_eqb (length steps) l.most_steps few) (rw good (rw e refl))))

        passed : (dds : List Bool) (met : List ℕ) →
            walk_dds l units q job (l.most_records + 1) (number_at (q.at n) l.dds) steps [] (n ∷ seen) (number_at (q.at n) l.first_dd) ≡ Ok (dds, met) →
            walk_steps l units q job (suc fuel) stated steps seen n
            ≡ walk_steps l units q job fuel stated (with_dds steps dds) met (number_at (q.at n) l.next_step)
        unfolding walk_steps
        passed dds met e = rw (ne_eqb n 0 some) (rw fine (rw (ne_eqb (length steps) l.most_steps few) (rw good (rw e refl))))

spent : (l : Layout) (units : ℕ) (q : Records) (job stated : ℕ) (steps : List (List Bool)) (seen : List ℕ) (n : ℕ) →
    walk_steps l units q job 0 stated steps seen n ≡ Err 4
unfolding walk_steps
spent l units q job stated steps seen n = refl

module _ (l : Layout) (units : ℕ) (q : Records) (job fuel stated : ℕ) (steps : List (List Bool)) (seen : List ℕ) (n : ℕ) (end : n ≡ 0) where
  whole : length steps ≡ stated → walk_steps l units q job (suc fuel) stated steps seen n ≡ Ok seen
  unfolding walk_steps
  whole s = rw (eq-eqb n 0 end) (rw (eq-eqb (length steps) stated s) refl)

  miscounted : length steps ≢ stated → walk_steps l units q job (suc fuel) stated steps seen n ≡ Err 5
  unfolding walk_steps
  miscounted s = rw (eq-eqb n 0 end) (rw (ne_eqb (length steps) stated s) refl)

pub unmet_step : (q : RecordQueue) (units job : ℕ) (steps : List (List Bool)) (n fault : ℕ) (marks : List ℕ) → n ≢ 0 →
    ((seen : List ℕ) → AreMarked marks seen → arrival_fault q.layout (shown q) job sct seen n ≡ Some fault) →
    (fuel stated : ℕ) → Refuses marks (steps_from q units job (suc fuel) stated steps n) fault
unmet_step q units job steps n fault marks some arrives fuel stated seen marked =
    unmet q.layout units (shown q) job fuel stated steps seen n some fault (arrives seen marked)

told_here : (l m : Layout) (k : ℕ) (r s : List ℕ) (o : Option ℕ) → l ≡ m → r ≡ s → o ≡ lowest (sct_faults l k r) → lowest (sct_faults m k s) ≡ o
told_here l m k r s o e f told = sym (told ∙ ap (λ x. lowest (sct_faults x k r)) e ∙ ap (λ x. lowest (sct_faults m k x)) f)

abbrev pub Arrived : RecordQueue → ℕ → ℕ → List ℕ → List ℕ → List ℕ → Type 0
Arrived q job n marks later r = (seen : List ℕ) → AreMarked marks seen → IsAt q job sct seen n later r

-- Of an SCT that was arrived at, as the code reads it.
module _ (q : RecordQueue) (l : Layout) (same : l ≡ q.layout) (units job : ℕ) (steps : List (List Bool)) (n : ℕ) (some : n ≢ 0) (marks later : List ℕ)
    (r : List ℕ) (arrived : Arrived q job n marks later r) where
  pub many_steps : length steps ≡ l.most_steps → (fuel stated : ℕ) → Refuses marks (steps_from q units job (suc fuel) stated steps n) 10
  many_steps m fuel stated seen marked =
      many q.layout units (shown q) job fuel stated steps seen n some (arrived seen marked).fine (m ∙ ap (λ x. x.most_steps) same)

  module _ (few : length steps ≢ l.most_steps) where
    fewer : length steps ≢ q.layout.most_steps
    fewer = λ e. few (e ∙ sym (ap (λ x. x.most_steps) same))

    pub bad_step : (fault : ℕ) → Some fault ≡ lowest (sct_faults l (length steps + 1) r) →
        (fuel stated : ℕ) → Refuses marks (steps_from q units job (suc fuel) stated steps n) fault
    bad_step fault told fuel stated seen marked =
        let here = arrived seen marked in
        bad q.layout units (shown q) job fuel stated steps seen n some here.fine fewer fault
        (told_here l q.layout (length steps + 1) r (bytes_or_zeros (record_at q n)) (Some fault) same here.bytes told)

    module _ (told : None ≡ lowest (sct_faults l (length steps + 1) r)) where
      good : (s : List ℕ) → r ≡ s → lowest (sct_faults q.layout (length steps + 1) s) ≡ None
      good s e = told_here l q.layout (length steps + 1) r s None same e told

      module _ (most count first : ℕ) (fuel_is : most ≡ l.most_records + 1) (count_is : count ≡ number_at r l.dds) (first_is : first ≡ number_at r l.first_dd) where
        -- the walk over its DDs, as the definition has it
        dds_alike : (s met : List ℕ) → r ≡ s →
            walk_dds q.layout units (shown q) job (q.layout.most_records + 1) (number_at s q.layout.dds) steps [] met (number_at s q.layout.first_dd)
            ≡ dds_from q units job most count steps [] first met
        dds_alike s met e =
            let fuels : most ≡ q.layout.most_records + 1 = fuel_is ∙ ap (λ x. x.most_records + 1) same in
            let counts : count ≡ number_at s q.layout.dds = count_is ∙ ap (λ x. number_at r x.dds) same ∙ ap (λ x. number_at x q.layout.dds) e in
            let firsts : first ≡ number_at s q.layout.first_dd =
            first_is ∙ ap (λ x. number_at r x.first_dd) same ∙ ap (λ x. number_at x q.layout.first_dd) e in
            ap (λ x. dds_from q units job x (number_at s q.layout.dds) steps [] (number_at s q.layout.first_dd) met) (sym fuels)
            ∙ ap (λ x. dds_from q units job most x steps [] (number_at s q.layout.first_dd) met) (sym counts)
            ∙ ap (λ x. dds_from q units job most count steps [] x met) (sym firsts)

        pub under_step : (fault : ℕ) → Refuses later (dds_from q units job most count steps [] first) fault →
            (fuel stated : ℕ) → Refuses marks (steps_from q units job (suc fuel) stated steps n) fault
        under_step fault refuses fuel stated seen marked =
            let here = arrived seen marked in
            let s : List ℕ = bytes_or_zeros (record_at q n) in
            under q.layout units (shown q) job fuel stated steps seen n some here.fine fewer (good s here.bytes) fault
            (dds_alike s (n ∷ seen) here.bytes ∙ refuses (n ∷ seen) here.marked)

        pub passed_step : (last : List ℕ) (dds : List Bool) (next : ℕ) → Follows later last (dds_from q units job most count steps [] first) (λ met. Ok (dds, met)) →
            next ≡ number_at r l.next_step → length steps ≤ q.layout.most_steps → PassesOne q units job steps n marks last dds next
        passed_step last dds next goes link within = record {
          within = (let other = fewer in omega (arith, within, other));
          follows = λ fuel stated seen marked.
              let here = arrived seen marked in
              let s : List ℕ = bytes_or_zeros (record_at q n) in
              let below = goes (n ∷ seen) here.marked in
              let then_next : next ≡ number_at s q.layout.next_step =
              link ∙ ap (λ x. number_at r x.next_step) same ∙ ap (λ x. number_at x q.layout.next_step) here.bytes in (
                below.0,
                below.1,
                passed q.layout units (shown q) job fuel stated steps seen n some here.fine fewer (good s here.bytes) dds below.0
                    (dds_alike s (n ∷ seen) here.bytes ∙ below.2)
                    ∙ ap (λ x. steps_from q units job fuel stated (with_dds steps dds) x below.0) (sym then_next),
              );
        }

-- at the end of the steps
module _ (q : RecordQueue) (units job stated : ℕ) (steps : List (List Bool)) (n : ℕ) (marks : List ℕ) where
  pub steps_end : n ≡ 0 → length steps ≡ stated → (fuel : ℕ) → Follows marks marks (steps_from q units job (suc fuel) stated steps n) (λ met. Ok met)
  steps_end end same fuel seen marked = (seen, marked, whole q.layout units (shown q) job fuel stated steps seen n end same)

  pub steps_other : n ≡ 0 → length steps ≢ stated → (fuel : ℕ) → Refuses marks (steps_from q units job (suc fuel) stated steps n) 5
  steps_other end other fuel seen marked = miscounted q.layout units (shown q) job fuel stated steps seen n end other

  pub steps_none : Refuses marks (steps_from q units job 0 stated steps n) 4
  steps_none seen marked = spent q.layout units (shown q) job stated steps seen n

-- one step was passed, with what was lent of those before it
pub step_passed : (q : RecordQueue) (units job left stated : ℕ) (steps lent more : List (List Bool)) (n next : ℕ) (dds : List Bool) (first marks later : List ℕ)
    (walk : From (List ℕ)) → lent ≡ steps → more ≡ with_dds steps dds → Follows first marks walk (steps_from q units job left stated steps n) → 0 < left →
    PassesOne q units job lent n marks later dds next →
    (length more ≤ q.layout.most_steps) × Follows first later walk (steps_from q units job (left - 1) stated more next)
step_passed q units job left stated steps lent more n next dds first marks later walk same longer goes some passes =
    let Lent : List (List Bool) → Type 0 = λ x. PassesOne q units job x n marks later dds next in
    let More : List (List Bool) → Type 0 = λ x. Follows first later walk (steps_from q units job (left - 1) stated x next) in
    let one = subst Lent same passes in
    let within = one.within in
    let grown : length more ≡ length steps + 1 = ap length longer ∙ length-append steps (dds ∷ []) in (
      omega (arith, within, grown),
      subst More (sym longer) (one_passed (λ x. steps_from q units job x stated steps n) left first marks walk goes some
          (λ x. steps_from q units job x stated (with_dds steps dds) next) later (λ fuel. one.follows fuel stated)),
    )
