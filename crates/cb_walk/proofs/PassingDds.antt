-- The walk over DDs, a record further.
use Rattle.std.proofs.Common.{◌≡◌, ℕ, suc, ◌+◌, ◌-◌, ◌<◌, ◌≤◌, ◌≢◌, Bool, List, [], ◌∷◌, ◌++◌, length, Option, Some, None, refl, sym, ap, subst, ◌∙◌, arith, eq-eqb}
use Rattle.std.specs.Prelude.{Ok, Err}
use Rattle.std.proofs.lemmas.Bool.{ne_eqb}
use Rattle.cb_meaning.specs.declared.layout.Layout.{Layout}
use Rattle.cb_meaning.specs.Fields.{number_at}
use Rattle.cb_meaning.specs.Spelled.{Records, siot}
use Rattle.cb_meaning.specs.Walks.{arrival_fault, is_set, lowest, siot_faults, walk_below, walk_dds, with_dds}
use Rattle.cb_meaning.specs.Writable.{most_dds}
use Rattle.cb_queue.specs.RecordQueues.{RecordQueue, bytes_or_zeros, record_at, shown}
use Rattle.cb_walk.specs.Below.{below_from}
use Rattle.cb_walk.specs.Dds.{dds_from}
use Rattle.cb_walk.specs.Follows.{Follows, From, Refuses}
use Rattle.cb_walk.specs.Marks.{AreMarked, IsAt}
use Rattle.cb_walk.proofs.Onward.{follows_on}

unmet : (l : Layout) (units : ℕ) (q : Records) (job fuel stated : ℕ) (steps : List (List Bool)) (dds : List Bool) (seen : List ℕ) (n fault : ℕ) → n ≢ 0 →
    arrival_fault l q job siot seen n ≡ Some fault → walk_dds l units q job (suc fuel) stated steps dds seen n ≡ Err fault
unfolding walk_dds
unmet l units q job fuel stated steps dds seen n fault some e = rw (ne_eqb n 0 some) (rw e refl)

many : (l : Layout) (units : ℕ) (q : Records) (job fuel stated : ℕ) (steps : List (List Bool)) (dds : List Bool) (seen : List ℕ) (n : ℕ) → n ≢ 0 →
    arrival_fault l q job siot seen n ≡ None → length dds ≡ most_dds → walk_dds l units q job (suc fuel) stated steps dds seen n ≡ Err 10
unfolding walk_dds
many l units q job fuel stated steps dds seen n some e m = rw (ne_eqb n 0 some) (rw e (rw (eq-eqb (length dds) most_dds m) refl))

bad : (l : Layout) (units : ℕ) (q : Records) (job fuel stated : ℕ) (steps : List (List Bool)) (dds : List Bool) (seen : List ℕ) (n fault : ℕ) → n ≢ 0 →
    arrival_fault l q job siot seen n ≡ None → length dds ≢ most_dds →
    lowest (siot_faults l units (with_dds steps dds) (length steps + 1) (length dds + 1) (q.at n)) ≡ Some fault →
    walk_dds l units q job (suc fuel) stated steps dds seen n ≡ Err fault
unfolding walk_dds
bad l units q job fuel stated steps dds seen n fault some e m f = rw (ne_eqb n 0 some) (rw e (rw (ne_eqb (length dds) most_dds m) (rw f refl)))

under : (l : Layout) (units : ℕ) (q : Records) (job fuel stated : ℕ) (steps : List (List Bool)) (dds : List Bool) (seen : List ℕ) (n fault : ℕ) → n ≢ 0 →
    arrival_fault l q job siot seen n ≡ None → length dds ≢ most_dds →
    lowest (siot_faults l units (with_dds steps dds) (length steps + 1) (length dds + 1) (q.at n)) ≡ None →
    walk_below l q job (suc fuel) (with_dds steps dds) (length steps + 1) (length dds + 1) (q.at n) (n ∷ seen) ≡ Err fault →
    walk_dds l units q job (suc fuel) stated steps dds seen n ≡ Err fault
unfolding walk_dds
under l units q job fuel stated steps dds seen n fault some e m f b =
    rw (ne_eqb n 0 some) (rw e (rw (ne_eqb (length dds) most_dds m) (rw f (rw b refl))))

passed : (l : Layout) (units : ℕ) (q : Records) (job fuel stated : ℕ) (steps : List (List Bool)) (dds : List Bool) (seen : List ℕ) (n : ℕ) (met : List ℕ) →
    n ≢ 0 → arrival_fault l q job siot seen n ≡ None → length dds ≢ most_dds →
    lowest (siot_faults l units (with_dds steps dds) (length steps + 1) (length dds + 1) (q.at n)) ≡ None →
    walk_below l q job (suc fuel) (with_dds steps dds) (length steps + 1) (length dds + 1) (q.at n) (n ∷ seen) ≡ Ok met →
    walk_dds l units q job (suc fuel) stated steps dds seen n
    ≡ walk_dds l units q job fuel stated steps (dds ++ is_set (q.at n) ∷ []) met (number_at (q.at n) l.next_dd)
unfolding walk_dds
passed l units q job fuel stated steps dds seen n met some e m f b =
    rw (ne_eqb n 0 some) (rw e (rw (ne_eqb (length dds) most_dds m) (rw f (rw b refl))))

-- of so many records one is left
one_more : (left : ℕ) → 0 < left → suc (left - 1) ≡ left
one_more left h = omega (arith, h)

told_here : (l m : Layout) (units : ℕ) (steps : List (List Bool)) (k d : ℕ) (r s : List ℕ) (o : Option ℕ) → l ≡ m → r ≡ s →
    o ≡ lowest (siot_faults l units steps k d r) → lowest (siot_faults m units steps k d s) ≡ o
told_here l m units steps k d r s o e f told =
    sym (told ∙ ap (λ x. lowest (siot_faults x units steps k d r)) e ∙ ap (λ x. lowest (siot_faults m units steps k d x)) f)

abbrev pub Arrived : RecordQueue → ℕ → ℕ → List ℕ → List ℕ → List ℕ → Type 0
Arrived q job n marks later r = (seen : List ℕ) → AreMarked marks seen → IsAt q job siot seen n later r

pub unmet_dd : (q : RecordQueue) (units job left : ℕ) (steps : List (List Bool)) (dds : List Bool) (n fault : ℕ) (marks : List ℕ) → 0 < left → n ≢ 0 →
    ((seen : List ℕ) → AreMarked marks seen → arrival_fault q.layout (shown q) job siot seen n ≡ Some fault) →
    (stated : ℕ) → Refuses marks (dds_from q units job left stated steps dds n) fault
unmet_dd q units job left steps dds n fault marks more some arrives stated seen marked =
    let P : ℕ → Type 0 = λ x. dds_from q units job x stated steps dds n seen ≡ Err fault in
    subst P (one_more left more) (unmet q.layout units (shown q) job (left - 1) stated steps dds seen n fault some (arrives seen marked))

pub many_dds : (q : RecordQueue) (units job left : ℕ) (steps : List (List Bool)) (dds : List Bool) (n : ℕ) (marks later : List ℕ) (r : List ℕ) →
    0 < left → n ≢ 0 → Arrived q job n marks later r → length dds ≡ most_dds → (stated : ℕ) → Refuses marks (dds_from q units job left stated steps dds n) 10
many_dds q units job left steps dds n marks later r more some arrived m stated seen marked =
    let P : ℕ → Type 0 = λ x. dds_from q units job x stated steps dds n seen ≡ Err 10 in
    subst P (one_more left more) (many q.layout units (shown q) job (left - 1) stated steps dds seen n some (arrived seen marked).fine m)

pub bad_dd : (q : RecordQueue) (l : Layout) → l ≡ q.layout → (units job left : ℕ) (steps : List (List Bool)) (dds : List Bool) (n fault : ℕ)
    (marks later : List ℕ) (r : List ℕ) → 0 < left → n ≢ 0 → Arrived q job n marks later r → length dds ≢ most_dds →
    Some fault ≡ lowest (siot_faults l units (with_dds steps dds) (length steps + 1) (length dds + 1) r) →
    (stated : ℕ) → Refuses marks (dds_from q units job left stated steps dds n) fault
bad_dd q l same units job left steps dds n fault marks later r more some arrived m told stated seen marked =
    let here = arrived seen marked in
    let P : ℕ → Type 0 = λ x. dds_from q units job x stated steps dds n seen ≡ Err fault in
    subst P (one_more left more) (bad q.layout units (shown q) job (left - 1) stated steps dds seen n fault some here.fine m
    (told_here l q.layout units (with_dds steps dds) (length steps + 1) (length dds + 1) r (bytes_or_zeros (record_at q n)) (Some fault) same here.bytes told))

pub under_dd : (q : RecordQueue) (l : Layout) → l ≡ q.layout → (units job left : ℕ) (steps : List (List Bool)) (dds : List Bool) (n fault : ℕ)
    (marks later : List ℕ) (r : List ℕ) → 0 < left → n ≢ 0 → Arrived q job n marks later r → length dds ≢ most_dds →
    None ≡ lowest (siot_faults l units (with_dds steps dds) (length steps + 1) (length dds + 1) r) → Refuses later (below_from q job left steps dds r) fault →
    (stated : ℕ) → Refuses marks (dds_from q units job left stated steps dds n) fault
under_dd q l same units job left steps dds n fault marks later r more some arrived m told refuses stated seen marked =
    let here = arrived seen marked in
    let s : List ℕ = bytes_or_zeros (record_at q n) in
    let Below : ℕ → Type 0 = λ x. below_from q job x steps dds s (n ∷ seen) ≡ Err fault in
    let Bytes : List ℕ → Type 0 = λ x. below_from q job left steps dds x (n ∷ seen) ≡ Err fault in
    let P : ℕ → Type 0 = λ x. dds_from q units job x stated steps dds n seen ≡ Err fault in
    subst P (one_more left more) (under q.layout units (shown q) job (left - 1) stated steps dds seen n fault some here.fine m
    (told_here l q.layout units (with_dds steps dds) (length steps + 1) (length dds + 1) r s None same here.bytes told)
    (subst Below (sym (one_more left more)) (subst Bytes here.bytes (refuses (n ∷ seen) here.marked))))

pub passed_dd : (q : RecordQueue) (l : Layout) → l ≡ q.layout → (units job left : ℕ) (steps : List (List Bool)) (dds : List Bool) (n : ℕ)
    (marks later last : List ℕ) (r : List ℕ) (set : Bool) (next : ℕ) → 0 < left → n ≢ 0 → Arrived q job n marks later r → length dds ≢ most_dds →
    None ≡ lowest (siot_faults l units (with_dds steps dds) (length steps + 1) (length dds + 1) r) →
    Follows later last (below_from q job left steps dds r) (λ met. Ok met) → set ≡ is_set r → next ≡ number_at r l.next_dd →
    (stated : ℕ) → Follows marks last (dds_from q units job left stated steps dds n) (dds_from q units job (left - 1) stated steps (dds ++ set ∷ []) next)
passed_dd q l same units job left steps dds n marks later last r set next more some arrived m told goes kind link stated seen marked =
    let here = arrived seen marked in
    let s : List ℕ = bytes_or_zeros (record_at q n) in
    let below = goes (n ∷ seen) here.marked in
    let met : List ℕ = below.0 in
    let Below : ℕ → Type 0 = λ x. below_from q job x steps dds s (n ∷ seen) ≡ Ok met in
    let Bytes : List ℕ → Type 0 = λ x. below_from q job left steps dds x (n ∷ seen) ≡ Ok met in
    let P : ℕ → Type 0 = λ x. dds_from q units job x stated steps dds n seen
    ≡ dds_from q units job (left - 1) stated steps (dds ++ is_set s ∷ []) (number_at s q.layout.next_dd) met in
    let is_kind : set ≡ is_set s = kind ∙ ap is_set here.bytes in
    let then_next : next ≡ number_at s q.layout.next_dd =
    link ∙ ap (λ x. number_at r x.next_dd) same ∙ ap (λ x. number_at x q.layout.next_dd) here.bytes in (
      met,
      below.1,
      subst P (one_more left more) (passed q.layout units (shown q) job (left - 1) stated steps dds seen n met some here.fine m
          (told_here l q.layout units (with_dds steps dds) (length steps + 1) (length dds + 1) r s None same here.bytes told)
          (subst Below (sym (one_more left more)) (subst Bytes here.bytes below.2)))
          ∙ ap (λ x. dds_from q units job (left - 1) stated steps (dds ++ x ∷ []) (number_at s q.layout.next_dd) met) (sym is_kind)
          ∙ ap (λ x. dds_from q units job (left - 1) stated steps (dds ++ set ∷ []) x met) (sym then_next),
    )

spent : (l : Layout) (units : ℕ) (q : Records) (job stated : ℕ) (steps : List (List Bool)) (dds : List Bool) (seen : List ℕ) (n : ℕ) →
    walk_dds l units q job 0 stated steps dds seen n ≡ Err 4
unfolding walk_dds
spent l units q job stated steps dds seen n = refl

whole : (l : Layout) (units : ℕ) (q : Records) (job fuel stated : ℕ) (steps : List (List Bool)) (dds : List Bool) (seen : List ℕ) (n : ℕ) → n ≡ 0 →
    length dds ≡ stated → walk_dds l units q job (suc fuel) stated steps dds seen n ≡ Ok (dds, seen)
unfolding walk_dds
whole l units q job fuel stated steps dds seen n e s = rw (eq-eqb n 0 e) (rw (eq-eqb (length dds) stated s) refl)

miscounted : (l : Layout) (units : ℕ) (q : Records) (job fuel stated : ℕ) (steps : List (List Bool)) (dds : List Bool) (seen : List ℕ) (n : ℕ) → n ≡ 0 →
    length dds ≢ stated → walk_dds l units q job (suc fuel) stated steps dds seen n ≡ Err 5
unfolding walk_dds
miscounted l units q job fuel stated steps dds seen n e s = rw (eq-eqb n 0 e) (rw (ne_eqb (length dds) stated s) refl)

pub all_dds : (q : RecordQueue) (units job left stated : ℕ) (steps : List (List Bool)) (dds : List Bool) (n : ℕ) (marks : List ℕ) → 0 < left → n ≡ 0 →
    length dds ≡ stated → Follows marks marks (dds_from q units job left stated steps dds n) (λ met. Ok (dds, met))
all_dds q units job left stated steps dds n marks more end same seen marked =
    let P : ℕ → Type 0 = λ x. dds_from q units job x stated steps dds n seen ≡ Ok (dds, seen) in
    (seen, marked, subst P (one_more left more) (whole q.layout units (shown q) job (left - 1) stated steps dds seen n end same))

pub other_dds : (q : RecordQueue) (units job left stated : ℕ) (steps : List (List Bool)) (dds : List Bool) (n : ℕ) (marks : List ℕ) → 0 < left → n ≡ 0 →
    length dds ≢ stated → Refuses marks (dds_from q units job left stated steps dds n) 5
other_dds q units job left stated steps dds n marks more end other seen marked =
    let P : ℕ → Type 0 = λ x. dds_from q units job x stated steps dds n seen ≡ Err 5 in
    subst P (one_more left more) (miscounted q.layout units (shown q) job (left - 1) stated steps dds seen n end other)

pub none_left : (q : RecordQueue) (units job left stated : ℕ) (steps : List (List Bool)) (dds : List Bool) (n : ℕ) (marks : List ℕ) → left ≤ 0 →
    Refuses marks (dds_from q units job left stated steps dds n) 4
none_left q units job left stated steps dds n marks end seen marked =
    let none : 0 ≡ left = omega (arith, end) in
    let P : ℕ → Type 0 = λ x. dds_from q units job x stated steps dds n seen ≡ Err 4 in
    subst P none (spent q.layout units (shown q) job stated steps dds seen n)

pub dd_passed : (q : RecordQueue) (units job left stated : ℕ) (steps : List (List Bool)) (dds lent more : List Bool) (n next : ℕ) (set : Bool)
    (first marks later : List ℕ) (walk : From (List Bool × List ℕ)) → lent ≡ dds → more ≡ dds ++ set ∷ [] →
    Follows first marks walk (dds_from q units job left stated steps dds n) →
    ((all : ℕ) → Follows marks later (dds_from q units job left all steps lent n) (dds_from q units job (left - 1) all steps (lent ++ set ∷ []) next)) →
    Follows first later walk (dds_from q units job (left - 1) stated steps more next)
dd_passed q units job left stated steps dds lent more n next set first marks later walk same longer goes passes =
    let Lent : List Bool → Type 0 = λ x.
    Follows marks later (dds_from q units job left stated steps x n) (dds_from q units job (left - 1) stated steps (x ++ set ∷ []) next) in
    let More : List Bool → Type 0 = λ x. Follows first later walk (dds_from q units job (left - 1) stated steps x next) in
    subst More (sym longer) (follows_on first marks later walk (dds_from q units job left stated steps dds n)
    (dds_from q units job (left - 1) stated steps (dds ++ set ∷ []) next) goes (subst Lent same (passes stated)))
