-- The names of jobs are held for them, and jobs that hold names are compatible, behind an event too.
use Rattle.std.proofs.Common.{◌≡◌, ◌≢◌, ◌==◌, ◌++◌, ℕ, Bool, true, false, cond, List, map, Option, Some, None, refl, sym, ap, ◌∙◌, subst}
use Rattle.std.specs.Prelude.{All, not, ◌&&◌, ◌||◌}
use Rattle.std.specs.List.{Contains, list_all}
use Rattle.std.specs.Str.{bytes_eq}
use Rattle.std.proofs.lemmas.Bool.{ne_eqb}
use Rattle.std.proofs.lemmas.List.Elements.{All-contains, All-weaker, Contains-append_left, Contains-append_right}
use Rattle.jcl_plan.specs.declared.plan.JobPlan.{JobPlan}
use Rattle.jcl_meaning.specs.declared.names.HeldName.{HeldName}
use Rattle.jcl_meaning.specs.Names.{IsCompatible, agree, names_of}
use Rattle.meaning_laws.proofs.Compatible.{agree_back, both_ways, from_each}
use Rattle.enq_core.specs.declared.table.Hold.{Hold}
use Rattle.enq_core.specs.declared.table.Want.{Want}
use Rattle.enq_core.specs.Holds.{conflicts, holds_of, is_blocked, without_job}
use Rattle.world_meaning.specs.Holdings.{wants_of}
use Rattle.world_meaning.specs.Worlds.{Initiator, IsAt, Running, Shared, World, with_running}
use Rattle.law_core.specs.Soundness.{AreHeld, IsSound, RunsAt, named_plan}
use Rattle.law_core.proofs.Elements.{all_mapped, contains_filter, none_passes}
use Rattle.law_core.proofs.Moves.{Left, Moved, ended_early, enters, goes, named, over, picks, still, turn_left, turns, unqueued}
use Rattle.law_core.proofs.Places.{WasAt, here, runs_cases, runs_same, there}

abbrev hold_for : ℕ → Want → Hold
hold_for job want = record { job = job; name = want.name; exclusive = want.exclusive }

-- another job's names are free
stay_held : (holds : List Hold) (job other : ℕ) (wants : List Want) → job ≢ other → AreHeld holds job wants → AreHeld (without_job other holds) job wants
stay_held holds job other wants apart h =
    All-weaker (λ want. Contains holds (hold_for job want)) (λ want. Contains (without_job other holds) (hold_for job want))
    (λ want there_too. contains_filter (λ (hold : Hold). not (hold.job == other)) holds (hold_for job want) (ap not (ne_eqb job other apart)) there_too) wants h

-- more names are held
still_held : (holds more : List Hold) (job : ℕ) (wants : List Want) → AreHeld holds job wants → AreHeld (holds ++ more) job wants
still_held holds more job wants h =
    All-weaker (λ want. Contains holds (hold_for job want)) (λ want. Contains (holds ++ more) (hold_for job want))
    (λ want there_too. Contains-append_left holds more (hold_for job want) there_too) wants h

now_held : (holds : List Hold) (job : ℕ) (wants : List Want) → AreHeld (holds ++ holds_of job wants) job wants
now_held holds job wants =
    All-weaker (λ want. Contains (holds_of job wants) (hold_for job want)) (λ want. Contains (holds ++ holds_of job wants) (hold_for job want))
    (λ want there_too. Contains-append_right holds (holds_of job wants) (hold_for job want) there_too) wants (all_mapped (hold_for job) wants)

-- names that no hold blocks are compatible with those that are held
agreeing : (a b : HeldName) → (bytes_eq b.name a.name && (b.exclusive || a.exclusive)) ≡ false → agree a b ≡ true
agreeing a b h = agree_back a b ∙ by_test (bytes_eq b.name a.name) (b.exclusive || a.exclusive) h
  where
    by_test : (x y : Bool) → (x && y) ≡ false → cond x (not y) true ≡ true
    by_test true true e = absurd cc
    by_test true false e = refl
    by_test false y e = refl

abbrev want_of : HeldName → Want
want_of h = record { name = h.name; exclusive = h.exclusive }

all_of_map : {X Y : Type 0} (P : Y → Type 0) (f : X → Y) (xs : List X) → All P (map f xs) → (x : X) → Contains xs x → P (f x)
all_of_map {X = X} P f xs h x there_too =
    All-contains P (map f xs) (f x) h (All-contains (λ (y : X). Contains (map f xs) (f y)) xs x (all_mapped f xs) there_too)

unblocked : (holds : List Hold) (job : ℕ) (plan q : JobPlan) → All (λ want. is_blocked holds want ≡ false) (wants_of plan) →
    AreHeld holds job (wants_of q) → IsCompatible plan q
unblocked holds job plan q free h =
    from_each (λ a. list_all (agree a) (names_of q)) (names_of plan) (λ a in_plan.
    from_each (agree a) (names_of q) (λ b in_q.
    let blocks : is_blocked holds (want_of a) ≡ false = all_of_map (λ want. is_blocked holds want ≡ false) want_of (names_of plan) free a in_plan in
    let there_too : Contains holds (hold_for job (want_of b)) =
    all_of_map (λ want. Contains holds (hold_for job want)) want_of (names_of q) h b in_q in
    agreeing a b (All-contains (λ hold. conflicts (want_of a) hold ≡ false) holds (hold_for job (want_of b)) (none_passes (conflicts (want_of a)) holds blocks) there_too)))

module _ (old new : World) (s : IsSound old) where
  abbrev Held : ℕ → Running → JobPlan → Type 0
  Held place r plan = AreHeld new.shared.holds r.job (wants_of plan)

  as_before : new.shared.holds ≡ old.shared.holds → (place : ℕ) (r : Running) (plan : JobPlan) → RunsAt old place r → named_plan r.stage ≡ Some plan →
      AreHeld new.shared.holds r.job (wants_of plan)
  as_before h place r plan at is = subst (λ holds. AreHeld holds r.job (wants_of plan)) (sym h) (s.held place r plan at is)

  without : (job : ℕ) → new.shared.holds ≡ without_job job old.shared.holds → (place : ℕ) (r : Running) (plan : JobPlan) → RunsAt old place r → r.job ≢ job →
      named_plan r.stage ≡ Some plan → AreHeld new.shared.holds r.job (wants_of plan)
  without job h place r plan at apart is =
      subst (λ holds. AreHeld holds r.job (wants_of plan)) (sym h)
      (stay_held old.shared.holds r.job job (wants_of plan) apart (s.held place r plan at is))

  -- behind a job's turn
  module _ (at : ℕ) (x : Initiator) (q : Running) (shared : Shared) (runs : Option Running) (is_at : IsAt old at x) (running : x.running ≡ Some q)
      (i : new.initiators ≡ with_running old.initiators at x runs) (h : new.shared.holds ≡ shared.holds) where
    its : RunsAt old at q
    its = record { it = x; at = is_at; running = running }

    other_job : (place : ℕ) (r : Running) → (place ≡ at → ⊥) → RunsAt old place r → r.job ≢ q.job
    other_job place r apart was same = apart ((s.alone at q its).alone place r was same)

    turned_held : Left old.config old.shared q shared runs → (place : ℕ) (r : Running) (plan : JobPlan) → RunsAt new place r → named_plan r.stage ≡ Some plan →
        AreHeld new.shared.holds r.job (wants_of plan)
    turned_held left place r plan run is = by_case left (runs_cases old new at x runs is_at i place r run)
      where
        by_case : Left old.config old.shared q shared runs → WasAt old at runs place r → AreHeld new.shared.holds r.job (wants_of plan)
        by_case (over gone free) (here same e) = let no : None ≡ Some r = sym gone ∙ e in absurd cc
        by_case (over gone free) (there apart was) = without q.job (h ∙ free) place r plan was (other_job place r apart was) is
        by_case (goes t on same names plans keeps) (here e f) =
            let one : t ≡ r = (let both : Some t ≡ Some r = sym on ∙ f in cc) in
            let job : r.job ≡ q.job = ap (λ (z : Running). z.job) (sym one) ∙ same in
            let had : named_plan q.stage ≡ Some plan = sym names ∙ (ap (λ (z : Running). named_plan z.stage) one ∙ is) in
            subst (λ n. AreHeld new.shared.holds n (wants_of plan)) (sym job) (as_before (h ∙ keeps) at q plan its had)
        by_case (goes t on same names plans keeps) (there apart was) = as_before (h ∙ keeps) place r plan was is
        by_case (named t p on same names plans free gets) (here e f) =
            let one : t ≡ r = (let both : Some t ≡ Some r = sym on ∙ f in cc) in
            let job : r.job ≡ q.job = ap (λ (z : Running). z.job) (sym one) ∙ same in
            let has : Some p ≡ Some plan = sym names ∙ (ap (λ (z : Running). named_plan z.stage) one ∙ is) in
            let that : p ≡ plan = cc in
            subst (λ n. AreHeld new.shared.holds n (wants_of plan)) (sym job)
            (subst (λ (z : JobPlan). AreHeld new.shared.holds q.job (wants_of z)) that
            (subst (λ holds. AreHeld holds q.job (wants_of p)) (sym (h ∙ gets)) (now_held old.shared.holds q.job (wants_of p))))
        by_case (named t p on same names plans free gets) (there apart was) =
            subst (λ holds. AreHeld holds r.job (wants_of plan)) (sym (h ∙ gets))
            (still_held old.shared.holds (holds_of q.job (wants_of p)) r.job (wants_of plan) (s.held place r plan was is))

    -- the names that a job has now are compatible with those of another one
    beside : Left old.config old.shared q shared runs → (r : Running) (plan : JobPlan) → runs ≡ Some r → named_plan r.stage ≡ Some plan →
        (other : ℕ) (t : Running) (p : JobPlan) → (other ≡ at → ⊥) → RunsAt old other t → named_plan t.stage ≡ Some p → IsCompatible plan p
    beside (over gone free) r plan f is other t p apart was has = let no : None ≡ Some r = sym gone ∙ f in absurd cc
    beside (goes z on same names plans keeps) r plan f is other t p apart was has =
        let one : z ≡ r = (let both : Some z ≡ Some r = sym on ∙ f in cc) in
        s.compatible at other q t plan p its was (λ e. apart (sym e)) (sym names ∙ (ap (λ (v : Running). named_plan v.stage) one ∙ is)) has
    beside (named z k on same names plans free gets) r plan f is other t p apart was has =
        let one : z ≡ r = (let both : Some z ≡ Some r = sym on ∙ f in cc) in
        let both : Some k ≡ Some plan = sym names ∙ (ap (λ (v : Running). named_plan v.stage) one ∙ is) in
        let that : k ≡ plan = cc in
        subst (λ (v : JobPlan). IsCompatible v p) that (unblocked old.shared.holds t.job k p free (s.held other t p was has))

    turned_compatible : Left old.config old.shared q shared runs → (place other : ℕ) (r t : Running) (plan p : JobPlan) → RunsAt new place r →
        RunsAt new other t → place ≢ other → named_plan r.stage ≡ Some plan → named_plan t.stage ≡ Some p → IsCompatible plan p
    turned_compatible left place other r t plan p run_r run_t differ is has =
        by_case (runs_cases old new at x runs is_at i place r run_r) (runs_cases old new at x runs is_at i other t run_t)
      where
        by_case : WasAt old at runs place r → WasAt old at runs other t → IsCompatible plan p
        by_case (here same e) (here same_too f) = absurd (differ (same ∙ sym same_too))
        by_case (here same e) (there apart was) = beside left r plan e is other t p apart was has
        by_case (there apart was) (here same e) = both_ways p plan (beside left t p e has place r plan apart was is)
        by_case (there apart was) (there apart_too was_too) = s.compatible place other r t plan p was was_too differ is has

  pub held_kept : Moved old new → (place : ℕ) (r : Running) (plan : JobPlan) → RunsAt new place r → named_plan r.stage ≡ Some plan →
      AreHeld new.shared.holds r.job (wants_of plan)
  held_kept (still i w j h) place r plan at is = as_before h place r plan (runs_same old new i place r at) is
  held_kept (enters v numbered i w j h) place r plan at is = as_before h place r plan (runs_same old new i place r at) is
  held_kept (unqueued v contained i w j h) place r plan at is =
      without v.job h place r plan (runs_same old new i place r at)
      (λ same. All-contains (λ y. y.job ≢ r.job) old.waiting v (s.alone place r (runs_same old new i place r at)).not_waiting contained (sym same)) is
  held_kept (picks at x v q is_at idle contained job no_names no_plan i w j h) place r plan run is =
      by_case (runs_cases old new at x (Some q) is_at i place r run)
    where
      by_case : WasAt old at (Some q) place r → AreHeld new.shared.holds r.job (wants_of plan)
      by_case (here same e) =
          let one : q ≡ r = cc in
          let no : None ≡ Some plan = sym no_names ∙ (ap (λ (z : Running). named_plan z.stage) one ∙ is) in absurd cc
      by_case (there apart was) = as_before h place r plan was is
  held_kept (turns at x q lines shared runs is_at running g i w j h t) place r plan run is =
      turned_held at x q shared runs is_at running i h (turn_left old.config old.shared q q.stage lines shared runs refl g) place r plan run is
  held_kept (ended_early at x q is_at running i w j h) place r plan run is = by_case (runs_cases old new at x None is_at i place r run)
    where
      by_case : WasAt old at None place r → AreHeld new.shared.holds r.job (wants_of plan)
      by_case (here same e) = let no : None ≡ Some r = e in absurd cc
      by_case (there apart was) =
          without q.job h place r plan was
          (λ same. apart ((s.alone at q (record { it = x; at = is_at; running = running })).alone place r was same)) is

  pub compatible_kept : Moved old new → (place other : ℕ) (r t : Running) (plan p : JobPlan) → RunsAt new place r → RunsAt new other t → place ≢ other →
      named_plan r.stage ≡ Some plan → named_plan t.stage ≡ Some p → IsCompatible plan p
  compatible_kept (still i w j h) place other r t plan p run_r run_t differ is has =
      s.compatible place other r t plan p (runs_same old new i place r run_r) (runs_same old new i other t run_t) differ is has
  compatible_kept (enters v numbered i w j h) place other r t plan p run_r run_t differ is has =
      s.compatible place other r t plan p (runs_same old new i place r run_r) (runs_same old new i other t run_t) differ is has
  compatible_kept (unqueued v contained i w j h) place other r t plan p run_r run_t differ is has =
      s.compatible place other r t plan p (runs_same old new i place r run_r) (runs_same old new i other t run_t) differ is has
  compatible_kept (picks at x v q is_at idle contained job no_names no_plan i w j h) place other r t plan p run_r run_t differ is has =
      by_case (runs_cases old new at x (Some q) is_at i place r run_r) (runs_cases old new at x (Some q) is_at i other t run_t)
    where
      nameless : (z : Running) (k : JobPlan) → Some q ≡ Some z → named_plan z.stage ≡ Some k → ⊥
      nameless z k e f =
          let one : q ≡ z = cc in
          let no : None ≡ Some k = sym no_names ∙ (ap (λ (v : Running). named_plan v.stage) one ∙ f) in absurd cc

      by_case : WasAt old at (Some q) place r → WasAt old at (Some q) other t → IsCompatible plan p
      by_case (here same e) o = absurd (nameless r plan e is)
      by_case (there apart was) (here same e) = absurd (nameless t p e has)
      by_case (there apart was) (there apart_too was_too) = s.compatible place other r t plan p was was_too differ is has
  compatible_kept (turns at x q lines shared runs is_at running g i w j h e) place other r t plan p run_r run_t differ is has =
      turned_compatible at x q shared runs is_at running i h (turn_left old.config old.shared q q.stage lines shared runs refl g) place other r t plan p run_r
      run_t differ is has
  compatible_kept (ended_early at x q is_at running i w j h) place other r t plan p run_r run_t differ is has =
      by_case (runs_cases old new at x None is_at i place r run_r) (runs_cases old new at x None is_at i other t run_t)
    where
      by_case : WasAt old at None place r → WasAt old at None other t → IsCompatible plan p
      by_case (here same e) o = let no : None ≡ Some r = e in absurd cc
      by_case (there apart was) (here same e) = let no : None ≡ Some t = e in absurd cc
      by_case (there apart was) (there apart_too was_too) = s.compatible place other r t plan p was was_too differ is has
