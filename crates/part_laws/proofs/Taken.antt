-- What DDs took, one by one, and what they passed.
use Rattle.std.proofs.Common.{◌≡◌, ◌&&◌, ◌==◌, ◌+◌, ℕ, zero, suc, Bool, true, false, cond, List, [], ◌∷◌, ◌++◌, length, Option, Some, None, refl, ap, ◌∙◌, subst, arith}
use Rattle.std.specs.Prelude.{slice_get, slice_set, map}
use Rattle.std.specs.List.{AllByRecursion}
use Rattle.std.proofs.lemmas.Bool.{and_parts, eqb-true}
use Rattle.jcl_plan.specs.declared.plan.DdKind.{DdKind}
use Rattle.jcl_plan.specs.declared.plan.DdKind.TheVariants.{Sysout, Dummy, Cards, Set}
use Rattle.jcl_plan.specs.declared.plan.DdPlan.{DdPlan}
use Rattle.jcl_meaning.specs.declared.names.HeldName.{HeldName}
use Rattle.jcl_meaning.specs.declared.state.DdState.{DdState}
use Rattle.jcl_meaning.specs.declared.state.KeyMeaning.{KeyMeaning}
use Rattle.jcl_meaning.specs.declared.state.Passed.{Passed}
use Rattle.jcl_meaning.specs.declared.state.TakenSet.{TakenSet}
use Rattle.jcl_meaning.specs.EndActs.{passed_by, without_pass}
use Rattle.jcl_meaning.specs.Programs.{taken_at}
use Rattle.part_laws.specs.Fits.{AreTaken, IsTakenBy}
use Rattle.part_laws.proofs.SameReads.{IsSeen}

module _ (names : List HeldName) (meanings : List KeyMeaning) (step : ℕ) where
  seen_by : (dd : ℕ) (kind : DdKind) (x : Option TakenSet) → IsTakenBy names meanings step dd kind x → IsSeen names x
  seen_by dd kind None h = tt
  seen_by dd (Sysout class) (Some t) h = absurd h
  seen_by dd Dummy (Some t) h = absurd h
  seen_by dd (Cards cards) (Some t) h = absurd h
  seen_by dd (Set p) (Some t) h = h.held.seen

  -- each set taken is seen
  pub taken_seen : (dd : ℕ) (ds : List DdPlan) (xs : List DdState) → AreTaken names meanings step dd ds xs → (k : ℕ) → IsSeen names (taken_at xs k)
  taken_seen dd [] [] h k = tt
  taken_seen dd [] (x ∷ xs) h k = absurd h
  taken_seen dd (d ∷ ds) [] h k = tt
  taken_seen dd (d ∷ ds) (x ∷ xs) h zero = seen_by dd d.kind x.taken h.0
  taken_seen dd (d ∷ ds) (x ∷ xs) h (suc k) = taken_seen (dd + 1) ds xs h.1 k

  -- the d-th from 0 took what the d-th DD says
  pub taken_there : (dd : ℕ) (ds : List DdPlan) (xs : List DdState) → AreTaken names meanings step dd ds xs → (k : ℕ) (d : DdPlan) (x : DdState) →
      slice_get ds k ≡ Some d → slice_get xs k ≡ Some x → IsTakenBy names meanings step (dd + k) d.kind x.taken
  taken_there dd [] xs h k d x ed ex = absurd cc
  taken_there dd (e ∷ ds) [] h k d x ed ex = absurd cc
  taken_there dd (e ∷ ds) (y ∷ ys) h zero d x ed ex =
      let one : e ≡ d = cc in let other : y ≡ x = cc in let at : dd ≡ dd + 0 = omega arith in
      subst (λ (z : DdState). IsTakenBy names meanings step (dd + 0) d.kind z.taken) other
      (subst (λ (c : DdPlan). IsTakenBy names meanings step (dd + 0) c.kind y.taken) one
      (subst (λ (n : ℕ). IsTakenBy names meanings step n e.kind y.taken) at h.0))
  taken_there dd (e ∷ ds) (y ∷ ys) h (suc k) d x ed ex =
      let at : (dd + 1) + k ≡ dd + suc k = omega arith in
      subst (λ (n : ℕ). IsTakenBy names meanings step n d.kind x.taken) at (taken_there (dd + 1) ds ys h.1 k d x ed ex)

  -- one more
  pub taken_more : (dd : ℕ) (ds : List DdPlan) (xs : List DdState) (d : DdPlan) (x : DdState) → AreTaken names meanings step dd ds xs →
      IsTakenBy names meanings step (dd + length ds) d.kind x.taken → AreTaken names meanings step dd (ds ++ d ∷ []) (xs ++ x ∷ [])
  taken_more dd [] [] d x h k = let at : dd + 0 ≡ dd = omega arith in (subst (λ (n : ℕ). IsTakenBy names meanings step n d.kind x.taken) at k, tt)
  taken_more dd [] (y ∷ ys) d x h k = absurd h
  taken_more dd (e ∷ ds) [] d x h k = absurd h
  taken_more dd (e ∷ ds) (y ∷ ys) d x h k =
      let at : dd + length (e ∷ ds) ≡ (dd + 1) + length ds = omega arith in
      (h.0, taken_more (dd + 1) ds ys d x h.1 (subst (λ (n : ℕ). IsTakenBy names meanings step n d.kind x.taken) at k))

  -- one changed that has the same set
  pub taken_changed : (dd : ℕ) (ds : List DdPlan) (xs : List DdState) (k : ℕ) (x y : DdState) → AreTaken names meanings step dd ds xs →
      slice_get xs k ≡ Some x → x.taken ≡ y.taken → AreTaken names meanings step dd ds (slice_set xs k y)
  taken_changed dd [] [] k x y h e same = h
  taken_changed dd [] (z ∷ zs) k x y h e same = absurd h
  taken_changed dd (d ∷ ds) [] k x y h e same = h
  taken_changed dd (d ∷ ds) (z ∷ zs) zero x y h e same =
      let is : z ≡ x = cc in
      (subst (IsTakenBy names meanings step dd d.kind) (ap (λ (w : DdState). w.taken) is ∙ same) h.0, h.1)
  taken_changed dd (d ∷ ds) (z ∷ zs) (suc k) x y h e same = (h.0, taken_changed (dd + 1) ds zs k x y h.1 e same)

-- the list of DDs taken, one more or one changed, at a place
pub taken_at_more : (xs ys : List DdState) (k : ℕ) (t : TakenSet) → taken_at xs k ≡ Some t → taken_at (xs ++ ys) k ≡ Some t
taken_at_more [] ys k t e = absurd cc
taken_at_more (x ∷ xs) ys zero t e = e
taken_at_more (x ∷ xs) ys (suc k) t e = taken_at_more xs ys k t e

pub taken_at_changed : (xs : List DdState) (k : ℕ) (x y : DdState) (t : TakenSet) → slice_get xs k ≡ Some x → y.taken ≡ Some t →
    taken_at (slice_set xs k y) k ≡ Some t
taken_at_changed [] k x y t e same = absurd cc
taken_at_changed (z ∷ zs) zero x y t e same = same
taken_at_changed (z ∷ zs) (suc k) x y t e same = taken_at_changed zs k x y t e same

-- what is passed
module _ (P : Passed → Type 0) where
  pub all_more : (qs : List Passed) (q : Passed) → AllByRecursion P qs → P q → AllByRecursion P (qs ++ q ∷ [])
  all_more [] q h k = (k, tt)
  all_more (r ∷ qs) q h k = (h.0, all_more qs q h.1 k)

  pub all_changed : (f : Passed → Passed) → ((q : Passed) → P q → P (f q)) → (qs : List Passed) → AllByRecursion P qs → AllByRecursion P (map f qs)
  all_changed f keeps [] h = tt
  all_changed f keeps (q ∷ qs) h = (keeps q h.0, all_changed f keeps qs h.1)

  left_by_test : (b : Bool) (q : Passed) (qs rest : List Passed) → P q → AllByRecursion P qs → AllByRecursion P rest → AllByRecursion P (cond b qs (q ∷ rest))
  left_by_test true q qs rest h all more = all
  left_by_test false q qs rest h all more = (h, more)

  pub all_but_pass : (qs : List Passed) (n dd : ℕ) → AllByRecursion P qs → AllByRecursion P (without_pass qs n dd)
  all_but_pass [] n dd h = tt
  all_but_pass (q ∷ qs) n dd h = left_by_test (q.step == n && q.dd == dd) q qs (without_pass qs n dd) h.0 h.1 (all_but_pass qs n dd h.1)

  -- what a DD passed
  found_pass : (b : Bool) (r : Passed) (rest : Option Passed) (n dd : ℕ) (q : Passed) → (r.step == n && r.dd == dd) ≡ b → P r → cond b (Some r) rest ≡ Some q →
      (rest ≡ Some q → P q × (q.step ≡ n) × (q.dd ≡ dd)) → P q × (q.step ≡ n) × (q.dd ≡ dd)
  found_pass true r rest n dd q eb h e more =
      let is : r ≡ q = cc in
      let parts : ((r.step == n) ≡ true) × ((r.dd == dd) ≡ true) = and_parts (r.step == n) (r.dd == dd) eb in
      subst (λ (z : Passed). P z × (z.step ≡ n) × (z.dd ≡ dd)) is (h, eqb-true r.step n parts.0, eqb-true r.dd dd parts.1)
  found_pass false r rest n dd q eb h e more = more e

  pub passed_there : (qs : List Passed) (n dd : ℕ) (q : Passed) → AllByRecursion P qs → passed_by qs n dd ≡ Some q → P q × (q.step ≡ n) × (q.dd ≡ dd)
  passed_there [] n dd q h e = absurd cc
  passed_there (r ∷ qs) n dd q h e = found_pass (r.step == n && r.dd == dd) r (passed_by qs n dd) n dd q refl h.0 e (passed_there qs n dd q h.1)
