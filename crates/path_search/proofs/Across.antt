-- View by view a part is crossed: what is known behind it then.
use Rattle.std.proofs.Common.{◌≡◌, ◌⊎◌, inl, inr, ⊎_elim, ◌∷◌, ◌<◌, ◌≤◌, ◌+◌, ◌-◌, ◌∙◌, ◌++◌, List, [], length, drop, get_or, ℕ, zero, suc, Bool}
use Rattle.std.proofs.Common.{true, false, subst, sym, refl, ap, arith, Option, Some, None, replicate}
use Rattle.std.specs.Prelude.{Contains, All, IfSome, slice_get}
use Rattle.std.proofs.lemmas.Bool.{cases_eq}
use Rattle.std.proofs.lemmas.List.Elements.{All-contains, Contains-get_or}
use Rattle.std.proofs.lemmas.Option.{get_or_from_slice_get, slice_get_within}
use Rattle.plain.specs.Lists.{Differ}
use Rattle.jcl_plan.specs.declared.outcome.Outcome.{Outcome}
use Rattle.jcl_plan.specs.declared.plan.JobPlan.{JobPlan}
use Rattle.jcl_plan.specs.declared.plan.StepPlan.{StepPlan}
use Rattle.jcl_meaning.specs.declared.state.Place.{Place}
use Rattle.jcl_meaning.specs.Agendas.{path_agenda}
use Rattle.jcl_meaning.specs.Names.{names_of}
use Rattle.jcl_meaning.specs.Solo.{Ran, nothing_own, solo_path_of}
use Rattle.jcl_meaning.specs.States.{Fixed}
use Rattle.jcl_meaning.specs.Stores.{Store}
use Rattle.jcl_meaning.specs.Views.{IsViewAfter, View, ran_to}
use Rattle.part_laws.specs.Fits.{Fits}
use Rattle.path_meaning.specs.Paths.{Makes}
use Rattle.path_laws.specs.Paths.{part_ran}
use Rattle.view_domain.specs.declared.crossed.Crossed.{Crossed}
use Rattle.view_domain.specs.declared.crossed.Crossed.TheVariants as crossed
use Rattle.view_domain.specs.Crossings.{CameTo, IsCrossed}
use Rattle.path_laws.specs.PathParts.{next_outcome}
use Rattle.path_search.specs.declared.stops.Found.{Found}
use Rattle.path_search.specs.Crossings.{AreStopsNoted, IsAcross, IsAlong, IsCrossing, IsKnown, IsLinked, IsMet, IsNothing, Known, NoneBefore}
use Rattle.path_search.specs.Makings.{AreMarked, IsMarked, IsOfDd, made_of, no_rows, row_at}
use Rattle.path_search.specs.PathLaws.{PathLaws}
use Rattle.path_search.specs.Puts.{told_of}
use Rattle.path_search.specs.Stops.{with_crossed}
use Rattle.path_search.proofs.Along.{came_to, made_next}
use Rattle.path_search.proofs.Crossed.{crossed_before, crossed_known, crossed_links, crossed_met, known_stays, noted_crossed}
use Rattle.path_search.proofs.Putting.{puts_counted, puts_differ, puts_linked}

pub drop_inside : {X : Type 0} (k : ℕ) (xs : List X) → k < length xs → (x : X) × (rest : List X) × (drop k xs ≡ x ∷ rest)
drop_inside k [] l = absurd (omega arith)
drop_inside zero (x ∷ xs) l = (x, xs, refl)
drop_inside (suc k) (x ∷ xs) l = drop_inside k xs (omega arith)

pub at_inside : {X : Type 0} (xs : List X) (i : ℕ) → i < length xs → (x : X) × (slice_get xs i ≡ Some x)
at_inside [] i l = absurd (omega arith)
at_inside (x ∷ xs) zero l = (x, refl)
at_inside (x ∷ xs) (suc i) l = at_inside xs i (omega arith)

pub holds_at : {X : Type 0} (P : X → Type 0) (xs : List X) (i : ℕ) (x : X) → All P xs → slice_get xs i ≡ Some x → P x
holds_at P xs i x all at = subst P (get_or_from_slice_get xs i x x at) (all i x (slice_get_within xs i x at))

pub along_of : (fixed : Fixed) (plan : JobPlan) (store : Store) (k : ℕ) (view : View) (v : IsViewAfter fixed plan store k view) → IsAlong fixed plan
    store k view v.outcomes
along_of fixed plan store k view v = record { within = v.within; clean = v.without_fault; seen = v.seen }

none_in : {X : Type 0} (x : X) → Contains [] x → ⊥
none_in x h = let l = h.1 in omega arith

-- what is told as made was made
made_was : {V : Type 0} (meaning : V → View) (plan : JobPlan) (date k : ℕ) (there : List View) (o : Outcome) (ran : Ran) (x : Crossed V) (p : Place) →
    CameTo meaning plan date k there o ran x → Contains (made_of x) p → Contains ran.made p
made_was meaning plan date k there o ran (crossed.Stops stop) p came h = absurd (none_in p h)
made_was meaning plan date k there o ran crossed.Ends p came h = absurd (none_in p h)
made_was meaning plan date k there o ran (crossed.Passes f v) p came h = absurd (none_in p h)
made_was meaning plan date k there o ran (crossed.Runs made by_code by_abend) p came h = subst (λ (ps : List Place). Contains ps p) (sym came.1) h

-- nothing is known yet
no_row : (n i : ℕ) → row_at (no_rows n) i ≡ []
no_row zero i = refl
no_row (suc n) zero = refl
no_row (suc n) (suc i) = no_row n i

no_rows_count : (n : ℕ) → length (no_rows n) ≡ n
no_rows_count zero = refl
no_rows_count (suc n) = ap suc (no_rows_count n)

pub across_start : (fixed : Fixed) (plan : JobPlan) (store : Store) (k limit : ℕ) (before : List View) (known : Known) → k < length plan.steps →
    IsNothing plan k known → IsAcross fixed plan store k limit before 0 known
across_start fixed plan store k limit before known inside nothing = record {
  stops = record {
    none_before = λ number view outcomes l at along. absurd (omega arith);
    met = subst (λ (best : Option Found). IfSome best (IsMet fixed plan store k before)) (sym nothing.best) tt;
  };
  passed = λ number view outcomes l at along none. absurd (omega arith);
  linked = λ number view at. let within = slice_get_within known.views number view at in
      let empty : length known.views ≡ 0 = ap length nothing.views in absurd (omega arith);
  counted = ap length nothing.links ∙ sym (ap length nothing.views);
  different = subst (λ (vs : List View). Differ vs) (sym nothing.views) tt;
  made = λ dd serial h.
      let step = drop_inside k plan.steps inside in
      absurd (none_in serial (subst (λ (r : List (List ℕ)). Contains r serial)
      (ap (λ (rows : List (List (List ℕ))). row_at rows dd) (nothing.made step.0 step.1 step.2) ∙ no_row (length step.0.dds) dd) h));
  rows = λ step later e. ap length (nothing.made step later e) ∙ no_rows_count (length step.dds);
}

module _ (laws : PathLaws) (fixed : Fixed) (plan : JobPlan) (store : Store) (k : ℕ) (to_end : k ≤ length plan.steps)
    (job_tests : fixed.job_tests ≡ plan.tests.items)
    (fits : Fits (names_of plan) fixed.meanings (path_agenda plan) nothing_own)
    {V : Type 0} (meaning : V → View) (there : List View) (number : ℕ) (before : List View) (x : Crossed V)
    (covered : (view : View) → slice_get before number ≡ Some view → IsCrossed meaning plan fixed k there view x) where
  came : (view : View) (outcomes : List Outcome) → slice_get before number ≡ Some view → IsAlong fixed plan store k view outcomes →
      CameTo meaning plan fixed.date k there (next_outcome (drop k outcomes)) (part_ran fixed plan store k outcomes) x
  came view outcomes at along = came_to laws fixed plan store k to_end job_tests fits meaning there view x (covered view at) outcomes along

  -- stops
  pub stops_more : (view : View) (best : Option Found) → slice_get before number ≡ Some view → AreStopsNoted fixed plan store k before number best →
      AreStopsNoted fixed plan store k before (number + 1) (with_crossed number x best)
  stops_more view best at noted = record {
    none_before = λ n v outcomes l is along. ⊎_elim
        (λ e. crossed_before fixed plan k number meaning there (ran_to fixed plan store k outcomes).state (next_outcome (drop k outcomes)) x best
        (came v outcomes (subst (λ (i : ℕ). slice_get before i ≡ Some v) e is) along))
        (λ other. noted_crossed fixed plan k number meaning there (ran_to fixed plan store k outcomes).state x best
        (noted.none_before n v outcomes (omega (arith, other, l)) is along))
        (cases_eq n number);
    met = crossed_met laws fixed plan store k to_end job_tests fits meaning there view number before at x best (covered view at) noted.met;
  }

  -- sets are made for the DDs of the step
  made_by : (view : View) (p : Place) (step : StepPlan) (later : List StepPlan) → drop k plan.steps ≡ step ∷ later → slice_get before number ≡ Some view →
      (v : IsViewAfter fixed plan store k view) → Contains (made_of x) p →
      Contains (part_ran fixed plan store k v.outcomes).made p × (p.step ≡ k + 1) × (1 ≤ p.dd) × (p.dd ≤ length step.dds)
  made_by view p step later e at v h =
      let was = made_was meaning plan fixed.date k there (next_outcome (drop k v.outcomes)) (part_ran fixed plan store k v.outcomes) x p
      (came view v.outcomes at (along_of fixed plan store k view v)) h in
      let facts = laws.made plan fixed k step later (ran_to fixed plan store k v.outcomes).state p e was in
      (was, facts.0, facts.1, facts.2)

  pub made_dds : (view : View) (step : StepPlan) (later : List StepPlan) (count : ℕ) → drop k plan.steps ≡ step ∷ later → count ≡ length step.dds →
      slice_get before number ≡ Some view → IsViewAfter fixed plan store k view → All (IsOfDd count) (made_of x)
  made_dds view step later count e same at v = λ i d l.
      let f = made_by view (get_or (made_of x) i d) step later e at v (Contains-get_or (made_of x) i d l) in
      (f.2, omega (arith, same, f.3))

  makes : k < length plan.steps → (view : View) (p : Place) (dd : ℕ) (serial : List ℕ) → slice_get before number ≡ Some view →
      IsViewAfter fixed plan store k view → Contains (made_of x) p → p.dd ≡ dd + 1 → p.serial ≡ serial →
      Makes fixed plan store (record { step = k + 1; dd = dd + 1; serial = serial })
  makes inside view p dd serial at v h same equal =
      let step = drop_inside k plan.steps inside in
      let f = made_by view p step.0 step.1 step.2 at v h in
      let q : p ≡ record { step = k + 1; dd = dd + 1; serial = serial } = place_is p (k + 1) (dd + 1) serial f.1 same equal in
      record {
        outcomes = v.outcomes;
        within = v.within;
        made = subst (λ (y : Place). Contains (solo_path_of fixed plan store v.outcomes).made y) q
            (made_next laws fixed plan store k to_end job_tests fits v.outcomes inside p f.0);
      }
    where
      place_is : (p : Place) (n d : ℕ) (s : List ℕ) → p.step ≡ n → p.dd ≡ d → p.serial ≡ s → p ≡ record { step = n; dd = d; serial = s }
      place_is p n d s a b c =
          subst (λ (m : ℕ). p ≡ record { step = m; dd = d; serial = s }) a
          (subst (λ (m : ℕ). p ≡ record { step = p.step; dd = m; serial = s }) b
          (subst (λ (t : List ℕ). p ≡ record { step = p.step; dd = p.dd; serial = t }) c refl))

  -- all that is known
  module _ (limit : ℕ) (old new : Known) (same : there ≡ old.views) (inside : k < length plan.steps) (view : View) (at : slice_get before number ≡ Some view)
      (seen : IsViewAfter fixed plan store k view) (is : IsCrossing meaning plan fixed k limit number before x old new)
      (across : IsAcross fixed plan store k limit before number old) where
    no_end : drop k plan.steps ≡ [] → ⊥
    no_end e = let step = drop_inside k plan.steps inside in let f : [] ≡ step.0 ∷ step.1 = sym e ∙ step.2 in absurd (cc)

    pub across_more : IsAcross fixed plan store k limit before (number + 1) new
    across_more = record {
      stops = subst (λ (best : Option Found). AreStopsNoted fixed plan store k before (number + 1) best) (sym is.best)
          (stops_more view old.best at across.stops);
      passed = λ n v outcomes l at_n along none. ⊎_elim
          (λ e. crossed_known plan fixed.date k limit number meaning old new (next_outcome (drop k outcomes)) (part_ran fixed plan store k outcomes)
          none across.counted x no_end
          (subst (λ (vs : List View). CameTo meaning plan fixed.date k vs (next_outcome (drop k outcomes)) (part_ran fixed plan store k outcomes) x) same
          (came v outcomes (subst (λ (i : ℕ). slice_get before i ≡ Some v) e at_n) along))
          is.put is.made)
          (λ other. known_stays plan fixed.date k limit old new (told_of meaning number x) (made_of x) (part_ran fixed plan store k outcomes) is.put is.made
          (across.passed n v outcomes (omega (arith, other, l)) at_n along none))
          (cases_eq n number);
      linked = puts_linked (λ v link. IsLinked fixed plan store k before v link) limit (told_of meaning number x) old.views new.views old.links
          new.links is.put across.counted
          (crossed_links laws fixed plan store k to_end job_tests fits meaning there view number before at inside x (covered view at)) across.linked;
      counted = puts_counted limit (told_of meaning number x) old.views new.views old.links new.links is.put across.counted;
      different = puts_differ limit (told_of meaning number x) old.views new.views old.links new.links is.put across.different;
      made = λ dd serial h. ⊎_elim (λ was. across.made dd serial was) (λ p. makes inside view p.0 dd serial at seen p.1 p.2 p.3) (is.made.only dd serial h);
      rows = λ step later e. is.made.count ∙ across.rows step later e;
    }
