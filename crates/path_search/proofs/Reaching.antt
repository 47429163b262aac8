-- Step by step a search goes on, to the job's end.
use Rattle.std.proofs.Common.{◌≡◌, ◌⊎◌, inl, inr, ⊎_elim, ◌∷◌, ◌<◌, ◌≤◌, ◌+◌, ◌-◌, ◌∙◌, ◌++◌, ◌==◌, List, [], length, drop, get_or, ℕ, zero, suc}
use Rattle.std.proofs.Common.{Bool, true, false, subst, sym, refl, ap, arith, map, Option, Some, None, length-append, add-one}
use Rattle.std.specs.Prelude.{Contains, All, IfSome, slice_get}
use Rattle.std.proofs.lemmas.Bool.{cases_eq}
use Rattle.std.proofs.lemmas.List.Elements.{All-nil, All-append, All-contains, All-weaker, Contains-append_cases, Contains-append_left, Contains-append_right}
use Rattle.std.proofs.lemmas.Option.{slice_get-get_or}
use Rattle.jcl_plan.specs.declared.outcome.Outcome.{Outcome}
use Rattle.jcl_plan.specs.declared.plan.JobPlan.{JobPlan}
use Rattle.jcl_meaning.specs.declared.state.Place.{Place}
use Rattle.jcl_meaning.specs.Agendas.{path_agenda}
use Rattle.jcl_meaning.specs.History.{IsStepOutcome}
use Rattle.jcl_meaning.specs.Names.{names_of}
use Rattle.jcl_meaning.specs.Solo.{Met, Ran, at_start, given, is_clean, nothing_own, run, solo_path_of}
use Rattle.jcl_meaning.specs.States.{Fixed}
use Rattle.jcl_meaning.specs.Stores.{Store}
use Rattle.jcl_meaning.specs.Views.{IsViewAfter, View, ran_to, view_at, view_of}
use Rattle.meaning_laws.specs.Laws.{behind, joined}
use Rattle.part_laws.specs.Fits.{Fits}
use Rattle.path_meaning.specs.Paths.{HasMoreViews, Makes}
use Rattle.path_meaning.specs.Verdicts.{AreRising, FewViewsUpTo, IsFirstWithMore, IsFree, NoFaultUpTo}
use Rattle.path_laws.specs.Paths.{AreAllViews, before_part, part_ran}
use Rattle.path_search.specs.declared.stops.Found.{Found}
use Rattle.path_search.specs.declared.trail.Link.{Link}
use Rattle.path_search.specs.Crossings.{AreStopsNoted, IsAcross, IsAlong, IsLinked, Known, LeadsTo, NoneBefore}
use Rattle.path_search.specs.Makings.{AreAdded, IsMarked, IsOfStep}
use Rattle.path_search.specs.PathLaws.{PathLaws}
use Rattle.path_search.specs.Reached.{IsReached}
use Rattle.path_search.specs.Trails.{link_at, link_in, path_at}
use Rattle.path_search.proofs.Across.{drop_inside, holds_at}
use Rattle.path_search.proofs.Along.{clean_next, none_of, view_next, whole}
use Rattle.path_search.proofs.Rising.{rising_append}

-- before the first step
pub reached_start : (fixed : Fixed) (plan : JobPlan) (store : Store) (limit : ℕ) (views : List View) →
    views ≡ view_at plan 0 fixed.date (at_start store (given [])) ∷ [] → IsReached fixed plan store limit 0 views 1 [] []
unfolding run
reached_start fixed plan store limit views is = record {
  none_met = λ outcomes within. refl;
  all = λ outcomes within clean. subst (λ (vs : List View). Contains vs (view_of fixed plan store 0 outcomes)) (sym is) (0, omega arith, refl);
  leads = λ number view at. by number view (subst (λ (vs : List View). slice_get vs number ≡ Some view) is at);
  few = λ n low high more. omega arith;
  counted = sym (ap length is);
  deep = refl;
  made = All-nil _;
  makings = λ p outcomes within h. h;
  rising = tt;
  past = All-nil _;
}
  where
    by : (number : ℕ) (view : View) → slice_get (view_at plan 0 fixed.date (at_start store (given [])) ∷ []) number ≡ Some view →
        LeadsTo fixed plan store 0 (path_at [] 0 number) view
    by zero view at = record {
      outcomes = [];
      along = record { within = All-nil _; clean = refl; seen = let e : view_at plan 0 fixed.date (at_start store (given [])) ≡ view = cc in sym e };
      count = refl;
      shown = refl;
    }
    by (suc n) view at = absurd (cc)

-- a level more does not change the paths to those before
path_more : (levels : List (List Link)) (links : List Link) (k number : ℕ) → k ≤ length levels → path_at (levels ++ links ∷ []) k number ≡ path_at
    levels k number
path_more levels links zero number within = refl
path_more levels links (suc k) number within =
    let same : link_in (levels ++ links ∷ []) k number ≡ link_in levels k number = ap (λ (ls : List Link). link_at ls number) (early levels k (omega arith)) in
    ap (λ (l : Link). path_at (levels ++ links ∷ []) k l.parent ++ l.outcome ∷ []) same
    ∙ ap (λ (ps : List Outcome). ps ++ (link_in levels k number).outcome ∷ []) (path_more levels links k (link_in levels k number).parent (omega arith))
  where
    early : (ls : List (List Link)) (i : ℕ) → i < length ls → get_or (ls ++ links ∷ []) i [] ≡ get_or ls i []
    early [] i l = absurd (omega arith)
    early (x ∷ xs) zero l = refl
    early (x ∷ xs) (suc i) l = early xs i (omega arith)

path_last : (levels : List (List Link)) (links : List Link) (k number : ℕ) → length levels ≡ k →
    path_at (levels ++ links ∷ []) (k + 1) number ≡ path_at levels k (link_at links number).parent ++ (link_at links number).outcome ∷ []
path_last levels links k number deep =
    let one : k + 1 ≡ suc k = omega arith in
    let last : link_in (levels ++ links ∷ []) k number ≡ link_at links number = ap (λ (ls : List Link). link_at ls number)
    (subst (λ (i : ℕ). get_or (levels ++ links ∷ []) i [] ≡ links) deep (at_end levels)) in
    ap (λ (i : ℕ). path_at (levels ++ links ∷ []) i number) one
    ∙ ap (λ (l : Link). path_at (levels ++ links ∷ []) k l.parent ++ l.outcome ∷ []) last
    ∙ ap (λ (ps : List Outcome). ps ++ (link_at links number).outcome ∷ []) (path_more levels links k (link_at links number).parent (omega (arith, deep)))
  where
    at_end : (ls : List (List Link)) → get_or (ls ++ links ∷ []) (length ls) [] ≡ links
    at_end [] = refl
    at_end (x ∷ xs) = at_end xs

pub view_after : (fixed : Fixed) (plan : JobPlan) (store : Store) (k : ℕ) (path : List Outcome) (view : View) → LeadsTo fixed plan store k path view →
    IsViewAfter fixed plan store k view
view_after fixed plan store k path view lead =
    record { outcomes = lead.outcomes; within = lead.along.within; without_fault = lead.along.clean; seen = lead.along.seen }

module _ (laws : PathLaws) (fixed : Fixed) (plan : JobPlan) (store : Store) (k : ℕ) (to_end : k ≤ length plan.steps)
    (job_tests : fixed.job_tests ≡ plan.tests.items)
    (fits : Fits (names_of plan) fixed.meanings (path_agenda plan) nothing_own)
    (limit count : ℕ) (views : List View) (levels : List (List Link)) (places : List Place)
    (reached : IsReached fixed plan store limit k views count levels places) where
  pub all_seen : All (IsViewAfter fixed plan store k) views
  all_seen = λ i d l. view_after fixed plan store k (path_at levels k i) (get_or views i d) (reached.leads i (get_or views i d) (slice_get-get_or views i d l))

  along : (outcomes : List Outcome) → All IsStepOutcome outcomes → IsAlong fixed plan store k (view_of fixed plan store k outcomes) outcomes
  along outcomes within = record { within = within; clean = reached.none_met outcomes within; seen = refl }

  place_in : (outcomes : List Outcome) → All IsStepOutcome outcomes → (i : ℕ) × (i < count) × (slice_get views i ≡ Some (view_of fixed plan store k outcomes))
  place_in outcomes within =
      let there = reached.all outcomes within (reached.none_met outcomes within) in
      let count = reached.counted in
      (there.0, omega (arith, count, there.1), slice_get-get_or views there.0 (view_of fixed plan store k outcomes) there.1 ∙ ap Some there.2)

  pub before_stop : (best : Option Found) → AreStopsNoted fixed plan store k views count best → (outcomes : List Outcome) → All IsStepOutcome outcomes →
      NoneBefore best (part_ran fixed plan store k outcomes).faults
  before_stop best noted outcomes within =
      let place = place_in outcomes within in
      noted.none_before place.0 (view_of fixed plan store k outcomes) outcomes place.1 place.2 (along outcomes within)

  none_in_part : (best : Option Found) → AreStopsNoted fixed plan store k views count best → best ≡ None → (outcomes : List Outcome) →
      All IsStepOutcome outcomes → (part_ran fixed plan store k outcomes).faults ≡ []
  none_in_part best noted none outcomes within =
      subst (λ (b : Option Found). NoneBefore b (part_ran fixed plan store k outcomes).faults) none (before_stop best noted outcomes within)

  -- a part without a stop
  module _ (known : Known) (across : IsAcross fixed plan store k limit views count known) (none : known.best ≡ None) (inside : k < length plan.steps) where
    clean_part : (outcomes : List Outcome) → All IsStepOutcome outcomes → (part_ran fixed plan store k outcomes).faults ≡ []
    clean_part outcomes within = none_in_part known.best across.stops none outcomes within

    none_met_next : NoFaultUpTo fixed plan store (k + 1)
    none_met_next outcomes within =
        clean_next laws fixed plan store k to_end job_tests fits outcomes inside (reached.none_met outcomes within) (clean_part outcomes within)

    leads_next : (number : ℕ) (view : View) → slice_get known.views number ≡ Some view →
        LeadsTo fixed plan store (k + 1) (path_at (levels ++ known.links ∷ []) (k + 1) number) view
    leads_next number view at =
        let link = across.linked number view at in
        subst (λ (path : List Outcome). LeadsTo fixed plan store (k + 1) path view) (sym (path_last levels known.links k number reached.deep))
        (link.leads (path_at levels k (link_at known.links number).parent) (reached.leads (link_at known.links number).parent link.parent link.there))

    pub too_many : limit < length known.links → IsFirstWithMore fixed plan store limit (k + 1)
    too_many more = record {
      from_one = omega arith;
      to_last = omega (arith, inside);
      more = record {
        views = known.views;
        seen = λ i d l. view_after fixed plan store (k + 1) (path_at (levels ++ known.links ∷ []) (k + 1) i) (get_or known.views i d)
            (leads_next i (get_or known.views i d) (slice_get-get_or known.views i d l));
        different = across.different;
        more = let same = across.counted in omega (arith, same, more);
      };
      few = let back : k ≡ (k + 1) - 1 = omega arith in subst (λ (n : ℕ). FewViewsUpTo fixed plan store limit n) back reached.few;
      none_met = none_met_next;
    }

    all_next : length known.links ≤ limit → AreAllViews fixed plan store (k + 1) known.views
    all_next few outcomes within clean =
        let place = place_in outcomes within in
        let is = across.passed place.0 (view_of fixed plan store k outcomes) outcomes place.1 place.2 (along outcomes within) (clean_part outcomes within) in
        let same = across.counted in
        subst (λ (v : View). Contains known.views v) (sym (view_next laws fixed plan store k to_end job_tests fits outcomes inside))
        (is.stands (omega (arith, same, few)))

    module _ (after : List Place) (added : AreAdded fixed.volumes (k + 1) known.made places after) where
      place_is : (p : Place) (n d : ℕ) → p.step ≡ n → p.dd ≡ d → p ≡ record { step = n; dd = d; serial = p.serial }
      place_is p n d a b =
          subst (λ (m : ℕ). p ≡ record { step = m; dd = d; serial = p.serial }) a
          (subst (λ (m : ℕ). p ≡ record { step = p.step; dd = m; serial = p.serial }) b refl)

      made_more : (p : Place) → IsOfStep (k + 1) known.made p → Makes fixed plan store p
      made_more p is =
          let back : p.dd ≡ (p.dd - 1) + 1 = let low = is.from_one in omega (arith, low) in
          subst (λ (q : Place). Makes fixed plan store q) (sym (place_is p (k + 1) ((p.dd - 1) + 1) is.of_step back))
          (across.made (p.dd - 1) p.serial is.marked)

      makings_next : (p : Place) (outcomes : List Outcome) → All IsStepOutcome outcomes → Contains (ran_to fixed plan store (k + 1) outcomes).made p →
          Contains after p
      makings_next p outcomes within h =
          let ran = ran_to fixed plan store k outcomes in
          let part = part_ran fixed plan store k outcomes in
          subst (λ (ps : List Place). Contains ps p) (sym added.added)
          (⊎_elim
          (λ was. Contains-append_left places added.more p (reached.makings p outcomes within was))
          (λ new. Contains-append_right places added.more p (in_more new))
          (Contains-append_cases ran.made part.made p
          (subst (λ (r : Ran). Contains r.made p) (whole laws fixed plan store k to_end job_tests fits outcomes inside) h)))
        where
          in_more : Contains (part_ran fixed plan store k outcomes).made p → Contains added.more p
          in_more new =
              let place = place_in outcomes within in
              let is = across.passed place.0 (view_of fixed plan store k outcomes) outcomes place.1 place.2 (along outcomes within)
              (clean_part outcomes within) in
              let marked : IsMarked known.made (p.dd - 1) p.serial =
              All-contains (λ (q : Place). IsMarked known.made (q.dd - 1) q.serial) (part_ran fixed plan store k outcomes).made p is.made new in
              let step = drop_inside k plan.steps inside in
              let facts = laws.made plan fixed k step.0 step.1 (ran_to fixed plan store k outcomes).state p step.2 new in
              let back : p.dd ≡ (p.dd - 1) + 1 = omega (arith, facts.1) in
              subst (λ (q : Place). Contains added.more q) (sym (place_is p (k + 1) ((p.dd - 1) + 1) facts.0 back))
              (added.all (p.dd - 1) p.serial marked facts.3)

      pub reached_next : length known.links ≤ limit → IsReached fixed plan store limit (k + 1) known.views (length known.links)
          (levels ++ known.links ∷ []) after
      reached_next few = record {
        none_met = none_met_next;
        all = all_next few;
        leads = leads_next;
        few = λ n low high more. ⊎_elim
            (λ e. laws.few fixed plan store (k + 1) limit known.views (all_next few) (let same = across.counted in omega (arith, same, few))
            (subst (λ (m : ℕ). HasMoreViews fixed plan store m limit) e more))
            (λ other. reached.few n low (omega (arith, other, high)) more)
            (cases_eq n (k + 1));
        counted = across.counted;
        deep = length-append levels (known.links ∷ []) ∙ ap (λ n. n + 1) reached.deep;
        made = subst (λ (ps : List Place). All (Makes fixed plan store) ps) (sym added.added)
            (All-append (Makes fixed plan store) places added.more reached.made
            (All-weaker (IsOfStep (k + 1) known.made) (Makes fixed plan store) (λ p is. made_more p is) added.more added.each));
        makings = makings_next;
        rising = subst (λ (ps : List Place). AreRising fixed.volumes ps) (sym added.added)
            (rising_append fixed.volumes places added.more reached.rising added.rising (λ p q h j.
            let old : p.step ≤ k = All-contains (λ (x : Place). x.step ≤ k) places p reached.past h in
            let new : q.step ≡ k + 1 = (All-contains (IsOfStep (k + 1) known.made) added.more q added.each j).of_step in
            inl (omega (arith, old, new))));
        past = subst (λ (ps : List Place). All (λ p. p.step ≤ k + 1) ps) (sym added.added)
            (All-append (λ (p : Place). p.step ≤ k + 1) places added.more
            (All-weaker (λ (p : Place). p.step ≤ k) (λ (p : Place). p.step ≤ k + 1) (λ p l. omega arith) places reached.past)
            (All-weaker (IsOfStep (k + 1) known.made) (λ (p : Place). p.step ≤ k + 1) (λ p is. let e = is.of_step in omega (arith, e)) added.more added.each));
      }

  -- behind the last step, and the job's end
  pub is_free : k ≡ length plan.steps → (best : Option Found) → AreStopsNoted fixed plan store k views count best → best ≡ None →
      IsFree fixed plan store limit places
  is_free end best noted none = record {
    safe = λ outcomes within. ap is_clean (ended outcomes) ∙ clean outcomes within;
    few = subst (λ (n : ℕ). FewViewsUpTo fixed plan store limit n) end reached.few;
    made = record {
      made = reached.made;
      all = λ p makes. reached.makings p makes.outcomes makes.within (before p makes.outcomes makes.made);
      rising = reached.rising;
    };
  }
    where
      ended : (outcomes : List Outcome) → solo_path_of fixed plan store outcomes ≡ joined (before_part plan k) (ran_to fixed plan store k outcomes)
          (part_ran fixed plan store k outcomes)
      ended outcomes = subst (λ (n : ℕ). solo_path_of fixed plan store outcomes ≡ joined (before_part plan n) (ran_to fixed plan store n outcomes)
          (part_ran fixed plan store n outcomes))
          (sym end) (laws.ends fixed plan store outcomes)

      clean : (outcomes : List Outcome) → All IsStepOutcome outcomes →
          is_clean (joined (before_part plan k) (ran_to fixed plan store k outcomes) (part_ran fixed plan store k outcomes)) ≡ true
      clean outcomes within =
          let before = none_of (ran_to fixed plan store k outcomes).faults (reached.none_met outcomes within) in
          ap (λ (fs : List Met). length (fs ++ map (behind (before_part plan k)) (part_ran fixed plan store k outcomes).faults) == 0) before
          ∙ ap (λ (fs : List Met). length (map (behind (before_part plan k)) fs) == 0) (none_in_part best noted none outcomes within)

      before : (p : Place) (outcomes : List Outcome) → Contains (solo_path_of fixed plan store outcomes).made p → Contains
          (ran_to fixed plan store k outcomes).made p
      before p outcomes h = ⊎_elim (λ l. l) (λ r. absurd (none_there p (subst (λ (ps : List Place). Contains ps p) (no_made outcomes) r)))
          (Contains-append_cases (ran_to fixed plan store k outcomes).made (part_ran fixed plan store k outcomes).made p
          (subst (λ (r : Ran). Contains r.made p) (ended outcomes) h))
        where
          none_there : (p : Place) → Contains [] p → ⊥
          none_there p h = let l = h.1 in omega arith

          no_made : (outcomes : List Outcome) → (part_ran fixed plan store k outcomes).made ≡ []
          no_made outcomes = subst (λ (n : ℕ). (part_ran fixed plan store n outcomes).made ≡ []) (sym end)
              (laws.none_made plan fixed (ran_to fixed plan store (length plan.steps) outcomes).state)
