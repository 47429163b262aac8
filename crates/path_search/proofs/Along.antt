-- Outcomes along which a view is seen behind the first steps, and what the next part does along them.
use Rattle.std.proofs.Common.{◌≡◌, ◌∷◌, ◌<◌, ◌≤◌, ◌+◌, ◌∙◌, ◌++◌, ◌==◌, List, [], length, drop, ℕ, zero, suc, Bool, true, false, subst, sym, refl, ap}
use Rattle.std.proofs.Common.{arith, map, length-append}
use Rattle.std.specs.Prelude.{Contains, All}
use Rattle.std.specs.List.{filter_map}
use Rattle.std.proofs.Math.Seq.{drop-append_seam}
use Rattle.std.proofs.lemmas.Bool.{eqb-true}
use Rattle.std.proofs.lemmas.List.Elements.{All-drop, All-head, All-push, Contains-append_left, Contains-append_right, filter_map-append}
use Rattle.jcl_plan.specs.declared.outcome.Fate.{Fate}
use Rattle.jcl_plan.specs.declared.outcome.Outcome.{Outcome}
use Rattle.jcl_plan.specs.declared.outcome.Outcome.TheVariants as outcome
use Rattle.jcl_plan.specs.declared.plan.JobPlan.{JobPlan}
use Rattle.jcl_meaning.specs.declared.state.Place.{Place}
use Rattle.jcl_meaning.specs.Agendas.{path_agenda}
use Rattle.jcl_meaning.specs.EndActs.{as_ending}
use Rattle.jcl_meaning.specs.History.{IsStepOutcome}
use Rattle.jcl_meaning.specs.Names.{names_of}
use Rattle.jcl_meaning.specs.RequestActs.{head_or}
use Rattle.jcl_meaning.specs.Solo.{Met, Ran, is_clean, nothing_own, run, solo_path_of}
use Rattle.jcl_meaning.specs.States.{Fixed}
use Rattle.jcl_meaning.specs.Stores.{Store}
use Rattle.jcl_meaning.specs.Views.{IsViewAfter, View, ran_to, view_at, view_of}
use Rattle.meaning_laws.specs.Laws.{behind, joined}
use Rattle.part_laws.specs.Fits.{Fits}
use Rattle.path_meaning.specs.Paths.{Makes, fate_told, fates_in, path_shown, shown_of}
use Rattle.path_laws.specs.Paths.{before_part, part_ran}
use Rattle.view_domain.specs.declared.crossed.Crossed.{Crossed}
use Rattle.view_domain.specs.declared.crossed.Move.{Move}
use Rattle.view_domain.specs.Crossings.{CameTo, ComesFrom, IsCrossed}
use Rattle.path_laws.specs.PathParts.{next_outcome}
use Rattle.path_laws.specs.ViewLaws.{DidTheSame}
use Rattle.path_search.specs.Crossings.{IsAlong, LeadsTo}
use Rattle.path_search.specs.PathLaws.{PathLaws}

-- the next of outcomes that steps may have is one
next_within : (outcomes : List Outcome) → All IsStepOutcome outcomes → IsStepOutcome (next_outcome outcomes)
next_within [] h = omega arith
next_within (outcome.Code c ∷ os) h = All-head IsStepOutcome (outcome.Code c) os h
next_within (outcome.Abend a ∷ os) h = tt
next_within (outcome.Bypassed ∷ os) h = omega arith
next_within (outcome.Flushed ∷ os) h = omega arith

pub none_of : (faults : List Met) → (length faults == 0) ≡ true → faults ≡ []
none_of [] h = refl
none_of (m ∷ ms) h = let e : suc (length ms) ≡ 0 = eqb-true (suc (length ms)) 0 h in absurd (omega arith)

-- what stands at a place of a list does not depend on what is put behind it
head_before : (n : ℕ) (xs ys : List Outcome) (d : Outcome) → n < length xs → head_or d (drop n xs) ≡ head_or d (drop n (xs ++ ys))
head_before n [] ys d l = absurd (omega arith)
head_before zero (x ∷ xs) ys d l = refl
head_before (suc n) (x ∷ xs) ys d l = head_before n xs ys d (omega arith)

pub shown_push : (fates : List Fate) (outcomes : List Outcome) (f : Fate) (o : Outcome) → length fates ≡ length outcomes →
    path_shown (fates ++ f ∷ []) (outcomes ++ o ∷ []) ≡ path_shown fates outcomes ++ shown_of f o ∷ []
shown_push [] [] f o same = refl
shown_push [] (p ∷ ps) f o same = absurd (omega arith)
shown_push (g ∷ gs) [] f o same = absurd (omega arith)
shown_push (g ∷ gs) (p ∷ ps) f o same = ap (λ (ps : List Outcome). shown_of g p ∷ ps) (shown_push gs ps f o (omega arith))

pub shown_early : (fates : List Fate) (outcomes more : List Outcome) → length fates ≡ length outcomes →
    path_shown fates (outcomes ++ more) ≡ path_shown fates outcomes
shown_early [] outcomes more same = refl
shown_early (g ∷ gs) [] more same = absurd (omega arith)
shown_early (g ∷ gs) (p ∷ ps) more same = ap (λ (qs : List Outcome). shown_of g p ∷ qs) (shown_early gs ps more (omega arith))

module _ (laws : PathLaws) (fixed : Fixed) (plan : JobPlan) (store : Store) (k : ℕ) (to_end : k ≤ length plan.steps)
    (job_tests : fixed.job_tests ≡ plan.tests.items)
    (fits : Fits (names_of plan) fixed.meanings (path_agenda plan) nothing_own) where
  pub came_to : {V : Type 0} (meaning : V → View) (there : List View) (view : View) (crossed : Crossed V) →
      IsCrossed meaning plan fixed k there view crossed → (outcomes : List Outcome) → IsAlong fixed plan store k view outcomes →
      CameTo meaning plan fixed.date k there (next_outcome (drop k outcomes)) (part_ran fixed plan store k outcomes) crossed
  came_to meaning there view crossed is outcomes along =
      let fit = laws.fits fixed plan store k outcomes to_end fits in
      is.covered (ran_to fixed plan store k outcomes).state (drop k outcomes) fit.0 along.seen
      (laws.stands fixed plan store k outcomes to_end along.clean)
      (next_within (drop k outcomes) (All-drop IsStepOutcome k outcomes along.within)) fit.1

  pub comes_from : {V : Type 0} (meaning : V → View) (view : View) (move : Move V) → ComesFrom meaning plan fixed k view move →
      (outcomes : List Outcome) → IsAlong fixed plan store k view outcomes → next_outcome (drop k outcomes) ≡ move.outcome →
      meaning move.view ≡ view_at plan (k + 1) fixed.date (part_ran fixed plan store k outcomes).state
  comes_from meaning view move from outcomes along next =
      let fit = laws.fits fixed plan store k outcomes to_end fits in
      from (ran_to fixed plan store k outcomes).state (drop k outcomes) fit.0 along.seen (laws.stands fixed plan store k outcomes to_end along.clean) fit.1 next

  -- one outcome more
  module _ (view : View) (outcomes : List Outcome) (o : Outcome) (count : length outcomes ≡ k) (along : IsAlong fixed plan store k view outcomes) where
    abbrev pub longer : List Outcome
    longer = outcomes ++ o ∷ []

    same : DidTheSame plan fixed.date k (ran_to fixed plan store k outcomes) (ran_to fixed plan store k longer)
    same = laws.sees fixed plan store k outcomes longer to_end job_tests fits
        (λ n l. ap as_ending (head_before n outcomes (o ∷ []) (outcome.Code 0) (omega (arith, count, l)))) along.clean

    pub with_one : IsStepOutcome o → IsAlong fixed plan store k view longer
    with_one is = record {
      within = All-push IsStepOutcome outcomes o along.within is;
      clean = ap (λ (fs : List Met). length fs == 0) (sym same.faults) ∙ along.clean;
      seen = along.seen ∙ same.view;
    }

    pub same_fates : fates_in (ran_to fixed plan store k longer).lines ≡ fates_in (ran_to fixed plan store k outcomes).lines
    same_fates = sym same.fates

    pub next_is : next_outcome (drop k longer) ≡ as_ending o
    next_is = ap next_outcome (subst (λ (n : ℕ). drop n longer ≡ o ∷ []) count (drop-append_seam outcomes (o ∷ [])))

  -- and the part is behind
  module _ (outcomes : List Outcome) (inside : k < length plan.steps) where
    pub whole : ran_to fixed plan store (k + 1) outcomes ≡ joined (before_part plan k) (ran_to fixed plan store k outcomes)
        (part_ran fixed plan store k outcomes)
    whole = laws.goes_on fixed plan store k outcomes inside

    pub clean_next : is_clean (ran_to fixed plan store k outcomes) ≡ true → (part_ran fixed plan store k outcomes).faults ≡ [] →
        is_clean (ran_to fixed plan store (k + 1) outcomes) ≡ true
    clean_next clean none =
        let before = none_of (ran_to fixed plan store k outcomes).faults clean in
        ap is_clean whole ∙ ap (λ (fs : List Met). length (fs ++ map (behind (before_part plan k)) (part_ran fixed plan store k outcomes).faults) == 0) before
        ∙ ap (λ (fs : List Met). length (map (behind (before_part plan k)) fs) == 0) none

    pub view_next : view_of fixed plan store (k + 1) outcomes ≡ view_at plan (k + 1) fixed.date (part_ran fixed plan store k outcomes).state
    view_next = ap (λ (r : Ran). view_at plan (k + 1) fixed.date r.state) whole

    pub fates_next : fates_in (ran_to fixed plan store (k + 1) outcomes).lines
        ≡ fates_in (ran_to fixed plan store k outcomes).lines ++ fates_in (part_ran fixed plan store k outcomes).lines
    fates_next = ap (λ (r : Ran). fates_in r.lines) whole
        ∙ filter_map-append fate_told (ran_to fixed plan store k outcomes).lines (part_ran fixed plan store k outcomes).lines

    pub made_next : (p : Place) → Contains (part_ran fixed plan store k outcomes).made p → Contains (solo_path_of fixed plan store outcomes).made p
    made_next p h =
        let begins = laws.begins fixed plan store (k + 1) outcomes in
        subst (λ (r : Ran). Contains r.made p) (sym begins.1)
        (Contains-append_left (ran_to fixed plan store (k + 1) outcomes).made begins.0.made p
        (subst (λ (r : Ran). Contains r.made p) (sym whole)
        (Contains-append_right (ran_to fixed plan store k outcomes).made (part_ran fixed plan store k outcomes).made p h)))

  -- a path goes on over a part without a fault
  pub leads_on : (path : List Outcome) (parent view : View) (o : Outcome) (f : Fate) (lead : LeadsTo fixed plan store k path parent) → k < length plan.steps →
      IsStepOutcome o → (part_ran fixed plan store k (lead.outcomes ++ o ∷ [])).faults ≡ [] →
      fates_in (part_ran fixed plan store k (lead.outcomes ++ o ∷ [])).lines ≡ f ∷ [] →
      view ≡ view_at plan (k + 1) fixed.date (part_ran fixed plan store k (lead.outcomes ++ o ∷ [])).state →
      LeadsTo fixed plan store (k + 1) (path ++ shown_of f o ∷ []) view
  leads_on path parent view o f lead inside is none fate seen =
      let os = lead.outcomes in
      let along = with_one parent os o lead.count lead.along is in
      let fates : List Fate = fates_in (ran_to fixed plan store k os).lines in
      let count : length fates ≡ length os = laws.fates fixed plan store k os to_end lead.along.clean ∙ sym lead.count in
      let told : fates_in (ran_to fixed plan store (k + 1) (os ++ o ∷ [])).lines ≡ fates ++ f ∷ [] =
      fates_next (os ++ o ∷ []) inside
      ∙ ap (λ (fs : List Fate). fs ++ fates_in (part_ran fixed plan store k (os ++ o ∷ [])).lines) (same_fates parent os o lead.count lead.along)
      ∙ ap (λ (fs : List Fate). fates ++ fs) fate in
      record {
        outcomes = os ++ o ∷ [];
        along = record {
          within = along.within;
          clean = clean_next (os ++ o ∷ []) inside along.clean none;
          seen = seen ∙ sym
              (view_next (os ++ o ∷ []) inside);
        };
        count = length-append os (o ∷ []) ∙ ap (λ n. n + 1) lead.count;
        shown = ap (λ (ps : List Outcome). ps ++ shown_of f o ∷ []) lead.shown ∙ sym (ap (λ (fs : List Fate). path_shown fs (os ++ o ∷ [])) told
            ∙ shown_push fates os f o count);
      }
