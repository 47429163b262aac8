-- A view is led over a part: what is known behind the part then.
use Rattle.std.proofs.Common.{◌≡◌, ◌⊎◌, inl, inr, ⊎_elim, ◌∷◌, ◌<◌, ◌≤◌, ◌+◌, ◌-◌, ◌∙◌, ◌++◌, List, [], length, drop, ℕ, zero, suc, Bool, true, false}
use Rattle.std.proofs.Common.{subst, sym, refl, ap, arith, map, Option, Some, None, length-drop}
use Rattle.std.specs.Prelude.{Contains, All, IfSome, slice_get, slice_index_or}
use Rattle.std.specs.List.{AllByRecursion}
use Rattle.std.proofs.lemmas.List.Elements.{All-nil, All-map, All-append, All-weaker, All-contains, All-head, All-tail, All-from_recursion}
use Rattle.std.proofs.lemmas.List.Elements.{recursion_from_All, Contains-append_cases}
use Rattle.jcl_plan.specs.declared.outcome.Abend.TheVariants.{User}
use Rattle.jcl_plan.specs.declared.outcome.Fate.{Fate}
use Rattle.jcl_plan.specs.declared.outcome.Fate.TheVariants as fate
use Rattle.jcl_plan.specs.declared.outcome.Outcome.{Outcome}
use Rattle.jcl_plan.specs.declared.outcome.Outcome.TheVariants as outcome
use Rattle.jcl_plan.specs.declared.outcome.TheConstants.{GREATEST_CODE}
use Rattle.jcl_plan.specs.declared.plan.JobPlan.{JobPlan}
use Rattle.jcl_plan.specs.declared.plan.StepPlan.{StepPlan}
use Rattle.jcl_meaning.specs.declared.state.Place.{Place}
use Rattle.jcl_meaning.specs.Agendas.{path_agenda}
use Rattle.jcl_meaning.specs.EndActs.{as_ending}
use Rattle.jcl_meaning.specs.History.{IsStepOutcome}
use Rattle.jcl_meaning.specs.Names.{names_of}
use Rattle.jcl_meaning.specs.Solo.{Met, Ran, nothing_own, run}
use Rattle.jcl_meaning.specs.States.{Fixed, State}
use Rattle.jcl_meaning.specs.Stores.{Store}
use Rattle.jcl_meaning.specs.Views.{IsViewAfter, View, ran_to, view_at}
use Rattle.part_laws.specs.Fits.{Fits}
use Rattle.path_meaning.specs.Paths.{Makes, fates_in, shown_code, shown_of}
use Rattle.path_laws.specs.Paths.{part_ran}
use Rattle.view_domain.specs.declared.crossed.Branch.{Branch}
use Rattle.view_domain.specs.declared.crossed.Branch.TheVariants as branch
use Rattle.view_domain.specs.declared.crossed.Crossed.{Crossed}
use Rattle.view_domain.specs.declared.crossed.Crossed.TheVariants as crossed
use Rattle.view_domain.specs.declared.crossed.Move.{Move}
use Rattle.view_domain.specs.declared.crossed.Stop.{Stop}
use Rattle.view_domain.specs.Crossings.{AreFounded, CameTo, ComesFrom, IsBehindEnd, IsByAbend, IsByCode, IsCrossed, IsStop, branch_of, views_of}
use Rattle.path_laws.specs.PathParts.{next_outcome, path_part}
use Rattle.path_search.specs.declared.stops.Found.{Found}
use Rattle.path_search.specs.declared.trail.Link.{Link}
use Rattle.path_search.specs.Crossings.{AreStopsNoted, IsAlong, IsCrossing, IsKnown, IsLinked, IsMet, Known, LeadsTo, NoneBefore}
use Rattle.path_search.specs.Makings.{AreMarked, IsMarked, IsOfDd, made_of}
use Rattle.path_search.specs.PathLaws.{PathLaws}
use Rattle.path_search.specs.Puts.{ArePut, Told, told_as, told_branch, told_moves, told_of}
use Rattle.path_search.specs.Stops.{earlier, found_at, with_branch, with_crossed}
use Rattle.path_search.proofs.Along.{came_to, comes_from, leads_on, made_next, next_is, with_one}
use Rattle.path_search.proofs.Putting.{puts_grow, puts_keep, puts_there}
use Rattle.path_search.proofs.Stopping.{clean_before, found_before, if_earlier, noted_before, stop_before}

code_zero : IsStepOutcome (outcome.Code 0)
code_zero = omega arith

-- no fault comes before the stop that is noted
module _ (fixed : Fixed) (plan : JobPlan) (k number : ℕ) {V : Type 0} (meaning : V → View) (there : List View) (s : State) where
  abbrev ran : Ran
  ran = run fixed (path_part plan k) s

  after_branch : (o : Outcome) (b : Branch V) (best : Option Found) → NoneBefore best ran.faults → NoneBefore (with_branch number o b best) ran.faults
  after_branch o (branch.Stops stop) best none = noted_before best (found_at number o stop) ran.faults none
  after_branch o (branch.Leads moves) best none = none

  branch_before : (o : Outcome) (b : Branch V) (best : Option Found) → IsBehindEnd meaning plan fixed.date k there ran b →
      NoneBefore (with_branch number o b best) ran.faults
  branch_before o (branch.Stops stop) best is =
      found_before best (found_at number o stop) ran.faults (stop_before plan k (found_at number o stop) fixed (path_part plan k) s is)
  branch_before o (branch.Leads moves) best is = clean_before best ran.faults is.0

  pub crossed_before : (o : Outcome) (x : Crossed V) (best : Option Found) → CameTo meaning plan fixed.date k there o ran x →
      NoneBefore (with_crossed number x best) ran.faults
  crossed_before o (crossed.Stops stop) best came =
      found_before best (found_at number (outcome.Code 0) stop) ran.faults
      (stop_before plan k (found_at number (outcome.Code 0) stop) fixed (path_part plan k) s came)
  crossed_before o crossed.Ends best came = clean_before best ran.faults came.1
  crossed_before o (crossed.Passes f v) best came = clean_before best ran.faults came.2
  crossed_before o (crossed.Runs made by_code by_abend) best came = by o came.2
    where
      code_first : IsBehindEnd meaning plan fixed.date k there ran by_code → NoneBefore
          (with_branch number (outcome.Abend (User 0)) by_abend (with_branch number (outcome.Code 0) by_code best)) ran.faults
      code_first is = after_branch (outcome.Abend (User 0)) by_abend (with_branch number (outcome.Code 0) by_code best)
          (branch_before (outcome.Code 0) by_code best is)

      by : (p : Outcome) → IsBehindEnd meaning plan fixed.date k there ran (branch_of p by_code by_abend) →
          NoneBefore (with_branch number (outcome.Abend (User 0)) by_abend (with_branch number (outcome.Code 0) by_code best)) ran.faults
      by (outcome.Code code) is = code_first is
      by (outcome.Abend a) is = branch_before (outcome.Abend (User 0)) by_abend (with_branch number (outcome.Code 0) by_code best) is
      by outcome.Bypassed is = code_first is
      by outcome.Flushed is = code_first is

  pub noted_crossed : (x : Crossed V) (best : Option Found) → NoneBefore best ran.faults → NoneBefore (with_crossed number x best) ran.faults
  noted_crossed (crossed.Stops stop) best none = noted_before best (found_at number (outcome.Code 0) stop) ran.faults none
  noted_crossed crossed.Ends best none = none
  noted_crossed (crossed.Passes f v) best none = none
  noted_crossed (crossed.Runs made by_code by_abend) best none =
      after_branch (outcome.Abend (User 0)) by_abend (with_branch number (outcome.Code 0) by_code best) (after_branch (outcome.Code 0) by_code best none)

module _ (laws : PathLaws) (fixed : Fixed) (plan : JobPlan) (store : Store) (k : ℕ) (to_end : k ≤ length plan.steps)
    (job_tests : fixed.job_tests ≡ plan.tests.items)
    (fits : Fits (names_of plan) fixed.meanings (path_agenda plan) nothing_own)
    {V : Type 0} (meaning : V → View) (there : List View) (view : View) (number : ℕ) (before : List View) (at : slice_get before number ≡ Some view) where
  abbrev IsOver : Crossed V → Type 0
  IsOver x = IsCrossed meaning plan fixed k there view x

  came : (x : Crossed V) → IsOver x → (outcomes : List Outcome) → IsAlong fixed plan store k view outcomes →
      CameTo meaning plan fixed.date k there (next_outcome (drop k outcomes)) (part_ran fixed plan store k outcomes) x
  came x is outcomes along = came_to laws fixed plan store k to_end job_tests fits meaning there view x is outcomes along

  -- along outcomes of the first steps, and one more
  came_one : (x : Crossed V) → IsOver x → (outcomes : List Outcome) (o : Outcome) → length outcomes ≡ k → IsStepOutcome o →
      IsAlong fixed plan store k view outcomes → CameTo meaning plan fixed.date k there (as_ending o) (part_ran fixed plan store k (outcomes ++ o ∷ [])) x
  came_one x is outcomes o count within along =
      subst (λ (p : Outcome). CameTo meaning plan fixed.date k there p (part_ran fixed plan store k (outcomes ++ o ∷ [])) x)
      (next_is laws fixed plan store k to_end job_tests fits view outcomes o count along)
      (came x is (outcomes ++ o ∷ []) (with_one laws fixed plan store k to_end job_tests fits view outcomes o count along within))

  -- the stop that is noted is met
  abbrev Stands : Found → Type 0
  Stands found = IsMet fixed plan store k before found

  pub crossed_met : (x : Crossed V) (best : Option Found) → IsOver x → IfSome best (IsMet fixed plan store k before) →
      IfSome (with_crossed number x best) (IsMet fixed plan store k before)
  crossed_met (crossed.Stops stop) best is old = if_earlier Stands best (found_at number (outcome.Code 0) stop) old (record {
    view = view;
    there = at;
    own = inl refl;
    stops = λ outcomes along count. came_one (crossed.Stops stop) is outcomes (outcome.Code 0) count code_zero along;
  })
  crossed_met crossed.Ends best is old = old
  crossed_met (crossed.Passes f v) best is old = old
  crossed_met (crossed.Runs made by_code by_abend) best is old =
      branch_met (outcome.Abend (User 0)) by_abend (with_branch number (outcome.Code 0) by_code best) (inr refl)
      (λ outcomes along count. (came_one (crossed.Runs made by_code by_abend) is outcomes (outcome.Abend (User 0)) count tt along).2)
      (branch_met (outcome.Code 0) by_code best (inl refl)
      (λ outcomes along count. (came_one (crossed.Runs made by_code by_abend) is outcomes (outcome.Code 0) count code_zero along).2) old)
    where
      branch_met : (o : Outcome) (b : Branch V) (best : Option Found) → (o ≡ outcome.Code 0) ⊎ (o ≡ outcome.Abend (User 0)) →
          ((outcomes : List Outcome) → IsAlong fixed plan store k view outcomes → length outcomes ≡ k →
          IsBehindEnd meaning plan fixed.date k there (part_ran fixed plan store k (outcomes ++ o ∷ [])) b) →
          IfSome best (IsMet fixed plan store k before) → IfSome (with_branch number o b best) (IsMet fixed plan store k before)
      branch_met o (branch.Stops stop) best own ends old = if_earlier Stands best (found_at number o stop) old (record {
        view = view;
        there = at;
        own = own;
        stops = ends;
      })
      branch_met o (branch.Leads moves) best own ends old = old

  -- each view that is told is linked to this one
  module _ (inside : k < length plan.steps) where
    abbrev pub Links : Told → Type 0
    Links t = IsLinked fixed plan store k before t.view t.link

    abbrev IsTold : (Outcome → Type 0) → Move V → Type 0
    IsTold By m = By m.outcome × ComesFrom meaning plan fixed k view m

    moves_link : (By : Outcome → Type 0) (x : Crossed V) (moves : List (Move V)) → IsOver x →
        ((o : Outcome) → By o → IsStepOutcome o × (as_ending o ≡ o)) →
        ((o : Outcome) (ran : Ran) → By o → CameTo meaning plan fixed.date k there o ran x → (ran.faults ≡ []) × (fates_in ran.lines ≡ fate.Run ∷ [])) →
        All (λ m. By m.outcome × ComesFrom meaning plan fixed k view m) moves → AllByRecursion Links (told_moves meaning number moves)
    moves_link By x [] is ends clean all = tt
    moves_link By x (m ∷ ms) is ends clean all = (link (All-head (IsTold By) m ms all), moves_link By x ms is ends clean (All-tail (IsTold By) m ms all))
      where
        link : By m.outcome × ComesFrom meaning plan fixed k view m → Links (told_as meaning number (shown_code m.outcome) m.view)
        link h = record {
          parent = view;
          there = at;
          leads = λ path lead.
              let o = m.outcome in
              let end = ends o h.0 in
              let along = with_one laws fixed plan store k to_end job_tests fits view lead.outcomes o lead.count lead.along end.0 in
              let next : next_outcome (drop k (lead.outcomes ++ o ∷ [])) ≡ o =
              next_is laws fixed plan store k to_end job_tests fits view lead.outcomes o lead.count lead.along ∙ end.1 in
              let c = clean o (part_ran fixed plan store k (lead.outcomes ++ o ∷ [])) h.0
              (subst (λ (p : Outcome). CameTo meaning plan fixed.date k there p (part_ran fixed plan store k (lead.outcomes ++ o ∷ [])) x) next
              (came x is (lead.outcomes ++ o ∷ []) along)) in
              leads_on laws fixed plan store k to_end job_tests fits path view (meaning m.view) o fate.Run lead inside end.0 c.0 c.1
              (comes_from laws fixed plan store k to_end job_tests fits meaning view m h.1 (lead.outcomes ++ o ∷ []) along next);
        }

    code_ends : (o : Outcome) → IsByCode o → IsStepOutcome o × (as_ending o ≡ o)
    code_ends (outcome.Code code) h = (h, refl)
    code_ends (outcome.Abend a) h = absurd h
    code_ends outcome.Bypassed h = absurd h
    code_ends outcome.Flushed h = absurd h

    abend_ends : (o : Outcome) → IsByAbend o → IsStepOutcome o × (as_ending o ≡ o)
    abend_ends (outcome.Code code) h = absurd h
    abend_ends (outcome.Abend a) h = (tt, refl)
    abend_ends outcome.Bypassed h = absurd h
    abend_ends outcome.Flushed h = absurd h

    append_all : (P : Told → Type 0) (xs ys : List Told) → AllByRecursion P xs → AllByRecursion P ys → AllByRecursion P (xs ++ ys)
    append_all P [] ys a b = b
    append_all P (x ∷ xs) ys a b = (a.0, append_all P xs ys a.1 b)

    pub crossed_links : (x : Crossed V) → IsOver x → AllByRecursion Links (told_of meaning number x)
    crossed_links (crossed.Stops stop) is = tt
    crossed_links crossed.Ends is = tt
    crossed_links (crossed.Passes f v) is = (
      record {
        parent = view;
        there = at;
        leads = λ path lead.
            let c = came_one (crossed.Passes f v) is lead.outcomes (outcome.Code 0) lead.count code_zero lead.along in
            leads_on laws fixed plan store k to_end job_tests fits path view (meaning v) (outcome.Code 0) f lead inside code_zero c.2 c.0 (sym c.4);
      },
      tt,
    )
    crossed_links (crossed.Runs made by_code by_abend) is =
        append_all Links (told_branch meaning number by_code) (told_branch meaning number by_abend)
        (by_codes by_code refl is.founded.0)
        (by_abends by_abend refl is.founded.1)
      where
        by_codes : (b : Branch V) → b ≡ by_code → AreFounded meaning plan fixed k view IsByCode b → AllByRecursion Links (told_branch meaning number b)
        by_codes (branch.Stops stop) e founded = tt
        by_codes (branch.Leads moves) e founded = moves_link IsByCode (crossed.Runs made by_code by_abend) moves.items is code_ends clean founded
          where
            clean : (o : Outcome) (r : Ran) → IsByCode o → CameTo meaning plan fixed.date k there o r (crossed.Runs made by_code by_abend) →
                (r.faults ≡ []) × (fates_in r.lines ≡ fate.Run ∷ [])
            clean (outcome.Code code) r h c =
                ((subst (λ (y : Branch V). IsBehindEnd meaning plan fixed.date k there r y) (sym e) c.2).0, c.0)
            clean (outcome.Abend a) r h c = absurd h
            clean outcome.Bypassed r h c = absurd h
            clean outcome.Flushed r h c = absurd h

        by_abends : (b : Branch V) → b ≡ by_abend → AreFounded meaning plan fixed k view IsByAbend b → AllByRecursion Links (told_branch meaning number b)
        by_abends (branch.Stops stop) e founded = tt
        by_abends (branch.Leads moves) e founded = moves_link IsByAbend (crossed.Runs made by_code by_abend) moves.items is abend_ends clean founded
          where
            clean : (o : Outcome) (r : Ran) → IsByAbend o → CameTo meaning plan fixed.date k there o r (crossed.Runs made by_code by_abend) →
                (r.faults ≡ []) × (fates_in r.lines ≡ fate.Run ∷ [])
            clean (outcome.Code code) r h c = absurd h
            clean (outcome.Abend a) r h c =
                ((subst (λ (y : Branch V). IsBehindEnd meaning plan fixed.date k there r y) (sym e) c.2).0, c.0)
            clean outcome.Bypassed r h c = absurd h
            clean outcome.Flushed r h c = absurd h

-- where the part meets no fault, its view and its sets are known then
module _ (plan : JobPlan) (date k limit number : ℕ) {V : Type 0} (meaning : V → View) (old new : Known) (o : Outcome) (ran : Ran) (none : ran.faults ≡ [])
    (counted : length old.links ≡ length old.views) where
  abbrev seen : View
  seen = view_at plan (k + 1) date ran.state

  among_told : (told : List Told) → ArePut limit old.views old.links told new.views new.links → length new.views ≤ limit → (v : View) →
      ((P : Told → Type 0) → AllByRecursion P told → (t : Told) × P t × (t.view ≡ v)) → Contains new.views v
  among_told told put few v found =
      let f = found (λ t. Contains new.views t.view) (puts_there limit told old.views new.views old.links new.links put counted few) in
      subst (λ (x : View). Contains new.views x) f.2 f.1

  in_moves : (moves : List (Move V)) (v : View) (P : Told → Type 0) → Contains (views_of meaning moves) v → AllByRecursion P (told_moves meaning number moves) →
      (t : Told) × P t × (t.view ≡ v)
  in_moves moves v P h all = at moves h.0 h.1 h.2 all
    where
      at : (ms : List (Move V)) (i : ℕ) → i < length (views_of meaning ms) → slice_index_or (views_of meaning ms) i v ≡ v →
          AllByRecursion P (told_moves meaning number ms) → (t : Told) × P t × (t.view ≡ v)
      at [] i l e all = absurd (omega arith)
      at (m ∷ ms) zero l e all = (told_as meaning number (shown_code m.outcome) m.view, all.0, e)
      at (m ∷ ms) (suc i) l e all = at ms i (omega arith) e all.1

  first_all : (P : Told → Type 0) (xs ys : List Told) → AllByRecursion P (xs ++ ys) → AllByRecursion P xs
  first_all P [] ys all = tt
  first_all P (x ∷ xs) ys all = (all.0, first_all P xs ys all.1)

  last_all : (P : Told → Type 0) (xs ys : List Told) → AllByRecursion P (xs ++ ys) → AllByRecursion P ys
  last_all P [] ys all = all
  last_all P (x ∷ xs) ys all = last_all P xs ys all.1

  stands : (x : Crossed V) → (drop k plan.steps ≡ [] → ⊥) → CameTo meaning plan date k old.views o ran x →
      ArePut limit old.views old.links (told_of meaning number x) new.views new.links → length new.views ≤ limit → Contains new.views seen
  stands (crossed.Stops stop) inside came put few = let e : [] ≡ record { place = stop.at; fault = stop.fault } ∷ came.behind = sym none ∙ came.first
      in absurd (cc)
  stands crossed.Ends inside came put few = absurd (inside came.0)
  stands (crossed.Passes f v) inside came put few =
      among_told (told_of meaning number (crossed.Passes f v)) put few seen
      (λ P all. (told_as meaning number (shown_of f (outcome.Code 0)) v, all.0, sym came.4))
  stands (crossed.Runs made by_code by_abend) inside came put few = by o came.2
    where
      in_branch : (b : Branch V) → IsBehindEnd meaning plan date k old.views ran b →
          ((P : Told → Type 0) → AllByRecursion P (told_branch meaning number by_code ++ told_branch meaning number by_abend) → AllByRecursion P
          (told_branch meaning number b)) →
          Contains new.views seen
      in_branch (branch.Stops stop) is part = let e : [] ≡ record { place = stop.at; fault = stop.fault } ∷ is.behind = sym none ∙ is.first in absurd (cc)
      in_branch (branch.Leads moves) is part = ⊎_elim
          (λ h. puts_keep limit (told_branch meaning number by_code ++ told_branch meaning number by_abend) old.views new.views old.links new.links put seen h)
          (λ h. among_told (told_branch meaning number by_code ++ told_branch meaning number by_abend) put few seen
          (λ P all. in_moves moves.items seen P h (part P all)))
          (Contains-append_cases old.views (views_of meaning moves.items) seen is.1)

      code : IsBehindEnd meaning plan date k old.views ran by_code → Contains new.views seen
      code is = in_branch by_code is (λ P all. first_all P (told_branch meaning number by_code) (told_branch meaning number by_abend) all)

      by : (p : Outcome) → IsBehindEnd meaning plan date k old.views ran (branch_of p by_code by_abend) → Contains new.views seen
      by (outcome.Code c) is = code is
      by (outcome.Abend a) is = in_branch by_abend is (λ P all. last_all P (told_branch meaning number by_code) (told_branch meaning number by_abend) all)
      by outcome.Bypassed is = code is
      by outcome.Flushed is = code is

  marked : (x : Crossed V) → (drop k plan.steps ≡ [] → ⊥) → CameTo meaning plan date k old.views o ran x → AreMarked (made_of x) old.made new.made →
      All (λ p. IsMarked new.made (p.dd - 1) p.serial) ran.made
  marked (crossed.Stops stop) inside came marks = let e : [] ≡ record { place = stop.at; fault = stop.fault } ∷ came.behind = sym none ∙ came.first in
      absurd (cc)
  marked crossed.Ends inside came marks = absurd (inside came.0)
  marked (crossed.Passes f v) inside came marks =
      subst (λ (ps : List Place). All (λ p. IsMarked new.made (p.dd - 1) p.serial) ps) (sym came.3) (All-nil _)
  marked (crossed.Runs made by_code by_abend) inside came marks =
      subst (λ (ps : List Place). All (λ p. IsMarked new.made (p.dd - 1) p.serial) ps) (sym came.1) marks.all

  pub crossed_known : (x : Crossed V) → (drop k plan.steps ≡ [] → ⊥) → CameTo meaning plan date k old.views o ran x →
      ArePut limit old.views old.links (told_of meaning number x) new.views new.links → AreMarked (made_of x) old.made new.made →
      IsKnown plan date k limit new ran
  crossed_known x inside came put marks = record { stands = λ few. stands x inside came put few; made = marked x inside came marks }

-- what was known stays known
pub known_stays : (plan : JobPlan) (date k limit : ℕ) (old new : Known) (told : List Told) (made : List Place) (ran : Ran) →
    ArePut limit old.views old.links told new.views new.links → AreMarked made old.made new.made → IsKnown plan date k limit old ran →
    IsKnown plan date k limit new ran
known_stays plan date k limit old new told made ran put marks known = record {
  stands = λ few. let grows = puts_grow limit told old.views new.views old.links new.links put in
      puts_keep limit told old.views new.views old.links new.links put _ (known.stands (omega (arith, grows, few)));
  made = All-weaker (λ (p : Place). IsMarked old.made (p.dd - 1) p.serial) (λ (p : Place). IsMarked new.made (p.dd - 1) p.serial)
      (λ p h. marks.kept (p.dd - 1) p.serial h) ran.made known.made;
}
