-- What a job may make, whatever its answers, it makes on some path.
use Rattle.std.proofs.Common.{◌≡◌, ◌+◌, ◌++◌, ◌⊎◌, inl, inr, ℕ, Bool, true, false, cond, List, [], ◌∷◌, All, append_assoc, refl, sym, ap, ◌∙◌, subst, eq-eqb}
use Rattle.std.specs.Prelude.{◌==◌, filter}
use Rattle.std.specs.List.{list_any}
use Rattle.std.proofs.lemmas.Bool.{and_from, or_cases, or_left, or_right}
use Rattle.std.proofs.lemmas.List.Elements.{All-append, All-cons, All-head, All-nil, All-tail}
use Rattle.jcl_plan.specs.declared.outcome.Outcome.{Outcome}
use Rattle.jcl_plan.specs.declared.plan.DdPlan.{DdPlan}
use Rattle.jcl_plan.specs.declared.plan.JobPlan.{JobPlan}
use Rattle.jcl_plan.specs.declared.plan.StepPlan.{StepPlan}
use Rattle.jcl_meaning.specs.declared.program.Move.{Move}
use Rattle.jcl_meaning.specs.declared.program.SoloProgram.{SoloProgram}
use Rattle.jcl_meaning.specs.declared.state.Place.{Place}
use Rattle.jcl_meaning.specs.Agendas.{Action, Ask, Dispose, Finish, Left, Over, Receive, Start, Take, agenda, left_by, lefts_from, lefts_in, path_agenda, step_actions, steps_from}
use Rattle.jcl_meaning.specs.History.{IsStepOutcome}
use Rattle.jcl_meaning.specs.Plans.{passes}
use Rattle.jcl_meaning.specs.Programs.{is_iefbr14, moves_of}
use Rattle.jcl_meaning.specs.Solo.{at_start, given, nothing_own}
use Rattle.jcl_meaning.specs.States.{Fixed, State}
use Rattle.jcl_meaning.specs.Stores.{Store}
use Rattle.cb_meaning.specs.Writable.{kind_at}
use Rattle.path_laws.proofs.Alike.{Same}
use Rattle.path_laws.proofs.Cleanly.{Clean, after, clean_split, run_is_clean}
use Rattle.path_laws.proofs.Shapes.{shaped_same}
use Rattle.world_meaning.specs.Admissions.{AreKept, IsKeptAt, primary_asked}
use Rattle.world_meaning.specs.Lenses.{seen}
use Rattle.world_meaning.specs.Tracks.{is_kept_for}
use Rattle.world_meaning.specs.Worlds.{Config, Kept, Shared}
use Rattle.case_laws.specs.Cases.{HasTracks, IsCovered, MayMake, is_asked}
use Rattle.case_laws.proofs.FreeSteps.{StepOut, step_made, step_out, step_passed}
use Rattle.case_laws.proofs.Making.{may_take}
use Rattle.case_laws.proofs.StillKept.{IsOf, is_of}
use Rattle.case_laws.proofs.TakesMade.{MakesIn, makes_first, makes_later, makes_run}
use Rattle.path_meaning.specs.Paths.{IsSafe, Makes}
use Rattle.path_meaning.specs.Verdicts.{AreMade}

-- behind the steps nothing is taken
abbrev IsNoTake : Action → Type 0
IsNoTake (Start n step) = Unit {0}
IsNoTake (Take n dd d) = ⊥
IsNoTake (Ask step move) = Unit {0}
IsNoTake Receive = Unit {0}
IsNoTake (Finish n) = Unit {0}
IsNoTake (Dispose n dd d) = Unit {0}
IsNoTake (Left n dd d) = Unit {0}
IsNoTake Over = Unit {0}

left_untaken : (b : Bool) (n dd : ℕ) (d : DdPlan) → All IsNoTake (cond b (Left n dd d ∷ []) [])
left_untaken true n dd d = All-cons IsNoTake (Left n dd d) [] tt (All-nil IsNoTake)
left_untaken false n dd d = All-nil IsNoTake

lefts_in_untaken : (n dd : ℕ) (ds : List DdPlan) → All IsNoTake (lefts_in n dd ds)
lefts_in_untaken n dd [] = All-nil IsNoTake
lefts_in_untaken n dd (d ∷ ds) =
    All-append IsNoTake (left_by n dd d) (lefts_in n (dd + 1) ds) (left_untaken (passes d.kind) n dd d) (lefts_in_untaken n (dd + 1) ds)

lefts_untaken : (n : ℕ) (steps : List StepPlan) → All IsNoTake (lefts_from n steps)
lefts_untaken n [] = All-nil IsNoTake
lefts_untaken n (step ∷ steps) =
    All-append IsNoTake (lefts_in n 1 step.dds) (lefts_from (n + 1) steps) (lefts_in_untaken n 1 step.dds) (lefts_untaken (n + 1) steps)

-- the actions behind the steps
abbrev behind_steps : List StepPlan → List Action
behind_steps steps = lefts_from 1 steps ++ (Over ∷ [])

nothing_behind : (fixed : Fixed) (steps : List StepPlan) (v : State) (p : Place) → MayMake fixed (behind_steps steps) v.store v.own p → ⊥
nothing_behind fixed steps v p m =
    (may_take IsNoTake fixed (behind_steps steps) v.store v.own p
    (All-append IsNoTake (lefts_from 1 steps) (Over ∷ []) (lefts_untaken 1 steps) (All-cons IsNoTake Over [] tt (All-nil IsNoTake))) m).1

no_moves : (name : List ℕ) → moves_of [] name ≡ []
no_moves name = either (is_iefbr14 name)
  where
    either : (b : Bool) → cond {A = List Move} b [] [] ≡ []
    either true = refl
    either false = refl

module _ (fixed : Fixed) (p : Place) (programs : List SoloProgram) (rest : List Action)
    (none : (v : State) → MayMake fixed rest v.store v.own p → ⊥) where
  -- outcomes along which the set is made
  record PathOut (n : ℕ) (steps : List StepPlan) (u : State) : Type 0 where
    outs : List Outcome
    within : All IsStepOutcome outs
    makes : (t : State) → Same outs u t → Clean fixed (steps_from (moves_of []) n steps) t → MakesIn fixed (steps_from (moves_of []) n steps) t p

  -- a step without requests
  bare : (n : ℕ) (step : StepPlan) (steps : List StepPlan) →
      steps_from (moves_of []) n (step ∷ steps) ≡ step_actions n step [] ++ steps_from (moves_of []) (n + 1) steps
  bare n step steps = ap (λ (ms : List Move). step_actions n step ms ++ steps_from (moves_of []) (n + 1) steps) (no_moves step.program)

  path_out : (n : ℕ) (steps : List StepPlan) (u : State) → MayMake fixed (steps_from (moves_of programs) n steps ++ rest) u.store u.own p → PathOut n steps u
  path_out n [] u m = absurd (none u m)
  path_out n (step ∷ steps) u m =
      by_step (step_out fixed p n step (moves_of programs step.program) (steps_from (moves_of programs) (n + 1) steps ++ rest) u
      (subst (λ (actions : List Action). MayMake fixed actions u.store u.own p)
      (append_assoc (step_actions n step (moves_of programs step.program)) (steps_from (moves_of programs) (n + 1) steps) rest) m))
      (λ v more. path_out (n + 1) steps v more)
    where
      by_step : StepOut fixed p n step (steps_from (moves_of programs) (n + 1) steps ++ rest) u →
          ((v : State) → MayMake fixed (steps_from (moves_of programs) (n + 1) steps ++ rest) v.store v.own p → PathOut (n + 1) steps v) →
          PathOut n (step ∷ steps) u
      by_step (step_made f) further = record {
        outs = [];
        within = All-nil IsStepOutcome;
        makes = λ t h c.
            subst (λ (actions : List Action). MakesIn fixed actions t p) (sym (bare n step steps))
            (makes_first fixed (step_actions n step []) (steps_from (moves_of []) (n + 1) steps) t p
            (f [] t h (clean_split fixed (step_actions n step []) (steps_from (moves_of []) (n + 1) steps) t
            (subst (λ (actions : List Action). Clean fixed actions t) (bare n step steps) c)).0));
      }
      by_step (step_passed o good v f more) further =
          let later : PathOut (n + 1) steps v = further v more in
          record {
            outs = o ∷ later.outs;
            within = All-cons IsStepOutcome o later.outs good later.within;
            makes = λ t h c.
                let path = clean_split fixed (step_actions n step []) (steps_from (moves_of []) (n + 1) steps) t
                (subst (λ (actions : List Action). Clean fixed actions t) (bare n step steps) c) in
                subst (λ (actions : List Action). MakesIn fixed actions t p) (sym (bare n step steps))
                (makes_later fixed (step_actions n step []) (steps_from (moves_of []) (n + 1) steps) t p
                (later.makes (after fixed (step_actions n step []) t) (f later.outs t h path.0) path.1));
          }

-- so it is made on some path
makes : (fixed : Fixed) (plan : JobPlan) (programs : List SoloProgram) (store : Store) (p : Place) → IsSafe fixed plan store →
    MayMake fixed (agenda plan programs) store nothing_own p → Makes fixed plan store p
makes fixed plan programs store p safe m =
    by_path (path_out fixed p programs (behind_steps plan.steps) (λ v. nothing_behind fixed plan.steps v p) 1 plan.steps (at_start store (given [])) m)
  where
    by_path : PathOut fixed p programs (behind_steps plan.steps) (λ v. nothing_behind fixed plan.steps v p) 1 plan.steps (at_start store (given [])) →
        Makes fixed plan store p
    by_path path =
        let t : State = at_start store (given path.outs) in
        let same : Same path.outs (at_start store (given [])) (at_start store (given path.outs)) = record {
          store = shaped_same store;
          passed = refl;
          ended = refl;
          faulted = refl;
          volumes = refl;
          runs = refl;
          dds = tt;
          granted = refl;
          granted_too = refl;
          no_cancel = refl;
          given = refl;
          good = All-nil IsStepOutcome;
        } in
        let clean = clean_split fixed (steps_from (moves_of []) 1 plan.steps) (behind_steps plan.steps) (at_start store (given path.outs))
        (run_is_clean fixed (path_agenda plan) (at_start store (given path.outs)) (safe path.outs path.within)) in
        record {
          outcomes = path.outs;
          within = path.within;
          made = makes_run fixed (path_agenda plan) (at_start store (given path.outs)) p
              (makes_first fixed (steps_from (moves_of []) 1 plan.steps) (behind_steps plan.steps) (at_start store (given path.outs)) p
              (path.makes (at_start store (given path.outs)) same clean.0));
        }

-- tracks that are kept for it are as many as are asked
module _ (plan : JobPlan) (job : ℕ) (places : List Place) (p : Place) where
  abbrev asked : ℕ
  asked = primary_asked (kind_at plan.steps p.step p.dd)

  as_asked : (k : Kept) → is_kept_for job p p.serial k ≡ true → IsKeptAt plan places p.serial k → is_asked plan job p k ≡ true
  as_asked k is f =
      let of : IsOf job p k = is_of job p p.serial k is in
      let many : k.tracks ≡ asked = f.tracks ∙ (λ i. primary_asked (kind_at plan.steps (of.step i) (of.dd i))) in
      and_from (is_kept_for job p p.serial k) (k.tracks == asked) is (eq-eqb k.tracks asked many)

  founded_asked : (kept : List Kept) → All (IsKeptAt plan places p.serial) (filter (λ k. k.job == job) kept) →
      list_any (is_kept_for job p p.serial) kept ≡ true → HasTracks kept plan job p
  founded_asked [] all e = absurd cc
  founded_asked (k ∷ kept) all e =
      by_place (or_cases (is_kept_for job p p.serial k) (list_any (is_kept_for job p p.serial) kept) e) (founded_asked kept)
    where
      behind : (b : Bool) → All (IsKeptAt plan places p.serial) (cond b (k ∷ filter (λ x. x.job == job) kept) (filter (λ x. x.job == job) kept)) →
          All (IsKeptAt plan places p.serial) (filter (λ x. x.job == job) kept)
      behind true f = All-tail (IsKeptAt plan places p.serial) k (filter (λ x. x.job == job) kept) f
      behind false f = f

      of_this : (b : Bool) → b ≡ true → All (IsKeptAt plan places p.serial) (cond b (k ∷ filter (λ x. x.job == job) kept) (filter (λ x. x.job == job) kept)) →
          IsKeptAt plan places p.serial k
      of_this true h f = All-head (IsKeptAt plan places p.serial) k (filter (λ x. x.job == job) kept) f
      of_this false h f = absurd cc

      by_place : (is_kept_for job p p.serial k ≡ true) ⊎ (list_any (is_kept_for job p p.serial) kept ≡ true) →
          (All (IsKeptAt plan places p.serial) (filter (λ x. x.job == job) kept) → list_any (is_kept_for job p p.serial) kept ≡ true → HasTracks kept plan job p) →
          HasTracks (k ∷ kept) plan job p
      by_place (inl here) more =
          or_left (is_asked plan job p k) (list_any (is_asked plan job p) kept)
          (as_asked k here (of_this (k.job == job) (is_of job p p.serial k here).job_is all))
      by_place (inr there) more = or_right (is_asked plan job p k) (list_any (is_asked plan job p) kept) (more (behind (k.job == job) all) there)

pub covers : (c : Config) (old : Shared) (job : ℕ) (plan : JobPlan) (fixed : Fixed) (places : List Place) (kept : List ℕ → List Kept) (free : List ℕ → ℕ) →
    IsSafe fixed plan (seen job old.store) → AreMade fixed plan (seen job old.store) places → AreKept plan job places kept →
    IsCovered c (record old { kept = kept; free = free }) job plan (record { fixed = fixed; assured = true }) 0 nothing_own
covers c old job plan fixed places kept free safe are_made are p m =
    founded_asked plan job places p (kept p.serial) (are.founded p.serial)
    (are.all p (are_made.all p (makes fixed plan c.programs (seen job old.store) p safe m)))
