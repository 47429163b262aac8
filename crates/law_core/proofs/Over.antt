-- END stands last in an agenda, so a turn that writes it is the last.
use Rattle.std.proofs.Common.{◌≡◌, ◌⊎◌, inl, inr, ◌≤◌, ◌+◌, ◌++◌, arith, ℕ, zero, suc, Bool, true, false, cond, List, [], ◌∷◌, length, drop, Some, refl, sym, ap, ◌∙◌, subst, le-leb}
use Rattle.std.specs.Prelude.{◌||◌, nat_le}
use Rattle.std.specs.List.{list_any}
use Rattle.std.proofs.lemmas.Bool.{both_ways, or_parts}
use Rattle.std.proofs.lemmas.List.{append_assoc}
use Rattle.std.proofs.lemmas.List.Folds.{list_any-append}
use Rattle.jcl_plan.specs.declared.entry.JobLine.{JobLine}
use Rattle.jcl_plan.specs.declared.plan.DdPlan.{DdPlan}
use Rattle.jcl_plan.specs.declared.plan.JobPlan.{JobPlan}
use Rattle.jcl_plan.specs.declared.plan.StepPlan.{StepPlan}
use Rattle.jcl_meaning.specs.declared.program.Move.{Move}
use Rattle.jcl_meaning.specs.declared.program.SoloProgram.{SoloProgram}
use Rattle.jcl_meaning.specs.declared.state.Own.{Own}
use Rattle.jcl_meaning.specs.Acts.{act}
use Rattle.jcl_meaning.specs.Agendas.{Action, Ask, Dispose, Finish, Left, Over, Receive, Start, Take, agenda, disposes_from, left_by, lefts_from, lefts_in, moves_from, step_actions, steps_from, takes_from}
use Rattle.jcl_meaning.specs.Plans.{passes}
use Rattle.jcl_meaning.specs.Programs.{moves_of}
use Rattle.jcl_meaning.specs.States.{Answers, Done, Fixed, State}
use Rattle.world_meaning.specs.Headlines.{is_end}
use Rattle.world_meaning.specs.Turns.{Advanced, advance}
use Rattle.world_laws.proofs.Behind.{acted, drop_next, here, writes_or_not}
use Rattle.law_core.specs.Waits.{is_wait}
use Rattle.law_core.proofs.PlainLines.{is_assured, is_broken, is_last, is_of_admission, is_risk, is_special, is_too_many, plain_act}

-- no action before the last is the job's end
none_last : (xs ys : List Action) → list_any is_last xs ≡ false → list_any is_last ys ≡ false → list_any is_last (xs ++ ys) ≡ false
none_last xs ys a b = list_any-append is_last xs ys ∙ (λ i. a i || b i)

no_take : (n dd : ℕ) (ds : List DdPlan) → list_any is_last (takes_from n dd ds) ≡ false
no_take n dd [] = refl
no_take n dd (d ∷ ds) = no_take n (dd + 1) ds

no_move : (step : StepPlan) (ms : List Move) → list_any is_last (moves_from step ms) ≡ false
no_move step [] = refl
no_move step (m ∷ ms) = no_move step ms

no_dispose : (n dd : ℕ) (ds : List DdPlan) → list_any is_last (disposes_from n dd ds) ≡ false
no_dispose n dd [] = refl
no_dispose n dd (d ∷ ds) = no_dispose n (dd + 1) ds

no_step : (n : ℕ) (step : StepPlan) (moves : List Move) → list_any is_last (step_actions n step moves) ≡ false
no_step n step moves =
    none_last (takes_from n 1 step.dds) (moves_from step moves ++ (Finish_and n step)) (no_take n 1 step.dds)
    (none_last (moves_from step moves) (Finish_and n step) (no_move step moves) (no_dispose n 1 step.dds))
  where
    Finish_and : ℕ → StepPlan → List Action
    Finish_and n step = Finish n ∷ disposes_from n 1 step.dds

no_steps : (moves : List ℕ → List Move) (n : ℕ) (steps : List StepPlan) → list_any is_last (steps_from moves n steps) ≡ false
no_steps moves n [] = refl
no_steps moves n (step ∷ steps) =
    none_last (step_actions n step (moves step.program)) (steps_from moves (n + 1) steps) (no_step n step (moves step.program)) (no_steps moves (n + 1) steps)

no_left_by : (step dd : ℕ) (d : DdPlan) (b : Bool) → list_any is_last (cond b (Left step dd d ∷ []) []) ≡ false
no_left_by step dd d true = refl
no_left_by step dd d false = refl

no_left_in : (step dd : ℕ) (ds : List DdPlan) → list_any is_last (lefts_in step dd ds) ≡ false
no_left_in step dd [] = refl
no_left_in step dd (d ∷ ds) = none_last (left_by step dd d) (lefts_in step (dd + 1) ds) (no_left_by step dd d (passes d.kind)) (no_left_in step (dd + 1) ds)

no_left : (n : ℕ) (steps : List StepPlan) → list_any is_last (lefts_from n steps) ≡ false
no_left n [] = refl
no_left n (step ∷ steps) = none_last (lefts_in n 1 step.dds) (lefts_from (n + 1) steps) (no_left_in n 1 step.dds) (no_left (n + 1) steps)

-- behind the end nothing is left
over_last : (front rest : List Action) (k : ℕ) (a : Action) → list_any is_last front ≡ false → drop k (front ++ Over ∷ []) ≡ a ∷ rest → is_last a ≡ true → rest ≡ []
over_last [] rest zero a none e last = let is : [] ≡ rest = cc in sym is
over_last [] rest (suc zero) a none e last = absurd cc
over_last [] rest (suc (suc k)) a none e last = absurd cc
over_last (b ∷ front) rest zero a none e last =
    let is : b ≡ a = cc in
    absurd (both_ways (is_last a) (ap is_last (sym is) ∙ (or_parts (is_last b) (list_any is_last front) none).0) last)
over_last (b ∷ front) rest (suc k) a none e last = over_last front rest k a (or_parts (is_last b) (list_any is_last front) none).1 e last

length_past : {X : Type 0} (k : ℕ) (xs : List X) (x : X) → drop k xs ≡ x ∷ [] → length xs ≤ suc k
length_past zero [] x e = absurd cc
length_past zero (y ∷ []) x e = omega arith
length_past zero (y ∷ z ∷ xs) x e = absurd cc
length_past (suc k) [] x e = absurd cc
length_past (suc k) (y ∷ xs) x e = let le : length xs ≤ suc k = length_past k xs x e in omega (arith, le)

-- the action that writes, by its place in the agenda
pub record Stands (whole : List Action) (fixed : Fixed) (x : Advanced) : Type 0 where
  pub before : ℕ
  pub count : x.count ≡ suc before
  pub rest : List Action
  pub stands : drop before whole ≡ x.action ∷ rest
  pub done : x.done ≡ act fixed x.action x.before

module _ (answers : Action → Own → Answers) (fixed : Fixed) (whole : List Action) where
  stands_by : (a : Action) (rest : List Action) (s : State) (count : ℕ) (x : Advanced) → drop count whole ≡ a ∷ rest →
      (here answers fixed a s count ≡ x) ⊎ (((acted answers fixed a s).lines ≡ [])
      × (advance answers fixed rest (acted answers fixed a s).state (suc count) ≡ Some x)) →
      (advance answers fixed rest (acted answers fixed a s).state (suc count) ≡ Some x → Stands whole fixed x) → Stands whole fixed x
  stands_by a rest s count x left (inl is) later =
      subst (Stands whole fixed) is (record { before = count; count = refl; rest = rest; stands = left; done = refl })
  stands_by a rest s count x left (inr (silent, further)) later = later further

  pub advance_stands : (actions : List Action) (s : State) (count : ℕ) (x : Advanced) → drop count whole ≡ actions → advance answers fixed actions s count ≡ Some x →
      Stands whole fixed x
  unfolding advance
  advance_stands [] s count x left e = absurd cc
  advance_stands (a ∷ rest) s count x left e =
      stands_by a rest s count x left
      (writes_or_not (acted answers fixed a s).lines (here answers fixed a s count) x
      (advance answers fixed rest (acted answers fixed a s).state (suc count)) e)
      (advance_stands rest (acted answers fixed a s).state (suc count) x (drop_next count whole rest a left))

-- a turn behind which the job goes on writes neither END nor ASSURED
pub goes_plain : (plan : JobPlan) (programs : List SoloProgram) (fixed : Fixed) (x : Advanced) → Stands (agenda plan programs) fixed x →
    nat_le (length (agenda plan programs)) x.count ≡ false → list_any is_special x.done.lines ≡ false
goes_plain plan programs fixed x s further = by_action (is_last x.action) refl
  where
    whole : agenda plan programs ≡ (steps_from (moves_of programs) 1 plan.steps ++ lefts_from 1 plan.steps) ++ Over ∷ []
    whole = sym (append_assoc (steps_from (moves_of programs) 1 plan.steps) (lefts_from 1 plan.steps) (Over ∷ []))

    nothing_behind : is_last x.action ≡ true → s.rest ≡ []
    nothing_behind last =
        over_last (steps_from (moves_of programs) 1 plan.steps ++ lefts_from 1 plan.steps) s.rest s.before x.action
        (none_last (steps_from (moves_of programs) 1 plan.steps) (lefts_from 1 plan.steps) (no_steps (moves_of programs) 1 plan.steps) (no_left 1 plan.steps))
        (ap (drop s.before) (sym whole) ∙ s.stands) last

    past : is_last x.action ≡ true → nat_le (length (agenda plan programs)) x.count ≡ true
    past last =
        let le : length (agenda plan programs) ≤ suc s.before =
        length_past s.before (agenda plan programs) x.action (s.stands ∙ ap (λ (rest : List Action). x.action ∷ rest) (nothing_behind last)) in
        le-leb (length (agenda plan programs)) x.count (omega (arith, le, s.count))

    by_action : (b : Bool) → is_last x.action ≡ b → list_any is_special x.done.lines ≡ false
    by_action false other = ap (λ (d : Done). list_any is_special d.lines) s.done ∙ (plain_act fixed x.action x.before other).plain
    by_action true last = absurd (both_ways (nat_le (length (agenda plan programs)) x.count) further (past last))

-- no action writes what is told before it
none_of_admission : (lines : List JobLine) → list_any is_special lines ≡ false → list_any is_of_admission lines ≡ false
none_of_admission [] h = refl
none_of_admission (l ∷ lines) h =
    let both : (is_special l ≡ false) × (list_any is_special lines ≡ false) = or_parts (is_special l) (list_any is_special lines) h in
    λ i. (or_parts (is_end l) (is_of_admission l) both.0).1 i || none_of_admission lines both.1 i

act_none : (fixed : Fixed) (a : Action) (s : State) → list_any is_of_admission (act fixed a s).lines ≡ false
unfolding act
act_none fixed (Start n step) s = refl
act_none fixed (Take n dd d) s = none_of_admission (act fixed (Take n dd d) s).lines (plain_act fixed (Take n dd d) s refl).plain
act_none fixed (Ask step m) s = none_of_admission (act fixed (Ask step m) s).lines (plain_act fixed (Ask step m) s refl).plain
act_none fixed Receive s = none_of_admission (act fixed Receive s).lines (plain_act fixed Receive s refl).plain
act_none fixed (Finish n) s = none_of_admission (act fixed (Finish n) s).lines (plain_act fixed (Finish n) s refl).plain
act_none fixed (Dispose n dd d) s = none_of_admission (act fixed (Dispose n dd d) s).lines (plain_act fixed (Dispose n dd d) s refl).plain
act_none fixed (Left n dd d) s = none_of_admission (act fixed (Left n dd d) s).lines (plain_act fixed (Left n dd d) s refl).plain
act_none fixed Over s = refl

pub unanswered : (whole : List Action) (fixed : Fixed) (x : Advanced) → Stands whole fixed x → list_any is_of_admission x.done.lines ≡ false
unanswered whole fixed x s = ap (λ (d : Done). list_any is_of_admission d.lines) s.done ∙ act_none fixed x.action x.before

-- nor any one kind of it
pub fewer : (p : JobLine → Bool) → ((l : JobLine) → is_of_admission l ≡ false → p l ≡ false) → (lines : List JobLine) → list_any is_of_admission lines ≡ false →
    list_any p lines ≡ false
fewer p is [] h = refl
fewer p is (l ∷ lines) h =
    let both : (is_of_admission l ≡ false) × (list_any is_of_admission lines ≡ false) = or_parts (is_of_admission l) (list_any is_of_admission lines) h in
    λ i. is l both.0 i || fewer p is lines both.1 i

rest_of : (l : JobLine) → is_of_admission l ≡ false → (is_risk l || (is_wait l || (is_too_many l || is_broken l))) ≡ false
rest_of l h = (or_parts (is_assured l) (is_risk l || (is_wait l || (is_too_many l || is_broken l))) h).1

pub unassured : (whole : List Action) (fixed : Fixed) (x : Advanced) → Stands whole fixed x → list_any is_assured x.done.lines ≡ false
unassured whole fixed x s =
    fewer is_assured (λ l h. (or_parts (is_assured l) (is_risk l || (is_wait l || (is_too_many l || is_broken l))) h).0) x.done.lines (unanswered whole fixed x s)

pub riskless : (whole : List Action) (fixed : Fixed) (x : Advanced) → Stands whole fixed x → list_any is_risk x.done.lines ≡ false
riskless whole fixed x s =
    fewer is_risk (λ l h. (or_parts (is_risk l) (is_wait l || (is_too_many l || is_broken l)) (rest_of l h)).0) x.done.lines (unanswered whole fixed x s)

pub waitless : (whole : List Action) (fixed : Fixed) (x : Advanced) → Stands whole fixed x → list_any is_wait x.done.lines ≡ false
waitless whole fixed x s = fewer is_wait waits x.done.lines (unanswered whole fixed x s)
  where
    waits : (l : JobLine) → is_of_admission l ≡ false → is_wait l ≡ false
    waits l h =
        let behind : (is_wait l || (is_too_many l || is_broken l)) ≡ false = (or_parts (is_risk l) (is_wait l || (is_too_many l || is_broken l)) (rest_of l h)).1 in
        (or_parts (is_wait l) (is_too_many l || is_broken l) behind).0
