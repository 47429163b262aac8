-- The marks of a job's actions, as they are put.
use Rattle.std.proofs.Common.{◌≡◌, ◌+◌, ◌-◌, ◌<◌, ◌++◌, ◌∷◌, ℕ, zero, suc, Bool, true, false, cond, List, [], length, map, take, get_or, refl, sym, ap, ◌∙◌, append_assoc, arith, add-one}
use Rattle.std.proofs.lemmas.List.{append-nil, map-append, take_more}
use Rattle.jcl_plan.specs.declared.plan.DdPlan.{DdPlan}
use Rattle.jcl_plan.specs.declared.plan.JobPlan.{JobPlan}
use Rattle.jcl_plan.specs.declared.plan.StepPlan.{StepPlan}
use Rattle.jcl_meaning.specs.declared.program.Move.{Move}
use Rattle.jcl_meaning.specs.Agendas.{Finish, Over, disposes_from, lefts_from, path_agenda, step_actions, steps_from, takes_from}
use Rattle.jcl_meaning.specs.Programs.{is_iefbr14, moves_of}
use Rattle.path_meaning.specs.Paths.{FaultPlace}
use Rattle.path_core.specs.Marks.{dd_marks, is_at, is_spot, step_marks, steps_marks}

-- one more
dd_marks-suc : (w : FaultPlace) (n ended dd count : ℕ) → dd_marks w n ended dd (suc count) ≡ dd_marks w n ended dd count ++ is_spot w n (dd + count) ended ∷ []
dd_marks-suc w n ended dd zero = let e : dd ≡ dd + 0 = omega arith in ap (λ m. is_spot w n m ended ∷ []) e
dd_marks-suc w n ended dd (suc count) =
    let e : dd + 1 + count ≡ dd + suc count = omega arith in
    ap (λ l. is_spot w n dd ended ∷ l) (dd_marks-suc w n ended (dd + 1) count ∙ ap (λ m. dd_marks w n ended (dd + 1) count ++ is_spot w n m ended ∷ []) e)

pub dd_marked : (w : FaultPlace) (n ended i : ℕ) (before : List Bool) →
    (before ++ dd_marks w n ended 1 i) ++ is_spot w n (i + 1) ended ∷ [] ≡ before ++ dd_marks w n ended 1 (i + 1)
dd_marked w n ended i before =
    let e : 1 + i ≡ i + 1 = omega arith in
    append_assoc before (dd_marks w n ended 1 i) (is_spot w n (i + 1) ended ∷ [])
    ∙ ap (λ l. before ++ l) ((λ j. dd_marks w n ended 1 i ++ is_spot w n (sym e j) ended ∷ []) ∙ sym (dd_marks-suc w n ended 1 i)
    ∙ ap (dd_marks w n ended 1) (sym (add-one i)))

steps_marks-snoc : (w : FaultPlace) (b : ℕ) (xs : List StepPlan) (s : StepPlan) →
    steps_marks w b (xs ++ s ∷ []) ≡ steps_marks w b xs ++ step_marks w (b + length xs) (b + length xs + 1) (length s.dds)
steps_marks-snoc w b [] s =
    let e : b ≡ b + 0 = omega arith in
    append-nil (step_marks w b (b + 1) (length s.dds)) ∙ ap (λ m. step_marks w m (m + 1) (length s.dds)) e
steps_marks-snoc w b (x ∷ xs) s =
    let e : b + 1 + length xs ≡ b + suc (length xs) = omega arith in
    ap (λ l. step_marks w b (b + 1) (length x.dds) ++ l) (steps_marks-snoc w (b + 1) xs s)
    ∙ sym (append_assoc (step_marks w b (b + 1) (length x.dds)) (steps_marks w (b + 1) xs) (step_marks w (b + 1 + length xs) (b + 1 + length xs + 1) (length s.dds)))
    ∙ ap (λ m. (step_marks w b (b + 1) (length x.dds) ++ steps_marks w (b + 1) xs) ++ step_marks w m (m + 1) (length s.dds)) e

-- what is put behind what was put, of a front one longer
pub put_more : {X Y : Type 0} (put : List X → List Y) (xs : List X) (i : ℕ) (x : X) (before now more : List Y) → i < length xs → x ≡ get_or xs i x →
    now ≡ before ++ put (take i xs) → put (take i xs ++ x ∷ []) ≡ put (take i xs) ++ more → now ++ more ≡ before ++ put (take (i + 1) xs)
put_more put xs i x before now more h is known one =
    ap (λ l. l ++ more) known ∙ append_assoc before (put (take i xs)) more
    ∙ ap (λ l. before ++ l) (sym one ∙ ap put (sym (take_more xs i x h ∙ ap (λ y. take i xs ++ y ∷ []) (sym is))))

pub step_marked : (w : FaultPlace) (xs : List StepPlan) (s : StepPlan) (i : ℕ) → length xs ≡ i →
    steps_marks w 0 (xs ++ s ∷ []) ≡ steps_marks w 0 xs ++ step_marks w i (i + 1) (length s.dds)
step_marked w xs s i size =
    let e : 0 + length xs ≡ i = omega arith in
    steps_marks-snoc w 0 xs s ∙ ap (λ m. steps_marks w 0 xs ++ step_marks w m (m + 1) (length s.dds)) e

-- The marks are those of the actions.
none_asked : (program : List ℕ) → moves_of [] program ≡ []
none_asked program = either (is_iefbr14 program)
  where
    either : (b : Bool) → cond {A = List Move} b [] [] ≡ []
    either true = refl
    either false = refl

module _ (steps : ℕ) (w : FaultPlace) where
  takes_marked : (n dd : ℕ) (ds : List DdPlan) → map (is_at steps w) (takes_from n dd ds) ≡ dd_marks w n (n - 1) dd (length ds)
  takes_marked n dd [] = refl
  takes_marked n dd (d ∷ ds) = ap (λ l. is_spot w n dd (n - 1) ∷ l) (takes_marked n (dd + 1) ds)

  disposes_marked : (n dd : ℕ) (ds : List DdPlan) → map (is_at steps w) (disposes_from n dd ds) ≡ dd_marks w n n dd (length ds)
  disposes_marked n dd [] = refl
  disposes_marked n dd (d ∷ ds) = ap (λ l. is_spot w n dd n ∷ l) (disposes_marked n (dd + 1) ds)

  one_step_marked : (b : ℕ) (step : StepPlan) → map (is_at steps w) (step_actions (b + 1) step []) ≡ step_marks w b (b + 1) (length step.dds)
  one_step_marked b step =
      let e : b + 1 - 1 ≡ b = omega arith in
      ap (λ l. false ∷ l) (map-append (is_at steps w) (takes_from (b + 1) 1 step.dds) (Finish (b + 1) ∷ disposes_from (b + 1) 1 step.dds)
      ∙ (λ i. (takes_marked (b + 1) 1 step.dds ∙ ap (λ m. dd_marks w (b + 1) m 1 (length step.dds)) e) i ++ (false ∷ disposes_marked (b + 1) 1 step.dds i)))

  all_steps_marked : (b : ℕ) (xs : List StepPlan) → map (is_at steps w) (steps_from (moves_of []) (b + 1) xs) ≡ steps_marks w b xs
  all_steps_marked b [] = refl
  all_steps_marked b (x ∷ xs) =
      map-append (is_at steps w) (step_actions (b + 1) x (moves_of [] x.program)) (steps_from (moves_of []) (b + 1 + 1) xs)
      ∙ (λ i. (ap (λ moves. map (is_at steps w) (step_actions (b + 1) x moves)) (none_asked x.program) ∙ one_step_marked b x) i ++ all_steps_marked (b + 1) xs i)

pub agenda_marked : (w : FaultPlace) (plan : JobPlan) (marks steps lefts : List Bool) → steps ≡ steps_marks w 0 plan.steps →
    lefts ≡ map (is_at (length plan.steps) w) (lefts_from 1 plan.steps) → marks ≡ (steps ++ lefts) ++ false ∷ [] →
    marks ≡ map (is_at (length plan.steps) w) (path_agenda plan)
agenda_marked w plan marks steps lefts first second e =
    let n = length plan.steps in
    e ∙ (λ i. (first i ++ second i) ++ false ∷ [])
    ∙ append_assoc (steps_marks w 0 plan.steps) (map (is_at n w) (lefts_from 1 plan.steps)) (false ∷ [])
    ∙ (λ i. sym (all_steps_marked n w 0 plan.steps) i ++ sym (map-append (is_at n w) (lefts_from 1 plan.steps) (Over ∷ [])) i)
    ∙ sym (map-append (is_at n w) (steps_from (moves_of []) 1 plan.steps) (lefts_from 1 plan.steps ++ (Over ∷ [])))
