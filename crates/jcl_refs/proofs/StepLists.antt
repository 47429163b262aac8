-- Steps that are planned one after another.
use Rattle.std.proofs.Common.{◌≡◌, ℕ, zero, suc, ◌+◌, ◌<◌, ◌≤◌, Bool, true, false, nat_lt, List, [], ◌∷◌, ◌++◌, drop, length, map, slice_index_or, Option, Some, None, Result, Ok, Err, refl, sym, ap, subst, ◌∙◌, arith, add-one, length-append}
use Rattle.std.proofs.Math.Seq.{drop-cons}
use Rattle.std.proofs.lemmas.Bool.{le-ltb}
use Rattle.std.specs.List.{All}
use Rattle.jcl_meaning.specs.Names.{names_of}
use Rattle.jcl_cards.specs.declared.job.JobCard.{JobCard}
use Rattle.jcl_plan.specs.declared.plan.JobPlan.{JobPlan}
use Rattle.jcl_plan.specs.declared.fault.Cause.TheVariants.{P}
use Rattle.jcl_plan.specs.declared.fault.StatementFault.TheVariants.{TooManyNames, TooManySteps}
use Rattle.operand_core.specs.Faults.{told}
use Rattle.value_core.specs.Reads.{Gives}
use Rattle.value_core.specs.declared.refusal.ReadError.{ReadError}
use Rattle.value_core.specs.declared.refusal.ReadError.TheVariants.{Refused, Memory}
use Rattle.jcl_plan.specs.declared.fault.Cause.{Cause}
use Rattle.jcl_plan.specs.declared.plan.DdKind.{DdKind}
use Rattle.jcl_plan.specs.declared.plan.DdPlan.{DdPlan}
use Rattle.jcl_plan.specs.declared.plan.StepPlan.{StepPlan}
use Rattle.jcl_dds.specs.declared.dd.DdCard.{DdCard}
use Rattle.jcl_procs.specs.declared.step.FlatStep.{FlatStep}
use Rattle.jcl_procs.specs.Expansions.{and_then}
use Rattle.jcl_refs.specs.Plans.{all_of, by_fault, dds_with, job_with, kind_of, kinds_from, kinds_in, most_dds, most_names, most_steps, plan_by, plan_of, refused_if, spot, steps_from, units_of_steps, with_dds_left}
use Rattle.jcl_refs.specs.Planning.{HaveFewDds, counts_in, has_many_dd_names, named, plan_with, planned_counts, step_by, steps_by, with_units}

-- as many DDs are planned as are left
no_fault : {A : Type 0} (fault : Option Cause) (next : Result A Cause) (a : A) → by_fault fault next ≡ Ok a → next ≡ Ok a
no_fault None next a is = is
no_fault (Some fault) next a is = cc

kinds_length : (steps : List FlatStep) (call : Option ℕ) (k : ℕ) (planned : List (List DdKind)) (here : List DdKind) (dds : List DdCard) (kinds : List DdKind) →
    kinds_from steps call k planned here dds ≡ Ok kinds → length kinds ≡ length here + length dds
kinds_length steps call k planned here [] kinds is =
    let same : here ≡ kinds = cc in
    ap length (sym same) ∙ omega (arith)
kinds_length steps call k planned here (dd ∷ dds) kinds is =
    let next = here ++ (kind_of (spot steps call k planned here) dd).value ∷ [] in
    let more = kinds_length steps call k planned next dds kinds
    (no_fault (told (kind_of (spot steps call k planned here) dd).faults) (kinds_from steps call k planned next dds) kinds is) in
    more ∙ ap (λ n. n + length dds) (length-append here ((kind_of (spot steps call k planned here) dd).value ∷ [])) ∙ shift (length here) (length dds)
  where
    shift : (a b : ℕ) → (a + 1) + b ≡ a + suc b
    shift a b = omega (arith)

dds_length : (dds : List DdCard) (kinds : List DdKind) → length kinds ≡ length dds → length (dds_with dds kinds) ≡ length dds
dds_length [] kinds same = refl
dds_length (dd ∷ dds) [] same = absurd (omega (arith, same))
dds_length (dd ∷ dds) (kind ∷ kinds) same = ap (λ n. suc n) (dds_length dds kinds (omega (arith, same)))

planned_by : (r : Result (List DdKind) Cause) (dds : List DdCard) (planned : List DdPlan) → ((kinds : List DdKind) → r ≡ Ok kinds → length kinds ≡ length dds) →
    and_then r (λ kinds. Ok (dds_with dds kinds)) ≡ Ok planned → length planned ≡ length dds
planned_by (Err fault) dds planned size is = cc
planned_by (Ok kinds) dds planned size is =
    let same : dds_with dds kinds ≡ planned = cc in
    ap length (sym same) ∙ dds_length dds kinds (size kinds refl)

pub planned_length : (steps : List FlatStep) (call : Option ℕ) (k : ℕ) (done : List (List DdKind)) (dds : List DdCard) (planned : List DdPlan) →
    and_then (kinds_from steps call k done [] dds) (λ kinds. Ok (dds_with dds kinds)) ≡ Ok planned → length planned ≡ length dds
planned_length steps call k done dds planned is =
    planned_by (kinds_from steps call k done [] dds) dds planned
    (λ kinds e. kinds_length steps call k done [] dds kinds e ∙ omega (arith)) is

-- one more step
drop_here : {X : Type 0} (xs : List X) (n : ℕ) (x : X) → n < length xs → x ≡ slice_index_or xs n x → drop n xs ≡ x ∷ drop (n + 1) xs
drop_here {X} xs n x lt at =
    drop-cons xs n x lt ∙ ap (λ (y : X). y ∷ drop (suc n) xs) (sym at) ∙ ap (λ m. x ∷ drop m xs) (sym (add-one n))

pub step_next : (left : List FlatStep) (many : List Bool) (n : ℕ) (before done : List StepPlan) (b : Bool) (s : FlatStep) (r : Result StepPlan Cause) →
    n < length left → n < length many → s ≡ slice_index_or left n s → before ≡ done →
    step_by left (n + 1) (map kinds_in before) (slice_index_or many n b) s ≡ r →
    steps_by left (n + 1) done (drop n many) (drop n left)
    ≡ and_then r (λ plan. steps_by left (n + 1 + 1) (done ++ plan ∷ []) (drop (n + 1) many) (drop (n + 1) left))
step_next left many n before done b s r lt lt_many at same is =
    let here = slice_index_or many n b in
    let first : drop n many ≡ here ∷ drop (n + 1) many = drop-cons many n b lt_many ∙ ap (λ m. here ∷ drop m many) (sym (add-one n)) in
    ap (λ m. steps_by left (n + 1) done m (drop n left)) first
    ∙ ap (λ ss. steps_by left (n + 1) done (here ∷ drop (n + 1) many) ss) (drop_here left n s lt at)
    ∙ ap (λ (x : Result StepPlan Cause). and_then x (λ plan. steps_by left (n + 1 + 1) (done ++ plan ∷ []) (drop (n + 1) many) (drop (n + 1) left)))
    (ap (λ ps. step_by left (n + 1) (map kinds_in ps) here s) (sym same) ∙ is)

pub refused_first : {A B : Type 0} (e : ReadError) (r : Result A Cause) (next : A → Result B Cause) (all : Result B Cause) → all ≡ and_then r next →
    Gives {A = A} (Err e) r → Gives {A = B} (Err e) all
refused_first {A} {B} (Refused fault) r next all is gives = is ∙ ap (λ (x : Result A Cause). and_then x next) gives
refused_first Memory r next all is gives = tt

counts_with : (done : List StepPlan) (plan : StepPlan) (rest : List ℕ) →
    planned_counts (done ++ plan ∷ []) ++ rest ≡ planned_counts done ++ length plan.dds ∷ rest
counts_with [] plan rest = refl
counts_with (p ∷ done) plan rest = ap (λ ns. length p.dds ∷ ns) (counts_with done plan rest)

pub counts_more : (left : List FlatStep) (n : ℕ) (done : List StepPlan) (s : FlatStep) (plan : StepPlan) → n < length left → s ≡ slice_index_or left n s →
    length plan.dds ≡ length s.dds → planned_counts (done ++ plan ∷ []) ++ counts_in (drop (n + 1) left) ≡ planned_counts done ++ counts_in (drop n left)
counts_more left n done s plan lt at same =
    counts_with done plan (counts_in (drop (n + 1) left))
    ∙ ap (λ m. planned_counts done ++ m ∷ counts_in (drop (n + 1) left)) same
    ∙ ap (λ ss. planned_counts done ++ counts_in ss) (sym (drop_here left n s lt at))

all_more : {X : Type 0} (Q : X → Type 0) (xs : List X) (x : X) → All Q xs → Q x → All Q (xs ++ x ∷ [])
all_more Q [] x all here zero d lt = here
all_more Q [] x all here (suc k) d lt = absurd (omega (arith, lt))
all_more Q (y ∷ xs) x all here zero d lt = all 0 d (omega (arith))
all_more Q (y ∷ xs) x all here (suc k) d lt = all_more Q xs x (λ i e less. all (suc i) e (omega (arith, less))) here k d (omega (arith, lt))

pub few_more : (done : List StepPlan) (plan : StepPlan) (new : List StepPlan) → new ≡ done ++ plan ∷ [] → HaveFewDds done → length plan.dds ≤ most_dds →
    HaveFewDds new
few_more done plan new is few here =
    let F : List StepPlan → Type 0 = HaveFewDds in
    subst F (sym is) (all_more (λ (s : StepPlan). length s.dds ≤ most_dds) done plan few here)

pub all_planned : (left : List FlatStep) (many : List Bool) (n : ℕ) (done : List StepPlan) → n ≡ length many →
    steps_by left (n + 1) done (drop n many) (drop n left) ≡ Ok done
all_planned left many n done end = ap (λ m. steps_by left (n + 1) done m (drop n left)) (ap (λ m. drop m many) end ∙ drop_whole many)
  where
    drop_whole : (many : List Bool) → drop (length many) many ≡ []
    drop_whole [] = refl
    drop_whole (b ∷ many) = drop_whole many

pub all_counted : (left : List FlatStep) (n : ℕ) (done : List StepPlan) → n ≡ length left → planned_counts done ++ counts_in (drop n left) ≡ planned_counts done
all_counted left n done end =
    ap (λ ss. planned_counts done ++ counts_in ss) (ap (λ m. drop m left) end ∙ drop_whole left) ∙ append_none (planned_counts done)
  where
    drop_whole : (left : List FlatStep) → drop (length left) left ≡ []
    drop_whole [] = refl
    drop_whole (s ∷ left) = drop_whole left

    append_none : (ns : List ℕ) → ns ++ [] ≡ ns
    append_none [] = refl
    append_none (n ∷ ns) = ap (λ ms. n ∷ ms) (append_none ns)

-- the steps as they stand tell which have too many DDNAMEs
and_then_same : {A B : Type 0} (r : Result A Cause) (f g : A → Result B Cause) → ((a : A) → f a ≡ g a) → and_then r f ≡ and_then r g
and_then_same (Err fault) f g same = refl
and_then_same (Ok a) f g same = same a

pub same_steps : (left : List FlatStep) (k : ℕ) (done : List StepPlan) (stand here : List FlatStep) →
    steps_by left k done (map has_many_dd_names stand) here ≡ steps_from left k done stand here
same_steps left k done [] here = refl
same_steps left k done (stands ∷ stand) [] = refl
same_steps left k done (stands ∷ stand) (s ∷ here) =
    and_then_same (step_by left k (map kinds_in done) (has_many_dd_names stands) s)
    (λ plan. steps_by left (k + 1) (done ++ plan ∷ []) (map has_many_dd_names stand) here)
    (λ plan. steps_from left (k + 1) (done ++ plan ∷ []) stand here)
    (λ plan. same_steps left (k + 1) (done ++ plan ∷ []) stand here)

names_first : (units : List (List ℕ)) (left : List FlatStep) (b : Bool) (plan : JobPlan) →
    and_then (refused_if b (P TooManyNames) (Ok plan)) (with_units units left) ≡ refused_if b (P TooManyNames) (with_units units left plan)
names_first units left true plan = refl
names_first units left false plan = refl

pub same_plan : (units : List (List ℕ)) (job : JobCard) (steps left : List FlatStep) →
    plan_with units job left (map has_many_dd_names steps) ≡ plan_by units job steps left
same_plan units job steps left =
    by_steps (steps_by left 1 [] (map has_many_dd_names steps) left)
    ∙ ap (λ (r : Result (List StepPlan) Cause). and_then r end) (same_steps left 1 [] steps left)
  where
    end : List StepPlan → Result JobPlan Cause
    end plans = refused_if (nat_lt most_names (length (names_of (job_with job plans)))) (P TooManyNames)
        (and_then (all_of (units_of_steps units left plans)) (λ placed. Ok (job_with job placed)))

    by_steps : (r : Result (List StepPlan) Cause) → and_then (and_then r (λ plans. named (job_with job plans))) (with_units units left) ≡ and_then r end
    by_steps (Err fault) = refl
    by_steps (Ok plans) = names_first units left (nat_lt most_names (length (names_of (job_with job plans)))) (job_with job plans)

pub plan_is : (units : List (List ℕ)) (job : JobCard) (steps left : List FlatStep) (many : List Bool) → length steps ≤ most_steps →
    left ≡ map with_dds_left steps → many ≡ map has_many_dd_names steps → plan_with units job left many ≡ plan_of units job steps
plan_is units job steps left many few left_is many_is =
    ap (λ bs. plan_with units job left bs) many_is
    ∙ ap (λ ss. plan_with units job ss (map has_many_dd_names steps)) left_is
    ∙ same_plan units job steps (map with_dds_left steps)
    ∙ ap (λ b. refused_if b (P TooManySteps) (plan_by units job steps (map with_dds_left steps))) (sym (le-ltb most_steps (length steps) few))
