-- What a walk knows of the DDs that it has passed, in the whole plan.
use Rattle.std.proofs.Common.{◌≡◌, ℕ, zero, suc, ◌-◌, ◌==◌, Bool, true, false, ◌&&◌, ◌||◌, List, [], ◌∷◌, ◌++◌, length, get_or, Option, Some, None, refl, sym, ap, subst, inl, inr, eqb-true}
use Rattle.std.specs.Prelude.{nat_le, nat_lt, slice_get}
use Rattle.std.proofs.lemmas.Bool.{and_parts, leb-true, ltb-true, or_cases}
use Rattle.std.proofs.lemmas.List.{append-nil}
use Rattle.jcl_plan.specs.declared.plan.DdKind.{DdKind}
use Rattle.jcl_plan.specs.declared.plan.DdKind.TheVariants.{Cards, Dummy, Set, Sysout}
use Rattle.jcl_plan.specs.declared.plan.DdPlan.{DdPlan}
use Rattle.jcl_plan.specs.declared.plan.StepPlan.{StepPlan}
use Rattle.cb_meaning.specs.Walks.{is_earlier_set, is_set_at, with_dds}
use Rattle.cb_meaning.specs.Writable.{IsBefore, IsEarlierSet, IsForSet, kind_at}

abbrev pub for_set : DdKind → Bool
for_set (Set p) = true
for_set Dummy = false
for_set (Sysout class) = false
for_set (Cards cards) = false

abbrev pub set_marks : List DdPlan → List Bool
set_marks [] = []
set_marks (dd ∷ dds) = for_set dd.kind ∷ set_marks dds

abbrev pub step_marks : List StepPlan → List (List Bool)
step_marks [] = []
step_marks (step ∷ steps) = set_marks step.dds ∷ step_marks steps

pub length_marks : (dds : List DdPlan) → length (set_marks dds) ≡ length dds
length_marks [] = refl
length_marks (dd ∷ dds) = ap suc (length_marks dds)

pub length_steps : (steps : List StepPlan) → length (step_marks steps) ≡ length steps
length_steps [] = refl
length_steps (step ∷ steps) = ap suc (length_steps steps)

pub marks_more : (dds : List DdPlan) (dd : DdPlan) → set_marks (dds ++ dd ∷ []) ≡ set_marks dds ++ for_set dd.kind ∷ []
marks_more [] dd = refl
marks_more (d ∷ dds) dd = ap (λ xs. for_set d.kind ∷ xs) (marks_more dds dd)

pub steps_more : (steps : List StepPlan) (step : StepPlan) → step_marks (steps ++ step ∷ []) ≡ with_dds (step_marks steps) (set_marks step.dds)
steps_more [] step = refl
steps_more (s ∷ steps) step = ap (λ xs. set_marks s.dds ∷ xs) (steps_more steps step)

-- kinds by place
abbrev kind_of_dd : Option DdPlan → Option DdKind
kind_of_dd None = None
kind_of_dd (Some d) = Some d.kind

abbrev kind_of_step : Option StepPlan → ℕ → Option DdKind
kind_of_step None dd = None
kind_of_step (Some s) dd = kind_of_dd (slice_get s.dds (dd - 1))

is_for_set : (kind : DdKind) → for_set kind ≡ true → IsForSet (Some kind)
is_for_set (Set p) h = tt
is_for_set Dummy h = absurd cc
is_for_set (Sysout class) h = absurd cc
is_for_set (Cards cards) h = absurd cc

in_front : (front rest : List DdPlan) (j : ℕ) → get_or (set_marks front) j false ≡ true → IsForSet (kind_of_dd (slice_get (front ++ rest) j))
in_front [] rest j h = absurd cc
in_front (dd ∷ front) rest zero h = is_for_set dd.kind h
in_front (dd ∷ front) rest (suc j) h = in_front front rest j h

in_whole : (dds front rest : List DdPlan) (j : ℕ) → dds ≡ front ++ rest → get_or (set_marks front) j false ≡ true → IsForSet (kind_of_dd (slice_get dds j))
in_whole dds front rest j e h = subst (λ (ds : List DdPlan). IsForSet (kind_of_dd (slice_get ds j))) (sym e) (in_front front rest j h)

at_place : (done behind : List StepPlan) (here : StepPlan) (front rest : List DdPlan) (i d : ℕ) → here.dds ≡ front ++ rest →
    get_or (get_or (step_marks done ++ set_marks front ∷ []) i []) (d - 1) false ≡ true → IsForSet (kind_of_step (slice_get (done ++ here ∷ behind) i) d)
at_place [] behind here front rest zero d e h = in_whole here.dds front rest (d - 1) e h
at_place [] behind here front rest (suc i) d e h = absurd cc
at_place (s ∷ done) behind here front rest zero d e h = in_whole s.dds s.dds [] (d - 1) (sym (append-nil s.dds)) h
at_place (s ∷ done) behind here front rest (suc i) d e h = at_place done behind here front rest i d e h

-- the marks say of no DD of the plan that it is a set where it is none
abbrev pub Agrees : List (List Bool) → List StepPlan → Type 0
Agrees marks all = (s d : ℕ) → is_set_at marks s d ≡ true → IsForSet (kind_at all s d)

pub passed : (all done behind : List StepPlan) (here : StepPlan) (front rest : List DdPlan) → all ≡ done ++ here ∷ behind → here.dds ≡ front ++ rest →
    Agrees (with_dds (step_marks done) (set_marks front)) all
passed all done behind here front rest is e s d h =
    subst (λ (steps : List StepPlan). IsForSet (kind_at steps s d)) (sym is) (at_place done behind here front rest (s - 1) d e h)

before : (s d k e : ℕ) → (nat_lt s k || (s == k && nat_lt d e)) ≡ true → IsBefore s d k e
before s d k e h =
    elim (or_cases (nat_lt s k) (s == k && nat_lt d e) h) [
      | inl less ↦ inl (ltb-true s k less)
      | inr same ↦ (let parts = and_parts (s == k) (nat_lt d e) same in inr (eqb-true s k parts.0, ltb-true d e parts.1))
    ]

pub earlier : (marks : List (List Bool)) (all : List StepPlan) (k d s e : ℕ) → Agrees marks all → is_earlier_set marks k d s e ≡ true →
    IsEarlierSet all k d s e
earlier marks all k d s e agrees h =
    let last = and_parts (nat_le 1 s && nat_le 1 e && (nat_lt s k || (s == k && nat_lt e d))) (is_set_at marks s e) h in
    let middle = and_parts (nat_le 1 s && nat_le 1 e) (nat_lt s k || (s == k && nat_lt e d)) last.0 in
    let first = and_parts (nat_le 1 s) (nat_le 1 e) middle.0 in
    record {
      from_one = (leb-true 1 s first.0, leb-true 1 e first.1);
      before = before s e k d middle.1;
      for_set = agrees s e last.1;
    }
