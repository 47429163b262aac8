-- Steps that differ in their names, their calls and their conditions alone, as those of two calls of a procedure: overrides are refused for the same.
use Rattle.std.proofs.Common.{◌≡◌, ◌∷◌, ◌++◌, ◌∙◌, ◌||◌, ◌==◌, ◌≤◌, ◌+◌, ℕ, zero, suc, Bool, true, false, cond, List, [], Option, None, Some, Result, Ok, Err, ap, arith, is_none, length, map, refl, slice_get, subst, sym}
use Rattle.std.specs.Prelude.{is_some, if◌then◌else◌}
use Rattle.std.specs.List.{list_any, position, position_from}
use Rattle.std.proofs.lemmas.Iterator.Adapters.{position_from-zero}
use Rattle.card_core.specs.declared.statement.Statement.{Statement}
use Rattle.jcl_cards.specs.declared.exec.StepCondition.{StepCondition}
use Rattle.jcl_dds.specs.declared.dd.DdCard.{DdCard}
use Rattle.jcl_dds.specs.DdCards.{dd_card, dd_name_faults, has_data}
use Rattle.jcl_dds.specs.Merging.{by_itself}
use Rattle.jcl_deck.specs.declared.operation.Operation.{Operation}
use Rattle.jcl_deck.specs.declared.operation.Operation.TheVariants.{IsDd, IsExec, IsJob, IsOther, IsPend, IsProc}
use Rattle.jcl_deck.specs.Decks.{dd_place_faults, operation_of}
use Rattle.jcl_plan.specs.declared.fault.Cause.{Cause}
use Rattle.jcl_plan.specs.declared.fault.Cause.TheVariants.{P}
use Rattle.jcl_plan.specs.declared.fault.StatementFault.TheVariants.{CardsInProcedure, NoStep, NoSuchProcedureStep}
use Rattle.jcl_procs.specs.declared.overriding.Place as overriding
use Rattle.jcl_procs.specs.declared.step.FlatStep.{FlatStep}
use Rattle.jcl_procs.specs.Calls.{Call, Place, behind_by, onto_last, read_with, steps_behind, steps_from, steps_of, takes_dd}
use Rattle.jcl_procs.specs.Overrides.{dds_at, dds_overridden, is_named, is_step, overrides_from, overrides_member, overrides_named, overrides_one, place_behind, step_at, step_by_position, with_condition, with_step_condition, with_step_conditions, with_this}
use Rattle.jcl_procs.specs.Overrides.{steps_behind as steps_onward}
use Rattle.jcl_procs.specs.StepDds.{fault_of, first_fault, named_fault, with_member, with_named}
use Rattle.jcl_procs.proofs.Alike.{dds_of, with_dd, with_step}
use Rattle.jcl_procs.proofs.Called.{value_is}
use Rattle.jcl_procs.proofs.Reached.{mapped, member_places, named_places}
use Rattle.jcl_symbols.specs.declared.symbol.Symbol.{Symbol}
use Rattle.jcl_symbols.specs.Substitutions.{substituted}
use Rattle.list_values.specs.declared.condition.Condition.{Condition}
use Rattle.operand_core.specs.Faults.{or_fault, told, when}
use Rattle.value_core.specs.Reads.{Read}

-- they have the same names in the procedure, and the same DDs
abbrev pub Same : List FlatStep → List FlatStep → Type 0
Same [] [] = Unit {0}
Same (x ∷ a) (y ∷ b) = (x.procedure_step ≡ y.procedure_step) × (x.dds ≡ y.dds) × Same a b
Same [] (y ∷ b) = ⊥
Same (x ∷ a) [] = ⊥

same_self : (a : List FlatStep) → Same a a
same_self [] = tt
same_self (x ∷ a) = (refl, refl, same_self a)

same_onward : (a b c : List FlatStep) → Same a b → Same b c → Same a c
same_onward [] [] [] one two = tt
same_onward (x ∷ a) (y ∷ b) (z ∷ c) one two = (one.0 ∙ two.0, one.1 ∙ two.1, same_onward a b c one.2 two.2)
same_onward [] [] (z ∷ c) one two = absurd two
same_onward [] (y ∷ b) c one two = absurd one
same_onward (x ∷ a) [] c one two = absurd one
same_onward (x ∷ a) (y ∷ b) [] one two = absurd two

same_dds : (a b : List FlatStep) → Same a b → dds_of a ≡ dds_of b
same_dds [] [] same = refl
same_dds (x ∷ a) (y ∷ b) same =
    ap (λ (dds : List DdCard). dds ∷ dds_of a) same.1 ∙ ap (λ (rest : List (List DdCard)). y.dds ∷ rest) (same_dds a b same.2)
same_dds [] (y ∷ b) same = absurd same
same_dds (x ∷ a) [] same = absurd same

pub same_length : (a b : List FlatStep) → Same a b → length a ≡ length b
same_length [] [] same = refl
same_length (x ∷ a) (y ∷ b) same = ap (λ n. suc n) (same_length a b same.2)
same_length [] (y ∷ b) same = absurd same
same_length (x ∷ a) [] same = absurd same

same_none : (a b : List FlatStep) → Same a b → (length a == 0) ≡ (length b == 0)
same_none [] [] same = refl
same_none (x ∷ a) (y ∷ b) same = grind arith
same_none [] (y ∷ b) same = absurd same
same_none (x ∷ a) [] same = absurd same

same_put : (x y : FlatStep) (a b : List FlatStep) → x.procedure_step ≡ y.procedure_step → x.dds ≡ y.dds → Same a b → Same (a ++ x ∷ []) (b ++ y ∷ [])
same_put x y [] [] name dds same = (name, dds, tt)
same_put x y (p ∷ a) (q ∷ b) name dds same = (same.0, same.1, same_put x y a b name dds same.2)
same_put x y [] (q ∷ b) name dds same = absurd same
same_put x y (p ∷ a) [] name dds same = absurd same

same_onto : (dd : DdCard) (a b : List FlatStep) → Same a b → Same (onto_last dd a) (onto_last dd b)
same_onto dd [] [] same = tt
same_onto dd (x ∷ []) (y ∷ []) same = (same.0, ap (λ (dds : List DdCard). dds ++ by_itself dd ∷ []) same.1, tt)
same_onto dd (x ∷ p ∷ a) (y ∷ q ∷ b) same = (same.0, same.1, same_onto dd (p ∷ a) (q ∷ b) same.2)
same_onto dd (x ∷ []) (y ∷ q ∷ b) same = absurd same.2
same_onto dd (x ∷ p ∷ a) (y ∷ []) same = absurd same.2
same_onto dd [] (y ∷ b) same = absurd same
same_onto dd (x ∷ a) [] same = absurd same

-- places at which the steps so far are the same
pub record SamePlace (a b : Place) : Type 0 where
  pub library : a.job_library ≡ b.job_library
  pub steps : Same a.steps b.steps

same_as : (a b x : Place) → x ≡ a → SamePlace a b → SamePlace x b
same_as a b x is same = subst (λ p. SamePlace p b) (sym is) same

ok_too : {A B : Type 0} (f : Option Cause) (value x : A) (other : B) → or_fault f value ≡ Ok x → or_fault f other ≡ Ok other
ok_too None value x other is = refl
ok_too (Some f) value x other is = absurd cc

-- calls that differ in their names and places alone
module _ (name named : Option (List ℕ)) (symbols : List Symbol) (i j : ℕ) where
  abbrev one : Call
  one = record { name = name; place = i; symbols = symbols }

  abbrev other : Call
  other = record { name = named; place = j; symbols = symbols }

  abbrev Takes : Place → Result Place Cause → Type 0
  Takes x taken = (y : Place) × (taken ≡ Ok y) × SamePlace x y

  same_dd : (a b x : Place) (s : Statement) → SamePlace a b → takes_dd one a s ≡ Ok x → Takes x (takes_dd other b s)
  same_dd a b x s same is =
      let read : Bool → List (List DdCard) → Read DdCard = λ library dds.
      read_with (substituted symbols true s.operand) (dd_name_faults s.name) (λ operand. dd_card s.name operand s.cards)
      (λ dd. when (has_data dd) (P CardsInProcedure) ++ dd_place_faults library dds s ++ when (is_some dd.qualifier) (P NoSuchProcedureStep)) in
      let r : Read DdCard = read a.job_library (dds_of a.steps) in
      let both : r ≡ read b.job_library (dds_of b.steps) =
      ap (λ library. read library (dds_of a.steps)) same.library ∙ ap (read b.job_library) (same_dds a.steps b.steps same.steps) in
      let so : SamePlace (with_dd a r.value) (with_dd b r.value) = record {
        library = ap (λ library. library || length a.steps == 0) same.library
            ∙ ap (λ none. b.job_library || none) (same_none a.steps b.steps same.steps);
        steps = same_onto r.value a.steps b.steps same.steps;
      } in
      subst (λ (q : Read DdCard). Takes x (or_fault (told q.faults) (with_dd b q.value))) both (
        with_dd b r.value,
        ok_too (told r.faults) (with_dd a r.value) x (with_dd b r.value) is,
        same_as (with_dd a r.value) (with_dd b r.value) x (value_is (told r.faults) (with_dd a r.value) x is) so,
      )

  same_exec : (a b x p q : Place) (f : Option Cause) → or_fault f p ≡ Ok x → SamePlace p q → Takes x (or_fault f q)
  same_exec a b x p q f is so = (q, ok_too f p x q is, same_as p q x (value_is f p x is) so)

  same_by : (operation : Operation) (a b x : Place) (s : Statement) → SamePlace a b → behind_by operation one a s ≡ Ok x → Takes x (behind_by operation other b s)
  same_by IsExec a b x s same is = same_exec a b x _ _ _ is (record { library = same.library; steps = same_put _ _ a.steps b.steps refl refl same.steps })
  same_by IsDd a b x s same is = same_dd a b x s same is
  same_by IsProc a b x s same is = same_exec a b x a b _ is same
  same_by IsJob a b x s same is = same_exec a b x a b _ is same
  same_by IsPend a b x s same is = same_exec a b x a b _ is same
  same_by IsOther a b x s same is = same_exec a b x a b _ is same

  ended : Bool → List FlatStep → Result (List FlatStep) Cause
  ended none steps = if none then Err (P NoStep) else Ok steps

  abbrev Brings : List FlatStep → Result (List FlatStep) Cause → Type 0
  Brings found steps = (more : List FlatStep) × (steps ≡ Ok more) × Same found more

  same_ended : (b : Bool) (own steps found : List FlatStep) → Same own steps → ended b own ≡ Ok found → Brings found (ended b steps)
  unfolding ended
  same_ended true own steps found same is = absurd cc
  same_ended false own steps found same is =
      let so : own ≡ found = cc in (steps, refl, subst (λ l. Same l steps) so same)

  turn : (statements : List Statement) (found : List FlatStep) (b : Place) (s : Statement) →
      ((x y : Place) → SamePlace x y → steps_from one x statements ≡ Ok found → Brings found (steps_from other y statements)) →
      (r : Result Place Cause) → steps_behind r (λ next. steps_from one next statements) ≡ Ok found →
      ((x : Place) → r ≡ Ok x → Takes x (behind_by (operation_of s.operation) other b s)) → Brings found (steps_from other b (s ∷ statements))
  turn statements found b s more (Ok x) h takes =
      let next = takes x refl in
      let rest = more x next.0 next.2 h in
      (rest.0, ap (λ (r : Result Place Cause). steps_behind r (λ next. steps_from other next statements)) next.1 ∙ rest.1, rest.2)
  turn statements found b s more (Err f) h takes = absurd cc

  same_from : (statements : List Statement) (a b : Place) (found : List FlatStep) → SamePlace a b → steps_from one a statements ≡ Ok found →
      Brings found (steps_from other b statements)
  unfolding ended
  same_from [] a b found same is =
      subst (λ none. Brings found (ended none b.steps)) (same_none a.steps b.steps same.steps)
      (same_ended (length a.steps == 0) a.steps b.steps found same.steps is)
  same_from (s ∷ statements) a b found same is =
      turn statements found b s (λ x y alike h. same_from statements x y found alike h) (behind_by (operation_of s.operation) one a s) is
      (λ x so. same_by (operation_of s.operation) a b x s same so)

  pub same_steps : (statements : List Statement) (found : List FlatStep) → steps_of one statements ≡ Ok found → Brings found (steps_of other statements)
  same_steps statements found is =
      same_from statements (record { job_library = false; steps = [] }) (record { job_library = false; steps = [] }) found
      (record { library = refl; steps = tt }) is

-- other conditions leave them the same
same_all : (c : Condition) (a : List FlatStep) → Same (map (with_this c) a) a
same_all c [] = tt
same_all c (x ∷ a) = (refl, refl, same_all c a)

same_condition : (c : Option Condition) (a : List FlatStep) → Same (with_condition c a) a
same_condition None a = same_self a
same_condition (Some c) a = same_all c a

same_one : (c : StepCondition) (a : List FlatStep) → Same (with_step_condition a c) a
same_one c [] = tt
same_one c (x ∷ a) = by (is_step c.step x) (same_one c a)
  where
    by : (b : Bool) → Same (with_step_condition a c) a →
        Same (if b then record x { condition = c.condition } ∷ a else x ∷ with_step_condition a c) (x ∷ a)
    by true rest = (refl, refl, same_self a)
    by false rest = (refl, refl, rest)

same_several : (conditions : List StepCondition) (a : List FlatStep) → Same (with_step_conditions a conditions) a
same_several [] a = same_self a
same_several (c ∷ conditions) a =
    same_onward (with_step_conditions (with_step_condition a c) conditions) (with_step_condition a c) a (same_several conditions (with_step_condition a c)) (same_one c a)

pub same_changed : (c : Option Condition) (conditions : List StepCondition) (a : List FlatStep) → Same (with_step_conditions (with_condition c a) conditions) a
same_changed c conditions a =
    same_onward (with_step_conditions (with_condition c a) conditions) (with_condition c a) a (same_several conditions (with_condition c a)) (same_condition c a)

-- the step and the DD that an override finds
same_any : (name : List ℕ) (a b : List FlatStep) → Same a b → list_any (is_step name) a ≡ list_any (is_step name) b
same_any name [] [] same = refl
same_any name (x ∷ a) (y ∷ b) same =
    ap (λ (own : Option (List ℕ)). is_named own name || list_any (is_step name) a) same.0 ∙ ap (λ (c : Bool). is_step name y || c) (same_any name a b same.2)
same_any name [] (y ∷ b) same = absurd same
same_any name (x ∷ a) [] same = absurd same

same_position : (name : List ℕ) (n : ℕ) (a b : List FlatStep) → Same a b → position_from (is_step name) n a ≡ position_from (is_step name) n b
same_position name n [] [] same = refl
same_position name n (x ∷ a) (y ∷ b) same =
    ap (λ (own : Option (List ℕ)). cond (is_named own name) (Some n) (position_from (is_step name) (n + 1) a)) same.0
    ∙ ap (λ (o : Option ℕ). cond (is_step name y) (Some n) o) (same_position name (n + 1) a b same.2)
same_position name n [] (y ∷ b) same = absurd same
same_position name n (x ∷ a) [] same = absurd same

same_at : (a b : List FlatStep) (name : Option (List ℕ)) → Same a b → step_at a 0 name ≡ step_at b 0 name
same_at a b None same = refl
same_at a b (Some name) same =
    ap (λ (o : Option ℕ). step_by_position 0 o (list_any (is_step name) a))
    (position_from-zero (is_step name) a ∙ same_position name 0 a b same ∙ sym (position_from-zero (is_step name) b))
    ∙ ap (step_by_position 0 (position (is_step name) b)) (same_any name a b same)

same_dds_at : (a b : List FlatStep) (n : ℕ) → Same a b → dds_at a n ≡ dds_at b n
same_dds_at [] [] n same = refl
same_dds_at (x ∷ a) (y ∷ b) zero same = same.1
same_dds_at (x ∷ a) (y ∷ b) (suc n) same = same_dds_at a b n same.2
same_dds_at [] (y ∷ b) n same = absurd same
same_dds_at (x ∷ a) [] n same = absurd same

same_named : (a b : List FlatStep) (dd : DdCard) (r : Result ℕ Cause) → Same a b → named_fault a dd r ≡ named_fault b dd r
same_named a b dd (Err fault) same = refl
same_named a b dd (Ok n) same = ap (λ (dds : List DdCard). fault_of (with_named dds dd)) (same_dds_at a b n same)

same_first : (a b : List FlatStep) (dd : DdCard) → Same a b → first_fault a dd ≡ first_fault b dd
same_first a b dd same =
    ap (λ (dds : List DdCard). if is_none dd.name then fault_of (with_member dds 0 dd) else named_fault a dd (step_at a 0 dd.qualifier)) (same_dds_at a b 0 same)
    ∙ ap (λ (fault : Option Cause). if is_none dd.name then fault_of (with_member (dds_at b 0) 0 dd) else fault)
    (same_named a b dd (step_at a 0 dd.qualifier) same ∙ ap (named_fault b dd) (same_at a b dd.qualifier same))

-- for what a call's one override is refused
fault_mapped : {A B : Type 0} (k : A → B) (r : Result A Cause) → fault_of (mapped k r) ≡ fault_of r
fault_mapped k (Ok a) = refl
fault_mapped k (Err fault) = refl

first_named : (place : overriding.Place) (dd : DdCard) (r : Result ℕ Cause) → fault_of (place_behind r (λ at. overrides_named place at dd)) ≡ named_fault place.steps dd r
first_named place dd (Err fault) = refl
first_named place dd (Ok n) = ap fault_of (named_places place n dd) ∙ fault_mapped _ (with_named (dds_at place.steps n) dd)

abbrev at_first : List FlatStep → overriding.Place
at_first steps = record { steps = steps; at = 0; member = 0 }

first_is : (steps : List FlatStep) (dd : DdCard) → fault_of (overrides_one (at_first steps) dd) ≡ first_fault steps dd
first_is steps dd = by (is_none dd.name)
  where
    by : (b : Bool) → fault_of (if b then overrides_member (at_first steps) dd
        else place_behind (step_at steps 0 dd.qualifier) (λ at. overrides_named (at_first steps) at dd))
        ≡ (if b then fault_of (with_member (dds_at steps 0) 0 dd) else named_fault steps dd (step_at steps 0 dd.qualifier))
    by true = ap fault_of (member_places (at_first steps) dd) ∙ fault_mapped _ (with_member (dds_at steps 0) 0 dd)
    by false = first_named (at_first steps) dd (step_at steps 0 dd.qualifier)

onward : (r : Result overriding.Place Cause) → fault_of (steps_onward r (λ next. overrides_from next [])) ≡ fault_of r
onward (Ok next) = refl
onward (Err fault) = refl

pub one_overridden : (steps : List FlatStep) (dd : DdCard) → fault_of (dds_overridden steps (dd ∷ [])) ≡ first_fault steps dd
one_overridden steps dd = onward (overrides_one (at_first steps) dd) ∙ first_is steps dd

pub same_overridden : (a b : List FlatStep) (dds : List DdCard) → length dds ≤ 1 → Same a b → fault_of (dds_overridden a dds) ≡ fault_of (dds_overridden b dds)
same_overridden a b [] few same = refl
same_overridden a b (dd ∷ []) few same = one_overridden a dd ∙ same_first a b dd same ∙ sym (one_overridden b dd)
same_overridden a b (x ∷ y ∷ dds) few same = absurd (omega (arith, few))

pub one_fault : (steps : List FlatStep) (dds : List DdCard) (dd : DdCard) → length dds ≤ 1 → slice_get dds 0 ≡ Some dd →
    first_fault steps dd ≡ fault_of (dds_overridden steps dds)
one_fault steps [] dd few is = absurd cc
one_fault steps (x ∷ []) dd few is = let same : x ≡ dd = cc in ap (first_fault steps) (sym same) ∙ sym (one_overridden steps x)
one_fault steps (x ∷ y ∷ dds) dd few is = absurd (omega (arith, few))
