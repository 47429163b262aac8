-- What is true of each DD of a step, by itself.
use Rattle.std.proofs.Common.{◌≡◌, ℕ, ◌≤◌, List, [], ◌∷◌, ◌++◌, length, map, Option, Some, None, Result, Ok, refl, sym, subst}
use Rattle.std.specs.Prelude.{All}
use Rattle.std.proofs.lemmas.List.Elements.{All-cons, All-head, All-nil, All-push, All-tail}
use Rattle.jcl_plan.specs.declared.fault.Cause.{Cause}
use Rattle.jcl_plan.specs.declared.plan.DdKind.{DdKind}
use Rattle.jcl_plan.specs.declared.plan.DdKind.TheVariants.{Cards, Dummy, Set, Sysout}
use Rattle.jcl_plan.specs.declared.plan.DdPlan.{DdPlan}
use Rattle.jcl_plan.specs.declared.plan.JobPlan.{JobPlan}
use Rattle.jcl_plan.specs.declared.plan.StepPlan.{StepPlan}
use Rattle.operand_core.specs.Faults.{told}
use Rattle.cb_meaning.specs.Writable.{IsUnits}
use Rattle.jcl_cards.specs.declared.job.JobCard.{JobCard}
use Rattle.jcl_dds.specs.declared.dd.DdCard.{DdCard}
use Rattle.jcl_procs.specs.declared.step.FlatStep.{FlatStep}
use Rattle.jcl_refs.specs.Plans.{MakesDummy, Names, NamesNothing, Naming, Own, OwnCards, OwnDummy, OwnSet, OwnSysout, Spot, all_of, by_fault, dds_with, kind_of, kind_with, kinds_from, naming, own_kind, plan_of, spot, units_of_dds, with_dds_left, with_units}
use Rattle.plan_laws.specs.PlanLaws.{HasKnownUnits}
use Rattle.plan_laws.proofs.Few.{each_all, nothing_asked}
use Rattle.deck_laws.proofs.Given.{same_ok}
use Rattle.plan_laws.proofs.Making.{StepMade, each_placed, each_planned, job_made}
use Rattle.plan_laws.proofs.Units.{Put, Same, With, all_put}

no_fault : {A : Type 0} (fault : Option Cause) (next : Result A Cause) (a : A) → by_fault fault next ≡ Ok a → next ≡ Ok a
no_fault None next a is = is
no_fault (Some fault) next a is = cc

module _ (Card : DdCard → Type 0) (Kind : DdKind → Type 0) (holds : (at : Spot) (dd : DdCard) → Card dd → Kind (kind_of at dd).value) where
  pub all_kinds : (steps : List FlatStep) (call : Option ℕ) (k : ℕ) (planned : List (List DdKind)) (here : List DdKind) (dds : List DdCard)
      (kinds : List DdKind) → All Kind here → All Card dds → kinds_from steps call k planned here dds ≡ Ok kinds → All Kind kinds
  all_kinds steps call k planned here [] kinds done all is = subst (All Kind) (same_ok here kinds is) done
  all_kinds steps call k planned here (dd ∷ dds) kinds done all is =
      let this = kind_of (spot steps call k planned here) dd in
      let next = here ++ this.value ∷ [] in
      all_kinds steps call k planned next dds kinds
      (All-push Kind here this.value done (holds (spot steps call k planned here) dd (All-head Card dd dds all)))
      (All-tail Card dd dds all) (no_fault (told this.faults) (kinds_from steps call k planned next dds) kinds is)

pub all_with : (Card : DdCard → Type 0) (Kind : DdKind → Type 0) (Plan : DdPlan → Type 0) →
    ((dd : DdCard) (kind : DdKind) → Card dd → Kind kind → Plan (record { name = dd.name; kind = kind })) →
    (dds : List DdCard) (kinds : List DdKind) → All Card dds → All Kind kinds → All Plan (dds_with dds kinds)
all_with Card Kind Plan holds [] kinds cards all = All-nil Plan
all_with Card Kind Plan holds (dd ∷ dds) [] cards all = All-nil Plan
all_with Card Kind Plan holds (dd ∷ dds) (kind ∷ kinds) cards all =
    All-cons Plan (record { name = dd.name; kind = kind }) (dds_with dds kinds) (holds dd kind (All-head Card dd dds cards) (All-head Kind kind kinds all))
    (all_with Card Kind Plan holds dds kinds (All-tail Card dd dds cards) (All-tail Kind kind kinds all))

-- no units are told before all is planned
abbrev pub HasNoUnits : DdKind → Type 0
HasNoUnits (Set p) = p.units ≡ None
HasNoUnits Dummy = Unit {0}
HasNoUnits (Sysout class) = Unit {0}
HasNoUnits (Cards cards) = Unit {0}

no_units_by : (at : Spot) (dd : DdCard) (own : Own) (n : Naming) → HasNoUnits (kind_with at dd own n)
no_units_by at dd OwnSet (Names key) = refl
no_units_by at dd OwnSet MakesDummy = tt
no_units_by at dd OwnSet (NamesNothing fault) = tt
no_units_by at dd OwnDummy n = tt
no_units_by at dd (OwnSysout class) n = tt
no_units_by at dd (OwnCards cards) n = tt

abbrev Bare : DdPlan → Type 0
Bare dd = HasNoUnits dd.kind

abbrev Known : ℕ → DdPlan → Type 0
Known count dd = HasKnownUnits count dd.kind

abbrev AllBare : ℕ → StepPlan → Type 0
AllBare k step = All Bare step.dds

abbrev AllKnown : ℕ → ℕ → StepPlan → Type 0
AllKnown count k step = All (Known count) step.dds

bare_made : (left : List FlatStep) (k : ℕ) (planned : List (List DdKind)) (s : FlatStep) (plan : StepPlan) → Unit {0} →
    StepMade left k planned s plan → AllBare k plan
bare_made left k planned s plan sound made =
    subst (AllBare k) (sym made.is)
    (all_with (λ dd. Unit {0}) HasNoUnits Bare (λ dd kind card bare. bare) s.dds made.kinds (nothing_asked s.dds)
    (all_kinds (λ dd. Unit {0}) HasNoUnits (λ at dd card. no_units_by at dd (own_kind dd) (naming at dd.set_name)) left s.call k planned [] s.dds made.kinds
    (All-nil HasNoUnits) (nothing_asked s.dds) made.are_kinds))

none_known : (count : ℕ) (kind : DdKind) → HasNoUnits kind → HasKnownUnits count kind
none_known count (Set p) h = subst (λ (u : Option ℕ). IsUnits count u) (sym h) tt
none_known count Dummy h = tt
none_known count (Sysout class) h = tt
none_known count (Cards cards) h = tt

some_known : (count n : ℕ) (kind : DdKind) → (1 ≤ n) × (n ≤ count) → HasNoUnits kind → HasKnownUnits count (with_units n kind)
some_known count n (Set p) known h = known
some_known count n Dummy known h = tt
some_known count n (Sysout class) known h = tt
some_known count n (Cards cards) known h = tt

put_known : (count : ℕ) (dd new : DdPlan) → Bare dd → Put count dd new → Known count new
put_known count dd new bare (Same is) = subst (Known count) (sym is) (none_known count dd.kind bare)
put_known count dd new bare (With n known is) = subst (Known count) (sym is) (some_known count n dd.kind known bare)

known_placed : (units : List (List ℕ)) (k : ℕ) (s : FlatStep) (plan new : StepPlan) → AllBare k plan → (dds : List DdPlan) →
    all_of (units_of_dds units s.dds plan.dds) ≡ Ok dds → new ≡ record plan { dds = dds } → AllKnown (length units) k new
known_placed units k s plan new bare dds are is =
    subst (AllKnown (length units) k) (sym is) (all_put units Bare (Known (length units)) (put_known (length units)) s.dds plan.dds dds bare are)

pub units_are_known : (units : List (List ℕ)) (job : JobCard) (steps : List FlatStep) (plan : JobPlan) → plan_of units job steps ≡ Ok plan →
    All (λ step. All (λ dd. HasKnownUnits (length units) dd.kind) step.dds) plan.steps
units_are_known units job steps plan is =
    let m = job_made units job steps plan is in
    let left = map with_dds_left steps in
    let known = each_placed units AllBare (AllKnown (length units)) (known_placed units) 1 left m.planned m.placed
    (each_planned (λ s. Unit {0}) AllBare left (bare_made left) steps m.planned (nothing_asked left) m.are_planned) m.are_placed in
    subst (λ (p : JobPlan). All (λ step. All (Known (length units)) step.dds) p.steps) (sym m.is)
    (each_all (λ step. All (Known (length units)) step.dds) 1 m.placed known)
