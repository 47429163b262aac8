-- References in a plan, when its units are told.
use Rattle.std.proofs.Common.{◌≡◌, ℕ, zero, suc, ◌+◌, ◌-◌, ◌⊎◌, inl, inr, List, [], ◌∷◌, ◌++◌, length, map, Option, Some, None, Result, Ok, refl, sym, ap, subst, ◌∙◌, arith, append_assoc, length-append}
use Rattle.std.specs.Prelude.{All, slice_get}
use Rattle.std.proofs.lemmas.List.Elements.{All-head, All-tail}
use Rattle.jname_core.specs.declared.key.Key.{Key}
use Rattle.jname_core.specs.declared.key.Key.TheVariants.{Named, Relative, Temporary, Unnamed}
use Rattle.jcl_plan.specs.declared.fault.Cause.{Cause}
use Rattle.jcl_plan.specs.declared.plan.DdKind.{DdKind}
use Rattle.jcl_plan.specs.declared.plan.DdKind.TheVariants.{Cards, Dummy, Set, Sysout}
use Rattle.jcl_plan.specs.declared.plan.DdPlan.{DdPlan}
use Rattle.jcl_plan.specs.declared.plan.JobPlan.{JobPlan}
use Rattle.jcl_plan.specs.declared.plan.SetPlan.{SetPlan}
use Rattle.jcl_plan.specs.declared.plan.StepPlan.{StepPlan}
use Rattle.jcl_plan.specs.declared.plan.VolumePlan.{VolumePlan}
use Rattle.jcl_plan.specs.declared.plan.VolumePlan.TheVariants as volume
use Rattle.operand_core.specs.Faults.{told}
use Rattle.cb_meaning.specs.Writable.{IsEarlierSet, IsForSet}
use Rattle.cb_meaning.specs.Writable as writable
use Rattle.jcl_cards.specs.declared.job.JobCard.{JobCard}
use Rattle.jcl_dds.specs.declared.dd.DdCard.{DdCard}
use Rattle.jcl_procs.specs.declared.step.FlatStep.{FlatStep}
use Rattle.jcl_refs.specs.Planning.{counts_in, planned_counts}
use Rattle.jcl_refs.specs.Plans.{all_of, by_fault, dds_with, kind_of, kinds_from, kinds_in, plan_of, spot, step_of, steps_from, unit_of, units_of_dds, units_of_step, units_of_steps, with_dds_left, with_units}
use Rattle.plan_laws.specs.Each.{EachDd, EachStep}
use Rattle.statement_laws.specs.Ranges.{CodesName}
use Rattle.plan_laws.specs.PlanLaws.{IsWritten, KeyLooksBack, KindLooksBack, VolumeLooksBack, WritesNames}
use Rattle.plan_laws.proofs.Few.{map_length}
use Rattle.plan_laws.proofs.LeftDds.{steps_left}
use Rattle.deck_laws.proofs.Given.{and_ok, same_ok}
use Rattle.plan_laws.proofs.Making.{StepMade, append_none, firsts, job_made, none_left, step_made}
use Rattle.plan_laws.proofs.Places.{empty_there, look, was_before}
use Rattle.plan_laws.proofs.References.{AllFine, Earlier, KeyAt, VolumeAt, fine_in, kinds_fine}
use Rattle.plan_laws.proofs.Units.{Put, Same, With, put}

-- the kinds of a step
no_fault : {A : Type 0} (fault : Option Cause) (next : Result A Cause) (a : A) → by_fault fault next ≡ Ok a → next ≡ Ok a
no_fault None next a is = is
no_fault (Some fault) next a is = cc

kinds_length : (steps : List FlatStep) (call : Option ℕ) (k : ℕ) (planned : List (List DdKind)) (here : List DdKind) (dds : List DdCard) (kinds : List DdKind) →
    kinds_from steps call k planned here dds ≡ Ok kinds → length kinds ≡ length here + length dds
kinds_length steps call k planned here [] kinds is = ap length (sym (same_ok here kinds is)) ∙ omega (arith)
kinds_length steps call k planned here (dd ∷ dds) kinds is =
    let this = kind_of (spot steps call k planned here) dd in
    let next = here ++ this.value ∷ [] in
    let more = kinds_length steps call k planned next dds kinds (no_fault (told this.faults) (kinds_from steps call k planned next dds) kinds is) in
    omega (arith, more, length-append here (this.value ∷ []))

same_kinds : (dds : List DdCard) (kinds : List DdKind) → length kinds ≡ length dds → map (λ (dd : DdPlan). dd.kind) (dds_with dds kinds) ≡ kinds
same_kinds [] [] same = refl
same_kinds [] (kind ∷ kinds) same = absurd (omega (arith, same))
same_kinds (dd ∷ dds) [] same = absurd (omega (arith, same))
same_kinds (dd ∷ dds) (kind ∷ kinds) same = ap (λ ks. kind ∷ ks) (same_kinds dds kinds (omega (arith, same)))

dds_length : (dds : List DdCard) (kinds : List DdKind) → length kinds ≡ length dds → length dds ≡ length (dds_with dds kinds)
dds_length [] kinds same = refl
dds_length (dd ∷ dds) [] same = absurd (omega (arith, same))
dds_length (dd ∷ dds) (kind ∷ kinds) same = ap (λ n. suc n) (dds_length dds kinds (omega (arith, same)))

module _ {left : List FlatStep} {k : ℕ} {planned : List (List DdKind)} {s : FlatStep} {plan : StepPlan} (made : StepMade left k planned s plan) where
  as_many_kinds : length made.kinds ≡ length s.dds
  as_many_kinds = omega (arith, kinds_length left s.call k planned [] s.dds made.kinds made.are_kinds)

  kinds_made : made.kinds ≡ kinds_in plan
  kinds_made = sym (ap kinds_in made.is ∙ same_kinds s.dds made.kinds as_many_kinds)

  count_made : length s.dds ≡ length plan.dds
  count_made = dds_length s.dds made.kinds as_many_kinds ∙ sym (ap (λ (p : StepPlan). length p.dds) made.is)

map_push : (done : List StepPlan) (plan : StepPlan) → map kinds_in done ++ kinds_in plan ∷ [] ≡ map kinds_in (done ++ plan ∷ [])
map_push [] plan = refl
map_push (p ∷ done) plan = ap (λ (ks : List (List DdKind)). kinds_in p ∷ ks) (map_push done plan)

all_behind : (done : List StepPlan) (plan : StepPlan) (more steps : List StepPlan) → steps ≡ (done ++ plan ∷ []) ++ more → steps ≡ done ++ plan ∷ more
all_behind done plan more steps is = is ∙ append_assoc done (plan ∷ []) more

counts_behind : (s : FlatStep) (here : List FlatStep) (plan : StepPlan) (more : List StepPlan) → length s.dds ≡ length plan.dds →
    counts_in here ≡ planned_counts more → counts_in (s ∷ here) ≡ planned_counts (plan ∷ more)
counts_behind s here plan more first rest = ap (λ n. n ∷ counts_in here) first ∙ ap (λ ns. length plan.dds ∷ ns) rest

-- without units
abbrev bare : DdKind → DdKind
bare (Set p) = Set (record p { units = None })
bare Dummy = Dummy
bare (Sysout class) = Sysout class
bare (Cards cards) = Cards cards

abbrev bare_dd : DdPlan → DdKind
bare_dd dd = bare dd.kind

abbrev bare_kinds : StepPlan → List DdKind
bare_kinds step = map bare_dd step.dds

bare_with : (n : ℕ) (kind : DdKind) → bare (with_units n kind) ≡ bare kind
bare_with n (Set p) = refl
bare_with n Dummy = refl
bare_with n (Sysout class) = refl
bare_with n (Cards cards) = refl

bare_put : (count : ℕ) (dd new : DdPlan) → Put count dd new → bare_dd new ≡ bare_dd dd
bare_put count dd new (Same is) = ap bare_dd is
bare_put count dd new (With n known is) = ap bare_dd is ∙ bare_with n dd.kind

dds_bare : (units : List (List ℕ)) (dds : List DdCard) (plans placed : List DdPlan) → length dds ≡ length plans →
    all_of (units_of_dds units dds plans) ≡ Ok placed → map bare_dd placed ≡ map bare_dd plans
dds_bare units [] [] placed same is = ap (map bare_dd) (none_left placed is)
dds_bare units [] (plan ∷ plans) placed same is = absurd (omega (arith, same))
dds_bare units (dd ∷ dds) [] placed same is = absurd (omega (arith, same))
dds_bare units (dd ∷ dds) (plan ∷ plans) placed same is =
    let f = firsts (unit_of units dd.unit plan) (units_of_dds units dds plans) placed is in
    ap (map bare_dd) f.all
    ∙ ap (λ kind. kind ∷ map bare_dd f.more) (bare_put (length units) plan f.first (put units dd.unit plan f.first f.is_first))
    ∙ ap (λ kinds. bare_dd plan ∷ kinds) (dds_bare units dds plans f.more (omega (arith, same)) f.are_more)

steps_bare : (units : List (List ℕ)) (left : List FlatStep) (plans placed : List StepPlan) → counts_in left ≡ planned_counts plans →
    all_of (units_of_steps units left plans) ≡ Ok placed → map bare_kinds placed ≡ map bare_kinds plans
steps_bare units [] [] placed same is = ap (map bare_kinds) (none_left placed is)
steps_bare units [] (plan ∷ plans) placed same is = absurd cc
steps_bare units (s ∷ left) [] placed same is = absurd cc
steps_bare units (s ∷ left) (plan ∷ plans) placed same is =
    let first : length s.dds ≡ length plan.dds = cc in
    let rest : counts_in left ≡ planned_counts plans = cc in
    let f = firsts (units_of_step units s plan) (units_of_steps units left plans) placed is in
    let made = and_ok (all_of (units_of_dds units s.dds plan.dds)) (λ dds. Ok (record plan { dds = dds })) f.first f.is_first in
    let new : f.first ≡ record plan { dds = made.0 } = sym (same_ok (record plan { dds = made.0 }) f.first made.2) in
    ap (map bare_kinds) f.all
    ∙ ap (λ (ks : List DdKind). ks ∷ map bare_kinds f.more) (ap bare_kinds new ∙ dds_bare units s.dds plan.dds made.0 first made.1)
    ∙ ap (λ (ks : List (List DdKind)). bare_kinds plan ∷ ks) (steps_bare units left plans f.more rest f.are_more)

abbrev bare_of : Option DdKind → Option DdKind
bare_of None = None
bare_of (Some kind) = Some (bare kind)

bare_get : (dds : List DdPlan) (i : ℕ) → slice_get (map bare_dd dds) i ≡ bare_of (slice_get (map (λ (dd : DdPlan). dd.kind) dds) i)
bare_get [] i = refl
bare_get (dd ∷ dds) zero = refl
bare_get (dd ∷ dds) (suc i) = bare_get dds i

bare_look : (steps : List StepPlan) (n i : ℕ) → look (map bare_kinds steps) n i ≡ bare_of (look (map kinds_in steps) n i)
bare_look [] n i = refl
bare_look (s ∷ steps) zero i = bare_get s.dds i
bare_look (s ∷ steps) (suc n) i = bare_look steps n i

-- a set that stands in one stands in the other
record Twin (p : SetPlan) (found : Option DdKind) : Type 0 where
  twin : SetPlan
  there : found ≡ Some (Set twin)
  key : twin.key ≡ p.key
  volume : twin.volume ≡ p.volume

unlike : (a b : DdKind) → (let o : Option DdKind = Some a in o) ≡ Some b → a ≡ b
unlike a b is = cc

set_same : (p q : SetPlan) → (let kind : DdKind = Set p in kind) ≡ Set q → p ≡ q
set_same p q is = cc

no_dummy : (p : SetPlan) → (let kind : DdKind = Dummy in kind) ≡ Set p → ⊥
no_dummy p is = cc

no_output : (class : ℕ) (p : SetPlan) → (let kind : DdKind = Sysout class in kind) ≡ Set p → ⊥
no_output class p is = cc

no_cards : (cards : List (List ℕ)) (p : SetPlan) → (let kind : DdKind = Cards cards in kind) ≡ Set p → ⊥
no_cards cards p is = cc

twin_of : (p : SetPlan) (found : Option DdKind) → bare_of found ≡ Some (bare (Set p)) → Twin p found
twin_of p None is = absurd cc
twin_of p (Some (Set q)) is =
    let same : record q { units = None } ≡ record p { units = None } =
    set_same (record q { units = None }) (record p { units = None }) (unlike (Set (record q { units = None })) (Set (record p { units = None })) is) in
    record { twin = q; there = refl; key = ap (λ (x : SetPlan). x.key) same; volume = ap (λ (x : SetPlan). x.volume) same }
twin_of p (Some Dummy) is = absurd (no_dummy (record p { units = None }) (unlike Dummy (Set (record p { units = None })) is))
twin_of p (Some (Sysout class)) is = absurd (no_output class (record p { units = None }) (unlike (Sysout class) (Set (record p { units = None })) is))
twin_of p (Some (Cards cards)) is = absurd (no_cards cards (record p { units = None }) (unlike (Cards cards) (Set (record p { units = None })) is))

twin_in : (a b : List StepPlan) (n i : ℕ) (p : SetPlan) → map bare_kinds a ≡ map bare_kinds b → look (map kinds_in a) n i ≡ Some (Set p) →
    Twin p (look (map kinds_in b) n i)
twin_in a b n i p same is =
    twin_of p (look (map kinds_in b) n i)
    (sym (bare_look b n i) ∙ ap (λ (ks : List (List DdKind)). look ks n i) (sym same) ∙ bare_look a n i ∙ ap bare_of is)

-- a DD by its numbers from 1
abbrev kind_of_dd : Option DdPlan → Option DdKind
kind_of_dd None = None
kind_of_dd (Some d) = Some d.kind

abbrev kind_of_step : Option StepPlan → ℕ → Option DdKind
kind_of_step None dd = None
kind_of_step (Some s) dd = kind_of_dd (slice_get s.dds (dd - 1))

kind_get : (dds : List DdPlan) (i : ℕ) → slice_get (map (λ (dd : DdPlan). dd.kind) dds) i ≡ kind_of_dd (slice_get dds i)
kind_get [] i = refl
kind_get (dd ∷ dds) zero = refl
kind_get (dd ∷ dds) (suc i) = kind_get dds i

kind_look : (steps : List StepPlan) (n e : ℕ) → look (map kinds_in steps) n (e - 1) ≡ kind_of_step (slice_get steps n) e
kind_look [] n e = refl
kind_look (s ∷ steps) zero e = kind_get s.dds (e - 1)
kind_look (s ∷ steps) (suc n) e = kind_look steps n e

earlier_placed : (steps placed : List StepPlan) (k d s e : ℕ) → map bare_kinds placed ≡ map bare_kinds steps → Earlier (map kinds_in steps) k d s e →
    IsEarlierSet placed k d s e
earlier_placed steps placed k d s e same h =
    let t = twin_in steps placed (s - 1) (e - 1) h.set (sym same) h.there in
    let is : writable.kind_at placed s e ≡ Some (Set t.twin) = sym (kind_look placed (s - 1) e) ∙ t.there in
    record { from_one = h.from_one; before = h.before; for_set = subst IsForSet (sym is) tt }

-- each DD, from all places
dds_from : (Q : ℕ → DdKind → Type 0) (d : ℕ) (dds : List DdPlan) →
    ((i : ℕ) (kind : DdKind) → slice_get (map (λ (dd : DdPlan). dd.kind) dds) i ≡ Some kind → Q (i + d) kind) → EachDd (λ e dd. Q e dd.kind) d dds
dds_from Q d [] h = tt
dds_from Q d (dd ∷ dds) h = (
  subst (λ (m : ℕ). Q m dd.kind) (let e : 0 + d ≡ d = omega (arith) in e) (h 0 dd.kind refl),
  dds_from Q (d + 1) dds (λ i kind is. subst (λ (m : ℕ). Q m kind) (let e : suc i + d ≡ i + (d + 1) = omega (arith) in e) (h (suc i) kind is)),
)

each_from : (Q : ℕ → ℕ → DdKind → Type 0) (k : ℕ) (steps : List StepPlan) →
    ((n i : ℕ) (kind : DdKind) → look (map kinds_in steps) n i ≡ Some kind → Q (n + k) (i + 1) kind) →
    EachStep (λ m step. EachDd (λ d dd. Q m d dd.kind) 1 step.dds) k steps
each_from Q k [] h = tt
each_from Q k (step ∷ steps) h = (
  dds_from (Q k) 1 step.dds (λ i kind is. subst (λ (m : ℕ). Q m (i + 1) kind) (let e : 0 + k ≡ k = omega (arith) in e) (h 0 i kind is)),
  each_from Q (k + 1) steps
      (λ n i kind is. subst (λ (m : ℕ). Q m (i + 1) kind) (let e : suc n + k ≡ n + (k + 1) = omega (arith) in e) (h (suc n) i kind is)),
)

module _ (Text : Key → Type 0) (named : (s e : ℕ) → Text (Unnamed s e) → ⊥) where
  -- steps, one after another
  abbrev Writes : FlatStep → Type 0
  Writes s = All (λ dd. CodesName Text dd.set_name) s.dds

  record AllPlanned (done steps : List StepPlan) (here : List FlatStep) : Type 0 where
    more : List StepPlan
    all : steps ≡ done ++ more
    counts : counts_in here ≡ planned_counts more
    fine : AllFine Text named (map kinds_in steps)

  fine_empty : (planned : List (List DdKind)) → AllFine Text named planned → AllFine Text named (planned ++ [] ∷ [])
  fine_empty planned all n i p there =
      fine_in Text named planned (planned ++ [] ∷ []) (n + 1) (i + 1) p (empty_there planned) (all n i p (was_before planned n i (Set p) there))

  steps_fine : (left : List FlatStep) (k : ℕ) (done : List StepPlan) (stand here : List FlatStep) (steps : List StepPlan) → length stand ≡ length here →
      length done + 1 ≡ k → AllFine Text named (map kinds_in done) → All Writes here → steps_from left k done stand here ≡ Ok steps → AllPlanned done steps here
  steps_fine left k done [] [] steps same at all text is =
      record {
        more = [];
        all = sym (same_ok done steps is) ∙ sym (append_none done);
        counts = refl;
        fine = subst (λ (ss : List StepPlan). AllFine Text named (map kinds_in ss)) (same_ok done steps is) all;
      }
  steps_fine left k done [] (s ∷ here) steps same at all text is = absurd (omega (arith, same))
  steps_fine left k done (stands ∷ stand) [] steps same at all text is = absurd (omega (arith, same))
  steps_fine left k done (stands ∷ stand) (s ∷ here) steps same at all text is =
      let planned = map kinds_in done in
      let made = and_ok (step_of left k planned stands s) (λ plan. steps_from left (k + 1) (done ++ plan ∷ []) stand here) steps is in
      let plan = made.0 in
      let step = step_made left k planned stands s plan made.1 in
      let this : AllFine Text named (planned ++ step.kinds ∷ []) =
      kinds_fine Text named left s.call k planned [] s.dds step.kinds (omega (arith, at, map_length kinds_in done)) (fine_empty planned all)
      (All-head Writes s here text) step.are_kinds in
      let next : AllFine Text named (map kinds_in (done ++ plan ∷ [])) =
      subst (λ (ks : List (List DdKind)). AllFine Text named ks) (ap (λ (ks : List DdKind). planned ++ ks ∷ []) (kinds_made step) ∙ map_push done plan) this in
      let rest = steps_fine left (k + 1) (done ++ plan ∷ []) stand here steps (omega (arith, same)) (omega (arith, at, length-append done (plan ∷ []))) next
      (All-tail Writes s here text) made.2 in
      record {
        more = plan ∷ rest.more;
        all = all_behind done plan rest.more steps rest.all;
        counts = counts_behind s here plan rest.more (count_made step) rest.counts;
        fine = rest.fine;
      }

  -- names and volumes in a plan
  abbrev pub KeyPlaced : List StepPlan → ℕ → ℕ → Key → Type 0
  KeyPlaced steps k d (Named text) = Text (Named text)
  KeyPlaced steps k d (Relative base sign amount) = Text (Relative base sign amount)
  KeyPlaced steps k d (Temporary text) = Text (Temporary text)
  KeyPlaced steps k d (Unnamed s e) = ((s ≡ k) × (e ≡ d)) ⊎ IsEarlierSet steps k d s e

  abbrev pub KindPlaced : List StepPlan → ℕ → ℕ → DdKind → Type 0
  KindPlaced steps k d (Set p) = KeyPlaced steps k d p.key × VolumeLooksBack steps k d p.volume
  KindPlaced steps k d Dummy = Unit {0}
  KindPlaced steps k d (Sysout class) = Unit {0}
  KindPlaced steps k d (Cards cards) = Unit {0}

  key_placed : (steps placed : List StepPlan) (k d : ℕ) (key : Key) → map bare_kinds placed ≡ map bare_kinds steps →
      KeyAt Text named (map kinds_in steps) k d key → KeyPlaced placed k d key
  key_placed steps placed k d (Named text) same h = h
  key_placed steps placed k d (Relative base sign amount) same h = h
  key_placed steps placed k d (Temporary text) same h = h
  key_placed steps placed k d (Unnamed s e) same (inl own) = inl own
  key_placed steps placed k d (Unnamed s e) same (inr h) = inr (earlier_placed steps placed k d s e same h)

  volume_placed : (steps placed : List StepPlan) (k d : ℕ) (v : VolumePlan) → map bare_kinds placed ≡ map bare_kinds steps →
      VolumeAt Text named (map kinds_in steps) k d v → VolumeLooksBack placed k d v
  volume_placed steps placed k d volume.NotCoded same h = tt
  volume_placed steps placed k d (volume.Serial serial) same h = tt
  volume_placed steps placed k d (volume.OfName text) same h = tt
  volume_placed steps placed k d (volume.OfDd s e) same h = earlier_placed steps placed k d s e same h

  kind_placed : (steps placed : List StepPlan) → map bare_kinds placed ≡ map bare_kinds steps → AllFine Text named (map kinds_in steps) →
      (n i : ℕ) (kind : DdKind) → look (map kinds_in placed) n i ≡ Some kind → KindPlaced placed (n + 1) (i + 1) kind
  kind_placed steps placed same all n i (Set p) is =
      let t = twin_in placed steps n i p same is in
      let f = all n i t.twin t.there in (
        key_placed steps placed (n + 1) (i + 1) p.key same (subst (KeyAt Text named (map kinds_in steps) (n + 1) (i + 1)) t.key f.0),
        volume_placed steps placed (n + 1) (i + 1) p.volume same (subst (VolumeAt Text named (map kinds_in steps) (n + 1) (i + 1)) t.volume f.1),
      )
  kind_placed steps placed same all n i Dummy is = tt
  kind_placed steps placed same all n i (Sysout class) is = tt
  kind_placed steps placed same all n i (Cards cards) is = tt

  nothing_there : AllFine Text named []
  nothing_there n i p there = absurd (let e : (let none : Option DdKind = None in none) ≡ Some (Set p) = there in cc)

  pub all_placed : (units : List (List ℕ)) (job : JobCard) (steps : List FlatStep) (plan : JobPlan) → All Writes steps → plan_of units job steps ≡ Ok plan →
      EachStep (λ k step. EachDd (λ d dd. KindPlaced plan.steps k d dd.kind) 1 step.dds) 1 plan.steps
  all_placed units job steps plan text is =
      let m = job_made units job steps plan is in
      let left = map with_dds_left steps in
      let p = steps_fine left 1 [] steps left m.planned (sym (map_length with_dds_left steps)) refl nothing_there
      (steps_left (λ (dd : DdCard). CodesName Text dd.set_name) (λ dd h. h) (λ dd later h l. l) steps text) m.are_planned in
      let same = steps_bare units left m.planned m.placed (p.counts ∙ sym (ap planned_counts p.all)) m.are_placed in
      subst (λ (q : JobPlan). EachStep (λ k step. EachDd (λ d dd. KindPlaced q.steps k d dd.kind) 1 step.dds) 1 q.steps) (sym m.is)
      (each_from (KindPlaced m.placed) 1 m.placed (kind_placed m.planned m.placed same p.fine))

-- each DD, where one fact gives another
pub dds_weaker : (A B : ℕ → DdPlan → Type 0) → ((d : ℕ) (dd : DdPlan) → A d dd → B d dd) → (d : ℕ) (dds : List DdPlan) → EachDd A d dds → EachDd B d dds
dds_weaker A B more d [] each = tt
dds_weaker A B more d (dd ∷ dds) each = (more d dd each.0, dds_weaker A B more (d + 1) dds each.1)

pub steps_weaker : (A B : ℕ → StepPlan → Type 0) → ((k : ℕ) (step : StepPlan) → A k step → B k step) → (k : ℕ) (steps : List StepPlan) → EachStep A k steps →
    EachStep B k steps
steps_weaker A B more k [] each = tt
steps_weaker A B more k (step ∷ steps) each = (more k step each.0, steps_weaker A B more (k + 1) steps each.1)

key_back : (steps : List StepPlan) (k d : ℕ) (key : Key) → KeyPlaced IsWritten (λ s e h. h) steps k d key → KeyLooksBack steps k d key
key_back steps k d (Named text) h = tt
key_back steps k d (Relative base sign amount) h = tt
key_back steps k d (Temporary text) h = tt
key_back steps k d (Unnamed s e) h = h

kind_back : (steps : List StepPlan) (k d : ℕ) (kind : DdKind) → KindPlaced IsWritten (λ s e h. h) steps k d kind → KindLooksBack steps k d kind
kind_back steps k d (Set p) h = (key_back steps k d p.key h.0, h.1)
kind_back steps k d Dummy h = tt
kind_back steps k d (Sysout class) h = tt
kind_back steps k d (Cards cards) h = tt

pub references_look_back : (units : List (List ℕ)) (job : JobCard) (steps : List FlatStep) (plan : JobPlan) → All WritesNames steps →
    plan_of units job steps ≡ Ok plan → EachStep (λ k step. EachDd (λ d dd. KindLooksBack plan.steps k d dd.kind) 1 step.dds) 1 plan.steps
references_look_back units job steps plan text is =
    steps_weaker (λ k step. EachDd (λ d dd. KindPlaced IsWritten (λ s e h. h) plan.steps k d dd.kind) 1 step.dds)
    (λ k step. EachDd (λ d dd. KindLooksBack plan.steps k d dd.kind) 1 step.dds)
    (λ k step. dds_weaker (λ d dd. KindPlaced IsWritten (λ s e h. h) plan.steps k d dd.kind) (λ d dd. KindLooksBack plan.steps k d dd.kind)
    (λ d dd. kind_back plan.steps k d dd.kind) 1 step.dds) 1 plan.steps (all_placed IsWritten (λ s e h. h) units job steps plan text is)
