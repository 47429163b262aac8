-- The earliest stop of a part: no fault comes before it.
use Rattle.std.proofs.Common.{◌≡◌, ◌∷◌, ◌<◌, ◌≤◌, ◌+◌, ◌∙◌, ◌++◌, List, [], length, ℕ, zero, suc, Bool, true, false, subst, sym, refl, ap, arith, map}
use Rattle.std.proofs.Common.{Option, Some, None, if◌then◌else◌, ltb-true, ltb-false}
use Rattle.std.specs.Prelude.{All, nat_lt, IfSome}
use Rattle.std.proofs.lemmas.List.Elements.{All-nil, All-cons, All-map, All-weaker}
use Rattle.jcl_plan.specs.declared.fault.Fault.{Fault}
use Rattle.jcl_plan.specs.declared.plan.JobPlan.{JobPlan}
use Rattle.jcl_meaning.specs.Acts.{act}
use Rattle.jcl_meaning.specs.Agendas.{Action}
use Rattle.jcl_meaning.specs.Solo.{Met, Ran, later, met_first, run}
use Rattle.jcl_meaning.specs.States.{Fixed, State}
use Rattle.view_domain.specs.declared.crossed.Stop.{Stop}
use Rattle.view_domain.specs.Crossings.{IsStop}
use Rattle.path_search.specs.declared.stops.Found.{Found}
use Rattle.path_search.specs.Crossings.{NoneBefore}
use Rattle.path_search.specs.Stops.{earlier}

-- the first fault of a run comes before the others
abbrev IsLeast : Met → List Met → Type 0
IsLeast f faults = All (λ met. f.place ≤ met.place) faults

pub first_is_least : (fixed : Fixed) (actions : List Action) (s : State) (f : Met) (behind : List Met) → (run fixed actions s).faults ≡ f ∷ behind →
    IsLeast f (f ∷ behind)
unfolding run
first_is_least fixed [] s f behind e = absurd (cc)
first_is_least fixed (a ∷ actions) s f behind e =
    by (act fixed a s).meets (run fixed actions (act fixed a s).state).faults (λ g gs same. first_is_least fixed actions (act fixed a s).state g gs same) e
  where
    by : (o : Option Fault) (rest : List Met) → ((g : Met) (gs : List Met) → rest ≡ g ∷ gs → IsLeast g (g ∷ gs)) → met_first o (map later rest) ≡ f ∷ behind →
        IsLeast f (f ∷ behind)
    by None [] least e = absurd (cc)
    by None (g ∷ gs) least e = subst (λ (fs : List Met). IsLeast f fs) e
        (subst (λ (m : Met). IsLeast m (later g ∷ map later gs)) (let h : later g ≡ f = cc in h)
        (All-map (λ (m : Met). suc g.place ≤ m.place) later (g ∷ gs)
        (All-weaker (λ (m : Met). g.place ≤ m.place) (λ (m : Met). suc g.place ≤ (later m).place) (λ m l. omega arith) (g ∷ gs) (least g gs refl))))
    by (Some fault) rest least e =
        let first : record { place = 0; fault = fault } ≡ f = cc in
        subst (λ (m : Met). IsLeast m (f ∷ behind)) first (λ i d l. omega arith)

-- a stop, once noted, stays or an earlier one takes its place
pub noted_before : (best : Option Found) (found : Found) (faults : List Met) → NoneBefore best faults → NoneBefore (earlier best found) faults
noted_before None found faults none = subst (λ (fs : List Met). All (λ met. found.stop.at ≤ met.place) fs) (sym none) (All-nil _)
noted_before (Some b) found faults none = by (nat_lt found.stop.at b.stop.at) refl
  where
    by : (c : Bool) → nat_lt found.stop.at b.stop.at ≡ c → NoneBefore (if c then Some found else Some b) faults
    by true e = let l = ltb-true found.stop.at b.stop.at e in
        All-weaker (λ (m : Met). b.stop.at ≤ m.place) (λ (m : Met). found.stop.at ≤ m.place) (λ m h. omega arith) faults none
    by false e = none

pub found_before : (best : Option Found) (found : Found) (faults : List Met) → NoneBefore (Some found) faults → NoneBefore (earlier best found) faults
found_before None found faults none = none
found_before (Some b) found faults none = by (nat_lt found.stop.at b.stop.at) refl
  where
    by : (c : Bool) → nat_lt found.stop.at b.stop.at ≡ c → NoneBefore (if c then Some found else Some b) faults
    by true e = none
    by false e = let l = ltb-false found.stop.at b.stop.at e in
        All-weaker (λ (m : Met). found.stop.at ≤ m.place) (λ (m : Met). b.stop.at ≤ m.place) (λ m h. omega arith) faults none

pub clean_before : (best : Option Found) (faults : List Met) → faults ≡ [] → NoneBefore best faults
clean_before None faults none = none
clean_before (Some b) faults none = subst (λ (fs : List Met). All (λ met. b.stop.at ≤ met.place) fs) (sym none) (All-nil _)

pub stop_before : (plan : JobPlan) (k : ℕ) (found : Found) (fixed : Fixed) (actions : List Action) (s : State) → IsStop plan k found.stop
    (run fixed actions s).faults →
    NoneBefore (Some found) (run fixed actions s).faults
stop_before plan k found fixed actions s is =
    subst (λ (fs : List Met). All (λ met. found.stop.at ≤ met.place) fs) (sym is.first) (first_is_least fixed actions s _ is.behind is.first)

pub if_earlier : (P : Found → Type 0) (best : Option Found) (found : Found) → IfSome best P → P found → IfSome (earlier best found) P
if_earlier P None found old new = new
if_earlier P (Some b) found old new = by (nat_lt found.stop.at b.stop.at)
  where
    by : (c : Bool) → IfSome (if c then Some found else Some b) P
    by true = new
    by false = old
