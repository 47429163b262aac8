-- What taking a set does, by what its take decided and by whether its primary was granted.
use Rattle.std.proofs.Common.{◌≡◌, ℕ, Bool, true, List, Option, Some, Result, Ok, Err, IfOk, is_some, refl, sym, ap, subst, ◌∙◌}
use Rattle.jname_core.specs.declared.key.Key.{Key}
use Rattle.jcl_plan.specs.declared.fault.Fault.{Fault}
use Rattle.jcl_plan.specs.declared.plan.SetPlan.{SetPlan}
use Rattle.jcl_meaning.specs.declared.state.Place.{Place}
use Rattle.jcl_meaning.specs.declared.state.Resolution.TheVariants.{Means}
use Rattle.jcl_meaning.specs.declared.take.Decision.{Decision}
use Rattle.jcl_meaning.specs.declared.take.Decision.TheVariants.{Takes}
use Rattle.jcl_meaning.specs.declared.take.How.{How}
use Rattle.jcl_meaning.specs.declared.take.How.TheVariants as how
use Rattle.jcl_meaning.specs.declared.take.Target.{Target}
use Rattle.jcl_meaning.specs.States.{Fixed}
use Rattle.jcl_meaning.specs.Stores.{Store}
use Rattle.jcl_meaning.specs.TakeActs.{decided, takes_set}
use Rattle.jcl_meaning.specs.Takes.{decide, is_known, is_there, looked_at}
use Rattle.store_core.specs.Actions.{state_at}
use Rattle.disp_core.specs.Courses.{Carried, Does}
use Rattle.disp_core.specs.Grants.{CarriedWith}
use Rattle.disp_core.specs.Takings.{decision_in, granted_or_refused, target_in}
use Rattle.disp_core.specs.declared.course.Course.{Course}
use Rattle.disp_core.proofs.Granted.{decided_by_grant, made_at}

pub if_ok_then : {X E : Type 0} (P Q : X → Type 0) (r : Result X E) → ((x : X) → P x → Q x) → IfOk r P → IfOk r Q
if_ok_then P Q (Ok x) f h = f x h
if_ok_then P Q (Err e) f h = h

-- what was carried out as decided is what the take of the key does
pub taken_with : (fixed : Fixed) (n dd : ℕ) (name : Option (List ℕ)) (p : SetPlan) (key : Key) (seen : Store) (before : Course) (after_seen : Store) (after : Course)
    (meets : Option Fault) (made : List Place) (granted : Bool) (d : Decision) → d ≡ decision_in fixed p key seen (target_in fixed n dd p key seen before.own) true →
    Carried (λ s. decided fixed n dd name p key s (granted_or_refused d granted)) seen before after_seen after meets made →
    CarriedWith granted (λ s. takes_set fixed n dd name p s (Means key)) seen before after_seen after meets made
taken_with fixed n dd name p key seen before after_seen after meets made granted d q h answers e =
    let t : Target = target_in fixed n dd p key seen before.own in
    let known : Bool = is_known fixed.volumes (looked_at t) in
    let there : Bool = is_there seen key (looked_at t) in
    let space : Bool = is_some p.space in
    subst (λ x. Does (decided fixed n dd name p key (state_at seen before.own answers) x) after_seen after before answers meets made)
    (sym (ap (decide t known there space) e ∙ decided_by_grant t known there space granted ∙ ap (λ x. granted_or_refused x granted) (sym q)))
    (h answers)

-- the volume that is asked for the primary is the one that was looked at
pub same_grant : (t : Target) (known there space : Bool) (serial : List ℕ) (h : How) (f : Option (List ℕ) → Bool) → Takes serial h ≡ decide t known there space true →
    granted_or_refused (Takes serial h) (f (Some serial)) ≡ granted_or_refused (Takes serial h) (f (looked_at t))
same_grant t known there space serial how.Made f e = ap (λ o. granted_or_refused (Takes serial how.Made) (f o)) (sym (made_at t known there space serial how.Made e refl).looked)
same_grant t known there space serial how.Found f e = refl
same_grant t known there space serial how.FoundByCatalog f e = refl
same_grant t known there space serial (how.Received made by_catalog) f e = refl
