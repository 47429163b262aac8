-- One override after another.
use Rattle.std.proofs.Common.{◌≡◌, refl, sym, ap, ◌∙◌, ℕ, ◌+◌, Bool, true, false, not, ◌&&◌, ◌||◌, is_none, is_some, if◌then◌else◌, List, [], ◌∷◌, Option, Some, None, Result, Ok, Err}
use Rattle.std.specs.List.{list_any}
use Rattle.jcl_plan.specs.declared.fault.Cause.{Cause}
use Rattle.jcl_plan.specs.declared.fault.Cause.TheVariants.{P}
use Rattle.jcl_plan.specs.declared.fault.StatementFault.TheVariants.{NoSuchProcedureStep}
use Rattle.jcl_dds.specs.declared.dd.DdCard.{DdCard}
use Rattle.jcl_procs.specs.declared.overriding.Place.{Place}
use Rattle.jcl_procs.specs.declared.step.FlatStep.{FlatStep}
use Rattle.jcl_procs.specs.Overrides.{dds_overridden, overrides_from, overrides_member, overrides_named, overrides_one, place_behind, step_at, steps_behind}
use Rattle.jcl_procs.specs.StepDds.{names_step}

pub one_member : (place : Place) (dd : DdCard) → is_none dd.name ≡ true → overrides_one place dd ≡ overrides_member place dd
one_member place dd e =
    ap (λ b. if b then overrides_member place dd else place_behind (step_at place.steps place.at dd.qualifier) (λ at. overrides_named place at dd)) e

pub one_named : (place : Place) (dd : DdCard) (r : Result ℕ Cause) → is_none dd.name ≡ false → r ≡ step_at place.steps place.at dd.qualifier
    → overrides_one place dd ≡ place_behind r (λ at. overrides_named place at dd)
one_named place dd r e is =
    ap (λ b. if b then overrides_member place dd else place_behind (step_at place.steps place.at dd.qualifier) (λ at. overrides_named place at dd)) e
    ∙ ap (λ r. place_behind r (λ at. overrides_named place at dd)) (sym is)

-- no step
abbrev pub nowhere : ℕ → Place
nowhere member = record { steps = []; at = 0; member = member }

abbrev pub none_left : Bool → Result (List FlatStep) Cause
none_left b = if b then Err (P NoSuchProcedureStep) else Ok []

nowhere_one : (m : ℕ) (dd : DdCard) (b : Bool) (q : Option (List ℕ)) (dds : List DdCard)
    → ((m : ℕ) → overrides_from (nowhere m) dds ≡ none_left (list_any names_step dds))
    → steps_behind (if b then overrides_member (nowhere m) dd else place_behind (step_at [] 0 q) (λ at. overrides_named (nowhere m) at dd))
    (λ next. overrides_from next dds)
    ≡ none_left ((not b && is_some q) || list_any names_step dds)
nowhere_one m dd true q dds all = all (m + 1)
nowhere_one m dd false None dds all = all 1
nowhere_one m dd false (Some q) dds all = refl

pub nowhere_from : (m : ℕ) (dds : List DdCard) → overrides_from (nowhere m) dds ≡ none_left (list_any names_step dds)
nowhere_from m [] = refl
nowhere_from m (dd ∷ dds) = nowhere_one m dd (is_none dd.name) dd.qualifier dds (λ m. nowhere_from m dds)

pub without : (steps : List FlatStep) (dds : List DdCard) (b : Bool) → steps ≡ [] → b ≡ list_any names_step dds → dds_overridden steps dds ≡ none_left b
without steps dds b is any = ap (λ s. dds_overridden s dds) is ∙ nowhere_from 0 dds ∙ ap none_left (sym any)
