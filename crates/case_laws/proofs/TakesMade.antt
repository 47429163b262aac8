-- A take makes the same along a path as beside it, and what a path makes.
use Rattle.std.proofs.Common.{◌≡◌, ◌++◌, ◌⊎◌, inl, inr, ℕ, Bool, true, false, List, [], ◌∷◌, Option, refl, sym, ap, ◌∙◌}
use Rattle.std.specs.Prelude.{is_some}
use Rattle.std.specs.List.{Contains}
use Rattle.std.proofs.lemmas.List.Elements.{Contains-append_left, Contains-append_right}
use Rattle.jname_core.specs.declared.key.Key.{Key}
use Rattle.jcl_plan.specs.declared.outcome.Outcome.{Outcome}
use Rattle.jcl_plan.specs.declared.plan.DdKind.{DdKind}
use Rattle.jcl_plan.specs.declared.plan.DdKind.TheVariants.{Cards, Dummy, Set, Sysout}
use Rattle.jcl_plan.specs.declared.plan.DdPlan.{DdPlan}
use Rattle.jcl_plan.specs.declared.plan.SetPlan.{SetPlan}
use Rattle.jcl_meaning.specs.declared.state.Place.{Place}
use Rattle.jcl_meaning.specs.declared.state.Resolution.{Resolution}
use Rattle.jcl_meaning.specs.declared.state.Resolution.TheVariants.{Means, Fails}
use Rattle.jcl_meaning.specs.declared.take.Decision.{Decision}
use Rattle.jcl_meaning.specs.declared.take.Decision.TheVariants.{Refuses, Takes}
use Rattle.jcl_meaning.specs.Acts.{act}
use Rattle.jcl_meaning.specs.Agendas.{Action, Take}
use Rattle.jcl_meaning.specs.Resolutions.{meaning_at, place_of}
use Rattle.jcl_meaning.specs.Solo.{run}
use Rattle.jcl_meaning.specs.States.{Done, Fixed, State, if_runs}
use Rattle.jcl_meaning.specs.TakeActs.{decided, decision_at, place_made, takes, takes_set, target_at}
use Rattle.jcl_meaning.specs.Takes.{decide, first_passed, is_known, looked_at, target_of, where_of}
use Rattle.path_laws.proofs.Alike.{Open, Same}
use Rattle.path_laws.proofs.Cleanly.{after}
use Rattle.path_laws.proofs.Shapes.{same_catalogued, same_there, same_where}

-- what a decision makes
abbrev made_by : ℕ → ℕ → Decision → List Place
made_by n dd (Refuses fault) = []
made_by n dd (Takes serial h) = place_made h n dd serial

decided_made : (fixed : Fixed) (n dd : ℕ) (name : Option (List ℕ)) (p : SetPlan) (key : Key) (s : State) (d : Decision) →
    (decided fixed n dd name p key s d).made ≡ made_by n dd d
decided_made fixed n dd name p key s (Refuses fault) = refl
decided_made fixed n dd name p key s (Takes serial h) = refl

if_made : (a b : Bool) (s t : State) (x y : Done) → a ≡ b → x.made ≡ y.made → (if_runs a s x).made ≡ (if_runs b t y).made
if_made true true s t x y same e = e
if_made true false s t x y same e = absurd cc
if_made false true s t x y same e = absurd cc
if_made false false s t x y same e = refl

module _ (outs : List Outcome) (fixed : Fixed) (s t : State) (o : Open outs s t) where
  abbrev h : Same outs s t
  h = o.same

  same_decision : (n dd : ℕ) (p : SetPlan) (key : Key) →
      decision_at fixed p key s (target_at fixed n dd p key s) ≡ decision_at fixed p key t (target_at fixed n dd p key t)
  same_decision n dd p key =
      (λ i. decide (target_at fixed n dd p key s) (is_known fixed.volumes (looked_at (target_at fixed n dd p key s)))
      (same_there s.store t.store h.store key (looked_at (target_at fixed n dd p key s)) i) (is_some p.space) ((h.granted ∙ sym h.granted_too) i))
      ∙ ap (decision_at fixed p key t) (λ i. target_of p.status
      ((same_where s.store t.store h.store p.volume s.own.passed s.own.volumes ∙ (λ j. where_of p.volume t.store (h.passed j) (h.volumes j))) i)
      (first_passed (h.passed i) key) (same_catalogued s.store t.store h.store key i) (place_of fixed.places n dd))

  by_meaning : (n dd : ℕ) (name : Option (List ℕ)) (p : SetPlan) (r : Resolution) →
      (takes_set fixed n dd name p s r).made ≡ (takes_set fixed n dd name p t r).made
  by_meaning n dd name p (Fails fault) = refl
  by_meaning n dd name p (Means key) =
      decided_made fixed n dd name p key s (decision_at fixed p key s (target_at fixed n dd p key s))
      ∙ (ap (made_by n dd) (same_decision n dd p key) ∙ sym (decided_made fixed n dd name p key t (decision_at fixed p key t (target_at fixed n dd p key t))))

  by_kind : (n dd : ℕ) (name : Option (List ℕ)) (kind : DdKind) → (takes fixed n dd name kind s).made ≡ (takes fixed n dd name kind t).made
  by_kind n dd name (Sysout class) = refl
  by_kind n dd name Dummy = refl
  by_kind n dd name (Cards cards) = refl
  by_kind n dd name (Set p) = by_meaning n dd name p (meaning_at fixed.meanings n dd)

  pub same_made : (n dd : ℕ) (d : DdPlan) → (act fixed (Take n dd d) s).made ≡ (act fixed (Take n dd d) t).made
  unfolding act
  same_made n dd d = if_made s.own.runs t.own.runs s t (takes fixed n dd d.name d.kind s) (takes fixed n dd d.name d.kind t) h.runs (by_kind n dd d.name d.kind)

-- a set is made at a place by some of these actions
abbrev pub MakesIn : Fixed → List Action → State → Place → Type 0
MakesIn fixed [] t p = ⊥
MakesIn fixed (a ∷ actions) t p = Contains (act fixed a t).made p ⊎ MakesIn fixed actions (act fixed a t).state p

pub makes_first : (fixed : Fixed) (xs ys : List Action) (t : State) (p : Place) → MakesIn fixed xs t p → MakesIn fixed (xs ++ ys) t p
makes_first fixed [] ys t p m = absurd m
makes_first fixed (x ∷ xs) ys t p (inl h) = inl h
makes_first fixed (x ∷ xs) ys t p (inr m) = inr (makes_first fixed xs ys (act fixed x t).state p m)

pub makes_later : (fixed : Fixed) (xs ys : List Action) (t : State) (p : Place) → MakesIn fixed ys (after fixed xs t) p → MakesIn fixed (xs ++ ys) t p
makes_later fixed [] ys t p m = m
makes_later fixed (x ∷ xs) ys t p m = inr (makes_later fixed xs ys (act fixed x t).state p m)

pub makes_run : (fixed : Fixed) (actions : List Action) (t : State) (p : Place) → MakesIn fixed actions t p → Contains (run fixed actions t).made p
unfolding run
makes_run fixed [] t p m = absurd m
makes_run fixed (a ∷ actions) t p (inl h) = Contains-append_left (act fixed a t).made (run fixed actions (act fixed a t).state).made p h
makes_run fixed (a ∷ actions) t p (inr m) =
    Contains-append_right (act fixed a t).made (run fixed actions (act fixed a t).state).made p (makes_run fixed actions (act fixed a t).state p m)
