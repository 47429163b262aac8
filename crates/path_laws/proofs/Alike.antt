-- A state of a job by its programs, and one along given outcomes: they differ in tracks, in records, and in what a program has done so far.
use Rattle.std.proofs.Common.{◌≡◌, ◌++◌, ℕ, zero, suc, Bool, true, false, List, [], ◌∷◌, Option, Some, None, refl, ap, ◌∙◌}
use Rattle.std.specs.Prelude.{All, slice_get, slice_set}
use Rattle.jcl_plan.specs.declared.outcome.Outcome.{Outcome}
use Rattle.jcl_meaning.specs.declared.state.DdState.{DdState}
use Rattle.jcl_meaning.specs.EndActs.{as_ending}
use Rattle.jcl_meaning.specs.History.{IsStepOutcome}
use Rattle.jcl_meaning.specs.States.{Done, State, if_runs}
use Rattle.path_laws.proofs.Shapes.{Shaped}

-- DDs that took the same
abbrev pub SameDds : List DdState → List DdState → Type 0
SameDds [] [] = Unit {0}
SameDds [] (y ∷ ys) = ⊥
SameDds (x ∷ xs) [] = ⊥
SameDds (x ∷ xs) (y ∷ ys) = (x.taken ≡ y.taken) × SameDds xs ys

pub dds_same : (xs : List DdState) → SameDds xs xs
dds_same [] = tt
dds_same (x ∷ xs) = (refl, dds_same xs)

pub dds_along : (xs ys zs : List DdState) → SameDds xs ys → SameDds ys zs → SameDds xs zs
dds_along [] [] [] h g = tt
dds_along [] [] (z ∷ zs) h g = absurd g
dds_along [] (y ∷ ys) zs h g = absurd h
dds_along (x ∷ xs) [] zs h g = absurd h
dds_along (x ∷ xs) (y ∷ ys) [] h g = absurd g
dds_along (x ∷ xs) (y ∷ ys) (z ∷ zs) h g = (h.0 ∙ g.0, dds_along xs ys zs h.1 g.1)

pub dds_pushed : (xs ys : List DdState) (x y : DdState) → SameDds xs ys → x.taken ≡ y.taken → SameDds (xs ++ x ∷ []) (ys ++ y ∷ [])
dds_pushed [] [] x y h e = (e, tt)
dds_pushed [] (z ∷ ys) x y h e = absurd h
dds_pushed (z ∷ xs) [] x y h e = absurd h
dds_pushed (z ∷ xs) (w ∷ ys) x y h e = (h.0, dds_pushed xs ys x y h.1 e)

pub dds_set : (xs : List DdState) (k : ℕ) (x y : DdState) → slice_get xs k ≡ Some x → y.taken ≡ x.taken → SameDds (slice_set xs k y) xs
dds_set [] k x y e h = absurd cc
dds_set (z ∷ xs) zero x y e h = let is : x ≡ z = cc in (h ∙ ap (λ (d : DdState). d.taken) is, dds_same xs)
dds_set (z ∷ xs) (suc k) x y e h = (refl, dds_set xs k x y e h)

-- what stands at a place of both
abbrev pub SameDd : Option DdState → Option DdState → Type 0
SameDd None None = Unit {0}
SameDd None (Some y) = ⊥
SameDd (Some x) None = ⊥
SameDd (Some x) (Some y) = x.taken ≡ y.taken

pub dds_at : (xs ys : List DdState) (k : ℕ) → SameDds xs ys → SameDd (slice_get xs k) (slice_get ys k)
dds_at [] [] k h = tt
dds_at [] (y ∷ ys) k h = absurd h
dds_at (x ∷ xs) [] k h = absurd h
dds_at (x ∷ xs) (y ∷ ys) zero h = h.0
dds_at (x ∷ xs) (y ∷ ys) (suc k) h = dds_at xs ys k h.1

-- The same but for that, with these outcomes still given.
pub record Same (outs : List Outcome) (s t : State) : Type 0 where
  pub store : Shaped s.store t.store
  pub passed : s.own.passed ≡ t.own.passed
  pub ended : s.own.ended ≡ t.own.ended
  pub faulted : s.own.faulted ≡ t.own.faulted
  pub volumes : s.own.volumes ≡ t.own.volumes
  pub runs : s.own.runs ≡ t.own.runs
  pub dds : SameDds s.own.dds t.own.dds
  pub granted : s.answers.primary ≡ true
  pub granted_too : t.answers.primary ≡ true
  pub no_cancel : t.answers.cancels ≡ []
  pub given : t.answers.outcomes ≡ outs
  pub good : All IsStepOutcome s.answers.outcomes

-- what a step ended with so far: an ABEND in the midst of its program
abbrev pub AsEnded : Option Outcome → Type 0
AsEnded None = Unit {0}
AsEnded (Some o) = (as_ending o ≡ o) × IsStepOutcome o

-- before a step's end
pub record Open (outs : List Outcome) (s t : State) : Type 0 where
  pub same : Same outs s t
  pub over : AsEnded s.own.over
  pub over_there : t.own.over ≡ None

-- and behind it
pub record Closed (outs : List Outcome) (s t : State) : Type 0 where
  pub same : Same outs s t
  pub over : s.own.runs ≡ true → s.own.over ≡ t.own.over

-- where the one meets no fault the other meets none, and leaves what is the same
abbrev pub Meets : (State → State → Type 0) → Done → Done → Type 0
Meets rel x y = y.meets ≡ None → (x.meets ≡ None) × rel x.state y.state

pub met_both : (rel : State → State → Type 0) (a b : Bool) → a ≡ b → (s t : State) (x y : Done) → rel s t → (b ≡ true → Meets rel x y) →
    Meets rel (if_runs a s x) (if_runs b t y)
met_both rel true true e s t x y same h = h refl
met_both rel true false e s t x y same h = absurd cc
met_both rel false true e s t x y same h = absurd cc
met_both rel false false e s t x y same h = λ none. (refl, same)
