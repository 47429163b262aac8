-- Of what may be told of a job at its admission only one holds, but for which of the paths to one place a RISK tells.
use Rattle.std.proofs.Common.{◌≡◌, ℕ, List, Option, Some, None, sym, ap, ap₂, subst, ◌∙◌}
use Rattle.jcl_plan.specs.declared.entry.JobLine.{JobLine}
use Rattle.jcl_plan.specs.declared.entry.JobLine.TheVariants as line
use Rattle.jcl_plan.specs.declared.plan.JobPlan.{JobPlan}
use Rattle.jcl_meaning.specs.declared.program.SoloProgram.{SoloProgram}
use Rattle.jcl_meaning.specs.declared.state.Place.{Place}
use Rattle.jcl_meaning.specs.Agendas.{budget_of}
use Rattle.jcl_meaning.specs.States.{Fixed}
use Rattle.path_meaning.specs.Verdicts.{IsNeverTwo}
use Rattle.path_laws.specs.OneAnswer.{IsOneAnswer}
use Rattle.world_meaning.specs.Admissions.{tracks_asked}
use Rattle.world_meaning.specs.Lenses.{seen}
use Rattle.shared_core.specs.Shown.{world_store_of}
use Rattle.shared_core.specs.declared.store.SharedStore.{SharedStore}
use Rattle.sched_core.specs.Told.{IsTold, assured, no_space, refused_by, risk, too_many}
use Rattle.machine_laws.specs.Answers.{IsSameAnswer}

some_value : (a : Option (List ℕ)) (s t : List ℕ) → a ≡ Some s → a ≡ Some t → t ≡ s
some_value a s t e f = let both : Some t ≡ Some s = sym f ∙ e in cc

none_or_some : {A : Type 0} (a : Option (List ℕ)) (s : List ℕ) → a ≡ None → a ≡ Some s → A
none_or_some a s e f = let clash : None ≡ Some s = sym e ∙ f in absurd cc

module _ (never : IsNeverTwo) (one : IsOneAnswer) (store : SharedStore) (programs : List SoloProgram) (limit job : ℕ) (plan : JobPlan) (fixed : Fixed) where
  abbrev Tells : JobLine → Type 0
  Tells told = IsTold store programs limit job plan fixed told

  pub only_one : (a b : JobLine) → Tells a → Tells b → IsSameAnswer a b
  only_one a b (assured made free room is) (assured made2 free2 room2 is2) =
      subst (λ (x : JobLine). IsSameAnswer x b) (sym is)
      (is2 ∙ ap (λ (ps : List Place). line.Assured (tracks_asked plan ps) (budget_of plan programs))
      (one.places fixed plan (seen job (world_store_of store)) made2 made free2.made free.made))
  only_one a b (assured made free room is) (no_space made2 serial free2 room2 there2 is2) =
      none_or_some (refused_by store job plan made) serial room
      (ap (refused_by store job plan) (one.places fixed plan (seen job (world_store_of store)) made made2 free.made free2.made) ∙ room2)
  only_one a b (assured made free room is) (risk fault step dd path earliest is2) =
      absurd ((never fixed plan (seen job (world_store_of store)) limit made free).0 fault step dd path earliest)
  only_one a b (assured made free room is) (too_many step first is2) =
      absurd ((never fixed plan (seen job (world_store_of store)) limit made free).1 step first)
  only_one a b (no_space made serial free room there is) (assured made2 free2 room2 is2) =
      none_or_some (refused_by store job plan made) serial
      (ap (refused_by store job plan) (one.places fixed plan (seen job (world_store_of store)) made made2 free.made free2.made) ∙ room2) room
  only_one a b (no_space made serial free room there is) (no_space made2 serial2 free2 room2 there2 is2) =
      subst (λ (x : JobLine). IsSameAnswer x b) (sym is)
      (is2 ∙ ap line.WaitSpace (some_value (refused_by store job plan made) serial serial2 room
      (ap (refused_by store job plan) (one.places fixed plan (seen job (world_store_of store)) made made2 free.made free2.made) ∙ room2)))
  only_one a b (no_space made serial free room there is) (risk fault step dd path earliest is2) =
      absurd ((never fixed plan (seen job (world_store_of store)) limit made free).0 fault step dd path earliest)
  only_one a b (no_space made serial free room there is) (too_many step first is2) =
      absurd ((never fixed plan (seen job (world_store_of store)) limit made free).1 step first)
  only_one a b (risk fault step dd path earliest is) (assured made2 free2 room2 is2) =
      absurd ((never fixed plan (seen job (world_store_of store)) limit made2 free2).0 fault step dd path earliest)
  only_one a b (risk fault step dd path earliest is) (no_space made2 serial2 free2 room2 there2 is2) =
      absurd ((never fixed plan (seen job (world_store_of store)) limit made2 free2).0 fault step dd path earliest)
  only_one a b (risk fault step dd path earliest is) (risk fault2 step2 dd2 path2 earliest2 is2) =
      let same = one.place fixed plan (seen job (world_store_of store)) limit fault2 fault step2 step dd2 dd path2 path earliest2 earliest in
      subst (λ (x : JobLine). IsSameAnswer x b) (sym is)
      (fault2, path2, is2 ∙ ap₂ (λ (s d : ℕ). line.Risk fault2 s d path2) same.1 same.2)
  only_one a b (risk fault step dd path earliest is) (too_many step2 first2 is2) =
      absurd (one.not_both fixed plan (seen job (world_store_of store)) limit step2 step dd fault path earliest first2)
  only_one a b (too_many step first is) (assured made2 free2 room2 is2) =
      absurd ((never fixed plan (seen job (world_store_of store)) limit made2 free2).1 step first)
  only_one a b (too_many step first is) (no_space made2 serial2 free2 room2 there2 is2) =
      absurd ((never fixed plan (seen job (world_store_of store)) limit made2 free2).1 step first)
  only_one a b (too_many step first is) (risk fault2 step2 dd2 path2 earliest2 is2) =
      absurd (one.not_both fixed plan (seen job (world_store_of store)) limit step step2 dd2 fault2 path2 earliest2 first)
  only_one a b (too_many step first is) (too_many step2 first2 is2) =
      subst (λ (x : JobLine). IsSameAnswer x b) (sym is)
      (is2 ∙ ap line.TooMany (one.step fixed plan (seen job (world_store_of store)) limit step2 step first2 first))
