-- PATH lines are no lines of the job that they explain.
use Rattle.std.proofs.Common.{◌≡◌, ◌++◌, ℕ, Bool, true, false, List, [], ◌∷◌, map, Option, refl, ap, ◌∙◌}
use Rattle.std.specs.Prelude.{◌||◌}
use Rattle.std.specs.List.{cons_option, filter_map, list_any}
use Rattle.std.proofs.lemmas.List.Elements.{filter_map-append}
use Rattle.jcl_plan.specs.declared.entry.Entry.{Entry}
use Rattle.jcl_plan.specs.declared.entry.Entry.TheVariants as entry
use Rattle.jcl_plan.specs.declared.entry.JobLine.{JobLine}
use Rattle.jcl_plan.specs.declared.entry.JobLine.TheVariants as line
use Rattle.jcl_plan.specs.declared.plan.JobPlan.{JobPlan}
use Rattle.jcl_meaning.specs.States.{Fixed}
use Rattle.jcl_meaning.specs.Stores.{Store}
use Rattle.world_meaning.specs.Admissions.{explained, fixed_at}
use Rattle.world_meaning.specs.Headlines.{line_of}
use Rattle.world_meaning.specs.Lenses.{seen}
use Rattle.world_meaning.specs.Transitions.{GoesOn, explained_by, told_with}
use Rattle.world_meaning.specs.Worlds.{Admitted, Config, Named, Running, Selected, Shared, Stage, Wanting, of_job}

-- no job is heard by them
none_heard : (job other : ℕ) (path : List JobLine) → filter_map (line_of job) (map (entry.Path other) path) ≡ []
none_heard job other [] = refl
none_heard job other (l ∷ path) = none_heard job other path

pub heard_told : (job other : ℕ) (lines path : List JobLine) →
    filter_map (line_of job) (told_with other lines path) ≡ filter_map (line_of job) (of_job other lines)
heard_told job other lines [] = refl
heard_told job other [] (p ∷ path) = none_heard job other (p ∷ path)
heard_told job other (l ∷ lines) (p ∷ path) = λ i. cons_option (line_of job (entry.Job other l)) (rest i)
  where
    rest : filter_map (line_of job) (map (entry.Path other) (p ∷ path) ++ of_job other lines) ≡ filter_map (line_of job) (of_job other lines)
    rest =
        filter_map-append (line_of job) (map (entry.Path other) (p ∷ path)) (of_job other lines)
        ∙ (λ i. none_heard job other (p ∷ path) i ++ filter_map (line_of job) (of_job other lines))

-- an ASSURED line is explained by none
not_assured : (b : Bool) (fixed : Fixed) (plan : JobPlan) (store : Store) (tracks stated : ℕ) →
    explained b fixed plan store (line.Assured tracks stated ∷ []) ≡ []
not_assured true fixed plan store tracks stated = refl
not_assured false fixed plan store tracks stated = refl

pub assured_unexplained : (c : Config) (old : Shared) (r : Running) (stage : Stage) (lines : List JobLine) (new : Shared) (runs : Option Running)
    (g : GoesOn c old r stage lines new runs) (tracks stated : ℕ) → lines ≡ line.Assured tracks stated ∷ [] →
    explained_by c old r stage lines new runs g ≡ []
assured_unexplained c old r (Selected first) lines new runs g tracks stated is = refl
assured_unexplained c old r (Wanting plan) lines new runs g tracks stated is = refl
assured_unexplained c old r (Named plan) lines new runs g tracks stated is =
    ap (explained c.explains (fixed_at c old r.job plan g.places) plan (seen r.job old.store)) is
    ∙ not_assured c.explains (fixed_at c old r.job plan g.places) plan (seen r.job old.store) tracks stated
assured_unexplained c old r (Admitted plan a count own) lines new runs g tracks stated is = refl
