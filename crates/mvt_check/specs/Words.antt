-- How the words for an answer begin. (This profile)
use Rattle.std.specs.Prelude.{ℕ, List, [], ◌∷◌, ◌++◌, Option, Some, None, codes, decimal}
use Rattle.jcl_plan.specs.declared.outcome.Outcome.{Outcome}
use Rattle.mvt_check.specs.declared.answers.answer.Answer.{Answer}
use Rattle.mvt_check.specs.declared.answers.answer.Answer.TheVariants.{Assured, Risk, SpaceWait, TooMany}

-- the number of a job that has one
abbrev pub number_text : Option ℕ → List ℕ
number_text None = []
number_text (Some job) = decimal job ++ codes " "

-- a job that meets a fault before a step ends fails, whatever its steps do
abbrev pub risk_text : List Outcome → List ℕ
risk_text [] = codes " fails: "
risk_text (first ∷ path) = codes " is at RISK: "

-- what is answered
abbrev pub verdict_text : Option Answer → List ℕ
verdict_text None = codes " is not looked at: "
verdict_text (Some (Assured tracks actions)) = codes " is ASSURED: "
verdict_text (Some (Risk fault step dd path lines)) = risk_text path
verdict_text (Some (TooMany step)) = codes " has too many paths (TOOMANY): "
verdict_text (Some (SpaceWait serial)) = codes " waits for space (WAIT SPACE): "

-- the line of the session, the job and what is answered it
abbrev pub beginning : ℕ → Option ℕ → List ℕ → Option Answer → List ℕ
beginning line job name answer = codes "line " ++ decimal line ++ codes ": job " ++ number_text job ++ name ++ verdict_text answer
