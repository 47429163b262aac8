-- Requests that end a step by its DDs alone, whatever the volumes hold. (This profile)
use Rattle.std.specs.Prelude.{ℕ, Bool, false, ◌||◌, List, [], ◌∷◌, Option, Some, None, drop, if◌then◌else◌}
use Rattle.jcl_plan.specs.declared.plan.DdPlan.{DdPlan}
use Rattle.jcl_meaning.specs.Programs.{dd_of, is_concatenated, is_read_only}
use Rattle.jcl_meaning.specs.declared.program.Move.{Move}
use Rattle.jcl_meaning.specs.declared.program.Move.TheVariants.{From, To}
use Rattle.jcl_meaning.specs.RequestActs.{dd_name}
use Rattle.job_warnings.specs.declared.requests.Denied.{Denied}
use Rattle.job_warnings.specs.declared.requests.Denied.TheVariants.{NoDd, OnlyRead}

-- no record may be put to a DD with SHR, to cards, or to a concatenation; these are the DD and those behind it
abbrev pub put_denied : List DdPlan → Bool
put_denied [] = false
put_denied (dd ∷ dds) = is_read_only dd.kind || is_concatenated (dd ∷ dds)

-- a request to the first DD of its name: that ends the step with SFF1 if a record is put where none may be
abbrev pub denied_at : List DdPlan → ℕ → Move → Option Denied
denied_at dds d (From name) = None
denied_at dds d (To name text) = if put_denied (drop d dds) then Some (OnlyRead d) else None

-- and with SFF0 if there is no DD of the name
abbrev pub denied_by : List DdPlan → Option ℕ → Move → Option Denied
denied_by dds None wants = Some (NoDd (dd_name wants))
denied_by dds (Some d) wants = denied_at dds d wants

abbrev pub is_denied : List DdPlan → Move → Option Denied
is_denied dds wants = denied_by dds (dd_of dds (dd_name wants)) wants

abbrev pub or_later : Option Denied → Option Denied → Option Denied
or_later (Some denied) later = Some denied
or_later None later = later

-- the first of a program's requests that is denied
abbrev pub first_denied : List DdPlan → List Move → Option Denied
first_denied dds [] = None
first_denied dds (wants ∷ moves) = or_later (is_denied dds wants) (first_denied dds moves)
