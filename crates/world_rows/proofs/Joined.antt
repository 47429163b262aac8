-- What follows from where other events led.
use Rattle.std.proofs.Common.{Bool, true, false, List, [], ◌∷◌, ◌++◌, sym, subst}
use Rattle.world_meaning.specs.Readings.{Denoting}
use Rattle.world_meaning.specs.Worlds.{World}
use Rattle.world_rows.specs.Machines.{Did, Follow, Reach}

pub reach_on : (job_of : Denoting) (w middle end : World) (ds more : List Did) → Reach job_of w ds middle → Reach job_of middle more end → Reach job_of w (ds ++ more) end
reach_on job_of w middle end [] more first then = subst (λ v. Reach job_of v more end) (sym first) then
reach_on job_of w middle end (d ∷ ds) more (lines, new, step, told, first) then = (lines, new, step, told, reach_on job_of new middle end ds more first then)

pub follow_on : (job_of : Denoting) (w middle : World) (ds more : List Did) → Reach job_of w ds middle → Follow job_of middle more → Follow job_of w (ds ++ more)
follow_on job_of w middle ds more first then = record { end = then.end; reach = reach_on job_of w middle then.end ds more first then.reach }

-- what holds of the one volume, and of any other
pub on_the_volume : (P : Bool → Type 0) (b : Bool) → P true → P false → P b
on_the_volume P true yes_ no_ = yes_
on_the_volume P false yes_ no_ = no_
