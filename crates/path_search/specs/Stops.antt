-- The earliest of the stops that were found in a part, and what is told of it.
use Rattle.std.specs.Prelude.{◌≡◌, ℕ, nat_lt, List, [], ◌∷◌, ◌++◌, length, Option, Some, None, if◌then◌else◌}
use Rattle.jcl_plan.specs.declared.outcome.Abend.TheVariants.{User}
use Rattle.jcl_plan.specs.declared.outcome.Outcome.{Outcome}
use Rattle.jcl_plan.specs.declared.outcome.Outcome.TheVariants as outcome
use Rattle.view_domain.specs.declared.crossed.Branch.{Branch}
use Rattle.view_domain.specs.declared.crossed.Branch.TheVariants as branch
use Rattle.view_domain.specs.declared.crossed.Crossed.{Crossed}
use Rattle.view_domain.specs.declared.crossed.Crossed.TheVariants as crossed
use Rattle.view_domain.specs.declared.crossed.Stop.{Stop}
use Rattle.path_search.specs.declared.stops.Found.{Found}
use Rattle.path_search.specs.declared.trail.Link.{Link}
use Rattle.path_search.specs.declared.verdict.RiskReport.{RiskReport}
use Rattle.path_search.specs.Trails.{path_at}

-- the earlier one, and of equal ones the first that was found
abbrev pub earlier : Option Found → Found → Option Found
earlier None found = Some found
earlier (Some best) found = if nat_lt found.stop.at best.stop.at then Some found else Some best

abbrev pub found_at : ℕ → Outcome → Stop → Found
found_at parent o stop = record { stop = stop; parent = parent; outcome = o }

abbrev pub with_branch : {V : Type 0} → ℕ → Outcome → Branch V → Option Found → Option Found
with_branch parent o (branch.Stops stop) best = earlier best (found_at parent o stop)
with_branch parent o (branch.Leads moves) best = best

-- the stops in what a part comes to: that by code before that by ABEND
abbrev pub with_crossed : {V : Type 0} → ℕ → Crossed V → Option Found → Option Found
with_crossed parent (crossed.Stops stop) best = earlier best (found_at parent (outcome.Code 0) stop)
with_crossed parent crossed.Ends best = best
with_crossed parent (crossed.Passes fate view) best = best
with_crossed parent (crossed.Runs made by_code by_abend) best =
    with_branch parent (outcome.Abend (User 0)) by_abend (with_branch parent (outcome.Code 0) by_code best)

-- The path of a report leads to the view from which the fault is met; the part's own step stands on it where it has ended there.
abbrev pub own_end : ℕ → Found → List Outcome
own_end part found = if nat_lt part found.stop.ended then found.outcome ∷ [] else []

pub record IsReport (levels : List (List Link)) (part : ℕ) (found : Found) (report : RiskReport) : Type 0 where
  pub fault : report.fault ≡ found.stop.fault
  pub step : report.step ≡ found.stop.step
  pub dd : report.dd ≡ found.stop.dd
  pub path : report.path.items ≡ path_at levels (length levels) found.parent ++ own_end part found
