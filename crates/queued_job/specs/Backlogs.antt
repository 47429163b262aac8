-- The listings of the jobs that wait. (This profile)
use Rattle.std.specs.Prelude.{◌≡◌, ◌≢◌, ℕ, List, [], ◌∷◌, ◌++◌, Option, Some, None, All}
use Rattle.std.specs.BTreeMap.{BTreeMap, IsOrdered, get, is_at}
use Rattle.std.specs.List.{Contains}
use Rattle.std.specs.Map.{set_value}
use Rattle.std.specs.Ordering.{nat_cmp}
use Rattle.jcl_plan.specs.declared.entry.JobLine.{JobLine}
use Rattle.queued_job.specs.declared.backlog.Listing.{Listing}

-- a listing lies under its job's number
abbrev pub IsNumbered : ℕ × Listing → Type 0
IsNumbered e = e.1.job ≡ e.0

pub record AreListings (listings : BTreeMap ℕ Listing) : Type 0 where
  pub ordered : IsOrdered nat_cmp listings
  pub numbered : All IsNumbered listings.entries

-- the listing of a job
abbrev pub IsListingOf : List Listing → ℕ → Listing → Type 0
IsListingOf backlog job l = Contains backlog l × (l.job ≡ job)

abbrev pub told : Listing → JobLine → Listing
told l line = record l { lines = l.lines ++ line ∷ [] }

-- the line stands behind the others of the listing of this job, if it waits
pub record IsTold (old : BTreeMap ℕ Listing) (job : ℕ) (line : JobLine) (new : BTreeMap ℕ Listing) : Type 0 where
  pub there : (l : Listing) → get nat_cmp old job ≡ Some l → new.entries ≡ set_value (is_at (nat_cmp job)) old.entries (told l line)
  pub absent : get nat_cmp old job ≡ None → new.entries ≡ old.entries

-- the listing of a job with a line more, or none where no such job waits
abbrev pub IsTakenWith : List Listing → ℕ → JobLine → Option Listing → Type 0
IsTakenWith backlog job line None = All (λ l. l.job ≢ job) backlog
IsTakenWith backlog job line (Some taken) = (l : Listing) × IsListingOf backlog job l × (taken ≡ told l line)
