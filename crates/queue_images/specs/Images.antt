-- A queue of the first layout as an image, and which of its jobs can be carried over. (This profile)
use Rattle.std.specs.Prelude.{ℕ, ◌*◌, ◌-◌, ◌&&◌, Bool, List, [], ◌∷◌, Option, Some, None, filter, is_none, nat_le}
use Rattle.std.specs.List.{flat_map, list_all}
use Rattle.plain.specs.Lists.{are_different}
use Rattle.cb_meaning.specs.declared.layout.TheConstants.{LAYOUT_1, RECORD_BYTES}
use Rattle.cb_meaning.specs.Fields.{part}
use Rattle.cb_meaning.specs.Spelled.{Records}
use Rattle.cb_meaning.specs.Walks.{first_fault}
use Rattle.machine_meaning.specs.declared.machine.TheConstants.{MOST_JOBS}
use Rattle.queue_images.specs.declared.image.DroppedJob.{DroppedJob}
use Rattle.queue_images.specs.declared.image.WaitingJob.{WaitingJob}

-- the records of an image, of which none is free: record 1 stands first
abbrev pub records_in : List ℕ → Records
records_in image = record { at = λ n. part image (RECORD_BYTES * (n - 1)) RECORD_BYTES; free = [] }

-- numbers of jobs, each given once
abbrev pub are_job_numbers : List ℕ → Bool
are_job_numbers numbers = list_all (λ n. nat_le 1 n && nat_le n MOST_JOBS) numbers && are_different numbers

-- the first fault of a job in an image, by the rules of the first layout
abbrev pub fault_in : List ℕ → ℕ → WaitingJob → Option ℕ
fault_in image units w = first_fault LAYOUT_1 units (records_in image) w.job w.jct

-- the jobs that are kept, and those that are dropped, each in the list's order
abbrev pub kept_of : List ℕ → ℕ → List WaitingJob → List WaitingJob
kept_of image units jobs = filter (λ w. is_none (fault_in image units w)) jobs

abbrev pub dropped_for : ℕ → Option ℕ → List DroppedJob
dropped_for job None = []
dropped_for job (Some fault) = record { job = job; fault = fault } ∷ []

abbrev pub dropped_of : List ℕ → ℕ → List WaitingJob → List DroppedJob
dropped_of image units jobs = flat_map (λ w. dropped_for w.job (fault_in image units w)) jobs
