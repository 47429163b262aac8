-- What is shown: serial FREE f KEPT k, QUEUED q RUNNING r RECORDS n, DATE yyyy/ddd.
use Rattle.std.specs.Prelude.{◌≡◌, ℕ, ◌+◌, List, [], ◌∷◌, ◌++◌, length, map, sum_by, Option, Some, None}
use Rattle.jcl_plan.specs.declared.entry.Entry.{Entry}
use Rattle.jcl_plan.specs.declared.entry.Entry.TheVariants as entry
use Rattle.date_core.specs.Dates.{IsDate}
use Rattle.world_meaning.specs.Tracks.{kept_on}
use Rattle.world_meaning.specs.Worlds.{Running, Shared, World}

-- one line a volume, as configured; kept tracks do not count as free
abbrev pub volume_line : Shared → List ℕ → Entry
volume_line s serial = entry.Volume serial (s.free serial) (kept_on s.kept serial)

abbrev pub busy : Option Running → ℕ
busy None = 0
busy (Some r) = 1

-- jobs not selected, jobs with an initiator, and free records
abbrev pub queue_line : World → Entry
queue_line w = entry.Queue (length w.waiting) (sum_by (λ x. busy x.running) w.initiators) (length w.shared.records.free)

abbrev pub shown_lines : World → List Entry
shown_lines w = map (volume_line w.shared) w.config.volumes ++ queue_line w ∷ []

pub data SetsDate (old : World) (day : ℕ) (lines : List Entry) (new : World) : Type 0 where
  set : (years of_year : ℕ) → IsDate day years of_year → lines ≡ entry.Date (1900 + years) of_year ∷ [] →
      new ≡ record old { shared = record old.shared { date = day } } → SetsDate old day lines new
