-- A record of a job is overwritten. As long as the job waits the Zap is taken, and its walk then meets a record twice; once it is selected the
-- Zap is refused.
use Rattle.std.specs.Prelude.{List, [], ◌∷◌, codes, Some, None}
use Rattle.cb_meaning.specs.Examples.{first_dd_of_dummies, four, jct_of_dummies, last_of_dummies, sct_of_dummies, two_dummies}
use Rattle.cb_meaning.specs.Spelled.{Records}
use Rattle.world_meaning.specs.declared.event.Event.TheVariants as event
use Rattle.world_meaning.specs.Readings.{Denoting}
use Rattle.world_meaning.specs.Worlds.{Named, Waiting, World}
use Rattle.world_rows.specs.Growths.{no_sets}
use Rattle.world_rows.specs.Machines.{Did, Follow, is_silent, machine, says}

-- //A DD DUMMY and //B DD DUMMY: JCT 1, SCT 2, SIOTs 3 and 4
abbrev pub waiting : Waiting
waiting = record { job = 1; class = 65; priority = 6; first = 1; listing = [] }

abbrev pub records : Records
records = record (four jct_of_dummies sct_of_dummies first_dd_of_dummies last_of_dummies) { free = 5 ∷ 6 ∷ 7 ∷ 8 ∷ [] }

abbrev pub empty : World
empty = machine [] no_sets 100 None None

abbrev pub start : World
start = record empty {
  waiting = waiting ∷ [];
  shared = record empty.shared { records = records };
}

-- the second SIOT's next is the first
abbrev pub zap : Did
zap = is_silent (event.Zap 4 8 (0 ∷ 3 ∷ []))

abbrev pub turns : List Did
turns =
    zap
    ∷ says (event.Turn 1) (codes "0001 SELECTED 1")
    ∷ says (event.Turn 1) (codes "0001 BROKEN B4")
    ∷ record { event = event.Display; lines = codes "-- VOL001 FREE 100 KEPT 0" ∷ codes "-- QUEUED 0 RUNNING 0 RECORDS 8" ∷ [] }
    ∷ []

abbrev pub IsBroken : Type 0
IsBroken = (job_of : Denoting) → Follow job_of start turns

-- with an initiator the job's records stay as they are
abbrev pub selected : World
selected = machine [] no_sets 100 (Some (record { job = 1; listing = []; stage = Named two_dummies })) None

abbrev pub later_start : World
later_start = record selected { shared = record selected.shared { records = records } }

abbrev pub later_zaps : List Did
later_zaps =
    says (event.Zap 4 8 (0 ∷ 3 ∷ [])) (codes "-- REFUSED Q3")
    ∷ says (event.Zap 8 8 (0 ∷ [])) (codes "-- REFUSED Q2")
    ∷ []

abbrev pub IsRefused : Type 0
IsRefused = (job_of : Denoting) → Follow job_of later_start later_zaps
