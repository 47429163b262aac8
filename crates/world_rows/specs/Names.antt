-- A job reads a set that another deletes: the names are held by one of them at a time.
use Rattle.std.specs.Prelude.{ℕ, List, [], ◌∷◌, ◌++◌, codes, Some}
use Rattle.group_core.specs.declared.entry.CatEntry.TheVariants as entry
use Rattle.jcl_plan.specs.declared.plan.JobPlan.{JobPlan}
use Rattle.jcl_plan.specs.declared.plan.Word.TheVariants as word
use Rattle.world_meaning.specs.declared.event.Event.TheVariants as event
use Rattle.world_meaning.specs.Readings.{Denoting}
use Rattle.world_meaning.specs.Worlds.{World}
use Rattle.world_rows.specs.Machines.{Did, Follow, dd_with, job_with, machine, reads, says, serial, set_of, shared_set, step_with, store_with}
use Rattle.std.specs.Prelude.{None, if◌then◌else◌}
use Rattle.std.specs.Str.{bytes_eq}

abbrev pub name : List ℕ
name = codes "R.SET"

-- //IN DD DSN=R.SET,DISP=SHR and //IN DD DSN=R.SET,DISP=(SHR,DELETE)
abbrev pub reader : JobPlan
reader = job_with (codes "J1") (step_with (Some (codes "S1")) (codes "IEFBR14") (dd_with (codes "IN") (shared_set name) ∷ []) ∷ [])

abbrev pub deleter : JobPlan
deleter = job_with (codes "J2") (step_with (Some (codes "S1")) (codes "IEFBR14")
    (dd_with (codes "IN") (record (shared_set name) { normal = Some word.Delete }) ∷ []) ∷ [])

abbrev pub start : World
start = machine [] (store_with name (set_of 1 []) (λ n. if bytes_eq n name then Some (entry.Volume serial) else None)) 99
    (Some (reads 1 reader)) (Some (reads 2 deleter))

abbrev pub are_held : List Did
are_held =
    says (event.Turn 1) (codes "0001 NAMES 1")
    ∷ says (event.Turn 2) (codes "0002 WAIT NAMES 0001 R.SET")
    ∷ says (event.Turn 1) (codes "0001 ASSURED 0 TRACKS 5 ACTIONS")
    ∷ []

abbrev pub are_used : List Did
are_used =
    says (event.Turn 1) (codes "0001 STEP 1 S1 RUN")
    ∷ says (event.Turn 1) (codes "0001 TAKE 1 IN FOUND VOL001")
    ∷ says (event.Turn 1) (codes "0001 CODE 0000")
    ∷ says (event.Turn 1) (codes "0001 DISP 1 IN KEPT")
    ∷ []

abbrev pub are_free_again : List Did
are_free_again =
    says (event.Turn 1) (codes "0001 END")
    ∷ says (event.Turn 2) (codes "0002 NAMES 1")
    ∷ []

abbrev pub WaitsForNames : Type 0
WaitsForNames = (job_of : Denoting) → Follow job_of start (are_held ++ (are_used ++ are_free_again))
