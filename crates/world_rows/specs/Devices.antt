-- Two jobs read one set: a volume has one operation at a time.
use Rattle.std.specs.Prelude.{ℕ, true, false, List, [], ◌∷◌, ◌++◌, codes, replicate, Some, None}
use Rattle.jname_core.specs.declared.key.Key.TheVariants.{Named}
use Rattle.jcl_plan.specs.declared.plan.JobPlan.{JobPlan}
use Rattle.jcl_meaning.specs.declared.program.Request.TheVariants.{Get, End}
use Rattle.jcl_meaning.specs.declared.program.SoloProgram.{SoloProgram}
use Rattle.jcl_meaning.specs.declared.state.Own.{Own}
use Rattle.jcl_meaning.specs.States.{Fixed}
use Rattle.jcl_meaning.specs.Solo.{nothing_own}
use Rattle.world_meaning.specs.declared.event.Event.TheVariants as event
use Rattle.world_meaning.specs.Readings.{Denoting}
use Rattle.world_meaning.specs.Worlds.{World}
use Rattle.world_rows.specs.Machines.{Did, Follow, dd_with, fixed_with, is_silent, job_with, machine, means, says, serial, set_of, shared_set, stands_at, step_with, store_with}

abbrev pub name : List ℕ
name = codes "R.SET"

-- ./ PROGRAM RD: GET IN, CODE 0
abbrev pub reading : SoloProgram
reading = record { name = codes "RD"; requests = Get (codes "IN") ∷ End 0 ∷ [] }

abbrev pub reader : JobPlan
reader = job_with (codes "J") (step_with (Some (codes "S1")) (codes "RD") (dd_with (codes "IN") (shared_set name) ∷ []) ∷ [])

abbrev pub fixed : Fixed
fixed = fixed_with [] (means 1 1 name ∷ [])

-- the step of each runs, and its set is taken
abbrev pub own : Own
own = record nothing_own {
  volumes = record { step = 1; dd = 1; serial = serial } ∷ [];
  runs = true;
  dds = record {
    number = 1;
    name = Some (codes "IN");
    taken = Some (record { key = Named name; serial = serial; made = false; by_catalog = true; made_here = false });
    member = 0;
    position = 0;
    written = false;
    spooled = [];
  } ∷ [];
}

abbrev pub start : World
start = machine (reading ∷ []) (store_with name (set_of 1 ((codes "HELLO" ++ replicate 75 32) ∷ [])) (λ n. None)) 99
    (Some (stands_at 1 reader fixed 2 own)) (Some (stands_at 2 reader fixed 2 own))

abbrev pub turns : List Did
turns =
    says (event.Turn 1) (codes "0001 GET IN START VOL001")
    ∷ is_silent (event.Turn 2)
    ∷ is_silent (event.DeviceEnd serial)
    ∷ says (event.Turn 1) (codes "0001 GET IN DATA HELLO")
    ∷ says (event.Turn 2) (codes "0002 GET IN START VOL001")
    ∷ []

abbrev pub WaitsForADevice : Type 0
WaitsForADevice = (job_of : Denoting) → Follow job_of start turns
