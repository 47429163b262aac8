-- The limits of the machine, as numbers. (This profile)
use Rattle.std.specs.Prelude.{◌≡◌}
use Rattle.jcl_plan.specs.declared.plan.TheConstants.{MOST_DDS, MOST_NAMES, MOST_STEPS, MOST_TRACKS}
use Rattle.cb_meaning.specs.declared.layout.TheConstants.{LAYOUT_1, QUEUE_LAYOUT}
use Rattle.machine_meaning.specs.declared.config.TheConstants.{LAST_INITIATOR, MOST_UNITS, MOST_VOLUMES}
use Rattle.machine_meaning.specs.declared.machine.TheConstants.{MOST_EVENTS, MOST_JOBS}

-- Jobs of 255 steps, 64 DDs a step and 255 data set names at most; 16 volumes of 4,000 tracks each, 65,535 unit names, initiators 1 to 15, 65,535
-- events, job numbers to 9,999. The queue has 65,536 records and holds jobs of as many steps; an image has 4,096 records, and jobs of 32 steps.
pub record AreThoseOfTheProfile : Type 0 where
  pub steps : MOST_STEPS ≡ 255
  pub records : QUEUE_LAYOUT.most_records ≡ 65536
  pub queued_steps : QUEUE_LAYOUT.most_steps ≡ MOST_STEPS
  pub image_records : LAYOUT_1.most_records ≡ 4096
  pub image_steps : LAYOUT_1.most_steps ≡ 32
  pub dds : MOST_DDS ≡ 64
  pub names : MOST_NAMES ≡ 255
  pub volumes : MOST_VOLUMES ≡ 16
  pub tracks : MOST_TRACKS ≡ 4000
  pub units : MOST_UNITS ≡ 65535
  pub initiators : LAST_INITIATOR ≡ 15
  pub events : MOST_EVENTS ≡ 65535
  pub jobs : MOST_JOBS ≡ 9999
