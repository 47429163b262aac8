-- What the machine writes is printable. (This profile)
use Rattle.std.specs.Prelude.{List, All}
use Rattle.jcl_plan.specs.declared.entry.Entry.{Entry}
use Rattle.world_meaning.specs.declared.event.Event.{Event}
use Rattle.world_meaning.specs.Readings.{Denoting}
use Rattle.world_meaning.specs.Transitions.{Transition}
use Rattle.world_meaning.specs.Worlds.{World}
use Rattle.line_laws.specs.Printable.{IsPrintableEntry}
use Rattle.print_laws.specs.Texts.{ArePrintableTexts}

-- An event at a printable machine writes printable lines, and leaves a printable machine.
pub record AreTextsKept (new : World) (lines : List Entry) : Type 0 where
  pub texts : ArePrintableTexts new
  pub told : All IsPrintableEntry lines

abbrev pub TextsStayPrintable : Type 0
TextsStayPrintable = (job_of : Denoting) (old new : World) (e : Event) (lines : List Entry) → ArePrintableTexts old → Transition job_of old e lines new →
    AreTextsKept new lines
