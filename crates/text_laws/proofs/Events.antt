-- An event at a printable machine writes printable lines, and leaves a printable machine.
use Rattle.std.proofs.Common.{List, None, Option, Some, ℕ, subst, sym}
use Rattle.std.specs.Prelude.{IfSome}
use Rattle.std.proofs.lemmas.List.Elements.{All-same}
use Rattle.jcl_plan.specs.declared.entry.Entry.{Entry}
use Rattle.world_meaning.specs.Transitions.{Acts, Does, Goes, Transition, Turns}
use Rattle.world_meaning.specs.Worlds.{Initiator, Running, World, counted, with_running}
use Rattle.world_meaning.specs.declared.event.Event.{Event}
use Rattle.world_meaning.specs.declared.event.Event.TheVariants as event
use Rattle.world_meaning.specs.Readings.{Denoting}
use Rattle.line_laws.specs.Printable.{IsPrintableEntry}
use Rattle.print_laws.specs.PrintLaws.{ActIsPrintable, AgendasArePrintable, WritableIsPrintable}
use Rattle.print_laws.specs.Texts.{ArePrintableTexts, IsPrintableRunning}
use Rattle.text_laws.specs.TextLaws.{AreTextsKept, TextsStayPrintable}
use Rattle.text_laws.proofs.Elements.{at_place}
use Rattle.text_laws.proofs.Shares.{IsPrintableInitiator, IsPrintableShared, config_of, counted_printable, shared_as, shared_of, texts_with, with_shared}
use Rattle.text_laws.proofs.Turning.{explanation_printable, goes_printable}
use Rattle.text_laws.proofs.Turns.{IsPrintableTurn}
use Rattle.text_laws.proofs.Telling.{told_printable}
use Rattle.text_laws.proofs.Deeds.{as_new, running_with, tells_one}
use Rattle.text_laws.proofs.Deeds.{cancels_kept, date_kept, ends_kept, reads_kept, selects_kept, shows_kept, writes_kept, zaps_kept}

module _ (writable : WritableIsPrintable) (agendas : AgendasArePrintable) (acts : ActIsPrintable) where
  goes_kept : (old new : World) (lines : List Entry) (place : ℕ) (x : Initiator) (r : Running) → ArePrintableTexts old → IsPrintableRunning r →
      Goes old place x r lines new → AreTextsKept new lines
  goes_kept old new lines place x r h job g =
      let turn : IsPrintableTurn g.job_lines g.shared g.runs =
      goes_printable writable agendas acts old.config old.shared r g.job_lines g.shared g.runs (config_of old h) (shared_of old h) job r.stage
      job.stage g.goes in
      record {
        texts = as_new old new lines h _ g.leaves
            (texts_with old g.shared (with_running old.initiators place x g.runs) old.waiting old.jobs h turn.shared
            (running_with old new lines h place x g.runs turn.runs_on) h.waiting h.jobs);
        told = All-same IsPrintableEntry lines _ g.told
            (told_printable r.job g.job_lines _ job.numbered turn.told
            (explanation_printable writable agendas acts old.config old.shared r g.job_lines g.shared g.runs (config_of old h) (shared_of old h) job r.stage
            job.stage g.goes));
      }

  acts_kept : (old new : World) (lines : List Entry) (place : ℕ) (x : Initiator) (o : Option Running) → ArePrintableTexts old → IfSome o IsPrintableRunning →
      Acts old place x o lines new → AreTextsKept new lines
  acts_kept old new lines place x None h job a = selects_kept old new lines h place x a
  acts_kept old new lines place x (Some r) h job g = goes_kept old new lines place x r h job g

  turns_kept : (old new : World) (lines : List Entry) (number : ℕ) → ArePrintableTexts old → Turns old number lines new → AreTextsKept new lines
  turns_kept old new lines number h (Turns.unknown none told same) = tells_one old new lines h _ told tt same
  turns_kept old new lines number h (Turns.acts place x at numbered a) =
      acts_kept old new lines place x x.running h (at_place IsPrintableInitiator old.initiators place x h.running at) a

  does_kept : (job_of : Denoting) (old new : World) (e : Event) (lines : List Entry) → ArePrintableTexts old → Does job_of old e lines new →
      AreTextsKept new lines
  does_kept job_of old new (event.Read deck) lines h d = reads_kept old new lines h writable job_of deck d
  does_kept job_of old new (event.Turn number) lines h d = turns_kept old new lines number h d
  does_kept job_of old new (event.DeviceEnd serial) lines h d = ends_kept old new lines h serial d
  does_kept job_of old new (event.Write class) lines h d = writes_kept old new lines h class d
  does_kept job_of old new (event.Cancel job) lines h d = cancels_kept old new lines h job d
  does_kept job_of old new (event.Zap n offset bytes) lines h d = zaps_kept old new lines h n offset bytes d
  does_kept job_of old new event.Display lines h d = shows_kept old new lines h d
  does_kept job_of old new (event.Date day) lines h d = date_kept old new lines h day d

  -- records that are opened again are no text
  pub texts_stay_printable : TextsStayPrintable
  texts_stay_printable job_of old new e lines h (Transition.past many told same) = tells_one old new lines h _ told tt same
  texts_stay_printable job_of old new e lines h (Transition.taken few happens) =
      let kept : AreTextsKept happens.middle lines = does_kept job_of (counted old) happens.middle e lines (counted_printable old h) happens.does in
      let shared : IsPrintableShared happens.middle.shared = shared_of happens.middle kept.texts in
      record {
        texts = subst ArePrintableTexts (sym happens.rest)
            (with_shared happens.middle new.shared kept.texts
            (shared_as new.shared _ happens.reopened.rest (record { store = shared.store; holds = shared.holds; spool = shared.spool })));
        told = kept.told;
      }
