-- A turn of a printable job writes printable lines, and leaves what is printable.
use Rattle.std.proofs.Common.{All, List, Option}
use Rattle.std.proofs.lemmas.List.Elements.{All-nil}
use Rattle.jcl_plan.specs.declared.entry.JobLine.{JobLine}
use Rattle.world_meaning.specs.Admissions.{fixed_at}
use Rattle.world_meaning.specs.Lenses.{seen}
use Rattle.world_meaning.specs.Transitions.{GoesOn, explained_by}
use Rattle.world_meaning.specs.Worlds.{Admitted, Config, Named, Running, Selected, Shared, Stage, Wanting}
use Rattle.line_laws.specs.Printable.{IsPrintableLine}
use Rattle.print_laws.specs.PrintLaws.{ActIsPrintable, AgendasArePrintable, WritableIsPrintable}
use Rattle.print_laws.specs.Texts.{IsPrintableRunning, IsPrintableStage}
use Rattle.text_laws.proofs.Running.{seen_printable}
use Rattle.text_laws.proofs.Shares.{IsPrintableConfig, IsPrintableShared}
use Rattle.text_laws.proofs.Turns.{IsPrintableTurn}
use Rattle.text_laws.proofs.Holding.{holds_printable, reads_printable}
use Rattle.text_laws.proofs.Admitting.{answered_printable, explains_printable, fixed_printable}
use Rattle.text_laws.proofs.Advancing.{advances_printable}

-- a turn, by how far its initiator is with the job
module _ (writable : WritableIsPrintable) (agendas : AgendasArePrintable) (acts : ActIsPrintable) (c : Config) (old : Shared) (r : Running)
    (lines : List JobLine) (new : Shared) (runs : Option Running) (configured : IsPrintableConfig c) (shared : IsPrintableShared old)
    (job : IsPrintableRunning r) where
  pub goes_printable : (stage : Stage) → IsPrintableStage stage → GoesOn c old r stage lines new runs → IsPrintableTurn lines new runs
  goes_printable (Selected first) h g = reads_printable c old r lines new runs shared job first writable g
  goes_printable (Wanting plan) h g = holds_printable c old r lines new runs shared job plan h g
  goes_printable (Named plan) h g =
      answered_printable c old r lines new runs shared job plan h (fixed_at c old r.job plan g.places)
      (fixed_printable c old r.job plan g.places configured h g.placed) configured.volumes g.answers
  goes_printable (Admitted plan a count own) h g =
      advances_printable c old r lines new runs shared job agendas acts configured plan h.0 a h.1 own h.2 count g

  pub explanation_printable : (stage : Stage) → IsPrintableStage stage → (g : GoesOn c old r stage lines new runs) →
      All IsPrintableLine (explained_by c old r stage lines new runs g)
  explanation_printable (Selected first) h g = All-nil IsPrintableLine
  explanation_printable (Wanting plan) h g = All-nil IsPrintableLine
  explanation_printable (Named plan) h g =
      explains_printable acts c.explains (fixed_at c old r.job plan g.places) plan (seen r.job old.store) lines
      (fixed_printable c old r.job plan g.places configured h g.placed) (agendas.path plan h) (seen_printable r.job old.store shared.store)
  explanation_printable (Admitted plan a count own) h g = All-nil IsPrintableLine
