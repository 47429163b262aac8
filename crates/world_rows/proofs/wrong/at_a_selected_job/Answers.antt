use Rattle.std.proofs.Common.{◌≡◌, subst, ℕ, lit≤, refl, sym, ◌∙◌, List, [], ◌∷◌, Option, Some, None}
use Rattle.jcl_plan.specs.declared.entry.Entry.{Entry}
use Rattle.jcl_plan.specs.declared.entry.Entry.TheVariants as entry
use Rattle.jcl_plan.specs.declared.entry.JobLine.{JobLine}
use Rattle.jcl_plan.specs.declared.entry.JobLine.TheVariants as line
use Rattle.cb_meaning.specs.Walks.{first_fault, walk_cards, walk_dds, walk_steps}
use Rattle.world_meaning.specs.declared.event.Event.TheVariants as event
use Rattle.world_meaning.specs.Holdings.{ReadsRecords, blocked, broken, held, read}
use Rattle.world_meaning.specs.Readings.{Denoting}
use Rattle.world_meaning.specs.Transitions.{Transition}
use Rattle.world_meaning.specs.Worlds.{Running, Selected, Shared, World, of_job}
use Rattle.world_rows.specs.Machines.{few_records}
use Rattle.world_rows.specs.Wrong.{selected}
use Rattle.world_rows.specs.Zaps.{records}
use Rattle.world_rows.proofs.Firsts.{GoesSo, goes_so}
use Rattle.world_rows.proofs.wrong.at_a_selected_job.Goals as goal

abbrev r : Running
r = record { job = 1; listing = []; stage = Selected 1 }

-- its records are good, so that it asks for its names
is_good : first_fault few_records 1 records 1 1 ≡ None
unfolding walk_cards walk_dds walk_steps
is_good = refl

clash : (n : ℕ) → first_fault few_records 1 records 1 1 ≡ Some n → None ≡ Some n
clash n e = sym is_good ∙ e

never : (n : ℕ) → None ≡ Some n → ⊥
never n e = absurd cc

abbrev Asks : List JobLine → Type 0
Asks [] = ⊥
Asks (line.Names n ∷ lines) = Unit {0}
Asks (line.WaitNames job name ∷ lines) = Unit {0}
Asks other = ⊥

asks : (lines : List JobLine) (shared : Shared) (runs : Option Running) → ReadsRecords selected.config selected.shared r 1 lines shared runs → Asks lines
asks lines shared runs (broken n free fault e m c o) = absurd (never n (clash n fault))
asks lines shared runs (read plan behind d (held free e m o)) = subst Asks (sym e) tt
asks lines shared runs (read plan behind d (blocked by first e m o)) = subst Asks (sym e) tt

asked : (job_of : Denoting) (told : List Entry) (new : World) → Transition job_of selected (event.Turn 1) told new → GoesSo selected r told new
asked job_of told new t = goes_so job_of selected r None told new (lit≤ tt) refl t

not_this : (lines : List JobLine) (l : JobLine) → Asks lines → of_job 1 lines ≡ entry.Job 1 l ∷ [] → lines ≡ l ∷ []
not_this [] l a e = absurd cc
not_this (m ∷ []) l a e = cc
not_this (m ∷ n ∷ more) l a e = absurd cc

pub returns : goal.returns
returns c = record {
  selects_once = λ job_of told new t e.
      let g : GoesSo selected r told new = asked job_of told new t in
      subst Asks (not_this g.lines (line.Selected 1) (asks g.lines g.shared g.runs g.goes) (sym g.told_so ∙ e)) (asks g.lines g.shared g.runs g.goes);
  good_chain = λ n job_of told new t e.
      let g : GoesSo selected r told new = asked job_of told new t in
      subst Asks (not_this g.lines (line.Broken n) (asks g.lines g.shared g.runs g.goes) (sym g.told_so ∙ e)) (asks g.lines g.shared g.runs g.goes);
}
