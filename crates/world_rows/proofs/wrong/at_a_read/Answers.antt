use Rattle.std.proofs.Common.{◌≡◌, Bool, true, false, lit≤, refl, sym, ap, ◌∙◌, List, [], ◌∷◌, Option, Some, None}
use Rattle.jcl_plan.specs.declared.entry.Entry.{Entry}
use Rattle.jcl_plan.specs.declared.entry.JobLine.{JobLine}
use Rattle.jcl_plan.specs.declared.entry.JobLine.TheVariants as line
use Rattle.std.specs.Prelude.{codes}
use Rattle.jcl_plan.specs.declared.entry.Entry.TheVariants as entry
use Rattle.jcl_plan.specs.declared.outcome.Abend.TheVariants.{S222}
use Rattle.world_meaning.specs.declared.event.Event.TheVariants as event
use Rattle.world_meaning.specs.Readings.{Denoting}
use Rattle.world_meaning.specs.Transitions.{Transition}
use Rattle.jcl_meaning.specs.Acts.{act}
use Rattle.world_meaning.specs.Turns.{Advanced, Advances, advance, advanced, acts, ends, waits, must_wait}
use Rattle.world_meaning.specs.Worlds.{Running, Shared, World, of_job}
use Rattle.world_rows.specs.Devices.{fixed, own, reader, start}
use Rattle.world_rows.specs.Machines.{serial, stands_at}
use Rattle.world_rows.proofs.Firsts.{GoesSo, goes_so}
use Rattle.world_rows.proofs.wrong.at_a_read.Goals as goal

lines_in : Option Advanced → List JobLine
lines_in None = []
lines_in (Some x) = x.done.lines

waits_in : Option Advanced → Bool
waits_in None = false
waits_in (Some x) = must_wait [] 1 x

abbrev r : Running
r = stands_at 1 reader fixed 2 own

-- what is due is the START, and it does not wait
starts : (x : Advanced) (growth primary : Bool) → advanced start.config start.shared 1 reader (record { fixed = fixed; assured = false }) 2 own growth primary ≡ Some x →
    x.done.lines ≡ line.GetStart (codes "IN") serial ∷ []
unfolding act advance lines_in
starts x growth primary e = sym (ap lines_in e)

goes_at_once : (x : Advanced) (growth primary : Bool) → advanced start.config start.shared 1 reader (record { fixed = fixed; assured = false }) 2 own growth primary ≡ Some x →
    must_wait [] 1 x ≡ false
unfolding act advance waits_in
goes_at_once x growth primary e = sym (ap waits_in e)

never : false ≡ true → ⊥
never e = absurd cc

writes : (lines : List JobLine) (shared : Shared) (runs : Option Running) →
    Advances start.config start.shared r reader (record { fixed = fixed; assured = false }) 2 own lines shared runs → lines ≡ line.GetStart (codes "IN") serial ∷ []
writes lines shared runs (waits x growth primary is must e n m) = absurd (never (sym (goes_at_once x growth primary is) ∙ must))
writes lines shared runs (acts x growth primary free is grants goes further e n c m) = e ∙ starts x growth primary is
writes lines shared runs (ends x growth primary free is grants goes last e n c m) = e ∙ starts x growth primary is

told : (told_now : List Entry) (new : World) → GoesSo start r told_now new → told_now ≡ of_job 1 (line.GetStart (codes "IN") serial ∷ [])
told told_now new g = g.told_so ∙ ap (of_job 1) (writes g.lines g.shared g.runs g.goes)

abbrev read_lines : List Entry
read_lines = of_job 1 (line.GetStart (codes "IN") serial ∷ [])

told_here : (job_of : Denoting) (told_now : List Entry) (new : World) → Transition job_of start (event.Turn 1) told_now new → told_now ≡ read_lines
told_here job_of told_now new t = told told_now new (goes_so job_of start r (Some (stands_at 2 reader fixed 2 own)) told_now new (lit≤ tt) refl t)

not_silent : read_lines ≡ [] → ⊥
not_silent e = absurd cc

no_abend : read_lines ≡ entry.Job 1 (line.Abend S222) ∷ [] → ⊥
no_abend e = absurd cc

no_code : read_lines ≡ entry.Job 1 (line.Code 0) ∷ [] → ⊥
no_code e = absurd cc

pub returns : goal.returns
returns c = record {
  waits_not = λ job_of now new t e. not_silent (sym (told_here job_of now new t) ∙ e);
  not_cancelled = λ job_of now new t e. no_abend (sym (told_here job_of now new t) ∙ e);
  skips_nothing = λ job_of now new t e. no_code (sym (told_here job_of now new t) ∙ e);
}
