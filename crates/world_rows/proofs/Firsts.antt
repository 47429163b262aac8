-- What a turn of the first of two initiators comes to.
use Rattle.std.proofs.Common.{◌≡◌, ◌≢◌, ℕ, zero, suc, ◌<◌, List, [], ◌∷◌, Option, Some, refl, sym, ap, ◌∙◌, subst, arith}
use Rattle.std.specs.Prelude.{slice_get, All}
use Rattle.std.proofs.lemmas.List.Elements.{All-head}
use Rattle.jcl_plan.specs.declared.entry.Entry.{Entry}
use Rattle.jcl_plan.specs.declared.entry.JobLine.{JobLine}
use Rattle.machine_meaning.specs.declared.machine.TheConstants.{MOST_EVENTS}
use Rattle.world_meaning.specs.declared.event.Event.TheVariants as event
use Rattle.world_meaning.specs.Readings.{Denoting}
use Rattle.world_meaning.specs.Transitions.{Acts, Goes, GoesOn, Transition, Turns, explained_by, past, taken, told_with, unknown, acts}
use Rattle.world_meaning.specs.Worlds.{Initiator, Running, Shared, World, counted, of_job}
use Rattle.world_rows.specs.Machines.{initiator}

-- the machine's first initiator has a job, and its second another number
pub record GoesSo (w : World) (r : Running) (told : List Entry) (new : World) : Type 0 where
  pub lines : List JobLine
  pub shared : Shared
  pub runs : Option Running
  pub goes : GoesOn w.config w.shared r r.stage lines shared runs
  pub told_so : told ≡ told_with r.job lines (explained_by w.config w.shared r r.stage lines shared runs goes)
  pub holds : new.shared.holds ≡ shared.holds

-- the place of number 1 is the first
at_first : (r : Running) (other : Option Running) (place : ℕ) (x : Initiator) → slice_get (initiator 1 (Some r) ∷ initiator 2 other ∷ []) place ≡ Some x → x.number ≡ 1 →
    x ≡ initiator 1 (Some r)
at_first r other zero x at n = cc
at_first r other (suc zero) x at n = absurd cc
at_first r other (suc (suc place)) x at n = absurd cc

went : (w : World) (r : Running) (x : Initiator) (place : ℕ) (told : List Entry) (new : World) → x ≡ initiator 1 (Some r) → Acts w place x x.running told new → GoesSo w r told new
went w r x place told new e does =
    let goes : Goes w place (initiator 1 (Some r)) r told new = subst (λ (y : Initiator). Acts w place y y.running told new) e does in
    record { lines = goes.job_lines; shared = goes.shared; runs = goes.runs; goes = goes.goes; told_so = goes.told; holds = ap (λ (v : World). v.shared.holds) goes.leaves }

turned_so : (w : World) (r : Running) (other : Option Running) (told : List Entry) (new : World) → w.initiators ≡ initiator 1 (Some r) ∷ initiator 2 other ∷ [] →
    Turns w 1 told new → GoesSo w r told new
turned_so w r other told new e (unknown none t n) =
    absurd (All-head (λ (x : Initiator). x.number ≢ 1) (initiator 1 (Some r)) (initiator 2 other ∷ []) (subst (λ xs. All (λ (x : Initiator). x.number ≢ 1) xs) e none) refl)
turned_so w r other told new e (acts place x at n does) =
    went w r x place told new (at_first r other place x (ap (λ xs. slice_get xs place) (sym e) ∙ at) n) does

pub goes_so : (job_of : Denoting) (w : World) (r : Running) (other : Option Running) (told : List Entry) (new : World) → w.events < MOST_EVENTS →
    w.initiators ≡ initiator 1 (Some r) ∷ initiator 2 other ∷ [] → Transition job_of w (event.Turn 1) told new → GoesSo w r told new
goes_so job_of w r other told new few e (past late t n) = absurd (omega (arith, few, late))
goes_so job_of w r other told new few e (taken before h) =
    let g : GoesSo (counted w) r told h.middle = turned_so (counted w) r other told h.middle e h.does in
    record { lines = g.lines; shared = g.shared; runs = g.runs; goes = g.goes; told_so = g.told_so; holds = ap (λ (s : Shared). s.holds) h.reopened.rest ∙ g.holds }
