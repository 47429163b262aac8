use Rattle.std.proofs.Common.{◌≡◌, Bool, true, false, lit≤, refl, sym, ap, ◌∙◌, List, [], Option, Some, None}
use Rattle.jcl_plan.specs.declared.entry.JobLine.{JobLine}
use Rattle.jcl_meaning.specs.Acts.{act}
use Rattle.jcl_meaning.specs.Solo.{nothing_own}
use Rattle.world_meaning.specs.Turns.{Advanced, Advances, advance, advanced, acts, ends, is_over, must_wait, waits}
use Rattle.world_meaning.specs.Worlds.{Running, Shared}
use Rattle.world_rows.specs.Devices.{fixed}
use Rattle.world_rows.specs.Machines.{stands_at}
use Rattle.world_rows.specs.Names.{reader}
use Rattle.world_rows.specs.Wrong.{at_its_end}
use Rattle.world_rows.proofs.Firsts.{GoesSo, goes_so}
use Rattle.world_rows.proofs.wrong.at_its_end.Goals as goal

waits_in : Option Advanced → Bool
waits_in None = false
waits_in (Some x) = must_wait [] 1 x

over_in : Option Advanced → Bool
over_in None = true
over_in (Some x) = is_over at_its_end.config reader x

abbrev r : Running
r = stands_at 1 reader fixed 4 nothing_own

waits_not : (x : Advanced) (growth primary : Bool) → advanced at_its_end.config at_its_end.shared 1 reader (record { fixed = fixed; assured = false }) 4 nothing_own growth primary ≡ Some x →
    must_wait [] 1 x ≡ false
unfolding act advance waits_in
waits_not x growth primary e = sym (ap waits_in e)

ends_now : (x : Advanced) (growth primary : Bool) → advanced at_its_end.config at_its_end.shared 1 reader (record { fixed = fixed; assured = false }) 4 nothing_own growth primary ≡ Some x →
    is_over at_its_end.config reader x ≡ true
unfolding act advance over_in
ends_now x growth primary e = sym (ap over_in e)

never : false ≡ true → ⊥
never e = absurd cc

released_so : (lines : List JobLine) (shared : Shared) (runs : Option Running) →
    Advances at_its_end.config at_its_end.shared r reader (record { fixed = fixed; assured = false }) 4 nothing_own lines shared runs → shared.holds ≡ []
released_so lines shared runs (waits x growth primary is must e n m) = absurd (never (sym (waits_not x growth primary is) ∙ must))
released_so lines shared runs (acts x growth primary free is grants goes further e n c m) = absurd (never (sym further ∙ ends_now x growth primary is))
released_so lines shared runs (ends x growth primary free is grants goes last e n c m) = ap (λ (s : Shared). s.holds) n

pub returns : goal.returns
returns c job_of told new t =
    let g : GoesSo at_its_end r told new = goes_so job_of at_its_end r None told new (lit≤ tt) refl t in
    g.holds ∙ released_so g.lines g.shared g.runs g.goes
