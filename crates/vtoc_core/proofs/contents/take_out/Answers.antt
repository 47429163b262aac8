use Rattle.std.proofs.Common.{◌≡◌, List, Option, Some, None, IfNone, ap, sym, ◌∙◌}
use Rattle.std.specs.FinMap.{get}
use Rattle.vtoc_core.specs.declared.entry.SetEntry.{SetEntry}
use Rattle.vtoc_core.specs.declared.entry.SetKey.{SetKey}
use Rattle.vtoc_core.specs.Entries.{Sets, sets_of}
use Rattle.vtoc_core.proofs.MapLemmas.{get_key, get_removed, one_cleared}
use Rattle.vtoc_core.proofs.contents.take_out.Goals as goal

pub returns-clause-set : goal.returns-clause-set
returns-clause-set c = c.remove.ensures.value ∙ sym (get_key c.args.sets.now.entries c.args.key.now)

pub returns-clause-others : goal.returns-clause-others
returns-clause-others c = one_cleared c.args.sets.now.entries c.remove.new.self.entries c.args.key.now c.remove.ensures.updates.0

pub returns-clause-gone : goal.returns-clause-gone
returns-clause-gone c =
    ap (λ (m : Sets). get m c.args.key.now) (one_cleared c.args.sets.now.entries c.remove.new.self.entries c.args.key.now c.remove.ensures.updates.0)
    ∙ get_removed (sets_of c.args.sets.now.entries) c.args.key.now

unchanged : (o : Option SetEntry) (es fs : List (SetKey × SetEntry)) → IfNone o (fs ≡ es) → IfNone o (sets_of fs ≡ sets_of es)
unchanged None es fs h = ap sets_of h
unchanged (Some e) es fs h = h

pub returns-clause-missing : goal.returns-clause-missing
returns-clause-missing c = unchanged c.remove.result c.args.sets.now.entries c.remove.new.self.entries c.remove.ensures.unchanged
