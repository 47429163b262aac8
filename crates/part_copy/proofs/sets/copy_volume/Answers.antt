use Rattle.std.proofs.lemmas.Result.{IfOk-weaker}
use Rattle.jcl_meaning.specs.Names.{held_under}
use Rattle.jcl_meaning.specs.Parts.{sees_key}
use Rattle.std.proofs.Common.{None}
use Rattle.part_copy.specs.Copies.{bare_on, is_under, is_under_some, set_at}
use Rattle.part_copy.proofs.Adding.{join}
use Rattle.part_copy.proofs.Copied.{sets_behind}
use Rattle.part_copy.proofs.Held.{own_or_held}
use Rattle.part_copy.proofs.sets.copy_volume.Goals as goal

pub returns : goal.returns
returns c =
    IfOk-weaker c.copy_all_held.result _ _ (λ _ held. join set_at (bare_on c.args.job c.args.mounted.now) sets_behind
    (λ q. is_under None (held_under q.0)) (λ q. is_under_some c.args.names.now (held_under q.0)) (λ q. sees_key c.args.names.now q.0)
    c.args.sets.now c.copy_own.new.sets c.copy_all_held.new.sets (λ q. own_or_held c.args.names.now (held_under q.0))
    c.in_ok-copy_own.ensures held) c.copy_all_held.ensures
