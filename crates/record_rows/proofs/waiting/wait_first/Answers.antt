use Rattle.std.proofs.Common.{◌<◌, All, subst, sym}
use Rattle.std.proofs.lemmas.List.Elements.{All-nil}
use Rattle.record_rows.proofs.waiting.wait_first.Goals as goal

pub enter-requires-clause-later : goal.enter-requires-clause-later
enter-requires-clause-later g c = subst (All (λ x. x.job < c.args.queued.job)) (sym c.requires) (All-nil (λ x. x.job < c.args.queued.job))
