use Rattle.std.proofs.Common.{◌≢◌, All, subst, sym}
use Rattle.std.proofs.lemmas.List.Elements.{All-nil}
use Rattle.record_rows.proofs.store.give_back.Goals as goal

pub give_back-requires-clause-unqueued : goal.give_back-requires-clause-unqueued
give_back-requires-clause-unqueued g c =
    subst (All (λ x. x.jct ≢ c.args.n)) (sym (c.nobody_waits.ensures c.if-nobody_waits.true)) (All-nil (λ x. x.jct ≢ c.args.n))
