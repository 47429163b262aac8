use Rattle.std.proofs.Common.{rules}
use Rattle.std.proofs.lemmas.Fn.{filter_same}
use Rattle.store_core.proofs.store.drop_entries.Goals as goal

pub returns-clause-value : goal.returns-clause-value
returns-clause-value c = filter_same _ _ _ (λ x b f' k. search rules) _ _ c.retain.ensures.filtered
