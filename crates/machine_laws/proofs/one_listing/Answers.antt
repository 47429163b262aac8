use Rattle.machine_laws.proofs.Chains.{one_listing}
use Rattle.machine_laws.proofs.one_listing.Goals as goal

pub returns : goal.returns
returns c = one_listing c.starts_sound.ensures c.soundness_is_kept.ensures c.next_is_decided.ensures
