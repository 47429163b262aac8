use Rattle.std.proofs.Common.{◌≡◌, length, subst, sym}
use Rattle.cb_meaning.specs.Spelled.{Denotes}
use Rattle.world_meaning.specs.Worlds.{Config}
use Rattle.world_laws.proofs.Denoting.{denotes_still}
use Rattle.world_laws.proofs.Effects.{changes}
use Rattle.world_laws.proofs.RecordsStaying.{records_keep}
use Rattle.world_laws.proofs.records_stay.Goals as goal

pub returns : goal.returns
returns c = λ job_of old new e lines place job y numbers plan own alone t there has denotes.
    let config : new.config ≡ old.config = (changes job_of old new e lines t).config in
    subst (λ (k : Config). Denotes k.layout (length k.units) new.shared.records job numbers plan) (sym config)
    (denotes_still old.config.layout own job old.shared.records new.shared.records
    (records_keep job_of old new e lines place job y own alone there has config t) (length old.config.units) numbers plan denotes)
