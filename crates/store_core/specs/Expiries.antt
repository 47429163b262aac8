-- The day of a data set, as a job names it. (GC28-6704: LABEL)
use Rattle.std.specs.Prelude.{ℕ, List, Option, Some, None}
use Rattle.jname_core.specs.declared.key.Key.{Key}
use Rattle.jcl_meaning.specs.declared.state.Resolution.{Resolution}
use Rattle.jcl_meaning.specs.declared.state.Resolution.TheVariants.{Means, Fails}
use Rattle.jcl_meaning.specs.declared.store.DataSet.{DataSet}
use Rattle.jcl_meaning.specs.Stores.{Store, resolution_of}

-- the day before which a set is not to be deleted
abbrev pub day_of : Option DataSet → Option ℕ
day_of None = None
day_of (Some set) = set.expires

-- that of the set on a volume which a name means
abbrev pub day_meant : Store → Resolution → List ℕ → Option ℕ
day_meant s (Means k) serial = day_of (s.set k serial)
day_meant s (Fails f) serial = None

-- that of the set on a volume which has this name in a deck
abbrev pub expiry_of : Store → Key → List ℕ → Option ℕ
expiry_of s k serial = day_meant s (resolution_of s k) serial
