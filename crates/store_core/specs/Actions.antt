-- The state of a job, what is known of a set, and a set changed.
use Rattle.std.specs.Prelude.{ℕ, List, [], length, Option, ◌≡◌, Bool}
use Rattle.jname_core.specs.declared.key.Key.{Key}
use Rattle.jcl_meaning.specs.declared.state.Own.{Own}
use Rattle.jcl_meaning.specs.declared.store.DataSet.{DataSet}
use Rattle.jcl_meaning.specs.States.{Answers, State}
use Rattle.jcl_meaning.specs.Programs.{or_nothing, emptied, grown_by}
use Rattle.jcl_meaning.specs.Stores.{Store, with_set_there}
use Rattle.store_core.specs.declared.job_store.SetFacts.{SetFacts}

abbrev pub state_at : Store → Own → Answers → State
state_at seen own answers = record { store = seen; own = own; answers = answers }

-- what is known of a set
abbrev pub facts_of : DataSet → SetFacts
facts_of set = record { tracks = set.tracks; expires = set.expires; records = length set.records }

-- a new set
abbrev pub new_set_of : ℕ → Option ℕ → DataSet
new_set_of tracks expires = record { tracks = tracks; expires = expires; records = [] }

-- the store with the set of a key changed, where it is there
abbrev pub changed_at : (DataSet → DataSet) → Store → Key → List ℕ → Store
changed_at f s key serial = with_set_there (s.set key serial) (f (or_nothing (s.set key serial))) s key serial

-- a set that grows and is emptied after it, or not, is as one that is emptied first
abbrev pub GrowsInEitherOrder : Type 0
GrowsInEitherOrder = (s : Store) (key : Key) (serial : List ℕ) (empties : Bool) (tracks : ℕ) →
    changed_at (emptied empties) (changed_at (grown_by tracks) s key serial) key serial ≡ changed_at (λ set. grown_by tracks (emptied empties set)) s key serial
