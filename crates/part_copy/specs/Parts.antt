-- Two stores of which a job with these names sees the same sets, unexpired on the same days, and the same entries.
use Rattle.std.specs.Prelude.{◌≡◌, ℕ, List}
use Rattle.jname_core.specs.declared.key.Key.{Key}
use Rattle.jcl_meaning.specs.declared.names.HeldName.{HeldName}
use Rattle.jcl_meaning.specs.Parts.{part_of}
use Rattle.jcl_meaning.specs.Stores.{Store}
use Rattle.jcl_meaning.specs.Views.{shown_set}

-- of each set that the job sees: whether it is there, and unexpired, on any date
abbrev pub ShowsSets : List HeldName → Store → Store → Type 0
ShowsSets names s t = (key : Key) (serial : List ℕ) (date : ℕ) →
    shown_set ((part_of names s).set key serial) date ≡ shown_set ((part_of names t).set key serial) date

-- what the job sees of each name's entry
abbrev pub ShowsEntries : List HeldName → Store → Store → Type 0
ShowsEntries names s t = (name : List ℕ) → (part_of names s).catalog name ≡ (part_of names t).catalog name
