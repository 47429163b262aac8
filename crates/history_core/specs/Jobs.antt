-- The names of jobs.
use Rattle.std.specs.Prelude.{ℕ, List, [], Option, Some, None, slice_get}

abbrev pub name_or_none : Option (Option (List ℕ)) → List ℕ
name_or_none (Some (Some name)) = name
name_or_none (Some None) = []
name_or_none None = []

-- the name of the job of this number, empty where none was read
abbrev pub name_at : List (Option (List ℕ)) → ℕ → List ℕ
name_at names job = name_or_none (slice_get names job)
