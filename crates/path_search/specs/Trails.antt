-- How the views behind each part were first reached, and the path to a view that this gives.
use Rattle.std.specs.Prelude.{ℕ, zero, suc, List, [], ◌∷◌, ◌++◌, get_or, slice_get, unwrap_or}
use Rattle.jcl_plan.specs.declared.outcome.Outcome.{Outcome}
use Rattle.jcl_plan.specs.declared.outcome.Outcome.TheVariants as outcome
use Rattle.path_search.specs.declared.trail.Link.{Link}

-- what stands for a link that is not there
abbrev pub no_link : Link
no_link = record { parent = 0; outcome = outcome.Code 0 }

abbrev pub link_at : List Link → ℕ → Link
link_at links number = unwrap_or (slice_get links number) no_link

-- the link of a view behind the part with this number, from 0
abbrev pub link_in : List (List Link) → ℕ → ℕ → Link
link_in levels part number = link_at (get_or levels part []) number

-- how the first k steps come out on the way to a view behind them
abbrev pub path_at : List (List Link) → ℕ → ℕ → List Outcome
path_at levels zero number = []
path_at levels (suc k) number = path_at levels k (link_in levels k number).parent ++ (link_in levels k number).outcome ∷ []
