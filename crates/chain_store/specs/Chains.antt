-- Records that lead from one to the next by their links, and the jobs whose first records they are. (This profile)
use Rattle.std.specs.Prelude.{◌≡◌, ◌≢◌, ℕ, zero, suc, ◌+◌, ◌-◌, ◌/◌, ◌%◌, ◌<◌, ◌≤◌, ◌==◌, All, nat_lt, not, get_or, slice_index_or, Bool, true, false, List, [], ◌∷◌, ◌++◌, map, if◌then◌else◌}
use Rattle.queue_core.specs.declared.queue.Queued.{Queued}
use Rattle.chain_store.specs.declared.chains.Chain.{Chain}

-- so many records from one on, of which each leads to the next
abbrev pub chain : (ℕ → ℕ) → ℕ → ℕ → List ℕ
chain link n zero = []
chain link n (suc count) = n ∷ chain link (link n) count

-- where so many links lead to
abbrev pub walk : (ℕ → ℕ) → ℕ → ℕ → ℕ
walk link n zero = n
walk link n (suc count) = walk link (link n) count

-- the last of some records, 0 where there is none
abbrev pub last_of : List ℕ → ℕ
last_of [] = 0
last_of (n ∷ []) = n
last_of (n ∷ (m ∷ ns)) = last_of (m ∷ ns)

-- Chains lie by class, A first, and in a class by priority, the highest of 13 first: the job whose first record this is, in a chain by its place.
abbrev pub job_at : (ℕ → ℕ) → ℕ → ℕ → Queued
job_at owner place n = record { job = owner n; jct = n; class = 65 + place / 14; priority = 13 - place % 14 }

abbrev pub jobs_of : (ℕ → ℕ) → (ℕ → ℕ) → ℕ → Chain → List Queued
jobs_of owner link place c = map (job_at owner place) (chain link c.first c.count)

-- those of all chains from a place on
abbrev pub all_jobs : (ℕ → ℕ) → (ℕ → ℕ) → ℕ → List Chain → List Queued
all_jobs owner link place [] = []
all_jobs owner link place (c ∷ cs) = jobs_of owner link place c ++ all_jobs owner link (place + 1) cs

abbrev pub no_chain : Chain
no_chain = record { first = 0; last = 0; count = 0 }

-- in the order of reading, which is that of their numbers
abbrev pub put_in : Queued → List Queued → List Queued
put_in x [] = x ∷ []
put_in x (y ∷ ys) = if nat_lt x.job y.job then x ∷ (y ∷ ys) else y ∷ put_in x ys

abbrev pub ordered : List Queued → List Queued
ordered [] = []
ordered (x ∷ xs) = put_in x (ordered xs)

-- none of these is the job of a number
abbrev pub HasNoJob : ℕ → List Queued → Type 0
HasNoJob job [] = Unit {0}
HasNoJob job (y ∷ ys) = (y.job ≢ job) × HasNoJob job ys

-- no two are the same job
abbrev pub AreDifferentJobs : List Queued → Type 0
AreDifferentJobs [] = Unit {0}
AreDifferentJobs (x ∷ xs) = HasNoJob x.job xs × AreDifferentJobs xs

-- a test that only other jobs pass
abbrev pub is_other : ℕ → Queued → Bool
is_other job x = not (x.job == job)

-- each of these records stands in a table of so many
abbrev pub AreThere : ℕ → List ℕ → Type 0
AreThere count numbers = All (λ n. (1 ≤ n) × (n ≤ count)) numbers

abbrev pub chain_of : List Chain → ℕ → Chain
chain_of chains place = slice_index_or chains place no_chain

-- the chains from one place to another have no record
abbrev pub AreEmpty : List Chain → ℕ → ℕ → Type 0
AreEmpty chains from to = (place : ℕ) → from ≤ place → place < to → (chain_of chains place).count ≡ 0

-- of fourteen chains from a place on the first that has one
pub record IsFirstUsed (chains : List Chain) (from place : ℕ) : Type 0 where
  pub after : from ≤ place
  pub within : place < from + 14
  pub used : (chain_of chains place).count ≢ 0
  pub before : AreEmpty chains from place

-- each class of which a chain has a record is marked; a class has fourteen chains
abbrev pub AreMarked : List Bool → List Chain → Type 0
AreMarked occupied chains = (place : ℕ) → (chain_of chains place).count ≢ 0 → get_or occupied (place / 14) false ≡ true
