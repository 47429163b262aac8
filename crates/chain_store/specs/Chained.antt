-- How a table of records, their owners and chains through their links are a queue. (This profile)
use Rattle.std.specs.Prelude.{◌≡◌, ◌≢◌, ℕ, ◌+◌, ◌-◌, ◌^◌, ◌<◌, ◌≤◌, ◌==◌, All, List, ◌++◌, Option, None, length, map, replicate}
use Rattle.std.specs.List.{count_by}
use Rattle.cb_meaning.specs.declared.layout.Layout.{Layout}
use Rattle.queue_core.specs.declared.queue.Queued.{Queued}
use Rattle.cb_queue.specs.RecordQueues.{AreInOrder, IsSoundQueue, RecordQueue, owner_in}
use Rattle.cb_queue.specs.Stored.{seen_records}
use Rattle.plain.specs.Lists.{numbers_from}
use Rattle.record_spans.specs.Spans.{AreSpanned}
use Rattle.chain_store.specs.declared.chains.Chain.{Chain}
use Rattle.chain_store.specs.declared.store.ChainStore.TheInside.{Inside}
use Rattle.chain_store.specs.Chains.{AreDifferentJobs, AreMarked, AreThere, all_jobs, chain, chain_of, jobs_of, last_of, ordered}
use Rattle.chain_store.specs.Links.{AreWhole, link_at, owned_by, unlinked_all}
use Rattle.chain_store.specs.Spots.{AreNoted}
use Rattle.chain_store.specs.Values.{Linked}

-- the fields of a store, as values
pub record Tables : Type 0 where
  pub layout : Layout
  pub records : List (List ℕ)
  pub owners : List ℕ
  pub first_free : ℕ
  pub free_count : ℕ
  pub reached : ℕ
  pub chains : List Chain
  pub waiting : ℕ

abbrev pub tables_of : Inside → Tables
tables_of a = record {
  layout = a.layout;
  records = a.records.items;
  owners = a.owners.items;
  first_free = a.first_free;
  free_count = a.free_count;
  reached = a.reached;
  chains = a.chains.items;
  waiting = a.waiting;
}

abbrev pub link_in : Tables → ℕ → ℕ
link_in t = link_at t.layout t.records

-- the records that have an owner; those for which there is no memory have none
abbrev pub known_records : Tables → List (Option (List ℕ))
known_records t = seen_records t.owners (unlinked_all t.layout t.records)

abbrev pub records_in : Tables → List (Option (List ℕ))
records_in t = known_records t ++ replicate (t.layout.most_records - length t.owners) None

-- those that were given back, the last first, and then those that were never taken
abbrev pub given_in : Tables → List ℕ
given_in t = chain (link_in t) t.first_free t.free_count

abbrev pub free_in : Tables → List ℕ
free_in t = given_in t ++ numbers_from (t.reached + 1) (t.layout.most_records - t.reached)

abbrev pub jobs_in : Tables → List Queued
jobs_in t = all_jobs (owned_by t.owners) (link_in t) 0 t.chains

abbrev pub chain_in : Tables → ℕ → Chain
chain_in t place = chain_of t.chains place

-- the records of the chain at a place
abbrev pub chained_in : Tables → ℕ → List ℕ
chained_in t place = chain (link_in t) (chain_in t place).first (chain_in t place).count

abbrev pub queue_in : Tables → RecordQueue
queue_in t = record { layout = t.layout; records = records_in t; free = free_in t; waiting = ordered (jobs_in t) }

abbrev pub linked : Tables → Linked
linked t = record { queue = queue_in t; lacking = t.layout.most_records - length t.owners }

pub record AreChained (t : Tables) : Type 0 where
  pub sound : IsSoundQueue (queue_in t)
  -- each number of a record fits a link, and so does what stands for the first that is free
  pub links : t.layout.most_records < 256 ^ t.layout.link.width
  pub first_free : t.first_free < 256 ^ t.layout.link.width
  -- each record has its owner, 0 of a free one; owners are known of no more records than there are
  pub whole : AreWhole t.records
  pub room : length t.owners ≤ length t.records
  pub most : length t.owners ≤ t.layout.most_records
  pub reached : t.reached ≤ length t.owners
  pub owned : map owner_in (known_records t) ≡ t.owners
  pub numbers : All (λ owner. owner < 2 ^ 16) t.owners
  pub given : AreThere (length t.owners) (given_in t)
  pub free_count : t.free_count + (length t.owners - t.reached) ≡ count_by (λ owner. owner == 0) t.owners
  -- a chain for each class and priority, in the order of reading
  pub chains : length t.chains ≡ 210
  pub different : AreDifferentJobs (jobs_in t)
  pub in_order : (place : ℕ) → AreInOrder (jobs_of (owned_by t.owners) (link_in t) place (chain_in t place))
  pub last : (place : ℕ) → (chain_in t place).count ≢ 0 → last_of (chain (link_in t) (chain_in t place).first (chain_in t place).count) ≡ (chain_in t place).last
  pub waiting : t.waiting ≡ length (jobs_in t)

abbrev pub view_of : Inside → Linked
view_of a = linked (tables_of a)

pub record IsChained (a : Inside) : Type 0 where
  pub tables : AreChained (tables_of a)
  pub spanned : AreSpanned a.spans a.owners.items
  pub marked : AreMarked a.occupied a.chains.items
  pub noted : AreNoted a.spots.items (chained_in (tables_of a))
  pub spots : length a.owners.items ≤ length a.spots.items
