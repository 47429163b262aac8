-- A store in which all records are free.
use Rattle.std.proofs.Common.{◌≡◌, ℕ, zero, suc, ◌+◌, ◌-◌, ◌^◌, ◌<◌, ◌≤◌, List, [], length, get_or, replicate, None, arith, ◌∙◌, ap, sym, refl, subst}
use Rattle.std.proofs.lemmas.List.{length-replicate}
use Rattle.std.proofs.lemmas.List.Elements.{All-nil}
use Rattle.cb_meaning.specs.declared.layout.Layout.{Layout}
use Rattle.plain.specs.Lists.{numbers_from}
use Rattle.cb_queue.specs.RecordQueues.{AreInOrder, HasOwnLink, IsSoundQueue, empty_queue, first_numbers, no_records}
use Rattle.cb_queue.proofs.Changing.{sound_empty}
use Rattle.chain_store.specs.declared.chains.Chain.{Chain}
use Rattle.chain_store.specs.Chains.{AreDifferentJobs, all_jobs, jobs_of, no_chain, ordered}
use Rattle.chain_store.specs.Chained.{AreChained, Tables, jobs_in, linked, queue_in}
use Rattle.chain_store.specs.Links.{link_at, owned_by}

nobody : (owner link : ℕ → ℕ) (place count : ℕ) → all_jobs owner link place (replicate count no_chain) ≡ []
nobody owner link place zero = refl
nobody owner link place (suc count) = nobody owner link (place + 1) count

pub no_chain_at : (count place : ℕ) → get_or (replicate count no_chain) place no_chain ≡ no_chain
no_chain_at zero place = refl
no_chain_at (suc count) zero = refl
no_chain_at (suc count) (suc place) = no_chain_at count place

module _ (l : Layout) (own : HasOwnLink l) (links : l.most_records < 256 ^ l.link.width) where
  abbrev start : List (List ℕ) → List ℕ → List Chain → Tables
  start records owners chains = record { layout = l; records = records; owners = owners; first_free = 0; free_count = 0; reached = 0; chains = chains; waiting = 0 }

  abbrev empty : Tables
  empty = start [] [] (replicate 210 no_chain)

  all_of : l.most_records - 0 ≡ l.most_records
  all_of = omega arith

  nobody_waits : jobs_in empty ≡ []
  nobody_waits = nobody (owned_by []) (link_at l []) 0 210

  queue_empty : queue_in empty ≡ empty_queue l
  unfolding first_numbers no_records
  queue_empty = λ j. record { layout = l; records = replicate (all_of j) None; free = numbers_from 1 (all_of j); waiting = ordered (nobody_waits j) }

  chained_empty : AreChained empty
  chained_empty = record {
    sound = subst IsSoundQueue (sym queue_empty) (sound_empty l own);
    links = links;
    first_free = omega (arith, links);
    whole = All-nil (λ r. length r ≡ 176);
    room = omega arith;
    most = omega arith;
    reached = omega arith;
    owned = refl;
    numbers = All-nil (λ o. o < 2 ^ 16);
    given = All-nil (λ n. (1 ≤ n) × (n ≤ 0));
    free_count = refl;
    chains = length-replicate 210 no_chain;
    different = subst AreDifferentJobs (sym nobody_waits) tt;
    in_order = λ place. subst (λ c. AreInOrder (jobs_of (owned_by []) (link_at l []) place c)) (sym (no_chain_at 210 place)) tt;
    last = λ place some. absurd (some (ap (λ (c : Chain). c.count) (no_chain_at 210 place)));
    waiting = ap length (sym nobody_waits);
  }

  module _ (records : List (List ℕ)) (owners : List ℕ) (chains : List Chain) (no_record : records ≡ []) (no_owner : owners ≡ []) (none : chains ≡ replicate 210 no_chain) where
    pub chained_new : AreChained (start records owners chains)
    chained_new =
        subst (λ rs. AreChained (start rs owners chains)) (sym no_record)
        (subst (λ os. AreChained (start [] os chains)) (sym no_owner) (subst (λ cs. AreChained (start [] [] cs)) (sym none) chained_empty))

    pub linked_new : linked (start records owners chains) ≡ record { queue = empty_queue l; lacking = l.most_records }
    linked_new =
        (λ j. linked (start (no_record j) (no_owner j) (none j)))
        ∙ (λ j. record { queue = queue_empty j; lacking = all_of j })
