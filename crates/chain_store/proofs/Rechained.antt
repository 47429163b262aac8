-- One chain is another.
use Rattle.std.proofs.Common.{◌≡◌, ◌≢◌, ℕ, suc, ◌+◌, ◌-◌, ◌<◌, List, [], ◌∷◌, ◌++◌, None, All, get_or, drop, length, map, replicate, take, arith, ◌∙◌, ap, sym, refl, subst, inl, inr, length-set, get_or-set_other, get_or-set_same}
use Rattle.std.specs.Prelude.{filter, slice_set}
use Rattle.std.proofs.lemmas.Bool.{cases_eq, cases_lt}
use Rattle.std.proofs.lemmas.List.{append_assoc, get_or_past, length-append}
use Rattle.std.proofs.lemmas.List.Elements.{All-append, All-filter, All-nil, All-push, All-same, All-weaker}
use Rattle.queue_core.specs.declared.queue.Queued.{Queued}
use Rattle.plain.specs.Lists.{numbers_from}
use Rattle.cb_queue.specs.RecordQueues.{AreInOrder, IsQueued, IsSoundQueue, owner_in}
use Rattle.cb_queue.specs.Stored.{seen_records}
use Rattle.cb_queue.proofs.Changing.{order_entered, order_left, sound_waiting}
use Rattle.chain_store.specs.declared.chains.Chain.{Chain}
use Rattle.chain_store.specs.Chains.{AreDifferentJobs, AreThere, HasNoJob, all_jobs, chain, is_other, jobs_of, last_of, no_chain, ordered}
use Rattle.chain_store.specs.Chained.{AreChained, Tables, chain_in, given_in, jobs_in, link_in, queue_in}
use Rattle.chain_store.specs.Links.{AreWhole, link_at, owned_by, unlinked_all}
use Rattle.chain_store.proofs.AllJobs.{before_chain, behind_chain, chain_of_all, jobs_same, jobs_set, jobs_split, of_all_chains, of_same}
use Rattle.chain_store.proofs.Jobs.{all_left, all_no_job, all_right, all_unordered, one_more_differs, ordered_entered, ordered_left, others_differ}
use Rattle.chain_store.proofs.Walks.{chain_kept}

module _ (t : Tables) (h : AreChained t) (place : ℕ) (here : place < length t.chains) where
  abbrev owner : ℕ → ℕ
  owner = owned_by t.owners

  abbrev pub before : List Queued
  before = before_chain owner (link_in t) t.chains place

  abbrev pub behind : List Queued
  behind = behind_chain owner (link_in t) t.chains place

  abbrev own_jobs : List Queued
  own_jobs = jobs_of owner (link_in t) place (chain_in t place)

  pub split : jobs_in t ≡ before ++ (own_jobs ++ behind)
  split = jobs_split owner (link_in t) t.chains place here

  module _ (c : Chain) (new : List (List ℕ)) (waiting : ℕ) (P : ℕ → Type 0) (size : length new ≡ length t.records) (whole : AreWhole new)
      (same : unlinked_all t.layout new ≡ unlinked_all t.layout t.records) (links : (m : ℕ) → P m → link_at t.layout new m ≡ link_in t m)
      (apart : All (λ x. P x.jct) (before ++ behind)) (free_apart : All P (given_in t)) where
    abbrev pub rechained : Tables
    rechained = record t { records = new; chains = slice_set t.chains place c; waiting = waiting }

    abbrev link : ℕ → ℕ
    link = link_at t.layout new

    abbrev all : List Queued
    all = before ++ (jobs_of owner link place c ++ behind)

    jobs_rechained : jobs_in rechained ≡ all
    jobs_rechained =
        jobs_set owner link t.chains c place here
        ∙ ap (λ xs. xs ++ (jobs_of owner link place c ++ behind_chain owner link t.chains place))
        (jobs_same owner (link_in t) owner link P (λ m at. refl) links 0 (take place t.chains) (all_left (λ x. P x.jct) before behind apart))
        ∙ ap (λ xs. before ++ (jobs_of owner link place c ++ xs))
        (jobs_same owner (link_in t) owner link P (λ m at. refl) links (place + 1) (drop (suc place) t.chains) (all_right (λ x. P x.jct) before behind apart))

    given_rechained : given_in rechained ≡ given_in t
    given_rechained = chain_kept (link_in t) link P links t.first_free t.free_count free_apart

    pub queue_rechained : queue_in rechained ≡ record (queue_in t) { waiting = ordered all }
    queue_rechained = λ j. record {
      layout = t.layout;
      records = seen_records t.owners (same j) ++ replicate (t.layout.most_records - length t.owners) None;
      free = given_rechained j ++ numbers_from (t.reached + 1) (t.layout.most_records - t.reached);
      waiting = ordered (jobs_rechained j);
    }

    -- the other chains
    apart_at : (p : ℕ) → p ≢ place → All (λ x. P x.jct) (jobs_of owner (link_in t) p (chain_in t p))
    apart_at p other =
        elim (cases_lt p (length t.chains)) [
          | inl at ↦
              subst (λ x. All (λ y. P y.jct) (jobs_of owner (link_in t) p x)) (get_or-set_other t.chains place p no_chain no_chain other)
              (of_all_chains owner (link_in t) (λ x. P x.jct) 0 (slice_set t.chains place no_chain)
              (All-same (λ x. P x.jct) (all_jobs owner (link_in t) 0 (slice_set t.chains place no_chain)) (before ++ behind)
              (jobs_set owner (link_in t) t.chains no_chain place here) apart) p p (let s = length-set t.chains place no_chain in omega (arith, at, s)) (omega arith))
          | inr past ↦
              subst (λ x. All (λ y. P y.jct) (jobs_of owner (link_in t) p x)) (sym (get_or_past t.chains p no_chain past)) (All-nil (λ y. P y.jct))
        ]

    at_place : get_or (slice_set t.chains place c) place no_chain ≡ c
    at_place = get_or-set_same t.chains place c no_chain here

    module _ (order : AreInOrder (jobs_of owner link place c)) (last : c.count ≢ 0 → last_of (chain link c.first c.count) ≡ c.last) (counted : waiting ≡ length all)
        (different : AreDifferentJobs all) (in_order : AreInOrder (ordered all)) (queued : All (IsQueued (queue_in t)) (ordered all)) where
      order_at : (p : ℕ) → AreInOrder (jobs_of owner link p (chain_in rechained p))
      order_at p =
          elim (cases_eq p place) [
            | inl is ↦
                subst (λ q. AreInOrder (jobs_of owner link q (get_or (slice_set t.chains place c) q no_chain))) (sym is)
                (subst (λ x. AreInOrder (jobs_of owner link place x)) (sym at_place) order)
            | inr other ↦
                subst (λ x. AreInOrder (jobs_of owner link p x)) (sym (get_or-set_other t.chains place p c no_chain other))
                (subst AreInOrder (sym (of_same owner (link_in t) owner link P (λ m at. refl) links p (chain_in t p).first (chain_in t p).count (apart_at p other))) (h.in_order p))
          ]

      abbrev LastIs : Chain → Type 0
      LastIs x = x.count ≢ 0 → last_of (chain link x.first x.count) ≡ x.last

      last_at : (p : ℕ) → LastIs (chain_in rechained p)
      last_at p =
          elim (cases_eq p place) [
            | inl is ↦ subst (λ q. LastIs (get_or (slice_set t.chains place c) q no_chain)) (sym is) (subst LastIs (sym at_place) last)
            | inr other ↦
                subst LastIs (sym (get_or-set_other t.chains place p c no_chain other))
                (λ some.
                ap last_of
                (chain_kept (link_in t) link P links (chain_in t p).first (chain_in t p).count
                (chain_of_all owner (link_in t) (λ x. P x.jct) p (chain_in t p).first (chain_in t p).count (apart_at p other)))
                ∙ h.last p some)
          ]

      pub chained_rechained : AreChained rechained
      chained_rechained = record {
        sound = subst IsSoundQueue (sym queue_rechained) (sound_waiting (queue_in t) (ordered all) h.sound in_order queued);
        links = h.links;
        first_free = h.first_free;
        whole = whole;
        room = (let r = h.room in omega (arith, r, size));
        most = h.most;
        reached = h.reached;
        owned = ap (λ rs. map owner_in (seen_records t.owners rs)) same ∙ h.owned;
        numbers = h.numbers;
        given = subst (λ ns. AreThere (length t.owners) ns) (sym given_rechained) h.given;
        free_count = h.free_count;
        chains = length-set t.chains place c ∙ h.chains;
        different = subst AreDifferentJobs (sym jobs_rechained) different;
        in_order = order_at;
        last = last_at;
        waiting = counted ∙ ap length (sym jobs_rechained);
      }

    -- a job that was read behind all others waits in this chain too
    module _ (x : Queued) (pushed : jobs_of owner link place c ≡ own_jobs ++ x ∷ []) (last : c.count ≢ 0 → last_of (chain link c.first c.count) ≡ c.last)
        (counted : waiting ≡ t.waiting + 1) (later : All (λ y. y.job < x.job) (queue_in t).waiting) (own : IsQueued (queue_in t) x) where
      all_is : all ≡ (before ++ own_jobs) ++ x ∷ behind
      all_is =
          ap (λ xs. before ++ (xs ++ behind)) pushed ∙ ap (λ xs. before ++ xs) (append_assoc own_jobs (x ∷ []) behind)
          ∙ sym (append_assoc before own_jobs (x ∷ behind))

      was : jobs_in t ≡ (before ++ own_jobs) ++ behind
      was = split ∙ sym (append_assoc before own_jobs behind)

      pub entered_is : ordered all ≡ (queue_in t).waiting ++ x ∷ []
      entered_is =
          ap ordered all_is
          ∙ ordered_entered x (before ++ own_jobs) behind (All-same (λ y. y.job < x.job) (ordered ((before ++ own_jobs) ++ behind)) (ordered (jobs_in t)) (ap ordered (sym was)) later)
          ∙ ap (λ xs. ordered xs ++ x ∷ []) (sym was)

      each_later : All (λ y. y.job < x.job) (jobs_in t)
      each_later = all_unordered (λ y. y.job < x.job) (jobs_in t) later

      own_later : All (λ y. y.job < x.job) own_jobs
      own_later = all_left (λ y. y.job < x.job) own_jobs behind (all_right (λ y. y.job < x.job) before (own_jobs ++ behind) (All-same (λ y. y.job < x.job) (before ++ (own_jobs ++ behind)) (jobs_in t) (sym split) each_later))

      not_yet : HasNoJob x.job ((before ++ own_jobs) ++ behind)
      not_yet =
          all_no_job x.job ((before ++ own_jobs) ++ behind)
          (All-same (λ y. y.job ≢ x.job) ((before ++ own_jobs) ++ behind) (jobs_in t) (sym was)
          (All-weaker (λ y. y.job < x.job) (λ y. y.job ≢ x.job) (λ y less is. absurd (omega (arith, less, is))) (jobs_in t) each_later))

      size_is : length all ≡ length (jobs_in t) + 1
      size_is =
          let a = ap length all_is ∙ length-append (before ++ own_jobs) (x ∷ behind) in
          let b = ap length was ∙ length-append (before ++ own_jobs) behind in
          omega (arith, a, b)

      pub chained_entered : AreChained rechained
      chained_entered =
          chained_rechained (subst AreInOrder (sym pushed) (order_entered own_jobs x (h.in_order place) own_later)) last (let w = h.waiting in let s = size_is in omega (arith, counted, w, s))
          (subst AreDifferentJobs (sym all_is) (one_more_differs x (before ++ own_jobs) behind not_yet (subst AreDifferentJobs was h.different)))
          (subst AreInOrder (sym entered_is) (order_entered (queue_in t).waiting x h.sound.in_order later))
          (subst (All (IsQueued (queue_in t))) (sym entered_is) (All-push (IsQueued (queue_in t)) (queue_in t).waiting x h.sound.queued own))

    -- a job of this chain waits no longer
    module _ (x : Queued) (front back : List Queued) (had : own_jobs ≡ front ++ x ∷ back) (left : jobs_of owner link place c ≡ front ++ back)
        (last : c.count ≢ 0 → last_of (chain link c.first c.count) ≡ c.last) (counted : waiting + 1 ≡ t.waiting) where
      now_is : all ≡ (before ++ front) ++ (back ++ behind)
      now_is =
          ap (λ xs. before ++ (xs ++ behind)) left ∙ ap (λ xs. before ++ xs) (append_assoc front back behind) ∙ sym (append_assoc before front (back ++ behind))

      was_is : jobs_in t ≡ (before ++ front) ++ x ∷ (back ++ behind)
      was_is =
          split ∙ ap (λ xs. before ++ (xs ++ behind)) had ∙ ap (λ xs. before ++ xs) (append_assoc front (x ∷ back) behind)
          ∙ sym (append_assoc before front (x ∷ (back ++ behind)))

      differ : AreDifferentJobs ((before ++ front) ++ x ∷ (back ++ behind))
      differ = subst AreDifferentJobs was_is h.different

      pub left_is : ordered all ≡ filter (is_other x.job) (queue_in t).waiting
      left_is = ap ordered now_is ∙ ordered_left x (before ++ front) (back ++ behind) differ ∙ ap (λ xs. filter (is_other x.job) (ordered xs)) (sym was_is)

      order_without : (xs : List Queued) → AreInOrder (xs ++ x ∷ back) → AreInOrder (xs ++ back)
      order_without [] order = order.1
      order_without (y ∷ xs) order = (
        All-append (λ z. y.job < z.job) xs back (all_left (λ z. y.job < z.job) xs (x ∷ back) order.0)
            (all_right (λ z. y.job < z.job) (x ∷ []) back (all_right (λ z. y.job < z.job) xs (x ∷ back) order.0)),
        order_without xs order.1,
      )

      size_left : length all + 1 ≡ length (jobs_in t)
      size_left =
          let a = ap length now_is ∙ length-append (before ++ front) (back ++ behind) in
          let b = ap length was_is ∙ length-append (before ++ front) (x ∷ (back ++ behind)) in
          omega (arith, a, b)

      pub chained_left : AreChained rechained
      chained_left =
          chained_rechained (subst AreInOrder (sym left) (order_without front (subst AreInOrder had (h.in_order place)))) last (let w = h.waiting in let s = size_left in omega (arith, counted, w, s))
          (subst AreDifferentJobs (sym now_is) (others_differ x (before ++ front) (back ++ behind) differ).1)
          (subst AreInOrder (sym left_is) (order_left (is_other x.job) (queue_in t).waiting h.sound.in_order))
          (subst (All (IsQueued (queue_in t))) (sym left_is) (All-filter (is_other x.job) (IsQueued (queue_in t)) (queue_in t).waiting h.sound.queued))
