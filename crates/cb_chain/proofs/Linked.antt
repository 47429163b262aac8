-- A record that was taken is written once those below it are, and the next one was taken.
use Rattle.std.proofs.Common.{◌≡◌, ◌≢◌, ℕ, ◌≤◌, Bool, true, false, List, [], ◌∷◌, ◌++◌, Some, arith, ap, ◌∙◌, sym, refl, subst, append_assoc}
use Rattle.std.specs.Prelude.{is_some}
use Rattle.cb_meaning.specs.Spelled.{Records}
use Rattle.cb_meaning.specs.declared.layout.Layout.{Layout}
use Rattle.cb_queue.specs.RecordQueues.{unlinked, RecordQueue, bytes_or_zeros, owner_at, owner_in, record_at, with_record_at, zero_record}
use Rattle.cb_queue.proofs.Parts.{owner_zero}
use Rattle.cb_chain.specs.Composed.{IsOf}
use Rattle.cb_chain.specs.Taking.{Filled, IsHeld, IsReady, IsTaken, Keeps, TakesIf, Took, Writes, held, is_among}
use Rattle.cb_chain.proofs.Among.{among_head, among_left, among_right, among_tail, disjoint, not_cons, not_head, not_left, not_right, not_same, not_tail}
use Rattle.cb_chain.proofs.Stored.{at_other, at_there, put_free, put_layout, put_size, put_waiting}
use Rattle.plain.specs.Lists.{are_different}

pub nothing_taken : (q : RecordQueue) → Took [] q q
nothing_taken q = record { layout = refl; waiting = refl; size = refl; free = refl; others = λ n out. refl }

pub took_both : (xs ys : List ℕ) (a b c : RecordQueue) → Took xs a b → Took ys b c → Took (xs ++ ys) a c
took_both xs ys a b c first then = record {
  layout = then.layout ∙ first.layout;
  waiting = then.waiting ∙ first.waiting;
  size = then.size ∙ first.size;
  free = first.free ∙ ap (λ zs. xs ++ zs) then.free ∙ sym (append_assoc xs ys c.free);
  others = λ n out. then.others n (not_right n xs ys out) ∙ first.others n (not_left n xs ys out);
}

-- a record that was put without its link
pub put_whole : (l : Layout) (job kind n : ℕ) (q new : RecordQueue) (r : List ℕ) → l ≡ q.layout → IsOf l job kind r →
    new ≡ with_record_at q n (Some (unlinked q.layout r)) → new ≡ with_record_at q n (Some r)
put_whole l job kind n q new r is head put =
    put ∙ ap (λ b. with_record_at q n (Some b)) (sym (ap (λ m. unlinked m r) is) ∙ head.link)

module _ (job here : ℕ) (q qa qb : RecordQueue) (below : List ℕ) (more : Bool) (next : ℕ) (r : List ℕ) (ready : IsReady q) (taken : IsTaken job q here)
    (under : Took below q qa) (after : TakesIf job more qa qb next) where
  both : Took (below ++ held more next) q qb
  both = took_both below (held more next) q qa qb under after.took

  not_here : is_among here (below ++ held more next) ≡ false
  not_here = not_left here (below ++ held more next) qb.free (sym (ap (is_among here) both.free) ∙ taken.in_use)

  still_taken : record_at qb here ≡ Some (zero_record job)
  still_taken = both.others here not_here ∙ taken.zeros

  pub used : is_some (record_at qb here) ≡ true
  used = ap is_some still_taken

  pub its_owner : owner_at qb here ≡ job
  its_owner = ap owner_in still_taken ∙ owner_zero q.layout ready.holds.own_link job

  pub same_layout : qb.layout ≡ q.layout
  same_layout = both.layout

  pub filled : Filled here (below ++ held more next) q (with_record_at qb here (Some r))
  filled = record {
    layout = put_layout qb here (Some r) ∙ both.layout;
    waiting = put_waiting qb here (Some r) ∙ both.waiting;
    size = put_size qb here (Some r) ∙ both.size;
    free = both.free ∙ ap (λ f. below ++ held more next ++ f) (sym (put_free qb here (Some r)));
    others = λ n other out. at_other qb here n (Some r) other ∙ both.others n out;
  }

  there : record_at (with_record_at qb here (Some r)) here ≡ Some r
  there =
      at_there qb here (Some r) taken.from_one
      (let a = both.size in let b = ready.size in let high = taken.within in omega (arith, a, b, high))

  held_after : (m : Bool) → is_among here (below ++ held m next) ≡ false → IsHeld job qb m next → IsHeld job (with_record_at qb here (Some r)) m next
  held_after false out h = h
  held_after true out h =
      let other : next ≢ here = not_same next here (below ++ next ∷ []) (among_right next below (next ∷ []) (among_head next [])) out in
      record {
        zeros = at_other qb here next (Some r) other ∙ h.zeros;
        in_use = ap (is_among next) (put_free qb here (Some r)) ∙ h.in_use;
        from_one = h.from_one;
        within = subst (λ l. next ≤ l) (sym (ap (λ l. l.most_records) (put_layout qb here (Some r)))) h.within;
      }

  pub is_held : IsHeld job (with_record_at qb here (Some r)) more next
  is_held = held_after more not_here after.is_held

  module _ (later : Records) (kept : Keeps (with_record_at qb here (Some r)) (here ∷ below) later) where
    pub here_is : later.at here ≡ r
    here_is = (kept here (among_head here below)).same ∙ ap bytes_or_zeros there

    pub here_used : is_among here later.free ≡ false
    here_used = (kept here (among_head here below)).in_use

    pub below_kept : Keeps qa below later
    below_kept = λ n in_it.
        let k = kept n (among_tail n here below in_it) in
        let other : n ≢ here = not_same n here (below ++ held more next) (among_left n below (held more next) in_it) not_here in
        let different : are_different (below ++ (held more next ++ qb.free)) ≡ true =
        sym (ap are_different (both.free ∙ append_assoc below (held more next) qb.free)) ∙ ready.once in
        let out : is_among n (held more next) ≡ false =
        not_left n (held more next) qb.free (disjoint n below (held more next ++ qb.free) different in_it) in
        record { same = k.same ∙ ap bytes_or_zeros (at_other qb here n (Some r) other ∙ after.took.others n out); in_use = k.in_use }

-- what is known once the record is put
pub record Stepped (job here : ℕ) (q qa new : RecordQueue) (below : List ℕ) (more : Bool) (next : ℕ) (r : List ℕ) : Type 0 where
  pub filled : Filled here (below ++ held more next) q new
  pub is_held : IsHeld job new more next
  pub here_is : (later : Records) → Keeps new (here ∷ below) later → later.at here ≡ r
  pub here_used : (later : Records) → Keeps new (here ∷ below) later → is_among here later.free ≡ false
  pub below_kept : (later : Records) → Keeps new (here ∷ below) later → Keeps qa below later

pub stepped : (l : Layout) (job kind here : ℕ) (q qa qb new : RecordQueue) (below : List ℕ) (more : Bool) (next : ℕ) (r : List ℕ) → IsReady q → IsTaken job
    q here →
    Took below q qa → TakesIf job more qa qb next → l ≡ q.layout → IsOf l job kind r → new ≡ with_record_at qb here (Some (unlinked qb.layout r)) →
    Stepped job here q qa new below more next r
stepped l job kind here q qa qb new below more next r ready taken under after is head put =
    let whole = put_whole l job kind here qb new r (is ∙ sym (same_layout job here q qa qb below more next r ready taken under after)) head put in
    let there : Stepped job here q qa (with_record_at qb here (Some r)) below more next r =
    record {
      filled = filled job here q qa qb below more next r ready taken under after;
      is_held = is_held job here q qa qb below more next r ready taken under after;
      here_is = here_is job here q qa qb below more next r ready taken under after;
      here_used = here_used job here q qa qb below more next r ready taken under after;
      below_kept = below_kept job here q qa qb below more next r ready taken under after;
    } in
    subst (λ k. Stepped job here q qa k below more next r) (sym whole) there

-- a record that was taken is written, and more were taken behind it
pub filled_took : (here : ℕ) (numbers : List ℕ) (old q new : RecordQueue) → Took (here ∷ []) old q → Filled here numbers q new → Took (here ∷ numbers) old new
filled_took here numbers old q new took filled = record {
  layout = filled.layout ∙ took.layout;
  waiting = filled.waiting ∙ took.waiting;
  size = filled.size ∙ took.size;
  free = took.free ∙ ap (λ f. here ∷ f) filled.free;
  others = λ n out.
      let other = not_head n here numbers out in
      filled.others n other (not_tail n here numbers out) ∙ took.others n (not_cons n here [] other refl);
}

pub none_after : (job : ℕ) (q : RecordQueue) → TakesIf job false q q 0
none_after job q = record { took = nothing_taken q; is_held = refl; most = omega arith }

pub writes_nothing : (chain : Records → ℕ → List ℕ → Type 0) (q : RecordQueue) → ((later : Records) → chain later 0 []) → Writes 0 chain q q 0
writes_nothing chain q empty = record { numbers = []; count_is = refl; took = nothing_taken q; most = omega arith; spells = λ later kept. empty later }
