-- A chain of which the first records are written, and the next one is taken.
use Rattle.std.proofs.Common.{◌≡◌, ◌≢◌, ℕ, suc, ◌+◌, ◌≤◌, Bool, true, false, List, [], ◌∷◌, ◌++◌, length, arith, ap, ◌∙◌, sym, refl, subst, append_assoc}
use Rattle.std.proofs.Common.{length-append}
use Rattle.std.proofs.lemmas.List.{append-nil}
use Rattle.cb_meaning.specs.Spelled.{Records}
use Rattle.cb_queue.specs.RecordQueues.{RecordQueue, bytes_or_zeros}
use Rattle.cb_chain.specs.Taking.{IsHeld, IsReady, Keeps, Links, TakesIf, Took, Writes, held, is_among, is_more}
use Rattle.cb_chain.proofs.Among.{among_left, among_right, disjoint, not_head, not_left, not_right, not_tail, not_both, not_cons, true_not_false}
use Rattle.cb_chain.proofs.Stored.{ready_after}
use Rattle.plain.specs.Lists.{are_different}

pub record SoFar {X : Type 0} (job : ℕ) (needs : List X → ℕ) (chain : Records → ℕ → List ℕ → List X → Type 0) (all rest : List X) (old q : RecordQueue)
    (first here : ℕ) : Type 0 where
  pub done : List ℕ
  pub count : length done + needs rest ≡ needs all
  pub took : Took (done ++ held (is_more rest) here) old q
  pub is_held : IsHeld job q (is_more rest) here
  pub carries : (later : Records) (behind : List ℕ) → Keeps q done later → chain later here behind rest → chain later first (done ++ behind) all

pub some_more : {X : Type 0} (xs : List X) → is_more xs ≡ true → 1 ≤ length xs
some_more [] h = absurd (true_not_false (sym h))
some_more (x ∷ xs) h = omega arith

pub no_more : {X : Type 0} (xs : List X) → is_more xs ≡ false → xs ≡ []
no_more [] h = refl
no_more (x ∷ xs) h = absurd (true_not_false h)

module _ {X : Type 0} (job : ℕ) (needs : List X → ℕ) (chain : Records → ℕ → List ℕ → List X → Type 0) (all : List X) (old : RecordQueue) (first : ℕ) where
  pub begins : (q : RecordQueue) (more : Bool) → more ≡ is_more all → TakesIf job more old q first → SoFar job needs chain all all old q first first
  begins q more e taken_if = let taken = subst (λ m. TakesIf job m old q first) e taken_if in record {
    done = [];
    count = omega arith;
    took = taken.took;
    is_held = taken.is_held;
    carries = λ later behind kept h. h;
  }

  pub ends : (q : RecordQueue) (here : ℕ) (rest : List X) → is_more rest ≡ false → needs [] ≡ 0 → first ≤ old.layout.most_records →
      ((later : Records) → chain later 0 [] []) →
      SoFar job needs chain all rest old q first here → Writes (needs all) (λ later n numbers. chain later n numbers all) old q first
  ends q here rest over none most empty so_far = let so = subst (λ xs. SoFar job needs chain all xs old q first here) (no_more rest over) so_far in record {
    numbers = so.done;
    count_is = (let count = so.count in omega (arith, count, none));
    took = subst (λ numbers. Took numbers old q) (append-nil so.done) so.took;
    most = most;
    spells = λ later kept.
        let last : chain later here [] [] = subst (λ n. chain later n [] []) (sym so.is_held) (empty later) in
        subst (λ numbers. chain later first numbers all) (append-nil so.done) (so.carries later [] kept last);
  }

  module _ (rest behind here_are : List X) (q new : RecordQueue) (here next count : ℕ) (more : Bool) (e : more ≡ is_more behind) (ready : IsReady old)
      (some : is_more rest ≡ true) (is : rest ≡ here_are ++ behind)
      (needed : needs rest ≡ suc (count + needs behind)) (so : SoFar job needs chain all rest old q first here)
      (links : Links job count chain here_are more here q new next) where
    linked : Links job count chain here_are (is_more behind) here q new next
    linked = subst (λ m. Links job count chain here_are m here q new next) e links

    before : Took (so.done ++ here ∷ []) old q
    before = subst (λ m. Took (so.done ++ held m here) old q) some so.took

    split : old.free ≡ so.done ++ (here ∷ q.free)
    split = before.free ∙ append_assoc so.done (here ∷ []) q.free

    aside : (n : ℕ) → is_among n so.done ≡ true → (n ≢ here) × (is_among n q.free ≡ false)
    aside n in_it =
        let out = disjoint n so.done (here ∷ q.free) (sym (ap are_different split) ∙ ready.once) in_it in (
          not_head n here q.free out,
          not_tail n here
              q.free out,
        )

    kept_done : (later : Records) → Keeps new (so.done ++ here ∷ linked.below) later → Keeps q so.done later
    kept_done later kept = λ n in_it.
        let k = kept n (among_left n so.done (here ∷ linked.below) in_it) in
        let other = aside n in_it in
        let out = not_left n (linked.below ++ held (is_more behind) next) new.free (sym (ap (is_among n) linked.filled.free) ∙ other.1) in
        record { same = k.same ∙ ap bytes_or_zeros (linked.filled.others n other.0 out); in_use = k.in_use }

    pub goes_on : SoFar job needs chain all behind old new first next
    goes_on = record {
      done = so.done ++ here ∷ linked.below;
      count =
          (let a = so.count in let b = linked.count_is in let c = length-append so.done (here ∷ linked.below) in omega (arith, a, b, c, needed));
      took = record {
        layout = linked.filled.layout ∙ before.layout;
        waiting = linked.filled.waiting ∙ before.waiting;
        size = linked.filled.size ∙ before.size;
        free =
            split ∙ ap (λ f. so.done ++ (here ∷ f)) linked.filled.free ∙ ap (λ f. so.done ++ (here ∷ f))
            (append_assoc linked.below (held (is_more behind) next) new.free)
            ∙ sym (append_assoc so.done (here ∷ linked.below) (held (is_more behind) next ++ new.free))
            ∙ sym (append_assoc (so.done ++ here ∷ linked.below) (held (is_more behind) next) new.free);
        others = λ n out.
            let first_part = not_left n (so.done ++ here ∷ linked.below) (held (is_more behind) next) out in
            let second_part = not_right n (so.done ++ here ∷ linked.below) (held (is_more behind) next) out in
            let not_done = not_left n so.done (here ∷ linked.below) first_part in
            let tail = not_right n so.done (here ∷ linked.below) first_part in
            let other = not_head n here linked.below tail in
            linked.filled.others n other (not_both n linked.below (held (is_more behind) next) (not_tail n here linked.below tail) second_part)
            ∙ before.others n (not_both n so.done (here ∷ []) not_done (not_cons n here [] other refl));
      };
      is_held = linked.is_held;
      carries = λ later numbers kept chained.
          let kept_here : Keeps new (here ∷ linked.below) later = λ n in_it. kept n (among_right n so.done (here ∷ linked.below) in_it) in
          let link : chain later here (here ∷ (linked.below ++ numbers)) rest =
          subst (λ items. chain later here (here ∷ (linked.below ++ numbers)) items) (sym is) (linked.link later numbers behind kept_here chained) in
          subst (λ ns. chain later first ns all) (sym (append_assoc so.done (here ∷ linked.below) numbers))
          (so.carries later (here ∷ (linked.below ++ numbers)) (kept_done later kept) link);
    }

module _ {X : Type 0} (job : ℕ) (needs : List X → ℕ) (chain : Records → ℕ → List ℕ → List X → Type 0) (all rest : List X) (old q : RecordQueue) (first here : ℕ)
    (so : SoFar job needs chain all rest old q first here) where
  pub ready_now : IsReady old → IsReady q
  ready_now ready = ready_after (so.done ++ held (is_more rest) here) old q ready so.took

  pub room_now : is_more rest ≡ true → (lacking : ℕ) → lacking + needs all ≤ length old.free → lacking + needs rest ≤ suc (length q.free)
  room_now some lacking room =
      let split : old.free ≡ so.done ++ (here ∷ []) ++ q.free = subst (λ m. old.free ≡ so.done ++ held m here ++ q.free) some so.took.free in
      let size = ap length split in
      let whole = length-append (so.done ++ here ∷ []) q.free in
      let front = length-append so.done (here ∷ []) in
      let count = so.count in
      omega (arith, size, whole, front, count, room)
