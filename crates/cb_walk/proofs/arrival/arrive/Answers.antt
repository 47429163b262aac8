use Rattle.std.proofs.Common.{◌≡◌, ◌∙◌, ◌*◌, ◌||◌, None, length, inl, inr, ap, subst, sym}
use Rattle.std.proofs.lemmas.Bool.{cases_eq, eq-eqb, ne_eqb}
use Rattle.cb_queue.specs.RecordQueues.{bytes_or_zeros, record_at}
use Rattle.cb_walk.specs.Marks.{arrival_told, is_marked, is_met}
use Rattle.cb_walk.proofs.Arrivals.{is_used, told_is}
use Rattle.cb_walk.proofs.arrival.arrive.Goals as goal

pub mark-requires : goal.mark-requires
mark-requires g c =
    let q = g.S.RecordStore.queue c.args.store.now in
    let l = c.layout-layout.result.now in
    let met = c.is_marked.result in
    let told : arrival_told l c.bring.new.own c.args.job c.args.kind met c.args.n ≡ None = sym c.arrival_told.ensures ∙ c.in-None.is in
    is_used q l c.args.job c.args.kind c.args.n met (64 * length c.args.marks.now) c.requires.kind
    (subst (λ r. arrival_told l r c.args.job c.args.kind met c.args.n ≡ None) c.bring.ensures told) c.requires.marks

pub returns-in-None : goal.returns-in-None
returns-in-None g c = λ seen marked.
    let q = g.S.RecordStore.queue c.args.store.now in
    let l = c.layout-layout.result.now in
    let n = c.args.n in
    let met = c.is_marked.result in
    let told : arrival_told l c.bring.new.own c.args.job c.args.kind met n ≡ None = sym c.arrival_told.ensures ∙ c.in-None.is in
    record {
      fine = told_is q c.layout-layout.ensures.sound c.args.job c.args.kind n seen met (λ _. c.is_marked.ensures ∙ marked n)
          ∙ subst (λ k. arrival_told k (bytes_or_zeros (record_at q n)) c.args.job c.args.kind met n ≡ None) c.layout-layout.ensures.value
          (subst (λ r. arrival_told l r c.args.job c.args.kind met n ≡ None) c.bring.ensures told);
      bytes = c.bring.ensures;
      marked = λ m. elim (cases_eq m n) [
        | inl same ↦ ap (is_marked c.mark.new.marks) same ∙ c.mark.ensures.here ∙ sym (ap (λ b. b || is_met seen m) (eq-eqb n m (sym same)))
        | inr other ↦ c.mark.ensures.others m other ∙ marked m ∙ sym (ap (λ b. b || is_met seen m) (ne_eqb n m (λ e. other (sym e))))
      ];
    }
