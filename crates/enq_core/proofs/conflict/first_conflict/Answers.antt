use Rattle.std.proofs.Common.{ap, get_or, List, ℕ, ◌≡◌, ◌+◌, false, true, length, arith, sym, ◌∙◌, subst}
use Rattle.std.proofs.lemmas.List.Elements.{at_read}
use Rattle.enq_core.specs.declared.table.Hold.{Hold}
use Rattle.enq_core.specs.declared.table.Want.{Want}
use Rattle.enq_core.specs.Holds.{conflicts}
use Rattle.enq_core.specs.Order.{IsFirst, Meets}
use Rattle.enq_core.proofs.Meeting.{all_free, first_kept, first_taken, named_free, others_free, passed_on, unmarked_free}
use Rattle.enq_core.proofs.conflict.first_conflict.Goals.{then-hold-job, else-hold-job, in-Ok+then-conflicts, in-Ok+else-conflicts, in-Err}
use Rattle.enq_core.proofs.conflict.first_conflict.Goals as goal

pub loop-marked-preserved-then-not-marks-from : goal.loop-marked-preserved-then-not-marks-from
loop-marked-preserved-then-not-marks-from c =
    let holds : List Hold = c.args.holds.now in
    let wants : List Want = c.args.wants.now in
    let n : ℕ = c.loop-marked.marked-index in
    let hold : Hold = c.marked-item.result in
    record {
      within = c.loop-marked.invariant.within;
      passed = λ k d l h e. c.loop-marked.invariant.passed k d (omega (arith, l)) h e;
      found = first_kept holds wants n hold c.loop-marked.found c.marked-item.is (unmarked_free wants hold c.mark_wants.new.marks c.mark_wants.ensures
          (ap (λ mark. get_or c.mark_wants.new.marks mark false) (sym c.mark.ensures.mark ∙ sym c.from.ensures) ∙ c.if-not-marks-from.true)) c.loop-marked.invariant.found;
    }

pub loop-marked-preserved : goal.loop-marked-preserved
loop-marked-preserved c =
    let holds : List Hold = c.args.holds.now in
    let wants : List Want = c.args.wants.now in
    let n : ℕ = c.loop-marked.marked-index in
    let hold : Hold = c.hold-hold.result.now in
    let is : hold ≡ get_or holds n hold = at_read holds (λ (h : Hold). c.hold-hold.result.now ≡ h) n c.marked-item.result c.loop-marked-test.true c.marked-item.is c.hold-hold.ensures hold in
    let job : c.if-hold-job.job ≡ hold.job = elim c.if-hold-job.branch [ then-hold-job w ↦ cc | else-hold-job w ↦ cc ] in
    elim c.match-search_from.branch [
      | in-Ok+then-conflicts w ↦ record {
        within = omega (arith, w.in-Ok.ensures.within);
        passed = λ k d l h e u v low high. passed_on holds wants n hold w.in-Ok.named c.requires.holds is w.in-Ok.ensures.passed k d l h (e ∙ job) u v low (omega (arith, high));
        found = subst (IsFirst (Meets holds wants (n + 1))) (sym w.found-is)
            (first_taken holds wants n hold c.loop-marked.found (record { place = w.in-Ok.named; job = c.if-hold-job.job }) w.first_of.result c.loop-marked-test.true is (
              w.in-Ok.ensures.within,
              at_read wants (λ (want : Want). conflicts want hold ≡ true) w.in-Ok.named w.index-wants-named.result w.in-Ok.ensures.within w.index-wants-named.is
                  (sym w.conflicts.ensures ∙ w.if-conflicts.true),
              sym job,
            )
            (others_free wants hold w.in-Ok.named c.requires.wants w.in-Ok.ensures.within w.in-Ok.ensures.passed w.in-Ok.ensures.found)
            w.first_of.ensures.is w.first_of.ensures.met w.first_of.ensures.found c.loop-marked.invariant.found);
      }
      | in-Ok+else-conflicts w ↦ record {
        within = omega (arith, w.in-Ok.ensures.within);
        passed = λ k d l h e u v low high. passed_on holds wants n hold w.in-Ok.named c.requires.holds is w.in-Ok.ensures.passed k d l h (e ∙ job) u v low (omega (arith, high));
        found = subst (IsFirst (Meets holds wants (n + 1))) (sym w.found-is)
            (first_kept holds wants n hold c.loop-marked.found is
            (named_free wants hold w.in-Ok.named
            (at_read wants (λ (want : Want). conflicts want hold ≡ false) w.in-Ok.named w.index-wants-named.result w.in-Ok.ensures.within w.index-wants-named.is
            (sym w.conflicts.ensures ∙ w.if-conflicts.false))
            (others_free wants hold w.in-Ok.named c.requires.wants w.in-Ok.ensures.within w.in-Ok.ensures.passed w.in-Ok.ensures.found)) c.loop-marked.invariant.found);
      }
      | in-Err w ↦ record {
        within = omega (arith, w.in-Err.ensures.within);
        passed = λ k d l h e u v low high. passed_on holds wants n hold w.in-Err.next c.requires.holds is w.in-Err.ensures.passed k d l h (e ∙ job) u v low (omega (arith, high));
        found = subst (IsFirst (Meets holds wants (n + 1))) (sym w.found-is)
            (first_kept holds wants n hold c.loop-marked.found is (all_free wants hold w.in-Err.next w.in-Err.ensures.passed w.in-Err.ensures.found) c.loop-marked.invariant.found);
      }
    ]

pub returns : goal.returns
returns c =
    let all : c.loop-marked.marked-index ≡ length c.args.holds.now = omega arith in
    subst (λ (n : ℕ). IsFirst (Meets c.args.holds.now c.args.wants.now n) c.loop-marked.found) all c.loop-marked.invariant.found
