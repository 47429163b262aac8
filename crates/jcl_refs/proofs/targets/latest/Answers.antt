use Rattle.std.proofs.Common.{sym, ap, ◌∙◌, refl, ◌≡◌, ℕ, suc, ◌∷◌, ◌+◌, Bool, Option, drop, arith, Some, if◌then◌else◌}
use Rattle.std.proofs.Math.Seq.{drop-cons}
use Rattle.std.proofs.lemmas.List.{drop_all}
use Rattle.jcl_refs.specs.Meant.{is_meant}
use Rattle.jcl_refs.specs.Targets.{latest_from, or_else}
use Rattle.jcl_refs.proofs.Latest.{none_left, one_more, or_none}
use Rattle.jcl_refs.proofs.targets.latest.Goals as goal
use Rattle.jcl_refs.proofs.targets.latest.Goals.{then-is_meant, else-is_meant}

pub loop-step-init : goal.loop-step-init
loop-step-init c = record {
  counts = refl;
  left = or_none (latest_from (is_meant c.args.meant.now) 1 c.args.k c.args.steps.now);
}

pub returns-then-n-k : goal.returns-then-n-k
returns-then-n-k c =
    ap (λ x. or_else x c.loop-step.found)
    (sym (none_left (is_meant c.args.meant.now) c.loop-step.n c.args.k (drop c.loop-step.step-index c.args.steps.now) c.if-n-k.true))
    ∙ c.loop-step.invariant.left

one_more_step : (n : ℕ) → suc n ≡ n + 1
one_more_step n = omega (arith)

pub loop-step-preserved : goal.loop-step-preserved
loop-step-preserved c =
    let index = c.loop-step.step-index in
    let item = c.step-item.result in
    let rest = drop (index + 1) c.args.steps.now in
    let whole : drop index c.args.steps.now ≡ item ∷ rest =
    drop-cons c.args.steps.now index item c.loop-step-test.true
    ∙ ap (λ s. s ∷ drop (suc index) c.args.steps.now) (sym c.step-item.is)
    ∙ ap (λ n. item ∷ drop n c.args.steps.now) (one_more_step index) in
    let chosen : Bool → Option ℕ = λ b. if b then Some c.loop-step.n else c.loop-step.found in
    let next : c.if-is_meant.found ≡ (if is_meant c.args.meant.now item then Some c.loop-step.n else c.loop-step.found) =
    elim c.if-is_meant.branch [
      | then-is_meant w ↦ w.found-is ∙ ap chosen (sym w.if-is_meant.true ∙ c.is_meant.ensures)
      | else-is_meant w ↦ w.found-is ∙ ap chosen (sym w.if-is_meant.false ∙ c.is_meant.ensures)
    ] in
    record {
      counts = ap (λ n. n + 1) c.loop-step.invariant.counts;
      left =
          one_more (is_meant c.args.meant.now) c.loop-step.n c.args.k item rest c.loop-step.found c.if-is_meant.found c.if-n-k.false next
          ∙ ap (λ steps. or_else (latest_from (is_meant c.args.meant.now) c.loop-step.n c.args.k steps) c.loop-step.found) (sym whole)
          ∙ c.loop-step.invariant.left;
    }

pub returns : goal.returns
returns c =
    let none = drop_all c.loop-step.step-index c.args.steps.now c.loop-step-test.false in
    ap (λ steps. or_else (latest_from (is_meant c.args.meant.now) c.loop-step.n c.args.k steps) c.loop-step.found) (sym none)
    ∙ c.loop-step.invariant.left
