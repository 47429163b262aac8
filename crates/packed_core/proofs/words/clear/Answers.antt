use Rattle.std.proofs.Common.{◌≡◌, inl, inr, ◌+◌, ◌∙◌, ap, arith}
use Rattle.std.proofs.lemmas.Bool.{cases_lt}
use Rattle.packed_core.specs.Words.{bit}
use Rattle.packed_core.proofs.words.clear.Goals as goal

pub loop-i-preserved : goal.loop-i-preserved
loop-i-preserved c = record {
  long = omega arith;
  cleared = λ k low high. elim (cases_lt k (c.args.from + c.loop-i.i)) [
    | inl h ↦ c.unmark.ensures.elsewhere k (λ e. omega arith) ∙ c.loop-i.invariant.cleared k low h
    | inr h ↦ ap (bit c.unmark.new.row) (let e : k ≡ c.args.from + c.loop-i.i = omega arith in e) ∙ c.unmark.ensures.here
  ];
  before = λ k h. c.unmark.ensures.elsewhere k (λ e. omega arith) ∙ c.loop-i.invariant.before k h;
  after = λ k h. c.unmark.ensures.elsewhere k (λ e. omega arith) ∙ c.loop-i.invariant.after k (omega arith);
  first = c.unmark.ensures.first ∙ c.loop-i.invariant.first;
  within = c.unmark.ensures.within;
}
