use Rattle.std.proofs.Common.{◌≡◌, ◌≤◌, ◌+◌, ◌||◌, ℕ, List, drop}
use Rattle.mvt_check.specs.Checking.{AddsAll, refused_decks, some_refused, AddsStatements}
use Rattle.mvt_check.proofs.session.check_statements.Given as goal

abbrev pub invariant-loop-n : goal.invariant-loop-n
invariant-loop-n l = record {
  refused : some_refused l.fn.sources.units.now l.fn.sources.library.now l.statements
      ≡ (l.refused || some_refused l.fn.sources.units.now l.fn.sources.library.now (drop l.n l.statements));
  counted : refused_decks l.fn.sources.units.now l.fn.sources.library.now l.statements
      ≡ l.count + refused_decks l.fn.sources.units.now l.fn.sources.library.now (drop l.n l.statements);
  few : l.count ≤ l.n;
  added : (last : List ℕ) →
      AddsAll l.fn.sources.units.now l.fn.sources.library.now l.fn.known.answers.now l.decks l.fn.known.above l.n (drop l.n l.statements) l.text.items last →
      AddsStatements l.fn.sources.units.now l.fn.sources.library.now l.fn.known.answers.now l.fn.known.above l.statements l.fn.text.items last;
}
