use Rattle.std.proofs.Common.{◌≡◌, None, fold}
use Rattle.mvt_check.specs.Answers.{answer_behind, number_behind, path_in}
use Rattle.mvt_check.proofs.answers.told.told_by.Given as goal

abbrev pub invariant-loop-entry : goal.invariant-loop-entry
invariant-loop-entry l = record {
  number : l.told.number ≡ fold number_behind None l.yielded;
  answer : l.told.answer ≡ fold answer_behind None l.yielded;
  path : l.told.path ≡ path_in l.yielded;
}
