use Rattle.std.proofs.Common.{◌≡◌, ◌+◌, ◌≤◌, drop, length, take}
use Rattle.std.specs.List.{position_or_len}
use Rattle.session_text.specs.Begun.{taken}
use Rattle.session_text.specs.Lines.{lines_of}
use Rattle.session_text.specs.Statements.{is_end}
use Rattle.session_text.proofs.parse.block_in.Given as goal

-- the lines so far are no END, and are those that the block took
abbrev pub invariant-loop-row : goal.invariant-loop-row
invariant-loop-row l = record {
  left : drop l.count (lines_of l.ending l.text) ≡ lines_of l.ending l.rest;
  front : l.begun ≡ taken l.block (take l.count (lines_of l.ending l.text));
  place : position_or_len is_end (lines_of l.ending l.text) ≡ l.count + position_or_len is_end (lines_of l.ending l.rest);
  all : length (lines_of l.ending l.text) ≡ l.count + length (lines_of l.ending l.rest);
  within : l.count + length l.rest ≤ length l.text;
}

abbrev pub decreases-loop-row : goal.decreases-loop-row
decreases-loop-row l = length l.rest
