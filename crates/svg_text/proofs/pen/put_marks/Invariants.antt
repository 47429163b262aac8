use Rattle.std.proofs.Common.{◌≡◌, ◌++◌, [], List, ℕ, drop}
use Rattle.svg_text.specs.Elements.{content_text}
use Rattle.svg_text.specs.Pictures.{marks_content}
use Rattle.svg_text.specs.Writing.{Puts}
use Rattle.svg_text.proofs.pen.put_marks.Given as goal

-- what was put and what is left are the whole
abbrev pub invariant-loop-mark : goal.invariant-loop-mark
invariant-loop-mark g l = record {
  begun : l.out.begun ≡ [];
  text : List ℕ;
  put : Puts (g.W.Write.contents l.fn.writer) (g.W.Write.contents l.writer) l.fn.out.kept l.out.kept text;
  whole : text ++ content_text (marks_content (drop l.mark-index l.marks)) ≡ content_text (marks_content l.marks);
}
