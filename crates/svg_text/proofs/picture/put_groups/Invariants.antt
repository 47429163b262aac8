use Rattle.std.proofs.Common.{◌≡◌, ◌++◌, [], List, ℕ, drop}
use Rattle.svg_text.specs.Elements.{content_text}
use Rattle.svg_text.specs.Pictures.{groups_content}
use Rattle.svg_text.specs.Writing.{Puts}
use Rattle.svg_text.proofs.picture.put_groups.Given as goal

-- what was put and what is left are the whole
abbrev pub invariant-loop-group : goal.invariant-loop-group
invariant-loop-group g l = record {
  begun : l.out.begun ≡ [];
  text : List ℕ;
  put : Puts (g.W.Write.contents l.fn.writer) (g.W.Write.contents l.writer) l.fn.out.kept l.out.kept text;
  whole : text ++ content_text (groups_content (drop l.group-index l.groups)) ≡ content_text (groups_content l.groups);
}
