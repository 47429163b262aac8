use Rattle.std.proofs.Common.{◌++◌, ◌∷◌, [], List, ℕ, ap, length, ◌∙◌}
use Rattle.proc_library.proofs.Cuts.{kept_more}
use Rattle.proc_library.proofs.lines.Lines.push.Goals as goal

pub invariant_of-self-2 : goal.invariant_of-self-2
invariant_of-self-2 c =
    (kept_more c.self.inside.lengths.items c.self.inside.bytes.items c.args.line.now c.push.new.self.items c.extend_from_slice.new.self.items c.self.invariant
    (c.in-Ok.ensures.items ∙ ap (λ (ls : List ℕ). ls ++ length c.args.line.now ∷ []) c.in_ok-reserve.ensures.items) c.in_ok-extend_from_slice.ensures.items).0

pub returns-clause-ok : goal.returns-clause-ok
returns-clause-ok c =
    (kept_more c.self.inside.lengths.items c.self.inside.bytes.items c.args.line.now c.push.new.self.items c.extend_from_slice.new.self.items c.self.invariant
    (c.in-Ok.ensures.items ∙ ap (λ (ls : List ℕ). ls ++ length c.args.line.now ∷ []) c.in_ok-reserve.ensures.items) c.in_ok-extend_from_slice.ensures.items).1
    ∙ ap (λ (ls : List (List ℕ)). ls ++ c.args.line.now ∷ []) c.self.view_is
