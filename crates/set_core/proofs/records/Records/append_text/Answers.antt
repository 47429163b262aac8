use Rattle.std.proofs.Common.{◌≡◌, ◌+◌, ◌++◌, ◌∷◌, [], ℕ, List, length, length-append, ap, ◌∙◌, sym, subst}
use Rattle.set_core.specs.Texts.{AreEnds, filled, records_from}
use Rattle.set_core.proofs.Ends.{one_more_end, one_more_record}
use Rattle.set_core.proofs.records.Records.append_text.Goals as goal

pub invariant_of-self-2 : goal.invariant_of-self-2
invariant_of-self-2 c =
    let text : List ℕ = c.self.inside.text.items in
    let more : List ℕ = c.args.text.now in
    let size : length c.push_text.new.text.items ≡ length text + length more = ap length c.in_ok-push_text.ensures.text ∙ length-append text more in (
      subst (AreEnds 0 (length c.push_text.new.text.items)) (sym c.in_ok-push_text.ensures.ends)
          (subst (λ (n : ℕ). AreEnds 0 n (c.self.inside.ends.items ++ (length text + length more) ∷ [])) (sym size)
          (one_more_end 0 (length text) (length more) c.self.inside.ends.items c.requires c.self.invariant.0)),
      λ _. c.in_ok-push_text.ensures.room,
    )

pub returns-clause-ok : goal.returns-clause-ok
returns-clause-ok c =
    let text : List ℕ = c.self.inside.text.items in
    let more : List ℕ = c.args.text.now in
    ap (λ (ends : List ℕ). records_from 0 c.push_text.new.text.items ends) c.in_ok-push_text.ensures.ends
    ∙ ap (λ (all : List ℕ). records_from 0 all (c.self.inside.ends.items ++ (length text + length more) ∷ [])) c.in_ok-push_text.ensures.text
    ∙ one_more_record 0 text more c.self.inside.ends.items c.self.invariant.0
    ∙ ap (λ (rs : List (List ℕ)). rs ++ filled more ∷ []) c.self.view_is
