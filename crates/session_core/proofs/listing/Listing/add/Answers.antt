use Rattle.std.proofs.Common.{◌≡◌, ◌++◌, List, OnOk, sym, subst}
use Rattle.std.specs.List.{flat_map}
use Rattle.jcl_plan.specs.declared.entry.Entry.{Entry}
use Rattle.jcl_plan.specs.Lines.{text_of}
use Rattle.session_core.proofs.listing.Listing.add.Goals as goal

pub returns-then-is_past_limit-clause-ok : goal.returns-then-is_past_limit-clause-ok
returns-then-is_past_limit-clause-ok c =
    let P : List Entry → Type 0 = λ entries.
    OnOk c.add_past_limit.result (c.add_past_limit.new.self.text.kept ≡ c.args.self.now.text.kept ++ flat_map text_of entries) in
    subst P (sym (c.is_past_limit.ensures c.if-is_past_limit.true)) c.add_past_limit.ensures.ok
