use Rattle.std.proofs.Common.{◌∙◌, Bool, ap, sym}
use Rattle.jcl_meaning.specs.declared.store.SoloEntry.{SoloEntry}
use Rattle.seen_store.specs.Listing.{entries_of, entry_of}
use Rattle.view_core.specs.Same.{entry_alike}
use Rattle.view_core.proofs.Beside.{each_ends, each_goes}
use Rattle.view_core.proofs.same.each_entry_alike.Goals as goal

pub returns-then-not-entry_alike : goal.returns-then-not-entry_alike
returns-then-not-entry_alike c =
    let test : SoloEntry → Bool = λ x. entry_alike c.args.names.now c.args.a.now c.args.b.now x.name in
    each_ends test (entry_of (c.in-Some.name.now, c.in-Some.field-0-1.now)) _ _ _ (ap entries_of c.in-Some.ensures.steps) c.loop-name.invariant.2
    (sym c.entry_alike.ensures ∙ c.if-not-entry_alike.true)

pub loop-name-preserved : goal.loop-name-preserved
loop-name-preserved c =
    let test : SoloEntry → Bool = λ x. entry_alike c.args.names.now c.args.a.now c.args.b.now x.name in (
      tt,
      tt,
      each_goes test (entry_of (c.in-Some.name.now, c.in-Some.field-0-1.now)) _ _ _ (ap entries_of c.in-Some.ensures.steps) c.loop-name.invariant.2
          (sym c.entry_alike.ensures ∙ c.if-not-entry_alike.false),
    )
