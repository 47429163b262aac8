use Rattle.std.proofs.Common.{◌≡◌, ◌<◌, ◌≤◌, length, take, ap, inl, subst, ◌∙◌, rules}
use Rattle.std.specs.Io.KnownBytes.{Appends}
use Rattle.session_core.specs.declared.TheConstants.{MOST_BYTES}
use Rattle.session_core.proofs.Streams.{appended_none}
use Rattle.session_text.specs.Statements.{statements_of}
use Rattle.play_core.specs.Texts.{with_events}
use Rattle.play_core.proofs.Finding.{added_so}
use Rattle.play_core.proofs.text.extend_streams.Goals as goal

pub returns-then-len-gt-MOST_BYTES : goal.returns-then-len-gt-MOST_BYTES
returns-then-len-gt-MOST_BYTES g c =
    let input = c.in-Ok.input in
    let given = c.in-Some.added.given.items in
    let same = c.as_slice-2.ensures ∙ c.in-Ok-statements.ensures ∙ ap (statements_of input.ending) c.as_slice.ensures.value in
    let added = added_so c.args.options input.ending input.text.items _ _ c.in-Some.added same c.in-Some.is c.in-Ok-find.ensures in
    let whole : c.in-Ok-with_events.text.items ≡ with_events input.text.items given =
    c.in-Ok-with_events.ensures ∙ (λ i. with_events (c.as_slice-3.ensures.value i) (c.as_slice-4.ensures.value i)) in
    let long : MOST_BYTES < length c.in-Ok-with_events.text.items = search rules in
    inl (record {
      text = input.text.items;
      ending = input.ending;
      read = c.in-Ok.ensures.ok;
      extended = (given, added, subst (λ xs. MOST_BYTES < length xs) whole long, appended_none _);
    })

pub returns-in-Ok-write_text : goal.returns-in-Ok-write_text
returns-in-Ok-write_text g c =
    let input = c.in-Ok.input in
    let given = c.in-Some.added.given.items in
    let same = c.as_slice-2.ensures ∙ c.in-Ok-statements.ensures ∙ ap (statements_of input.ending) c.as_slice.ensures.value in
    let added = added_so c.args.options input.ending input.text.items _ _ c.in-Some.added same c.in-Some.is c.in-Ok-find.ensures in
    let whole : c.in-Ok-with_events.text.items ≡ with_events input.text.items given =
    c.in-Ok-with_events.ensures ∙ (λ i. with_events (c.as_slice-3.ensures.value i) (c.as_slice-4.ensures.value i)) in
    let short : length c.in-Ok-with_events.text.items ≤ MOST_BYTES = search rules in
    inl (record {
      text = input.text.items;
      ending = input.ending;
      read = c.in-Ok.ensures.ok;
      extended = (
        given,
        added,
        subst (λ xs. length xs ≤ MOST_BYTES) whole short,
        subst (Appends _ _) (c.as_slice-5.ensures.value ∙ whole) c.in-Ok-write_text.ensures.ok,
      );
    })

pub returns : goal.returns
returns g c =
    let input = c.in-Ok.input in
    let given = c.in-Some.added.given.items in
    let same = c.as_slice-2.ensures ∙ c.in-Ok-statements.ensures ∙ ap (statements_of input.ending) c.as_slice.ensures.value in
    let added = added_so c.args.options input.ending input.text.items _ _ c.in-Some.added same c.in-Some.is c.in-Ok-find.ensures in
    let whole : c.in-Ok-with_events.text.items ≡ with_events input.text.items given =
    c.in-Ok-with_events.ensures ∙ (λ i. with_events (c.as_slice-3.ensures.value i) (c.as_slice-4.ensures.value i)) in
    inl (record {
      text = input.text.items;
      ending = input.ending;
      read = c.in-Ok.ensures.ok;
      extended = (
        given,
        added,
        (c.in-Err.field-0, subst (λ xs. Appends (g.W.Write.contents c.args.sink.now.writer.now) (g.W.Write.contents c.write_text.new.sink.writer.now) (take c.in-Err.field-0 xs)) (c.as_slice-5.ensures.value ∙ whole) c.in-Err.ensures.err),
      );
    })
