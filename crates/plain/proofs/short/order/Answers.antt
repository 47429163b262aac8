use Rattle.std.proofs.Common.{◌≡◌, ◌≢◌, ◌≤◌, ◌+◌, nat_cmp, drop, length, take, ◌∙◌, sym, arith}
use Rattle.plain.specs.Words.{worth}
use Rattle.plain.proofs.Words.{AreBytes, word_decides_at, word_passes_at}
use Rattle.plain.proofs.short.order.Goals as goal

pub returns-then-x-y : goal.returns-then-x-y
returns-then-x-y c =
    let a = c.args.a.now in
    let b = c.args.b.now in
    let i = c.loop-i.i in
    let bytes_a : AreBytes a = λ k. omega (arith, c.type_inv.a k) in
    let bytes_b : AreBytes b = λ k. omega (arith, c.type_inv.b k) in
    let within : i + 8 ≤ length a = omega (arith, c.loop-i-test.true, c.loop-i.invariant.within) in
    let apart : worth (take 8 (drop i a)) ≢ worth (take 8 (drop i b)) = λ e. c.if-x-y.true (c.word_at-x.ensures ∙ e ∙ sym c.word_at-y.ensures) in
    c.cmp.ensures ∙ (λ k. nat_cmp (c.word_at-x.ensures k) (c.word_at-y.ensures k))
    ∙ sym (word_decides_at 8 i a b within c.requires bytes_a bytes_b apart) ∙ sym c.loop-i.invariant.left

pub loop-i-preserved : goal.loop-i-preserved
loop-i-preserved c =
    let a = c.args.a.now in
    let b = c.args.b.now in
    let i = c.loop-i.i in
    let bytes_a : AreBytes a = λ k. omega (arith, c.type_inv.a k) in
    let bytes_b : AreBytes b = λ k. omega (arith, c.type_inv.b k) in
    let within : i + 8 ≤ length a = omega (arith, c.loop-i-test.true, c.loop-i.invariant.within) in
    let same : worth (take 8 (drop i a)) ≡ worth (take 8 (drop i b)) = sym c.word_at-x.ensures ∙ c.if-x-y.false ∙ c.word_at-y.ensures in
    record { same = c.requires; within = within; left = c.loop-i.invariant.left ∙ word_passes_at 8 i a b within c.requires bytes_a bytes_b same }
