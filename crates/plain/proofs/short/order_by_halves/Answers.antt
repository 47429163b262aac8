use Rattle.std.proofs.Common.{◌≡◌, ◌≢◌, ◌≤◌, ◌+◌, ◌-◌, ℕ, List, nat_cmp, drop, length, take, take_all, ◌∙◌, sym, arith}
use Rattle.std.specs.Cmp.Lexicographic.{slice_cmp}
use Rattle.std.proofs.lemmas.List.{length-drop}
use Rattle.plain.specs.Words.{worth}
use Rattle.plain.proofs.Words.{AreBytes, word_decides_at, word_passes_at}
use Rattle.plain.proofs.short.order_by_halves.Goals as goal

rest : (xs : List ℕ) → take (length xs - 4) (drop 4 xs) ≡ drop 4 xs
rest xs = take_all (length xs - 4) (drop 4 xs) (omega (arith, length-drop 4 xs))

pub returns-then-x-y : goal.returns-then-x-y
returns-then-x-y c =
    let a = c.args.a.now in
    let b = c.args.b.now in
    let bytes_a : AreBytes a = λ k. omega (arith, c.type_inv.a k) in
    let bytes_b : AreBytes b = λ k. omega (arith, c.type_inv.b k) in
    let within : 0 + 4 ≤ length a = omega (arith, c.if-a-lt4.false) in
    let apart : worth (take 4 a) ≢ worth (take 4 b) = λ e. c.if-x-y.true (c.half_word-x.ensures ∙ e ∙ sym c.half_word-y.ensures) in
    c.cmp.ensures ∙ (λ k. nat_cmp (c.half_word-x.ensures k) (c.half_word-y.ensures k))
    ∙ sym (word_decides_at 4 0 a b within c.requires bytes_a bytes_b apart)

pub returns : goal.returns
returns c =
    let a = c.args.a.now in
    let b = c.args.b.now in
    let bytes_a : AreBytes a = λ k. omega (arith, c.type_inv.a k) in
    let bytes_b : AreBytes b = λ k. omega (arith, c.type_inv.b k) in
    let within : 0 + 4 ≤ length a = omega (arith, c.if-a-lt4.false) in
    let same : worth (take 4 a) ≡ worth (take 4 b) = sym c.half_word-x.ensures ∙ c.if-x-y.false ∙ c.half_word-y.ensures in
    c.order_by_bytes-2.ensures ∙ (λ k. slice_cmp nat_cmp (rest a k) (rest b k)) ∙ sym (word_passes_at 4 0 a b within c.requires bytes_a bytes_b same)
