use Rattle.std.proofs.Common.{◌≡◌, ◌+◌, ◌-◌, length, take, drop, length-drop, min, replicate, ap, ◌∙◌, arith}
use Rattle.std.proofs.lemmas.List.{length-take}
use Rattle.cb_walk.proofs.Cleared.{byte_cleared}
use Rattle.cb_walk.proofs.fields.clear.Goals as goal

pub returns-clause-bytes : goal.returns-clause-bytes
returns-clause-bytes c =
    let f = c.args.f.now in
    let bytes = c.args.bytes.now in
    let from = c.min-from.result in
    let to = c.min-to.result in
    let start : from ≡ min f.at (length bytes) = c.min-from.ensures ∙ ap (λ n. min n (length bytes)) c.from.ensures in
    let end : to ≡ min (from + f.width) (length bytes) = c.min-to.ensures ∙ ap (λ n. min (from + n) (length bytes)) c.from-2.ensures in
    let size : length (take (to - from) (drop from bytes)) ≡ to - from =
    length-take (to - from) (drop from bytes) ∙ ap (min (to - from)) (length-drop from bytes) ∙ omega arith in
    byte_cleared f bytes c.fill.new.self from to start end (c.fill.ensures.after (λ y h. h) ∙ ap (λ n. replicate n 0) size)
