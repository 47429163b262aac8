use Rattle.std.proofs.Common.{◌≡◌, false, [], ◌∷◌, Some, None, is_some, length, take, drop, ap, sym, ◌∙◌, subst}
use Rattle.std.specs.Option.{option_copied}
use Rattle.jcl_symbols.specs.Substitutions.{Substituted, behind, substituted_from, value_of}
use Rattle.jcl_symbols.specs.Writing.{Writes, ended_with, without_period}
use Rattle.jcl_symbols.proofs.Walk.{at_doubled, run, run_front, some_copied, symbol_is}
use Rattle.jcl_symbols.proofs.Written.{writes_behind}
use Rattle.jcl_symbols.proofs.substitution.write_symbol.Goals as goal

pub returns-in-Some-clause-text : goal.returns-in-Some-clause-text
returns-in-Some-clause-text c =
    let symbols = c.args.symbols.now in
    let left = substituted_from symbols false None c.in-Some.after.now in
    let begun : substituted_from symbols false (Some []) c.args.behind.now ≡ behind (38 ∷ 38 ∷ []) left =
    ap (substituted_from symbols false (Some [])) c.in-Some.ensures ∙ at_doubled symbols c.in-Some.after.now in
    subst (λ (s : Substituted). Writes c.args.text.now.items c.write.new.text.items s left false) (sym begun)
    (writes_behind c.args.text.now.items c.write.new.text.items (38 ∷ 38 ∷ []) left c.in_ok-write.ensures)

pub returns-clause-text : goal.returns-clause-text
returns-clause-text c =
    let symbols = c.args.symbols.now in
    let text = c.args.behind.now in
    let count : c.name_len.result ≡ length (run 7 text) = c.name_len.ensures.count in
    let rest : c.split_at.result.1.now ≡ drop (length (run 7 text)) text = c.split_at.ensures.back ∙ ap (λ n. drop n text) count in
    let name : c.split_at.result.0.now ≡ run 7 text = c.split_at.ensures.front ∙ ap (λ n. take n text) count ∙ run_front 7 text in
    let value : option_copied c.value_of-value.result ≡ value_of symbols (run 7 text) = c.value_of-value.ensures ∙ ap (value_of symbols) name in
    let has : c.is_some-has_value.result ≡ is_some (value_of symbols (run 7 text)) =
    c.is_some-has_value.ensures ∙ some_copied c.value_of-value.result ∙ ap is_some value in
    let left : c.without_period.result.now ≡ without_period (is_some (value_of symbols (run 7 text))) (drop (length (run 7 text)) text) =
    c.without_period.ensures.value
    ∙ ap (λ has. without_period has c.split_at.result.1.now) has
    ∙ ap (without_period (is_some (value_of symbols (run 7 text)))) rest in
    let s = substituted_from symbols false None c.without_period.result.now in
    let begun : substituted_from symbols false (Some []) text ≡ ended_with (option_copied c.value_of-value.result) c.split_at.result.0.now s =
    symbol_is symbols text c.in_default.ensures
    ∙ ap (λ xs. ended_with (value_of symbols (run 7 text)) (run 7 text) (substituted_from symbols false None xs)) (sym left)
    ∙ ap (λ v. ended_with v (run 7 text) s) (sym value)
    ∙ ap (λ n. ended_with (option_copied c.value_of-value.result) n s) (sym name) in
    subst (λ (all : Substituted). Writes c.args.text.now.items c.write_value.new.text.items all s c.in_ok-lacks_value.lacks_value) (sym begun)
    (c.in_ok-lacks_value.ensures s)
