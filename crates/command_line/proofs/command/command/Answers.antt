use Rattle.std.proofs.Common.{rules, false, pos, ap, ap₂, codes, map, Some, [], ◌∷◌, ◌≡◌, ◌∙◌}
use Rattle.clap.specs.Words.{Rule, app_of, rule_of, new_app, with_rule}
use Rattle.clap.specs.declared.builder.action.ArgAction.TheVariants.{SetTrue}
use Rattle.clap.specs.declared.builder.arg.Arg.{Arg}
use Rattle.clap.specs.declared.builder.value_parser.ValueParser.TheVariants.{Names, Signed}
use Rattle.command_line.specs.CommandLines.{AreChoices, explain_option, risk_option, views_option, with_version}
use Rattle.command_line.proofs.Flags.{is_program}
use Rattle.command_line.proofs.command.command.Goals as goal

pub returns : goal.returns
returns c =
    let long_is : rule_of c.long.result ≡ record (rule_of c.new.result) { long = Some (codes "risk") } = ap rule_of c.long.ensures in
    let name_is : rule_of c.value_name.result ≡ record (rule_of c.long.result) { value_names = 1 } = ap rule_of c.value_name.ensures in
    let parser_is : rule_of c.value_parser.result ≡ record (rule_of c.value_name.result) { parser = Some (Names c.as_slice.result) } =
    ap rule_of c.value_parser.ensures.others
    ∙ ap (λ p. record (rule_of c.value_name.result) { parser = p }) (c.value_parser.ensures.given.1 ∙ ap Some c.value_parser.ensures.given.2) in
    let default_is : rule_of c.default_value.result ≡ record (rule_of c.value_parser.result) { defaults = codes "run" ∷ [] } =
    ap rule_of c.default_value.ensures in
    let help_is : rule_of c.help-risk.result ≡ rule_of c.default_value.result = ap rule_of c.help-risk.ensures in
    let risk_is : rule_of c.help-risk.result ≡ risk_option c.as_slice.result = help_is ∙ default_is
    ∙ ap (λ (r : Rule). record r { defaults = codes "run" ∷ [] }) (parser_is
    ∙ ap (λ (r : Rule). record r { parser = Some (Names c.as_slice.result) }) (name_is
    ∙ ap (λ (r : Rule). record r { value_names = 1 }) (long_is
    ∙ ap (λ (r : Rule). record r { long = Some (codes "risk") }) c.new.ensures.rule))) in
    let own : c.help-risk.result.global ≡ false = ap (λ (a : Arg). a.global) c.help-risk.ensures ∙ ap (λ (a : Arg). a.global) c.default_value.ensures
    ∙ ap (λ (a : Arg). a.global) c.value_parser.ensures.others ∙ ap (λ (a : Arg). a.global) c.value_name.ensures ∙ ap (λ (a : Arg). a.global) c.long.ensures
    ∙ c.new.ensures.optional.1 in
    let count_is : rule_of c.value_parser-2.result ≡ record (rule_of c.value_name-2.result) { parser = Some (Signed (pos 1) (pos 1024)) } =
    ap rule_of c.value_parser-2.ensures.others
    ∙ ap (λ p. record (rule_of c.value_name-2.result) { parser = p })
    (c.value_parser-2.ensures.given.1 ∙ ap Some (c.value_parser-2.ensures.given.2 ∙ c.signed.ensures)) in
    let views_is : rule_of c.help-views.result ≡ views_option = ap rule_of c.help-views.ensures ∙ ap rule_of c.default_value-2.ensures
    ∙ ap (λ (r : Rule). record r { defaults = codes "1024" ∷ [] }) (count_is
    ∙ ap (λ (r : Rule). record r { parser = Some (Signed (pos 1) (pos 1024)) }) (ap rule_of c.value_name-2.ensures
    ∙ ap (λ (r : Rule). record r { value_names = 1 }) (ap rule_of c.long-2.ensures
    ∙ ap (λ (r : Rule). record r { long = Some (codes "views") }) c.new-2.ensures.rule))) in
    let views_own : c.help-views.result.global ≡ false = ap (λ (a : Arg). a.global) c.help-views.ensures ∙ ap (λ (a : Arg). a.global) c.default_value-2.ensures
    ∙ ap (λ (a : Arg). a.global) c.value_parser-2.ensures.others ∙ ap (λ (a : Arg). a.global) c.value_name-2.ensures ∙ ap (λ (a : Arg). a.global) c.long-2.ensures ∙ c.new-2.ensures.optional.1 in
    let explain_is : rule_of c.help-explain.result ≡ explain_option = ap rule_of c.help-explain.ensures ∙ ap rule_of c.action.ensures
    ∙ ap (λ (r : Rule). record r { action = Some SetTrue }) (ap rule_of c.long-3.ensures
    ∙ ap (λ (r : Rule). record r { long = Some (codes "explain") }) c.new-3.ensures.rule) in
    let explain_own : c.help-explain.result.global ≡ false = ap (λ (a : Arg). a.global) c.help-explain.ensures ∙ ap (λ (a : Arg). a.global) c.action.ensures
    ∙ ap (λ (a : Arg). a.global) c.long-3.ensures ∙ c.new-3.ensures.optional.1 in
    let base_is : app_of c.override_usage-command.result ≡ with_version (new_app c.args.program.now.name.now) = search rules in
    let named_is : app_of c.with_end.result ≡ with_version (new_app c.args.program.now.name.now) = c.with_end.ensures ∙ base_is in
    let words_are : AreChoices c.as_slice.result = ap (map (λ word. word.now)) c.as_slice.ensures in
    is_program _ _ _ _ c.with_flags.result c.with_flags.ensures words_are (c.in_ok-command.ensures.shape explain_own
    ∙ ap₂ with_rule (c.in_ok-arg-2.ensures.shape views_own
    ∙ ap₂ with_rule (c.in_ok-arg.ensures.shape own ∙ ap₂ with_rule named_is risk_is) views_is) explain_is)
