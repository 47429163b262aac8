-- Of a program with flags of its own, whatever they are, clap says what words mean.
use Rattle.std.proofs.Common.{◌≡◌, ◌∙◌, ◌&&◌, ◌+◌, ◌<◌, ◌++◌, ℕ, Bool, true, not, List, [], ◌∷◌, ap, get_or, length, map, refl, sym, subst, take}
use Rattle.std.proofs.lemmas.List.{append_assoc, map-append, take_more}
use Rattle.std.specs.Prelude.{IfOk, Result, Ok, Err}
use Rattle.std.specs.List.{list_all, list_any}
use Rattle.clap.specs.Words.{App, Rule, Text, app_of, is_simple, is_simple_and_free, new_app, with_rule}
use Rattle.clap.specs.Walk.{is_early_multiple}
use Rattle.clap.specs.Simple.{filled_from, help_rule, on_top, version_rule}
use Rattle.clap.specs.declared.builder.command.Command.{Command}
use Rattle.command_line.specs.CommandLines.{AreChoices, Choices, IsProgram, explain_option, flag_option, names_of, program_with, risk_option, views_option}
use Rattle.command_line.specs.CommandLines.{with_flags, with_version}
use Rattle.command_line.specs.declared.program.Flag.{Flag}

both : {p q : Bool} → p ≡ true → q ≡ true → (p && q) ≡ true
both {p} {q} e f = rw (e, f) refl

-- the rules behind the options of every program, before they are filled in
abbrev tail : List Text → List Rule
tail flags = (map flag_option flags ++ help_rule ∷ []) ++ version_rule ∷ []

flags_are_simple : (flags : List Text) → list_all (λ rule. rule.is_simple) (map flag_option flags) ≡ true
flags_are_simple [] = refl
flags_are_simple (flag ∷ flags) = flags_are_simple flags

tail_is_simple : (flags : List Text) → list_all (λ rule. rule.is_simple) (filled_from 1 (tail flags)) ≡ true
tail_is_simple [] = refl
tail_is_simple (flag ∷ flags) = tail_is_simple flags

tail_is_free : (flags : List Text) → list_all (λ rule. rule.is_free) (filled_from 1 (tail flags)) ≡ true
tail_is_free [] = refl
tail_is_free (flag ∷ flags) = tail_is_free flags

tail_is_in_order : (n : ℕ) (flags : List Text) → not (list_any (is_early_multiple n) (filled_from 1 (tail flags))) ≡ true
tail_is_in_order n [] = refl
tail_is_in_order n (flag ∷ flags) = tail_is_in_order n flags

simple_with : (name : Text) (flags : List Text) (choices : Choices) → is_simple (program_with name flags choices) ≡ true
simple_with name flags choices =
    both (both (flags_are_simple flags) refl) (both (both (tail_is_simple flags) (tail_is_in_order _ flags)) refl)

pub program_is_simple : (name : Text) (flags : List Text) (app : App) → IsProgram name flags app → is_simple app ≡ true
program_is_simple name flags app is = subst (λ a. is_simple a ≡ true) (sym is.app_so) (simple_with name flags is.choices)

pub program_is_free : (name : Text) (flags : List Text) (app : App) → IsProgram name flags app → is_simple_and_free app ≡ true
program_is_free name flags app is = subst (λ a. is_simple_and_free a ≡ true) (sym is.app_so)
    (both (simple_with name flags is.choices) (both (tail_is_free flags) refl))

-- one flag more
pub with_flags_more : (app made more : App) (flags : List Flag) (i : ℕ) (d : Flag) (rule : Rule) → i < length flags
    → made ≡ with_flags app (names_of (take i flags)) → rule ≡ flag_option (get_or flags i d).name.now → more ≡ with_rule made rule
    → more ≡ with_flags app (names_of (take (i + 1) flags))
with_flags_more app made more flags i d rule h before is added =
    let rules : List Rule = map flag_option (names_of (take i flags)) in
    let last : Rule = flag_option (get_or flags i d).name.now in
    let all : map flag_option (names_of (take (i + 1) flags)) ≡ rules ++ last ∷ [] =
    ap (λ fs. map flag_option (names_of fs)) (take_more flags i d h)
    ∙ ap (map flag_option) (map-append (λ flag. flag.name.now) (take i flags) (get_or flags i d ∷ []))
    ∙ map-append flag_option (names_of (take i flags)) ((get_or flags i d).name.now ∷ []) in
    added ∙ ap (λ a. with_rule a rule) before ∙ ap (with_rule (with_flags app (names_of (take i flags)))) is
    ∙ ap (λ (rs : List Rule). on_top (λ top. record top { rules = rs }) app)
    (append_assoc app.top.rules rules (last ∷ []) ∙ ap (λ rs. app.top.rules ++ rs) (sym all))

-- the command that the flags were added to, and what came of that
pub is_program : (name : Text) (flags : List Text) (choices : Choices) (app : App) {E : Type 0} (made : Result Command E)
    → IfOk made (λ c. app_of c ≡ with_flags app flags) → AreChoices choices
    → app ≡ with_rule (with_rule (with_rule (with_version (new_app name)) (risk_option choices)) views_option) explain_option
    → IfOk made (λ c. IsProgram name flags (app_of c))
is_program name flags choices app (Ok c) added words so =
    record { choices = choices; choices_so = words; app_so = added ∙ ap (λ app. with_flags app flags) so }
is_program name flags choices app (Err e) added words so = tt
