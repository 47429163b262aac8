-- The DDs that are left, step by step.
use Rattle.std.proofs.Common.{◌≡◌, ℕ, ◌+◌, ◌<◌, Bool, false, ◌||◌, List, [], ◌∷◌, ◌++◌, length, slice_index_or, slice_set, refl, ap, sym, ◌∙◌, add-one}
use Rattle.std.specs.List.{list_any}
use Rattle.jcl_cards.specs.declared.coded.Coded.{Coded}
use Rattle.jcl_cards.specs.declared.coded.Coded.TheVariants.{NotGiven, Nullified, Value}
use Rattle.jcl_cards.specs.Keywords.{is_given}
use Rattle.jcl_dds.specs.declared.dd.DdCard.{DdCard}
use Rattle.jcl_procs.specs.declared.step.FlatStep.{FlatStep}
use Rattle.jcl_procs.proofs.Conditioned.{changed, one_more_changed}
use Rattle.jcl_refs.specs.LaterDds.{dds_left, left_by, next_of, wanted_by}
use Rattle.jcl_refs.specs.Planning.{looks_for_later}

pub change_more : (f : FlatStep → FlatStep) (steps left : List FlatStep) (n : ℕ) (d new : FlatStep) → n < length steps → left ≡ changed f n steps →
    new ≡ f (slice_index_or left n d) → slice_set left n new ≡ changed f (n + 1) steps
change_more f steps left n d new lt is put =
    ap (λ (s : FlatStep). slice_set left n s) put
    ∙ ap (λ (ss : List FlatStep). slice_set ss n (f (slice_index_or ss n d))) is
    ∙ one_more_changed f steps n d lt
    ∙ ap (λ m. changed f m steps) (sym (add-one n))

-- where none looks for a later one, all stay
pub all_stay : (dds : List DdCard) → list_any looks_for_later dds ≡ false → dds_left dds ≡ dds
all_stay [] none = refl
all_stay (dd ∷ dds) none = by dd.dd_name refl none (λ h. all_stay dds h)
  where
    stays : (name : Coded (List ℕ)) → dd.dd_name ≡ name → dds_left (dd ∷ dds) ≡ (next_of dd dds (wanted_by name)).stays ++ left_by (length dds) (next_of dd dds (wanted_by name)).rest
    stays name is = ap (λ (n : Coded (List ℕ)). (next_of dd dds (wanted_by n)).stays ++ left_by (length dds) (next_of dd dds (wanted_by n)).rest) is

    given : (name : Coded (List ℕ)) → dd.dd_name ≡ name → list_any looks_for_later (dd ∷ dds) ≡ (is_given name || list_any looks_for_later dds)
    given name is = ap (λ (n : Coded (List ℕ)). is_given n || list_any looks_for_later dds) is

    by : (name : Coded (List ℕ)) → dd.dd_name ≡ name → list_any looks_for_later (dd ∷ dds) ≡ false →
        (list_any looks_for_later dds ≡ false → dds_left dds ≡ dds) → dds_left (dd ∷ dds) ≡ dd ∷ dds
    by NotGiven is none next = stays NotGiven is ∙ ap (λ (ds : List DdCard). dd ∷ ds) (next (sym (given NotGiven is) ∙ none))
    by Nullified is none next = stays Nullified is ∙ ap (λ (ds : List DdCard). dd ∷ ds) (next (sym (given Nullified is) ∙ none))
    by (Value n) is none next = absurd (cc (sym (given (Value n) is) ∙ none))
