-- Extents between commas, one after another.
use Rattle.std.proofs.Common.{◌≡◌, ℕ, ◌-◌, ◌==◌, List, [], ◌∷◌, ◌++◌, length, take, drop, position, Option, Some, None, refl, sym, ap, ◌∙◌, append_assoc}
use Rattle.std.proofs.lemmas.List.{append-nil}
use Rattle.std.specs.Option.{option_map}
use Rattle.extent_core.specs.declared.extent.Extent.{Extent}
use Rattle.session_text.specs.Fields.{listed_in}
use Rattle.session_text.specs.Volumes.{extent_of, extents_in, extents_with}
use Rattle.session_text.proofs.Places.{behind_one, cut_at, not_cut}

-- those that are read, and behind them what the rest gives
abbrev pub behind_read : List Extent → Option (List Extent) → Option (List Extent)
behind_read read None = None
behind_read read (Some others) = Some (read ++ others)

one_more : (read : List Extent) (e : Extent) (others : Option (List Extent)) →
    behind_read read (option_map (λ es. e ∷ es) others) ≡ behind_read (read ++ e ∷ []) others
one_more read e None = refl
one_more read e (Some others) = ap Some (sym (append_assoc read (e ∷ []) others))

none_with : (read : List Extent) (others : Option (List Extent)) (found : Option Extent) → found ≡ None → behind_read read (extents_with found others) ≡ None
none_with read others None is = refl
none_with read others (Some e) is = absurd cc

some_with : (read : List Extent) (others : Option (List Extent)) (found : Option Extent) (e : Extent) → found ≡ Some e →
    behind_read read (extents_with found others) ≡ behind_read (read ++ e ∷ []) others
some_with read others found e is = ap (λ (x : Option Extent). behind_read read (extents_with x others)) is ∙ one_more read e others

-- the item up to a comma
item_to : (rest part back : List ℕ) (comma : ℕ) → position (λ b. b == 44) rest ≡ Some comma → part ≡ take comma rest → back ≡ drop comma rest →
    extents_in (listed_in rest) ≡ extents_with (extent_of part) (extents_in (listed_in (take (length back - 1) (drop 1 back))))
item_to rest part back comma h front behind = rw (cut_at (λ b. b == 44) rest comma h, front, behind_one back rest comma behind)

-- the last item
item_last : (rest : List ℕ) → position (λ b. b == 44) rest ≡ None → extents_in (listed_in rest) ≡ extents_with (extent_of rest) (Some [])
item_last rest h = rw (not_cut (λ b. b == 44) rest h)

-- an item that is an extent, and one that is none
pub more_to : (all : Option (List Extent)) (read : List Extent) (rest part back : List ℕ) (comma : ℕ) (e : Extent) →
    all ≡ behind_read read (extents_in (listed_in rest)) → position (λ b. b == 44) rest ≡ Some comma → part ≡ take comma rest → back ≡ drop comma rest →
    extent_of part ≡ Some e → all ≡ behind_read (read ++ e ∷ []) (extents_in (listed_in (take (length back - 1) (drop 1 back))))
more_to all read rest part back comma e so_far h front behind is =
    so_far ∙ ap (behind_read read) (item_to rest part back comma h front behind) ∙ some_with read _ (extent_of part) e is

pub none_to : (all : Option (List Extent)) (read : List Extent) (rest part back : List ℕ) (comma : ℕ) →
    all ≡ behind_read read (extents_in (listed_in rest)) → position (λ b. b == 44) rest ≡ Some comma → part ≡ take comma rest → back ≡ drop comma rest →
    extent_of part ≡ None → all ≡ None
none_to all read rest part back comma so_far h front behind is =
    so_far ∙ ap (behind_read read) (item_to rest part back comma h front behind) ∙ none_with read _ (extent_of part) is

pub last_some : (all : Option (List Extent)) (read : List Extent) (rest : List ℕ) (e : Extent) →
    all ≡ behind_read read (extents_in (listed_in rest)) → position (λ b. b == 44) rest ≡ None → extent_of rest ≡ Some e → all ≡ Some (read ++ e ∷ [])
last_some all read rest e so_far h is =
    so_far ∙ ap (behind_read read) (item_last rest h) ∙ some_with read (Some []) (extent_of rest) e is ∙ ap Some (append-nil (read ++ e ∷ []))

pub last_none : (all : Option (List Extent)) (read : List Extent) (rest : List ℕ) →
    all ≡ behind_read read (extents_in (listed_in rest)) → position (λ b. b == 44) rest ≡ None → extent_of rest ≡ None → all ≡ None
last_none all read rest so_far h is = so_far ∙ ap (behind_read read) (item_last rest h) ∙ none_with read (Some []) (extent_of rest) is
