-- A number that is entered in a group, and one that its group refuses.
use Rattle.std.proofs.Common.{◌≡◌, ℕ, zero, suc, Bool, true, false, cond, List, Option, Some, None, Result, Ok, Err, IsOk, refl, sym, ap, ◌∙◌}
use Rattle.std.specs.Result.{is_err}
use Rattle.std.specs.Str.{bytes_eq}
use Rattle.std.proofs.lemmas.Slice.Eq.{bytes_eq-Decides}
use Rattle.group_core.specs.declared.entry.CatEntry.{CatEntry}
use Rattle.group_core.specs.declared.entry.CatEntry.TheVariants.{Volume, Group}
use Rattle.group_core.specs.declared.group.GroupFault.{GroupFault}
use Rattle.group_core.specs.declared.group.Rolled.{Rolled}
use Rattle.group_core.specs.Entries.{Member, group_in, member_by}
use Rattle.group_core.specs.Groups.{GroupState, entered, left_by}
use Rattle.jcl_meaning.specs.Stores.{Store, after_rolling, generation_entered_by, group_of, with_entry}

-- what is a group's entry
entry_of_group : (e : Option CatEntry) (g : GroupState) → group_in e ≡ Some g → e ≡ Some (Group g)
entry_of_group None g h = absurd cc
entry_of_group (Some (Volume serial)) g h = absurd cc
entry_of_group (Some (Group k)) g h = ap (λ o. from o) h
  where
    from : Option GroupState → Option CatEntry
    from None = None
    from (Some x) = Some (Group x)

same_by : (b : Bool) (n base : List ℕ) (s : Store) (g : GroupState) → bytes_eq n base ≡ b → s.catalog base ≡ Some (Group g) →
    cond b (Some (Group g)) (s.catalog n) ≡ s.catalog n
same_by true n base s g e h = sym (ap s.catalog ((bytes_eq-Decides n base).0 e) ∙ h)
same_by false n base s g e h = refl

-- a group entered as it is
pub entry_again : (s : Store) (base : List ℕ) (g : GroupState) → group_of s base ≡ Some g → with_entry s base (Some (Group g)) ≡ s
entry_again s base g h = λ i. record { set = s.set; catalog = λ n. same_by (bytes_eq n base) n base s g refl (entry_of_group (s.catalog base) g h) i }

no_ok : (r : Result Rolled GroupFault) (s : Store) (base serial : List ℕ) (date number : ℕ) (g : GroupState) → group_of s base ≡ Some g → true ≡ is_err r →
    after_rolling r g base date (with_entry s base (Some (Group (left_by r g (record { number = number; serial = serial }))))) ≡ s
no_ok (Ok rolled) s base serial date number g h e = absurd cc
no_ok (Err k) s base serial date number g h e = entry_again s base g h

-- a number that its group refuses leaves the store as it is
pub refused_number : (r : Result Rolled GroupFault) (s : Store) (base serial : List ℕ) (date number : ℕ) (g : GroupState) → group_of s base ≡ Some g →
    r ≡ entered g number serial → true ≡ is_err r → s ≡ generation_entered_by (Some (number, g)) base serial date s
refused_number r s base serial date number g h e f = sym (no_ok (entered g number serial) s base serial date number g h (f ∙ ap is_err e))

taken : (r : Result Rolled GroupFault) → false ≡ is_err r → IsOk r
taken (Ok rolled) h = refl
taken (Err k) h = absurd cc

-- one that it takes
pub takes_number : (r : Result Rolled GroupFault) (g : GroupState) (number : ℕ) (serial : List ℕ) → r ≡ entered g number serial → false ≡ is_err r →
    IsOk (entered g number serial)
takes_number r g number serial e f = taken (entered g number serial) (f ∙ ap is_err e)

-- a member's group is that of its base
pub group_of_member : (n : Option ℕ) (o : Option GroupState) (m : Member) → Some m ≡ member_by n o → o ≡ Some m.1
group_of_member None o m h = absurd cc
group_of_member (Some zero) o m h = absurd cc
group_of_member (Some (suc n)) None m h = absurd cc
group_of_member (Some (suc n)) (Some g) m h = ap (λ x. second x) (sym h)
  where
    second : Option Member → Option GroupState
    second None = None
    second (Some p) = Some p.1
