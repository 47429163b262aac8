-- The order of keys and of names, and the tests that tell them apart.
use Rattle.std.proofs.Common.{◌≡◌, ℕ, true, cond, List, Some, None, refl, ap, sym, ◌∙◌}
use Rattle.std.specs.Cmp.{Equal-is}
use Rattle.std.specs.FinMap.{get, get-insert, get-remove, insert, remove}
use Rattle.std.specs.Ordering.{is_eq}
use Rattle.std.specs.Str.{bytes_eq}
use Rattle.std.proofs.lemmas.Bool.Decides.{same_from_decides}
use Rattle.std.proofs.lemmas.Cmp.{nat_list_cmp_total}
use Rattle.std.proofs.lemmas.Map.Text.{is_eq-slice_cmp}
use Rattle.std.proofs.lemmas.Slice.Eq.{bytes_eq-Decides}
use Rattle.group_core.specs.declared.entry.CatEntry.{CatEntry}
use Rattle.cat_core.specs.Catalogs.{Contents}
use Rattle.vtoc_core.specs.declared.entry.SetEntry.{SetEntry}
use Rattle.vtoc_core.specs.declared.entry.SetKey.{SetKey}
use Rattle.vtoc_core.specs.Entries.{Sets, key_cmp, same_key}
use Rattle.vtoc_core.proofs.PlaceLemmas.{key_total, order_tells}

pub names_same : (a b : List ℕ) → bytes_eq a b ≡ true → a ≡ b
names_same a b = (bytes_eq-Decides a b).0

pub name_itself : (a : List ℕ) → bytes_eq a a ≡ true
name_itself a = (bytes_eq-Decides a a).1 refl

pub names_turned : (a b : List ℕ) → bytes_eq a b ≡ bytes_eq b a
names_turned a b = same_from_decides (bytes_eq a b) (bytes_eq b a) (bytes_eq-Decides a b)
    (λ h. sym ((bytes_eq-Decides b a).0 h), λ h. (bytes_eq-Decides b a).1 (sym h))

-- the order of keys ties those of one set
pub keys_tied : (a b : SetKey) → is_eq (key_cmp a b) ≡ same_key a b
keys_tied a b = same_from_decides (is_eq (key_cmp a b)) (same_key a b) (Equal-is (key_cmp a b)) (order_tells a b)

-- what a map has at a key once another is put there, or nothing
pub set_put : (m : Sets) (k : SetKey) (e : SetEntry) (q : SetKey) → get (insert m k e) q ≡ cond (same_key q k) (Some e) (get m q)
set_put m k e q = get-insert key_total m k e q ∙ ap (λ b. cond b (Some e) (get m q)) (keys_tied q k)

pub set_taken : (m : Sets) (k q : SetKey) → get (remove m k) q ≡ cond (same_key q k) None (get m q)
set_taken m k q = get-remove key_total m k q ∙ ap (λ b. cond b None (get m q)) (keys_tied q k)

pub name_put : (m : Contents) (n : List ℕ) (e : CatEntry) (q : List ℕ) → get (insert m n e) q ≡ cond (bytes_eq q n) (Some e) (get m q)
name_put m n e q = get-insert nat_list_cmp_total m n e q ∙ ap (λ b. cond b (Some e) (get m q)) (is_eq-slice_cmp q n)

pub name_taken : (m : Contents) (n q : List ℕ) → get (remove m n) q ≡ cond (bytes_eq q n) None (get m q)
name_taken m n q = get-remove nat_list_cmp_total m n q ∙ ap (λ b. cond b None (get m q)) (is_eq-slice_cmp q n)
