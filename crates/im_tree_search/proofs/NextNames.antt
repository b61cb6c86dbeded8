-- The name of the next key.
use Rattle.std.proofs.Common.{◌≡◌, ℕ, List, Option, Some, None, refl, ◌∙◌, ap, subst}
use Rattle.std.specs.Prelude.{option_map}
use Rattle.im_base_types.specs.Keys.{Key}
use Rattle.im_base_types.specs.Pages.{Entry, Page}
use Rattle.im_theory_page.specs.Entry.{entry_at}
use Rattle.im_page_pool.specs.Pool.{PoolView, page_at}
use Rattle.im_tree_search.specs.declared.entry_place.EntryPlace.{EntryPlace}
use Rattle.im_tree_search.specs.declared.next_key.NextKey.{NextKey}
use Rattle.im_tree_search.specs.declared.next_key.NextKey.TheVariants.{Here, There, End}
use Rattle.im_tree_search.specs.Found.{entry_of}
use Rattle.im_tree_search.specs.NextKeys.{next_name, far_name, IsHere, IsFar, IsWithin}

abbrev pub key_of : Option Entry → Option Key
key_of m = option_map (λ (e : Entry). e.0) m

-- a copied key is the same in any pool
pub far_is : (pool : PoolView) (p : ℕ) (next : NextKey) → IsFar next → next_name pool p next ≡ far_name next
far_is pool p (Here i) far = absurd far
far_is pool p (There key) far = refl
far_is pool p End far = refl

pub never_both : (next : NextKey) → IsFar next → IsHere next → ⊥
never_both (Here i) far here = far
never_both (There key) far here = here
never_both End far here = here

pub far_within : (es : List Entry) (next : NextKey) → IsFar next → IsWithin es next
far_within es (Here i) far = absurd far
far_within es (There key) far = tt
far_within es End far = tt

-- no entry was found
pub named_none : (pool : PoolView) (o : Option EntryPlace) (m : Option Entry) → ((x : EntryPlace) → o ≡ Some x → ⊥) → option_map (entry_of pool) o ≡ m → None ≡ key_of m
named_none pool None m not is = ap key_of is
named_none pool (Some x) m not is = absurd (not x refl)

-- the key of the entry that was found
pub named_some : (pool : PoolView) (o : Option EntryPlace) (x : EntryPlace) (m : Option Entry) (page : Page) → o ≡ Some x → option_map (entry_of pool) o ≡ m → page ≡ page_at pool x.frame.number
    → Some (entry_at page.body.entries x.at).0 ≡ key_of m
named_some pool o x m page is found same =
    let here : option_map (entry_of pool) (Some x) ≡ m = subst (λ (y : Option EntryPlace). option_map (entry_of pool) y ≡ m) is found in
    ap (λ (g : Page). Some (entry_at g.body.entries x.at).0) same ∙ ap key_of here
