-- What a search found on the walk, as the rows of the lock table ask it of the map.
use Rattle.std.proofs.Common.{◌≡◌, ◌<◌, ℕ, Bool, true, false, List, Option, None, Some, is_some, refl, sym, ◌∙◌, ap, subst, length, take}
use Rattle.std.specs.Prelude.{option_map, IfSome}
use Rattle.std.specs.FinMap.{entries, get}
use Rattle.std.specs.FinMap.Entries.{find}
use Rattle.im_base_types.specs.Keys.{Key, key_order}
use Rattle.im_base_types.specs.Pages.{Entry, Page}
use Rattle.im_base_types.specs.Maps.{IndexMap, Start, From, Above, first, first_in, last_below, last_in}
use Rattle.im_base_types.specs.Answers.{Seek, Next, answer, entry, limit_of, scan}
use Rattle.im_base_types.proofs.Maps.{sorted_find}
use Rattle.im_page_pool.specs.Pool.{PoolView, page_at}
use Rattle.im_theory_tree.specs.Levels.{walk}
use Rattle.im_tree_search.specs.declared.next_key.NextKey.{NextKey}
use Rattle.im_tree_search.specs.declared.next_key.NextKey.TheVariants.{Here, There, End}
use Rattle.im_theory_page.specs.Entry.{entry_at}
use Rattle.im_tree_search.specs.declared.entry_place.EntryPlace.{EntryPlace}
use Rattle.im_tree_search.specs.Found.{entries_of, entry_of}
use Rattle.im_tree_search.specs.NextKeys.{next_name as next_key_name, far_name, IsFar}
use Rattle.im_tree_search.specs.Ranges.{IsRange, key_if, within}
use Rattle.im_theory_machine.specs.Locks.{Name, Request}
use Rattle.im_theory_machine.specs.Rows.{asked, name_of, next_name}
use Rattle.im_engine_locks.specs.Found.{FindsNextName, FindsBelow, FindsNext, IsScanOf, name_below}
use Rattle.im_tree_search.specs.Levels.{start_at}
use Rattle.im_engine_access.specs.LockAnswers.{name_in, name_behind, seek_at}

-- what the walk has of a key, the map has
pub found_is : (m : IndexMap) (es : List Entry) (key : Key) (rid : Option ℕ) → es ≡ entries m → rid ≡ find key_order key es → get m key ≡ rid
found_is m es key rid same is = sorted_find m key ∙ ap (λ (xs : List Entry). find key_order key xs) (sym same) ∙ sym is

pub first_is : (s : Start) (m : IndexMap) (es : List Entry) → es ≡ entries m → first_in s es ≡ first s m
unfolding first
first_is s m es same = ap (first_in s) same

pub last_is : (key : Key) (m : IndexMap) (es : List Entry) → es ≡ entries m → last_in key es ≡ last_below key m
unfolding last_below
last_is key m es same = ap (last_in key) same

-- the name of the next key
same_name : (pool : PoolView) (p : ℕ) (next : NextKey) (o : Option Entry) → next_key_name pool p next ≡ option_map (λ (e : Entry). e.0) o → name_in (entries_of pool p) next ≡ name_of o
same_name pool p (Here i) None is = cc
same_name pool p (Here i) (Some e) is = cc
same_name pool p (There key) None is = cc
same_name pool p (There key) (Some e) is = cc
same_name pool p End None is = refl
same_name pool p End (Some e) is = cc

pub next_is : (m : IndexMap) (es : List Entry) (key : Key) (pool : PoolView) (p : ℕ) (next : NextKey) → es ≡ entries m → next_key_name pool p next ≡ option_map (λ (e : Entry). e.0) (first_in (Above key) es)
    → name_in (entries_of pool p) next ≡ next_name m key
next_is m es key pool p next same is = same_name pool p next (first_in (Above key) es) is ∙ ap name_of (first_is (Above key) m es same)

pub finds_there : (m : IndexMap) (key : Key) (rid : ℕ) (next : Name) → get m key ≡ Some rid → FindsNextName m key true next
finds_there m key rid next is = record { there_is = ap is_some is; next_is = λ never. let clash : true ≡ false = never in cc clash }

pub finds_gap : (m : IndexMap) (key : Key) (next : Name) → get m key ≡ None → next ≡ next_name m key → FindsNextName m key false next
finds_gap m key next none is = record { there_is = ap is_some none; next_is = λ _. is }

pub finds_below : (m : IndexMap) (es : List Entry) (key : Key) (below next : Option Entry) (found : Option Name) (name : Name) → es ≡ entries m → below ≡ last_in key es → next ≡ first_in (From key) es → found ≡ name_below below → name ≡ name_of next
    → FindsBelow m key found name
finds_below m es key below next found name same last first found_is next_is = record {
  found_is = found_is ∙ ap name_below (last ∙ last_is key m es same);
  next_is = next_is ∙ ap name_of (first ∙ first_is (From key) m es same);
}

-- the name after a range
same_behind : (o : Option Entry) (behind : Option NextKey) → IfSome behind IsFar → option_map far_name behind ≡ Some (key_if o) → name_behind behind ≡ Some (name_of o)
same_behind o None far is = cc
same_behind o (Some (Here i)) far is = absurd far
same_behind None (Some (There key)) far is = cc
same_behind (Some e) (Some (There key)) far is = cc
same_behind None (Some End) far is = refl
same_behind (Some e) (Some End) far is = cc

none_behind : (behind : Option NextKey) → behind ≡ None → name_behind behind ≡ None
none_behind behind is = ap name_behind is

pub scan_is : (m : IndexMap) (es : List Entry) (lo hi : Key) (n limit : ℕ) (list : List Entry) (behind : Option NextKey) → es ≡ entries m → limit ≡ limit_of n → IfSome behind IsFar → IsRange es lo hi limit list behind
    → IsScanOf m lo hi n list (name_behind behind)
scan_is m es lo hi n limit list behind same bound far range = record {
  entries = subst (λ (k : ℕ). list ≡ scan lo hi k m) bound (subst (λ (xs : List Entry). list ≡ take limit (within lo hi xs)) same range.entries);
  none = λ less. none_behind behind (range.none less);
  fewer = λ not_less few. same_behind (first_in (Above hi) es) behind far (range.fewer not_less (subst (λ (k : ℕ). length list < k) (sym bound) few)) ∙ ap (λ (o : Option Entry). Some (name_of o)) (first_is (Above hi) m es same);
  full = λ long. none_behind behind (range.full (long ∙ sym bound));
}

-- ---- the entry at a place

pub none_found : (pool : PoolView) (o : Option EntryPlace) (m : Option Entry) → ((x : EntryPlace) → o ≡ Some x → ⊥) → option_map (entry_of pool) o ≡ m → None ≡ m
none_found pool None m not_some is = is
none_found pool (Some x) m not_some is = absurd (not_some x refl)

pub some_found : (pool : PoolView) (o : Option EntryPlace) (x : EntryPlace) (m : Option Entry) (page : Page) → o ≡ Some x → option_map (entry_of pool) o ≡ m → page ≡ page_at pool x.frame.number
    → Some (entry_at page.body.entries x.at) ≡ m
some_found pool o x m page is found same =
    let here : option_map (entry_of pool) (Some x) ≡ m = subst (λ (y : Option EntryPlace). option_map (entry_of pool) y ≡ m) is found in
    ap (λ (g : Page). Some (entry_at g.body.entries x.at)) same ∙ here

-- ---- what a search from a key on asks and answers

pub option_none : {X : Type 0} (o : Option X) → ((x : X) → o ≡ Some x → ⊥) → o ≡ None
option_none None not_some = refl
option_none (Some x) not_some = absurd (not_some x refl)

pub seek_asks : (m : IndexMap) (key : Key) (inclusive : Bool) (asks : List Request) (name : Name) (found : Option Entry)
    → ((k : Key) → name ≡ name_of (first (From k) m) → asks ≡ asked (Seek k) m) → ((k : Key) → name ≡ next_name m k → asks ≡ asked (Next k) m)
    → name ≡ name_of found → found ≡ first (start_at inclusive key) m → asks ≡ asked (seek_at inclusive key) m
seek_asks m key true asks name found seek next is at = seek key (is ∙ ap name_of at)
seek_asks m key false asks name found seek next is at = next key (is ∙ ap name_of at)

pub seek_says : (m : IndexMap) (key : Key) (inclusive : Bool) (found : Option Entry) → found ≡ first (start_at inclusive key) m → entry found ≡ answer (seek_at inclusive key) m
seek_says m key true found at = ap entry at
seek_says m key false found at = ap entry at

-- ---- what a change finds

pub finds_both : (m : IndexMap) (key : Key) (there : Bool) (next : Name) → is_some (get m key) ≡ there → next ≡ next_name m key → FindsNext m key there next
finds_both m key there next is at = record { there_is = is; next_is = at }
