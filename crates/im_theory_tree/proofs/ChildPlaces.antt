-- The place of a child among its parent's children, and a separator put in after it.
use Rattle.std.proofs.Common.{◌≡◌, ◌⊎◌, ℕ, ◌+◌, ◌<◌, List, [], ◌∷◌, ◌++◌, length, map, take, drop, Some, refl, sym, ap, ap₂, subst, ◌∙◌, append_assoc, ⊎_elim}
use Rattle.std.proofs.lemmas.List.{map-append}
use Rattle.std.proofs.lemmas.List.Concat.{flat_map-append}
use Rattle.im_base_types.specs.Keys.{Key, IsBelow}
use Rattle.im_base_types.specs.Pages.{Entry}
use Rattle.im_base_types.specs.Maps.{with_key}
use Rattle.im_theory_page.specs.Entry.{entry_at}
use Rattle.im_theory_page.specs.Child.{StartAbove, IsChild}
use Rattle.im_theory_page.proofs.Order.{below_trans}
use Rattle.im_theory_tree.specs.Levels.{Pages, Node, child_of, children, below}
use Rattle.im_theory_tree.specs.Good.{AllOf, AtOrAbove, IsUnder, next_bound, IsAfter}
use Rattle.im_theory_tree.specs.Splits.{PutsSeparator}
use Rattle.im_theory_tree.specs.KeySplits.{AddsSeparator}
use Rattle.im_theory_tree.proofs.Frame.{AllOf-append}
use Rattle.im_theory_tree.proofs.Order.{AllOf-from}
use Rattle.im_theory_tree.proofs.Way.{split_at}
use Rattle.im_theory_tree.proofs.KeyLemmas.{put_behind, put_before}
use Rattle.im_theory_tree.proofs.Ascent.{Ascends}
use Rattle.im_theory_tree.proofs.HalvesLemmas.{ascends_before, ascends_after}

-- the first child of a page
abbrev pub first_child : Pages → Node → Node
first_child pages n = record { bound = n.bound; page = (pages n.page).leftmost }

-- child c, on the way of a key, stands after the entries u of its parent and before the entries v
pub record ChildPlace (pages : Pages) (parent : Node) (key : Key) (p : ℕ) : Type 0 where
  pub u : List Entry
  pub v : List Entry
  pub before : List Node
  pub c : Node
  pub entries : (pages parent.page).entries ≡ u ++ v
  pub front : first_child pages parent ∷ map child_of u ≡ before ++ c ∷ []
  pub page : c.page ≡ p
  pub reached : AtOrAbove c.bound key
  pub above : StartAbove key v
  pub low : (s : Key) → Ascends (u ++ v) → IsAfter c.bound (Some s) → AllOf (λ (x : Entry). IsBelow x.0 s) u

low_behind : (w : List Entry) (e : Entry) (v : List Entry) (s : Key) → Ascends ((w ++ e ∷ []) ++ v) → IsBelow e.0 s → AllOf (λ (x : Entry). IsBelow x.0 s) (w ++ e ∷ [])
low_behind w e v s up less =
    let all : AllOf (λ (x : Entry). IsBelow x.0 e.0) w = ascends_before w e v (subst Ascends (append_assoc w (e ∷ []) v) up) in
    AllOf-append (λ (x : Entry). IsBelow x.0 s) w (e ∷ []) (AllOf-from (λ (x : Entry). IsBelow x.0 e.0) (λ (x : Entry). IsBelow x.0 s) (λ x h. below_trans x.0 e.0 s h less) w all) (less, tt)

pub child_place : (pages : Pages) (parent : Node) (key : Key) (p : ℕ) → AtOrAbove parent.bound key → IsChild (pages parent.page) key p → ChildPlace pages parent key p
child_place pages parent key p at is =
    ⊎_elim
    (λ (x : (p ≡ (pages parent.page).leftmost) × StartAbove key (pages parent.page).entries). record {
      u = [];
      v = (pages parent.page).entries;
      before = [];
      c = first_child pages parent;
      entries = refl;
      front = refl;
      page = sym x.0;
      reached = at;
      above = x.1;
      low = λ s up less. tt;
    })
    (λ (x : (i : ℕ) × (i < length (pages parent.page).entries) × (p ≡ (entry_at (pages parent.page).entries i).1)
    × (((entry_at (pages parent.page).entries i).0 ≡ key) ⊎ IsBelow (entry_at (pages parent.page).entries i).0 key) × StartAbove key (drop (i + 1) (pages parent.page).entries)).
    let es = (pages parent.page).entries in
    let w : List Entry = take x.0 es in
    let e : Entry = entry_at es x.0 in
    let v : List Entry = drop (x.0 + 1) es in
    record {
      u = w ++ e ∷ [];
      v = v;
      before = first_child pages parent ∷ map child_of w;
      c = child_of e;
      entries = split_at es x.0 x.1 ∙ sym (append_assoc w (e ∷ []) v);
      front = ap (λ ns. first_child pages parent ∷ ns) (map-append child_of w (e ∷ []));
      page = sym x.2;
      reached = x.3;
      above = x.4;
      low = λ s up less. low_behind w e v s up less;
    })
    is

pub children_were : (pages : Pages) (parent : Node) (u v : List Entry) (before : List Node) (c : Node) → (pages parent.page).entries ≡ u ++ v
    → first_child pages parent ∷ map child_of u ≡ before ++ c ∷ [] → children pages parent ≡ before ++ c ∷ map child_of v
children_were pages parent u v before c entries front =
    ap (λ es. first_child pages parent ∷ map child_of es) entries
    ∙ ap (λ ns. first_child pages parent ∷ ns) (map-append child_of u v)
    ∙ ap (λ ns. ns ++ map child_of v) front
    ∙ append_assoc before (c ∷ []) (map child_of v)

pub children_now : (pages new : Pages) (parent : Node) (u v : List Entry) (before : List Node) (c : Node) (e : Entry) → (new parent.page).entries ≡ u ++ e ∷ v
    → (new parent.page).leftmost ≡ (pages parent.page).leftmost
    → first_child pages parent ∷ map child_of u ≡ before ++ c ∷ [] → children new parent ≡ before ++ c ∷ child_of e ∷ map child_of v
children_now pages new parent u v before c e entries leftmost front =
    ap₂ (λ (l : ℕ) (es : List Entry). record { bound = parent.bound; page = l } ∷ map child_of es) leftmost entries
    ∙ ap (λ ns. first_child pages parent ∷ ns) (map-append child_of u (e ∷ v))
    ∙ ap (λ ns. ns ++ child_of e ∷ map child_of v) front
    ∙ append_assoc before (c ∷ []) (child_of e ∷ map child_of v)

-- the keys after a separator that is under the next bound are above it
pub high_behind : (u v : List Entry) (s : Key) (rest : List Node) → Ascends (u ++ v) → IsUnder s (next_bound (map child_of v ++ rest)) → AllOf (λ (x : Entry). IsBelow s x.0) v
high_behind u [] s rest up under = tt
high_behind u (e ∷ v) s rest up under =
    (under, AllOf-from (λ (x : Entry). IsBelow e.0 x.0) (λ (x : Entry). IsBelow s x.0) (λ x h. below_trans s e.0 x.0 under h) v (ascends_after u e v up))

-- the parent's entries with the separator
pub entries_now : (pages new : Pages) (parent : ℕ) (u v : List Entry) (s : Key) (q : ℕ) → (pages parent).entries ≡ u ++ v → (new parent).entries ≡ with_key s q (pages parent).entries
    → AllOf (λ (x : Entry). IsBelow x.0 s) u → AllOf (λ (x : Entry). IsBelow s x.0) v → (new parent).entries ≡ u ++ (s, q) ∷ v
entries_now pages new parent u v s q was now low high =
    now ∙ ap (with_key s q) was ∙ put_behind s q u v low ∙ ap (λ (es : List Entry). u ++ es) (put_before s q v high)

-- the level below a parent, around one of its children
pub below_at : (pages : Pages) (a b : List Node) (parent : Node) (before : List Node) (c : Node) (after : List Node) → children pages parent ≡ before ++ c ∷ after
    → below pages (a ++ parent ∷ b) ≡ (below pages a ++ before) ++ c ∷ (after ++ below pages b)
below_at pages a b parent before c after were =
    flat_map-append (children pages) a (parent ∷ b)
    ∙ ap (λ cs. below pages a ++ (cs ++ below pages b)) were
    ∙ ap (λ cs. below pages a ++ cs) (append_assoc before (c ∷ after) (below pages b))
    ∙ sym (append_assoc (below pages a) before (c ∷ (after ++ below pages b)))

-- the separator put in after the child
pub separator_put : (pages new : Pages) (parent : Node) (key : Key) (p q : ℕ) (s : Key) (b : List Node) (place : ChildPlace pages parent key p) → Ascends (pages parent.page).entries
    → AddsSeparator pages new parent.page s q → IsAfter place.c.bound (Some s) → IsUnder s (next_bound (map child_of place.v ++ below pages b))
    → PutsSeparator pages new parent place.before (map child_of place.v) place.c (s, q)
separator_put pages new parent key p q s b place up adds after under =
    let ups : Ascends (place.u ++ place.v) = subst Ascends place.entries up in
    record {
      was = children_were pages parent place.u place.v place.before place.c place.entries place.front;
      now = children_now pages new parent place.u place.v place.before place.c (s, q)
          (entries_now pages new parent.page place.u place.v s q place.entries adds.entries (place.low s ups after) (high_behind place.u place.v s (below pages b) ups under))
          adds.leftmost place.front;
    }
