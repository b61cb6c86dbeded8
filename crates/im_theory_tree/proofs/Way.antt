-- One step down on the way to a key.
use Rattle.std.proofs.Common.{◌+◌, ◌<◌, length, take, drop, ⊎_elim, take-append-drop, ◌≡◌, ◌⊎◌, ℕ, zero, suc, List, [], ◌∷◌, ◌++◌, Some, None, map, refl, sym, ap, subst, ◌∙◌, append_assoc}
use Rattle.std.proofs.lemmas.List.{map-append, drop_more}
use Rattle.std.proofs.lemmas.List.Concat.{flat_map-append}
use Rattle.im_theory_page.specs.Child.{StartAbove, IsChild}
use Rattle.im_theory_page.specs.Entry.{entry_at, no_entry}
use Rattle.im_base_types.specs.Keys.{Key, IsBelow}
use Rattle.im_theory_tree.specs.Good.{HaveLevels, AtOrAbove, IsUnder, next_bound, IsGoodTree}
use Rattle.im_theory_tree.specs.Levels.{Pages, Node, child_of, children, below, leaves_under, height, descend, lifted, the_root}
use Rattle.im_theory_tree.specs.Search.{IsOnWay}
use Rattle.im_base_types.specs.Pages.{Entry}

pub under_next : (pages : Pages) (key : List ℕ) (v : List Entry) (right : List Node) → StartAbove key v → IsUnder key (next_bound right)
    → IsUnder key (next_bound (map child_of v ++ below pages right))
under_next pages key [] [] a u = tt
under_next pages key [] (n ∷ right) a u = u
under_next pages key (e ∷ v) right a u = a

pub descend_more : (pages : Pages) (d : ℕ) (ns : List Node) → descend pages (suc d) ns ≡ below pages (descend pages d ns)
descend_more pages zero ns = refl
descend_more pages (suc d) ns = descend_more pages d (below pages ns)

pub lifted_more : (d k : ℕ) → lifted d (suc k) ≡ lifted (suc d) k
lifted_more zero k = refl
lifted_more (suc d) k = ap suc (lifted_more d k)

-- a child, among the level below
pub step_to : (pages : Pages) (k : ℕ) (key : List ℕ) (p : ℕ) (h : IsOnWay pages (suc k) key p) (x : List Node) (c : Node) (v : List Entry)
    → children pages h.node ≡ x ++ c ∷ map child_of v → AtOrAbove c.bound key → StartAbove key v → IsOnWay pages k key c.page
step_to pages k key p h x c v split at above =
    let level : below pages (h.left ++ h.node ∷ h.right) ≡ (below pages h.left ++ x) ++ c ∷ (map child_of v ++ below pages h.right) =
    flat_map-append (children pages) h.left (h.node ∷ h.right)
    ∙ ap (λ cs. below pages h.left ++ (cs ++ below pages h.right)) split
    ∙ ap (λ cs. below pages h.left ++ cs) (append_assoc x (c ∷ map child_of v) (below pages h.right))
    ∙ sym (append_assoc (below pages h.left) x (c ∷ (map child_of v ++ below pages h.right))) in
    record {
      above = suc h.above;
      tall = h.tall ∙ lifted_more h.above k;
      down = descend_more pages h.above the_root ∙ ap (below pages) h.down ∙ level;
      left = below pages h.left ++ x;
      node = c;
      right = map child_of v ++ below pages h.right;
      page = refl;
      leaves = ap (leaves_under pages k) (sym level) ∙ h.leaves;
      levels = subst (HaveLevels pages k) level h.levels.1;
      at = at;
      under = under_next pages key v h.right above h.under;
    }

-- to the leftmost child, where all separators are above the key
pub step_leftmost : (pages : Pages) (k : ℕ) (key : List ℕ) (p : ℕ) → IsOnWay pages (suc k) key p → StartAbove key (pages p).entries
    → IsOnWay pages k key (pages p).leftmost
step_leftmost pages k key p h above =
    let c : Node = record { bound = h.node.bound; page = (pages p).leftmost } in
    let split : children pages h.node ≡ [] ++ c ∷ map child_of (pages p).entries =
    ap (λ x. record { bound = h.node.bound; page = (pages x).leftmost } ∷ map child_of (pages x).entries) h.page in
    step_to pages k key p h [] c (pages p).entries split h.at above

-- to the child of the last separator that is not above the key
pub step_child : (pages : Pages) (k : ℕ) (key : List ℕ) (p : ℕ) (u : List Entry) (e : Entry) (v : List Entry) → IsOnWay pages (suc k) key p
    → (pages p).entries ≡ u ++ e ∷ v → AtOrAbove (Some e.0) key → StartAbove key v → IsOnWay pages k key e.1
step_child pages k key p u e v h is at above =
    let x : List Node = record { bound = h.node.bound; page = (pages p).leftmost } ∷ map child_of u in
    let split : children pages h.node ≡ x ++ child_of e ∷ map child_of v =
    ap (λ y. record { bound = h.node.bound; page = (pages y).leftmost } ∷ map child_of (pages y).entries) h.page
    ∙ ap (λ es. record { bound = h.node.bound; page = (pages p).leftmost } ∷ es) (ap (map child_of) is ∙ map-append child_of u (e ∷ v)) in
    step_to pages k key p h x (child_of e) v split at above

-- the root is on the way to each key
pub way_begins : (pages : Pages) (spare : List ℕ) (key : Key) → IsGoodTree pages spare → IsOnWay pages (height pages) key 1
way_begins pages spare key good = record {
  above = zero;
  tall = refl;
  down = refl;
  left = [];
  node = record { bound = None; page = 1 };
  right = [];
  page = refl;
  leaves = refl;
  levels = good.levels;
  at = tt;
  under = tt;
}

pub split_at : (es : List Entry) (i : ℕ) → i < length es → es ≡ take i es ++ entry_at es i ∷ drop (i + 1) es
split_at es i lt = sym (take-append-drop i es) ∙ ap (λ t. take i es ++ t) (drop_more es i no_entry lt)

-- from a page to the child that holds the key
pub step_way : (pages : Pages) (k : ℕ) (key : Key) (p child : ℕ) → IsOnWay pages (suc k) key p → IsChild (pages p) key child → IsOnWay pages k key child
step_way pages k key p child way is =
    ⊎_elim
    (λ (x : (child ≡ (pages p).leftmost) × StartAbove key (pages p).entries).
    subst (IsOnWay pages k key) (sym x.0) (step_leftmost pages k key p way x.1))
    (λ (x : (i : ℕ) × (i < length (pages p).entries) × (child ≡ (entry_at (pages p).entries i).1)
    × (((entry_at (pages p).entries i).0 ≡ key) ⊎ IsBelow (entry_at (pages p).entries i).0 key) × StartAbove key (drop (i + 1) (pages p).entries)).
    subst (IsOnWay pages k key) (sym x.2)
    (step_child pages k key p (take x.0 (pages p).entries) (entry_at (pages p).entries x.0) (drop (x.0 + 1) (pages p).entries) way (split_at (pages p).entries x.0 x.1) x.3 x.4))
    is
