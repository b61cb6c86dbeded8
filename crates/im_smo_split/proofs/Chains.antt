-- The pages that are to be split stay where a step changes none of them.
use Rattle.std.proofs.Common.{◌≡◌, ℕ, zero, suc, ◌+◌, ◌≤◌, ◌<◌, Bool, true, false, List, take, drop, sym, subst, arith, length-take, length-drop, get_or-take, get_or-drop}
use Rattle.im_base_types.specs.Keys.{Key}
use Rattle.im_base_types.specs.Pages.{Entry, Body}
use Rattle.im_theory_page.specs.Entry.{no_entry, entry_at, Rises}
use Rattle.im_theory_page.specs.Child.{IsChild}
use Rattle.im_theory_tree.specs.Levels.{Pages}
use Rattle.im_theory_tree.specs.Search.{IsOnWay}
use Rattle.im_theory_tree.specs.Halves.{LacksRoom}
use Rattle.im_theory_tree.specs.KeySplits.{is_leaf_level}
use Rattle.im_theory_tree.proofs.Cited.{way_leaf, way_inner, step_way}
use Rattle.im_smo_split.specs.PendingSplits.{PassesUp, SplitsDown}
use Rattle.im_smo_pages.specs.Parts.{IsPoint}

pub way_level : (pages : Pages) (k : ℕ) (key : Key) (p : ℕ) → IsOnWay pages k key p → (pages p).level ≡ k
way_level pages zero key p way = (way_leaf pages key p way).1
way_level pages (suc k) key p way = (way_inner pages k key p way).1

passes_stays : {dense : Bool} (pages new : Pages) (leaf : Bool) (c p : ℕ) → new c ≡ pages c → new p ≡ pages p → PassesUp dense pages leaf c p → PassesUp dense new leaf c p
passes_stays {dense} pages new leaf c p same_c same_p up = record {
  point = up.point;
  at = subst (λ (b : Body). IsPoint dense leaf b up.point) (sym same_c) up.at;
  lacks = subst (λ (b : Body). LacksRoom false b.entries ((entry_at (new c).entries up.point).0, 0)) (sym same_p)
      (subst (λ (b : Body). LacksRoom false (pages p).entries ((entry_at b.entries up.point).0, 0)) (sym same_c) up.lacks);
}

pub chain_stays : (dense : Bool) (pages new : Pages) (key : Key) (k p : ℕ) → ((j x : ℕ) → j ≤ k → IsOnWay pages j key x → new x ≡ pages x) → IsOnWay pages k key p → SplitsDown dense pages key k p → SplitsDown dense new key k p
chain_stays dense pages new key zero p same way splits = subst (λ (b : Body). LacksRoom true b.entries (key, 0)) (sym (same 0 p (omega arith) way)) splits
chain_stays dense pages new key (suc k) p same way splits = λ c child.
    let was : IsChild (pages p) key c = subst (λ (b : Body). IsChild b key c) (same (suc k) p (omega arith) way) child in
    let down : IsOnWay pages k key c = step_way pages k key p c way was in
    let both = splits c was in (
      passes_stays pages new (is_leaf_level k) c p (same k c (omega arith) down) (same (suc k) p (omega arith) way) both.0,
      chain_stays dense pages new key k c (λ j x le on. same j x (omega (arith, le)) on) down both.1,
    )

-- ---- parts of a page

pub front_rises : (es : List Entry) (n : ℕ) → Rises es → Rises (take n es)
front_rises es n rises i j lt within =
    let inside : j < n = omega (arith, length-take n es, within) in
    let at_i : entry_at (take n es) i ≡ entry_at es i = get_or-take n es i no_entry (omega (arith, lt, inside)) in
    let at_j : entry_at (take n es) j ≡ entry_at es j = get_or-take n es j no_entry inside in
    rw (at_i, at_j) (rises i j lt (omega (arith, length-take n es, within)))

pub rest_rises : (es : List Entry) (n : ℕ) → Rises es → Rises (drop n es)
rest_rises es n rises i j lt within =
    let at_i : entry_at (drop n es) i ≡ entry_at es (n + i) = get_or-drop n es i no_entry in
    let at_j : entry_at (drop n es) j ≡ entry_at es (n + j) = get_or-drop n es j no_entry in
    rw (at_i, at_j) (rises (n + i) (n + j) (omega (arith, lt)) (omega (arith, length-drop n es, within)))
