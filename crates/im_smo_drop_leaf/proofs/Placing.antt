-- From a page on a key's way to its child.
use Rattle.std.proofs.Common.{◌≡◌, ◌≢◌, ◌⊎◌, ℕ, suc, List, [], ◌∷◌, ◌++◌, inl, inr, ⊎_elim, refl, sym, ap, subst, ◌∙◌, append_assoc}
use Rattle.std.proofs.lemmas.Bool.{cases_eq}
use Rattle.im_base_types.specs.Keys.{Key}
use Rattle.im_theory_tree.specs.Levels.{Pages, height}
use Rattle.im_theory_tree.specs.Good.{IsGoodTree}
use Rattle.im_theory_tree.specs.Search.{IsOnWay}
use Rattle.im_theory_tree.specs.KeyDeletions.{HasNone, chain_down, leaf_down}
use Rattle.im_theory_tree.proofs.Way.{step_way, way_begins}
use Rattle.im_tree_search.specs.declared.child_place.ChildPlace.{ChildPlace}
use Rattle.im_tree_search.specs.declared.child_place.ChildPlace.TheVariants.{Entry, Leftmost, Only}
use Rattle.im_tree_search.specs.declared.child_place.Child.{Child}
use Rattle.im_smo_drop_leaf.specs.declared.way.Place.{Place}
use Rattle.im_tree_search.specs.Children.{StandsAt, IsChildOf}
use Rattle.im_smo_drop_leaf.specs.Chains.{OnlyUnderRoot}
use Rattle.im_smo_drop_leaf.specs.Ways.{Hangs, IsPlaced, IsNext}

-- a page with one child joins the chain
joined : (pages : Pages) (key : Key) (parent : ℕ) (place : ChildPlace) (k n : ℕ) (above : List ℕ) (c : ℕ) → Hangs pages key parent place (suc k) n above → StandsAt (pages n) Only c
    → Hangs pages key parent place k c (above ++ n ∷ [])
joined pages key parent place k n above c hangs at = record {
  h = hangs.h;
  p = hangs.p;
  up = hangs.up;
  at = hangs.at;
  root = hangs.root;
  none = λ under. hangs.none (at.0, subst (HasNone pages k) (sym at.1) under);
  chain = hangs.chain ∙ ap (λ (x : ℕ). above ++ n ∷ chain_down pages k x) at.1 ∙ sym (append_assoc above (n ∷ []) (chain_down pages k c));
  leaf = hangs.leaf ∙ ap (leaf_down pages k) at.1;
}

-- any other begins one
begun : (pages : Pages) (key : Key) (k n : ℕ) (place : ChildPlace) (c : ℕ) → IsOnWay pages (suc k) key n → StandsAt (pages n) place c → OnlyUnderRoot place n → Hangs pages key n place k c []
begun pages key k n place c way at root = record { h = k; p = c; up = way; at = at; root = root; none = λ under. under; chain = refl; leaf = refl }

-- the same chain, under other names
renamed : (pages : Pages) (key : Key) (k : ℕ) (parent q : ℕ) (place r : ChildPlace) (n m : ℕ) (above more : List ℕ) → q ≡ parent → r ≡ place → m ≡ n → more ≡ above → Hangs pages key parent place k n above
    → Hangs pages key q r k m more
renamed pages key k parent q place r n m above more is_q is_r is_m is_more hangs =
    subst (λ (x : ℕ). Hangs pages key x r k m more) (sym is_q)
    (subst (λ (x : ChildPlace). Hangs pages key parent x k m more) (sym is_r)
    (subst (λ (x : ℕ). Hangs pages key parent place k x more) (sym is_m) (subst (λ (x : List ℕ). Hangs pages key parent place k n x) (sym is_more) hangs)))

only_or : (place : ChildPlace) → (place ≡ Only) ⊎ (place ≢ Only)
only_or Only = inl refl
only_or Leftmost = inr (λ e. cc)
only_or (Entry i) = inr (λ e. cc)

-- a child beside others may hang from any page
under_any : (place : ChildPlace) (n : ℕ) → place ≢ Only → OnlyUnderRoot place n
under_any Only n other = absurd (other refl)
under_any Leftmost n other = tt
under_any (Entry i) n other = tt

-- and each child from the root
under_root : (place : ChildPlace) (n : ℕ) → n ≡ 1 → OnlyUnderRoot place n
under_root Only n is = is
under_root Leftmost n is = tt
under_root (Entry i) n is = tt

begins_chain : (pages : Pages) (key : Key) (k : ℕ) (place : Place) (child : Child) (next : Place) (above more : List ℕ) → IsOnWay pages (suc k) key place.number → IsChildOf (pages place.number) key child
    → IsNext place child next above more → (child.place ≢ Only) ⊎ (place.number ≡ 1) → OnlyUnderRoot child.place place.number → Hangs pages key next.parent next.place k next.number more
begins_chain pages key k place child next above more way is to case root =
    let e = to.begins case in
    renamed pages key k place.number next.parent child.place next.place child.number next.number [] more e.0 e.1 to.number e.2 (begun pages key k place.number child.place child.number way is.at root)

-- FROM A PAGE TO ITS CHILD
pub placed : (pages : Pages) (key : Key) (k : ℕ) (place : Place) (child : Child) (next : Place) (above more : List ℕ) → IsPlaced pages key place.parent place.place (suc k) place.number above
    → IsChildOf (pages place.number) key child → IsNext place child next above more → IsPlaced pages key next.parent next.place k next.number more
placed pages key k place child next above more was is to = record {
  way = subst (IsOnWay pages k key) (sym to.number) (step_way pages k key place.number child.number was.way is.way);
  from = inr (⊎_elim
      (λ (only : child.place ≡ Only).
      elim (cases_eq place.number 1) [
        | inl root ↦ begins_chain pages key k place child next above more was.way is to (inr root) (under_root child.place place.number root)
        | inr other ↦ joins_chain only other
      ])
      (λ (more_there : child.place ≢ Only). begins_chain pages key k place child next above more was.way is to (inl more_there) (under_any child.place place.number more_there))
      (only_or child.place));
}
  where
    hangs_there : place.number ≢ 1 → Hangs pages key place.parent place.place (suc k) place.number above
    hangs_there other = ⊎_elim (λ (root : place.number ≡ 1). absurd (other root)) (λ (hangs : Hangs pages key place.parent place.place (suc k) place.number above). hangs) was.from

    joins_chain : child.place ≡ Only → place.number ≢ 1 → Hangs pages key next.parent next.place k next.number more
    joins_chain only other =
        let e = to.joins only other in
        renamed pages key k place.parent next.parent place.place next.place child.number next.number (above ++ place.number ∷ []) more e.0 e.1 to.number e.2
        (joined pages key place.parent place.place k place.number above child.number (hangs_there other) (subst (λ (x : ChildPlace). StandsAt (pages place.number) x child.number) only is.at))

-- the root is where the way begins
pub root_placed : (pages : Pages) (key : Key) (level : ℕ) (place : Place) (above : List ℕ) → IsGoodTree pages [] → level ≡ height pages → place.number ≡ 1 → IsPlaced pages key place.parent place.place level place.number above
root_placed pages key level place above good tall one = record {
  way = subst (λ (x : ℕ). IsOnWay pages level key x) (sym one) (subst (λ (h : ℕ). IsOnWay pages h key 1) (sym tall) (way_begins pages [] key good));
  from = inl one;
}
