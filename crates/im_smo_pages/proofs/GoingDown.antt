-- After a split of a key's leaf among the images: its way leads to a leaf with room.
use Rattle.std.proofs.Common.{◌≡◌, ◌≢◌, ℕ, zero, suc, ◌≤◌, true, Bool, List, ◌∷◌, take, drop, Some, refl, sym, ap, subst, ◌∙◌, ⊎_elim}
use Rattle.im_base_types.specs.Keys.{Key, IsBelow}
use Rattle.im_base_types.specs.Pages.{Entry, Body}
use Rattle.im_theory_log.specs.Tree.{with_body}
use Rattle.im_base_types.specs.declared.page_kind.PageKind.TheVariants.{Leaf}
use Rattle.im_theory_page.specs.Entry.{entry_at, Rises}
use Rattle.im_theory_page.specs.Child.{IsChild}
use Rattle.im_theory_page.specs.Split.{HasRoomForAny}
use Rattle.im_theory_tree.specs.Levels.{Pages, height}
use Rattle.im_theory_tree.specs.Good.{AtOrAbove, IsGoodTree}
use Rattle.im_theory_tree.specs.Search.{IsOnWay}
use Rattle.im_theory_tree.specs.Halves.{SplitsWell}
use Rattle.im_theory_tree.specs.KeySplits.{KeepsWay}
use Rattle.im_theory_tree.proofs.Cited.{key_leaf_split, key_root_leaf_split, key_leaf_ways, key_root_leaf_ways, step_way}
use Rattle.im_smo_pages.specs.Bodies.{with_separator}
use Rattle.im_theory_page.specs.Header.{leaf_body}
use Rattle.im_smo_pages.specs.Images.{Numbered, Has, held}
use Rattle.im_smo_pages.specs.Changed.{linked_prev}
use Rattle.im_smo_pages.specs.OnImages.{PartsLeaf, PartsRootLeaf, Becomes}
use Rattle.im_theory_tree.specs.Ways.{KeepsWays}
use Rattle.im_smo_pages.specs.OnWay.{IsHalf, HasRoomIn}
use Rattle.im_smo_pages.proofs.Updates.{at_other}
use Rattle.im_smo_pages.proofs.LeafSplitSteps.{leaf_apart, leaf_step}
use Rattle.im_smo_pages.proofs.Beside.{place_on_way, beside}
use Rattle.im_smo_pages.proofs.RootSplitSteps.{root_leaf_step}
use Rattle.im_smo_pages.proofs.Becoming.{leaf_then_link}

-- both parts are among the images, so the one is in whose range the key lies
pub has_half : (new : List Numbered) (p q : ℕ) {s key : Key} {m : ℕ} → Has new p → Has new q → IsHalf s key p q m → Has new m
has_half new p q {s} {key} {m} left right half = ⊎_elim (λ (x : (m ≡ p) × IsBelow key s). subst (Has new) (sym x.0) left) (λ (x : (m ≡ q) × AtOrAbove (Some s) key). subst (Has new) (sym x.0) right) half

room_at : (old new : Pages) (spare : List ℕ) (key : Key) (es : List Entry) (p q n m : ℕ) → (new p).entries ≡ take n es → (new q).entries ≡ drop n es → SplitsWell true es n
    → KeepsWay old new spare zero key p q (entry_at es n).0 → (g : ℕ) → KeepsWays old new (λ x. x ≢ g) → IsHalf (entry_at es n).0 key p q m → HasRoomIn old new spare key g m
room_at old new spare key es p q n m left right well keeps g ways half =
    ⊎_elim
    (λ (x : (m ≡ p) × IsBelow key (entry_at es n).0). subst (HasRoomIn old new spare key g) (sym x.0) (record {
      good = keeps.good;
      walks = keeps.walks;
      ways = ways;
      way = keeps.low x.1;
      room = subst (HasRoomForAny true) (sym left) well.left_room;
    }))
    (λ (x : (m ≡ q) × AtOrAbove (Some (entry_at es n).0) key). subst (HasRoomIn old new spare key g) (sym x.0) (record {
      good = keeps.good;
      walks = keeps.walks;
      ways = ways;
      way = keeps.high x.1;
      room = subst (HasRoomForAny true) (sym right) well.right_room;
    }))
    half

pub leaf_has_room : {dense : Bool} (a b c : List Numbered) (page : Body) (parent p q n m : ℕ) (key : Key) (pages : Pages) (spare : List ℕ) → PartsLeaf dense a b page parent p q n
    → Becomes b c (λ h. linked_prev h page.next q) → Rises page.entries → IsHalf (entry_at page.entries n).0 key p q m
    → IsGoodTree (held pages a) (q ∷ spare) → IsOnWay (held pages a) (suc zero) key parent → IsChild (held pages a parent) key p → held pages a p ≡ page
    → HasRoomIn (held pages a) (held pages c) spare key p m
leaf_has_room {dense} a b c page parent p q n m key pages spare parts linked rises half good way goes page_is =
    subst (λ (y : Body). PartsLeaf dense a b y parent p q n → Becomes b c (λ h. linked_prev h y.next q) → Rises y.entries → IsHalf (entry_at y.entries n).0 key p q m
    → HasRoomIn (held pages a) (held pages c) spare key p m) page_is
    (λ parts0 linked0 rises0 half0.
    let new_is = leaf_then_link a b c (held pages a p) parent p q n pages parts0 linked0 refl in
    let split = leaf_step (held pages a) (held pages c) spare key parent p q n good way goes (parts0.rises pages) rises0 parts0.at new_is in
    let f = split.pages_split in
    room_at (held pages a) (held pages c) spare key (held pages a p).entries p q n m f.left_entries f.right_entries parts0.at.well
    (key_leaf_split (held pages a) (held pages c) spare key parent p q n split) p (key_leaf_ways (held pages a) (held pages c) spare key parent p q n split) half0)
    parts linked rises half

pub root_has_room : {dense : Bool} (a b : List Numbered) (page : Body) (l r n m : ℕ) (key : Key) (pages : Pages) (spare : List ℕ) → PartsRootLeaf dense a b page l r n → Rises page.entries
    → IsHalf (entry_at page.entries n).0 key l r m → IsGoodTree (held pages a) (l ∷ r ∷ spare) → height (held pages a) ≡ zero → held pages a 1 ≡ page
    → HasRoomIn (held pages a) (held pages b) spare key 1 m
root_has_room {dense} a b page l r n m key pages spare parts rises half good tall page_is =
    subst (λ (y : Body). PartsRootLeaf dense a b y l r n → Rises y.entries → IsHalf (entry_at y.entries n).0 key l r m → HasRoomIn (held pages a) (held pages b) spare key 1 m) page_is
    (λ parts0 rises0 half0.
    let split = root_leaf_step (held pages a) (held pages b) spare l r n good tall rises0 parts0.at (parts0.pages pages refl) in
    let f = split.pages_split in
    room_at (held pages a) (held pages b) spare key (held pages a 1).entries l r n m f.left_entries f.right_entries parts0.at.well
    (key_root_leaf_split (held pages a) (held pages b) spare key l r n split) 1 (key_root_leaf_ways (held pages a) (held pages b) spare l r n split) half0)
    parts rises half

-- the leaf after a leaf that is split is a leaf still
pub next_still_leaf : {dense : Bool} (a b : List Numbered) (page : Body) (parent p q n : ℕ) (key : Key) (pages : Pages) (spare : List ℕ) → PartsLeaf dense a b page parent p q n
    → IsGoodTree (held pages a) (q ∷ spare) → IsOnWay (held pages a) (suc zero) key parent → IsChild (held pages a parent) key p → held pages a p ≡ page
    → 1 ≤ page.next → (held pages b page.next).kind ≡ Leaf
next_still_leaf {dense} a b page parent p q n key pages spare parts good way goes page_is =
    subst (λ (y : Body). PartsLeaf dense a b y parent p q n → 1 ≤ y.next → (held pages b y.next).kind ≡ Leaf) page_is
    (λ parts0 some.
    let h : Pages = held pages a in
    let apart = leaf_apart h spare key parent p q good way goes in
    let near = beside h (q ∷ spare) p good (place_on_way h key p (step_way h zero key parent p way goes)) in
    let above : Body = with_separator (h parent) (entry_at (h p).entries n).0 q in
    let right : Body = leaf_body p (h p).next (drop n (h p).entries) in
    let left : Body = leaf_body (h p).prev q (take n (h p).entries) in
    let same : held pages b (h p).next ≡ h (h p).next =
    parts0.pages pages refl (h p).next
    ∙ at_other (with_body (with_body h parent above) q right) p left (h p).next (λ e. apart.next_left some (sym e))
    ∙ at_other (with_body h parent above) q right (h p).next (λ e. apart.next_right some (sym e))
    ∙ at_other h parent above (h p).next (λ e. apart.next_parent some (sym e)) in
    ap (λ (c : Body). c.kind) same ∙ near.next_kind some)
    parts
