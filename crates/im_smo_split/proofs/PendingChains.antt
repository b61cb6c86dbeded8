-- From one pending split to the next.
use Rattle.std.proofs.Common.{◌≡◌, ◌≢◌, ℕ, zero, suc, ◌+◌, ◌≤◌, ◌<◌, true, false, Bool, List, [], ◌∷◌, take, drop, Some, sym, ap, subst, ◌∙◌, arith}
use Rattle.im_base_types.specs.Keys.{Key, IsBelow}
use Rattle.im_base_types.specs.Pages.{Body}
use Rattle.im_theory_log.specs.Tree.{with_body, with_entries}
use Rattle.im_base_types.specs.declared.page_kind.PageKind.TheVariants.{Leaf, Inner}
use Rattle.im_theory_page.specs.Entry.{entry_at, Rises}
use Rattle.im_theory_page.specs.Child.{IsChild}
use Rattle.im_theory_page.specs.Split.{HasRoom, HasRoomForAny}
use Rattle.im_theory_tree.specs.Levels.{Pages, walk}
use Rattle.im_theory_tree.specs.Same.{SameTree}
use Rattle.im_theory_tree.specs.Good.{AtOrAbove, times, IsGoodTree}
use Rattle.im_theory_tree.specs.Search.{IsOnWay}
use Rattle.im_theory_tree.specs.Halves.{FitsPage, SplitsWell}
use Rattle.im_theory_tree.specs.KeySplits.{is_leaf_level, HasRoomOnWay, KeepsWay, SplitsKeyLeaf, SplitsKeyInner, SplitsKeyRootLeaf, SplitsKeyRootInner}
use Rattle.im_theory_tree.proofs.Cited.{step_way, way_begins, way_stays, way_leaf, way_inner, way_known, key_inner_split, key_root_leaf_split, key_root_inner_split, room_of_parts, key_leaf_split, child_in_left, child_in_right, key_inner_ways, key_root_inner_ways}
use Rattle.im_smo_pages.specs.Bodies.{inner_body, with_separator, raised}
use Rattle.im_theory_tree.specs.Ways.{KeepsAllWays}
use Rattle.im_smo_pages.specs.Parts.{SplitsAt, CanHalve, CanSplit, split_bound, IsPoint}
use Rattle.im_smo_pages.specs.Changed.{SamePages, leaf_split_pages, inner_split_pages, root_leaf_split_pages, root_inner_split_pages}
use Rattle.im_smo_pages.proofs.Updates.{at_other, tree_of, not_first, not_later}
use Rattle.im_smo_pages.proofs.LeafSplitSteps.{leaf_step, way_not_spare}
use Rattle.im_smo_pages.proofs.InnerSplitSteps.{inner_step}
use Rattle.im_smo_pages.proofs.RootSplitSteps.{root_leaf_step, root_inner_step}
use Rattle.im_smo_pages.proofs.Unrefused.{leaf_can_split, inner_can_split, leaf_can_halve, inner_can_halve}
use Rattle.im_smo_split.specs.PendingSplits.{PassesUp, SplitsDown, IsPending, IsRootPending}
use Rattle.im_smo_split.proofs.Points.{one_point}
use Rattle.im_smo_split.proofs.Chains.{way_level, chain_stays, front_rises, rest_rises}

-- pages of different levels are different
pub other_level : (pages : Pages) (a b j k : ℕ) → (pages a).level ≡ j → (pages b).level ≡ k → j < k → b ≡ a → ⊥
other_level pages a b j k low high lt e = omega (arith, low, high, lt, ap (λ (x : ℕ). (pages x).level) e)

-- ---- an inner page

module _ {dense : Bool} (pages new : Pages) (spare : List ℕ) (key : Key) (k parent p q n c : ℕ) (pending : IsPending dense pages (q ∷ spare) key (suc k) parent p) (rises : Rises (pages p).entries) (at : SplitsAt false Inner (pages p) n)
    (is : SamePages new (inner_split_pages pages parent p q n)) (child : IsChild (pages p) key c) where
  on_way : IsOnWay pages (suc k) key p
  on_way = step_way pages (suc k) key parent p pending.way pending.child

  step : SplitsKeyInner pages new spare k key parent p q n
  step = inner_step pages new spare k key parent p q n pending.good pending.way pending.child pending.rises rises at is

  keeps : KeepsWay pages new spare (suc k) key p q (entry_at (pages p).entries n).0
  keeps = key_inner_split pages new spare k key parent p q n step

  -- all ways to leaves stay
  pub inner_ways : KeepsAllWays pages new
  inner_ways = key_inner_ways pages new spare k key parent p q n step

  -- the pages under it stay
  stays : (j x : ℕ) → j ≤ k → IsOnWay pages j key x → new x ≡ pages x
  stays j x le way =
      let here : (pages x).level ≡ j = way_level pages j key x way in
      let first : Pages = with_body pages parent (with_separator (pages parent) (entry_at (pages p).entries n).0 q) in
      let second : Pages = with_body first q (inner_body (pages p).level (entry_at (pages p).entries n).1 (drop (n + 1) (pages p).entries)) in
      is x
      ∙ at_other second p (with_entries (pages p) (take n (pages p).entries)) x (other_level pages x p j (suc k) here (way_level pages (suc k) key p on_way) (omega (arith, le)))
      ∙ at_other first q (inner_body (pages p).level (entry_at (pages p).entries n).1 (drop (n + 1) (pages p).entries)) x (not_first x q spare (way_not_spare pages (q ∷ spare) j key x pending.good way))
      ∙ at_other pages parent (with_separator (pages parent) (entry_at (pages p).entries n).0 q) x (other_level pages x parent j (suc (suc k)) here (way_level pages (suc (suc k)) key parent pending.way) (omega (arith, le)))

  down : IsOnWay pages k key c
  down = step_way pages k key p c on_way child

  c_same : new c ≡ pages c
  c_same = stays k c (omega arith) down

  up : PassesUp dense pages (is_leaf_level k) c p
  up = (pending.splits c child).0

  next_pending : (r : ℕ) → IsOnWay new (suc k) key r → IsChild (new r) key c → Rises (new r).entries → HasRoomForAny false (new r).entries → IsPending dense new spare key k r c
  next_pending r way goes r_rises room = record {
    good = keeps.good;
    way = way;
    child = goes;
    rises = r_rises;
    point = up.point;
    at = subst (λ (b : Body). IsPoint dense (is_leaf_level k) b up.point) (sym c_same) up.at;
    room = subst (λ (b : Body). HasRoom false (new r).entries ((entry_at b.entries up.point).0, 0)) (sym c_same) (room ((entry_at (pages c).entries up.point).0, 0) up.lacks.key);
    splits = chain_stays dense pages new key k c stays down (pending.splits c child).1;
  }

  pub inner_low : IsBelow key (entry_at (pages p).entries n).0 → IsPending dense new spare key k p c × (walk new ≡ walk pages)
  inner_low below =
      let f = step.pages_split in (
        next_pending p (keeps.low below) (child_in_left (pages p) (new p) key n c rises step.within f.left_leftmost f.left_entries below child)
            (subst Rises (sym f.left_entries) (front_rises (pages p).entries n rises)) (subst (HasRoomForAny false) (sym f.left_entries) at.well.left_room),
        keeps.walks,
      )

  pub inner_high : AtOrAbove (Some (entry_at (pages p).entries n).0) key → IsPending dense new spare key k q c × (walk new ≡ walk pages)
  inner_high above =
      let f = step.pages_split in (
        next_pending q (keeps.high above) (child_in_right (pages p) (new q) key n c rises step.within f.right_leftmost f.right_entries above child)
            (subst Rises (sym f.right_entries) (rest_rises (pages p).entries (n + 1) rises)) (subst (HasRoomForAny false) (sym f.right_entries) at.well.rest_room),
        keeps.walks,
      )

-- ---- an inner root

module _ {dense : Bool} (pages new : Pages) (spare : List ℕ) (key : Key) (k l r n c : ℕ) (pending : IsRootPending dense pages (l ∷ r ∷ spare) key (suc k)) (rises : Rises (pages 1).entries) (at : SplitsAt false Inner (pages 1) n)
    (is : SamePages new (root_inner_split_pages pages l r n)) (child : IsChild (pages 1) key c) where
  root_way : IsOnWay pages (suc k) key 1
  root_way = subst (λ (h : ℕ). IsOnWay pages h key 1) pending.tall (way_begins pages (l ∷ r ∷ spare) key pending.good)

  root_step : SplitsKeyRootInner pages new spare k l r n
  root_step = root_inner_step pages new spare k l r n pending.good pending.tall at is

  root_keeps : KeepsWay pages new spare (suc k) key l r (entry_at (pages 1).entries n).0
  root_keeps = key_root_inner_split pages new spare k key l r n root_step

  pub root_ways : KeepsAllWays pages new
  root_ways = key_root_inner_ways pages new spare k l r n root_step

  root_stays : (j x : ℕ) → j ≤ k → IsOnWay pages j key x → new x ≡ pages x
  root_stays j x le way =
      let here : (pages x).level ≡ j = way_level pages j key x way in
      let none = way_not_spare pages (l ∷ r ∷ spare) j key x pending.good way in
      let first : Pages = with_body pages 1 (raised (pages 1) l (entry_at (pages 1).entries n).0 r) in
      let second : Pages = with_body first r (inner_body (pages 1).level (entry_at (pages 1).entries n).1 (drop (n + 1) (pages 1).entries)) in
      is x
      ∙ at_other second l (with_entries (pages 1) (take n (pages 1).entries)) x (not_first x l (r ∷ spare) none)
      ∙ at_other first r (inner_body (pages 1).level (entry_at (pages 1).entries n).1 (drop (n + 1) (pages 1).entries)) x (not_first x r spare (not_later x l (r ∷ spare) none))
      ∙ at_other pages 1 (raised (pages 1) l (entry_at (pages 1).entries n).0 r) x (other_level pages x 1 j (suc k) here (way_level pages (suc k) key 1 root_way) (omega (arith, le)))

  root_down : IsOnWay pages k key c
  root_down = step_way pages k key 1 c root_way child

  root_same : new c ≡ pages c
  root_same = root_stays k c (omega arith) root_down

  root_up : PassesUp dense pages (is_leaf_level k) c 1
  root_up = (pending.splits c child).0

  next_of_root : (x : ℕ) → IsOnWay new (suc k) key x → IsChild (new x) key c → Rises (new x).entries → HasRoomForAny false (new x).entries → IsPending dense new spare key k x c
  next_of_root x way goes x_rises room = record {
    good = root_keeps.good;
    way = way;
    child = goes;
    rises = x_rises;
    point = root_up.point;
    at = subst (λ (b : Body). IsPoint dense (is_leaf_level k) b root_up.point) (sym root_same) root_up.at;
    room = subst (λ (b : Body). HasRoom false (new x).entries ((entry_at b.entries root_up.point).0, 0)) (sym root_same) (room ((entry_at (pages c).entries root_up.point).0, 0) root_up.lacks.key);
    splits = chain_stays dense pages new key k c root_stays root_down (pending.splits c child).1;
  }

  pub root_low : IsBelow key (entry_at (pages 1).entries n).0 → IsPending dense new spare key k l c × (walk new ≡ walk pages)
  root_low below =
      let f = root_step.pages_split in (
        next_of_root l (root_keeps.low below) (child_in_left (pages 1) (new l) key n c rises root_step.within f.left_leftmost f.left_entries below child)
            (subst Rises (sym f.left_entries) (front_rises (pages 1).entries n rises)) (subst (HasRoomForAny false) (sym f.left_entries) at.well.left_room),
        root_keeps.walks,
      )

  pub root_high : AtOrAbove (Some (entry_at (pages 1).entries n).0) key → IsPending dense new spare key k r c × (walk new ≡ walk pages)
  root_high above =
      let f = root_step.pages_split in (
        next_of_root r (root_keeps.high above) (child_in_right (pages 1) (new r) key n c rises root_step.within f.right_leftmost f.right_entries above child)
            (subst Rises (sym f.right_entries) (rest_rises (pages 1).entries (n + 1) rises)) (subst (HasRoomForAny false) (sym f.right_entries) at.well.rest_room),
        root_keeps.walks,
      )

-- ---- a leaf

leaf_end : (pages new : Pages) (key : Key) (parent p q n : ℕ) → SplitsKeyLeaf pages new [] key parent p q n → SplitsWell true (pages p).entries n → IsGoodTree new [] × (walk new ≡ walk pages) × HasRoomOnWay new zero key
leaf_end pages new key parent p q n last well =
    let keeps = key_leaf_split pages new [] key parent p q n last in
    (keeps.good, keeps.walks, room_of_parts pages new key (pages p).entries p q n (entry_at (pages p).entries n).0 well last.pages_split.left_entries last.pages_split.right_entries keeps)

root_leaf_end : (pages new : Pages) (key : Key) (l r n : ℕ) → SplitsKeyRootLeaf pages new [] l r n → SplitsWell true (pages 1).entries n → IsGoodTree new [] × (walk new ≡ walk pages) × HasRoomOnWay new zero key
root_leaf_end pages new key l r n last well =
    let keeps = key_root_leaf_split pages new [] key l r n last in
    (keeps.good, keeps.walks, room_of_parts pages new key (pages 1).entries l r n (entry_at (pages 1).entries n).0 well last.pages_split.left_entries last.pages_split.right_entries keeps)

pub leaf_ends : {dense : Bool} (pages new : Pages) (key : Key) (parent p q n : ℕ) → IsPending dense pages (q ∷ []) key zero parent p → Rises (pages p).entries → SplitsAt dense Leaf (pages p) n
    → SamePages new (leaf_split_pages pages parent p q n) → IsGoodTree new [] × (walk new ≡ walk pages) × HasRoomOnWay new zero key
leaf_ends pages new key parent p q n pending rises at is =
    leaf_end pages new key parent p q n (leaf_step pages new [] key parent p q n pending.good pending.way pending.child pending.rises rises at is) at.well

pub root_leaf_ends : {dense : Bool} (pages new : Pages) (key : Key) (l r n : ℕ) → IsRootPending dense pages (l ∷ r ∷ []) key zero → Rises (pages 1).entries → SplitsAt dense Leaf (pages 1) n
    → SamePages new (root_leaf_split_pages pages l r n) → IsGoodTree new [] × (walk new ≡ walk pages) × HasRoomOnWay new zero key
root_leaf_ends pages new key l r n pending rises at is =
    root_leaf_end pages new key l r n (root_leaf_step pages new [] l r n pending.good pending.tall rises at is) at.well

-- ---- a pending split can be made

pub leaf_can : {dense : Bool} (pages : Pages) (spare : List ℕ) (key : Key) (parent p q : ℕ) → IsPending dense pages spare key zero parent p → Rises (pages p).entries → FitsPage true (pages p).entries
    → CanSplit dense Leaf (pages p) (pages parent) q
leaf_can {dense} pages spare key parent p q pending rises page =
    leaf_can_split dense pages spare key parent p q (key, 0) pending.good pending.way pending.child pending.rises rises page pending.splits
    (λ n point. subst (λ (m : ℕ). HasRoom false (pages parent).entries ((entry_at (pages p).entries m).0, q)) (one_point (split_bound true dense (pages p).next) true (pages p).entries pending.point n pending.at point) pending.room)

pub inner_can : {dense : Bool} (pages : Pages) (spare : List ℕ) (key : Key) (k parent p q c : ℕ) → IsPending dense pages spare key (suc k) parent p → FitsPage false (pages p).entries
    → IsChild (pages p) key c → CanSplit false Inner (pages p) (pages parent) q
inner_can {dense} pages spare key k parent p q c pending page child =
    inner_can_split pages spare k key parent p q ((entry_at (pages c).entries (pending.splits c child).0.point).0, 0) pending.good pending.way pending.child pending.rises page (pending.splits c child).0.lacks
    (λ n point. subst (λ (m : ℕ). HasRoom false (pages parent).entries ((entry_at (pages p).entries m).0, q)) (one_point (split_bound false dense (pages p).next) false (pages p).entries pending.point n pending.at point) pending.room)

pub root_leaf_can : {dense : Bool} (pages : Pages) (spare : List ℕ) (key : Key) → IsRootPending dense pages spare key zero → FitsPage true (pages 1).entries → CanHalve dense Leaf (pages 1)
root_leaf_can {dense} pages spare key pending page =
    leaf_can_halve dense pages 1 (key, 0) (way_leaf pages key 1 (subst (λ (h : ℕ). IsOnWay pages h key 1) pending.tall (way_begins pages spare key pending.good))).0 page pending.splits

pub root_inner_can : {dense : Bool} (pages : Pages) (spare : List ℕ) (key : Key) (k c : ℕ) → IsRootPending dense pages spare key (suc k) → FitsPage false (pages 1).entries → IsChild (pages 1) key c → CanHalve false Inner (pages 1)
root_inner_can pages spare key k c pending page child =
    inner_can_halve pages 1 ((entry_at (pages c).entries (pending.splits c child).0.point).0, 0) (way_inner pages k key 1 (subst (λ (h : ℕ). IsOnWay pages h key 1) pending.tall (way_begins pages spare key pending.good))).0 page
    (pending.splits c child).0.lacks

-- ---- an allocation

not_zero : (x : ℕ) → 1 ≤ x → x ≢ 0
not_zero x some e = omega (arith, some, e)

module _ (pages new : Pages) (spare left : List ℕ) (good : IsGoodTree pages spare) (now : IsGoodTree new left) (others : (x : ℕ) → x ≢ 0 → new x ≡ pages x) where
  same_tree : (x : ℕ) → times x (0 ∷ spare) ≡ 0 → SameTree (pages x) (new x)
  same_tree x none = tree_of (pages x) (new x) (others x (λ e. not_first x 0 spare none (sym e)))

  way_is_same : (key : Key) (j x : ℕ) → IsOnWay pages j key x → new x ≡ pages x
  way_is_same key j x way = others x (not_zero x (way_known pages spare j key x good way).0)

  pub way_on : (key : Key) (j x : ℕ) → IsOnWay pages j key x → IsOnWay new j key x
  way_on key j x way = way_stays pages new spare left j key x good now same_tree way

  pub chain_on : (dense : Bool) (key : Key) (k p : ℕ) → IsOnWay pages k key p → SplitsDown dense pages key k p → SplitsDown dense new key k p
  chain_on dense key k p way splits = chain_stays dense pages new key k p (λ j x le on. way_is_same key j x on) way splits

pub pending_stays : {dense : Bool} (pages new : Pages) (spare left : List ℕ) (key : Key) (k parent p : ℕ) → IsPending dense pages spare key k parent p → IsGoodTree new left → ((x : ℕ) → x ≢ 0 → new x ≡ pages x)
    → IsPending dense new left key k parent p
pending_stays {dense} pages new spare left key k parent p pending now others =
    let way = step_way pages k key parent p pending.way pending.child in
    let same_p : new p ≡ pages p = way_is_same pages new spare left pending.good now others key k p way in
    let same_up : new parent ≡ pages parent = way_is_same pages new spare left pending.good now others key (suc k) parent pending.way in
    record {
      good = now;
      way = way_on pages new spare left pending.good now others key (suc k) parent pending.way;
      child = subst (λ (b : Body). IsChild b key p) (sym same_up) pending.child;
      rises = subst (λ (b : Body). Rises b.entries) (sym same_up) pending.rises;
      point = pending.point;
      at = subst (λ (b : Body). IsPoint dense (is_leaf_level k) b pending.point) (sym same_p) pending.at;
      room = subst (λ (b : Body). HasRoom false b.entries ((entry_at (new p).entries pending.point).0, 0)) (sym same_up)
          (subst (λ (b : Body). HasRoom false (pages parent).entries ((entry_at b.entries pending.point).0, 0)) (sym same_p) pending.room);
      splits = chain_on pages new spare left pending.good now others dense key k p way pending.splits;
    }

pub root_pending_stays : {dense : Bool} (pages new : Pages) (spare left : List ℕ) (key : Key) (k : ℕ) → IsRootPending dense pages spare key k → IsGoodTree new left → ((x : ℕ) → x ≢ 0 → new x ≡ pages x)
    → IsRootPending dense new left key k
root_pending_stays {dense} pages new spare left key k pending now others =
    let way = subst (λ (h : ℕ). IsOnWay pages h key 1) pending.tall (way_begins pages spare key pending.good) in
    record {
      good = now;
      tall = ap (λ (b : Body). b.level) (others 1 (λ e. omega (arith, e))) ∙ pending.tall;
      splits = chain_on pages new spare left pending.good now others dense key k 1 way pending.splits;
    }
