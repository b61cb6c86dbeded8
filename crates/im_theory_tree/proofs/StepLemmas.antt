-- Runs of steps keep the tree good and the walk as it was.
use Rattle.std.proofs.Common.{◌≡◌, ◌⊎◌, ℕ, zero, true, List, [], ◌∷◌, ◌++◌, take, drop, refl, sym, ap, subst, ◌∙◌, inl, inr, ⊎_elim, arith}
use Rattle.std.specs.declared.cmp.Ordering.{Ordering}
use Rattle.std.specs.declared.cmp.Ordering.TheVariants.{Less, Equal, Greater}
use Rattle.im_base_types.specs.Keys.{Key, key_order, IsBelow}
use Rattle.im_base_types.specs.Pages.{Entry}
use Rattle.im_theory_page.specs.Entry.{entry_at}
use Rattle.im_theory_page.specs.Split.{HasRoomForAny}
use Rattle.im_theory_page.proofs.Order.{below_from_less, below_from_greater, same_from_equal}
use Rattle.im_theory_tree.specs.Levels.{Pages, pages_under, the_root, height, walk}
use Rattle.im_theory_tree.specs.Good.{free_from, times, IsGoodTree}
use Rattle.im_theory_tree.specs.Halves.{SplitsWell}
use Rattle.im_theory_tree.specs.KeySplits.{KeepsWay, HasRoomOnWay, SplitsKeyLeaf, SplitsKeyRootLeaf}
use Rattle.im_theory_tree.specs.Steps.{Step, TakeFree, TakeCount, GiveFree, SplitLeaf, SplitInner, SplitRoot, SplitLeafRoot, DropChild, DropFirst, EmptyRoot, Relist, Leads, Made, IsRun, end_pages, end_spare, DropsChain, FromEntry, FromLeftmost, FromRoot}
use Rattle.im_theory_tree.specs.KeyDeletions.{chain_down}
use Rattle.im_theory_tree.proofs.Keeps.{times-append}
use Rattle.im_theory_tree.proofs.FreeList.{take_free, take_count, give_free}
use Rattle.im_theory_tree.proofs.LeafSplit.{leaf_split}
use Rattle.im_theory_tree.proofs.InnerSplit.{inner_split, root_split}
use Rattle.im_theory_tree.proofs.RootSplit.{leaf_root_split}
use Rattle.im_theory_tree.proofs.DropChild.{drop_child}
use Rattle.im_theory_tree.proofs.DropFirst.{drop_first}
use Rattle.im_theory_tree.proofs.EmptyRoot.{empty_root}
use Rattle.im_theory_tree.proofs.MarkLemmas.{marks_keep}
use Rattle.im_theory_tree.proofs.KeyDeletionLemmas.{drop_entry, drop_leftmost, drop_all}
use Rattle.im_theory_tree.proofs.LeafSplitWay.{key_leaf_split}
use Rattle.im_theory_tree.proofs.RootSplitWay.{key_root_leaf_split}

-- spare pages in another order
pub relisted : (pages : Pages) (spare left : List ℕ) → ((x : ℕ) → times x left ≡ times x spare) → IsGoodTree pages spare → IsGoodTree pages left
relisted pages spare left same good =
    let tree = pages_under pages (height pages) the_root in
    let free = free_from pages (pages 0).prev (pages 0).next in
    record {
      meta = good.meta;
      levels = good.levels;
      ordered = good.ordered;
      chained = good.chained;
      free = good.free;
      cover = λ x.
          let count : times x (0 ∷ tree ++ free ++ left) ≡ times x (0 ∷ tree ++ free ++ spare) =
          omega (arith, same x, times-append x (tree ++ free) left, times-append x (tree ++ free) spare) in
          count ∙ good.cover x;
      past = good.past;
    }

-- what one step keeps
abbrev pub Keeps : Pages → Pages → List ℕ → Type 0
Keeps pages new left = IsGoodTree new left × (walk new ≡ walk pages)

with_spare : (pages new : Pages) (left gone : List ℕ) → left ≡ gone → Keeps pages new gone → Keeps pages new left
with_spare pages new left gone e k = (subst (IsGoodTree new) (sym e) k.0, k.1)

pub step_keeps : (step : Step) (pages : Pages) (spare : List ℕ) (new : Pages) (left : List ℕ) → IsGoodTree pages spare → Leads step pages spare new left → Keeps pages new left
step_keeps (TakeFree n q) pages spare new left good h = with_spare pages new left _ h.0 (take_free pages new spare n q h.1)
step_keeps TakeCount pages spare new left good h = with_spare pages new left _ h.0 (take_count pages new spare h.1)
step_keeps (GiveFree q) pages spare new left good h = give_free pages new left q h.1
step_keeps (SplitLeaf d a b parent before after n q s) pages spare new left good h = leaf_split pages new left d a b parent before after n q s h.1
step_keeps (SplitInner d k a b parent before after n q up) pages spare new left good h = inner_split pages new left d k a b parent before after n q up h.1
step_keeps (SplitRoot k l r up) pages spare new left good h = root_split pages new left k l r up h.1
step_keeps (SplitLeafRoot l r s) pages spare new left good h = leaf_root_split pages new left l r s h.1
step_keeps (DropChild d k a b parent before after last c) pages spare new left good h = with_spare pages new left _ h.0 (drop_child pages new spare d k a b parent before after last c h.1)
step_keeps (DropFirst d k a b parent after c r) pages spare new left good h = with_spare pages new left _ h.0 (drop_first pages new spare d k a b parent after c r h.1)
step_keeps (EmptyRoot k) pages spare new left good h = with_spare pages new left _ h.0 (empty_root pages new spare k h.1)
step_keeps Relist pages spare new left good h =
    let same = marks_keep pages new spare h.0 good in
    (relisted new spare left h.1 same.0, same.1)

-- A RUN KEEPS THE TREE GOOD, AND THE WALK AS IT WAS
pub run_keeps : (pages : Pages) (spare : List ℕ) (run : List Made) → IsGoodTree pages spare → IsRun pages spare run → Keeps pages (end_pages pages run) (end_spare spare run)
run_keeps pages spare [] good h = (good, refl)
run_keeps pages spare (m ∷ run) good h =
    let one = step_keeps m.step pages spare m.pages m.spare good h.0 in
    let rest = run_keeps m.pages m.spare run one.0 h.1 in
    (rest.0, rest.1 ∙ one.1)

-- a key is below another or not
pub below_or_not : (key s : Key) → IsBelow key s ⊎ ((s ≡ key) ⊎ IsBelow s key)
below_or_not key s = by (key_order key s) refl
  where
    by : (o : Ordering) → key_order key s ≡ o → IsBelow key s ⊎ ((s ≡ key) ⊎ IsBelow s key)
    by Less e = inl (below_from_less key s (sym e))
    by Equal e = inr (inl (sym (same_from_equal key s (sym e))))
    by Greater e = inr (inr (below_from_greater key s (sym e)))

-- the part of a split leaf that the key belongs to has room
pub room_of_parts : (pages new : Pages) (key : Key) (es : List Entry) (p q n : ℕ) (s : Key) → SplitsWell true es n → (new p).entries ≡ take n es → (new q).entries ≡ drop n es
    → KeepsWay pages new [] zero key p q s → HasRoomOnWay new zero key
room_of_parts pages new key es p q n s well left right keeps =
    ⊎_elim
    (λ (below : IsBelow key s). record { page = p; way = keeps.low below; room = subst (HasRoomForAny true) (sym left) well.left_room })
    (λ (above : (s ≡ key) ⊎ IsBelow s key). record { page = q; way = keeps.high above; room = subst (HasRoomForAny true) (sym right) well.right_room })
    (below_or_not key s)

-- A SPLIT OVER SEVERAL LEVELS MAKES ROOM IN THE KEY'S LEAF
pub split_down : (pages new : Pages) (key : Key) (run : List Made) (parent p q n : ℕ) → IsGoodTree pages [] → IsRun pages [] run
    → SplitsKeyLeaf (end_pages pages run) new [] key parent p q n → SplitsWell true (end_pages pages run p).entries n → IsGoodTree new [] × (walk new ≡ walk pages) × HasRoomOnWay new zero key
split_down pages new key run parent p q n good runs last well =
    let now = end_pages pages run in
    let before = run_keeps pages [] run good runs in
    let keeps = key_leaf_split now new [] key parent p q n last in (
      keeps.good,
      keeps.walks ∙ before.1,
      room_of_parts now new key (now p).entries p q n (entry_at (now p).entries n).0 well last.pages_split.left_entries last.pages_split.right_entries keeps,
    )

pub split_root_leaf : (pages new : Pages) (key : Key) (run : List Made) (left right n : ℕ) → IsGoodTree pages [] → IsRun pages [] run
    → SplitsKeyRootLeaf (end_pages pages run) new [] left right n → SplitsWell true (end_pages pages run 1).entries n → IsGoodTree new [] × (walk new ≡ walk pages) × HasRoomOnWay new zero key
split_root_leaf pages new key run left right n good runs last well =
    let now = end_pages pages run in
    let before = run_keeps pages [] run good runs in
    let keeps = key_root_leaf_split now new [] key left right n last in (
      keeps.good,
      keeps.walks ∙ before.1,
      room_of_parts now new key (now 1).entries left right n (entry_at (now 1).entries n).0 well last.pages_split.left_entries last.pages_split.right_entries keeps,
    )

-- A DELETION UP THE LEVELS
no_more : (xs : List ℕ) → xs ++ [] ≡ xs
no_more [] = refl
no_more (x ∷ xs) = ap (λ ys. x ∷ ys) (no_more xs)

gone_spare : (pages new : Pages) (gone chain : List ℕ) → gone ≡ chain → Keeps pages new (chain ++ []) → Keeps pages new gone
gone_spare pages new gone chain e k = (subst (IsGoodTree new) (no_more chain ∙ sym e) k.0, k.1)

chain_dropped : (pages new : Pages) (gone : List ℕ) → DropsChain pages new gone → Keeps pages new gone
chain_dropped pages new gone (FromEntry h key parent p i s e) = gone_spare pages new gone (chain_down pages h p) e (drop_entry pages new [] h key parent p i s)
chain_dropped pages new gone (FromLeftmost h key parent p s e) = gone_spare pages new gone (chain_down pages h p) e (drop_leftmost pages new [] h key parent p s)
chain_dropped pages new gone (FromRoot h s e) = gone_spare pages new gone (chain_down pages h (pages 1).leftmost) e (drop_all pages new [] h s)

pub deleted_up : (pages mid : Pages) (gone : List ℕ) (run : List Made) → DropsChain pages mid gone → IsRun mid gone run → end_spare gone run ≡ []
    → IsGoodTree (end_pages mid run) [] × (walk (end_pages mid run) ≡ walk pages)
deleted_up pages mid gone run drops runs none =
    let one = chain_dropped pages mid gone drops in
    let rest = run_keeps mid gone run one.0 runs in
    (subst (IsGoodTree (end_pages mid run)) none rest.0, rest.1 ∙ one.1)
