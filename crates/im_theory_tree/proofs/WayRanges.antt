-- Leaves and the keys of their ranges, where a leaf comes in after another, or goes.
use Rattle.std.proofs.Common.{◌≡◌, ◌≢◌, ℕ, zero, List, [], ◌∷◌, ◌++◌, refl, sym, ap, subst, ◌∙◌}
use Rattle.im_base_types.specs.Keys.{Key}
use Rattle.im_theory_tree.specs.Levels.{Pages, Node, leaves_under, the_root, height, lifted}
use Rattle.im_theory_tree.specs.Good.{AtOrAbove, IsUnder, next_bound, IsAfter, BoundsFollow, IsGoodTree}
use Rattle.im_theory_tree.specs.Search.{IsOnWay}
use Rattle.im_theory_tree.proofs.Descent.{leaves_descend}
use Rattle.im_theory_tree.proofs.LeafChange.{lifted_self}
use Rattle.im_theory_tree.proofs.RootSplitWay.{node_on_way}
use Rattle.im_theory_tree.proofs.Keeps.{next_bound-front}
use Rattle.im_theory_tree.proofs.DropLeaf.{under_follow}
use Rattle.im_theory_tree.proofs.DropFirst.{rebound}
use Rattle.im_theory_tree.proofs.Order.{after_reached}
use Rattle.im_theory_tree.specs.Ways.{KeepsWays}

-- page q is among these leaves, and the key lies in its range
pub record HasInRange (ns : List Node) (key : Key) (q : ℕ) : Type 0 where
  pub left : List Node
  pub node : Node
  pub right : List Node
  pub are : ns ≡ left ++ node ∷ right
  pub page : node.page ≡ q
  pub at : AtOrAbove node.bound key
  pub under : IsUnder key (next_bound right)

-- one more in front
front : (x : Node) (ns : List Node) (key : Key) (q : ℕ) → HasInRange ns key q → HasInRange (x ∷ ns) key q
front x ns key q h = record { left = x ∷ h.left; node = h.node; right = h.right; are = ap (λ ms. x ∷ ms) h.are; page = h.page; at = h.at; under = h.under }

-- the leaves of a way, and back
pub range_of_way : (pages : Pages) (key : Key) (q : ℕ) → IsOnWay pages zero key q → HasInRange (leaves_under pages (height pages) the_root) key q
range_of_way pages key q way = record { left = way.left; node = way.node; right = way.right; are = sym way.leaves; page = way.page; at = way.at; under = way.under }

pub way_of_range : (pages : Pages) (spare : List ℕ) (key : Key) (q : ℕ) → IsGoodTree pages spare → HasInRange (leaves_under pages (height pages) the_root) key q → IsOnWay pages zero key q
way_of_range pages spare key q good h =
    let d : ℕ = height pages in
    let self : lifted d zero ≡ d = lifted_self d in
    subst (IsOnWay pages zero key) h.page
    (node_on_way pages spare d zero key h.left h.node h.right good (sym self)
    (sym (leaves_descend pages d zero the_root) ∙ ap (λ k. leaves_under pages k the_root) self ∙ h.are) h.at h.under)

-- each leaf that stands apart keeps the keys of its range
abbrev pub KeepsRanges : List Node → List Node → (ℕ → Type 0) → Type 0
KeepsRanges ns ms Apart = (key : Key) (q : ℕ) → HasInRange ns key q → Apart q → HasInRange ms key q

pub ways_by_ranges : (pages new : Pages) (spare : List ℕ) (ns ms : List Node) (Apart : ℕ → Type 0) → IsGoodTree new spare → leaves_under pages (height pages) the_root ≡ ns
    → leaves_under new (height new) the_root ≡ ms → KeepsRanges ns ms Apart → KeepsWays pages new Apart
ways_by_ranges pages new spare ns ms Apart good was now keeps key q way apart =
    way_of_range new spare key q good (subst (λ l. HasInRange l key q) (sym now) (keeps key q (subst (λ l. HasInRange l key q) was (range_of_way pages key q way)) apart))

pub ways_by_leaves : (pages new : Pages) (spare : List ℕ) → IsGoodTree new spare → leaves_under new (height new) the_root ≡ leaves_under pages (height pages) the_root → KeepsWays pages new (λ q. Unit {0})
ways_by_leaves pages new spare good same =
    ways_by_ranges pages new spare (leaves_under pages (height pages) the_root) (leaves_under pages (height pages) the_root) (λ q. Unit {0}) good refl same (λ key q h apart. h)

-- what a decomposition of a list says, of its first node and of the rest
head_is : (x y : Node) (xs ys : List Node) → x ∷ xs ≡ y ∷ ys → x ≡ y
head_is x y xs ys e = cc e

tail_is : (x y : Node) (xs ys : List Node) → x ∷ xs ≡ y ∷ ys → xs ≡ ys
tail_is x y xs ys e = cc e

-- A LEAF COMES IN after node n
pub put_behind : (a bk : List Node) (n m : Node) → KeepsRanges (a ++ n ∷ bk) (a ++ n ∷ m ∷ bk) (λ q. q ≢ n.page)
put_behind a bk n m key q h apart = by a h.left h.are
  where
    by : (a left : List Node) → a ++ n ∷ bk ≡ left ++ h.node ∷ h.right → HasInRange (a ++ n ∷ m ∷ bk) key q
    by [] [] e = absurd (apart (sym h.page ∙ ap (λ (x : Node). x.page) (sym (head_is n h.node bk h.right e))))
    by [] (y ∷ left) e = record { left = n ∷ m ∷ left; node = h.node; right = h.right; are = ap (λ ms. n ∷ m ∷ ms) (tail_is n y bk (left ++ h.node ∷ h.right) e); page = h.page; at = h.at; under = h.under }
    by (x ∷ a) [] e =
        let tail : a ++ n ∷ bk ≡ h.right = tail_is x h.node (a ++ n ∷ bk) h.right e in
        record {
          left = [];
          node = h.node;
          right = a ++ n ∷ m ∷ bk;
          are = ap (λ y. y ∷ a ++ n ∷ m ∷ bk) (head_is x h.node (a ++ n ∷ bk) h.right e);
          page = h.page;
          at = h.at;
          under = subst (IsUnder key) (sym (ap next_bound tail) ∙ next_bound-front a bk (m ∷ bk) n) h.under;
        }
    by (x ∷ a) (y ∷ left) e = front x (a ++ n ∷ m ∷ bk) key q (by a left (tail_is x y (a ++ n ∷ bk) (left ++ h.node ∷ h.right) e))

-- A LEAF GOES from after node m, whose range grows
pub dropped_behind : (u w : List Node) (m leaf : Node) → IsAfter m.bound leaf.bound → BoundsFollow leaf.bound w → KeepsRanges (u ++ m ∷ leaf ∷ w) (u ++ m ∷ w) (λ q. q ≢ leaf.page)
dropped_behind u w m leaf after follow key q h apart = by u h.left h.are
  where
    by : (u left : List Node) → u ++ m ∷ leaf ∷ w ≡ left ++ h.node ∷ h.right → HasInRange (u ++ m ∷ w) key q
    by [] [] e =
        let tail : leaf ∷ w ≡ h.right = tail_is m h.node (leaf ∷ w) h.right e in
        let here : m ≡ h.node = head_is m h.node (leaf ∷ w) h.right e in
        record {
          left = [];
          node = m;
          right = w;
          are = refl;
          page = ap (λ (x : Node). x.page) here ∙ h.page;
          at = subst (λ (x : Node). AtOrAbove x.bound key) (sym here) h.at;
          under = under_follow key m.bound leaf.bound w (subst (IsUnder key) (sym (ap next_bound tail)) h.under) after follow;
        }
    by [] (y ∷ []) e =
        absurd (apart (sym h.page ∙ ap (λ (x : Node). x.page) (sym (head_is leaf h.node w h.right (tail_is m y (leaf ∷ w) (h.node ∷ h.right) e)))))
    by [] (y ∷ z ∷ left) e =
        let tail : w ≡ left ++ h.node ∷ h.right = tail_is leaf z w (left ++ h.node ∷ h.right) (tail_is m y (leaf ∷ w) (z ∷ left ++ h.node ∷ h.right) e) in
        record { left = m ∷ left; node = h.node; right = h.right; are = ap (λ ms. m ∷ ms) tail; page = h.page; at = h.at; under = h.under }
    by (x ∷ u) [] e =
        let tail : u ++ m ∷ leaf ∷ w ≡ h.right = tail_is x h.node (u ++ m ∷ leaf ∷ w) h.right e in
        record {
          left = [];
          node = h.node;
          right = u ++ m ∷ w;
          are = ap (λ y. y ∷ u ++ m ∷ w) (head_is x h.node (u ++ m ∷ leaf ∷ w) h.right e);
          page = h.page;
          at = h.at;
          under = subst (IsUnder key) (sym (ap next_bound tail) ∙ next_bound-front u (leaf ∷ w) w m) h.under;
        }
    by (x ∷ u) (y ∷ left) e = front x (u ++ m ∷ w) key q (by u left (tail_is x y (u ++ m ∷ leaf ∷ w) (left ++ h.node ∷ h.right) e))

-- A LEAF GOES, and the next one takes its bound
bound-front : (u t v : List Node) (n m : Node) → n.bound ≡ m.bound → next_bound (u ++ n ∷ t) ≡ next_bound (u ++ m ∷ v)
bound-front [] t v n m e = e
bound-front (x ∷ u) t v n m e = refl

pub dropped_first : (u w : List Node) (leaf s : Node) → IsAfter leaf.bound s.bound → KeepsRanges (u ++ leaf ∷ s ∷ w) (u ++ rebound leaf.bound s ∷ w) (λ q. q ≢ leaf.page)
dropped_first u w leaf s after key q h apart = by u h.left h.are
  where
    new : Node
    new = rebound leaf.bound s

    by : (u left : List Node) → u ++ leaf ∷ s ∷ w ≡ left ++ h.node ∷ h.right → HasInRange (u ++ new ∷ w) key q
    by [] [] e = absurd (apart (sym h.page ∙ ap (λ (x : Node). x.page) (sym (head_is leaf h.node (s ∷ w) h.right e))))
    by [] (y ∷ []) e =
        let rest : s ∷ w ≡ h.node ∷ h.right = tail_is leaf y (s ∷ w) (h.node ∷ h.right) e in
        let here : s ≡ h.node = head_is s h.node w h.right rest in
        record {
          left = [];
          node = new;
          right = w;
          are = refl;
          page = ap (λ (x : Node). x.page) here ∙ h.page;
          at = after_reached leaf.bound s.bound key after (subst (λ (x : Node). AtOrAbove x.bound key) (sym here) h.at);
          under = subst (IsUnder key) (sym (ap next_bound (tail_is s h.node w h.right rest))) h.under;
        }
    by [] (y ∷ z ∷ left) e =
        let tail : w ≡ left ++ h.node ∷ h.right = tail_is s z w (left ++ h.node ∷ h.right) (tail_is leaf y (s ∷ w) (z ∷ left ++ h.node ∷ h.right) e) in
        record { left = new ∷ left; node = h.node; right = h.right; are = ap (λ ms. new ∷ ms) tail; page = h.page; at = h.at; under = h.under }
    by (x ∷ u) [] e =
        let tail : u ++ leaf ∷ s ∷ w ≡ h.right = tail_is x h.node (u ++ leaf ∷ s ∷ w) h.right e in
        record {
          left = [];
          node = h.node;
          right = u ++ new ∷ w;
          are = ap (λ y. y ∷ u ++ new ∷ w) (head_is x h.node (u ++ leaf ∷ s ∷ w) h.right e);
          page = h.page;
          at = h.at;
          under = subst (IsUnder key) (sym (ap next_bound tail) ∙ bound-front u (s ∷ w) w leaf new refl) h.under;
        }
    by (x ∷ u) (y ∷ left) e = front x (u ++ new ∷ w) key q (by u left (tail_is x y (u ++ leaf ∷ s ∷ w) (left ++ h.node ∷ h.right) e))

-- ONE LEAF ALONE, and none that stands apart
pub alone : (n : Node) (ms : List Node) → KeepsRanges (n ∷ []) ms (λ q. q ≢ n.page)
alone n ms key q h apart = by h.left h.are
  where
    by : (left : List Node) → n ∷ [] ≡ left ++ h.node ∷ h.right → HasInRange ms key q
    by [] e = absurd (apart (sym h.page ∙ ap (λ (x : Node). x.page) (sym (head_is n h.node [] h.right e))))
    by (y ∷ []) e = absurd (cc (tail_is n y [] (h.node ∷ h.right) e))
    by (y ∷ z ∷ left) e = absurd (cc (tail_is n y [] (z ∷ left ++ h.node ∷ h.right) e))
