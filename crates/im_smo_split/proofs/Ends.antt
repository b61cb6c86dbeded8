-- The key's leaf split, the last step: what is seen after it.
use Rattle.std.proofs.Common.{◌≡◌, ◌≢◌, ℕ, zero, suc, ◌≤◌, ◌<◌, true, Bool, List, [], ◌∷◌, ◌++◌, length, refl, sym, ap, subst, ◌∙◌, arith, length-append}
use Rattle.im_base_types.specs.Keys.{Key}
use Rattle.im_base_types.specs.Pages.{Body, Page}
use Rattle.im_page_writer.specs.Outcome.{AllPages}
use Rattle.im_base_types.specs.declared.page_kind.PageKind.{PageKind}
use Rattle.im_base_types.specs.declared.page_kind.PageKind.TheVariants.{Leaf}
use Rattle.im_theory_page.specs.Entry.{entry_at, taken, Rises}
use Rattle.im_theory_page.specs.Child.{IsChild}
use Rattle.im_theory_page.specs.Page.{is_leaf_kind}
use Rattle.im_theory_tree.specs.Levels.{Pages, walk}
use Rattle.im_theory_tree.specs.Good.{IsGoodTree}
use Rattle.im_theory_tree.specs.Search.{IsOnWay}
use Rattle.im_theory_tree.specs.Halves.{FitsPage}
use Rattle.im_theory_tree.specs.KeySplits.{HasRoomOnWay}
use Rattle.im_theory_tree.proofs.Cited.{relisted, step_way, way_begins, way_leaf}
use Rattle.im_smo_pages.specs.Images.{Numbered, IsRising, without_image, held, Has}
use Rattle.im_smo_pages.specs.OnWay.{HasRoomIn}
use Rattle.im_smo_pages.specs.Parts.{CanHalve, CanSplit}
use Rattle.im_smo_pages.specs.Seen.{seen, page_in}
use Rattle.im_smo_pages.proofs.LeafSplitSteps.{leaf_apart}
use Rattle.im_theory_tree.specs.Ways.{KeepsWays}
use Rattle.im_smo_split.specs.Pages.{newest_first}
use Rattle.im_smo_split.specs.Ends.{HalvesLeaf, HalvesRootLeaf}
use Rattle.im_smo_split.specs.PendingSplits.{IsPending, IsRootPending}
use Rattle.im_smo_split.proofs.TakenOut.{out_has, beneath, out_same, out_at, in_same}
use Rattle.im_smo_split.proofs.Takings.{newest_is}
use Rattle.im_smo_split.proofs.PendingChains.{leaf_can, root_leaf_can}

some_long : (xs : List Numbered) (n : ℕ) → Has xs n → 1 ≤ length xs
some_long [] n has = absurd (cc has)
some_long (x ∷ xs) n has = omega arith

-- ---- the numbers that are left

none_of : (ns : List ℕ) → length ns ≡ 0 → ns ≡ []
none_of [] is = refl
none_of (n ∷ ns) is = absurd (omega (arith, is))

pub last_one : (ns new : List ℕ) (q : ℕ) → ns ≡ new ++ q ∷ [] → length ns ≡ 1 → newest_first ns ≡ q ∷ []
last_one ns new q is one =
    let none : new ≡ [] = none_of new (omega (arith, one, ap length is, length-append new (q ∷ []))) in
    ap newest_first is ∙ newest_is new q ∙ ap (λ (l : List ℕ). q ∷ newest_first l) none

pub last_two : (ns mid new : List ℕ) (l r : ℕ) → ns ≡ mid ++ r ∷ [] → mid ≡ new ++ l ∷ [] → length ns ≡ 2 → newest_first ns ≡ r ∷ l ∷ []
last_two ns mid new l r is more two =
    ap newest_first is ∙ newest_is mid r ∙ ap (λ (m : List ℕ). r ∷ m) (last_one mid new l more (omega (arith, two, ap length is, length-append mid (r ∷ []))))

-- ---- a leaf

-- what is seen after the leaf's split
pub record IsEnd (old new : Pages) (key : Key) (split leaf : ℕ) : Type 0 where
  pub good : IsGoodTree new []
  pub same : walk new ≡ walk old
  pub ways : KeepsWays old new (λ x. x ≢ split)
  pub room : HasRoomOnWay new zero key
  pub way : IsOnWay new zero key leaf

end_of : (old new : Pages) (key : Key) (g m : ℕ) → HasRoomIn old new [] key g m → IsEnd old new key g m
end_of old new key g m is = record { good = is.good; same = is.walks; ways = is.ways; room = record { page = m; way = is.way; room = is.room }; way = is.way }

pub fits_leaf : (b : Body) → b.kind ≡ Leaf → ((i : ℕ) → i < length b.entries → length (entry_at b.entries i).0 ≤ 255) → taken (is_leaf_kind b.kind) b.entries ≤ 4064 → FitsPage true b.entries
fits_leaf b leaf short fits = record { short = short; fits = subst (λ (k : PageKind). taken (is_leaf_kind k) b.entries ≤ 4064) leaf fits }

-- what the parting of a leaf asks, where this body was taken out
pub record IsPartable (dense : Bool) (out : List Numbered) (pages : Pages) (key : Key) (parent p q : ℕ) (b : Body) : Type 0 where
  pub good : IsGoodTree (held pages out) (q ∷ [])
  pub way : IsOnWay (held pages out) (suc zero) key parent
  pub child : IsChild (held pages out parent) key p
  pub page : held pages out p ≡ b
  pub above : Has out parent
  pub next : 1 ≤ b.next → Has out b.next
  pub leaf : b.kind ≡ Leaf
  pub can : Rises b.entries → FitsPage true b.entries → CanSplit dense Leaf b (held pages out parent) q

module _ {dense : Bool} (s : AllPages) (key : Key) (old : Pages) (xs : List Numbered) (up : IsRising xs) (p parent q : ℕ) (g : Page) (same : seen s xs ≡ old) (page : g ≡ page_in s xs p)
    (pending : IsPending dense old (q ∷ []) key zero parent p) where
  was : held (beneath s xs p g up page) (without_image p xs) ≡ old
  was = out_same s xs p g up page ∙ same

  pending_out : IsPending dense (held (beneath s xs p g up page) (without_image p xs)) (q ∷ []) key zero parent p
  pending_out = subst (λ (pages : Pages). IsPending dense pages (q ∷ []) key zero parent p) (sym was) pending

  pub leaf_ended : (out new : List Numbered) (half : ℕ) → out ≡ without_image p xs → HalvesLeaf out new g.body key parent p q half → IsEnd old (seen s new) key p half × (1 ≤ length new) × Has new p × Has new half
  leaf_ended out new half out_is parts =
      let halves : HalvesLeaf (without_image p xs) new g.body key parent p q half = subst (λ (l : List Numbered). HalvesLeaf l new g.body key parent p q half) out_is parts in
      let is = halves.goes (beneath s xs p g up page) [] pending_out.good pending_out.way pending_out.child (out_at s xs p g up page) in (
        subst (λ (pages : Pages). IsEnd pages (seen s new) key p half) was
            (subst (λ (pages : Pages). IsEnd (held (beneath s xs p g up page) (without_image p xs)) pages key p half) (in_same s xs p g up page new halves.there)
            (end_of (held (beneath s xs p g up page) (without_image p xs)) (held (beneath s xs p g up page) new) key p half is)),
        some_long new p halves.there,
        halves.there,
        halves.part,
      )

  body_was : g.body ≡ old p
  body_was = sym (out_at s xs p g up page) ∙ ap (λ (pages : Pages). pages p) was

  next_out : ((n : ℕ) → n ≡ (old p).next → 1 ≤ n → Has xs n) → 1 ≤ g.body.next → Has (without_image p xs) g.body.next
  next_out has some =
      let is : g.body.next ≡ (old p).next = ap (λ (c : Body). c.next) body_was in
      let more : 1 ≤ (old p).next = subst (λ (n : ℕ). 1 ≤ n) is some in
      subst (λ (n : ℕ). Has (without_image p xs) n) (sym is)
      (out_has p (old p).next xs up (λ e. (leaf_apart old [] key parent p q pending.good pending.way pending.child).next_left more (sym e)) (has (old p).next refl more))

  can_part : Rises g.body.entries → FitsPage true g.body.entries → CanSplit dense Leaf g.body (held (beneath s xs p g up page) (without_image p xs) parent) q
  can_part rises fits =
      let out = held (beneath s xs p g up page) (without_image p xs) in
      let is : out p ≡ g.body = out_at s xs p g up page in
      subst (λ (c : Body). CanSplit dense Leaf c (out parent) q) is
      (leaf_can out (q ∷ []) key parent p q pending_out (subst (λ (c : Body). Rises c.entries) (sym is) rises) (subst (λ (c : Body). FitsPage true c.entries) (sym is) fits))

  pub leaf_partable : (out : List Numbered) → out ≡ without_image p xs → Has xs parent → (1 ≤ (old p).next → Has xs (old p).next) → IsPartable dense out (beneath s xs p g up page) key parent p q g.body
  leaf_partable out out_is above next =
      subst (λ (l : List Numbered). IsPartable dense l (beneath s xs p g up page) key parent p q g.body) (sym out_is)
      (record {
        good = pending_out.good;
        way = pending_out.way;
        child = pending_out.child;
        page = out_at s xs p g up page;
        above = out_has p parent xs up (λ e. (leaf_apart old [] key parent p q pending.good pending.way pending.child).parent_left (sym e)) above;
        next = next_out (λ n is some. subst (λ (m : ℕ). Has xs m) (sym is) (next (subst (λ (m : ℕ). 1 ≤ m) is some)));
        leaf = ap (λ (c : Body). c.kind) body_was ∙ (way_leaf old key p (step_way old zero key parent p pending.way pending.child)).0;
        can = can_part;
      })

-- ---- the root

module _ {dense : Bool} (s : AllPages) (key : Key) (xs : List Numbered) (up : IsRising xs) (l r : ℕ) (g : Page) (page : g ≡ page_in s xs 1) (pending : IsRootPending dense (seen s xs) (r ∷ l ∷ []) key zero) where
  root_was : held (beneath s xs 1 g up page) (without_image 1 xs) ≡ seen s xs
  root_was = out_same s xs 1 g up page

  root_out : IsRootPending dense (held (beneath s xs 1 g up page) (without_image 1 xs)) (r ∷ l ∷ []) key zero
  root_out = subst (λ (pages : Pages). IsRootPending dense pages (r ∷ l ∷ []) key zero) (sym root_was) pending

  pub root_ended : (out new : List Numbered) (half : ℕ) → out ≡ without_image 1 xs → HalvesRootLeaf out new g.body key l r half → IsEnd (seen s xs) (seen s new) key 1 half × (1 ≤ length new) × Has new 1 × Has new half
  root_ended out new half out_is parts =
      let halves : HalvesRootLeaf (without_image 1 xs) new g.body key l r half = subst (λ (m : List Numbered). HalvesRootLeaf m new g.body key l r half) out_is parts in
      let now = held (beneath s xs 1 g up page) (without_image 1 xs) in
      let is = halves.goes (beneath s xs 1 g up page) [] (relisted now (r ∷ l ∷ []) (l ∷ r ∷ []) (λ x. omega arith) root_out.good) root_out.tall (out_at s xs 1 g up page) in (
        subst (λ (pages : Pages). IsEnd pages (seen s new) key 1 half) root_was
            (subst (λ (pages : Pages). IsEnd now pages key 1 half) (in_same s xs 1 g up page new halves.there) (end_of now (held (beneath s xs 1 g up page) new) key 1 half is)),
        some_long new 1 halves.there,
        halves.there,
        halves.part,
      )

  pub root_leaf : g.body.kind ≡ Leaf
  root_leaf =
      sym (ap (λ (c : Body). c.kind) (out_at s xs 1 g up page))
      ∙ (way_leaf (held (beneath s xs 1 g up page) (without_image 1 xs)) key 1
      (subst (λ (h : ℕ). IsOnWay (held (beneath s xs 1 g up page) (without_image 1 xs)) h key 1) root_out.tall (way_begins (held (beneath s xs 1 g up page) (without_image 1 xs)) (r ∷ l ∷ []) key root_out.good))).0

  pub can_part_root : FitsPage true g.body.entries → CanHalve dense Leaf g.body
  can_part_root fits =
      let now = held (beneath s xs 1 g up page) (without_image 1 xs) in
      let is : now 1 ≡ g.body = out_at s xs 1 g up page in
      subst (CanHalve dense Leaf) is (root_leaf_can now (r ∷ l ∷ []) key root_out (subst (λ (c : Body). FitsPage true c.entries) (sym is) fits))
