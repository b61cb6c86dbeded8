-- A tree whose leaf of a key is without its entries.
use Rattle.std.proofs.Common.{◌≡◌, ◌≢◌, ◌≤◌, ℕ, zero, suc, Bool, true, false, if◌then◌else◌, ◌==◌, List, [], ◌∷◌, length, Option, Some, None, inl, inr, refl, sym, ap, subst, ◌∙◌, arith}
use Rattle.std.specs.Prelude.{remove, Result, Ok, Err, OnOk, IfOk, IfErr}
use Rattle.std.proofs.Math.Path.{fun_ext}
use Rattle.std.proofs.lemmas.Bool.{cases_eq, cond-true, cond-false, eq-eqb, ne_eqb}
use Rattle.im_base_types.specs.Keys.{Key}
use Rattle.im_base_types.specs.declared.fault.Fault.{Fault}
use Rattle.im_base_types.specs.declared.fault.Fault.TheVariants.{NotAStore}
use Rattle.im_base_types.specs.Pages.{Body, Entry, Page}
use Rattle.im_base_types.specs.declared.page_kind.PageKind.TheVariants.{Free, Leaf, Inner}
use Rattle.im_theory_log.specs.Tree.{with_body, with_entries}
use Rattle.im_page_writer.specs.Outcome.{AllPages, IsSound}
use Rattle.im_theory_tree.specs.Levels.{Pages, height}
use Rattle.im_theory_tree.specs.Good.{IsGoodTree}
use Rattle.im_theory_tree.specs.Search.{IsOnWay}
use Rattle.im_theory_tree.specs.Ways.{with_leaf}
use Rattle.im_theory_tree.proofs.Cited.{leaf_change, way_inner, changes_leaf, way_begins}
use Rattle.im_smo_pages.specs.Bodies.{says}
use Rattle.im_smo_pages.specs.Images.{Numbered, image_of, put_image, without_image}
use Rattle.im_smo_pages.specs.Seen.{bodies, seen, page_in}
use Rattle.im_smo_pages.proofs.ImageLemmas.{applied_image, body_or}
use Rattle.im_smo_pages.proofs.Seeing.{put_back}
use Rattle.im_tree_search.specs.Levels.{HasLevel, kind_at}
use Rattle.im_tree_search.proofs.Steps.{way_level}
use Rattle.im_smo_drop_leaf.specs.declared.beside.Beside.{Beside}
use Rattle.im_smo_drop_leaf.specs.Chains.{IsBeside}
use Rattle.im_smo_drop_leaf.specs.Emptied.{emptied, SameAbove, SameBut}

-- ---- pages above the leaves

-- the root is of its level
pub root_level : (pages tree : Pages) (key : Key) → SameAbove pages tree → IsGoodTree tree [] → HasLevel (pages 1).level (pages 1)
root_level pages tree key same good =
    let root = way_level tree (height tree) key 1 (way_begins tree [] key good) in
    record { kind = same.kind 1 ∙ root.kind ∙ ap kind_at (sym (same.level 1)); level = refl }

-- an inner page on the way is the same
pub inner_same : (pages tree : Pages) (h : ℕ) (key : Key) (n : ℕ) → SameAbove pages tree → 1 ≤ h → IsOnWay tree h key n → pages n ≡ tree n
inner_same pages tree zero key n same some way = absurd (omega (arith, some))
inner_same pages tree (suc k) key n same some way = same.inner n (way_inner tree k key n way).0

pub inner_level : (pages tree : Pages) (h : ℕ) (key : Key) (n : ℕ) → SameAbove pages tree → 1 ≤ h → IsOnWay tree h key n → HasLevel h (pages n)
inner_level pages tree h key n same some way = subst (HasLevel h) (sym (inner_same pages tree h key n same some way)) (way_level tree h key n way)

-- pages are the same as themselves
pub same_self : (pages : Pages) → SameAbove pages pages
same_self pages = record { kind = λ q. refl; level = λ q. refl; inner = λ q is. refl }

-- ---- the leaf without its entries

emptied_here : (pages : AllPages) (p : ℕ) → bodies (emptied pages p) p ≡ with_entries (bodies pages p) []
emptied_here pages p = ap (λ (g : Page). g.body) (cond-true (p == p) (says (pages p) (with_entries (pages p).body [])) (pages p) (eq-eqb p p refl))

emptied_other : (pages : AllPages) (p q : ℕ) → p ≢ q → bodies (emptied pages p) q ≡ bodies pages q
emptied_other pages p q other = ap (λ (g : Page). g.body) (cond-false (p == q) (says (pages q) (with_entries (pages q).body [])) (pages q) (ne_eqb p q other))

pub emptied_none : (pages : AllPages) (p : ℕ) → (bodies (emptied pages p) p).entries ≡ []
emptied_none pages p = ap (λ (b : Body). b.entries) (emptied_here pages p)

-- it is that leaf alone that is another
emptied_is : (pages : AllPages) (p q : ℕ) → bodies (emptied pages p) q ≡ with_leaf (bodies pages) p [] q
emptied_is pages p q = elim (cases_eq p q) [
  | inl here ↦ subst (λ (x : ℕ). bodies (emptied pages p) x ≡ with_leaf (bodies pages) p [] x) here (emptied_here pages p ∙ sym (cond-true (p == p) (with_entries (bodies pages p) []) (bodies pages p) (eq-eqb p p refl)))
  | inr other ↦ emptied_other pages p q other ∙ sym (cond-false (p == q) (with_entries (bodies pages p) []) (bodies pages q) (ne_eqb p q other))
]

-- the tree is good still
pub emptied_good : (pages : AllPages) (key : Key) (p : ℕ) → IsGoodTree (bodies pages) [] → IsOnWay (bodies pages) 0 key p → IsGoodTree (bodies (emptied pages p)) []
emptied_good pages key p good way =
    let change = changes_leaf (bodies pages) [] way.left way.node way.right [] good (sym way.leaves) tt in
    let new : IsGoodTree (with_leaf (bodies pages) way.node.page []) [] = (leaf_change (bodies pages) (with_leaf (bodies pages) way.node.page []) [] way.left way.node way.right change).0 in
    let here : IsGoodTree (with_leaf (bodies pages) p []) [] = subst (λ (x : ℕ). IsGoodTree (with_leaf (bodies pages) x []) []) way.page new in
    let is : bodies (emptied pages p) ≡ with_leaf (bodies pages) p [] = fun_ext (emptied_is pages p) in
    subst (λ (f : Pages). IsGoodTree f []) (sym is) here

same_kind : (t : Bool) (g : Page) → (if t then says g (with_entries g.body []) else g).body.kind ≡ g.body.kind
same_kind true g = refl
same_kind false g = refl

same_level : (t : Bool) (g : Page) → (if t then says g (with_entries g.body []) else g).body.level ≡ g.body.level
same_level true g = refl
same_level false g = refl

pub emptied_above : (pages : AllPages) (p : ℕ) → (bodies pages p).kind ≡ Leaf → SameAbove (bodies pages) (bodies (emptied pages p))
emptied_above pages p leaf = record {
  kind = λ q. sym (same_kind (p == q) (pages q));
  level = λ q. sym (same_level (p == q) (pages q));
  inner = λ q is. elim (cases_eq p q) [
    | inl here ↦ (let clash : Leaf ≡ Inner = sym leaf ∙ ap (λ (x : ℕ). (bodies pages x).kind) here ∙ sym (same_kind (p == q) (pages q)) ∙ is in absurd (cc clash))
    | inr other ↦ sym (emptied_other pages p q other)
  ];
}

pub emptied_but : (pages : AllPages) (p : ℕ) → (bodies pages p).kind ≡ Leaf → SameBut p (bodies pages) (bodies (emptied pages p))
emptied_but pages p leaf = record { leaf = leaf; others = λ q other. sym (emptied_other pages p q other) }

-- ---- images over pages that differ in one leaf

-- where that leaf's page is free among the images, the pages after them are the same
pub seen_same : (pages now : AllPages) (n : ℕ) (images : List Numbered) → SameBut n (bodies pages) (bodies now) → (seen pages images n).kind ≡ Free → seen now images ≡ seen pages images
seen_same pages now n images same free = fun_ext (λ (x : ℕ). applied_image (bodies now) images x ∙ at x ∙ sym (applied_image (bodies pages) images x))
  where
    there : (o : Option Page) → image_of images n ≡ o → body_or o (bodies now n) ≡ body_or o (bodies pages n)
    there None is =
        let kind : (seen pages images n).kind ≡ (bodies pages n).kind = ap (λ (b : Body). b.kind) (applied_image (bodies pages) images n ∙ ap (λ (o : Option Page). body_or o (bodies pages n)) is) in
        let clash : Free ≡ Leaf = sym free ∙ kind ∙ same.leaf in
        absurd (cc clash)
    there (Some g) is = refl

    at : (x : ℕ) → body_or (image_of images x) (bodies now x) ≡ body_or (image_of images x) (bodies pages x)
    at x = elim (cases_eq n x) [
      | inl here ↦
          subst (λ (y : ℕ). body_or (image_of images y) (bodies now y) ≡ body_or (image_of images y) (bodies pages y)) here (there (image_of images n) refl)
      | inr other ↦ ap (λ (b : Body). body_or (image_of images x) b) (sym (same.others x other))
    ]

-- images with the leaf alone, without its entries
pub emptied_seen : (pages : AllPages) (p : ℕ) (page : Page) (old mid new : List Numbered) → old ≡ [] → page ≡ pages p → mid ≡ without_image p old → new ≡ put_image p (says page (with_entries page.body [])) mid → seen pages new ≡ bodies (emptied pages p)
emptied_seen pages p page old mid new none is is_mid is_new =
    let alone : new ≡ put_image p (says page (with_entries page.body [])) (without_image p []) =
    is_new ∙ ap (λ (l : List Numbered). put_image p (says page (with_entries page.body [])) l) (is_mid ∙ ap (without_image p) none) in
    fun_ext (λ (x : ℕ).
    ap (λ (l : List Numbered). seen pages l x) alone
    ∙ put_back pages [] p (says page (with_entries page.body [])) tt x
    ∙ ap (λ (g : Page). with_body (bodies pages) p (with_entries g.body []) x) is
    ∙ sym (emptied_is pages p x))

-- one entry taken out leaves none
pub last_out : (es : List Entry) → length es ≡ 1 → remove es 0 ≡ []
last_out [] one = absurd (omega (arith, one))
last_out (e ∷ []) one = refl
last_out (e ∷ d ∷ es) one = absurd (omega (arith, one))

-- what the image of a leaf says that was without its last entry put among them
pub put_says : (pages : AllPages) (n : ℕ) (page : Page) (old mid new : List Numbered) (r : Result Beside Fault) → old ≡ [] → page ≡ page_in pages old n → mid ≡ without_image n old
    → OnOk r (new ≡ put_image n (says page (with_entries page.body [])) mid) → IfOk r (IsBeside (with_entries page.body [])) → (HasLevel 0 page.body → length page.body.entries ≡ 1 → IfErr r (λ e. e ≢ NotAStore))
    → HasLevel 0 (bodies pages n) → length (bodies pages n).entries ≡ 1 → IsSound r (λ near. (seen pages new ≡ bodies (emptied pages n)) × IsBeside (bodies (emptied pages n) n) near)
put_says pages n page old mid new (Ok near) none is is_mid is_new beside sound level one =
    let same : page ≡ pages n = is ∙ ap (λ (l : List Numbered). page_in pages l n) none in
    let body : with_entries page.body [] ≡ bodies (emptied pages n) n = ap (λ (g : Page). with_entries g.body []) same ∙ sym (emptied_here pages n) in
    (emptied_seen pages n page old mid new none same is_mid is_new, subst (λ (b : Body). IsBeside b near) body beside)
put_says pages n page old mid new (Err e) none is is_mid is_new beside sound level one =
    let same : page ≡ pages n = is ∙ ap (λ (l : List Numbered). page_in pages l n) none in
    sound (subst (λ (g : Page). HasLevel 0 g.body) (sym same) level) (ap (λ (g : Page). length g.body.entries) same ∙ one)
