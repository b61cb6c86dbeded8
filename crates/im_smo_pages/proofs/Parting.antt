-- The pages of a split, put among the images.
use Rattle.std.proofs.Common.{◌≡◌, ℕ, ◌+◌, Bool, List, [], ◌∷◌, take, drop, Some, sym, ap, subst, ◌∙◌}
use Rattle.im_base_types.specs.Pages.{Body, Page}
use Rattle.im_theory_log.specs.Tree.{with_body, with_entries}
use Rattle.im_theory_page.specs.Entry.{entry_at, Rises}
use Rattle.im_theory_tree.specs.Levels.{Pages}
use Rattle.im_smo_pages.specs.Bodies.{inner_body, raised, with_separator}
use Rattle.im_theory_page.specs.Header.{leaf_body}
use Rattle.im_smo_pages.specs.Parts.{LeafSplit, InnerSplit, RootLeafSplit, RootInnerSplit}
use Rattle.im_smo_pages.specs.Images.{Numbered, IsRising, image_of, held, Has, KeepsAll}
use Rattle.im_smo_pages.specs.Changed.{SamePages, leaf_parted_pages, inner_split_pages, root_leaf_split_pages, root_inner_split_pages}
use Rattle.im_smo_pages.specs.OnImages.{PartsLeaf, PartsInner, PartsRootLeaf, PartsRootInner}
use Rattle.im_smo_pages.proofs.Updates.{same_trans}
use Rattle.im_smo_pages.proofs.Holding.{held_there, put_three, three_keep, three_has, held_three, same_three}

-- what the parent has, from what it had
above_is : (h : Pages) (parent p q n : ℕ) (page old_above above : Page) → h p ≡ page.body → h parent ≡ old_above.body
    → above.body ≡ with_separator old_above.body (entry_at page.body.entries n).0 q → above.body ≡ with_separator (h parent) (entry_at (h p).entries n).0 q
above_is h parent p q n page old_above above page_is above_was now =
    now
    ∙ ap (λ (b : Body). with_separator b (entry_at page.body.entries n).0 q) (sym above_was)
    ∙ ap (λ (b : Body). with_separator (h parent) (entry_at b.entries n).0 q) (sym page_is)

pub parts_leaf : {dense : Bool} (xs new : List Numbered) (page old_left old_right old_above left right above : Page) (parent p q n : ℕ) → IsRising xs → image_of xs parent ≡ Some old_above → Rises old_above.body.entries
    → LeafSplit dense page old_left old_right old_above left right above p q n → new ≡ put_three parent above q right p left xs → PartsLeaf dense xs new page.body parent p q n
parts_leaf xs new page old_left old_right old_above left right above parent p q n up there rises split is = record {
  at = split.at;
  rises = λ pages. subst (λ (b : Body). Rises b.entries) (sym (held_there pages xs parent old_above there)) rises;
  kept = subst (KeepsAll xs) (sym is) (three_keep parent above q right p left xs up);
  left = subst (λ (ys : List Numbered). Has ys p) (sym is) (three_has parent above q right p left xs up).2;
  right = subst (λ (ys : List Numbered). Has ys q) (sym is) (three_has parent above q right p left xs up).1;
  pages = λ pages page_is.
      let h : Pages = held pages xs in
      subst (λ (ys : List Numbered). SamePages (held pages ys) (leaf_parted_pages h parent p q n)) (sym is)
      (same_trans (held pages (put_three parent above q right p left xs)) (with_body (with_body (with_body h parent above.body) q right.body) p left.body) (leaf_parted_pages h parent p q n)
      (held_three pages parent above q right p left xs up)
      (same_three h parent above.body (with_separator (h parent) (entry_at (h p).entries n).0 q) q right.body (leaf_body p (h p).next (drop n (h p).entries)) p left.body (leaf_body (h p).prev q (take n (h p).entries))
      (above_is h parent p q n page old_above above page_is (held_there pages xs parent old_above there) (ap (λ (x : Page). x.body) split.parent))
      (ap (λ (x : Page). x.body) split.right ∙ ap (λ (b : Body). leaf_body p b.next (drop n b.entries)) (sym page_is))
      (ap (λ (x : Page). x.body) split.left ∙ ap (λ (b : Body). leaf_body b.prev q (take n b.entries)) (sym page_is))));
}

pub parts_inner : (xs new : List Numbered) (page old_left old_right old_above left right above : Page) (parent p q n : ℕ) → IsRising xs → image_of xs parent ≡ Some old_above → Rises old_above.body.entries
    → InnerSplit page old_left old_right old_above left right above q n → new ≡ put_three parent above q right p left xs → PartsInner xs new page.body parent p q n
parts_inner xs new page old_left old_right old_above left right above parent p q n up there rises split is = record {
  at = split.at;
  rises = λ pages. subst (λ (b : Body). Rises b.entries) (sym (held_there pages xs parent old_above there)) rises;
  kept = subst (KeepsAll xs) (sym is) (three_keep parent above q right p left xs up);
  left = subst (λ (ys : List Numbered). Has ys p) (sym is) (three_has parent above q right p left xs up).2;
  right = subst (λ (ys : List Numbered). Has ys q) (sym is) (three_has parent above q right p left xs up).1;
  pages = λ pages page_is.
      let h : Pages = held pages xs in
      subst (λ (ys : List Numbered). SamePages (held pages ys) (inner_split_pages h parent p q n)) (sym is)
      (same_trans (held pages (put_three parent above q right p left xs)) (with_body (with_body (with_body h parent above.body) q right.body) p left.body) (inner_split_pages h parent p q n)
      (held_three pages parent above q right p left xs up)
      (same_three h parent above.body (with_separator (h parent) (entry_at (h p).entries n).0 q) q right.body (inner_body (h p).level (entry_at (h p).entries n).1 (drop (n + 1) (h p).entries)) p left.body
      (with_entries (h p) (take n (h p).entries))
      (above_is h parent p q n page old_above above page_is (held_there pages xs parent old_above there) (ap (λ (x : Page). x.body) split.parent))
      (ap (λ (x : Page). x.body) split.right ∙ ap (λ (b : Body). inner_body b.level (entry_at b.entries n).1 (drop (n + 1) b.entries)) (sym page_is))
      (ap (λ (x : Page). x.body) split.left ∙ ap (λ (b : Body). with_entries b (take n b.entries)) (sym page_is))));
}

pub parts_root_leaf : {dense : Bool} (xs new : List Numbered) (page old_root old_left old_right root left right : Page) (l r n : ℕ) → IsRising xs
    → RootLeafSplit dense page old_root old_left old_right root left right l r n → new ≡ put_three 1 root r right l left xs → PartsRootLeaf dense xs new page.body l r n
parts_root_leaf xs new page old_root old_left old_right root left right l r n up split is = record {
  at = split.at;
  kept = subst (KeepsAll xs) (sym is) (three_keep 1 root r right l left xs up);
  root = subst (λ (ys : List Numbered). Has ys 1) (sym is) (three_has 1 root r right l left xs up).0;
  left = subst (λ (ys : List Numbered). Has ys l) (sym is) (three_has 1 root r right l left xs up).2;
  right = subst (λ (ys : List Numbered). Has ys r) (sym is) (three_has 1 root r right l left xs up).1;
  pages = λ pages page_is.
      let h : Pages = held pages xs in
      subst (λ (ys : List Numbered). SamePages (held pages ys) (root_leaf_split_pages h l r n)) (sym is)
      (same_trans (held pages (put_three 1 root r right l left xs)) (with_body (with_body (with_body h 1 root.body) r right.body) l left.body) (root_leaf_split_pages h l r n)
      (held_three pages 1 root r right l left xs up)
      (same_three h 1 root.body (inner_body 1 l (((entry_at (h 1).entries n).0, r) ∷ [])) r right.body (leaf_body l 0 (drop n (h 1).entries)) l left.body (leaf_body 0 r (take n (h 1).entries))
      (ap (λ (x : Page). x.body) split.root ∙ ap (λ (b : Body). inner_body 1 l (((entry_at b.entries n).0, r) ∷ [])) (sym page_is))
      (ap (λ (x : Page). x.body) split.right ∙ ap (λ (b : Body). leaf_body l 0 (drop n b.entries)) (sym page_is))
      (ap (λ (x : Page). x.body) split.left ∙ ap (λ (b : Body). leaf_body 0 r (take n b.entries)) (sym page_is))));
}

pub parts_root_inner : (xs new : List Numbered) (page old_root old_left old_right root left right : Page) (l r n : ℕ) → IsRising xs
    → RootInnerSplit page old_root old_left old_right root left right l r n → new ≡ put_three 1 root r right l left xs → PartsRootInner xs new page.body l r n
parts_root_inner xs new page old_root old_left old_right root left right l r n up split is = record {
  at = split.at;
  kept = subst (KeepsAll xs) (sym is) (three_keep 1 root r right l left xs up);
  root = subst (λ (ys : List Numbered). Has ys 1) (sym is) (three_has 1 root r right l left xs up).0;
  left = subst (λ (ys : List Numbered). Has ys l) (sym is) (three_has 1 root r right l left xs up).2;
  right = subst (λ (ys : List Numbered). Has ys r) (sym is) (three_has 1 root r right l left xs up).1;
  pages = λ pages page_is.
      let h : Pages = held pages xs in
      subst (λ (ys : List Numbered). SamePages (held pages ys) (root_inner_split_pages h l r n)) (sym is)
      (same_trans (held pages (put_three 1 root r right l left xs)) (with_body (with_body (with_body h 1 root.body) r right.body) l left.body) (root_inner_split_pages h l r n)
      (held_three pages 1 root r right l left xs up)
      (same_three h 1 root.body (raised (h 1) l (entry_at (h 1).entries n).0 r) r right.body (inner_body (h 1).level (entry_at (h 1).entries n).1 (drop (n + 1) (h 1).entries)) l left.body
      (with_entries (h 1) (take n (h 1).entries))
      (ap (λ (x : Page). x.body) split.root ∙ ap (λ (b : Body). raised b l (entry_at b.entries n).0 r) (sym page_is))
      (ap (λ (x : Page). x.body) split.right ∙ ap (λ (b : Body). inner_body b.level (entry_at b.entries n).1 (drop (n + 1) b.entries)) (sym page_is))
      (ap (λ (x : Page). x.body) split.left ∙ ap (λ (b : Body). with_entries b (take n b.entries)) (sym page_is))));
}
