-- Allocations and deletions among the images keep a good tree good, and its walk as it was.
use Rattle.std.proofs.Common.{◌≡◌, ℕ, suc, ◌-◌, ◌<◌, List, ◌∷◌, ◌++◌, length, sym, subst, ◌∙◌, arith}
use Rattle.im_base_types.specs.Keys.{Key}
use Rattle.im_base_types.specs.Pages.{Body}
use Rattle.im_theory_log.specs.Tree.{with_body}
use Rattle.im_theory_page.specs.Entry.{entry_at}
use Rattle.im_theory_tree.specs.Levels.{Pages, height, walk}
use Rattle.im_theory_tree.specs.Good.{IsGoodTree}
use Rattle.im_theory_tree.specs.Search.{IsOnWay}
use Rattle.im_theory_tree.specs.KeyDeletions.{HasNone, leaf_down, chain_down}
use Rattle.im_theory_tree.proofs.Cited.{take_free, take_count, give_free, way_stays, drop_entry, drop_leftmost, drop_all}
use Rattle.im_smo_pages.specs.Bodies.{meta_without_first, meta_with_count, without_entry, without_leftmost}
use Rattle.im_smo_pages.specs.Images.{Numbered, held}
use Rattle.im_smo_pages.specs.Changed.{SamePages, unlinked_pages, free_given_pages, root_emptied_pages}
use Rattle.im_smo_pages.specs.OnImages.{Becomes, TakesFirst, TakesNext}
use Rattle.im_smo_pages.specs.OnWay.{KeepsTree}
use Rattle.im_smo_pages.proofs.Updates.{at_other, tree_of, not_first}
use Rattle.im_smo_pages.proofs.AllocationSteps.{take_free_step, take_count_step, give_free_step}
use Rattle.im_smo_pages.proofs.DropSteps.{entry_step, leftmost_step, root_step}
use Rattle.im_smo_pages.proofs.Becoming.{drop_then_unlink}

-- a change of the meta page alone
keeps_tree : (old new : Pages) (b : Body) (spare left : List ℕ) → SamePages new (with_body old 0 b) → IsGoodTree old spare → IsGoodTree new left → walk new ≡ walk old → KeepsTree old new left
keeps_tree old new b spare left is was good walks = record {
  good = good;
  walks = walks;
  ways = λ k key p way. way_stays old new spare left k key p was good
      (λ x t. tree_of (old x) (new x) (is x ∙ at_other old 0 b x (not_first x 0 spare t))) way;
  others = λ x some. is x ∙ at_other old 0 b x (λ e. omega (arith, some, e));
}

pub first_keeps : (a b : List Numbered) (page : Body) (q : ℕ) (pages : Pages) (spare : List ℕ) → TakesFirst a b page q → held pages a q ≡ page → IsGoodTree (held pages a) spare
    → KeepsTree (held pages a) (held pages b) (q ∷ spare)
first_keeps a b page q pages spare takes page_is good =
    let old : Pages = held pages a in
    let new_is = takes.pages pages page_is in
    let done = take_free old (held pages b) spare ((old 0).prev - 1) (old 0).next (take_free_step old (held pages b) spare good (takes.some pages) new_is) in
    keeps_tree old (held pages b) (meta_without_first (old 0) (old (old 0).next)) spare (q ∷ spare) new_is good
    (subst (λ (x : ℕ). IsGoodTree (held pages b) (x ∷ spare)) (sym (takes.number pages)) done.0) done.1

pub next_keeps : (a b : List Numbered) (q : ℕ) (pages : Pages) (spare : List ℕ) → TakesNext a b q → IsGoodTree (held pages a) spare → KeepsTree (held pages a) (held pages b) (q ∷ spare)
next_keeps a b q pages spare takes good =
    let old : Pages = held pages a in
    let new_is = takes.becomes.pages pages in
    let done = take_count old (held pages b) spare (take_count_step old (held pages b) spare good (takes.none pages) new_is) in
    keeps_tree old (held pages b) (meta_with_count (old 0)) spare (q ∷ spare) new_is good
    (subst (λ (x : ℕ). IsGoodTree (held pages b) (x ∷ spare)) (sym (takes.number pages)) done.0) done.1

-- ---- deletions

pub entry_keeps : (a b c : List Numbered) (page : Body) (pages : Pages) (spare : List ℕ) (h : ℕ) (key : Key) (parent p i : ℕ)
    → Becomes a b (λ f. with_body f parent (without_entry (f parent) i)) → Becomes b c (λ f. unlinked_pages f page.prev page.next) → held pages a (leaf_down (held pages a) h p) ≡ page
    → IsGoodTree (held pages a) spare → IsOnWay (held pages a) (suc h) key parent → i < length (held pages a parent).entries → (entry_at (held pages a parent).entries i).1 ≡ p → HasNone (held pages a) h p
    → IsGoodTree (held pages c) (chain_down (held pages a) h p ++ spare) × (walk (held pages c) ≡ walk (held pages a))
entry_keeps a b c page pages spare h key parent p i drops unlinks page_is good way within child none =
    drop_entry (held pages a) (held pages c) spare h key parent p i
    (entry_step (held pages a) (held pages c) spare h key parent p i good way within child none
    (drop_then_unlink a b c page (leaf_down (held pages a) h p) (λ f. with_body f parent (without_entry (f parent) i)) pages drops unlinks page_is))

pub leftmost_keeps : (a b c : List Numbered) (page : Body) (pages : Pages) (spare : List ℕ) (h : ℕ) (key : Key) (parent p : ℕ)
    → Becomes a b (λ f. with_body f parent (without_leftmost (f parent))) → Becomes b c (λ f. unlinked_pages f page.prev page.next) → held pages a (leaf_down (held pages a) h p) ≡ page
    → IsGoodTree (held pages a) spare → IsOnWay (held pages a) (suc h) key parent → 0 < length (held pages a parent).entries → (held pages a parent).leftmost ≡ p → HasNone (held pages a) h p
    → IsGoodTree (held pages c) (chain_down (held pages a) h p ++ spare) × (walk (held pages c) ≡ walk (held pages a))
leftmost_keeps a b c page pages spare h key parent p drops unlinks page_is good way within child none =
    drop_leftmost (held pages a) (held pages c) spare h key parent p
    (leftmost_step (held pages a) (held pages c) spare h key parent p good way within child none
    (drop_then_unlink a b c page (leaf_down (held pages a) h p) (λ f. with_body f parent (without_leftmost (f parent))) pages drops unlinks page_is))

pub root_keeps : (a b : List Numbered) (pages : Pages) (spare : List ℕ) (h : ℕ) → Becomes a b root_emptied_pages → IsGoodTree (held pages a) spare → height (held pages a) ≡ suc h
    → HasNone (held pages a) (suc h) 1 → IsGoodTree (held pages b) (chain_down (held pages a) h (held pages a 1).leftmost ++ spare) × (walk (held pages b) ≡ walk (held pages a))
root_keeps a b pages spare h becomes good tall none =
    drop_all (held pages a) (held pages b) spare h (root_step (held pages a) (held pages b) spare h good tall none (becomes.pages pages))

pub given_keeps : (a b : List Numbered) (pages : Pages) (spare : List ℕ) (q : ℕ) → Becomes a b (λ f. free_given_pages f q) → IsGoodTree (held pages a) (q ∷ spare)
    → IsGoodTree (held pages b) spare × (walk (held pages b) ≡ walk (held pages a))
given_keeps a b pages spare q becomes good = give_free (held pages a) (held pages b) spare q (give_free_step (held pages a) (held pages b) spare q good (becomes.pages pages))
