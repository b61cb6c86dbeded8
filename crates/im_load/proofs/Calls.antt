-- What the calls of a loader come to, one after another.
use Rattle.std.proofs.Common.{◌≡◌, ℕ, ◌+◌, ◌<◌, true, List, [], ◌∷◌, ◌++◌, length, sym, ◌∙◌, ap, subst, arith}
use Rattle.std.specs.Prelude.{set}
use Rattle.im_base_types.specs.Keys.{Key}
use Rattle.im_base_types.specs.Pages.{Entry}
use Rattle.im_base_types.specs.declared.page_kind.PageKind.TheVariants.{Leaf}
use Rattle.im_theory_page.specs.Header.{leaf_body}
use Rattle.im_theory_page.specs.Split.{LacksRoom}
use Rattle.im_load.specs.Edge.{IsAboveAll}
use Rattle.im_load.specs.Steps.{inner_page}
use Rattle.im_load.specs.declared.loader.Loader.{Loader}
use Rattle.im_load.specs.Files.{WritesPageAt}
use Rattle.im_load.specs.Held.{Numbered, with_new_body, with_last, held_page}
use Rattle.im_load.specs.Loading.{HasTakenAll, Pending}
use Rattle.im_load.proofs.Holdings.{pending_put}
use Rattle.im_load.proofs.Adapters.{leaf_raised_by, leaf_closed_by, inner_closed_by, inner_raised_by}
use Rattle.im_load.proofs.Lasts.{leaf_kind}

-- a leaf as it is begun
abbrev new_leaf : ℕ → ℕ → ℕ → Entry → Numbered
new_leaf number lsn prev e = (number, record { lsn = lsn; body = leaf_body prev 0 (e ∷ []) })

abbrev new_inner : ℕ → ℕ → ℕ → ℕ → Numbered
new_inner number lsn level child = (number, record { lsn = lsn; body = inner_page level child [] })

abbrev new_root : ℕ → ℕ → Key → ℕ → Numbered
new_root level left key right = (1, record { lsn = 0; body = inner_page level left ((key, right) ∷ []) })

module _ (s0 s1 : Loader) (left : ℕ) (first : left ≡ s0.count) (one : s1 ≡ record s0 { count = s0.count + 1 }) where
  one_leaf : s1.leaf ≡ s0.leaf
  one_leaf = ap (λ (l : Loader). l.leaf) one

  one_above : s1.above.items ≡ s0.above.items
  one_above = ap (λ (l : Loader). l.above.items) one

  one_count : s1.count ≡ s0.count + 1
  one_count = ap (λ (l : Loader). l.count) one

  pub one_kind : (tells : Type 0) (file : List ℕ) (es : List Entry) → HasTakenAll s0.leaf s0.above.items s0.count tells file es → s1.leaf.1.body.kind ≡ Leaf
  one_kind tells file es t = ap (λ (l : Numbered). l.1.body.kind) one_leaf ∙ leaf_kind s0.leaf s0.above.items s0.count tells file es t

  -- the last leaf is closed under its parent
  pub close_leaf_made : (s2 : Loader) (number : ℕ) (tells : Type 0) (old file : List ℕ) (es : List Entry) (e : Entry) → number ≡ s1.leaf.0 → s2 ≡ record s1 { leaf = new_leaf left s1.leaf.1.lsn number e }
      → (tells → WritesPageAt old file number (with_new_body s1.leaf.1 (record s1.leaf.1.body { next = left }))) → HasTakenAll s0.leaf s0.above.items s0.count tells old es → (length s1.above.items ≡ 0 → ⊥) → IsAboveAll e.0 es
      → LacksRoom true s0.leaf.1.body.entries → Pending s2.leaf s2.above.items s2.count tells file (es ++ e ∷ []) 0 e.0 left
  close_leaf_made s2 number tells old file es e number_is two written t some top full =
      let number_was : number ≡ s0.leaf.0 = number_is ∙ ap (λ (l : Numbered). l.0) one_leaf in
      let leaf_is : s2.leaf ≡ new_leaf s0.count s0.leaf.1.lsn s0.leaf.0 e =
      ap (λ (l : Loader). l.leaf) two ∙ ap (λ (l : Numbered). new_leaf left l.1.lsn number e) one_leaf ∙ ap (λ n. new_leaf n s0.leaf.1.lsn number e) first ∙ ap (λ n. new_leaf s0.count s0.leaf.1.lsn n e) number_was in
      let written0 : tells → WritesPageAt old file s0.leaf.0 (with_new_body s0.leaf.1 (record s0.leaf.1.body { next = s0.count })) = λ told.
      subst (λ n. WritesPageAt old file s0.leaf.0 (with_new_body s0.leaf.1 (record s0.leaf.1.body { next = n }))) first
      (subst (λ (l : Numbered). WritesPageAt old file s0.leaf.0 (with_new_body l.1 (record l.1.body { next = left }))) one_leaf
      (subst (λ n. WritesPageAt old file n (with_new_body s1.leaf.1 (record s1.leaf.1.body { next = left }))) number_was (written told))) in
      let above_is : s0.above.items ≡ s2.above.items = sym (ap (λ (l : Loader). l.above.items) two ∙ one_above) in
      let count_is : s2.count ≡ s0.count + 1 = ap (λ (l : Loader). l.count) two ∙ one_count in
      let some0 : length s0.above.items ≡ 0 → ⊥ = λ none. some (ap length one_above ∙ none) in
      subst (λ n. Pending s2.leaf s2.above.items s2.count tells file (es ++ e ∷ []) 0 e.0 n) (sym first)
      (subst (λ (ns : List Numbered). Pending s2.leaf ns s2.count tells file (es ++ e ∷ []) 0 e.0 s0.count) above_is
      (leaf_closed_by s0.leaf s2.leaf s0.above.items s0.count s2.count tells old file es e t some0 top full count_is leaf_is written0))

  -- an inner page is closed under its parent
  pub close_inner_made : (s2 : Loader) (number : ℕ) (tells : Type 0) (old file : List ℕ) (es : List Entry) (i : ℕ) (level : ℕ) (key : Key) (child : ℕ) → number ≡ (held_page s1.above.items i).0
      → (tells → WritesPageAt old file number (held_page s1.above.items i).1) → s2 ≡ record s1 { above = s2.above } → level ≡ i + 1
      → s2.above.items ≡ set s1.above.items i (new_inner left (held_page s1.above.items i).1.lsn level child) → Pending s0.leaf s0.above.items s0.count tells old es i key child → i + 1 < length s0.above.items
      → Pending s2.leaf s2.above.items s2.count tells file es (i + 1) key left
  close_inner_made s2 number tells old file es i level key child number_is written two level_is are t more =
      let written0 : tells → WritesPageAt old file (held_page s0.above.items i).0 (held_page s0.above.items i).1 = λ told.
      subst (λ (ns : List Numbered). WritesPageAt old file (held_page ns i).0 (held_page ns i).1) one_above (subst (λ n. WritesPageAt old file n (held_page s1.above.items i).1) number_is (written told)) in
      let list_is : s2.above.items ≡ set s0.above.items i (new_inner s0.count (held_page s0.above.items i).1.lsn (i + 1) child) =
      are ∙ ap (λ (ns : List Numbered). set ns i (new_inner left (held_page ns i).1.lsn level child)) one_above
      ∙ ap (λ n. set s0.above.items i (new_inner n (held_page s0.above.items i).1.lsn level child)) first
      ∙ ap (λ n. set s0.above.items i (new_inner s0.count (held_page s0.above.items i).1.lsn n child)) level_is in
      let leaf_is : s0.leaf ≡ s2.leaf = sym (ap (λ (l : Loader). l.leaf) two ∙ one_leaf) in
      let count_is : s2.count ≡ s0.count + 1 = ap (λ (l : Loader). l.count) two ∙ one_count in
      subst (λ n. Pending s2.leaf s2.above.items s2.count tells file es (i + 1) key n) (sym first)
      (subst (λ (x : Numbered). Pending x s2.above.items s2.count tells file es (i + 1) key s0.count) leaf_is
      (inner_closed_by s0.leaf s0.above.items s2.above.items s0.count s2.count tells old file es i key child t (omega (arith, more)) count_is list_is written0))

  module _ (s2 : Loader) (right : ℕ) (second : right ≡ s1.count) (next : s2 ≡ record s1 { count = s1.count + 1 }) where
    both_leaf : s2.leaf ≡ s0.leaf
    both_leaf = ap (λ (l : Loader). l.leaf) next ∙ one_leaf

    both_above : s2.above.items ≡ s0.above.items
    both_above = ap (λ (l : Loader). l.above.items) next ∙ one_above

    right_is : right ≡ s0.count + 1
    right_is = second ∙ one_count

    both_count : s2.count ≡ right + 1
    both_count = ap (λ (l : Loader). l.count) next ∙ ap (λ n. n + 1) (sym second)

    pub both_kind : (tells : Type 0) (file : List ℕ) (es : List Entry) → HasTakenAll s0.leaf s0.above.items s0.count tells file es → s2.leaf.1.body.kind ≡ Leaf
    both_kind tells file es t = ap (λ (l : Numbered). l.1.body.kind) both_leaf ∙ leaf_kind s0.leaf s0.above.items s0.count tells file es t

    -- the last leaf, which is the root
    pub raise_leaf_made : (s3 s4 : Loader) (tells : Type 0) (old file : List ℕ) (es : List Entry) (e : Entry) → s3 ≡ record s2 { leaf = new_leaf right s2.leaf.1.lsn left e }
        → (tells → WritesPageAt old file left (with_new_body s2.leaf.1 (record s2.leaf.1.body { next = right }))) → s4 ≡ record s3 { above = s4.above } → s4.above.items ≡ s3.above.items ++ new_root 1 left e.0 right ∷ []
        → HasTakenAll s0.leaf s0.above.items s0.count tells old es → s0.above.items ≡ [] → IsAboveAll e.0 es → LacksRoom true s0.leaf.1.body.entries → HasTakenAll s4.leaf s4.above.items s4.count tells file (es ++ e ∷ [])
    raise_leaf_made s3 s4 tells old file es e three written four are t none top full =
        let begun : s4.leaf ≡ new_leaf right s0.leaf.1.lsn s0.count e =
        ap (λ (l : Loader). l.leaf) four ∙ ap (λ (l : Loader). l.leaf) three ∙ ap (λ (l : Numbered). new_leaf right l.1.lsn left e) both_leaf ∙ ap (λ n. new_leaf right s0.leaf.1.lsn n e) first in
        let written0 : tells → WritesPageAt old file s0.count (with_new_body s0.leaf.1 (record s0.leaf.1.body { next = right })) = λ told.
        subst (λ (l : Numbered). WritesPageAt old file s0.count (with_new_body l.1 (record l.1.body { next = right }))) both_leaf
        (subst (λ n. WritesPageAt old file n (with_new_body s2.leaf.1 (record s2.leaf.1.body { next = right }))) first (written told)) in
        let above_was : s3.above.items ≡ s0.above.items = ap (λ (l : Loader). l.above.items) three ∙ both_above in
        let list_is : s4.above.items ≡ s0.above.items ++ new_root 1 s0.count e.0 right ∷ [] =
        are ∙ ap (λ (ns : List Numbered). ns ++ new_root 1 left e.0 right ∷ []) above_was ∙ ap (λ n. s0.above.items ++ new_root 1 n e.0 right ∷ []) first in
        let count_is : s4.count ≡ right + 1 = ap (λ (l : Loader). l.count) four ∙ ap (λ (l : Loader). l.count) three ∙ both_count in
        leaf_raised_by s0.leaf s4.leaf s0.above.items s4.above.items s0.count right s4.count tells old file es e t none top full right_is count_is begun written0 list_is

    -- an inner page, which is the root
    pub raise_inner_made : (s3 s4 : Loader) (tells : Type 0) (old file : List ℕ) (es : List Entry) (i level : ℕ) (key : Key) (child : ℕ) → (tells → WritesPageAt old file left (held_page s2.above.items i).1)
        → s3 ≡ record s2 { above = s3.above } → s3.above.items ≡ set s2.above.items i (new_inner right (held_page s2.above.items i).1.lsn level child) → level ≡ i + 1
        → s4 ≡ record s3 { above = s4.above } → s4.above.items ≡ s3.above.items ++ new_root (level + 1) left key right ∷ []
        → Pending s0.leaf s0.above.items s0.count tells old es i key child → i + 1 ≡ length s0.above.items → HasTakenAll s4.leaf s4.above.items s4.count tells file es
    raise_inner_made s3 s4 tells old file es i level key child written three set_is level_is four are t highest =
        let written0 : tells → WritesPageAt old file s0.count (held_page s0.above.items i).1 = λ told.
        subst (λ (ns : List Numbered). WritesPageAt old file s0.count (held_page ns i).1) both_above (subst (λ n. WritesPageAt old file n (held_page s2.above.items i).1) first (written told)) in
        let set0 : s3.above.items ≡ set s0.above.items i (new_inner right (held_page s0.above.items i).1.lsn (i + 1) child) =
        set_is ∙ ap (λ (ns : List Numbered). set ns i (new_inner right (held_page ns i).1.lsn level child)) both_above
        ∙ ap (λ n. set s0.above.items i (new_inner right (held_page s0.above.items i).1.lsn n child)) level_is in
        let list_is : s4.above.items ≡ set s0.above.items i (new_inner right (held_page s0.above.items i).1.lsn (i + 1) child) ++ new_root (i + 1 + 1) s0.count key right ∷ [] =
        are ∙ ap (λ (ns : List Numbered). ns ++ new_root (level + 1) left key right ∷ []) set0
        ∙ ap (λ n. set s0.above.items i (new_inner right (held_page s0.above.items i).1.lsn (i + 1) child) ++ new_root (n + 1) left key right ∷ []) level_is
        ∙ ap (λ n. set s0.above.items i (new_inner right (held_page s0.above.items i).1.lsn (i + 1) child) ++ new_root (i + 1 + 1) n key right ∷ []) first in
        let leaf_is : s0.leaf ≡ s4.leaf = sym (ap (λ (l : Loader). l.leaf) four ∙ ap (λ (l : Loader). l.leaf) three ∙ both_leaf) in
        let count_is : s4.count ≡ right + 1 = ap (λ (l : Loader). l.count) four ∙ ap (λ (l : Loader). l.count) three ∙ both_count in
        subst (λ (x : Numbered). HasTakenAll x s4.above.items s4.count tells file es) leaf_is
        (inner_raised_by s0.leaf s0.above.items s4.above.items s0.count right s4.count tells old file es i key child t highest right_is count_is list_is written0)

-- the separator that waits comes into its page
pub child_put_made : (s0 s1 : Loader) (tells : Type 0) (file : List ℕ) (es : List Entry) (i : ℕ) (key : Key) (child : ℕ) → s1 ≡ record s0 { above = s1.above }
    → s1.above.items ≡ set s0.above.items i (with_last (held_page s0.above.items i) (key, child)) → Pending s0.leaf s0.above.items s0.count tells file es i key child
    → HasTakenAll s1.leaf s1.above.items s1.count tells file es
child_put_made s0 s1 tells file es i key child one are t =
    let leaf_is : s0.leaf ≡ s1.leaf = sym (ap (λ (l : Loader). l.leaf) one) in
    let count_is : s0.count ≡ s1.count = sym (ap (λ (l : Loader). l.count) one) in
    subst (λ (x : Numbered). HasTakenAll x s1.above.items s1.count tells file es) leaf_is
    (subst (λ (ns : List Numbered). HasTakenAll s0.leaf ns s1.count tells file es) (sym are)
    (subst (λ n. HasTakenAll s0.leaf (set s0.above.items i (with_last (held_page s0.above.items i) (key, child))) n tells file es) count_is (pending_put s0.leaf s0.above.items s0.count tells file es i key child t)))
