-- The pages of a split, from what the calls on pages say.
use Rattle.std.proofs.Common.{◌≡◌, ◌⊎◌, ℕ, ◌+◌, ◌<◌, ◌≤◌, Bool, false, true, zero, suc, List, length, take, drop, inl, inr, refl, sym, ap, subst, ◌∙◌, arith, insert}
use Rattle.std.proofs.lemmas.Bool.{cases_lt}
use Rattle.std.proofs.lemmas.List.Sums.{sum_by-take-drop, sum_by_more}
use Rattle.im_base_types.specs.Keys.{Key, IsBelow}
use Rattle.im_base_types.specs.Pages.{Entry, Body, Page}
use Rattle.im_base_types.specs.declared.page_kind.PageKind.{PageKind}
use Rattle.im_base_types.specs.declared.page_kind.PageKind.TheVariants.{Free, Meta, Leaf, Inner}
use Rattle.im_theory_page.specs.Entry.{entry_at, no_entry, Parts, size, taken}
use Rattle.im_theory_page.specs.Header.{FitsKind}
use Rattle.im_theory_page.specs.Page.{is_leaf_kind, with_entries}
use Rattle.im_theory_page.specs.Split.{IsSplitBound, IsSplitPoint, HasRoomForAny}
use Rattle.im_theory_page.proofs.Order.{below_irrefl}
use Rattle.im_theory_tree.proofs.LookupLemmas.{put_at}
use Rattle.im_smo_pages.specs.Bodies.{says, inner_body, with_separator, HasNoKey}
use Rattle.im_smo_pages.specs.Parts.{split_bound, IsPoint, SplitsAt, TakesSeparator}

-- without one entry more there is more room
rest_room : (leaf : Bool) (es : List Entry) (n : ℕ) → n < length es → HasRoomForAny leaf (drop n es) → HasRoomForAny leaf (drop (n + 1) es)
rest_room leaf es n lt room e short =
    let f : Entry → ℕ = λ x. size leaf x + 2 in
    omega (arith, room e short, sum_by-take-drop f es n, sum_by-take-drop f es (n + 1), sum_by_more f es n no_entry lt)

-- with each bound the parts have room
pub is_bound : (leaf dense : Bool) (next : ℕ) → IsSplitBound (split_bound leaf dense next)
is_bound false dense next = record { low = omega arith; high = omega arith }
is_bound true false next = record { low = omega arith; high = omega arith }
is_bound true true zero = record { low = omega arith; high = omega arith }
is_bound true true (suc n) = record { low = omega arith; high = omega arith }

-- the last leaf's bound, and that of a leaf with another after it
pub bound_last : (next : ℕ) → next ≡ 0 → 3796 ≡ split_bound true true next
bound_last next is = ap (split_bound true true) (sym is)

pub bound_inside : (next : ℕ) → (next ≡ 0 → ⊥) → 2032 ≡ split_bound true true next
bound_inside zero not = absurd (not refl)
bound_inside (suc n) not = refl

-- that of a page, by its kind and by the setting
pub bound_other : (k : PageKind) (dense : Bool) (next : ℕ) → (k ≡ Leaf → ⊥) → 2032 ≡ split_bound (is_leaf_kind k) dense next
bound_other Free dense next not = refl
bound_other Meta dense next not = refl
bound_other Leaf dense next not = absurd (not refl)
bound_other Inner dense next not = refl

pub bound_half : (k : PageKind) (dense : Bool) (next : ℕ) → k ≡ Leaf → dense ≡ false → 2032 ≡ split_bound (is_leaf_kind k) dense next
bound_half k dense next kind off = ap (λ (d : Bool). split_bound true d next) (sym off) ∙ ap (λ (x : PageKind). split_bound (is_leaf_kind x) dense next) (sym kind)

pub bound_dense : (k : PageKind) (dense : Bool) (n next r : ℕ) → k ≡ Leaf → dense ≡ true → n ≡ next → r ≡ split_bound true true n → r ≡ split_bound (is_leaf_kind k) dense next
bound_dense k dense n next r kind on same is =
    is ∙ ap (split_bound true true) same ∙ ap (λ (d : Bool). split_bound true d next) (sym on) ∙ ap (λ (x : PageKind). split_bound (is_leaf_kind x) dense next) (sym kind)

pub splits_at : (dense : Bool) (of : PageKind) (page : Body) (n : ℕ) → page.kind ≡ of → IsPoint dense (is_leaf_kind page.kind) page n
    → HasRoomForAny (is_leaf_kind page.kind) (take n page.entries) → HasRoomForAny (is_leaf_kind page.kind) (drop n page.entries)
    → 1 ≤ n → n + 2 ≤ length page.entries → SplitsAt dense of page n
splits_at dense of page n kind point left right some within = record {
  kind = kind;
  point = subst (λ (k : PageKind). IsPoint dense (is_leaf_kind k) page n) kind point;
  well = record {
    left = some;
    right = within;
    left_room = subst (λ (k : PageKind). HasRoomForAny (is_leaf_kind k) (take n page.entries)) kind left;
    right_room = subst (λ (k : PageKind). HasRoomForAny (is_leaf_kind k) (drop n page.entries)) kind right;
    rest_room = rest_room (is_leaf_kind of) page.entries n (omega arith) (subst (λ (k : PageKind). HasRoomForAny (is_leaf_kind k) (drop n page.entries)) kind right);
  };
}

-- the last leaf keeps nearly all of its room
pub fills_last : (page : Body) (n : ℕ) → SplitsAt true Leaf page n → page.next ≡ 0 → (n + 2 ≡ length page.entries) ⊎ (3796 < taken true (take (n + 1) page.entries))
fills_last page n at last =
    let point : IsSplitPoint (split_bound true true 0) true page.entries n = subst (λ (next : ℕ). IsSplitPoint (split_bound true true next) true page.entries n) last at.point in
    elim (cases_lt (n + 2) (length page.entries)) [
      | inl more ↦ inr (point.longest more)
      | inr all ↦ let within : n + 2 ≤ length page.entries = at.well.right in inl (omega (arith, all, within))
    ]

-- a key that would stand at a place is not there
pub no_key_at : (es : List Entry) (k : Key) (i : ℕ) → Parts es k i i → HasNoKey es k
no_key_at es k i h j lt same =
    elim (cases_lt j i) [
      | inl less ↦ below_irrefl k (subst (λ (x : Key). IsBelow x k) same (h.below j less))
      | inr more ↦ below_irrefl k (subst (λ (x : Key). IsBelow k x) same (h.above j more lt))
    ]

pub takes_separator : (page parent : Body) (q n i : ℕ) (k : Key) → parent.kind ≡ Inner → k ≡ (entry_at page.entries n).0 → Parts parent.entries k i i
    → taken (is_leaf_kind parent.kind) parent.entries + size (is_leaf_kind parent.kind) (k, q) + 2 ≤ 4064 → TakesSeparator page parent q n
takes_separator page parent q n i k kind same place room = record {
  inner = kind;
  absent = subst (HasNoKey parent.entries) same (no_key_at parent.entries k i place);
  room =
      let room_inner : taken (is_leaf_kind Inner) parent.entries + size (is_leaf_kind Inner) (k, q) + 2 ≤ 4064 =
      subst (λ (x : PageKind). taken (is_leaf_kind x) parent.entries + size (is_leaf_kind x) (k, q) + 2 ≤ 4064) kind room in
      let length_same : length k ≡ length (entry_at page.entries n).0 = ap length same in
      omega (arith, room_inner, length_same);
}

-- a separator put at its place
pub separator_at : (parent : Page) (k s : Key) (q i : ℕ) (new : Page) → k ≡ s → Parts parent.body.entries k i i → new ≡ with_entries parent (insert parent.body.entries i (k, q))
    → new ≡ says parent (with_separator parent.body s q)
separator_at parent k s q i new same place is =
    is
    ∙ ap (λ (es : List Entry). with_entries parent es) (sym (put_at parent.body.entries k q i place))
    ∙ ap (λ (x : Key). says parent (with_separator parent.body x q)) same

-- an inner page with other children: it has no links
pub inner_with : (b : Body) (count level leftmost : ℕ) (es : List Entry) → b.kind ≡ Inner → FitsKind b.kind b.level b.prev b.next b.leftmost count
    → inner_body level leftmost es ≡ record b { level = level; marked = false; leftmost = leftmost; entries = es }
inner_with b count level leftmost es kind fits =
    let header : FitsKind Inner b.level b.prev b.next b.leftmost count = subst (λ (k : PageKind). FitsKind k b.level b.prev b.next b.leftmost count) kind fits in
    ap (λ (k : PageKind). record (inner_body level leftmost es) { kind = k }) (sym kind)
    ∙ ap (λ (p : ℕ). record (inner_body level leftmost es) { kind = b.kind; prev = p }) (sym header.1)
    ∙ ap (λ (p : ℕ). record (inner_body level leftmost es) { kind = b.kind; prev = b.prev; next = p }) (sym header.2)
