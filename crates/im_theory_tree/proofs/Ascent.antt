-- The keys of the walk rise.
use Rattle.std.proofs.Common.{ℕ, zero, suc, ◌<◌, List, [], ◌∷◌, ◌++◌, length, arith}
use Rattle.im_base_types.specs.Keys.{IsBelow}
use Rattle.im_base_types.specs.Pages.{Entry}
use Rattle.im_theory_page.specs.Entry.{entry_at, Rises}
use Rattle.im_theory_tree.specs.Levels.{Pages, Node, entries_in, leaves_under, the_root, height, walk}
use Rattle.im_theory_tree.specs.Good.{AllOf, AtOrAbove, IsUnder, next_bound, AreOrdered, IsGoodTree}
use Rattle.im_theory_tree.specs.Lookups.{PagesRise}
use Rattle.im_theory_tree.proofs.Frame.{AllOf-append}
use Rattle.im_theory_tree.proofs.Order.{AllOf-from, after_above}

-- each key is below all later ones
abbrev pub Ascends : List Entry → Type 0
Ascends [] = Unit {0}
Ascends (e ∷ es) = AllOf (λ (x : Entry). IsBelow e.0 x.0) es × Ascends es

pub all_at : (P : Entry → Type 0) (es : List Entry) → ((i : ℕ) → i < length es → P (entry_at es i)) → AllOf P es
all_at P [] h = tt
all_at P (e ∷ es) h = (h zero (omega arith), all_at P es (λ i lt. h (suc i) (omega arith)))

pub at_all : (P : Entry → Type 0) (es : List Entry) (i : ℕ) → AllOf P es → i < length es → P (entry_at es i)
at_all P [] i h lt = absurd (omega arith)
at_all P (e ∷ es) zero h lt = h.0
at_all P (e ∷ es) (suc i) h lt = at_all P es i h.1 (omega arith)

pub ascends_from_rises : (es : List Entry) → Rises es → Ascends es
ascends_from_rises [] h = tt
ascends_from_rises (e ∷ es) h = (
  all_at (λ (x : Entry). IsBelow e.0 x.0) es (λ i lt. h zero (suc i) (omega arith) (omega arith)),
  ascends_from_rises es (λ i j lt l. h (suc i) (suc j) (omega arith) (omega arith)),
)

pub rises_from_ascends : (es : List Entry) → Ascends es → Rises es
rises_from_ascends [] h i j lt l = absurd (omega arith)
rises_from_ascends (e ∷ es) h zero zero lt l = absurd (omega arith)
rises_from_ascends (e ∷ es) h zero (suc j) lt l = at_all (λ (x : Entry). IsBelow e.0 x.0) es j h.0 (omega arith)
rises_from_ascends (e ∷ es) h (suc i) zero lt l = absurd (omega arith)
rises_from_ascends (e ∷ es) h (suc i) (suc j) lt l = rises_from_ascends es h.1 i j (omega arith) (omega arith)

pub ascends-append : (es fs : List Entry) → Ascends es → Ascends fs → AllOf (λ (e : Entry). AllOf (λ (x : Entry). IsBelow e.0 x.0) fs) es → Ascends (es ++ fs)
ascends-append [] fs a b h = b
ascends-append (e ∷ es) fs a b h =
    (AllOf-append (λ (x : Entry). IsBelow e.0 x.0) es fs a.0 h.0, ascends-append es fs a.1 b h.1)

pub leaves_ascend : (pages : Pages) (ns : List Node) → PagesRise pages → AreOrdered pages ns → Ascends (entries_in pages ns)
leaves_ascend pages [] rise h = tt
leaves_ascend pages (n ∷ ns) rise h =
    ascends-append (pages n.page).entries (entries_in pages ns) (ascends_from_rises (pages n.page).entries (rise n.page)) (leaves_ascend pages ns rise h.2)
    (AllOf-from (λ (e : Entry). AtOrAbove n.bound e.0 × IsUnder e.0 (next_bound ns)) (λ (e : Entry). AllOf (λ (x : Entry). IsBelow e.0 x.0) (entries_in pages ns))
    (λ e r. after_above pages n.bound ns e.0 h.1 h.2 r.1) (pages n.page).entries h.0)

pub walk_rises : (pages : Pages) (spare : List ℕ) → PagesRise pages → IsGoodTree pages spare → Rises (walk pages)
walk_rises pages spare rise good =
    rises_from_ascends (walk pages) (leaves_ascend pages (leaves_under pages (height pages) the_root) rise good.ordered)
