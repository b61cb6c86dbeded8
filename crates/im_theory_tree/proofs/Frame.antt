-- What does not change where the pages of a tree are the same.
use Rattle.std.proofs.Common.{◌≡◌, ℕ, zero, suc, List, [], ◌∷◌, ◌++◌, map, refl, ap, ap₂, ◌∙◌}
use Rattle.std.proofs.lemmas.List.Concat.{flat_map-append}
use Rattle.im_theory_tree.specs.Good.{AllOf}
use Rattle.im_theory_tree.specs.Levels.{Pages, Node, child_of, children, below, leaves_under, pages_under, entries_in, page_numbers}
use Rattle.im_theory_tree.specs.Same.{SameTree, SameOn}

pub AllOf-left : {X : Type 0} (P : X → Type 0) (xs ys : List X) → AllOf P (xs ++ ys) → AllOf P xs
AllOf-left P [] ys h = tt
AllOf-left P (x ∷ xs) ys h = (h.0, AllOf-left P xs ys h.1)

pub AllOf-right : {X : Type 0} (P : X → Type 0) (xs ys : List X) → AllOf P (xs ++ ys) → AllOf P ys
AllOf-right P [] ys h = h
AllOf-right P (x ∷ xs) ys h = AllOf-right P xs ys h.1

pub AllOf-append : {X : Type 0} (P : X → Type 0) (xs ys : List X) → AllOf P xs → AllOf P ys → AllOf P (xs ++ ys)
AllOf-append P [] ys h k = k
AllOf-append P (x ∷ xs) ys h k = (h.0, AllOf-append P xs ys h.1 k)

pub children_same : (pages new : Pages) (n : Node) → SameTree (pages n.page) (new n.page) → children new n ≡ children pages n
children_same pages new n h =
    ap₂ (λ l es. record { bound = n.bound; page = l } ∷ map child_of es) h.leftmost h.entries

pub below_same : (pages new : Pages) (ns : List Node) → SameOn pages new (page_numbers ns) → below new ns ≡ below pages ns
below_same pages new [] h = refl
below_same pages new (n ∷ ns) h = ap₂ ◌++◌ (children_same pages new n h.0) (below_same pages new ns h.1)

pub entries_same : (pages new : Pages) (ns : List Node) → SameOn pages new (page_numbers ns) → entries_in new ns ≡ entries_in pages ns
entries_same pages new [] h = refl
entries_same pages new (n ∷ ns) h = ap₂ ◌++◌ h.0.entries (entries_same pages new ns h.1)

pub leaves_same : (pages new : Pages) (h : ℕ) (ns : List Node) → SameOn pages new (pages_under pages h ns) → leaves_under new h ns ≡ leaves_under pages h ns
leaves_same pages new zero ns s = refl
leaves_same pages new (suc h) ns s =
    ap (leaves_under new h) (below_same pages new ns (AllOf-left (λ q. SameTree (pages q) (new q)) (page_numbers ns) (pages_under pages h (below pages ns)) s))
    ∙ leaves_same pages new h (below pages ns) (AllOf-right (λ q. SameTree (pages q) (new q)) (page_numbers ns) (pages_under pages h (below pages ns)) s)

pub pages_same : (pages new : Pages) (h : ℕ) (ns : List Node) → SameOn pages new (pages_under pages h ns) → pages_under new h ns ≡ pages_under pages h ns
pages_same pages new zero ns s = refl
pages_same pages new (suc h) ns s =
    ap (λ ms. page_numbers ns ++ pages_under new h ms) (below_same pages new ns (AllOf-left (λ q. SameTree (pages q) (new q)) (page_numbers ns) (pages_under pages h (below pages ns)) s))
    ∙ ap (λ ps. page_numbers ns ++ ps) (pages_same pages new h (below pages ns) (AllOf-right (λ q. SameTree (pages q) (new q)) (page_numbers ns) (pages_under pages h (below pages ns)) s))

-- the leaves are among the pages
pub leaf_pages : (pages : Pages) (P : ℕ → Type 0) (h : ℕ) (ns : List Node) → AllOf P (pages_under pages h ns) → AllOf P (page_numbers (leaves_under pages h ns))
leaf_pages pages P zero ns s = s
leaf_pages pages P (suc h) ns s = leaf_pages pages P h (below pages ns) (AllOf-right P (page_numbers ns) (pages_under pages h (below pages ns)) s)

pub leaves_under-append : (pages : Pages) (h : ℕ) (a b : List Node) → leaves_under pages h (a ++ b) ≡ leaves_under pages h a ++ leaves_under pages h b
leaves_under-append pages zero a b = refl
leaves_under-append pages (suc h) a b =
    ap (leaves_under pages h) (flat_map-append (children pages) a b) ∙ leaves_under-append pages h (below pages a) (below pages b)
