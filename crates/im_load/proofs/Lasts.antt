-- What is known of the last leaf of a load.
use Rattle.std.proofs.Common.{◌≡◌, ℕ, ◌+◌, ◌<◌, ◌≤◌, Bool, true, false, List, [], ◌↔◌, sym, ◌∙◌, ap, subst, arith, ⊎_elim}
use Rattle.std.specs.Prelude.{IsTrue}
use Rattle.std.proofs.lemmas.Bool.{cases_lt}
use Rattle.im_base_types.specs.Keys.{Key}
use Rattle.im_base_types.specs.Pages.{Entry}
use Rattle.im_base_types.specs.declared.page_kind.PageKind.TheVariants.{Leaf}
use Rattle.im_theory_page.specs.Entry.{taken, width}
use Rattle.im_theory_page.specs.Page.{is_leaf_kind}
use Rattle.im_theory_page.specs.Split.{LacksRoom}
use Rattle.im_load.specs.Edge.{IsAboveAll}
use Rattle.im_load.proofs.Puts.{top_by_leaf}
use Rattle.im_load.proofs.Closings.{top_at}
use Rattle.im_load.specs.Held.{Numbered}
use Rattle.im_load.specs.Room.{FitsLongest}
use Rattle.im_load.specs.Loading.{HasTakenAll}
use Rattle.im_load.proofs.Holdings.{apart_of}

pub leaf_kind : (leaf : Numbered) (above : List Numbered) (count : ℕ) (tells : Type 0) (file : List ℕ) (es : List Entry) → HasTakenAll leaf above count tells file es → leaf.1.body.kind ≡ Leaf
leaf_kind leaf above count tells file es t =
    ap (λ (l : Numbered). l.1.body.kind) t.holds.last ∙ ((apart_of t.pages t.at es t.holds.stands).levels 0 (omega arith)).0

-- a leaf without room for an entry with the longest key
pub lacks_by : (leaf : Numbered) (open_is : Bool) → leaf.1.body.kind ≡ Leaf → open_is ≡ false
    → (IsTrue open_is ↔ FitsLongest leaf.1) → LacksRoom true leaf.1.body.entries
lacks_by leaf open_is kind closed says =
    let es : List Entry = leaf.1.body.entries in
    let same : is_leaf_kind leaf.1.body.kind ≡ true = ap is_leaf_kind kind in
    let exact : IsTrue open_is ↔ (taken true es + (1 + 255 + width true + 2) ≤ 4064) = subst (λ (k : Bool). IsTrue open_is ↔ (taken k es + (1 + 255 + width k + 2) ≤ 4064)) same says in
    ⊎_elim
    (λ (less : 4064 < taken true es + (1 + 255 + width true + 2)). less)
    (λ (fits : taken true es + (1 + 255 + width true + 2) ≤ 4064). absurd (let opened : open_is ≡ true = exact.1 fits in let clash : false ≡ true = sym closed ∙ opened in cc clash))
    (cases_lt 4064 (taken true es + (1 + 255 + width true + 2)))

-- a key above those of the last leaf is above all
pub top_all : (leaf : Numbered) (above : List Numbered) (count : ℕ) (tells : Type 0) (file : List ℕ) (es : List Entry) (key : Key) → HasTakenAll leaf above count tells file es → IsAboveAll key leaf.1.body.entries → IsAboveAll key es
top_all leaf above count tells file es key t top =
    top_by_leaf t.pages t.at [] es key t.holds.stands (subst (λ (l : Numbered). IsAboveAll key l.1.body.entries) t.holds.last top)

-- and the other way
pub top_of_leaf : (leaf : Numbered) (above : List Numbered) (count : ℕ) (tells : Type 0) (file : List ℕ) (es : List Entry) (key : Key) → HasTakenAll leaf above count tells file es → IsAboveAll key es → IsAboveAll key leaf.1.body.entries
top_of_leaf leaf above count tells file es key t top =
    subst (λ (l : Numbered). IsAboveAll key l.1.body.entries) (sym t.holds.last) (top_at t.pages t.at [] es key t.holds.stands top)
