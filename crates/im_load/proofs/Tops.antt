-- A key above the last of rising keys is above all.
use Rattle.std.proofs.Common.{◌≡◌, ℕ, ◌+◌, ◌<◌, ◌≤◌, List, length, subst, arith, ⊎_elim}
use Rattle.std.proofs.lemmas.Bool.{cases_lt}
use Rattle.im_base_types.specs.Keys.{Key, IsBelow}
use Rattle.im_base_types.specs.Pages.{Entry}
use Rattle.im_theory_page.specs.Entry.{entry_at, Rises}
use Rattle.im_theory_page.proofs.Order.{below_trans}
use Rattle.im_theory_tree.proofs.Ascent.{all_at}
use Rattle.im_load.specs.Edge.{IsAboveAll}

pub top_by_last : (key : Key) (es : List Entry) (last : ℕ) → Rises es → last + 1 ≡ length es → IsBelow (entry_at es last).0 key → IsAboveAll key es
top_by_last key es last rises is below =
    all_at (λ (x : Entry). IsBelow x.0 key) es (λ i lt. ⊎_elim
    (λ (low : i < last). below_trans (entry_at es i).0 (entry_at es last).0 key (rises i last low (omega (arith, is))) below)
    (λ (high : last ≤ i). subst (λ j. IsBelow (entry_at es j).0 key) (let same : last ≡ i = omega (arith, high, lt, is) in same) below)
    (cases_lt i last))
