-- The child of a key, by the place of the key among the separators.
use Rattle.std.proofs.Common.{zero, suc, ◌≡◌, ℕ, ◌+◌, ◌-◌, ◌<◌, ◌≤◌, Bool, List, [], ◌∷◌, Ok, Err, length, drop, refl, inl, inr, arith}
use Rattle.im_theory_page.specs.Entry.{entry_at, IsPlace, Rises}
use Rattle.im_base_types.specs.Keys.{IsBelow}
use Rattle.im_base_types.specs.Pages.{Entry, Body}
use Rattle.im_theory_page.specs.Child.{StartAbove, IsChild}
use Rattle.im_theory_page.specs.Form.{entries_of, KeysRise}
use Rattle.im_theory_page.proofs.EntryLemmas.{length-entries_of, key-entries_of}

pub nothing_above : (key : List ℕ) (i : ℕ) → StartAbove key (drop i [])
nothing_above key zero = tt
nothing_above key (suc i) = tt

-- what stands from place i on starts above the key
pub start_above : (es : List Entry) (key : List ℕ) (i : ℕ) → (i < length es → IsBelow key (entry_at es i).0) → StartAbove key (drop i es)
start_above [] key i f = nothing_above key i
start_above (e ∷ es) key zero f = f (omega arith)
start_above (e ∷ es) key (suc i) f = start_above es key i (λ lt. f (omega arith))

pub rises_of : (leaf : Bool) (bytes : List ℕ) → KeysRise bytes → Rises (entries_of leaf bytes)
rises_of leaf bytes h i j ij lt =
    let len = length-entries_of leaf bytes in
    rw (key-entries_of leaf bytes i (omega arith), key-entries_of leaf bytes j (omega arith)) (h i j ij (omega arith))

pub child_found : (c : Body) (key : List ℕ) (i : ℕ) → Rises c.entries → IsPlace c.entries key (Ok i) → IsChild c key (entry_at c.entries i).1
child_found c key i rises p =
    inr (i, p.0, refl, inl p.1, start_above c.entries key (i + 1) (λ lt. rw (← p.1) (rises i (i + 1) (omega arith) lt)))

pub child_leftmost : (c : Body) (key : List ℕ) → IsPlace c.entries key (Err 0) → IsChild c key c.leftmost
child_leftmost c key p = inl (refl, start_above c.entries key 0 (λ lt. p.above 0 (omega arith) lt))

pub child_before : (c : Body) (key : List ℕ) (i : ℕ) → 1 ≤ i → IsPlace c.entries key (Err i) → IsChild c key (entry_at c.entries (i - 1)).1
child_before c key i some p =
    inr (
      i - 1,
      omega (arith, p.within),
      refl,
      inr (p.below (i - 1) (omega arith)),
      start_above c.entries key (i - 1 + 1) (λ lt. let e : i - 1 + 1 ≡ i = omega arith in rw e (p.above i (omega arith) (omega arith))),
    )
