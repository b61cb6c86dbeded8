-- What the place of a key says of the first entry past it.
use Rattle.std.proofs.Common.{ℕ, Bool, true, false, ◌<◌, List, length, Ok, Err, arith}
use Rattle.im_base_types.specs.Keys.{Key}
use Rattle.im_base_types.specs.Pages.{Entry}
use Rattle.im_base_types.specs.Maps.{From, Above}
use Rattle.im_theory_page.specs.Entry.{Rises, IsPlace}
use Rattle.im_theory_tree.specs.Lookups.{IsFirstAt}
use Rattle.im_theory_tree.proofs.LookupLemmas.{first_at_key, first_at_gap}
use Rattle.im_tree_search.specs.Levels.{start_at}

-- at the key
pub first_from : (es : List Entry) (key : Key) (i : ℕ) → Rises es → IsPlace es key (Ok i) → IsFirstAt (From key) es i
first_from es key i rises here = (λ lt. first_at_key key es i rises here, λ le. absurd (let lt : i < length es = here.0 in let clash : ⊥ = omega (arith, lt, le) in clash))

-- where the key is not
pub first_gap : (inclusive : Bool) (es : List Entry) (key : Key) (i : ℕ) → IsPlace es key (Err i) → IsFirstAt (start_at inclusive key) es i
first_gap true es key i gap = first_at_gap (From key) es i gap
first_gap false es key i gap = first_at_gap (Above key) es i gap
