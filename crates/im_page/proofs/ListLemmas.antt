-- A list made from a function of the index, after an element more or less.
use Rattle.std.proofs.Common.{◌≡◌, ℕ, ◌+◌, ◌-◌, ◌<◌, ◌≤◌, List, length, map, get_or, insert, remove, sym, ap, ◌∙◌, ⊎_elim, arith, ext_get_or}
use Rattle.std.specs.List.{range_with_len}
use Rattle.std.proofs.lemmas.Bool.{cases_lt}
use Rattle.std.proofs.lemmas.List.FromFn.{length-map-range_with_len, get_or-map-range_with_len}
use Rattle.std.proofs.lemmas.List.Edits.{length-insert, get_or-insert_below, get_or-insert_at, get_or-insert_above, length-remove, get_or-remove_below, get_or-remove_above}

-- the list of f at each index below n
abbrev pub made : {X : Type 0} → (ℕ → X) → ℕ → List X
made f n = map f (range_with_len 0 n)

pub made_same : {X : Type 0} (d : X) (f g : ℕ → X) (n : ℕ) → ((j : ℕ) → j < n → g j ≡ f j) → made g n ≡ made f n
made_same d f g n same =
    let len_f = length-map-range_with_len f 0 n in
    let len_g = length-map-range_with_len g 0 n in
    ext_get_or d (made g n) (made f n) (omega arith)
    (λ k lt. let kn : k < n = omega arith in
    get_or-map-range_with_len g 0 n k k d kn (omega arith) ∙ same k kn ∙ sym (get_or-map-range_with_len f 0 n k k d kn (omega arith)))

pub made_insert : {X : Type 0} (d : X) (f g : ℕ → X) (n i : ℕ) (x : X) → i ≤ n → ((j : ℕ) → j < i → g j ≡ f j) → g i ≡ x
    → ((j : ℕ) → i ≤ j → j < n → g (j + 1) ≡ f j) → made g (n + 1) ≡ insert (made f n) i x
made_insert d f g n i x le below at above =
    let len_f = length-map-range_with_len f 0 n in
    let len_g = length-map-range_with_len g 0 (n + 1) in
    let long : length (insert (made f n) i x) ≡ length (made f n) + 1 = length-insert (made f n) i x (omega arith) in
    let inside : i ≤ length (made f n) = omega arith in
    ext_get_or d (made g (n + 1)) (insert (made f n) i x) (omega arith)
    (λ k lt. let kn : k < n + 1 = omega arith in
    let read = get_or-map-range_with_len g 0 (n + 1) k k d kn (omega arith) in
    ⊎_elim
    (λ (h : k < i). read ∙ below k h ∙ sym (get_or-map-range_with_len f 0 n k k d (omega arith) (omega arith)) ∙ sym (get_or-insert_below (made f n) i x d k h inside))
    (λ (h : i ≤ k). ⊎_elim
    (λ (m : i < k).
    let e : k - 1 + 1 ≡ k = omega arith in
    read ∙ ap g (sym e) ∙ above (k - 1) (omega arith) (omega arith) ∙ sym (get_or-map-range_with_len f 0 n (k - 1) (k - 1) d (omega arith) (omega arith))
    ∙ sym (get_or-insert_above (made f n) i x d (k - 1) (omega arith) inside) ∙ ap (λ m. get_or (insert (made f n) i x) m d) e)
    (λ (m : k ≤ i). let e : k ≡ i = omega arith in read ∙ ap g e ∙ at ∙ sym (get_or-insert_at (made f n) i x d inside) ∙ ap (λ m. get_or (insert (made f n) i x) m d) (sym e))
    (cases_lt i k))
    (cases_lt k i))

pub made_remove : {X : Type 0} (d : X) (f g : ℕ → X) (n i : ℕ) → i ≤ n → ((j : ℕ) → j < i → g j ≡ f j)
    → ((j : ℕ) → i ≤ j → j < n → g j ≡ f (j + 1)) → made g n ≡ remove (made f (n + 1)) i
made_remove d f g n i le below above =
    let len_f = length-map-range_with_len f 0 (n + 1) in
    let len_g = length-map-range_with_len g 0 n in
    let inside : i < length (made f (n + 1)) = omega arith in
    let short : length (remove (made f (n + 1)) i) + 1 ≡ length (made f (n + 1)) = length-remove (made f (n + 1)) i inside in
    ext_get_or d (made g n) (remove (made f (n + 1)) i) (omega arith)
    (λ k lt. let kn : k < n = omega arith in
    let read = get_or-map-range_with_len g 0 n k k d kn (omega arith) in
    ⊎_elim
    (λ (h : k < i). read ∙ below k h ∙ sym (get_or-map-range_with_len f 0 (n + 1) k k d (omega arith) (omega arith)) ∙ sym (get_or-remove_below (made f (n + 1)) i d k h inside))
    (λ (h : i ≤ k). read ∙ above k h kn ∙ sym (get_or-map-range_with_len f 0 (n + 1) (k + 1) (k + 1) d (omega arith) (omega arith)) ∙ sym (get_or-remove_above (made f (n + 1)) i d k h inside))
    (cases_lt k i))
