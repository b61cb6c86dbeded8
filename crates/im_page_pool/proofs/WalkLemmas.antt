-- The walk from the least recently used page on, to the first that was changed.
use Rattle.std.proofs.Common.{◌≡◌, ℕ, suc, ◌+◌, ◌-◌, ◌<◌, Bool, true, false, cond, List, [], ◌∷◌, ◌++◌, length, take, set, reverse, slice_get, Option, Some, None, option_map, refl, sym, ap, ◌∙◌, append_assoc, arith}
use Rattle.std.proofs.lemmas.List.{map-append, reverse-append, take-map, take_more_set}
use Rattle.std.specs.Option.{option_map_or}
use Rattle.im_page_pool.specs.Frames.{Stored, stored_at}
use Rattle.im_page_pool.specs.Inside.{held_at, held_in, last_marked, marked_numbers}
use Rattle.im_page_pool.specs.Pool.{Held, changed_numbers, last_changed}

abbrev or_else : Option (ℕ × ℕ) → Option (ℕ × ℕ) → Option (ℕ × ℕ)
or_else o p = option_map_or (λ f. Some f) o p

-- one entry more at the end
pub last_marked_push : (fs : List Stored) (es : List (ℕ × ℕ)) (e : ℕ × ℕ) → last_marked fs (es ++ e ∷ []) ≡ cond (stored_at fs e.1).changed (Some e) (last_marked fs es)
last_marked_push fs [] e = refl
last_marked_push fs (d ∷ es) e =
    ap (λ (o : Option (ℕ × ℕ)). or_else o (cond (stored_at fs d.1).changed (Some d) None)) (last_marked_push fs es e)
    ∙ (elim (stored_at fs e.1).changed as (λ y. or_else (cond y (Some e) (last_marked fs es)) (cond (stored_at fs d.1).changed (Some d) None) ≡ cond y (Some e) (last_marked fs (d ∷ es))) [
      | true ↦ refl
      | false ↦ refl
    ])

-- the same walk over what contracts see
shown : (fs : List Stored) (o : Option (ℕ × ℕ)) (e : ℕ × ℕ) (b : Bool)
    → option_map_or (λ (f : ℕ × Held). Some f) (option_map (λ (x : ℕ × ℕ). (x.0, held_at fs x.1)) o) (cond b (Some (e.0, held_at fs e.1)) None)
    ≡ option_map (λ (x : ℕ × ℕ). (x.0, held_at fs x.1)) (or_else o (cond b (Some e) None))
shown fs None e true = refl
shown fs None e false = refl
shown fs (Some f) e b = refl

pub last_held : (fs : List Stored) (es : List (ℕ × ℕ)) → last_changed (held_in fs es) ≡ option_map (λ (x : ℕ × ℕ). (x.0, held_at fs x.1)) (last_marked fs es)
last_held fs [] = refl
last_held fs (e ∷ es) =
    ap (λ (o : Option (ℕ × Held)). option_map_or (λ (f : ℕ × Held). Some f) o (cond (stored_at fs e.1).changed (Some (e.0, held_at fs e.1)) None)) (last_held fs es)
    ∙ shown fs (last_marked fs es) e (stored_at fs e.1).changed

-- the entry found is one of the list
pub marked_stands : (fs : List Stored) (es : List (ℕ × ℕ)) (x : ℕ × ℕ) → last_marked fs es ≡ Some x → (i : ℕ) × (slice_get es i ≡ Some x)
marked_stands fs [] x s = absurd cc
marked_stands fs (e ∷ es) x s = (elim (last_marked fs es) as (λ o. last_marked fs es ≡ o → or_else o (cond (stored_at fs e.1).changed (Some e) None) ≡ Some x → (i : ℕ) × (slice_get (e ∷ es) i ≡ Some x)) [
  | None ↦ λ t. elim (stored_at fs e.1).changed as (λ y. cond y (Some e) None ≡ Some x → (i : ℕ) × (slice_get (e ∷ es) i ≡ Some x)) [
    | true ↦ λ k. (0, k)
    | false ↦ λ k. absurd cc
  ]
  | Some f ↦ λ t k. let h = marked_stands fs es x (t ∙ k) in (suc h.0, h.1)
]) refl s

-- ---- the numbers of changed pages

-- the walk backwards passes one entry
pub marked_step : (fs : List Stored) (rest : List (ℕ × ℕ)) (e : ℕ × ℕ) (left more : ℕ) → left ≡ suc more
    → marked_numbers fs (take left (reverse (rest ++ e ∷ []))) ≡ cond (stored_at fs e.1).changed (e.0 ∷ marked_numbers fs (take more (reverse rest))) (marked_numbers fs (take more (reverse rest)))
marked_step fs rest e left more is =
    ap (λ (k : ℕ). marked_numbers fs (take k (reverse (rest ++ e ∷ [])))) is
    ∙ ap (λ (l : List (ℕ × ℕ)). marked_numbers fs (take (suc more) l)) (reverse-append rest (e ∷ []))

-- before its first step
pub marked_start : (fs : List Stored) (es : List (ℕ × ℕ)) (room among : ℕ) → take room (marked_numbers fs (take among (reverse es))) ≡ take (room - 0) (marked_numbers fs (take (among - 0) (reverse es)))
marked_start fs es room among =
    let n : room ≡ room - 0 = omega arith in
    let m : among ≡ among - 0 = omega arith in
    ap (λ (k : ℕ). take k (marked_numbers fs (take among (reverse es)))) n ∙ ap (λ (k : ℕ). take (room - 0) (marked_numbers fs (take k (reverse es)))) m

-- one number more is noted
pub noted_more : (numbers whole found : List ℕ) (p noted room : ℕ) → noted < length numbers → room ≡ length numbers → whole ≡ take noted numbers ++ take (room - noted) (p ∷ found)
    → whole ≡ take (noted + 1) (set numbers noted p) ++ take (room - (noted + 1)) found
noted_more numbers whole found p noted room within all is =
    let left : room - noted ≡ suc (room - (noted + 1)) = omega (arith, within, all) in
    is ∙ ap (λ (k : ℕ). take noted numbers ++ take k (p ∷ found)) left
    ∙ sym (append_assoc (take noted numbers) (p ∷ []) (take (room - (noted + 1)) found))
    ∙ ap (λ (l : List ℕ). l ++ take (room - (noted + 1)) found) (sym (take_more_set numbers noted p within))

-- the same over what contracts see
marked_held : (fs : List Stored) (es : List (ℕ × ℕ)) → changed_numbers (held_in fs es) ≡ marked_numbers fs es
marked_held fs [] = refl
marked_held fs (e ∷ es) = ap (λ (l : List ℕ). cond (stored_at fs e.1).changed (e.0 ∷ l) l) (marked_held fs es)

reverse_held : (fs : List Stored) (es : List (ℕ × ℕ)) → reverse (held_in fs es) ≡ held_in fs (reverse es)
reverse_held fs [] = refl
reverse_held fs (e ∷ es) =
    reverse-append ((e.0, held_at fs e.1) ∷ []) (held_in fs es)
    ∙ ap (λ (l : List (ℕ × Held)). l ++ (e.0, held_at fs e.1) ∷ []) (reverse_held fs es)
    ∙ sym (map-append (λ (x : ℕ × ℕ). (x.0, held_at fs x.1)) (reverse es) (e ∷ []))
    ∙ ap (λ (l : List (ℕ × ℕ)). held_in fs l) (sym (reverse-append (e ∷ []) es))

pub numbers_held : (fs : List Stored) (es : List (ℕ × ℕ)) (n : ℕ) → changed_numbers (take n (reverse (held_in fs es))) ≡ marked_numbers fs (take n (reverse es))
numbers_held fs es n =
    ap (λ (l : List (ℕ × Held)). changed_numbers (take n l)) (reverse_held fs es)
    ∙ ap changed_numbers (take-map (λ (x : ℕ × ℕ). (x.0, held_at fs x.1)) n (reverse es))
    ∙ marked_held fs (take n (reverse es))
