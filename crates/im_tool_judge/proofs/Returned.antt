-- The oldest changes of an effect are the first of the list in which they were made.
use Rattle.std.proofs.Common.{◌≡◌, ℕ, ◌+◌, ◌≤◌, List, [], ◌∷◌, ◌++◌, length, refl, ap, sym, ◌∙◌, arith}
use Rattle.std.specs.Prelude.{take, drop}
use Rattle.std.proofs.lemmas.List.{append_assoc, length-take-le, take-append-drop}
use Rattle.im_base_types.specs.Changes.{Effect}
use Rattle.im_base_types.specs.Lives.{oldest}
use Rattle.im_base_types.proofs.Oldest.{oldest_all, oldest_rest}
use Rattle.im_tool_judge.specs.declared.change.Change.{Change}
use Rattle.im_tool_judge.specs.Judged.{change_of, newest_before}

newest_append : (xs ys : List Change) (e : Effect) → newest_before (xs ++ ys) e ≡ newest_before ys (newest_before xs e)
newest_append [] ys e = refl
newest_append (x ∷ xs) ys e = newest_append xs ys (change_of x ∷ e)

newest_front : (xs : List Change) (e : Effect) → newest_before xs e ≡ newest_before xs [] ++ e
newest_front [] e = refl
newest_front (x ∷ xs) e = newest_front xs (change_of x ∷ e) ∙ sym (append_assoc (newest_before xs []) (change_of x ∷ []) e) ∙ ap (λ (l : Effect). l ++ e) (sym (newest_front xs (change_of x ∷ [])))

length-newest : (xs : List Change) (e : Effect) → length (newest_before xs e) ≡ length xs + length e
length-newest [] e = omega arith
length-newest (x ∷ xs) e = let rest : length (newest_before xs (change_of x ∷ e)) ≡ length xs + length (change_of x ∷ e) = length-newest xs (change_of x ∷ e) in omega arith

-- all of no more
pub oldest_few : (n : ℕ) (cs : List Change) → length cs ≤ n → newest_before cs [] ≡ oldest n (newest_before cs [])
oldest_few n cs few = let long : length (newest_before cs []) ≡ length cs + 0 = length-newest cs [] in sym (oldest_all n (newest_before cs []) (omega arith))

-- the first so many of more
pub oldest_kept : (n : ℕ) (cs : List Change) → n ≤ length cs → newest_before (take n cs) [] ≡ oldest n (newest_before cs [])
oldest_kept n cs some =
    let kept : Effect = newest_before (take n cs) [] in
    let long : length kept ≡ n = length-newest (take n cs) [] ∙ (let first : length (take n cs) ≡ n = length-take-le n cs some in omega arith) in
    sym (
    ap (λ (l : List Change). oldest n (newest_before l [])) (sym (take-append-drop n cs))
    ∙ ap (oldest n) (newest_append (take n cs) (drop n cs) [] ∙ newest_front (drop n cs) kept)
    ∙ ap (λ (k : ℕ). oldest k (newest_before (drop n cs) [] ++ kept)) (sym long)
    ∙ oldest_rest (newest_before (drop n cs) []) kept
    )
