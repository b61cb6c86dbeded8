-- What lives of a store show, line by line.
use Rattle.std.proofs.Common.{◌≡◌, ℕ, suc, ◌+◌, ◌<◌, zero, List, [], ◌∷◌, ◌++◌, length, take, get_or, refl, sym, ◌∙◌, ap, subst, arith}
use Rattle.std.proofs.lemmas.List.{take_more, length-take-le}
use Rattle.im_base_types.specs.Lives.{Shown}
use Rattle.im_tool_lines.specs.declared.store_life.StoreLine.{StoreLine}
use Rattle.im_tool_lines.specs.declared.store_answers.StoreReply.{StoreReply}
use Rattle.im_tool_lines.specs.StoreShown.{shown_after, shown_by_lines}

-- one line more
pub shown_push : (s : Shown) (some : List StoreLine) (told : List StoreReply) (line : StoreLine) (reply : StoreReply) → length told ≡ length some
    → shown_by_lines s (some ++ line ∷ []) (told ++ reply ∷ []) ≡ shown_after (shown_by_lines s some told) line reply
shown_push s [] [] line reply same = refl
shown_push s [] (other ∷ told) line reply same = absurd (omega arith)
shown_push s (first ∷ some) [] line reply same = absurd (omega arith)
shown_push s (first ∷ some) (other ∷ told) line reply same = shown_push (shown_after s first other) some told line reply (omega arith)

-- lines that were not reached show nothing
pub shown_whole : (s : Shown) (all : List StoreLine) (told : List StoreReply) (n : ℕ) → length told ≡ n → shown_by_lines s (take n all) told ≡ shown_by_lines s all told
shown_whole s [] told zero same = refl
shown_whole s [] told (suc n) same = refl
shown_whole s (line ∷ all) [] n same = subst (λ (k : ℕ). shown_by_lines s (take k (line ∷ all)) [] ≡ s) same refl
shown_whole s (line ∷ all) (reply ∷ told) zero same = absurd (omega arith)
shown_whole s (line ∷ all) (reply ∷ told) (suc n) same = shown_whole (shown_after s line reply) all told n (omega arith)

-- up to a line, and with it
pub shown_to : (s : Shown) (all : List StoreLine) (i : ℕ) (told : List StoreReply) (line : StoreLine) (reply : StoreReply) → line ≡ get_or all i line → length told ≡ i → i < length all
    → shown_by_lines s (take (i + 1) all) (told ++ reply ∷ []) ≡ shown_after (shown_by_lines s (take i all) told) line reply
shown_to s all i told line reply is count within =
    let more : take (i + 1) all ≡ take i all ++ line ∷ [] = take_more all i line within ∙ ap (λ (l : StoreLine). take i all ++ l ∷ []) (sym is) in
    let len : length (take i all) ≡ i = length-take-le i all (omega arith) in
    ap (λ (l : List StoreLine). shown_by_lines s l (told ++ reply ∷ [])) more ∙ shown_push s (take i all) told line reply (count ∙ sym len)

-- where no line was answered nothing is shown
pub shown_none : (s : Shown) (all : List StoreLine) → shown_by_lines s all [] ≡ s
shown_none s [] = refl
shown_none s (line ∷ all) = refl
