-- The steps of a load by what the calls of a loader say.
use Rattle.std.proofs.Common.{◌≡◌, ℕ, suc, ◌+◌, ◌<◌, true, List, [], ◌∷◌, ◌++◌, length, refl, sym, ◌∙◌, ap, subst, arith}
use Rattle.std.specs.Prelude.{set}
use Rattle.im_base_types.specs.Keys.{Key}
use Rattle.im_base_types.specs.Pages.{Entry, Body}
use Rattle.im_theory_page.specs.Header.{leaf_body}
use Rattle.im_theory_page.specs.Split.{LacksRoom}
use Rattle.im_load.specs.Edge.{IsAboveAll}
use Rattle.im_load.specs.Steps.{inner_page}
use Rattle.im_load.specs.Files.{WritesPageAt}
use Rattle.im_load.specs.Held.{Numbered, with_new_body, held_page}
use Rattle.im_load.specs.Loading.{HasTakenAll, Pending}
use Rattle.im_load.proofs.Holdings.{numbered, leaf_closed, inner_closed}
use Rattle.im_load.proofs.Raisings.{leaf_raised, inner_raised}

-- a page of no LSN, said by the LSN of another
as_unlogged : (n l : ℕ) (b : Body) → l ≡ 0 → (let x : Numbered = (n, record { lsn = l; body = b }) in x) ≡ numbered n b
as_unlogged n l b is = let f : ℕ → Numbered = λ k. (n, record { lsn = k; body = b }) in ap f is

pub leaf_raised_by : (leaf after : Numbered) (above list : List Numbered) (count one two : ℕ) (tells : Type 0) (old file : List ℕ) (es : List Entry) (e : Entry) → HasTakenAll leaf above count tells old es → above ≡ [] → IsAboveAll e.0 es
    → LacksRoom true leaf.1.body.entries → one ≡ count + 1 → two ≡ one + 1 → after ≡ (one, record { lsn = leaf.1.lsn; body = leaf_body count 0 (e ∷ []) })
    → (tells → WritesPageAt old file count (with_new_body leaf.1 (record leaf.1.body { next = one }))) → list ≡ above ++ (1, record { lsn = 0; body = inner_page 1 count ((e.0, one) ∷ []) }) ∷ []
    → HasTakenAll after list two tells file (es ++ e ∷ [])
leaf_raised_by leaf after above list count one two tells old file es e t none top full one_is two_is begun written are =
    let t0 : HasTakenAll leaf [] count tells old es = subst (λ ns. HasTakenAll leaf ns count tells old es) none t in
    let next : one ≡ suc count = omega (arith, one_is) in
    let last : suc (suc count) ≡ two = omega (arith, one_is, two_is) in
    let lsn : leaf.1.lsn ≡ 0 = ap (λ (l : Numbered). l.1.lsn) t0.holds.last in
    let begun0 : after ≡ numbered (suc count) (leaf_body count 0 (e ∷ [])) =
    begun ∙ as_unlogged one leaf.1.lsn (leaf_body count 0 (e ∷ [])) lsn ∙ ap (λ n. numbered n (leaf_body count 0 (e ∷ []))) next in
    let written0 : tells → WritesPageAt old file count (with_new_body leaf.1 (record leaf.1.body { next = suc count })) =
    λ told. subst (λ n. WritesPageAt old file count (with_new_body leaf.1 (record leaf.1.body { next = n }))) next (written told) in
    let root : ℕ → Numbered = λ n. numbered 1 (inner_page 1 count ((e.0, n) ∷ [])) in
    let list_is : root (suc count) ∷ [] ≡ list = sym (are ∙ ap (λ (ns : List Numbered). ns ++ root one ∷ []) none ∙ ap (λ n. root n ∷ []) next) in
    subst (λ ns. HasTakenAll after ns two tells file (es ++ e ∷ [])) list_is
    (subst (λ n. HasTakenAll after (root (suc count) ∷ []) n tells file (es ++ e ∷ [])) last (leaf_raised leaf after count tells old file es e t0 top full begun0 written0))

pub leaf_closed_by : (leaf after : Numbered) (above : List Numbered) (count one : ℕ) (tells : Type 0) (old file : List ℕ) (es : List Entry) (e : Entry) → HasTakenAll leaf above count tells old es → (length above ≡ 0 → ⊥) → IsAboveAll e.0 es
    → LacksRoom true leaf.1.body.entries → one ≡ count + 1 → after ≡ (count, record { lsn = leaf.1.lsn; body = leaf_body leaf.0 0 (e ∷ []) })
    → (tells → WritesPageAt old file leaf.0 (with_new_body leaf.1 (record leaf.1.body { next = count }))) → Pending after above one tells file (es ++ e ∷ []) 0 e.0 count
leaf_closed_by leaf after [] count one tells old file es e t some top full one_is begun written = absurd (some refl)
leaf_closed_by leaf after (x ∷ rest) count one tells old file es e t some top full one_is begun written =
    let next : suc count ≡ one = omega (arith, one_is) in
    let lsn : leaf.1.lsn ≡ 0 = ap (λ (l : Numbered). l.1.lsn) t.holds.last in
    subst (λ n. Pending after (x ∷ rest) n tells file (es ++ e ∷ []) 0 e.0 count) next
    (leaf_closed leaf after x rest count tells old file es e t top full (begun ∙ as_unlogged count leaf.1.lsn (leaf_body leaf.0 0 (e ∷ [])) lsn) written)

pub inner_closed_by : (leaf : Numbered) (above list : List Numbered) (count one : ℕ) (tells : Type 0) (old file : List ℕ) (es : List Entry) (i : ℕ) (key : Key) (child : ℕ) → Pending leaf above count tells old es i key child
    → suc i < length above → one ≡ count + 1 → list ≡ set above i (count, record { lsn = (held_page above i).1.lsn; body = inner_page (i + 1) child [] })
    → (tells → WritesPageAt old file (held_page above i).0 (held_page above i).1) → Pending leaf list one tells file es (i + 1) key count
inner_closed_by leaf above list count one tells old file es i key child t more one_is are written =
    let next : suc count ≡ one = omega (arith, one_is) in
    let place : suc i ≡ i + 1 = omega arith in
    let list_is : set above i (numbered count (inner_page (suc i) child [])) ≡ list =
    sym (are ∙ ap (set above i) (as_unlogged count (held_page above i).1.lsn (inner_page (i + 1) child []) t.lsn) ∙ ap (λ n. set above i (numbered count (inner_page n child []))) (sym place)) in
    subst (λ j. Pending leaf list one tells file es j key count) place
    (subst (λ ns. Pending leaf ns one tells file es (suc i) key count) list_is
    (subst (λ n. Pending leaf (set above i (numbered count (inner_page (suc i) child []))) n tells file es (suc i) key count) next (inner_closed leaf above count tells old file es i key child t more written)))

pub inner_raised_by : (leaf : Numbered) (above list : List Numbered) (count one two : ℕ) (tells : Type 0) (old file : List ℕ) (es : List Entry) (i : ℕ) (key : Key) (child : ℕ) → Pending leaf above count tells old es i key child
    → i + 1 ≡ length above → one ≡ count + 1 → two ≡ one + 1
    → list ≡ set above i (one, record { lsn = (held_page above i).1.lsn; body = inner_page (i + 1) child [] }) ++ (1, record { lsn = 0; body = inner_page (i + 1 + 1) count ((key, one) ∷ []) }) ∷ []
    → (tells → WritesPageAt old file count (held_page above i).1) → HasTakenAll leaf list two tells file es
inner_raised_by leaf above list count one two tells old file es i key child t highest one_is two_is are written =
    let next : one ≡ suc count = omega (arith, one_is) in
    let last : suc (suc count) ≡ two = omega (arith, one_is, two_is) in
    let place : i + 1 ≡ suc i = omega arith in
    let over : i + 1 + 1 ≡ suc (suc i) = omega arith in
    let opened : ℕ → ℕ → Numbered = λ n l. numbered n (inner_page l child []) in
    let root : ℕ → ℕ → Numbered = λ l n. numbered 1 (inner_page l count ((key, n) ∷ [])) in
    let list_is : set above i (opened (suc count) (suc i)) ++ root (suc (suc i)) (suc count) ∷ [] ≡ list =
    sym (are
    ∙ ap (λ (x : Numbered). set above i x ++ root (i + 1 + 1) one ∷ []) (as_unlogged one (held_page above i).1.lsn (inner_page (i + 1) child []) t.lsn)
    ∙ ap (λ n. set above i (opened n (i + 1)) ++ root (i + 1 + 1) n ∷ []) next
    ∙ ap (λ l. set above i (opened (suc count) l) ++ root (i + 1 + 1) (suc count) ∷ []) place
    ∙ ap (λ l. set above i (opened (suc count) (suc i)) ++ root l (suc count) ∷ []) over) in
    subst (λ ns. HasTakenAll leaf ns two tells file es) list_is
    (subst (λ n. HasTakenAll leaf (set above i (opened (suc count) (suc i)) ++ root (suc (suc i)) (suc count) ∷ []) n tells file es) last
    (inner_raised leaf above count tells old file es i key child t (let top : suc i ≡ length above = omega (arith, highest) in top) written))
