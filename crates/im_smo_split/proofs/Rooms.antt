-- Whether a page has room for a key, and whether the store may have the pages that a split takes.
use Rattle.std.proofs.Common.{◌≡◌, ℕ, ◌+◌, ◌≤◌, ◌<◌, ◌⊎◌, inl, inr, Bool, true, false, List, Option, Some, sym, subst, ◌∙◌, ⊎_elim, rules, arith}
use Rattle.std.proofs.lemmas.Bool.{cases_lt}
use Rattle.std.specs.Bool.{IsTrue}
use Rattle.im_base_types.specs.Pages.{Body, Entry}
use Rattle.im_theory_page.specs.Entry.{taken, width}
use Rattle.im_smo_split.specs.Readings.{IsFull, IsKeyRoom, IsRoom}

-- ---- in a page

-- a key with no more bytes fits too
pub fits_less : (leaf : Bool) (es : List Entry) (mid k : ℕ) → taken leaf es + (1 + mid + width leaf + 2) ≤ 4064 → k ≤ mid → taken leaf es + (1 + k + width leaf + 2) ≤ 4064
fits_less leaf es mid k fits less = omega (arith, fits, less)

-- and one with no fewer does not either
pub lacks_more : (leaf : Bool) (es : List Entry) (mid k : ℕ) → (taken leaf es + (1 + mid + width leaf + 2) ≤ 4064 → ⊥) → mid ≤ k → 4064 < taken leaf es + (1 + k + width leaf + 2)
lacks_more leaf es mid k lacks more = by (cases_lt 4064 (taken leaf es + (1 + k + width leaf + 2)))
  where
    by : (4064 < taken leaf es + (1 + k + width leaf + 2)) ⊎ (taken leaf es + (1 + k + width leaf + 2) ≤ 4064) → 4064 < taken leaf es + (1 + k + width leaf + 2)
    by (inl lt) = lt
    by (inr le) = absurd (lacks (omega (arith, le, more)))

-- what is known of one key, from where room ends
pub room_of : (leaf : Bool) (page : Body) (room k : ℕ) → IsKeyRoom leaf page room → k < room → IsRoom leaf page k true
room_of leaf page room k is less = record { tells = (λ _. is.fit k less, λ _. search rules); rises = is.rises }

pub no_room_of : (leaf : Bool) (page : Body) (room k : ℕ) → IsKeyRoom leaf page room → room ≤ k → k ≤ 255 → IsRoom leaf page k false
no_room_of leaf page room k is more short = record { tells = (λ clash. absurd (let never : ⊥ = search (rules, clash) in never), λ le. absurd (let lt = is.full k more short in omega (arith, lt, le))); rises = is.rises }

-- ---- in the store

full_is : (b : Body) (pages max : ℕ) (r : Bool) → IsFull b pages max r → r ≡ true → max + b.prev < b.leftmost + pages
full_is b pages max r is e = is.0 (search (rules, e))

few_is : (b : Body) (pages max : ℕ) (r : Bool) → IsFull b pages max r → r ≡ false → b.leftmost + pages ≤ max + b.prev
few_is b pages max r is e =
    ⊎_elim
    (λ (over : max + b.prev < b.leftmost + pages). let holds : IsTrue r = is.1 over in absurd (let never : ⊥ = search (rules, holds, e) in never))
    (λ (le : b.leftmost + pages ≤ max + b.prev). le)
    (cases_lt (max + b.prev) (b.leftmost + pages))

module _ (meta : Body) (pages : ℕ) (max : Option ℕ) (most : ℕ) (bound : max ≡ Some most) (full : Bool) (tells : IsFull meta pages most full) where
  -- they would be too many
  pub room_full : full ≡ true → (m : ℕ) × (max ≡ Some m) × (m + meta.prev < meta.leftmost + pages)
  room_full e = (most, bound, full_is meta pages most full tells e)

  -- they are not
  pub room_few : full ≡ false → (m : ℕ) → max ≡ Some m → meta.leftmost + pages ≤ m + meta.prev
  room_few e m is =
      let same : most ≡ m = let both : Some most ≡ Some m = sym bound ∙ is in cc both in
      subst (λ (n : ℕ). meta.leftmost + pages ≤ n + meta.prev) same (few_is meta pages most full tells e)
