-- Frames of which some were used.
use Rattle.std.proofs.Common.{◌≡◌, ℕ, Bool, zero, suc, ◌+◌, ◌-◌, ◌<◌, ◌≤◌, List, [], ◌∷◌, ◌++◌, length, replicate, slice_set, refl, ap, sym, ◌∙◌, arith}
use Rattle.std.proofs.lemmas.Grind.{common_steps}
use Rattle.std.proofs.lemmas.List.{append_assoc, get_or-set_same, length_push, set-append_left}
use Rattle.im_base_types.specs.Pages.{Page}
use Rattle.im_page_pool.specs.Frames.{Stored, no_page, stored_at, frames_in}

-- what a frame has that was used, and one that was not
pub stored_used : (used : List Stored) (n place : ℕ) → place < length used → stored_at (used ++ replicate n no_page) place ≡ stored_at used place
stored_used [] n place lt = absurd (omega arith)
stored_used (x ∷ xs) n zero lt = refl
stored_used (x ∷ xs) n (suc p) lt = stored_used xs n p (omega arith)

pub stored_unused : (used : List Stored) (n place : ℕ) → length used ≤ place → stored_at (used ++ replicate n no_page) place ≡ no_page
stored_unused [] n place le = go n place
  where
    go : (k p : ℕ) → stored_at (replicate k no_page) p ≡ no_page
    go zero p = refl
    go (suc k) zero = refl
    go (suc k) (suc p) = go k p
stored_unused (x ∷ xs) n zero le = absurd (omega arith)
stored_unused (x ∷ xs) n (suc p) le = stored_unused xs n p (omega arith)

pub frames_long : (used : List Stored) (count : ℕ) → length used ≤ count → length (frames_in used count) ≡ count
frames_long used count le = grind (arith, common_steps)

-- one frame more is used
pub frames_more : (used : List Stored) (count : ℕ) → length used < count → frames_in (used ++ no_page ∷ []) count ≡ frames_in used count
frames_more used count lt =
    let e : count - length used ≡ suc (count - (length used + 1)) = omega (arith, lt) in
    ap (λ n. (used ++ no_page ∷ []) ++ replicate (count - n) no_page) (length_push used no_page)
    ∙ (append_assoc used (no_page ∷ []) (replicate (count - (length used + 1)) no_page)
    ∙ ap (λ n. used ++ replicate n no_page) (sym e))

-- a used frame has something else
pub frames_set : (used now : List Stored) (old : List Stored) (count place : ℕ) (x : Stored) → place < length used → frames_in used count ≡ old → now ≡ slice_set used place x → frames_in now count ≡ slice_set old place x
frames_set used now old count place x lt same is =
    let long : length now ≡ length used = ap length is ∙ set_long used place x in
    ap (λ (ys : List Stored). ys ++ replicate (count - length now) no_page) is
    ∙ (ap (λ n. slice_set used place x ++ replicate (count - n) no_page) long
    ∙ (sym (set-append_left used (replicate (count - length used) no_page) place x lt) ∙ ap (λ (ys : List Stored). slice_set ys place x) same))
  where
    set_long : (xs : List Stored) (i : ℕ) (y : Stored) → length (slice_set xs i y) ≡ length xs
    set_long xs i y = grind (arith, common_steps)

-- ---- frames used up to a place, and what one change of the frame there leaves
module _ (used reached old : List Stored) (count place : ℕ) (long : length used ≤ count) (lt : place < length old) (is : frames_in used count ≡ old) (same : (n : ℕ) → length used ≤ n → place < n → frames_in reached n ≡ frames_in used n) (there : place < length reached) where
  pub place_within : place < count
  place_within = omega (arith, lt, ap length is, frames_long used count long)

  pub reached_as : frames_in reached count ≡ old
  reached_as = same count long place_within ∙ is

  pub was_stored : stored_at reached place ≡ stored_at old place
  was_stored = sym (stored_used reached (count - length reached) place there) ∙ ap (λ (ys : List Stored). stored_at ys place) reached_as

  pub was : (slot : Stored) → slot ≡ stored_at reached place → slot ≡ stored_at old place
  was slot e = e ∙ was_stored

  pub puts : (f : Stored → Stored) (slot x : Stored) → slot ≡ stored_at reached place → x ≡ f slot → frames_in (slice_set reached place x) count ≡ slice_set old place (f (stored_at old place))
  puts f slot x at e = frames_set reached (slice_set reached place x) old count place x there reached_as refl ∙ ap (λ (y : Stored). slice_set old place y) (e ∙ ap f (was slot at))

-- it is the frame's page then
pub set_there : (old new : List Stored) (place : ℕ) (x : Stored) → place < length old → new ≡ slice_set old place x → stored_at new place ≡ x
set_there old new place x lt is = ap (λ (ys : List Stored). stored_at ys place) is ∙ get_or-set_same old place x no_page lt

pub set_told : (old new : List Stored) (place : ℕ) (page : Page) (changed : Bool) → place < length old → new ≡ slice_set old place (record { page = page; changed = changed }) → new ≡ slice_set old place (record { page = (stored_at new place).page; changed = changed })
set_told old new place page changed lt is =
    is ∙ ap (λ (s : Stored). slice_set old place (record { page = s.page; changed = changed })) (sym (set_there old new place (record { page = page; changed = changed }) lt is))
