-- What a file shows at a place, by its parts.
use Rattle.std.proofs.Common.{◌≡◌, ◌⊎◌, ⊎_elim, nat_eq, ℕ, suc, ◌+◌, ◌-◌, ◌<◌, ◌≤◌, ◌&&◌, Bool, true, false, List, [], ◌∷◌, length, take, drop, get_or, Option, Some, None, refl, sym, ◌∙◌, ap, subst, arith}
use Rattle.std.specs.Int.{w64, from_be_bytes}
use Rattle.std.proofs.lemmas.Bool.{cases_lt}
use Rattle.std.proofs.lemmas.Bool.Decides.{nat_tests}
use Rattle.std.proofs.lemmas.List.{drop-drop, drop_more, drop_all}
use Rattle.std.proofs.lemmas.Option.{none-some}
use Rattle.im_base_disk.specs.Sums.{batch_length, base_in, counts, is_third, is_whole, pick, records, salt_in, shown, shows, shows_by_header, sum_fits, sum_of}
use Rattle.im_base_sum_disk.specs.Digest.{salted_digest}
use Rattle.im_base_sum_disk.specs.Leaves.{ShowsNoMore}

by_header : (file : List ℕ) (p : ℕ) → is_third file ≡ true → shows_by_header p file ≡ shows (sum_fits (salt_in file)) (base_in file) p file
unfolding shows_by_header
by_header file p is = rw is refl

pub other_format : (file : List ℕ) (p : ℕ) → is_third file ≡ false → shows_by_header p file ≡ None
unfolding shows_by_header
other_format file p is = rw is refl

-- past its end it shows nothing
pub nothing_past : (file : List ℕ) (p : ℕ) → length file ≤ p → shows_by_header p file ≡ None
nothing_past file p past = by_format (is_third file) refl
  where
    by_format : (third : Bool) → is_third file ≡ third → shows_by_header p file ≡ None
    by_format true is = by_header file p is ∙ ap (shown (sum_fits (salt_in file)) (base_in file + p)) (drop_all p file past)
    by_format false is = other_format file p is

-- so what is known of each place within is known of all
pub no_more : (some other : List ℕ) (n : ℕ) → length some ≤ n → ((p : ℕ) → p < n → (r : List ℕ) → shows_by_header p some ≡ Some r → shows_by_header p other ≡ Some r) → ShowsNoMore some other
no_more some other n long below p r is =
    ⊎_elim
    (λ within. below p (omega (arith, within, long)) r is)
    (λ past. absurd (none-some r (sym (nothing_past some p past) ∙ is)))
    (let where_it_is : (p < length some) ⊎ (length some ≤ p) = cases_lt p (length some) in where_it_is)

at_place : (file : List ℕ) (p : ℕ) (b : Bool) → is_third file ≡ true → p < length file
    → counts (sum_fits (salt_in file)) (base_in file + p) (get_or file p 0) (drop (p + 1) file) ≡ b → shows_by_header p file ≡ pick b (records (drop (p + 1) file))
at_place file p b is within counted =
    by_header file p is ∙ ap (shown (sum_fits (salt_in file)) (base_in file + p)) (drop_more file p 0 within) ∙ ap (λ (c : Bool). pick c (records (drop (p + 1) file))) counted

pub none_there : (file : List ℕ) (p : ℕ) → is_third file ≡ true → p < length file
    → counts (sum_fits (salt_in file)) (base_in file + p) (get_or file p 0) (drop (p + 1) file) ≡ false → shows_by_header p file ≡ None
none_there file p is within counted = at_place file p false is within counted

pub stands : (file behind : List ℕ) (p size : ℕ) → behind ≡ drop (p + 1) file → size ≡ batch_length behind → is_third file ≡ true → p < length file
    → counts (sum_fits (salt_in file)) (base_in file + p) (get_or file p 0) (drop (p + 1) file) ≡ true → shows_by_header p file ≡ Some (take (p + size - 3 - (p + 5)) (drop (p + 5) file))
stands file behind p size rest sized is within counted =
    at_place file p true is within counted
    ∙ ap (λ (l : List ℕ). Some (take (batch_length (drop (p + 1) file) - 8) l))
    (drop-drop 4 (p + 1) file ∙ ap (λ (k : ℕ). drop k file) (let same : p + 1 + 4 ≡ p + 5 = omega arith in same))
    ∙ ap (λ (n : ℕ). Some (take n (drop (p + 5) file)))
    (let same : batch_length (drop (p + 1) file) - 8 ≡ p + size - 3 - (p + 5) = omega (arith, sized, ap batch_length rest) in same)

whole_some : (behind : List ℕ) → is_whole behind ≡ true → 9 ≤ batch_length behind
whole_some behind whole = grind (arith, nat_tests)

-- the test of a sum
pub sum_test : (file behind : List ℕ) (place size base number digested : ℕ) → behind ≡ drop (place + 1) file → size ≡ batch_length behind → place < length file → is_whole (drop (place + 1) file) ≡ true
    → number ≡ from_be_bytes w64 (take 8 (drop (size - 4) behind)) → base ≡ base_in file → digested ≡ salted_digest (salt_in file) (base + place) (take (place + size - 3 - place) (drop place file))
    → nat_eq number digested ≡ sum_fits (salt_in file) (base_in file + place) (get_or file place 0) (drop (place + 1) file)
unfolding sum_of
sum_test file behind place size base number digested rest sized within whole number_is base_is digested_is =
    let size_is : size ≡ batch_length (drop (place + 1) file) = sized ∙ ap batch_length rest in
    let some : 9 ≤ batch_length (drop (place + 1) file) = whole_some (drop (place + 1) file) whole in
    let batch_is : take (place + size - 3 - place) (drop place file) ≡ get_or file place 0 ∷ take (batch_length (drop (place + 1) file) - 4) (drop (place + 1) file) =
    ap (take (place + size - 3 - place)) (drop_more file place 0 within)
    ∙ ap (λ (k : ℕ). take k (get_or file place 0 ∷ drop (place + 1) file)) (let same : place + size - 3 - place ≡ suc (batch_length (drop (place + 1) file) - 4) = omega (arith, size_is, some) in same) in
    let found : number ≡ from_be_bytes w64 (take 8 (drop (batch_length (drop (place + 1) file) - 4) (drop (place + 1) file))) =
    number_is ∙ (λ i. from_be_bytes w64 (take 8 (drop (size_is i - 4) (rest i)))) in
    let made = digested_is ∙ (λ i. salted_digest (salt_in file) (base_is i + place) (batch_is i)) in
    (λ i. nat_eq (found i) (made i))
