-- A step of the binary search over the slots.
use Rattle.std.proofs.Common.{◌≡◌, ℕ, ◌+◌, ◌<◌, ◌≤◌, List, ap, ◌∙◌, ⊎_elim, arith}
use Rattle.std.proofs.lemmas.Bool.{cases_lt}
use Rattle.im_base_types.specs.Keys.{IsBelow}
use Rattle.im_theory_page.specs.Form.{count_of, slot_at, key_from, KeysRise}
use Rattle.im_theory_page.specs.Found.{Parts}
use Rattle.im_theory_page.proofs.Order.{below_trans}

pub parts_right : (bytes key : List ℕ) (low high m : ℕ) → Parts bytes key low high → KeysRise bytes → m < count_of bytes
    → IsBelow (key_from bytes (slot_at bytes m)) key → Parts bytes key (m + 1) high
parts_right bytes key low high m p rises within here =
    record {
      within = omega arith;
      below = λ j lt. ⊎_elim (λ (h : j < m). below_trans _ _ _ (rises j m h within) here)
          (λ (h : m ≤ j). let e : j ≡ m = omega arith in rw e here) (cases_lt j m);
      above = p.above;
    }

pub parts_left : (bytes key : List ℕ) (low high m : ℕ) → Parts bytes key low high → KeysRise bytes → m < count_of bytes
    → IsBelow key (key_from bytes (slot_at bytes m)) → Parts bytes key low m
parts_left bytes key low high m p rises within here =
    record {
      within = p.within;
      below = p.below;
      above = λ j from lt. ⊎_elim (λ (h : m < j). below_trans _ _ _ here (rises m j h lt))
          (λ (h : j ≤ m). let e : j ≡ m = omega arith in rw e here) (cases_lt m j);
    }

-- what was read is the key of slot m
pub read_key : (bytes read : List ℕ) (at m : ℕ) → at ≡ slot_at bytes m → read ≡ key_from bytes at → read ≡ key_from bytes (slot_at bytes m)
read_key bytes read at m e k = k ∙ ap (key_from bytes) e
