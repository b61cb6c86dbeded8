-- Where a load begins: the pages of a new store, of which page 1 is held.
use Rattle.std.proofs.Common.{◌≡◌, ℕ, ◌<◌, List, [], length, refl, sym, ap, subst, arith}
use Rattle.im_theory_page.specs.Header.{initial}
use Rattle.im_theory_tree.specs.Allocations.{initial_bodies}
use Rattle.im_load.proofs.Closings.{steps_kept}
use Rattle.im_load.proofs.Fills.{steps_filled}
use Rattle.im_load.specs.Held.{Numbered}
use Rattle.im_load.specs.Loading.{HasTakenAll}

pub begun_taken : (tells : Type 0) (file : List ℕ) → (tells → file ≡ []) → HasTakenAll (1, initial 1) [] 2 tells file []
begun_taken tells file none = record {
  pages = initial_bodies;
  at = λ k. 1;
  holds = record {
    stands = steps_kept.begins;
    rises = λ i j lt within. absurd (let never : j < 0 = within in omega (arith, never));
    dense = steps_filled.begins;
    tall = refl;
    last = refl;
    plain = λ k lt. absurd (let never : k < 0 = lt in omega (arith, never));
    meta = refl;
    past = λ x le. refl;
    final = λ told. record {
      many = 0;
      whole = ap length (none told);
      few = omega arith;
      there = λ x some low away. absurd (away 0 (omega arith) (omega (arith, some, low)));
    };
  };
  above_are = λ k lt. absurd (let never : k < 0 = lt in omega (arith, never));
}

-- the same of a loader that was made so
pub begun_by : (leaf : Numbered) (above : List Numbered) (tells : Type 0) (file : List ℕ) → leaf ≡ (1, initial 1) → above ≡ [] → (tells → file ≡ []) → HasTakenAll leaf above 2 tells file []
begun_by leaf above tells file leaf_is above_is none =
    subst (λ (x : Numbered). HasTakenAll x above 2 tells file []) (sym leaf_is) (subst (λ (ns : List Numbered). HasTakenAll (1, initial 1) ns 2 tells file []) (sym above_is) (begun_taken tells file none))
