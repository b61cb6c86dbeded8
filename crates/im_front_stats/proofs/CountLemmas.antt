-- Each step of the cell keeps its rule.
use Rattle.std.proofs.Common.{◌≡◌, ◌≢◌, ℕ, zero, suc, List, [], ◌∷◌, set, true, false, true≢false, refl, sym, ap, ◌∙◌, subst, ⊎_elim, le_refl, arith, add-one, get_or}
use mathlib.Core.Option.{Option, some, some-ne-none, some-injective}
use lib.ListN.{get_elem?}
use Rattle.crossbeam_utils.specs.Register.{Turns, Forks}
use Rattle.crossbeam_utils.specs.Seq.{Versioned, Knows, idle}
use Rattle.crossbeam_utils.specs.declared.atomic.seq_cell.Doing.{Doing}
use Rattle.atomic_table.proofs.Lists.{at_set, at_snoc, set_again}
use Rattle.im_front_stats.specs.declared.version_rule.Known.{Known}
use Rattle.im_front_stats.specs.Counts.{nothing, writer, reader, IsSound, NoLess, FitsRule, Kept, StoresCounts, Loaded}

off : false ≡ true → ⊥
off e = true≢false (sym e)

pub NoLess-refl : (xs : List ℕ) → NoLess xs xs
NoLess-refl xs = (le_refl _, le_refl _, le_refl _)

pub NoLess-trans : (xs ys zs : List ℕ) → NoLess xs ys → NoLess ys zs → NoLess xs zs
NoLess-trans xs ys zs a b = (omega (arith, a.0, b.0), omega (arith, a.1, b.1), omega (arith, a.2, b.2))

fits_set : (seat : ℕ) (now : List ℕ) (views : List Known) (by : ℕ) (w : Known) → ((j : ℕ) (u : Known) → j ≢ by → get_elem? views j ≡ some u → FitsRule seat now j u) → FitsRule seat now by w → (j : ℕ) (u : Known) → get_elem? (set views by w) j ≡ some u → FitsRule seat now j u
fits_set seat now views by w others mine j u e =
    ⊎_elim
    (λ (x : (j ≡ by) × (w ≡ u)). subst (λ (y : ℕ × Known). FitsRule seat now y.0 y.1) (λ i. (sym x.0 i, x.1 i)) mine)
    (λ (x : (j ≢ by) × (get_elem? views j ≡ some u)). others j u x.0 x.1)
    (at_set views by j w u e)

pub begins : Kept nothing (writer nothing ∷ [])
begins = (le_refl 0, 0, one)
  where
    one : (by : ℕ) (v : Known) → get_elem? (writer nothing ∷ []) by ≡ some v → FitsRule 0 nothing by v
    one zero v e = subst (FitsRule 0 nothing 0) (some-injective _ _ e) ((λ _. (refl, refl)), NoLess-refl nothing)
    one (suc by) v e = absurd (some-ne-none v (sym e))

-- the writer stores counts that do not fall
pub stores : (by : ℕ) (v : Known) (new : List ℕ) → v.writes ≡ true → IsSound new → NoLess v.seen new → Turns Kept by v (λ _. new) StoresCounts
stores by v new writes sound rises words views h at =
    let mine = (h.2 by v at).0 writes in
    let more : NoLess words new = subst (λ xs. NoLess xs new) mine.1 rises in (
      writer new,
      (
        sound,
        h.1,
        fits_set h.1 new views by (writer new)
            (λ j u apart e. ((λ k. absurd (apart (((h.2 j u e).0 k).0 ∙ sym mine.0))), NoLess-trans u.seen words new ((h.2 j u e).1) more))
            ((λ _. (mine.0, refl)), NoLess-refl new),
      ),
      (sym mine.1, refl),
    )

-- a reader loads them
pub loads : (by : ℕ) (v : Known) → v.writes ≡ false → Turns Kept by v (λ x. x) Loaded
loads by v reads words views h at =
    (reader words, (h.0, h.1, fits_set h.1 words views by (reader words) (λ j u apart e. h.2 j u e) ((λ c. absurd (off c)), NoLess-refl words)), (refl, h.0, (h.2 by v at).1))

-- a new reader has seen what the pass has from which it is cut
pub forks : (by : ℕ) (v : Known) → Forks Kept by v v (reader v.seen)
forks by v words views h at = (
  h.0,
  h.1,
  λ j u e. ⊎_elim
      (λ was. h.2 j u (subst (λ l. get_elem? l j ≡ some u) (set_again views by v at) was))
      (λ (same : reader v.seen ≡ u). subst (FitsRule h.1 words j) same ((λ c. absurd (off c)), (h.2 by v at).1))
      (at_snoc (set views by v) (reader v.seen) u j e),
)

-- the words of a new cell
pub starts : (ws : List ℕ) (homes : List (Option (List ℕ))) → ws ≡ 0 ∷ nothing → Versioned (λ (x : List ℕ). x) 3 Kept record { words = ws; homes = homes; views = idle (writer nothing) ∷ [] }
starts ws homes is = subst (λ (l : List ℕ). Versioned (λ (x : List ℕ). x) 3 Kept record { words = l; homes = homes; views = idle (writer nothing) ∷ [] }) (sym is) record {
  value = nothing;
  next = nothing;
  done = 0;
  writer = 0;
  era = 0;
  wide = refl;
  long = refl;
  at_rest = λ _. refl;
  clean = λ _. refl;
  dirty = λ l. absurd (omega arith);
  written = λ i l. absurd (omega arith);
  unwritten = λ i _ l. ap (λ (z : ℕ). get_or (0 ∷ nothing) z 0) (add-one i);
  each_seat = one;
  kept = begins;
}
  where
    one : (j : ℕ) (d : Doing (List ℕ) Known) → get_elem? (idle (writer nothing) ∷ []) j ≡ some d → Knows 0 0 nothing nothing 0 0 j d.stage
    one zero d e = subst (λ (x : Doing (List ℕ) Known). Knows 0 0 nothing nothing 0 0 0 x.stage) (some-injective _ _ e) tt
    one (suc j) d e = absurd (some-ne-none d (sym e))
