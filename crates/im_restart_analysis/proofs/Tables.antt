-- The table of the losers: what its rows say, and how it is kept along undo, beside Images that evictions append.
use Rattle.std.proofs.Common.{◌≡◌, ◌≢◌, ◌⊎◌, ◌<◌, ◌+◌, ℕ, zero, suc, [], ◌∷◌, ◌++◌, length, true, false, Option, None, Some, inl, inr, refl, sym, ◌∙◌, ap, arith}
use Rattle.std.specs.Prelude.{cond, if◌then◌else◌}
use Rattle.std.specs.declared.cmp.Ordering.{Ordering}
use Rattle.std.specs.declared.cmp.Ordering.TheVariants.{Less, Equal, Greater}
use Rattle.std.specs.Ordering.{nat_cmp, is_eq}
use Rattle.std.specs.BTreeMap.{get, is_at}
use Rattle.std.proofs.lemmas.Bool.{cases_Bool, cond-true, cond-false}
use Rattle.std.proofs.lemmas.Cmp.{ranked}
use Rattle.std.proofs.lemmas.Map.Lookups.{exact_unsigned}
use Rattle.im_base_types.specs.Records.{Logged}
use Rattle.im_theory_log.specs.Tree.{Tree}
use Rattle.im_theory_log.specs.Histories.{History, Base}
use Rattle.im_theory_log.specs.Copies.{AreImages}
use Rattle.im_theory_log.proofs.Images.{lawful_images, images_to_undo, images_last, images_undo_next, images_open}
use Rattle.im_restart_analysis.specs.declared.rows.Loser.{Loser}
use Rattle.im_restart_analysis.specs.Losers.{LoserMap, AreLosers, is_loser, row_of}
use Rattle.im_restart_analysis.specs.Undo.{IsUndoable, LeavesOthers, TakesOff, HasEnded, left_of, left_below}
use Rattle.im_restart_analysis.proofs.Losers.{same_loser}

-- ---- what the rows say

pub listed : (losers : LoserMap) (log : History) (t : ℕ) (row : Loser) → AreLosers losers log → get nat_cmp losers t ≡ Some row → (is_loser t log ≡ true) × (row ≡ row_of t log)
listed losers log t row all is = elim (cases_Bool (is_loser t log)) [
  | inl loser ↦ (let e : Some row ≡ Some (row_of t log) = sym is ∙ all t ∙ cond-true (is_loser t log) (Some (row_of t log)) None loser in (loser, cc e))
  | inr other ↦ (let e : Some row ≡ None = sym is ∙ all t ∙ cond-false (is_loser t log) (Some (row_of t log)) None other in absurd (cc e))
]

pub not_listed : (losers : LoserMap) (log : History) (t : ℕ) → AreLosers losers log → get nat_cmp losers t ≡ None → is_loser t log ≡ false
not_listed losers log t all is = elim (cases_Bool (is_loser t log)) [
  | inl loser ↦ (let e : None ≡ Some (row_of t log) = sym is ∙ all t ∙ cond-true (is_loser t log) (Some (row_of t log)) None loser in absurd (cc e))
  | inr other ↦ other
]

-- ---- a row changed, and taken out

pub at_cases : (t q : ℕ) → ((t ≡ q) × (is_at (nat_cmp t) q ≡ true)) ⊎ ((t ≢ q) × (is_at (nat_cmp t) q ≡ false))
at_cases t q = by (nat_cmp t q) refl
  where
    by : (o : Ordering) → nat_cmp t q ≡ o → ((t ≡ q) × (is_at (nat_cmp t) q ≡ true)) ⊎ ((t ≢ q) × (is_at (nat_cmp t) q ≡ false))
    by Equal is = inl (exact_unsigned t q is, ap is_eq is)
    by Less is = inr ((λ e. (let lt : t < q = ranked t q Less (sym is) in omega (arith, lt, e))), ap is_eq is)
    by Greater is = inr ((λ e. (let lt : q < t = ranked t q Greater (sym is) in omega (arith, lt, e))), ap is_eq is)

-- the table with another row at a transaction, or none
abbrev pub HasAt : LoserMap → ℕ → Option Loser → LoserMap → Type 0
HasAt losers t row new = (q : ℕ) → get nat_cmp new q ≡ cond (is_at (nat_cmp t) q) row (get nat_cmp losers q)

module _ (losers new : LoserMap) (log : History) (t : ℕ) (r : Logged) (all : AreLosers losers log) (others : LeavesOthers t r log) where
  other_row : (q : ℕ) → q ≢ t → get nat_cmp losers q ≡ (if is_loser q (r ∷ log) then Some (row_of q (r ∷ log)) else None)
  other_row q apart = all q ∙ sym (λ i. if others.losers q apart i then Some (others.rows q apart i) else None)

  kept : (row : Option Loser) → row ≡ (if is_loser t (r ∷ log) then Some (row_of t (r ∷ log)) else None) → HasAt losers t row new → AreLosers new (r ∷ log)
  kept row is put q = put q ∙ elim (at_cases t q) [
    | inl here ↦
        cond-true (is_at (nat_cmp t) q) row (get nat_cmp losers q) here.1 ∙ is
        ∙ ap (λ (x : ℕ). if is_loser x (r ∷ log) then Some (row_of x (r ∷ log)) else None) here.0
    | inr away ↦ cond-false (is_at (nat_cmp t) q) row (get nat_cmp losers q) away.1 ∙ other_row q (λ e. away.0 (sym e))
  ]

-- after a compensation the table has the transaction's new row
pub row_changed : (losers new : LoserMap) (log : History) (t : ℕ) (s r : Logged) → AreLosers losers log → TakesOff t log s r
    → HasAt losers t (Some (record { last = r.lsn; undo_next = s.prev })) new → AreLosers new (r ∷ log)
row_changed losers new log t s r all off put =
    kept losers new log t r all off.others (Some (record { last = r.lsn; undo_next = s.prev }))
    (ap (λ (x : Loser). Some x) (sym off.row) ∙ sym (cond-true (is_loser t (r ∷ log)) (Some (row_of t (r ∷ log))) None off.loser)) put

-- after an End it has none
pub row_ended : (losers new : LoserMap) (log : History) (t : ℕ) (r : Logged) → AreLosers losers log → HasEnded t log r → HasAt losers t None new → AreLosers new (r ∷ log)
row_ended losers new log t r all end put = kept losers new log t r all end.others None (sym (cond-false (is_loser t (r ∷ log)) (Some (row_of t (r ∷ log))) None end.ended)) put

-- ---- Images leave all of it

module _ (b : Base) where
  pub images_losers : (t : ℕ) (images older : History) → t ≢ 0 → AreImages b images older → is_loser t (images ++ older) ≡ is_loser t older
  images_losers t [] older some all = refl
  images_losers t (r ∷ images) older some all = same_loser r (images ++ older) t (λ e. some (sym e ∙ all.0.no_owner)) ∙ images_losers t images older some all.1

  same_losers : (t : ℕ) (images older : History) → AreImages b images older → is_loser t (images ++ older) ≡ is_loser t older
  same_losers zero images older all = refl
  same_losers (suc t) images older all = images_losers (suc t) images older (λ e. cc e) all

  pub images_table : (losers : LoserMap) (images older : History) → AreImages b images older → AreLosers losers older → AreLosers losers (images ++ older)
  images_table losers images older all are zero = are zero
  images_table losers images older all are (suc t) =
      let some : suc t ≢ 0 = λ e. cc e in
      are (suc t) ∙ sym (λ i. if images_losers (suc t) images older some all i then Some (record { last = images_last b (suc t) images older some all i; undo_next = images_undo_next b (suc t) images older some all i }) else None)

  pub images_undoable : (tree : Tree) (images older : History) → AreImages b images older → IsUndoable b tree older → IsUndoable b tree (images ++ older)
  images_undoable tree images older all can = record { lawful = lawful_images b tree images older all can.lawful; closed = images_open b images older all ∙ can.closed }

  same_left : (t : ℕ) (images older : History) → AreImages b images older → left_of t (images ++ older) ≡ left_of t older
  same_left zero images older all = refl
  same_left (suc t) images older all =
      let some : suc t ≢ 0 = λ e. cc e in
      λ i. if images_losers (suc t) images older some all i then length (images_to_undo b (suc t) images older some all i) + 1 else 0

  pub images_left : (n : ℕ) (images older : History) → AreImages b images older → left_below n (images ++ older) ≡ left_below n older
  images_left zero images older all = refl
  images_left (suc n) images older all =
      let rest : left_below n (images ++ older) ≡ left_below n older = images_left n images older all in
      let here : left_of n (images ++ older) ≡ left_of n older = same_left n images older all in
      omega (arith, rest, here)
