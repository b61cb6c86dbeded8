-- Undo's reading by the chain comes to the top of what is left to undo.
use Rattle.std.proofs.Common.{◌≡◌, ◌≢◌, ◌⊎◌, inl, inr, ℕ, ◌<◌, ◌≤◌, [], ◌∷◌, Bool, true, false, refl, sym, ◌∙◌, ap, subst, arith, Option, None}
use Rattle.std.specs.Prelude.{if◌then◌else◌, ◌==◌, nat_lt}
use Rattle.std.proofs.lemmas.Bool.{cases_eq, cases_lt, eq-eqb, ne_eqb, cond-true, cond-false}
use Rattle.im_theory_log.specs.Histories.{Base, History, Rises, below, end_of}
use Rattle.im_theory_log.specs.Lawful.{Follows, IsLawful, MayCome, MayDummyClr, Undoes}
use Rattle.im_base_types.specs.Records.{Checkpoint, Commit, DeleteKey, DummyClr, End, Image, InsertKey, Logged, Smo, UndoDelete, UndoInsert, UndoSmo, Unreadable, What}
use Rattle.im_theory_log.specs.Transactions.{last_of, reads_on, rest_of, stack_after, to_undo, top_of, undo_from, undo_next_of, undo_reads, without_smo}
use Rattle.im_theory_log.specs.Tree.{Tree}
use Rattle.im_theory_log.proofs.Chains.{closed_place, leads_all, undo_next_leads, undone_place}
use Rattle.im_theory_log.proofs.Fronts.{rises}
use Rattle.im_theory_log.proofs.Histories.{below_newest, below_older, end_below, start_low}
use Rattle.im_theory_log.proofs.Stacks.{last_le}

-- ---- reading past records

pub reads_past : (r : Logged) (older : History) (l : ℕ) → l < r.lsn → undo_reads l (r ∷ older) ≡ undo_reads l older
reads_past r older l less = cond-false (r.lsn == l) (reads_on r r.what (undo_reads r.undo_next older)) (undo_reads l older) (ne_eqb r.lsn l (λ e. absurd (omega (arith, e, less))))

reads_here : (r : Logged) (older : History) (l : ℕ) → r.lsn ≡ l → undo_reads l (r ∷ older) ≡ reads_on r r.what (undo_reads r.undo_next older)
reads_here r older l is = cond-true (r.lsn == l) (reads_on r r.what (undo_reads r.undo_next older)) (undo_reads l older) (eq-eqb r.lsn l is)

-- no record stands at or before the start, so none at 0
reads_none : (b : Base) (log : History) → Rises b log → undo_reads 0 log ≡ None
reads_none b [] up = refl
reads_none b (r ∷ older) up =
    let low : b.start ≤ end_of b older = start_low b older up.0 in let last : end_of b older < r.lsn = up.1 in
    reads_past r older 0 (omega (arith, low, last)) ∙ reads_none b older up.0

-- what is read below a bound is read in the front below it
reads_below : (l n : ℕ) (log : History) → l < n → undo_reads l log ≡ undo_reads l (below n log)
reads_below l n [] less = refl
reads_below l n (r ∷ older) less = elim (cases_lt r.lsn n) [
  | inl under ↦ ap (λ (f : History). undo_reads l f) (sym (below_newest n r older under))
  | inr over ↦ reads_past r older l (omega (arith, over, less)) ∙ reads_below l n older less ∙ ap (λ (f : History). undo_reads l f) (sym (below_older n r older over))
]

-- ---- one record more

module _ (b : Base) (tree : Tree) (r : Logged) (older : History) (law : IsLawful b tree older) (follows : Follows b tree r older) where
  -- a compensation or DummyClr leads to an earlier record
  abbrev pub IsLeading : What → Type 0
  IsLeading w = (undo_from r w ≡ r.undo_next) × ((n : Option Logged) → reads_on r w n ≡ n)

  falls_undone : {is : What → Type 0} (u : Undoes r older is) → r.undo_next < r.lsn
  falls_undone u =
      let place = undone_place b tree r older law follows u in
      let small : r.undo_next < u.undone.lsn = place.3 in let low : u.undone.lsn ≤ end_of b older = place.2 in let high : end_of b older < r.lsn = follows.rises in
      omega (arith, small, low, high)

  falls_closed : r.txn ≢ 0 → MayDummyClr r older → r.undo_next < r.lsn
  falls_closed some may =
      let place = closed_place b tree r older law follows may in
      let f : History = below place.0 older in
      let leads = (leads_all b tree older r.txn some law).0 place.0 in
      let next : r.undo_next ≡ undo_next_of r.txn f = place.1 in
      let within : undo_next_of r.txn f ≤ end_of b f = leads.within in
      let under : end_of b f < place.0 = end_below b place.0 older place.4 in
      let inside : place.0 ≤ end_of b older = place.3 in let high : end_of b older < r.lsn = follows.rises in
      omega (arith, next, within, under, inside, high)

  -- reading from this record is reading from where undo goes on after it
  own_last : r.txn ≢ 0 → (w : What) → MayCome b tree r older w → reads_on r w (undo_reads r.undo_next older) ≡ undo_reads (undo_from r w) (r ∷ older) ⊎ (undo_from r w ≡ r.lsn)
  own_last some (InsertKey k i) may = inr refl
  own_last some (DeleteKey k i) may = inr refl
  own_last some (Smo o n) may = inr refl
  own_last some (UndoInsert k i) may = inl (sym (reads_past r older r.undo_next (falls_undone may.undoes)))
  own_last some (UndoDelete k i) may = inl (sym (reads_past r older r.undo_next (falls_undone may.undoes)))
  own_last some (UndoSmo n) may = inl (sym (reads_past r older r.undo_next (falls_undone may.undoes)))
  own_last some DummyClr may = inl (sym (reads_past r older r.undo_next (falls_closed some may)))
  own_last some Commit may = inl (sym (reads_none b (r ∷ older) (rises b tree older law, follows.rises)))
  own_last some End may = inl (sym (reads_none b (r ∷ older) (rises b tree older law, follows.rises)))
  own_last some (Image c) may = absurd (some may.no_owner)
  own_last some (Checkpoint n a d) may = absurd (some may)
  own_last some Unreadable may = absurd may

-- reading from a transaction's last record is reading from its next LSN to undo
last_reads : (b : Base) (tree : Tree) (log : History) (t : ℕ) → t ≢ 0 → IsLawful b tree log → undo_reads (last_of t log) log ≡ undo_reads (undo_next_of t log) log
last_reads b tree [] t some law = refl
last_reads b tree (r ∷ older) t some law = elim (cases_eq r.txn t) [
  | inl mine ↦
      let last : last_of t (r ∷ older) ≡ r.lsn = cond-true (r.txn == t) r.lsn (last_of t older) (eq-eqb r.txn t mine) in
      let next : undo_next_of t (r ∷ older) ≡ undo_from r r.what = cond-true (r.txn == t) (undo_from r r.what) (undo_next_of t older) (eq-eqb r.txn t mine) in
      ap (λ (l : ℕ). undo_reads l (r ∷ older)) last
      ∙ elim (own_last b tree r older law.0 law.1 (λ e. some (sym mine ∙ e)) r.what law.1.may) [
        | inl leads ↦ reads_here r older r.lsn refl ∙ leads
        | inr here ↦ ap (λ (l : ℕ). undo_reads l (r ∷ older)) (sym here)
      ]
      ∙ ap (λ (l : ℕ). undo_reads l (r ∷ older)) (sym next)
  | inr other ↦
      let last : last_of t (r ∷ older) ≡ last_of t older = cond-false (r.txn == t) r.lsn (last_of t older) (ne_eqb r.txn t other) in
      let next : undo_next_of t (r ∷ older) ≡ undo_next_of t older = cond-false (r.txn == t) (undo_from r r.what) (undo_next_of t older) (ne_eqb r.txn t other) in
      let up : end_of b older < r.lsn = law.1.rises in
      let l_low : last_of t older ≤ end_of b older = last_le b t older (rises b tree older law.0) in
      let n_low : undo_next_of t older ≤ end_of b older = (undo_next_leads b tree older t some law.0).within in
      ap (λ (l : ℕ). undo_reads l (r ∷ older)) last
      ∙ reads_past r older (last_of t older) (omega (arith, l_low, up))
      ∙ last_reads b tree older t some law.0
      ∙ sym (reads_past r older (undo_next_of t older) (omega (arith, n_low, up)))
      ∙ ap (λ (l : ℕ). undo_reads l (r ∷ older)) (sym next)
]

abbrev Comes : ℕ → History → Type 0
Comes t log = undo_reads (undo_next_of t log) log ≡ top_of (to_undo t log)

module _ (b : Base) (tree : Tree) (r : Logged) (older : History) (law : IsLawful b tree older) (follows : Follows b tree r older) where
  -- from a front of the older log on, which has what is then left
  through_front : (l n : ℕ) (stack : History) → r.undo_next ≡ undo_next_of r.txn (below n older) → l ≡ r.undo_next → stack ≡ to_undo r.txn (below n older) → r.undo_next < n → r.undo_next < r.lsn
      → Comes r.txn (below n older) → undo_reads l (r ∷ older) ≡ top_of stack
  through_front l n stack next is same under falls comes =
      ap (λ (x : ℕ). undo_reads x (r ∷ older)) is
      ∙ reads_past r older r.undo_next falls
      ∙ reads_below r.undo_next n older under
      ∙ ap (λ (x : ℕ). undo_reads x (below n older)) next
      ∙ comes ∙ ap top_of (sym same)

  through_last : {is : What → Type 0} (u : Undoes r older is) → r.txn ≢ 0 → Comes r.txn (below u.undone.lsn older) → undo_reads r.undo_next (r ∷ older) ≡ top_of (rest_of (to_undo r.txn older))
  through_last u some comes =
      let place = undone_place b tree r older law follows u in
      let n : ℕ = u.undone.lsn in
      reads_past r older r.undo_next (falls_undone b tree r older law follows u)
      ∙ reads_below r.undo_next u.undone.lsn older place.3
      ∙ ap (λ (x : ℕ). undo_reads x (below u.undone.lsn older)) place.0
      ∙ last_reads b tree (below u.undone.lsn older) r.txn some (lawful_below u.undone.lsn older law)
      ∙ comes ∙ ap top_of (sym place.1)
    where
      lawful_below : (n : ℕ) (log : History) → IsLawful b tree log → IsLawful b tree (below n log)
      lawful_below n [] law = law
      lawful_below n (s ∷ older) law = elim (nat_lt s.lsn n) as (λ (x : Bool). IsLawful b tree (if x then s ∷ older else below n older)) [ true ↦ law | false ↦ lawful_below n older law.0 ]

  own_comes : r.txn ≢ 0 → ((n : ℕ) → Comes r.txn (below n older)) → (w : What) → r.what ≡ w → MayCome b tree r older w → undo_reads (undo_from r w) (r ∷ older) ≡ top_of (stack_after r w (to_undo r.txn older))
  own_comes some fronts (InsertKey k i) e may = reads_here r older r.lsn refl ∙ ap (λ (w : What). reads_on r w (undo_reads r.undo_next older)) e
  own_comes some fronts (DeleteKey k i) e may = reads_here r older r.lsn refl ∙ ap (λ (w : What). reads_on r w (undo_reads r.undo_next older)) e
  own_comes some fronts (Smo o n) e may = reads_here r older r.lsn refl ∙ ap (λ (w : What). reads_on r w (undo_reads r.undo_next older)) e
  own_comes some fronts (UndoInsert k i) e may = through_last may.undoes some (fronts may.undoes.undone.lsn)
  own_comes some fronts (UndoDelete k i) e may = through_last may.undoes some (fronts may.undoes.undone.lsn)
  own_comes some fronts (UndoSmo n) e may = through_last may.undoes some (fronts may.undoes.undone.lsn)
  own_comes some fronts DummyClr e may =
      let place = closed_place b tree r older law follows may in
      let leads = (leads_all b tree older r.txn some law).0 place.0 in
      let next : r.undo_next ≡ undo_next_of r.txn (below place.0 older) = place.1 in
      let within : undo_next_of r.txn (below place.0 older) ≤ end_of b (below place.0 older) = leads.within in
      let under : end_of b (below place.0 older) < place.0 = end_below b place.0 older place.4 in
      through_front r.undo_next place.0 (without_smo (to_undo r.txn older)) place.1 refl place.2 (omega (arith, next, within, under)) (falls_closed b tree r older law follows some may) (fronts place.0)
  own_comes some fronts Commit e may = reads_none b (r ∷ older) (rises b tree older law, follows.rises)
  own_comes some fronts End e may = reads_none b (r ∷ older) (rises b tree older law, follows.rises)
  own_comes some fronts (Image c) e may = absurd (some may.no_owner)
  own_comes some fronts (Checkpoint n a d) e may = absurd (some may)
  own_comes some fronts Unreadable e may = absurd may

comes_all : (b : Base) (tree : Tree) (log : History) (t : ℕ) → t ≢ 0 → IsLawful b tree log → ((n : ℕ) → Comes t (below n log)) × Comes t log
comes_all b tree [] t some law = (λ n. refl, refl)
comes_all b tree (r ∷ older) t some law =
    let rest = comes_all b tree older t some law.0 in
    let now = by rest.0 rest.1 (cases_eq r.txn t) in
    (λ n. elim (nat_lt r.lsn n) as (λ (x : Bool). Comes t (if x then r ∷ older else below n older)) [ true ↦ now | false ↦ rest.0 n ], now)
  where
    by : ((n : ℕ) → Comes t (below n older)) → Comes t older → (r.txn ≡ t) ⊎ (r.txn ≡ t → ⊥) → Comes t (r ∷ older)
    by fronts one (inl mine) =
        let next : undo_next_of t (r ∷ older) ≡ undo_from r r.what = cond-true (r.txn == t) (undo_from r r.what) (undo_next_of t older) (eq-eqb r.txn t mine) in
        let stack : to_undo t (r ∷ older) ≡ stack_after r r.what (to_undo r.txn older) = cond-true (r.txn == t) (stack_after r r.what (to_undo t older)) (to_undo t older) (eq-eqb r.txn t mine) ∙ ap (λ (x : ℕ). stack_after r r.what (to_undo x older)) (sym mine) in
        ap (λ (l : ℕ). undo_reads l (r ∷ older)) next
        ∙ own_comes b tree r older law.0 law.1 (λ e. some (sym mine ∙ e)) (λ n. subst (λ (x : ℕ). Comes x (below n older)) (sym mine) (fronts n)) r.what refl law.1.may
        ∙ ap top_of (sym stack)
    by fronts one (inr other) =
        let next : undo_next_of t (r ∷ older) ≡ undo_next_of t older = cond-false (r.txn == t) (undo_from r r.what) (undo_next_of t older) (ne_eqb r.txn t other) in
        let stack : to_undo t (r ∷ older) ≡ to_undo t older = cond-false (r.txn == t) (stack_after r r.what (to_undo t older)) (to_undo t older) (ne_eqb r.txn t other) in
        let up : end_of b older < r.lsn = law.1.rises in
        let low : undo_next_of t older ≤ end_of b older = (undo_next_leads b tree older t some law.0).within in
        ap (λ (l : ℕ). undo_reads l (r ∷ older)) next ∙ reads_past r older (undo_next_of t older) (omega (arith, low, up)) ∙ one ∙ ap top_of (sym stack)

-- In a lawful log undo, reading from a transaction's next LSN to undo, comes to the top of what that has left, and to none where nothing is left.
pub undo_reads_top : (b : Base) (tree : Tree) (log : History) (t : ℕ) → t ≢ 0 → IsLawful b tree log → undo_reads (undo_next_of t log) log ≡ top_of (to_undo t log)
undo_reads_top b tree log t some law = (comes_all b tree log t some law).1
