-- Reading on by undo_next: each record that is read is the transaction's, and stands before the one that led to it.
use Rattle.std.proofs.Common.{◌≡◌, ◌≢◌, ◌⊎◌, ◌≤◌, ◌<◌, ℕ, [], ◌∷◌, Bool, true, false, Option, inl, inr, refl, sym, ◌∙◌, ap, subst, arith}
use Rattle.std.specs.Prelude.{◌==◌, nat_lt, if◌then◌else◌}
use Rattle.std.proofs.lemmas.Bool.{cases_eq, eq-eqb, ne_eqb, cond-true, cond-false}
use Rattle.im_base_types.specs.Records.{What, InsertKey, DeleteKey, UndoInsert, UndoDelete, Smo, UndoSmo, DummyClr, Commit, End, Image, Checkpoint, Unreadable, Logged}
use Rattle.im_theory_log.specs.Tree.{Tree}
use Rattle.im_theory_log.specs.Histories.{History, Base, IsRecordOf, end_of, below}
use Rattle.im_theory_log.specs.Transactions.{last_of, undo_next_of, undo_from, undo_reads, reads_on}
use Rattle.im_theory_log.specs.Lawful.{IsLawful, Follows, MayCome, MayDummyClr, Undoes, has_owner}
use Rattle.im_theory_log.proofs.Cited.{closed_place, leads_all, undone_place, rises, end_below, reads_past}
use Rattle.im_restart_analysis.specs.Undo.{leads_on, HasRecordAt}
use Rattle.im_restart_analysis.proofs.LawfulLogs.{low}

-- ---- records of fronts are records of the log

in_older : (t l : ℕ) (r : Logged) (older : History) → HasRecordAt t l older → HasRecordAt t l (r ∷ older)
in_older t l r older h = record { found = h.found; logged = inr h.logged; owner = h.owner; here = h.here }

in_front : (t l n : ℕ) (log : History) → HasRecordAt t l (below n log) → HasRecordAt t l log
in_front t l n [] h = h
in_front t l n (r ∷ older) h = by (λ (x : HasRecordAt t l (below n older)). in_front t l n older x) (nat_lt r.lsn n) h
  where
    by : (HasRecordAt t l (below n older) → HasRecordAt t l older) → (x : Bool) → HasRecordAt t l (if x then r ∷ older else below n older) → HasRecordAt t l (r ∷ older)
    by go true h = h
    by go false h = in_older t l r older (go h)

moved : (t u l m : ℕ) (log : History) → t ≡ u → l ≡ m → HasRecordAt t l log → HasRecordAt u m log
moved t u l m log a b h = record { found = h.found; logged = h.logged; owner = h.owner ∙ a; here = h.here ∙ b }

-- the last record of a transaction
last_at : (t : ℕ) (log : History) → last_of t log ≢ 0 → HasRecordAt t (last_of t log) log
last_at t [] some = absurd (some refl)
last_at t (r ∷ older) some = elim (cases_eq r.txn t) [
  | inl mine ↦ record { found = r; logged = inl refl; owner = mine; here = sym (cond-true (r.txn == t) r.lsn (last_of t older) (eq-eqb r.txn t mine)) }
  | inr other ↦
      let same : last_of t (r ∷ older) ≡ last_of t older = cond-false (r.txn == t) r.lsn (last_of t older) (ne_eqb r.txn t other) in
      moved t t (last_of t older) (last_of t (r ∷ older)) (r ∷ older) refl (sym same) (in_older t (last_of t older) r older (last_at t older (λ e. some (same ∙ e))))
]

-- ---- one record more

abbrev GoesOnAt : ℕ → History → Type 0
GoesOnAt t log = undo_next_of t log ≢ 0 → HasRecordAt t (undo_next_of t log) log

module _ (b : Base) (tree : Tree) (r : Logged) (older : History) (law : IsLawful b tree older) (follows : Follows b tree r older) where
  falls_undone : {is : What → Type 0} (u : Undoes r older is) → r.undo_next < r.lsn
  falls_undone u =
      let place = undone_place b tree r older law follows u in
      let small : r.undo_next < u.undone.lsn = place.3 in let within : u.undone.lsn ≤ end_of b older = place.2 in let high : end_of b older < r.lsn = follows.rises in
      omega (arith, small, within, high)

  falls_closed : r.txn ≢ 0 → MayDummyClr r older → r.undo_next < r.lsn
  falls_closed some may =
      let place = closed_place b tree r older law follows may in
      let leads = (leads_all b tree older r.txn some law).0 place.0 in
      let next : r.undo_next ≡ undo_next_of r.txn (below place.0 older) = place.1 in
      let within : undo_next_of r.txn (below place.0 older) ≤ end_of b (below place.0 older) = leads.within in
      let under : end_of b (below place.0 older) < place.0 = end_below b place.0 older place.4 in
      let inside : place.0 ≤ end_of b older = place.3 in let high : end_of b older < r.lsn = follows.rises in
      omega (arith, next, within, under, inside, high)

  pub falls : (w : What) → r.what ≡ w → MayCome b tree r older w → leads_on w ≡ true → r.undo_next < r.lsn
  falls (UndoInsert k i) is may on = falls_undone may.undoes
  falls (UndoDelete k i) is may on = falls_undone may.undoes
  falls (UndoSmo n) is may on = falls_undone may.undoes
  falls DummyClr is may on = falls_closed (λ e. (let one : 1 ≤ r.txn = (follows.chained (ap has_owner is)).number in omega (arith, one, e))) may
  falls (InsertKey k i) is may on = absurd (cc on)
  falls (DeleteKey k i) is may on = absurd (cc on)
  falls (Smo o n) is may on = absurd (cc on)
  falls Commit is may on = absurd (cc on)
  falls End is may on = absurd (cc on)
  falls (Image c) is may on = absurd (cc on)
  falls (Checkpoint n a d) is may on = absurd (cc on)
  falls Unreadable is may on = absurd (cc on)

  to_undone : {is : What → Type 0} (u : Undoes r older is) → r.undo_next ≢ 0 → HasRecordAt r.txn r.undo_next (r ∷ older)
  to_undone u some =
      let place = undone_place b tree r older law follows u in
      let f : History = below u.undone.lsn older in
      let next : r.undo_next ≡ last_of r.txn f = place.0 in
      in_older r.txn r.undo_next r older (in_front r.txn r.undo_next u.undone.lsn older (moved r.txn r.txn (last_of r.txn f) r.undo_next f refl (sym next) (last_at r.txn f (λ e. some (next ∙ e)))))

  to_closed : MayDummyClr r older → ((n : ℕ) → GoesOnAt r.txn (below n older)) → r.undo_next ≢ 0 → HasRecordAt r.txn r.undo_next (r ∷ older)
  to_closed may fronts some =
      let place = closed_place b tree r older law follows may in
      let f : History = below place.0 older in
      let next : r.undo_next ≡ undo_next_of r.txn f = place.1 in
      in_older r.txn r.undo_next r older (in_front r.txn r.undo_next place.0 older (moved r.txn r.txn (undo_next_of r.txn f) r.undo_next f refl (sym next) (fronts place.0 (λ e. some (next ∙ e)))))

  leads : ((n : ℕ) → GoesOnAt r.txn (below n older)) → (w : What) → MayCome b tree r older w → leads_on w ≡ true → r.undo_next ≢ 0 → HasRecordAt r.txn r.undo_next (r ∷ older)
  leads fronts (UndoInsert k i) may on some = to_undone may.undoes some
  leads fronts (UndoDelete k i) may on some = to_undone may.undoes some
  leads fronts (UndoSmo n) may on some = to_undone may.undoes some
  leads fronts DummyClr may on some = to_closed may fronts some
  leads fronts (InsertKey k i) may on some = absurd (cc on)
  leads fronts (DeleteKey k i) may on some = absurd (cc on)
  leads fronts (Smo o n) may on some = absurd (cc on)
  leads fronts Commit may on some = absurd (cc on)
  leads fronts End may on some = absurd (cc on)
  leads fronts (Image c) may on some = absurd (cc on)
  leads fronts (Checkpoint n a d) may on some = absurd (cc on)
  leads fronts Unreadable may on some = absurd (cc on)

  here_itself : HasRecordAt r.txn r.lsn (r ∷ older)
  here_itself = record { found = r; logged = inl refl; owner = refl; here = refl }

  own_goes_on : ((n : ℕ) → GoesOnAt r.txn (below n older)) → (w : What) → MayCome b tree r older w → undo_from r w ≢ 0 → HasRecordAt r.txn (undo_from r w) (r ∷ older)
  own_goes_on fronts (InsertKey k i) may some = here_itself
  own_goes_on fronts (DeleteKey k i) may some = here_itself
  own_goes_on fronts (Smo o n) may some = here_itself
  own_goes_on fronts (UndoInsert k i) may some = to_undone may.undoes some
  own_goes_on fronts (UndoDelete k i) may some = to_undone may.undoes some
  own_goes_on fronts (UndoSmo n) may some = to_undone may.undoes some
  own_goes_on fronts DummyClr may some = to_closed may fronts some
  own_goes_on fronts Commit may some = absurd (some refl)
  own_goes_on fronts End may some = absurd (some refl)
  own_goes_on fronts (Image c) may some = absurd (some refl)
  own_goes_on fronts (Checkpoint n a d) may some = absurd (some refl)
  own_goes_on fronts Unreadable may some = absurd (some refl)

-- ---- in every front, and in the log

goes_on_all : (b : Base) (tree : Tree) (log : History) (t : ℕ) → IsLawful b tree log → ((n : ℕ) → GoesOnAt t (below n log)) × GoesOnAt t log
goes_on_all b tree [] t law = ((λ n some. absurd (some refl)), λ some. absurd (some refl))
goes_on_all b tree (r ∷ older) t law =
    let rest = goes_on_all b tree older t law.0 in
    let now = by rest.0 rest.1 (cases_eq r.txn t) in
    (λ n. elim (nat_lt r.lsn n) as (λ (x : Bool). GoesOnAt t (if x then r ∷ older else below n older)) [ true ↦ now | false ↦ rest.0 n ], now)
  where
    by : ((n : ℕ) → GoesOnAt t (below n older)) → GoesOnAt t older → (r.txn ≡ t) ⊎ (r.txn ≡ t → ⊥) → GoesOnAt t (r ∷ older)
    by fronts one (inl mine) some =
        let next : undo_next_of t (r ∷ older) ≡ undo_from r r.what = cond-true (r.txn == t) (undo_from r r.what) (undo_next_of t older) (eq-eqb r.txn t mine) in
        moved r.txn t (undo_from r r.what) (undo_next_of t (r ∷ older)) (r ∷ older) mine (sym next)
        (own_goes_on b tree r older law.0 law.1 (λ n. subst (λ (x : ℕ). GoesOnAt x (below n older)) (sym mine) (fronts n)) r.what law.1.may (λ e. some (next ∙ e)))
    by fronts one (inr other) some =
        let next : undo_next_of t (r ∷ older) ≡ undo_next_of t older = cond-false (r.txn == t) (undo_from r r.what) (undo_next_of t older) (ne_eqb r.txn t other) in
        moved t t (undo_next_of t older) (undo_next_of t (r ∷ older)) (r ∷ older) refl (sym next) (in_older t (undo_next_of t older) r older (one (λ e. some (next ∙ e))))

pub goes_on_at : (b : Base) (tree : Tree) (log : History) (t : ℕ) → IsLawful b tree log → undo_next_of t log ≢ 0 → HasRecordAt t (undo_next_of t log) log
goes_on_at b tree log t law some = (goes_on_all b tree log t law).1 some

pub leads_back : (b : Base) (tree : Tree) (log : History) (s : Logged) → IsLawful b tree log → IsRecordOf s log → leads_on s.what ≡ true → s.undo_next < s.lsn
leads_back b tree [] s law is on = absurd is
leads_back b tree (r ∷ older) s law (inl same) on =
    subst (λ (x : Logged). x.undo_next < x.lsn) same (falls b tree r older law.0 law.1 r.what refl law.1.may (ap (λ (x : Logged). leads_on x.what) same ∙ on))
leads_back b tree (r ∷ older) s law (inr there) on = leads_back b tree older s law.0 there on

pub leads_to : (b : Base) (tree : Tree) (log : History) (s : Logged) → IsLawful b tree log → IsRecordOf s log → leads_on s.what ≡ true → s.undo_next ≢ 0 → HasRecordAt s.txn s.undo_next log
leads_to b tree [] s law is on some = absurd is
leads_to b tree (r ∷ older) s law (inl same) on some =
    subst (λ (x : Logged). HasRecordAt x.txn x.undo_next (r ∷ older)) same
    (leads b tree r older law.0 law.1 (goes_on_all b tree older r.txn law.0).0 r.what law.1.may (ap (λ (x : Logged). leads_on x.what) same ∙ on) (λ e. some (sym (ap (λ (x : Logged). x.undo_next) same) ∙ e)))
leads_to b tree (r ∷ older) s law (inr there) on some = in_older s.txn s.undo_next r older (leads_to b tree older s law.0 there on some)

-- ---- reading at a record

reads_here : (r : Logged) (older : History) → undo_reads r.lsn (r ∷ older) ≡ reads_on r r.what (undo_reads r.undo_next older)
reads_here r older = cond-true (r.lsn == r.lsn) (reads_on r r.what (undo_reads r.undo_next older)) (undo_reads r.lsn older) (eq-eqb r.lsn r.lsn refl)

-- only a record that leads on asks what comes next
same_reads : (r : Logged) (w : What) (n m : Option Logged) → (leads_on w ≡ true → n ≡ m) → reads_on r w n ≡ reads_on r w m
same_reads r (UndoInsert k i) n m same = same refl
same_reads r (UndoDelete k i) n m same = same refl
same_reads r (UndoSmo x) n m same = same refl
same_reads r DummyClr n m same = same refl
same_reads r (InsertKey k i) n m same = refl
same_reads r (DeleteKey k i) n m same = refl
same_reads r (Smo o x) n m same = refl
same_reads r Commit n m same = refl
same_reads r End n m same = refl
same_reads r (Image c) n m same = refl
same_reads r (Checkpoint x a d) n m same = refl
same_reads r Unreadable n m same = refl

pub reads_record : (b : Base) (tree : Tree) (log : History) (s : Logged) → IsLawful b tree log → IsRecordOf s log → undo_reads s.lsn log ≡ reads_on s s.what (undo_reads s.undo_next log)
reads_record b tree [] s law is = absurd is
reads_record b tree (r ∷ older) s law (inl same) =
    subst (λ (x : Logged). undo_reads x.lsn (r ∷ older) ≡ reads_on x x.what (undo_reads x.undo_next (r ∷ older))) same
    (reads_here r older ∙ same_reads r r.what (undo_reads r.undo_next older) (undo_reads r.undo_next (r ∷ older)) (λ on. sym (reads_past r older r.undo_next (falls b tree r older law.0 law.1 r.what refl law.1.may on))))
reads_record b tree (r ∷ older) s law (inr there) =
    let within : s.lsn ≤ end_of b older = low b older s (rises b tree older law.0) there in
    let last : end_of b older < r.lsn = law.1.rises in
    reads_past r older s.lsn (omega (arith, within, last))
    ∙ reads_record b tree older s law.0 there
    ∙ same_reads s s.what (undo_reads s.undo_next older) (undo_reads s.undo_next (r ∷ older)) (λ on. (
    let back : s.undo_next < s.lsn = leads_back b tree older s law.0 there on in
    sym (reads_past r older s.undo_next (omega (arith, within, last, back)))
    ))
