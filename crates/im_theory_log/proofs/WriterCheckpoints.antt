-- The redo point of the longer log: as before, or that of the first record, or a Checkpoint's.
use Rattle.std.proofs.Common.{◌≡◌, inl, inr, ◌⊎◌, ℕ, ◌<◌, ◌≤◌, List, [], ◌∷◌, true, false, refl, sym, ◌∙◌, ap, subst, arith, Option, None, Some}
use Rattle.std.specs.Prelude.{min}
use Rattle.std.proofs.lemmas.Bool.{cases_eq, cases_lt}
use Rattle.im_base_types.specs.declared.tables.ActiveTransaction.{ActiveTransaction}
use Rattle.im_base_types.specs.declared.tables.DirtyPage.{DirtyPage}
use Rattle.im_theory_log.specs.Copies.{HasCopy, Reaches, copy_in, noted}
use Rattle.im_theory_log.specs.Histories.{Base, History, end_of, page_after, page_at}
use Rattle.im_base_types.specs.Pages.{Page}
use Rattle.im_base_types.specs.Records.{Checkpoint, Logged, What}
use Rattle.im_theory_log.specs.RedoPoints.{is_checkpoint, least, redo_point}
use Rattle.im_theory_log.specs.Writer.{DirtyEntry, IsAfterRedo, Writer, WriterKept}
use Rattle.im_theory_log.specs.WriterSteps.{is_copied, IsInDirtyTable, IsIn, Lists, MayAppend, NextPoint, appended}
use Rattle.im_theory_log.proofs.Appends.{plain}
use Rattle.im_theory_log.proofs.Histories.{page_here, page_other}
use Rattle.im_theory_log.proofs.RedoPoints.{least_start, point_checkpoint, point_first, point_same}
use Rattle.im_theory_log.proofs.WriterAppends.{appended_kept}
use Rattle.im_theory_log.proofs.WriterCovers.{full_copy}
use Rattle.im_theory_log.proofs.WriterFronts.{whole}

-- ---- no Checkpoint

pub same_point : (b : Base) (s : Writer) (r : Logged) → WriterKept b s → end_of b s.log < r.lsn → redo_point (r ∷ s.log) ≡ redo_point s.log → NextPoint b s r
same_point b s r k last same =
    let w = whole s.durable s.log k.front in
    let now = k.points s.log w in
    let high : redo_point s.log ≤ end_of b s.log = now.high in
    record {
      high = omega (arith, same, high, last);
      own = subst (λ (m : ℕ). (m ≡ s.point) ⊎ IsAfterRedo s.redo_end m) (sym same) now.own;
      entries = λ p e is. subst (λ (m : ℕ). m ≤ e.rec_lsn) (sym same) (((k.pages p).entry e is).low s.log w);
      copies = subst (λ (m : ℕ). (p l : ℕ) (c : Page) → noted m s.log p ≡ Some (l, c) → Reaches b s.log m p c) (sym same) (k.copied s.log w);
      copied = λ p e is known. subst (λ (m : ℕ). HasCopy s.log p m) (sym same) (((k.pages p).entry e is).copied known);
      unsynced = λ p unsynced. subst (λ (m : ℕ). HasCopy s.durable p m) (sym same) ((full_copy b s k p unsynced).copy s.log w);
    }

-- a point after redo ended serves
pub later_point : (b : Base) (s : Writer) (r : Logged) (q : ℕ) → WriterKept b s → s.redo_end ≡ Some q → q < redo_point (r ∷ s.log) → redo_point (r ∷ s.log) ≤ r.lsn
    → ((p : ℕ) (e : DirtyEntry) → (s.pages p).entry ≡ Some e → redo_point (r ∷ s.log) ≤ e.rec_lsn) → ((p : ℕ) → (s.pages p).unsynced ≡ true → ⊥)
    → ((p : ℕ) (e : DirtyEntry) → (s.pages p).entry ≡ Some e → e.copied ≡ true → ⊥) → NextPoint b s r
later_point b s r q k is past high entries synced none = record {
  high = high;
  own = inr (subst (λ (o : Option ℕ). IsAfterRedo o (redo_point (r ∷ s.log))) (sym is) past);
  entries = entries;
  copies = k.exact q is (redo_point (r ∷ s.log)) past;
  copied = λ p e is known. absurd (none p e is known);
  unsynced = λ p unsynced. absurd (synced p unsynced);
}

pub next_point : (b : Base) (s : Writer) (r : Logged) (q : ℕ) → WriterKept b s → s.redo_end ≡ Some q → end_of b s.log < r.lsn → is_checkpoint r.what ≡ false → NextPoint b s r
next_point b s r q k is last plain = by s.log refl
  where
    by : (log : History) → s.log ≡ log → NextPoint b s r
    by (t ∷ older) eq = same_point b s r k last (subst (λ (l : History). redo_point (r ∷ l) ≡ redo_point l) (sym eq) (point_same r t older plain))
    by [] eq =
        let here : redo_point (r ∷ s.log) ≡ r.lsn = subst (λ (l : History). redo_point (r ∷ l) ≡ r.lsn) (sym eq) (point_first r plain) in
        let low : q ≤ end_of b s.log = (k.over q is).1 in
        later_point b s r q k is (omega (arith, here, low, last)) (omega (arith, here)) (λ p e held. absurd (let clash : None ≡ Some e = sym (k.first eq p) ∙ held in cc clash))
        (λ p unsynced. let has = full_copy b s k p unsynced in let clash : None ≡ Some has.entry = sym (k.first eq p) ∙ has.is in cc clash)
        (λ p e held. absurd (let clash : None ≡ Some e = sym (k.first eq p) ∙ held in cc clash))

-- ---- a Checkpoint

least_in : (l : ℕ) (x : DirtyPage) (d : List DirtyPage) → IsIn x d → least l d ≤ x.rec_lsn
least_in l x [] none = absurd none
least_in l x (y ∷ d) (inl is) =
    let start : least (min l y.rec_lsn) d ≤ min l y.rec_lsn = least_start (min l y.rec_lsn) d in
    let same : x.rec_lsn ≡ y.rec_lsn = ap (λ (z : DirtyPage). z.rec_lsn) is in
    omega (arith, start, same)
least_in l x (y ∷ d) (inr more) = least_in (min l y.rec_lsn) x d more

least_one : (l : ℕ) (d : List DirtyPage) → (least l d ≡ l) ⊎ ((x : DirtyPage) × IsIn x d × (least l d ≡ x.rec_lsn))
least_one l [] = inl refl
least_one l (y ∷ d) = elim (least_one (min l y.rec_lsn) d) [
  | inr (x, is, same) ↦ inr (x, inr is, same)
  | inl same ↦ elim (cases_lt l y.rec_lsn) [
    | inl less ↦ inl (omega (arith, same, less))
    | inr more ↦ inr (y, inl refl, omega (arith, same, more))
  ]
]

module _ (b : Base) (s : Writer) (r : Logged) (q n : ℕ) (a : List ActiveTransaction) (d : List DirtyPage) (k : WriterKept b s) (redo_end : s.redo_end ≡ Some q) (last : end_of b s.log < r.lsn)
    (is : r.what ≡ Checkpoint n a d) (lists : Lists s.pages d) (synced : (p : ℕ) → (s.pages p).unsynced ≡ false)
    (forgotten : (p : ℕ) → is_copied (s.pages p).entry ≡ false) where
  point : redo_point (r ∷ s.log) ≡ least r.lsn d
  point = point_checkpoint r s.log n a d is

  entries : (p : ℕ) (e : DirtyEntry) → (s.pages p).entry ≡ Some e → redo_point (r ∷ s.log) ≤ e.rec_lsn
  entries p e held = let low : least r.lsn d ≤ e.rec_lsn = least_in r.lsn (record { page = p; rec_lsn = e.rec_lsn }) d (lists.all p e held) in omega (arith, point, low)

  high : redo_point (r ∷ s.log) ≤ r.lsn
  high = let low : least r.lsn d ≤ r.lsn = least_start r.lsn d in omega (arith, point, low)

  none_known : (p : ℕ) (e : DirtyEntry) → (s.pages p).entry ≡ Some e → e.copied ≡ true → ⊥
  none_known p e is known = let clash : true ≡ false = sym known ∙ ap (λ (o : Option DirtyEntry). is_copied o) (sym is) ∙ forgotten p in cc clash

  still : (p : ℕ) → (s.pages p).unsynced ≡ true → ⊥
  still p unsynced = let clash : true ≡ false = sym unsynced ∙ synced p in cc clash

  end_low : (s.point ≤ q) × (q ≤ end_of b s.log)
  end_low = k.over q redo_end

  -- after a sync each rec_lsn is the life's redo point, or came after redo
  rec_own : (p : ℕ) (e : DirtyEntry) → (s.pages p).entry ≡ Some e → (e.rec_lsn ≡ s.point) ⊎ (q < e.rec_lsn)
  rec_own p e held =
      let old = (k.pages p).entry e held in
      let since : e.since ≡ Some e.rec_lsn = (old.untouched (synced p)).since in
      elim (old.own e.rec_lsn since).own [
        | inl same ↦ inl same
        | inr later ↦ inr (subst (λ (o : Option ℕ). IsAfterRedo o e.rec_lsn) redo_end later)
      ]

  pub checkpoint_next : NextPoint b s r
  checkpoint_next = elim (least_one r.lsn d) [
    | inl lsn ↦ later_point b s r q k redo_end (let low : q ≤ end_of b s.log = end_low.1 in omega (arith, point, lsn, low, last)) high entries still none_known
    | inr (x, within, same) ↦ of x (lists.each x within) same
  ]
    where
      of : (x : DirtyPage) → IsInDirtyTable s.pages x → least r.lsn d ≡ x.rec_lsn → NextPoint b s r
      of x dirty same = elim (rec_own x.page dirty.entry dirty.is) [
        | inr past ↦ later_point b s r q k redo_end (omega (arith, point, same, dirty.rec_lsn, past)) high entries still none_known
        | inl old ↦ same_point b s r k last (as_before x dirty.entry dirty.is dirty.rec_lsn same old)
      ]
        where
          -- the life's redo point again: it is the redo point in force
          as_before : (x : DirtyPage) (e : DirtyEntry) → (s.pages x.page).entry ≡ Some e → e.rec_lsn ≡ x.rec_lsn → least r.lsn d ≡ x.rec_lsn → e.rec_lsn ≡ s.point → redo_point (r ∷ s.log) ≡ redo_point s.log
          as_before x e held rec same old =
              let w = whole s.durable s.log k.front in
              let low : redo_point s.log ≤ e.rec_lsn = ((k.pages x.page).entry e held).low s.log w in
              elim (k.points s.log w).own [
                | inl force ↦ point ∙ same ∙ sym rec ∙ old ∙ sym force
                | inr later ↦ absurd (let past : q < redo_point s.log = subst (λ (o : Option ℕ). IsAfterRedo o (redo_point s.log)) redo_end later in let le : s.point ≤ q = end_low.0 in omega (arith, past, le, low, old))
              ]

  -- The Checkpoint's step: taken after a sync, with the entries that are left, it keeps the invariant; so each stop from then on is covered, by the old point or by the new
  pub checkpoint_kept : WriterKept b (appended r s)
  checkpoint_kept = appended_kept b s r k may (λ p. unchanged p)
    where
      unchanged : (p : ℕ) → page_at b (r ∷ s.log) p ≡ page_at b s.log p
      unchanged p = elim (cases_eq r.page p) [
        | inl here ↦ page_here b r s.log p here ∙ ap (λ (w : What). page_after r.lsn w (page_at b s.log p)) is
        | inr other ↦ page_other b r s.log p other
      ]

      may : MayAppend b s r
      may = record {
        redo_end = q;
        over = redo_end;
        last = last;
        exact = λ c holds. absurd (let clash : None ≡ Some c = sym (ap (λ (w : What). copy_in r.lsn w) is) ∙ holds in cc clash);
        point = checkpoint_next;
      }
