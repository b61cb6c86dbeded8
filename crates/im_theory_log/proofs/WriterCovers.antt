-- Whatever a stop leaves, redo can start from it; and a page written since the last sync has a durable full copy.
use Rattle.std.proofs.Common.{◌≡◌, inl, inr, ℕ, ◌<◌, ◌≤◌, true, false, refl, sym, ◌∙◌, ap, subst, arith, Option, None, Some}
use Rattle.std.proofs.lemmas.Bool.{cases_Bool}
use Rattle.im_theory_log.specs.Copies.{noted}
use Rattle.im_theory_log.specs.Histories.{Base, History, end_of}
use Rattle.im_base_types.specs.Pages.{Page}
use Rattle.im_theory_log.specs.RedoPoints.{Covers, IsRead, redo_point}
use Rattle.im_theory_log.specs.Writer.{DirtyEntry, EntryKept, HasFullCopy, IsAfterRedo, IsLeft, LeavesPages, WaitKept, Writer, WriterKept}
use Rattle.im_theory_log.proofs.Copies.{no_copy}
use Rattle.im_theory_log.proofs.Histories.{end_le}
use Rattle.im_theory_log.proofs.Redo.{reaches_less}

module _ (b : Base) (s : Writer) (kept : WriterKept b s) where
  -- a clean page's bound is no earlier than the redo point
  upto_low : (h : History) (p : ℕ) → IsLeft s.durable s.log h → (s.pages p).waits ≡ false → redo_point h ≤ (s.pages p).upto
  upto_low h p w ready = elim (kept.points h w).own [
    | inl is ↦ let low : s.point ≤ (s.pages p).upto = (kept.pages p).low ready in omega (arith, is, low)
    | inr later ↦ by s.redo_end refl
  ]
    where
      by : (o : Option ℕ) → s.redo_end ≡ o → redo_point h ≤ (s.pages p).upto
      by (Some k) is =
          let past : end_of b s.log < (s.pages p).upto = ((kept.pages p).run k is).1 in
          let high : redo_point h ≤ end_of b h = (kept.points h w).high in
          let front : end_of b h ≤ end_of b s.log = end_le b h s.log kept.rises w.upto in
          omega (arith, past, high, front)
      by None is = elim (kept.points h w).own [
        | inl same ↦ let low : s.point ≤ (s.pages p).upto = (kept.pages p).low ready in omega (arith, same, low)
        | inr later ↦ absurd (subst (λ (o : Option ℕ). IsAfterRedo o (redo_point h)) is later)
      ]

  -- a page with no copy noted is in the file, whatever a stop leaves
  read_entry : (file : ℕ → Option Page) (h : History) (p : ℕ) (e : DirtyEntry) → LeavesPages s file → IsLeft s.durable s.log h → noted (redo_point h) h p ≡ None
      → EntryKept b s.log s.durable s.point s.redo_end p (s.pages p) e → IsRead b (redo_point h) h p (file p)
  read_entry file h p e left w none is =
      let low : redo_point h ≤ e.rec_lsn = is.low h w in
      elim (cases_Bool (s.pages p).unsynced) [
        | inl unsynced ↦ absurd (no_copy s.durable h p (redo_point h) (redo_point h) w.from (omega arith) (is.copy unsynced h w) none)
        | inr untouched ↦ elim (is.untouched untouched).has [
          | inl copy ↦ absurd (no_copy s.durable h p e.rec_lsn (redo_point h) w.from low copy none)
          | inr found ↦ record { page = found.page; here = left p untouched ∙ found.is; reaches = reaches_less b h e.rec_lsn (redo_point h) p found.page low (found.all h w) }
        ]
      ]

  read_one : (file : ℕ → Option Page) (h : History) (p : ℕ) → LeavesPages s file → IsLeft s.durable s.log h → noted (redo_point h) h p ≡ None
      → IsRead b (redo_point h) h p (file p)
  read_one file h p left w none = elim (cases_Bool (s.pages p).waits) [
    | inl waits ↦ absurd (
        let k : WaitKept (s.pages p) = (kept.pages p).waiting waits in
        elim (kept.points h w).own [
          | inl same ↦
              let clash : None ≡ Some (k.lsn, k.copy) = sym none ∙ ap (λ (m : ℕ). noted m h p) same ∙ (kept.pages p).found waits h w ∙ k.found in
              cc clash
          | inr later ↦ by k s.redo_end refl later waits
        ])
    | inr ready ↦ held (s.pages p).entry refl ready
  ]
    where
      by : WaitKept (s.pages p) → (o : Option ℕ) → s.redo_end ≡ o → IsAfterRedo s.redo_end (redo_point h) → (s.pages p).waits ≡ true → ⊥
      by k None is later waits = subst (λ (o : Option ℕ). IsAfterRedo o (redo_point h)) is later
      by k (Some q) is later waits = let clash : true ≡ false = sym waits ∙ ((kept.pages p).run q is).0 in cc clash

      held : (o : Option DirtyEntry) → (s.pages p).entry ≡ o → (s.pages p).waits ≡ false → IsRead b (redo_point h) h p (file p)
      held (Some e) is ready = read_entry file h p e left w none ((kept.pages p).entry e is)
      held None is ready =
          let (untouched, here) = (kept.pages p).clean ready is in
          let reached = (kept.pages p).written ready (rw is tt) h w in
          record { page = (s.pages p).page; here = left p untouched ∙ here; reaches = reaches_less b h (s.pages p).upto (redo_point h) p (s.pages p).page (upto_low h p w ready) reached }

  -- At every moment each front that a stop may leave, with each Pages file that it may leave, is covered.
  pub covers : (file : ℕ → Option Page) → LeavesPages s file → (h : History) → IsLeft s.durable s.log h → Covers b h file
  covers file left h w = record { copied = kept.copied h w; read = λ p none. read_one file h p left w none }

  -- A page written since the last sync has an entry, and the durable log a full copy of it at or after the redo point of each log that a stop can leave.
  pub full_copy : (p : ℕ) → (s.pages p).unsynced ≡ true → HasFullCopy s p
  full_copy p unsynced = elim (cases_Bool (s.pages p).waits) [
    | inl waits ↦ absurd (let clash : true ≡ false = sym unsynced ∙ ((kept.pages p).waiting waits).synced in cc clash)
    | inr ready ↦ by (s.pages p).entry refl ready
  ]
    where
      by : (o : Option DirtyEntry) → (s.pages p).entry ≡ o → (s.pages p).waits ≡ false → HasFullCopy s p
      by (Some e) is ready = record { entry = e; is = is; copy = ((kept.pages p).entry e is).copy unsynced }
      by None is ready = absurd (let clash : true ≡ false = sym unsynced ∙ ((kept.pages p).clean ready is).0 in cc clash)
