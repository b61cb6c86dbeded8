-- Every page of the dirty table is written, an entry at a time.
use Rattle.std.proofs.Common.{◌≡◌, inl, inr, ℕ, ◌+◌, true, List, length, slice_index_or, Option, None, Some, refl, sym, ◌∙◌, ap, subst, arith}
use Rattle.std.specs.Prelude.{is_some, Contains}
use Rattle.std.proofs.lemmas.Bool.{cases_lt}
use Rattle.im_theory_log.specs.Histories.{Base}
use Rattle.im_theory_log.specs.Writer.{DirtyEntry, Writer, IsWritten}
use Rattle.im_theory_log.specs.WriterSteps.{synced_entry}
use Rattle.im_base_disk.specs.declared.disk.Disk.{Ghosts}
use Rattle.im_base_disk.specs.Disk.{Files}
use Rattle.im_page_table.specs.DirtyTable.{TableView, HasEntries, entry_in}
use Rattle.im_page_writer.specs.declared.page_writer.PageWriter.{PageWriter}
use Rattle.im_page_writer.specs.PageWriter.{FlushedOne, StandsAs}
use Rattle.im_page_writer.specs.FlushedRows.{FlushedNumbers, FlushedAll}
use Rattle.im_page_writer.proofs.Writers.{goes_on_start, goes_on_then}

module _ {D : Type 0} (d : Ghosts D) (b : Base) (base : ℕ) (s : Writer) (numbers : List ℕ) (old : D) where
  -- before the first
  pub numbers_start : (w : PageWriter) → ((c : Files) → d.left_since old (d.moment old) c → d.may_leave old c) → StandsAs d b base s w old → FlushedNumbers d b base s numbers 0 old w old
  numbers_start w only_now is = record { now = s; on = goes_on_start d b base s w old only_now is; written = λ k else less. absurd (omega (arith, less)) }

  -- one more
  pub numbers_next : (i : ℕ) (w : PageWriter) (mid : D) → (so : FlushedNumbers d b base s numbers i old w mid) → (p : ℕ) → ((else : ℕ) → p ≡ slice_index_or numbers i else) → (x : PageWriter) (new : D)
      → FlushedOne d b base so.now p mid x new → FlushedNumbers d b base s numbers (i + 1) old x new
  numbers_next i w mid so p is x new one = record {
    now = one.now;
    on = goes_on_then d b base s old so.now w mid so.on one.now x new one.on;
    written = λ k else less. elim (cases_lt k i) [
      | inl before ↦ (one.on.goes.keeps.pages (slice_index_or numbers k else)).written (so.written k else before)
      | inr last ↦
          let here : i ≡ k = omega (arith, less, last) in
          subst (λ (n : ℕ). IsWritten (one.now.pages (slice_index_or numbers n else)).entry) here (subst (λ (n : ℕ). IsWritten (one.now.pages n).entry) (is else) one.written)
    ];
  }

  -- so every page is written
  pub all_written : (table : TableView) (w : PageWriter) (disk : D) → HasEntries table s.pages → ((p : ℕ) → is_some (entry_in table p) ≡ true → Contains numbers p) → FlushedNumbers d b base s numbers (length numbers) old w disk
      → FlushedAll d b base s old w disk
  all_written table w disk has all so = record { now = so.now; on = so.on; written = λ p. by p (s.pages p).entry refl }
    where
      by : (p : ℕ) (o : Option DirtyEntry) → (s.pages p).entry ≡ o → IsWritten (so.now.pages p).entry
      by p None none = (so.on.goes.keeps.pages p).written (subst (λ (o : Option DirtyEntry). IsWritten o) (sym none) tt)
      by p (Some e) some =
          let there = all p (ap (λ (o : Option DirtyEntry). is_some o) (has p ∙ some)) in
          subst (λ (n : ℕ). IsWritten (so.now.pages n).entry) there.2 (so.written there.0 p there.1)

-- a sync leaves no entry of a page of which nothing is left to be written
pub synced_clean : (o : Option DirtyEntry) → IsWritten o → synced_entry o ≡ None
synced_clean None is = refl
synced_clean (Some e) is = rw is refl
