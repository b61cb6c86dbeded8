-- The file of pages through each device call.
use Rattle.std.proofs.Common.{◌≡◌, inl, inr, ℕ, ◌+◌, ◌*◌, ◌≤◌, false, true, List, length, take, drop, Some, sym, ◌∙◌, ap, subst}
use Rattle.std.proofs.lemmas.Bool.{cases_eq, cases_order}
use Rattle.im_base_types.specs.declared.file_id.FileId.TheVariants.{Pages}
use Rattle.im_theory_log.specs.Writer.{PageState}
use Rattle.im_theory_log.specs.WriterSteps.{only, synced_page, written_page}
use Rattle.im_base_disk.specs.declared.disk.Disk.{Ghosts}
use Rattle.im_base_disk.specs.Disk.{Files, Only, Holds, Torn, InFile, Stepped, Follows}
use Rattle.im_base_disk.specs.Runs.{Spares}
use Rattle.im_theory_page.specs.Page.{page_of}
use Rattle.im_theory_page.specs.PageFile.{file_page}
use Rattle.im_theory_page.proofs.PageFileLemmas.{same_before, same_behind, written_here, written_before, written_behind}
use Rattle.im_page_table.proofs.OnePage.{only_here, only_other}
use Rattle.im_page_file.specs.PageFile.{KeepsSynced, IsPageFile}

-- ---- the bytes

-- where the bytes before and after a page stay, each other page does
same_others : (old new : List ℕ) (p q : ℕ) → take (p * 4096) new ≡ take (p * 4096) old → drop (p * 4096 + 4096) new ≡ drop (p * 4096 + 4096) old → (p ≡ q → ⊥) → file_page new q ≡ file_page old q
same_others old new p q before behind other = elim (cases_order p q) [
  | inl here ↦ absurd (other here)
  | inr (inl less) ↦ same_behind old new p q behind less
  | inr (inr more) ↦ same_before old new p q before more
]

-- A stop within the write of a page leaves each other page as it would have been left before.
pub torn_others : (old new : List ℕ) (p q : ℕ) → Torn (p * 4096) 4096 old new → (p ≡ q → ⊥) → file_page new q ≡ file_page old q
torn_others old new p q torn other = same_others old new p q torn.before torn.after other

-- After the write of a page it is what was written, and each other page is as before.
pub written_others : (old bytes new : List ℕ) (p q : ℕ) → p * 4096 ≤ length old → length bytes ≡ 4096 → Holds (p * 4096) bytes old new → (p ≡ q → ⊥) → file_page new q ≡ file_page old q
written_others old bytes new p q place whole is other =
    same_others old new p q (written_before old bytes new p place whole is) (written_behind old bytes new p place whole is) other

-- what a stop within a write of a page leaves is what it may leave after the write
pub torn_keeps : (pages : ℕ → PageState) (p l : ℕ) (old new : List ℕ) → KeepsSynced pages old → Torn (p * 4096) 4096 old new → KeepsSynced (only p (written_page l) pages) new
torn_keeps pages p l old new keeps torn q still = elim (cases_eq p q) [
  | inl here ↦
      let clash : true ≡ false = ap (λ (x : PageState). x.unsynced) (sym (only_here (written_page l) pages p q here)) ∙ still in
      absurd (cc clash)
  | inr other ↦
      let is = only_other (written_page l) pages p q other in
      torn_others old new p q torn other ∙ keeps q (ap (λ (x : PageState). x.unsynced) (sym is) ∙ still) ∙ ap (λ (x : PageState). x.synced) (sym is)
]

-- what a read gives after the write of a page
written_reads : (pages : ℕ → PageState) (p l : ℕ) (old bytes new : List ℕ) → ((q : ℕ) → file_page old q ≡ (pages q).reads) → p * 4096 ≤ length old → length bytes ≡ 4096 → page_of bytes ≡ Some (pages p).page
    → Holds (p * 4096) bytes old new → (q : ℕ) → file_page new q ≡ (only p (written_page l) pages q).reads
written_reads pages p l old bytes new reads place whole page is q = elim (cases_eq p q) [
  | inl here ↦
      ap (λ (n : ℕ). file_page new n) (sym here) ∙ written_here old bytes new p place whole is ∙ page ∙ ap (λ (n : ℕ). Some (pages n).page) here
      ∙ ap (λ (x : PageState). x.reads) (sym (only_here (written_page l) pages p q here))
  | inr other ↦ written_others old bytes new p q place whole is other ∙ reads q ∙ ap (λ (x : PageState). x.reads) (sym (only_other (written_page l) pages p q other))
]

module _ {D : Type 0} (d : Ghosts D) where
  -- calls that leave the file of pages alone
  pub page_file_spared : (pages : ℕ → PageState) (old new : D) → Spares d Pages old new → IsPageFile d pages old → IsPageFile d pages new
  page_file_spared pages old new spares is = record {
    reads = λ p. ap (λ (bytes : List ℕ). file_page bytes p) spares.seen ∙ is.reads p;
    leaves = λ c left. let e = spares.outcomes c left in subst (λ (bytes : List ℕ). KeepsSynced pages bytes) (sym e.2) (is.leaves e.0 e.1);
  }

  -- what a stop within the write of a page leaves
  pub page_file_torn : (pages : ℕ → PageState) (p l n : ℕ) (old : D) → n ≡ 4096 → IsPageFile d pages old → (c : Files) → Stepped (InFile Pages (Torn (p * 4096) n)) (d.may_leave old) c
      → KeepsSynced (only p (written_page l) pages) (c Pages)
  page_file_torn pages p l n old whole is c left =
      torn_keeps pages p l (left.0 Pages) (c Pages) (is.leaves left.0 left.1) (subst (λ (k : ℕ). Torn (p * 4096) k (left.0 Pages) (c Pages)) whole left.2.changed)

  -- a page is written
  pub page_file_written : (pages : ℕ → PageState) (p l : ℕ) (bytes : List ℕ) (old new : D) → p * 4096 ≤ length (d.seen old Pages) → length bytes ≡ 4096 → page_of bytes ≡ Some (pages p).page → IsPageFile d pages old
      → Holds (p * 4096) bytes (d.seen old Pages) (d.seen new Pages) → Follows (InFile Pages (Torn (p * 4096) (length bytes))) (d.may_leave old) (d.may_leave new)
      → IsPageFile d (only p (written_page l) pages) new
  page_file_written pages p l bytes old new place whole page is holds crash = record {
    reads = written_reads pages p l (d.seen old Pages) bytes (d.seen new Pages) is.reads place whole page holds;
    leaves = λ c left. page_file_torn pages p l (length bytes) old whole is c (crash c left);
  }

  -- the file is synced: a stop leaves what a read gives
  pub page_file_synced : (pages : ℕ → PageState) (old new : D) → d.seen new ≡ d.seen old → Only Pages (d.seen new) (d.may_leave new) → IsPageFile d pages old → IsPageFile d (λ q. synced_page (pages q)) new
  page_file_synced pages old new seen durable is =
      let reads : (p : ℕ) → file_page (d.seen new Pages) p ≡ (pages p).reads = λ p. ap (λ (files : Files). file_page (files Pages) p) seen ∙ is.reads p in
      record {
        reads = reads;
        leaves = λ c left p still. ap (λ (bytes : List ℕ). file_page bytes p) (durable c left) ∙ reads p;
      }
