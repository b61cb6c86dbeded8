-- Each page that the file has, and of which nothing is left to be written, was written under the log.
use Rattle.std.proofs.Common.{◌≡◌, inl, ⊎_elim, ℕ, ◌+◌, ◌<◌, ◌≤◌, [], ◌∷◌, false, List, refl, sym, ◌∙◌, ap, subst, arith}
use Rattle.im_base_types.specs.declared.file_id.FileId.TheVariants.{Log}
use Rattle.im_base_types.specs.Pages.{Page}
use Rattle.im_base_types.specs.Records.{Logged}
use Rattle.im_theory_log.specs.Histories.{Base, History, IsRecordOf, Rises, below, end_of, page_at}
use Rattle.im_theory_log.specs.Copies.{Reaches}
use Rattle.im_theory_log.specs.Writer.{IsWritten, Writer, WriterKept}
use Rattle.im_theory_log.proofs.Histories.{front_self, page_lsn_le, rises_below, rises_in}
use Rattle.im_base_disk.specs.declared.disk.Disk.{Ghosts}
use Rattle.im_log_gate.specs.Gate.{place_of}
use Rattle.im_log_gate.specs.Header.{first_gate}
use Rattle.im_log.specs.declared.log_file.LogFile.{LogFile}
use Rattle.im_log.specs.LogFile.{IsOpen, IsLog}
use Rattle.im_log.proofs.Places.{InFile, found_in}
use Rattle.im_log.proofs.Runs.{placed}
use Rattle.im_log_gate.proofs.Starts.{gate_behind}
use Rattle.im_log.proofs.Spells.{log_records}
use Rattle.im_page_writer.specs.declared.known.Synced.{Synced}
use Rattle.im_page_writer.specs.declared.known.Known.{Known}
use Rattle.im_page_writer.specs.Synced.{AreSyncedWith, IsChangedBelow, IsKnown, IsUnderLog, MayBe, end_of_log}
use Rattle.im_page_writer.proofs.ChangedPages.{below_low, changed_here, changed_reaches, record_below}

-- ---- the log's end

module _ {D : Type 0} (d : Ghosts D) (base : ℕ) (all durable : List Logged) (log : LogFile) (disk : D) (is_open : IsOpen d log disk) (h : IsLog d base all durable log disk) where
  -- a record that the disk has stands in front of the gate
  durable_low : (r : Logged) → IsRecordOf r durable → r.lsn < log.base + place_of log.gate
  durable_low r has =
      let at = placed d log.gate disk log.of_log (is_open.starts h.tells) is_open.ready (is_open.working h.working) h.tells in
      ⊎_elim (λ (never : ⊥). absurd never) (λ (i : InFile base (d.seen disk Log) (place_of log.gate) r). omega (arith, i.lsn_is, i.before, h.based))
      (found_in base (first_gate (d.seen disk Log)) (d.seen disk Log) at.before (place_of log.gate) [] durable r at.is (omega (arith, at.place)) (log_records base (d.seen disk Log) at.before durable at.is h.on_disk) has)

  -- so the durable log ends there
  durable_ends : (b : Base) → b.start ≤ base → end_of b durable < log.base + place_of log.gate
  durable_ends b based = by durable refl
    where
      by : (some : History) → durable ≡ some → end_of b some < log.base + place_of log.gate
      by [] is =
          let at = placed d log.gate disk log.of_log (is_open.starts h.tells) is_open.ready (is_open.working h.working) h.tells in
          (let behind = gate_behind (d.seen disk Log) in omega (arith, based, h.based, at.place, behind))
      by (r ∷ older) is = durable_low r (subst (λ (l : History). IsRecordOf r l) (sym is) (inl refl))

  pub under_end : (b : Base) (l : ℕ) → b.start ≤ base → l ≤ end_of b durable → l < end_of_log log
  under_end b l based low =
      let ends = durable_ends b based in
      let most = is_open.placed h.working in
      omega (arith, low, ends, most)

-- ---- a page that has had all below the redo point has what the file was synced with

pub reaches_synced : (b : Base) (log : History) (point p : ℕ) (g : Page) (synced : Synced) → Rises b log → AreSyncedWith log point synced → Reaches b log point p g → MayBe synced p g
reaches_synced b log point p g synced up is reaches =
    let n = reaches.upto in
    let some = below n log in
    let rises = rises_below b n log up in
    let there : (l : ℕ) (i : IsChangedBelow log point synced.count p l) → IsRecordOf i.record_is some =
    λ l i. record_below b n log i.record_is up i.there (omega (arith, i.lsn, i.low, reaches.from)) in
    record {
      reaches = λ l has.
          let i = is p l has in
          let low = changed_reaches b p i.record_is i.page i.changes some rises (there l i) in
          omega (arith, low, i.lsn, ap (λ (x : Page). x.lsn) reaches.is);
      count = λ l k has zero same counted.
          let i = is p l has in
          let says = i.says zero k counted in
          let lsn : (page_at b some p).lsn ≡ i.record_is.lsn = sym (ap (λ (x : Page). x.lsn) reaches.is) ∙ same ∙ sym i.lsn in
          let body = changed_here b p i.record_is i.page i.changes says.body says.after some rises (there l i) lsn in
          ap (λ (x : Page). x.body.leftmost) reaches.is ∙ ap (λ x. x.leftmost) body ∙ says.count;
    }

module _ {D : Type 0} (d : Ghosts D) (b : Base) (base : ℕ) (s : Writer) (log : LogFile) (disk : D) (based : b.start ≤ base) (kept : WriterKept b s) (is_open : IsOpen d log disk) (log_is : IsLog d base s.log s.durable log disk) where
  -- a page with its full copy, of which nothing is left to be written
  pub own_page : (known : Known) (p : ℕ) → IsKnown s known → (s.pages p).waits ≡ false → IsWritten (s.pages p).entry → IsUnderLog log known p (s.pages p).page
  own_page known p knows ready done =
      let k = kept.pages p in
      let durable = k.written ready done s.durable (record { from = front_self s.durable; upto = kept.front }) in
      let rises = rises_in b s.durable s.log kept.front kept.rises in
      let low = page_lsn_le b (below durable.upto s.durable) p (rises_below b durable.upto s.durable rises) in
      let least = below_low b durable.upto s.durable rises in
      let now = k.now ready in
      record {
        under = under_end d base s.log s.durable log disk is_open log_is b (s.pages p).page.lsn based (omega (arith, ap (λ (x : Page). x.lsn) durable.is, low, least));
        may = reaches_synced b s.log s.point p (s.pages p).page known.synced kept.rises knows.synced (record { upto = now.upto; from = omega (arith, now.from, k.low ready); is = now.is });
      }
