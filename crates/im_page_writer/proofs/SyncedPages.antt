-- What is known of pages that are not held, through the steps of a writer; and that each page of the file is one that was written under the log.
use Rattle.std.proofs.Common.{◌≡◌, inr, ℕ, ◌<◌, [], ◌∷◌, ◌++◌, Bool, false, refl, sym, ◌∙◌, subst, arith, None, Some}
use Rattle.std.specs.Ordering.{nat_cmp}
use Rattle.std.specs.BTreeMap.{BTreeMap, get}
use Rattle.im_base_types.specs.Records.{Logged}
use Rattle.im_theory_log.specs.Histories.{Base, History, IsRecordOf, end_of}
use Rattle.im_theory_log.specs.Copies.{GrowsByImages}
use Rattle.im_theory_log.specs.RedoPoints.{is_checkpoint}
use Rattle.im_theory_log.specs.Writer.{Writer, WriterKept}
use Rattle.im_page_table.specs.KnownCopies.{or_from, KnowsDurable}
use Rattle.im_page_table.proofs.DurableCopies.{durable_redoing}
use Rattle.im_page_table.proofs.KnownCopies as from_lsn
use Rattle.im_page_writer.specs.declared.known.Synced.{Synced}
use Rattle.im_page_writer.specs.declared.known.Known.{Known}
use Rattle.im_page_writer.specs.Synced.{AreSyncedWith, IsKnown}

-- ---- what the file was synced with stays so

has_more : (r : Logged) (more older : History) → IsRecordOf r older → IsRecordOf r (more ++ older)
has_more r [] older has = has
has_more r (x ∷ more) older has = inr (has_more r more older has)

synced_by : (s t : Writer) (synced : Synced) → ((r : Logged) → IsRecordOf r s.log → IsRecordOf r t.log) → t.point ≡ s.point → AreSyncedWith s.log s.point synced → AreSyncedWith t.log t.point synced
synced_by s t synced more point is p l has =
    let i = is p l has in
    record { record_is = i.record_is; there = more i.record_is i.there; page = i.page; changes = i.changes; lsn = i.lsn; low = omega (arith, point, i.low); says = i.says }

synced_same : (s t : Writer) (synced : Synced) → t.log ≡ s.log → t.point ≡ s.point → AreSyncedWith s.log s.point synced → AreSyncedWith t.log t.point synced
synced_same s t synced log point is = synced_by s t synced (λ r has. subst (λ (h : History). IsRecordOf r h) (sym log) has) point is

pub synced_more : (r : Logged) (s t : Writer) (synced : Synced) → t.log ≡ r ∷ s.log → t.point ≡ s.point → AreSyncedWith s.log s.point synced → AreSyncedWith t.log t.point synced
synced_more r s t synced log point is = synced_by s t synced (λ x has. subst (λ (h : History). IsRecordOf x h) (sym log) (inr has)) point is

-- ---- the whole

pub known_same : (s t : Writer) (known : Known) → t.redo_end ≡ s.redo_end → t.log ≡ s.log → t.point ≡ s.point → (KnowsDurable s → KnowsDurable t) → IsKnown s known → IsKnown t known
known_same s t known same log point copies is = record { from = from_lsn.known_same s t known.from same log is.from; synced = synced_same s t known.synced log point is.synced; copies = λ none. copies (is.copies none) }

-- whether an Image waits is known anew
pub known_as : (ahead : Bool) (s t : Writer) (known : Known) → t.redo_end ≡ s.redo_end → t.log ≡ s.log → t.point ≡ s.point → (ahead ≡ false → KnowsDurable t) → IsKnown s known → IsKnown t (record known { ahead = ahead })
known_as ahead s t known same log point copies is = record { from = from_lsn.known_same s t known.from same log is.from; synced = synced_same s t known.synced log point is.synced; copies = copies }

pub known_grown : (ahead : Bool) (b : Base) (s t : Writer) (known : Known) → t.redo_end ≡ s.redo_end → GrowsByImages b s.log t.log → t.point ≡ s.point → (ahead ≡ false → KnowsDurable t) → IsKnown s known → IsKnown t (record known { ahead = ahead })
known_grown ahead b s t known same grows point copies is = record {
  from = from_lsn.known_grown b s t known.from same grows is.from;
  synced = synced_by s t known.synced (λ r has. subst (λ (h : History). IsRecordOf r h) (sym grows.is) (has_more r grows.images s.log has)) point is.synced;
  copies = copies;
}

-- after a record that is no Checkpoint
pub known_more : (r : Logged) (s t : Writer) (known : Known) → t.redo_end ≡ s.redo_end → t.log ≡ r ∷ s.log → t.point ≡ s.point → is_checkpoint r.what ≡ false → (KnowsDurable s → KnowsDurable t) → IsKnown s known → IsKnown t known
known_more r s t known same log point plain copies is =
    record { from = from_lsn.known_more r s t known.from same log plain is.from; synced = synced_more r s t known.synced log point is.synced; copies = λ none. copies (is.copies none) }

-- and from its own LSN on, where none was known before
pub known_first : (b : Base) (r : Logged) (s t : Writer) (e : ℕ) (known : Known) → WriterKept b s → s.redo_end ≡ Some e → t.redo_end ≡ s.redo_end → t.log ≡ r ∷ s.log → t.point ≡ s.point → is_checkpoint r.what ≡ false → end_of b s.log < r.lsn → (KnowsDurable s → KnowsDurable t) → IsKnown s known
    → IsKnown t (record known { from = or_from known.from r.lsn })
known_first b r s t e known k over same log point plain last copies is = record {
  from = from_lsn.known_first b r s t e known.from k over same log plain last is.from;
  synced = synced_more r s t known.synced log point is.synced;
  copies = λ none. copies (is.copies none);
}

-- while redo goes on no copy is, and so after it
pub known_ended : (s t : Writer) (known : Known) → s.redo_end ≡ None → t.log ≡ s.log → t.point ≡ s.point → KnowsDurable t → IsKnown s known → IsKnown t known
known_ended s t known going log point copies is = record { from = from_lsn.known_ended s t known.from going is.from; synced = synced_same s t known.synced log point is.synced; copies = λ none. copies }

pub known_redone : (s t : Writer) (known : Known) → s.redo_end ≡ None → t.redo_end ≡ s.redo_end → t.log ≡ s.log → t.point ≡ s.point → IsKnown s known → IsKnown t known
known_redone s t known going same log point is = known_ended s t known going log point (durable_redoing t (same ∙ going)) is

-- nothing is known of the file's sync
pub synced_none : (log : History) (point : ℕ) (synced : Synced) → synced.lsns.entries ≡ [] → AreSyncedWith log point synced
synced_none log point synced none p l has = absurd (let clash : None ≡ Some l = sym (get_none synced.lsns p none) ∙ has in cc clash)
  where
    get_none : (m : BTreeMap ℕ ℕ) (q : ℕ) → m.entries ≡ [] → get nat_cmp m q ≡ None
    get_none m q empty = rw empty refl
