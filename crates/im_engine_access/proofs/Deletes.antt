-- A delete: the key's record, and after it the leaf that it left empty.
use Rattle.std.proofs.Common.{◌≡◌, ◌≢◌, inl, inr, ◌≤◌, ℕ, Bool, true, false, [], ◌∷◌, ◌++◌, length, Some, refl, sym, ◌∙◌, ap, subst, append_assoc}
use Rattle.std.specs.Prelude.{◌⊎◌}
use Rattle.std.specs.FinMap.{entries, get}
use Rattle.im_base_types.specs.declared.fault.Fault.{Fault}
use Rattle.im_base_types.specs.declared.fault.Fault.TheVariants.{Failed, Memory, NotAStore}
use Rattle.im_base_types.specs.Keys.{Key}
use Rattle.im_base_types.specs.Records.{DeleteKey, Logged}
use Rattle.im_theory_log.specs.Histories.{Base, History}
use Rattle.im_theory_log.specs.Lawful as lawful
use Rattle.im_theory_log.specs.LogLaws as logs
use Rattle.im_theory_log.specs.Structure.{open_smo, settled}
use Rattle.im_theory_log.specs.Transactions.{contents}
use Rattle.im_theory_log.specs.Writer.{Writer}
use Rattle.im_theory_log.proofs.Histories.{front_self}
use Rattle.im_base_disk.specs.declared.disk.Disk.{Ghosts}
use Rattle.im_base_disk.proofs.Runs.{then_on, weakened}
use Rattle.im_log.proofs.Above.{front_then}
use Rattle.im_page_writer.specs.declared.page_writer.PageWriter.{PageWriter}
use Rattle.im_page_writer.specs.Outcome.{Logs}
use Rattle.im_page_file.proofs.Standing.{wider_covered}
use Rattle.im_theory_tree.specs.Good.{IsGoodTree}
use Rattle.im_theory_tree.specs.Levels.{Pages}
use Rattle.im_tree_search.specs.Levels.{bodies}
use Rattle.im_smo_log.specs.Changes.{HasRecordOf, LeftByChange, LeavesChange}
use Rattle.im_smo_split.proofs.OneLeaf.{one_leaf}
use Rattle.im_smo_actions.specs.DropPlan.{IsSpare}
use Rattle.im_smo_actions.specs.Structure.{IsUnfinished, Restructured}
use Rattle.im_smo_actions.proofs.Growth.{images_as_change}
use Rattle.im_theory_steps.specs.Growth.{AreWithin, GrowsWithin}
use Rattle.im_theory_steps.specs.Steps.{key_record}
use Rattle.im_engine_access.specs.KeyLogs.{LeftByEdit, LeavesEdit, KeyLogged}
use Rattle.im_engine_access.specs.Edits.{Deleted, HasOne, HasMore}
use Rattle.im_engine_access.proofs.KeyLogs.{bodies_are, grows_within, still_closed}

-- ---- growth within a transaction, twice

pub within_append : (t : ℕ) (one two : History) → AreWithin t one → AreWithin t two → AreWithin t (one ++ two)
within_append t [] two first second = second
within_append t (r ∷ one) two first second = (first.0, within_append t one two first.1 second)

pub within_then : (t : ℕ) (one two three : History) → GrowsWithin t one two → GrowsWithin t two three → GrowsWithin t one three
within_then t one two three first next = record {
  more = next.more ++ first.more;
  is = append_assoc next.more first.more one ∙ ap (λ (l : History). next.more ++ l) first.is ∙ next.is;
  within = within_append t next.more first.more next.within first.within;
}

module _ {D : Type 0} (d : Ghosts D) (b : Base) (base : ℕ) (s : Writer) (e t last page : ℕ) (key : Key) (rid : ℕ) (owner : 1 ≤ t) where
  abbrev record_of : ℕ → Logged
  record_of lsn = key_record t last lsn page (DeleteKey key rid)

  -- the log has grown within the transaction by the key's record
  grown_by : (lsn : ℕ) (w : PageWriter) (mid : D) (k : KeyLogged d b base s e t last page (DeleteKey key rid) lsn w mid) → GrowsWithin t s.log k.now.log
  grown_by lsn w mid k =
      let images = grows_within t s.log k.before (images_as_change b t s.log k.before k.images) in
      record {
        more = record_of lsn ∷ images.more;
        is = ap (λ (l : History). record_of lsn ∷ l) images.is ∙ sym k.is;
        within = (inr (refl, refl), images.within);
      }

  -- a stop after the record
  pub stops_behind : (lsn : ℕ) (old : D) (w : PageWriter) (mid new : D) (k : KeyLogged d b base s e t last page (DeleteKey key rid) lsn w mid) → LeavesEdit d b base s t old mid → LeavesChange d b base k.now t mid new → LeavesEdit d b base s t old new
  stops_behind lsn old w mid new k first stops =
      then_on d old mid new (LeftByEdit d b base s t) (LeftByEdit d b base s t) first
      (weakened d mid new (LeftByChange d b base k.now t) (LeftByEdit d b base s t) stops
      (λ told c is. record {
        high = is.high;
        lawful = is.lawful;
        grows = within_then t s.log k.now.log is.high (grown_by lsn w mid k) (grows_within t k.now.log is.high is.grows);
        covered = wider_covered d b base s.durable k.now.durable is.high is.high c k.durable (front_self is.high) is.covered;
      }))
      (λ told c is. is)

  -- where no structure change is open
  module _ (there : get (contents b s.log) key ≡ Some rid) (lsn : ℕ) (v : PageWriter) (mid : D) (k : KeyLogged d b base s e t last page (DeleteKey key rid) lsn v mid) (closed : open_smo s.log ≡ []) where
    pub logged_alone : IsUnfinished d b base k.now e t lsn lsn v mid
    logged_alone = still_closed d b base s e t last page (DeleteKey key rid) lsn v mid closed k

    -- the leaf stays: it has entries left, or is the root
    pub deleted_here : HasMore (settled b s.log) key → Deleted d b base s e t last key (record { last = lsn; undo_next = lsn }) v mid
    deleted_here more = record {
      rid = rid;
      there = there;
      now = k.now;
      stands = logged_alone;
      point = k.point;
      durable = k.durable;
      before = k.before;
      images = k.images;
      page = page;
      change = record { more = []; is = k.is; all = tt };
      only = λ has. absurd has;
      ended = inl more;
    }

    module _ (l : ℕ) (w : PageWriter) (new : D) (made : Restructured d b base k.now e t l lsn w new) where
      same_pages : bodies k.now ≡ logs.bodies b (record_of lsn ∷ k.before)
      same_pages = bodies_are d b base k.now e t lsn lsn v mid logged_alone owner ∙ ap (logs.bodies b) k.is

      -- its page left the tree
      pub deleted_spare : IsSpare (bodies k.now) key → HasRecordOf t made.grows.more → Deleted d b base s e t last key (record { last = l; undo_next = lsn }) w new
      deleted_spare spare some = record {
        rid = rid;
        there = there;
        now = made.now;
        stands = made.stands;
        point = made.point ∙ k.point;
        durable = front_then s.durable k.now.durable made.now.durable k.durable made.durable;
        before = k.before;
        images = k.images;
        page = page;
        change = record { more = made.grows.more; is = made.grows.is ∙ ap (λ (h : History). made.grows.more ++ h) k.is; all = made.grows.all };
        only = λ has. subst (λ (f : Pages). IsSpare f key) same_pages spare;
        ended = inr some;
      }

-- a leaf that keeps another key is not left empty
pub more_is_not_one : (pages : Pages) (key : Key) → IsGoodTree pages [] → HasMore pages key → HasOne pages key → ⊥
more_is_not_one pages key good has one = by (subst (λ (p : ℕ). (p ≡ 1) ⊎ (length (pages p).entries ≢ 1)) (one_leaf pages [] key has.page one.page good has.way one.way) has.more)
  where
    by : (one.page ≡ 1) ⊎ (length (pages one.page).entries ≢ 1) → ⊥
    by (inl root) = one.under root
    by (inr other) = other one.one

-- a working writer does not refuse a call that logs early as failed
pub log_works : {D : Type 0} (d : Ghosts D) {m : Fault → Bool} {v : PageWriter} {old : D} {w : PageWriter} {new : D} {f : Fault} → v.failed ≡ false → Logs d false m v old w new (Some f) → f ≢ Failed
log_works {D} d {m} {v} {old} {w} {new} {f} works one is =
    let ends : (v.failed ≡ true) × (w.failed ≡ true) = (subst (λ (x : Fault). Logs d false m v old w new (Some x)) is one).ends in
    (let clash : false ≡ true = sym works ∙ ends.0 in cc clash)

-- what is told of a refusal after the grant
pub late_cause : (f answer : Fault) → (f ≡ Memory → answer ≡ Failed) → (f ≢ Memory → answer ≡ f) → f ≢ NotAStore → answer ≢ NotAStore
late_cause f answer memory others cause is =
    let other : f ≢ Memory = λ same. (let clash : Failed ≡ NotAStore = sym (memory same) ∙ is in cc clash) in
    cause (sym (others other) ∙ is)
