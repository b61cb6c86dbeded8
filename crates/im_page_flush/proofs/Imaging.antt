-- The Images of a flush: once the log is forced, each of its pages may be written.
use Rattle.std.proofs.Common.{◌≡◌, ◌≢◌, inl, inr, ℕ, ◌+◌, ◌-◌, ◌<◌, ◌≤◌, min, false, List, [], ◌∷◌, ◌++◌, length, length-append, refl, sym, ◌∙◌, ap, subst, arith}
use Rattle.std.specs.Prelude.{nat_lt, slice_index_or}
use Rattle.std.proofs.lemmas.Bool.{cases_eq, cases_lt, cond-true, cond-false, lt-ltb, le-ltb}
use Rattle.std.proofs.lemmas.List.{get_or_append_left, get_or-append_right}
use Rattle.im_base_types.specs.declared.file_id.FileId.TheVariants.{Log}
use Rattle.im_theory_log.specs.Histories.{Base, History, end_of}
use Rattle.im_theory_log.specs.Copies.{HasCopy}
use Rattle.im_theory_log.specs.RedoPoints.{redo_point}
use Rattle.im_theory_log.specs.Writer.{Writer, WriterKept}
use Rattle.im_theory_log.specs.WriterSteps.{MayWrite, forced}
use Rattle.im_theory_log.proofs.Cited.{copy_grows, noted_here, end_le, named_in, point_low, point_same, whole}
use Rattle.im_base_disk.specs.declared.disk.Disk.{Ghosts}
use Rattle.im_base_disk.specs.Disk.{Files}
use Rattle.im_base_disk.specs.Runs.{ChangesOnly, LeavesIn}
use Rattle.im_log.specs.declared.log_file.LogFile.{LogFile}
use Rattle.im_log.specs.LogFile.{IsLog, IsOpen}
use Rattle.im_log_gate.specs.Header.{generation_of}
use Rattle.im_log.specs.Kept.{SpellsEither}
use Rattle.im_page_pool.specs.Pool.{PoolView}
use Rattle.im_page_table.specs.DirtyTable.{TableView, IsCopied}
use Rattle.im_page_table.specs.Growth.{image_at, with_image, Keeps}
use Rattle.im_page_flush.specs.Writing.{lsn_for, with_lsn, MayCopy, IsWriting, Goes, PageImaged, CopyDone, ImagesTo, ImagesDurable}
use Rattle.im_page_file.proofs.Standing.{log_stops, stands_forced}
use Rattle.im_page_table.proofs.Growing.{begun_still, grown_front, grows_none, same_page}
use Rattle.im_page_flush.proofs.Goings.{goes_start, goes_then}

-- ---- what a write asks, of the log as it is

-- The log has more Images, and the same redo point: what could be written still can.
may_still : (b : Base) (s t : Writer) (q m : ℕ) → WriterKept b t → Keeps b s t → redo_point t.log ≡ redo_point s.log → MayWrite b (forced s) q m → MayWrite b (forced t) q m
may_still b s t q m kept keeps point may =
    let front = grown_front b s.log t.log keeps.log in
    let low : redo_point s.log ≤ m = may.low in
    let high : m ≤ end_of b s.log = may.high in
    let longer : end_of b s.log ≤ end_of b t.log = end_le b s.log t.log kept.rises front in
    record {
      ready = (keeps.pages q).waits ∙ may.ready;
      durable = refl;
      copy = subst (λ (k : ℕ). HasCopy t.log q k) (sym point) (copy_grows s.log t.log q (redo_point s.log) front may.copy);
      low = omega (arith, point, low);
      high = omega (arith, high, longer);
    }

-- a page with a full copy may be written, with any LSN from the redo point up to the end
may_new : (b : Base) (t : Writer) (p m : ℕ) → (t.pages p).waits ≡ false → HasCopy t.log p (redo_point t.log) → redo_point t.log ≤ m → m ≤ end_of b t.log → MayWrite b (forced t) p m
may_new b t p m ready copy low high = record { ready = ready; durable = refl; copy = copy; low = low; high = high }

module _ (b : Base) (s : Writer) (p l : ℕ) (kept : WriterKept b s) (begun : s.log ≢ []) (last : end_of b s.log < l) where
  pub point_still : redo_point (image_at l p (s.pages p).page ∷ s.log) ≡ redo_point s.log
  point_still = by s.log refl
    where
      by : (log : History) → s.log ≡ log → redo_point (image_at l p (s.pages p).page ∷ s.log) ≡ redo_point s.log
      by [] is = absurd (begun is)
      by (t ∷ older) is = subst (λ (log : History). redo_point (image_at l p (s.pages p).page ∷ log) ≡ redo_point log) (sym is) (point_same (image_at l p (s.pages p).page) t older refl)

  -- the redo point is below the Image
  point_before : redo_point s.log ≤ l
  point_before = let low : redo_point s.log ≤ end_of b s.log = point_low b s.log kept.rises in omega (arith, low, last)

-- ---- a page's full copy

module _ {D : Type 0} (d : Ghosts D) (b : Base) (base : ℕ) (s : Writer) (p : ℕ) (table : TableView) (pool : PoolView) (old : D) where
  -- an Image is one
  pub image_copies : (lsn : ℕ) (log : LogFile) (new : D) → WriterKept b s → MayCopy s pool p → PageImaged d b base s p lsn old log table pool new → CopyDone d b base s p lsn old log table pool new
  image_copies lsn log new kept asked done =
      let point = point_still b s p lsn kept asked.begun done.high in
      let before : redo_point s.log ≤ lsn = point_before b s p lsn kept asked.begun done.high in
      let low : redo_point (image_at lsn p (s.pages p).page ∷ s.log) ≤ lsn = omega (arith, point, before) in
      record {
        now = with_image lsn p done.durable s;
        goes = done.goes;
        point = point;
        copy = record { lsn = lsn; copy = (s.pages p).page; is = noted_here (redo_point (image_at lsn p (s.pages p).page ∷ s.log)) (image_at lsn p (s.pages p).page) s.log p (s.pages p).page low refl refl };
        low = low;
        high = omega arith;
      }

  -- one that is known is one
  pub known_copies : (lsn : ℕ) (log : LogFile) → ((c : Files) → d.left_since old (d.moment old) c → d.may_leave old c) → IsWriting d b base s log table pool old → IsCopied table p lsn → CopyDone d b base s p lsn old log table pool old
  known_copies lsn log only_now w is =
      let kept = w.stands.kept in
      let entry = (kept.pages p).entry is.entry (sym (w.entries p) ∙ is.is) in
      let at : is.entry.rec_lsn ≡ lsn = is.rec_lsn in
      let low : redo_point s.log ≤ is.entry.rec_lsn = entry.low s.log (whole s.durable s.log kept.front) in
      let high : is.entry.rec_lsn ≤ end_of b s.log = entry.high in
      record {
        now = s;
        goes = goes_start d b base s log table pool old only_now w;
        point = refl;
        copy = entry.copied is.copied;
        low = omega (arith, at, low);
        high = omega (arith, at, high);
      }

-- ---- the noted LSNs

noted_full : (lsn : ℕ) (lsns : List ℕ) → 1024 ≤ length lsns → with_lsn lsn lsns ≡ lsns
noted_full lsn lsns full = cond-false (nat_lt (length lsns) 1024) (lsns ++ (lsn ∷ [])) lsns (le-ltb (length lsns) 1024 full)

noted_more : (lsn : ℕ) (lsns : List ℕ) → length lsns < 1024 → with_lsn lsn lsns ≡ lsns ++ (lsn ∷ [])
noted_more lsn lsns room = cond-true (nat_lt (length lsns) 1024) (lsns ++ (lsn ∷ [])) lsns (lt-ltb (length lsns) 1024 room)

noted_count : (lsn : ℕ) (lsns : List ℕ) (n : ℕ) → length lsns ≡ min n 1024 → length (with_lsn lsn lsns) ≡ min (n + 1) 1024
noted_count lsn lsns n is = elim (cases_lt (length lsns) 1024) [
  | inl room ↦ let more : length (with_lsn lsn lsns) ≡ length lsns + 1 = ap length (noted_more lsn lsns room) ∙ length-append lsns (lsn ∷ []) in omega (arith, is, room, more)
  | inr full ↦ let same : length (with_lsn lsn lsns) ≡ length lsns = ap length (noted_full lsn lsns full) in omega (arith, is, full, same)
]

-- the LSNs of earlier pages stay
noted_before : (lsn : ℕ) (lsns : List ℕ) (k : ℕ) → min k 1023 < length lsns → lsn_for (with_lsn lsn lsns) k ≡ lsn_for lsns k
noted_before lsn lsns k within = elim (cases_lt (length lsns) 1024) [
  | inl room ↦ ap (λ (l : List ℕ). slice_index_or l (min k 1023) 0) (noted_more lsn lsns room) ∙ get_or_append_left lsns (lsn ∷ []) 0 (min k 1023) within
  | inr full ↦ ap (λ (l : List ℕ). slice_index_or l (min k 1023) 0) (noted_full lsn lsns full)
]

-- the new one is noted, where there is room
noted_new : (lsn : ℕ) (lsns : List ℕ) → length lsns < 1024 → lsn_for (with_lsn lsn lsns) (length lsns) ≡ lsn
noted_new lsn lsns room =
    let place : min (length lsns) 1023 ≡ length lsns = omega (arith, room) in
    ap (λ (l : List ℕ). slice_index_or l (min (length lsns) 1023) 0) (noted_more lsn lsns room)
    ∙ ap (λ (k : ℕ). slice_index_or (lsns ++ (lsn ∷ [])) k 0) place
    ∙ get_or-append_right lsns (lsn ∷ []) (length lsns) (length lsns) 0 refl (omega arith)
    ∙ ap (λ (k : ℕ). slice_index_or (lsn ∷ []) k 0) (let none : length lsns - length lsns ≡ 0 = omega arith in none)

-- ---- the range

pub image_still : (b : Base) (s t : Writer) (pool : PoolView) (p : ℕ) → Keeps b s t → MayCopy s pool p → MayCopy t pool p
image_still b s t pool p keeps may = record { ready = (keeps.pages p).waits ∙ may.ready; begun = begun_still b s t keeps may.begun; named = named_in p s.log t.log (grown_front b s.log t.log keeps.log) may.named; past = λ none. (keeps.pages p).page ∙ may.past none }

module _ {D : Type 0} (d : Ghosts D) (b : Base) (base : ℕ) (s : Writer) (first : ℕ) (old : D) where
  pub images_start : (log : LogFile) (table : TableView) (pool : PoolView) → ((c : Files) → d.left_since old (d.moment old) c → d.may_leave old c) → IsWriting d b base s log table pool old
      → ImagesTo d b base s first first [] old log table pool old
  images_start log table pool only_now w = record {
    now = s;
    goes = goes_start d b base s log table pool old only_now w;
    count = omega arith;
    may = λ q low high. absurd (omega (arith, low, high));
  }

  module _ (p : ℕ) (lsns : List ℕ) (log : LogFile) (table : TableView) (pool : PoolView) (mid : D) (order : first ≤ p) (so : ImagesTo d b base s first p lsns old log table pool mid)
      (lsn : ℕ) (new_log : LogFile) (new : D) (done : CopyDone d b base so.now p lsn mid new_log table pool new) (asked : MayCopy so.now pool p) where
    kept_now : WriterKept b done.now
    kept_now = done.goes.writing.stands.kept

    ready_now : (done.now.pages p).waits ≡ false
    ready_now = (done.goes.keeps.pages p).waits ∙ asked.ready

    earlier : (q : ℕ) → first ≤ q → q < p → MayWrite b (forced done.now) q (lsn_for (with_lsn lsn lsns) (q - first))
    earlier q low high =
        let count : length lsns ≡ min (p - first) 1024 = so.count in
        subst (λ (m : ℕ). MayWrite b (forced done.now) q m) (sym (noted_before lsn lsns (q - first) (omega (arith, count, low, high))))
        (may_still b so.now done.now q (lsn_for lsns (q - first)) kept_now done.goes.keeps done.point (so.may q low high))

    own : MayWrite b (forced done.now) p (lsn_for (with_lsn lsn lsns) (p - first))
    own = elim (cases_lt (length lsns) 1024) [
      | inl room ↦
          let place : p - first ≡ length lsns = (let count : length lsns ≡ min (p - first) 1024 = so.count in omega (arith, count, room)) in
          let is : lsn_for (with_lsn lsn lsns) (p - first) ≡ lsn = ap (λ (k : ℕ). lsn_for (with_lsn lsn lsns) k) place ∙ noted_new lsn lsns room in
          subst (λ (m : ℕ). MayWrite b (forced done.now) p m) (sym is) (may_new b done.now p lsn ready_now done.copy done.low done.high)
      | inr full ↦
          let count : length lsns ≡ min (p - first) 1024 = so.count in
          let far : first + 1023 < p = omega (arith, count, full, order) in
          let before = may_still b so.now done.now (first + 1023) (lsn_for lsns (first + 1023 - first)) kept_now done.goes.keeps done.point (so.may (first + 1023) (omega arith) far) in
          let places : min (p - first) 1023 ≡ min (first + 1023 - first) 1023 = omega (arith, far) in
          let is : lsn_for (with_lsn lsn lsns) (p - first) ≡ lsn_for lsns (first + 1023 - first) = ap (λ (l : List ℕ). lsn_for l (p - first)) (noted_full lsn lsns full) ∙ ap (λ (k : ℕ). slice_index_or lsns k 0) places in
          subst (λ (m : ℕ). MayWrite b (forced done.now) p m) (sym is) (may_new b done.now p (lsn_for lsns (first + 1023 - first)) ready_now done.copy before.low before.high)
    ]

    -- one page more
    pub images_more : ImagesTo d b base s first (p + 1) (with_lsn lsn lsns) old new_log table pool new
    images_more = record {
      now = done.now;
      goes = goes_then d b base s old so.now log table pool mid so.goes done.now new_log table pool new done.goes;
      count = (let count : length (with_lsn lsn lsns) ≡ min (p - first + 1) 1024 = noted_count lsn lsns (p - first) so.count in omega (arith, count, order));
      may = λ q low high. elim (cases_eq p q) [
        | inl here ↦ subst (λ (n : ℕ). MayWrite b (forced done.now) n (lsn_for (with_lsn lsn lsns) (n - first))) here own
        | inr other ↦ earlier q low (omega (arith, high, other))
      ];
    }

-- ---- the force

module _ {D : Type 0} (d : Ghosts D) (b : Base) (base : ℕ) (s : Writer) (log new_log : LogFile) (table : TableView) (pool : PoolView) (old new : D) (w : IsWriting d b base s log table pool old) where
  -- The log is forced.
  pub goes_forced : IsLog d base s.log s.log new_log new → IsOpen d new_log new → ChangesOnly d Log old new → LeavesIn d Log old new (SpellsEither base s.durable s.log (d.seen old Log)) → generation_of (d.seen new Log) ≡ generation_of (d.seen old Log) → Goes d b base s old (forced s) new_log table pool new
  goes_forced log_is opened changes stops same = record {
    writing = record { stands = stands_forced d b base s log table old w.stands new_log new log_is opened changes same; entries = w.entries; pooled = record { shows = w.pooled.shows; ready = w.pooled.ready }; based = w.based };
    stops = log_stops d b base s log table old w.stands new stops;
    keeps = record { log = grows_none b s.log; durable = w.stands.kept.front; point = refl; redo_end = refl; pages = λ p. same_page (s.pages p) };
  }

-- After it each page of the range may be written.
pub images_durable : {D : Type 0} (d : Ghosts D) (b : Base) (base : ℕ) (s : Writer) (first last : ℕ) (lsns : List ℕ) (old : D) (log new_log : LogFile) (table : TableView) (pool : PoolView) (mid new : D)
    → (so : ImagesTo d b base s first (last + 1) lsns old log table pool mid) → Goes d b base so.now mid (forced so.now) new_log table pool new → ImagesDurable d b base s first last lsns old new_log table pool new
images_durable d b base s first last lsns old log new_log table pool mid new so goes = record {
  now = forced so.now;
  goes = goes_then d b base s old so.now log table pool mid so.goes (forced so.now) new_log table pool new goes;
  may = λ q low high. so.may q low (omega (arith, high));
  all = refl;
}
