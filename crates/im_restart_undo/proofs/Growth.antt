-- Logs that grow by Images, by structure changes and by compensations, what a stop leaves meanwhile, and calls in a row.
use Rattle.std.proofs.Common.{◌≡◌, ◌≢◌, ◌≤◌, ℕ, [], ◌∷◌, ◌++◌, Bool, true, false, inl, inr, refl, sym, ◌∙◌, ap, subst, append_assoc, arith, ◌==◌}
use Rattle.std.specs.Prelude.{not, ◌&&◌, ◌||◌, nat_le}
use Rattle.std.proofs.lemmas.Bool.{and_parts, cond-false, eq-eqb, ne_eqb, or_right}
use Rattle.std.proofs.Math.Path.{fun_ext}
use Rattle.im_base_types.specs.Records.{What, InsertKey, DeleteKey, UndoInsert, UndoDelete, Smo, UndoSmo, DummyClr, Commit, End, Image, Checkpoint, Unreadable, Logged}
use Rattle.im_theory_log.specs.Histories.{Base, History, IsFront, IsRecordOf, page_at}
use Rattle.im_theory_log.specs.Copies.{AreImages, GrowsByImages}
use Rattle.im_theory_log.specs.Lawful.{IsLawful}
use Rattle.im_theory_log.specs.LogLaws as logs
use Rattle.im_theory_log.specs.Structure.{taken_back}
use Rattle.im_theory_log.specs.Transactions.{committed, committed_after, is_end, is_finished, net}
use Rattle.im_theory_log.specs.Writer.{Writer}
use Rattle.im_theory_log.proofs.Cited.{has_tree, front_self, lawful_images}
use Rattle.im_base_disk.specs.declared.disk.Disk.{Ghosts}
use Rattle.im_base_disk.specs.Disk.{Files}
use Rattle.im_base_disk.proofs.Runs.{then_on, weakened}
use Rattle.im_log.proofs.Above.{front_then}
use Rattle.im_page_writer.specs.declared.page_writer.PageWriter.{PageWriter}
use Rattle.im_page_file.specs.Stands.{IsCovered}
use Rattle.im_page_flush.specs.Writing.{LeavesGrown}
use Rattle.im_page_writer.specs.PageWriter.{GoesOn}
use Rattle.im_page_flush.proofs.Goings.{leaves_so_far}
use Rattle.im_page_writer.proofs.Cited.{pages_here, goes_on_start}
use Rattle.im_page_file.proofs.Standing.{wider_covered}
use Rattle.im_theory_tree.specs.Levels.{Pages}
use Rattle.im_theory_tree.specs.Good.{AllOf, IsGoodTree}
use Rattle.im_theory_tree.specs.Theory.{page_tree}
use Rattle.im_tree_search.specs.Levels.{bodies}
use Rattle.im_smo_log.specs.Changes.{IsOfChange, GrowsByChange, LeftByChange, LeavesChange}
use Rattle.im_smo_log.proofs.ChangeLogs.{all_append}
use Rattle.im_smo_actions.proofs.Standing.{stands_bodies, stands_page, stands_ready}
use Rattle.im_restart_analysis.specs.Losers.{has_record, is_loser, row_of}
use Rattle.im_restart_analysis.specs.Undo.{IsNext, IsUndoable, LeavesOthers}
use Rattle.im_restart_analysis.proofs.Losers.{leaves_others, loser_from, loser_number}
use Rattle.im_restart_analysis.proofs.Tables.{images_undoable}
use Rattle.im_restart_undo.specs.Records.{IsOfUndo, GrowsByUndo, with_compensation, compensations}
use Rattle.im_restart_undo.specs.Place.{HasWholeTree}
use Rattle.im_restart_undo.specs.Undoing.{IsGoing, LeftByUndo, LeavesUndo, GoesTo}

-- ---- the records

compensation_append : (r : Logged) (w : What) (one two : History) → with_compensation r w (one ++ two) ≡ with_compensation r w one ++ two
compensation_append r (UndoInsert k i) one two = refl
compensation_append r (UndoDelete k i) one two = refl
compensation_append r (InsertKey k i) one two = refl
compensation_append r (DeleteKey k i) one two = refl
compensation_append r (Smo was now) one two = refl
compensation_append r (UndoSmo now) one two = refl
compensation_append r DummyClr one two = refl
compensation_append r Commit one two = refl
compensation_append r End one two = refl
compensation_append r (Image c) one two = refl
compensation_append r (Checkpoint n a dirty) one two = refl
compensation_append r Unreadable one two = refl

-- the compensations among the records of two lists are those of the one and of the other
pub compensations_append : (one two : History) → compensations (one ++ two) ≡ compensations one ++ compensations two
compensations_append [] two = refl
compensations_append (r ∷ one) two = ap (with_compensation r r.what) (compensations_append one two) ∙ compensation_append r r.what (compensations one) (compensations two)

-- ---- Images

pub images_of_undo : (b : Base) (t : ℕ) (images older : History) → AreImages b images older → AllOf (λ (r : Logged). IsOfUndo t r r.what) images
images_of_undo b t [] older all = tt
images_of_undo b t (r ∷ images) older all = (subst (λ (w : What). IsOfUndo t r w) (sym all.0.what) all.0.no_owner, images_of_undo b t images older all.1)

-- none of them is a compensation
pub images_compensate : (b : Base) (images older : History) → AreImages b images older → compensations images ≡ []
images_compensate b [] older all = refl
images_compensate b (r ∷ images) older all = ap (λ (w : What). with_compensation r w (compensations images)) all.0.what ∙ images_compensate b images older all.1

-- ---- structure changes

change_is_undo : (t : ℕ) (r : Logged) (w : What) → IsOfChange t r w → IsOfUndo t r w
change_is_undo t r (Smo was now) is = is
change_is_undo t r DummyClr is = is
change_is_undo t r (Image c) is = is
change_is_undo t r (InsertKey k i) is = absurd is
change_is_undo t r (DeleteKey k i) is = absurd is
change_is_undo t r (UndoInsert k i) is = absurd is
change_is_undo t r (UndoDelete k i) is = absurd is
change_is_undo t r (UndoSmo now) is = absurd is
change_is_undo t r Commit is = absurd is
change_is_undo t r End is = absurd is
change_is_undo t r (Checkpoint n a dirty) is = absurd is
change_is_undo t r Unreadable is = absurd is

pub changes_are_undo : (t : ℕ) (more : History) → AllOf (λ (r : Logged). IsOfChange t r r.what) more → AllOf (λ (r : Logged). IsOfUndo t r r.what) more
changes_are_undo t [] all = tt
changes_are_undo t (r ∷ more) all = (change_is_undo t r r.what all.0, changes_are_undo t more all.1)

change_compensates : (t : ℕ) (r : Logged) (w : What) (rs : History) → IsOfChange t r w → with_compensation r w rs ≡ rs
change_compensates t r (Smo was now) rs is = refl
change_compensates t r DummyClr rs is = refl
change_compensates t r (Image c) rs is = refl
change_compensates t r (InsertKey k i) rs is = refl
change_compensates t r (DeleteKey k i) rs is = refl
change_compensates t r (UndoInsert k i) rs is = absurd is
change_compensates t r (UndoDelete k i) rs is = absurd is
change_compensates t r (UndoSmo now) rs is = refl
change_compensates t r Commit rs is = refl
change_compensates t r End rs is = refl
change_compensates t r (Checkpoint n a dirty) rs is = refl
change_compensates t r Unreadable rs is = refl

-- none of their records is a compensation
pub changes_compensate : (t : ℕ) (more : History) → AllOf (λ (r : Logged). IsOfChange t r r.what) more → compensations more ≡ []
changes_compensate t [] all = refl
changes_compensate t (r ∷ more) all = change_compensates t r r.what (compensations more) all.0 ∙ changes_compensate t more all.1

-- ---- growth

unfoldable pub grows_none : (t : ℕ) (log : History) → GrowsByUndo t log log
grows_none t log = record { more = []; is = refl; all = tt }

unfoldable pub grows_images : (b : Base) (t : ℕ) (older longer : History) → GrowsByImages b older longer → GrowsByUndo t older longer
grows_images b t older longer by = record { more = by.images; is = by.is; all = images_of_undo b t by.images older by.all }

-- one record more
unfoldable pub grows_one : (t : ℕ) (r : Logged) (log : History) → IsOfUndo t r r.what → GrowsByUndo t log (r ∷ log)
grows_one t r log is = record { more = r ∷ []; is = refl; all = (is, tt) }

unfoldable pub grows_change : (t : ℕ) (older longer : History) → GrowsByChange t older longer → GrowsByUndo t older longer
grows_change t older longer by = record { more = by.more; is = by.is; all = changes_are_undo t by.more by.all }

-- once and then again
unfoldable pub grows_then : (t : ℕ) (one two three : History) → GrowsByUndo t one two → GrowsByUndo t two three → GrowsByUndo t one three
grows_then t one two three first next = record {
  more = next.more ++ first.more;
  is = next.is ∙ ap (λ (l : History). next.more ++ l) first.is ∙ sym (append_assoc next.more first.more one);
  all = all_append (λ (r : Logged). IsOfUndo t r r.what) next.more first.more next.all first.all;
}

pub none_images : (b : Base) (t : ℕ) (older longer : History) (by : GrowsByImages b older longer) → compensations (grows_images b t older longer by).more ≡ []
unfolding grows_images
none_images b t older longer by = images_compensate b by.images older by.all

pub none_change : (t : ℕ) (older longer : History) (by : GrowsByChange t older longer) → compensations (grows_change t older longer by).more ≡ []
unfolding grows_change
none_change t older longer by = changes_compensate t by.more by.all

pub compensations_then : (t : ℕ) (one two three : History) (first : GrowsByUndo t one two) (next : GrowsByUndo t two three)
    → compensations (grows_then t one two three first next).more ≡ compensations next.more ++ compensations first.more
unfolding grows_then
compensations_then t one two three first next = compensations_append next.more first.more

-- the older log is a front of the longer one
pub grown_front : (t : ℕ) (older longer : History) → GrowsByUndo t older longer → IsFront older longer
grown_front t older longer grows = record { newer = grows.more; is = sym grows.is }

-- ---- transactions beside Images

image_leaves : (b : Base) (r : Logged) (images older : History) → AreImages b (r ∷ images) older → LeavesOthers 0 r (images ++ older)
image_leaves b r images older all =
    leaves_others r (images ++ older) 0 all.0.no_owner (ap (λ (w : What). committed_after w (net r.txn (images ++ older)) (committed (images ++ older))) all.0.what)

images_finished : (b : Base) (t : ℕ) (images older : History) → t ≢ 0 → AreImages b images older → is_finished t (images ++ older) ≡ is_finished t older
images_finished b t [] older some all = refl
images_finished b t (r ∷ images) older some all =
    let log : History = images ++ older in
    cond-false (r.txn == t) (is_end r.what || is_finished t log) (is_finished t log) (ne_eqb r.txn t (λ is. some (sym is ∙ all.0.no_owner))) ∙ images_finished b t images older some all.1

images_rows : (b : Base) (t : ℕ) (images older : History) → t ≢ 0 → AreImages b images older → row_of t (images ++ older) ≡ row_of t older
images_rows b t [] older some all = refl
images_rows b t (r ∷ images) older some all = (image_leaves b r images older all).rows t some ∙ images_rows b t images older some all.1

pub same_finished : (b : Base) (t : ℕ) (older longer : History) → t ≢ 0 → GrowsByImages b older longer → is_finished t longer ≡ is_finished t older
same_finished b t older longer some by = ap (λ (l : History). is_finished t l) by.is ∙ images_finished b t by.images older some by.all

pub same_row : (b : Base) (t : ℕ) (older longer : History) → t ≢ 0 → GrowsByImages b older longer → row_of t longer ≡ row_of t older
same_row b t older longer some by = ap (λ (l : History). row_of t l) by.is ∙ images_rows b t by.images older some by.all

-- a transaction's number is not 0
pub owner_some : (t : ℕ) → 1 ≤ t → t ≢ 0
owner_some t one is = omega (arith, one, is)

-- ---- losers

has_more : (t : ℕ) (more older : History) → has_record t older ≡ true → has_record t (more ++ older) ≡ true
has_more t [] older has = has
has_more t (r ∷ more) older has = or_right (r.txn == t) (has_record t (more ++ older)) (has_more t more older has)

pub loser_has : (t : ℕ) (log : History) → is_loser t log ≡ true → has_record t log ≡ true
loser_has t log is =
    (and_parts (has_record t log) (not (is_finished t log)) (and_parts (nat_le 1 t) (has_record t log && not (is_finished t log)) is).1).0

-- a loser that is not finished after such records is one still
pub loser_still : (t : ℕ) (older longer : History) → GrowsByUndo t older longer → is_loser t older ≡ true → is_finished t longer ≡ false → is_loser t longer ≡ true
loser_still t older longer grows is going =
    loser_from t longer (loser_number t older is) (ap (has_record t) grows.is ∙ has_more t grows.more older (loser_has t older is)) going

has_of : (t : ℕ) (log : History) (x : Logged) → IsRecordOf x log → x.txn ≡ t → has_record t log ≡ true
has_of t [] x is owner = absurd is
has_of t (r ∷ older) x (inl same) owner = ap (λ (known : Bool). known || has_record t older) (eq-eqb r.txn t (ap (λ (y : Logged). y.txn) same ∙ owner))
has_of t (r ∷ older) x (inr there) owner = or_right (r.txn == t) (has_record t older) (has_of t older x there owner)

-- a transaction that is not finished is one where it has a change left to undo
pub loser_of : (t : ℕ) (log : History) (x : Logged) → 1 ≤ t → is_finished t log ≡ false → IsNext t log x → is_loser t log ≡ true
loser_of t log x one going next = loser_from t log one (has_of t log x next.logged next.owner) going

pub still_undoable : (b : Base) (older longer : History) → GrowsByImages b older longer → IsUndoable b page_tree older → IsUndoable b page_tree longer
still_undoable b older longer by can = subst (λ (l : History). IsUndoable b page_tree l) (sym by.is) (images_undoable b page_tree by.images older by.all can)

-- the pages of an undoable log are a good tree
pub good_pages : (b : Base) (log : History) → IsUndoable b page_tree log → IsGoodTree (logs.bodies b log) []
good_pages b log can =
    subst (λ (pages : Pages). IsGoodTree pages []) (fun_ext (λ (p : ℕ). ap (λ (l : History). taken_back l p (page_at b log p).body) can.closed)) (has_tree b page_tree log can.lawful).good

module _ {D : Type 0} (d : Ghosts D) (b : Base) (base : ℕ) where
  -- ---- how a writer stands whose log is undone

  module _ (s : Writer) (e t last undo_next : ℕ) (w : PageWriter) (disk : D) (g : IsGoing d b base s e t last undo_next w disk) where
    pub going_ready : (p : ℕ) → (s.pages p).waits ≡ false
    going_ready = stands_ready d b base s e w disk g.stands g.over

    pub going_page : (p : ℕ) → (s.pages p).page ≡ page_at b s.log p
    going_page = stands_page d b base s e w disk g.stands g.over

    pub going_bodies : bodies s ≡ logs.bodies b s.log
    going_bodies = stands_bodies d b base s e w disk g.stands g.over

    -- and they are a good tree
    pub going_tree : HasWholeTree d (λ p. (s.pages p).page) w disk
    going_tree = record {
      has = pages_here d b base s w disk g.stands going_ready;
      good = subst (λ (pages : Pages). IsGoodTree pages []) (sym going_bodies) (good_pages b s.log g.can);
    }

    -- Images join the log
    pub going_images : (old : D) (now : Writer) (v : PageWriter) (new : D) → GoesOn d b base s old now v new → IsGoing d b base now e t last undo_next v new
    going_images old now v new on =
        let some = owner_some t g.owner in
        record {
          stands = record { working = on.working; writing = on.goes.writing; known = on.known };
          over = on.goes.keeps.redo_end ∙ g.over;
          can = still_undoable b s.log now.log on.goes.keeps.log g.can;
          owner = g.owner;
          unfinished = same_finished b t s.log now.log some on.goes.keeps.log ∙ g.unfinished;
          row = same_row b t s.log now.log some on.goes.keeps.log ∙ g.row;
        }

  -- ---- what a stop leaves

  pub left_images : (s : Writer) (t : ℕ) (old new : D) → IsLawful b page_tree s.log → LeavesGrown d b base s old new → LeavesUndo d b base s t old new
  left_images s t old new law stops =
      weakened d old new (IsCovered b base s.durable stops.high) (LeftByUndo d b base s t) stops.stops
      (λ told c is. record {
        high = stops.high;
        lawful = subst (IsLawful b page_tree) (sym stops.grows.is) (lawful_images b page_tree stops.grows.images s.log stops.grows.all law);
        grows = grows_images b t s.log stops.high stops.grows;
        covered = is;
      })

  pub left_change : (s : Writer) (t : ℕ) (old new : D) → LeavesChange d b base s t old new → LeavesUndo d b base s t old new
  left_change s t old new stops =
      weakened d old new (LeftByChange d b base s t) (LeftByUndo d b base s t) stops
      (λ told c is. record { high = is.high; lawful = is.lawful; grows = grows_change t s.log is.high is.grows; covered = is.covered })

  -- where the writer stood as m on the way
  pub left_from : (s : Writer) (t : ℕ) (m : Writer) (old new : D) → IsFront s.durable m.durable → GrowsByUndo t s.log m.log → LeavesUndo d b base m t old new → LeavesUndo d b base s t old new
  left_from s t m old new durable grows stops =
      weakened d old new (LeftByUndo d b base m t) (LeftByUndo d b base s t) stops
      (λ told c is. record {
        high = is.high;
        lawful = is.lawful;
        grows = grows_then t s.log m.log is.high grows is.grows;
        covered = wider_covered d b base s.durable m.durable is.high is.high c durable (front_self is.high) is.covered;
      })

  pub left_both : (s : Writer) (t : ℕ) (old mid new : D) → LeavesUndo d b base s t old mid → LeavesUndo d b base s t mid new → LeavesUndo d b base s t old new
  left_both s t old mid new first next = then_on d old mid new (LeftByUndo d b base s t) (LeftByUndo d b base s t) first next (λ told c is. is)

  -- ---- calls in a row

  pub goes_start : (s : Writer) (e t last undo_next : ℕ) (w : PageWriter) (disk : D) → ((c : Files) → d.left_since disk (d.moment disk) c → d.may_leave disk c) → IsGoing d b base s e t last undo_next w disk
      → GoesTo d b base s e t last undo_next disk s w disk
  goes_start s e t last undo_next w disk only_now g = record {
    going = g;
    point = refl;
    durable = front_self s.durable;
    grows = grows_none t s.log;
    stops = left_images s t disk disk g.can.lawful (leaves_so_far d b base s disk s w.log w.table w.pool disk (goes_on_start d b base s w disk only_now g.stands).goes);
  }

  -- calls that add Images
  unfoldable pub goes_images : (s : Writer) (e t last undo_next : ℕ) (start : PageWriter) (old : D) (now : Writer) (w : PageWriter) (disk : D) → IsGoing d b base s e t last undo_next start old
      → GoesOn d b base s old now w disk → GoesTo d b base s e t last undo_next old now w disk
  goes_images s e t last undo_next start old now w disk g on = record {
    going = going_images s e t last undo_next start old g old now w disk on;
    point = on.goes.keeps.point;
    durable = on.goes.keeps.durable;
    grows = grows_images b t s.log now.log on.goes.keeps.log;
    stops = left_images s t old disk g.can.lawful (leaves_so_far d b base s old now w.log w.table w.pool disk on.goes);
  }

  module _ (s : Writer) (e t last undo_next : ℕ) (old : D) (m : Writer) (v : PageWriter) (mid : D) (one : GoesTo d b base s e t last undo_next old m v mid) where
    -- what a stop leaves of calls after these
    pub left_then : (new : D) → LeavesUndo d b base m t mid new → LeavesUndo d b base s t old new
    left_then new stops = left_both s t old mid new one.stops (left_from s t m mid new one.durable one.grows stops)

    -- calls after these
    unfoldable pub goes_then : (new_last new_next : ℕ) (now : Writer) (w : PageWriter) (new : D) → GoesTo d b base m e t new_last new_next mid now w new → GoesTo d b base s e t new_last new_next old now w new
    goes_then new_last new_next now w new two = record {
      going = two.going;
      point = two.point ∙ one.point;
      durable = front_then s.durable m.durable now.durable one.durable two.durable;
      grows = grows_then t s.log m.log now.log one.grows two.grows;
      stops = left_then new two.stops;
    }

    pub goes_compensations : (new_last new_next : ℕ) (now : Writer) (w : PageWriter) (new : D) (two : GoesTo d b base m e t new_last new_next mid now w new)
        → compensations (goes_then new_last new_next now w new two).grows.more ≡ compensations two.grows.more ++ compensations one.grows.more
    unfolding goes_then
    goes_compensations new_last new_next now w new two = compensations_then t s.log m.log now.log one.grows two.grows

  -- calls that add Images compensate nothing
  pub goes_images_none : (s : Writer) (e t last undo_next : ℕ) (start : PageWriter) (old : D) (now : Writer) (w : PageWriter) (disk : D) (g : IsGoing d b base s e t last undo_next start old)
      (on : GoesOn d b base s old now w disk) → compensations (goes_images s e t last undo_next start old now w disk g on).grows.more ≡ []
  unfolding goes_images
  goes_images_none s e t last undo_next start old now w disk g on = none_images b t s.log now.log on.goes.keeps.log
