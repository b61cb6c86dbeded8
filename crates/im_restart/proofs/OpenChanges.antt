-- The open structure change, taken back page by page.
use Rattle.std.proofs.Common.{◌≡◌, ◌≢◌, ℕ, List, [], ◌∷◌, ◌++◌, true, false, Option, None, Some, Result, Ok, Err, inl, inr, refl, sym, ◌∙◌, ap, subst}
use Rattle.std.specs.Prelude.{◌==◌, IfErr, OnOk}
use Rattle.std.specs.Ordering.{nat_cmp}
use Rattle.std.specs.BTreeMap.{Updates}
use Rattle.std.proofs.lemmas.Bool.{cases_Bool}
use Rattle.im_base_types.specs.declared.fault.Fault.{Fault}
use Rattle.im_base_types.specs.declared.fault.Fault.TheVariants.{Memory, NotAStore}
use Rattle.im_base_types.specs.Pages.{Body, Page}
use Rattle.im_base_types.specs.Records.{What, Logged}
use Rattle.im_base_types.specs.Records as whats
use Rattle.im_theory_log.specs.Tree.{Tree}
use Rattle.im_theory_log.specs.Histories.{Base, History, IsRecordOf, page_at}
use Rattle.im_theory_log.specs.Copies.{GrowsByImages}
use Rattle.im_theory_log.specs.Structure.{open_smo}
use Rattle.im_theory_log.specs.Transactions.{is_compensation, is_finished, last_of, to_undo}
use Rattle.im_theory_log.specs.Lawful.{IsLawful, has_owner}
use Rattle.im_theory_log.specs.Writer.{Writer}
use Rattle.im_theory_log.proofs.Cited.{in_log, images_open, lawful_images, finished_none, on_top, IsOpenSmo, is_open_smo}
use Rattle.im_base_disk.specs.declared.disk.Disk.{Ghosts}
use Rattle.im_base_disk.specs.Disk.{Files}
use Rattle.im_base_disk.specs.Runs.{LeavesOnly, Reads}
use Rattle.im_base_disk.proofs.Runs.{reads_on}
use Rattle.im_log_record.specs.Entry.{Smo, UndoSmo}
use Rattle.im_log.specs.Spelled.{logged_at}
use Rattle.im_log.specs.Whats.{page_behind, smo_of, undo_smo_of, what_of}
use Rattle.im_log.proofs.Above.{front_none, front_one, front_then}
use Rattle.im_page_writer.specs.declared.page_writer.PageWriter.{PageWriter}
use Rattle.im_page_file.specs.PageCopy.{after_in}
use Rattle.im_page_writer.specs.PageWriter.{StandsAs}
use Rattle.im_page_writer.specs.LoggedChange.{ChangedFrom}
use Rattle.im_page_writer.specs.StructureChange.{LeftKept}
use Rattle.im_page_flush.specs.Writing.{LeavesGrown}
use Rattle.im_page_flush.proofs.Goings.{goes_start}
use Rattle.im_page_table.proofs.Growing.{grown_front}
use Rattle.im_page_writer.proofs.Outcomes.{sound_also, sound_done, sound_own}
use Rattle.im_restart_analysis.specs.declared.rows.Loser.{Loser}
use Rattle.im_restart_analysis.specs.declared.rows.OpenRecord.{OpenRecord}
use Rattle.im_restart_analysis.specs.Losers.{AreLosers, LoserMap, is_loser}
use Rattle.im_restart_analysis.specs.OpenChange.{oldest_first, open_row}
use Rattle.im_restart_analysis.specs.Undo.{TakesOff, UndoesPage}
use Rattle.im_restart_analysis.proofs.Losers.{has_its_record, loser_from, numbered}
use Rattle.im_restart_analysis.proofs.Tables.{images_table, row_changed}
use Rattle.im_restart_analysis.proofs.Undoing.{undo_goes_on}
use Rattle.im_theory_tree.specs.Theory.{page_tree}
use Rattle.im_theory_tree.proofs.TheoryLaws.{page_tree_laws}
use Rattle.im_restart.specs.Undone.{IsUndo}
use Rattle.im_restart.specs.Restart.{IsLeftUndoing}
use Rattle.im_restart.specs.StructureChange.{ChangeGoes, IsTakingBack, PageKept, PageUndone, TakeBackKept, TakenBack}
use Rattle.im_restart.specs.Undoing.{UndoGoes}
use Rattle.im_restart.proofs.Compensations.{page_changed, page_longer}
use Rattle.im_restart.proofs.Growth.{grows_images, grows_one}
use Rattle.im_restart.proofs.Orders.{order_images, order_one}
use Rattle.im_restart.proofs.Others.{images_same_row}
use Rattle.im_restart.proofs.Steps.{left_covered, left_then}

-- ---- its newest record

module _ (b : Base) (tree : Tree) (log : History) (x : Logged) (rest : History) (law : IsLawful b tree log) (going : open_smo log ≡ x ∷ rest) where
  pub open_is_smo : (was : Body) × (now : Body) × (x.what ≡ whats.Smo was now)
  open_is_smo = (subst IsOpenSmo going (is_open_smo b tree log law)).0

  open_stack : (bottom : History) × (to_undo x.txn log ≡ x ∷ (rest ++ bottom))
  open_stack = let top = on_top tree b log x rest law going in (top.bottom, top.is ∙ ap (λ (l : History). l ++ top.bottom) going)

  open_logged : IsRecordOf x log × (has_owner x.what ≡ true)
  open_logged = in_log log x.txn x (subst (λ (l : History). IsRecordOf x l) (sym open_stack.1) (inl refl))

  pub open_record : IsRecordOf x log
  open_record = open_logged.0

  open_unfinished : is_finished x.txn log ≡ false
  open_unfinished = elim (cases_Bool (is_finished x.txn log)) [
    | inl done ↦ (let clash : [] ≡ x ∷ (rest ++ open_stack.0) = sym (finished_none b tree log x.txn law done) ∙ open_stack.1 in absurd (cc clash))
    | inr is ↦ is
  ]

  pub open_loser : is_loser x.txn log ≡ true
  open_loser = loser_from x.txn log (numbered b tree log x law open_logged.0 open_logged.1) (has_its_record x log open_logged.0) open_unfinished

-- what was before is what the undo leaves
smo_before : (p q : Option Page) (was now : Body) → smo_of p q ≡ whats.Smo was now → undo_smo_of p ≡ whats.UndoSmo was
smo_before (Some g) (Some h) was now is = let same : g.body ≡ was = cc is in ap (λ (x : Body). whats.UndoSmo x) same
smo_before (Some g) None was now is = absurd (cc is)
smo_before None q was now is = absurd (cc is)

-- ---- the last row of the list

last_row : (xs ys : List OpenRecord) (x y : OpenRecord) → xs ++ x ∷ [] ≡ ys ++ y ∷ [] → (xs ≡ ys) × (x ≡ y)
last_row [] [] x y is = let e : x ≡ y = cc is in (refl, e)
last_row [] (z ∷ []) x y is = absurd (cc is)
last_row [] (z ∷ w ∷ ys) x y is = absurd (cc is)
last_row (z ∷ []) [] x y is = absurd (cc is)
last_row (z ∷ w ∷ xs) [] x y is = absurd (cc is)
last_row (z ∷ xs) (w ∷ ys) x y is =
    let head : z ≡ w = cc is in
    let tail : xs ++ x ∷ [] ≡ ys ++ y ∷ [] = cc is in
    let rest = last_row xs ys x y tail in
    (ap (λ (r : OpenRecord). r ∷ xs) head ∙ ap (λ (l : List OpenRecord). w ∷ l) rest.0, rest.1)

nothing_before : (xs : List OpenRecord) (x : OpenRecord) → [] ≡ xs ++ x ∷ [] → ⊥
nothing_before [] x is = cc is
nothing_before (y ∷ xs) x is = cc is

-- the newest record's row is the last
pub record IsLastRow (going : History) (rows : List OpenRecord) (row : OpenRecord) : Type 0 where
  pub newest : Logged
  pub rest : History
  pub is : going ≡ newest ∷ rest
  pub rows_are : rows ≡ oldest_first rest
  pub here : newest.lsn ≡ row.lsn

pub last_is : (going : History) (all rows : List OpenRecord) (row : OpenRecord) → all ≡ oldest_first going → all ≡ rows ++ row ∷ [] → IsLastRow going rows row
last_is [] all rows row are is = absurd (nothing_before rows row (sym are ∙ is))
last_is (x ∷ rest) all rows row are is =
    let both = last_row (oldest_first rest) rows (open_row x) row (sym are ∙ is) in
    record { newest = x; rest = rest; is = refl; rows_are = sym both.0; here = ap (λ (r : OpenRecord). r.lsn) both.1 }

pub none_open : (going : History) (all : List OpenRecord) → all ≡ oldest_first going → all ≡ [] → going ≡ []
none_open [] all are none = refl
none_open (x ∷ rest) all are none = absurd (nothing_before (oldest_first rest) (open_row x) (sym none ∙ are))

module _ {D : Type 0} (d : Ghosts D) (b : Base) (base : ℕ) (all : History) where
  -- what a stop leaves
  pub taking_grown : (s : Writer) (old new : D) → IsTakingBack b all s → LeavesGrown d b base s old new → LeavesOnly d old new (IsLeftUndoing b base all)
  taking_grown s old new is grown =
      left_covered d b base all s.durable grown.high old new grown.stops is.found (grows_images b all s.log grown.high is.grown grown.grows) (order_images b all s.log grown.high is.order grown.grows)
      (subst (λ (l : History). IsLawful b page_tree l) (sym grown.grows.is) (lawful_images b page_tree grown.grows.images s.log grown.grows.all is.lawful))

  pub change_start : (s : Writer) (w : PageWriter) (disk : D) → ((c : Files) → d.left_since disk (d.moment disk) c → d.may_leave disk c) → StandsAs d b base s w disk → IsTakingBack b all s → ChangeGoes d b base all s disk s w disk
  change_start s w disk only_now stands is = record {
    stands = stands;
    taking = is;
    stops = left_covered d b base all s.durable s.log disk disk (goes_start d b base s w.log w.table w.pool disk only_now stands.writing).stops is.found is.grown is.order is.lawful;
    on = front_none s.log;
  }

  pub change_then : (s : Writer) (old : D) (t : Writer) (w : PageWriter) (mid : D) (u : Writer) (x : PageWriter) (new : D) → ChangeGoes d b base all s old t w mid → ChangeGoes d b base all t mid u x new → ChangeGoes d b base all s old u x new
  change_then s old t w mid u x new first next = record {
    stands = next.stands;
    taking = next.taking;
    stops = left_then d b base all old mid new first.stops next.stops;
    on = front_then s.log t.log u.log first.on next.on;
  }

  -- calls that only read
  pub change_read : (s : Writer) (w x : PageWriter) (old new : D) → ((c : Files) → d.left_since old (d.moment old) c → d.may_leave old c) → StandsAs d b base s w old → IsTakingBack b all s → Reads d old new → StandsAs d b base s x new
      → ChangeGoes d b base all s old s x new
  change_read s w x old new only_now stands is reads after =
      record { stands = after; taking = is; stops = reads_on d old old new (IsLeftUndoing b base all) (change_start s w old only_now stands is).stops reads; on = front_none s.log }

  -- a page after calls in a row
  pub page_then : (s : Writer) (old : D) (t : Writer) (w : PageWriter) (mid : D) (rest : History) (x : PageWriter) (losers : LoserMap) (new : D) (result : Result Unit Fault) → ChangeGoes d b base all s old t w mid
      → PageKept d b base all t rest mid x losers new result → PageKept d b base all s rest old x losers new result
  page_then s old t w mid rest x losers new result goes k = record {
    sound = sound_also result (λ u. PageUndone d b base all t rest mid x losers new) (λ u. PageUndone d b base all s rest old x losers new) k.sound
        (λ u e. record { now = e.now; goes = change_then s old t w mid e.now x new goes e.goes; going = e.going; are = e.are });
    stops = left_then d b base all old mid new goes.stops k.stops;
  }

  -- none is open any more
  pub change_over : (s : Writer) (old : D) (t : Writer) (w : PageWriter) (disk : D) → ChangeGoes d b base all s old t w disk → open_smo t.log ≡ [] → UndoGoes d b base all s old t w disk
  change_over s old t w disk goes closed = record {
    stands = goes.stands;
    undoing = record {
      redo_end = goes.taking.redo_end;
      over = goes.taking.over;
      grown = goes.taking.grown;
      order = goes.taking.order;
      found = goes.taking.found;
      can = record { lawful = goes.taking.lawful; closed = closed };
      pages = goes.taking.pages;
    };
    stops = goes.stops;
    on = goes.on;
  }

  -- ---- one page

  module _ (s : Writer) (is : IsTakingBack b all s) (t last prev page : ℕ) (before after : List ℕ) (lsn : ℕ) (rest : History) (going : open_smo s.log ≡ logged_at lsn (Smo t prev page before after) ∷ rest)
      (behind : last ≡ last_of t s.log) (old : D) (w : PageWriter) (new : D) where
    smo : (was : Body) × (now : Body) × (what_of (Smo t prev page before after) ≡ whats.Smo was now)
    smo = open_is_smo b page_tree s.log (logged_at lsn (Smo t prev page before after)) rest is.lawful going

    undo_is : what_of (UndoSmo t last prev page before) ≡ whats.UndoSmo smo.0
    undo_is = smo_before (page_behind before) (page_behind after) smo.0 smo.1 smo.2

    done : (at : ℕ) → LeavesOnly d old new (IsLeftUndoing b base all) → ChangedFrom d b base s (UndoSmo t last prev page before) at old w new → TakenBack d b base all s t prev rest at old w new
    done at stops from =
        let x : Logged = logged_at lsn (Smo t prev page before after) in
        let r : Logged = logged_at at (UndoSmo t last prev page before) in
        let log : History = from.before.log in
        let by : GrowsByImages b s.log log = from.keeps.log in
        let law : IsLawful b page_tree log = subst (λ (l : History). IsLawful b page_tree l) (sym by.is) (lawful_images b page_tree by.images s.log by.all is.lawful) in
        let open_now : open_smo log ≡ x ∷ rest = ap open_smo by.is ∙ images_open b by.images s.log by.all ∙ going in
        let loser : is_loser t s.log ≡ true = open_loser b page_tree s.log x rest is.lawful going in
        let behind_now : last ≡ last_of t log = behind ∙ sym (ap (λ (q : Loser). q.last) (images_same_row b s.log log t by loser)) in
        let undoes : UndoesPage b log x r = record {
          linked = record { rises = from.logged.high; owner = refl; prev = behind_now };
          page = refl;
          was = smo.0;
          now = smo.1;
          undone = smo.2;
          what = undo_is;
          leads = refl;
        } in
        let next : IsLawful b page_tree (r ∷ log) × (open_smo (r ∷ log) ≡ rest) × TakesOff t log x r = (undo_goes_on page_tree page_tree_laws).undoes_page b log x rest r law open_now undoes in
        let back : IsUndo r log r.what = subst (λ (v : What). IsUndo r log v) (sym undo_is) (record { undone = x; rest = rest; going = open_now; owner = refl; page = refl }) in
        record {
          now = _;
          goes = record {
            stands = from.logged.stands;
            taking = record {
              redo_end = is.redo_end;
              over = from.keeps.redo_end ∙ is.over;
              grown = grows_one all log r (grows_images b all s.log log is.grown by) back;
              order = order_one all log r (order_images b all s.log log is.order by) (ap is_compensation undo_is);
              found = front_then all from.before.durable from.logged.durable (front_then all s.durable from.before.durable is.found from.keeps.durable) from.logged.grows;
              lawful = next.0;
              pages = λ q. page_changed from.logged.known r (r.page == q) (from.before.pages q) (page_at b log q) ((from.keeps.pages q).page ∙ is.pages q ∙ sym (page_longer b s.log log q by));
            };
            stops = stops;
            on = front_then s.log log (r ∷ log) (grown_front b s.log log by) (front_one r log);
          };
          going = next.1;
          losers = λ m n are up. row_changed m n log t x r (subst (λ (l : History). AreLosers m l) (sym by.is) (images_table b m by.images s.log by.all are)) next.2 up.0;
        }

    pub taken_so : (result : Result ℕ Fault) → LeftKept d b base s (UndoSmo t last prev page before) old w new result → TakeBackKept d b base all s t prev rest old w new result
    taken_so result k =
        let stops = taking_grown s old new is k.stops in
        record {
          sound = sound_own result (λ at. ChangedFrom d b base s (UndoSmo t last prev page before) at old w new) (λ at. TakenBack d b base all s t prev rest at old w new) k.ok (k.cause (λ none. (let clash : Some smo.0 ≡ None = sym (ap after_in undo_is) ∙ none in cc clash))) (λ at from. done at stops from);
          stops = stops;
        }

  -- the row is noted
  pub page_noted : (s : Writer) (t on : ℕ) (rest : History) (lsn : ℕ) (old : D) (w : PageWriter) (m n : LoserMap) (new : D) (result : Result Unit Fault) → TakenBack d b base all s t on rest lsn old w new → AreLosers m s.log
      → (u v : ℕ) → u ≡ t → v ≡ on → OnOk result (Updates nat_cmp m n u (Some (record { last = lsn; undo_next = v }))) → IfErr result (λ e. e ≡ Memory) → PageKept d b base all s rest old w n new result
  page_noted s t on rest lsn old w m n new result done are u v who where_on up refused = record {
    sound = sound_done result _ (PageUndone d b base all s rest old w n new) up (memory_only result refused)
        (λ is. record {
          now = done.now;
          goes = done.goes;
          going = done.going;
          are = done.losers m n are
              (subst (λ (y : ℕ). Updates nat_cmp m n t (Some (record { last = lsn; undo_next = y }))) where_on (subst (λ (x : ℕ). Updates nat_cmp m n x (Some (record { last = lsn; undo_next = v }))) who is));
        });
    stops = done.goes.stops;
  }
    where
      memory_only : (r : Result Unit Fault) → IfErr r (λ e. e ≡ Memory) → IfErr r (λ e. e ≢ NotAStore)
      memory_only (Ok x) is = tt
      memory_only (Err e) is = λ same. (let clash : Memory ≡ NotAStore = sym is ∙ same in cc clash)
