-- The compensation of a key record, on the page that is its key's leaf now.
use Rattle.std.proofs.Common.{◌≡◌, ◌≤◌, ◌≢◌, ℕ, ◌∷◌, length, true, false, None, Some, Result, refl, sym, ◌∙◌, ap, subst}
use Rattle.std.specs.FinMap.Entries.{find}
use Rattle.im_base_types.specs.declared.fault.Fault.{Fault}
use Rattle.im_base_types.specs.Keys.{Key, key_order}
use Rattle.im_base_types.specs.Maps.{IndexMap}
use Rattle.im_base_types.specs.Pages.{Body, Page}
use Rattle.im_base_types.specs.Records.{What, Logged, DummyClr}
use Rattle.im_theory_log.specs.Tree.{with_entries}
use Rattle.im_theory_log.specs.Histories.{Base, History, page_after, page_at}
use Rattle.im_theory_log.specs.Copies.{GrowsByImages}
use Rattle.im_theory_log.specs.Lawful.{Follows, IsLawful, IsNotIn, IsOutside, MayCome, Undoes}
use Rattle.im_theory_log.specs.Structure.{open_after, open_smo, settled}
use Rattle.im_theory_log.specs.Transactions.{contents, contents_after, is_end, is_finished, last_of, rest_of, stack_after, to_undo, undo_from}
use Rattle.im_theory_log.specs.Writer.{Writer}
use Rattle.im_theory_log.proofs.Cited.{logs_stay_lawful, left_alone}
use Rattle.im_base_disk.specs.declared.disk.Disk.{Ghosts}
use Rattle.im_log_record.specs.Entry.{Entry, InsertKey, DeleteKey, UndoInsert, UndoDelete, transaction_of, prev_of, undo_next_of as leads_of, page_of}
use Rattle.im_log_record.specs.Spelling.{IsEntry}
use Rattle.im_log.specs.Spelled.{logged_at}
use Rattle.im_log.specs.Whats.{what_of}
use Rattle.im_log.proofs.Above.{front_then}
use Rattle.im_page_writer.specs.declared.page_writer.PageWriter.{PageWriter}
use Rattle.im_page.specs.LeafChange.{CanPutKey, CanTakeKey}
use Rattle.im_page_writer.specs.LoggedChange.{ChangedFrom, ChangeKept}
use Rattle.im_page_writer.specs.Outcome.{fault_of, no_page, Logs}
use Rattle.im_page_writer.proofs.Outcomes.{sound_own}
use Rattle.im_tree_search.specs.Levels.{bodies}
use Rattle.im_theory_tree.specs.Levels.{Pages, walk}
use Rattle.im_theory_tree.specs.Search.{IsOnWay}
use Rattle.im_theory_tree.specs.Theory.{page_tree, CanDropFrom, CanPutInto}
use Rattle.im_theory_tree.specs.Ways.{with_leaf}
use Rattle.im_theory_tree.proofs.Cited.{way_leaf, page_tree_laws}
use Rattle.im_theory_page.specs.Split.{HasRoom}
use Rattle.im_smo_log.specs.Under.{is_structural}
use Rattle.im_smo_log.proofs.Others.{key_pages}
use Rattle.im_smo_actions.proofs.Standing.{stands_bodies}
use Rattle.im_restart_analysis.specs.declared.rows.Loser.{Loser}
use Rattle.im_restart_analysis.specs.Losers.{row_of}
use Rattle.im_restart_analysis.specs.Undo.{IsNext}
use Rattle.im_restart_analysis.proofs.Losers.{loser_unfinished, own_row, own_stack, still_loser}
use Rattle.im_restart_undo.specs.declared.back.Back.TheVariants.{Plain}
use Rattle.im_restart_undo.specs.GoingBeside.{BackKept, IsGoingBeside, TakenBeside, entries_behind}
use Rattle.im_restart_undo.specs.Records.{IsOfUndo, compensations, inverse_of, with_compensation}
use Rattle.im_restart_undo.specs.Undoing.{IsToUndo, LeavesUndo}
use Rattle.im_restart_undo.proofs.Beside.{contents_longer, images_planned, lawful_longer, next_longer, open_longer, settled_longer, stack_longer}
use Rattle.im_restart_undo.proofs.Ends.{began_working, never_short}
use Rattle.im_restart_undo.proofs.Growth.{images_compensate, images_of_undo, left_images, owner_some, same_finished, same_row}
use Rattle.im_restart_undo.proofs.Shown.{settled_has, settled_shows}

-- What a record of this kind does that takes one of that kind back, whatever it is.
record IsCompensation (t : ℕ) (r : Logged) (said w : What) : Type 0 where
  pops : (l : History) → stack_after r w l ≡ rest_of l
  leads : undo_from r w ≡ r.undo_next
  goes_on : is_end w ≡ false
  closes_none : w ≡ DummyClr → ⊥
  opens_none : (l : History) → open_after r w l ≡ l
  joins : IsOfUndo t r w
  counts : (rs : History) → with_compensation r w rs ≡ r ∷ rs
  plain : is_structural w ≡ false
  after : (l : ℕ) (g : Page) → page_after l w g ≡ record { lsn = l; body = with_entries g.body (entries_behind said g.body.entries) }

module _ {D : Type 0} (d : Ghosts D) (b : Base) (base : ℕ) where
  module _ (s : Writer) (e t last undo_next : ℕ) (v : PageWriter) (old : D) (g : IsGoingBeside d b base s e t last undo_next v old) where
    module _ (said entry : Entry) (to : IsToUndo d b base s t said) (out : IsNotIn (page_of entry) (open_smo s.log)) (w : PageWriter) (new : D) (lsn : ℕ) where
      -- a record that takes it back
      done : transaction_of entry ≡ t → prev_of entry ≡ last → leads_of entry ≡ prev_of said → what_of entry ≡ inverse_of (what_of said) → IsCompensation t (logged_at lsn entry) (what_of said) (what_of entry)
          → ((log : History) → settled b log ≡ settled b s.log → Undoes (logged_at lsn entry) log (λ x. x ≡ what_of said) → IsOutside (transaction_of entry) (open_smo log) → IsNotIn (page_of entry) (open_smo log)
          → MayCome b page_tree (logged_at lsn entry) log (what_of entry))
          → LeavesUndo d b base s t old new → ChangedFrom d b base s entry lsn old w new → TakenBeside d b base s e t said (Plain (page_of entry)) lsn old w new
      done owner prev leads inverse is may stops from =
          let x : Logged = logged_at to.lsn said in
          let r : Logged = logged_at lsn entry in
          let p : ℕ = page_of entry in
          let log : History = from.before.log in
          let by : GrowsByImages b s.log log = from.keeps.log in
          let some : t ≢ 0 = owner_some t g.owner in
          let law : IsLawful b page_tree log = lawful_longer b t s.log log by g.lawful in
          let next : IsNext t log x = next_longer b t s.log log by some x to.next in
          let going : is_finished t log ≡ false = same_finished b t s.log log some by ∙ g.unfinished in
          let row : row_of t log ≡ record { last = last; undo_next = undo_next } = same_row b t s.log log some by ∙ g.row in
          let opens : open_smo log ≡ open_smo s.log = open_longer b t s.log log by in
          let pages : settled b log ≡ settled b s.log = settled_longer b t s.log log by in
          let aside : IsOutside t (open_smo log) = subst (λ (l : History). IsOutside t l) (sym opens) g.outside in
          let apart : IsNotIn p (open_smo log) = subst (λ (l : History). IsNotIn p l) (sym opens) out in
          let follows : Follows b page_tree r log = record {
            rises = from.logged.high;
            chained = λ _. record {
              number = subst (λ (n : ℕ). 1 ≤ n) (sym owner) g.owner;
              prev = prev ∙ sym (ap (λ (q : Loser). q.last) row) ∙ ap (λ (n : ℕ). last_of n log) (sym owner);
              unfinished = ap (λ (n : ℕ). is_finished n log) owner ∙ going;
            };
            may = may log pages (record { undone = x; rest = next.rest; stack = ap (λ (n : ℕ). to_undo n log) owner ∙ next.stack; inverse = refl; leads = leads })
                (subst (λ (n : ℕ). IsOutside n (open_smo log)) (sym owner) aside) apart;
          } in
          record {
            now = _;
            going = record {
              stands = from.logged.stands;
              over = from.keeps.redo_end ∙ g.over;
              lawful = logs_stay_lawful page_tree page_tree_laws b log r law follows (λ closes. absurd (is.closes_none closes));
              outside = subst (λ (l : History). IsOutside t l) (sym (is.opens_none (open_smo log))) aside;
              owner = g.owner;
              unfinished = loser_unfinished t (r ∷ log) (still_loser r log t owner g.owner is.goes_on going);
              row = own_row r log t owner ∙ ap (λ (n : ℕ). record { last = lsn; undo_next = n }) (is.leads ∙ leads);
            };
            point = from.keeps.point;
            durable = front_then s.durable from.before.durable from.logged.durable from.keeps.durable from.logged.grows;
            grows = record { more = r ∷ by.images; is = ap (λ (l : History). r ∷ l) by.is; all = (is.joins, images_of_undo b t by.images s.log by.all) };
            stops = stops;
            lsn = to.lsn;
            stack = sym (stack_longer b t s.log log by some) ∙ next.stack ∙ ap (λ (l : History). x ∷ l) (sym (own_stack r log t owner ∙ is.pops (to_undo t log) ∙ ap rest_of next.stack));
            map = ap (λ (c : What). contents_after c (contents b log)) inverse ∙ ap (λ (m : IndexMap). contents_after (inverse_of (what_of said)) m) (contents_longer b t s.log log by);
            once = ap (λ (rs : History). length rs) (is.counts (compensations by.images) ∙ ap (λ (rs : History). r ∷ rs) (images_compensate b by.images s.log by.all));
            going_on = is.opens_none (open_smo log) ∙ opens;
            planned = ((is.plain, λ _. refl), images_planned b p by.images s.log by.all);
            pages = ap (λ (old_pages : Pages). with_leaf old_pages p (entries_behind (what_of said) (old_pages p).entries)) (sym pages)
                ∙ key_pages b r log (entries_behind (what_of said)) (what_of entry) is.after (is.opens_none (open_smo log)) refl apart;
          }

    module _ (prev was page : ℕ) (key : Key) (rid : ℕ) (w : PageWriter) (new : D) (result : Result ℕ Fault) (one : Logs d false no_page v old w new (fault_of result))
        (way : IsOnWay (settled b s.log) 0 key page) (out : IsNotIn page (open_smo s.log)) where
      -- the page is the settled one
      page_here : bodies s page ≡ settled b s.log page
      page_here = ap (λ (pages : Pages). pages page) (stands_bodies d b base s e v old g.stands g.over) ∙ sym (left_alone page (open_smo s.log) (page_at b s.log page).body out)

      -- and has of the key what the walk has
      page_says : find key_order key (bodies s page).entries ≡ find key_order key (walk (settled b s.log))
      page_says = ap (λ (x : Body). find key_order key x.entries) page_here ∙ settled_has b s.log g.lawful key page way

      page_leaf : (bodies s page).kind ≡ (settled b s.log page).kind
      page_leaf = ap (λ (x : Body). x.kind) page_here

      pub insert_undone : IsToUndo d b base s t (InsertKey t prev was key rid) → ChangeKept d b base s (UndoInsert t last prev page key rid) old w new result → BackKept d b base s e t (InsertKey t prev was key rid) (Plain page) old w new result
      insert_undone to kept =
          let said : Entry = InsertKey t prev was key rid in
          let entry : Entry = UndoInsert t last prev page key rid in
          let stops : LeavesUndo d b base s t old new = left_images d b base s t old new g.lawful kept.stops in
          let shown : find key_order key (walk (settled b s.log)) ≡ Some rid = settled_shows b s.log g.lawful t (logged_at to.lsn said) to.next in
          let drop : CanDropFrom (settled b s.log) page key rid = record { leaf = way; there = settled_has b s.log g.lawful key page way ∙ shown } in
          let has : CanTakeKey (s.pages page).page key = record {
            leaf = page_leaf ∙ (way_leaf (settled b s.log) key page way).0;
            has = λ none. absurd (let clash : Some rid ≡ None = sym shown ∙ sym page_says ∙ none in cc clash);
          } in
          record {
            sound = sound_own result (λ lsn. ChangedFrom d b base s entry lsn old w new) (λ lsn. TakenBeside d b base s e t said (Plain page) lsn old w new) kept.ok (kept.cause has)
                (λ lsn from. done said entry to out w new lsn refl refl refl refl
                (record { pops = λ l. refl; leads = refl; goes_on = refl; closes_none = λ x. (let never : ⊥ = cc x in never); opens_none = λ l. refl; joins = refl; counts = λ rs. refl; plain = refl; after = λ l h. refl })
                (λ log same undone aside apart. record { undoes = undone; outside = aside; can_drop = subst (λ (pages : Pages). CanDropFrom pages page key rid) (sym same) drop; not_in = apart }) stops from);
            stops = stops;
            short = never_short d _ result refl one;
            begun = began_working d _ result g.stands.working one;
          }

      pub delete_undone : IsEntry (DeleteKey t prev was key rid) → IsToUndo d b base s t (DeleteKey t prev was key rid) → HasRoom true (settled b s.log page).entries (key, 0)
          → ChangeKept d b base s (UndoDelete t last prev page key rid) old w new result → BackKept d b base s e t (DeleteKey t prev was key rid) (Plain page) old w new result
      delete_undone fits to fit kept =
          let said : Entry = DeleteKey t prev was key rid in
          let entry : Entry = UndoDelete t last prev page key rid in
          let stops : LeavesUndo d b base s t old new = left_images d b base s t old new g.lawful kept.stops in
          let shown : find key_order key (walk (settled b s.log)) ≡ None = settled_shows b s.log g.lawful t (logged_at to.lsn said) to.next in
          let room : HasRoom true (settled b s.log page).entries (key, rid) = fit in
          let put : CanPutInto (settled b s.log) page key rid = record {
            leaf = way;
            keyed = fits.1.0.0;
            short = fits.1.0.1;
            absent = settled_has b s.log g.lawful key page way ∙ shown;
            room = room;
          } in
          let has : CanPutKey (s.pages page).page key = record {
            leaf = page_leaf ∙ (way_leaf (settled b s.log) key page way).0;
            lacks = page_says ∙ shown;
            keyed = fits.1.0.0;
            short = fits.1.0.1;
            room = subst (λ (x : Body). HasRoom true x.entries (key, 0)) (sym page_here) fit;
          } in
          record {
            sound = sound_own result (λ lsn. ChangedFrom d b base s entry lsn old w new) (λ lsn. TakenBeside d b base s e t said (Plain page) lsn old w new) kept.ok (kept.cause has)
                (λ lsn from. done said entry to out w new lsn refl refl refl refl
                (record { pops = λ l. refl; leads = refl; goes_on = refl; closes_none = λ x. (let never : ⊥ = cc x in never); opens_none = λ l. refl; joins = refl; counts = λ rs. refl; plain = refl; after = λ l h. refl })
                (λ log same undone aside apart. record { undoes = undone; outside = aside; can_put = subst (λ (pages : Pages). CanPutInto pages page key rid) (sym same) put; not_in = apart }) stops from);
            stops = stops;
            short = never_short d _ result refl one;
            begun = began_working d _ result g.stands.working one;
          }
