-- Beside which structure change a change is taken back, and what it wants.
use Rattle.std.proofs.Common.{◌≡◌, ◌≢◌, ◌⊎◌, inl, inr, ℕ, List, [], ◌++◌, Bool, true, false, Option, Some, None, refl, sym, ap, subst, ◌∙◌, arith, eq-eqb, ne_eqb}
use Rattle.std.specs.Prelude.{find, is_some}
use Rattle.std.specs.FinMap.{get}
use Rattle.im_base_types.specs.Answers as answers
use Rattle.im_base_types.specs.Answers.{Continue}
use Rattle.im_base_types.specs.Changes.{Effect}
use Rattle.im_base_types.specs.Lives.{Shown}
use Rattle.im_base_types.specs.Maps.{IndexMap}
use Rattle.im_base_types.specs.Records.{What, InsertKey, DeleteKey, UndoInsert, UndoDelete, Smo, UndoSmo, DummyClr, Commit, End, Image, Checkpoint, Unreadable, Logged}
use Rattle.im_base_types.specs.declared.fault.Fault.{Fault}
use Rattle.im_base_types.specs.declared.fault.Fault.TheVariants.{Capacity, Failed, LogFull, Device, Memory, NotAStore}
use Rattle.im_base_disk.specs.declared.disk.Disk.{Ghosts}
use Rattle.im_base_steps.specs.Calls.{told_by}
use Rattle.im_base_steps.specs.declared.reply.Reply.{Reply}
use Rattle.im_base_steps.specs.declared.reply.Reply.TheVariants.{Done, More, Refused, RolledBack}
use Rattle.im_base_txn.specs.Rows.{is_of}
use Rattle.im_base_txn.specs.declared.transaction.Transaction.{Transaction}
use Rattle.im_theory_log.specs.Histories.{Base}
use Rattle.im_theory_log.specs.LogLaws as logs
use Rattle.im_theory_log.specs.Structure.{open_smo, settled}
use Rattle.im_theory_log.specs.Transactions.{change_of, changes_of, is_key}
use Rattle.im_theory_log.proofs.Fronts.{has_tree}
use Rattle.im_log.specs.Spelled.{logged_at}
use Rattle.im_log.specs.Whats.{what_of}
use Rattle.im_log_record.specs.Entry.{Entry, page_of}
use Rattle.im_page_writer.specs.declared.page_writer.PageWriter.{PageWriter}
use Rattle.im_theory_tree.specs.Levels.{Pages}
use Rattle.im_theory_tree.specs.Theory.{page_tree}
use Rattle.im_tree_search.specs.declared.change_beside.Beside.{Beside}
use Rattle.im_tree_search.specs.Levels.{bodies_of}
use Rattle.im_tree_search.specs.Sights.{is_done}
use Rattle.im_smo_actions.specs.GoingBeside.{is_planned, settled_pages}
use Rattle.im_smo_actions.specs.Structure.{IsUsedUp}
use Rattle.im_restart_analysis.specs.Undo.{IsUndoable}
use Rattle.im_restart_undo.specs.declared.back.Back.{Back}
use Rattle.im_restart_undo.specs.Planning.{IsBack, IsLeafOf, NeedsChange}
use Rattle.im_restart_undo.specs.Undoing.{IsToUndo, ShowsChange, UsesUp}
use Rattle.im_restart_undo.proofs.Shown.{get_is, shows_change}
use Rattle.im_restart_undo.proofs.Told.{barred_plans_are_hidden}
use Rattle.im_engine_rollback.specs.Ends.{TurnEnds, may_turn}
use Rattle.im_engine_rollback.specs.TurnsBeside.{HasNoWayBack, IsHiddenBack, IsSeenNext, NeedsChangeBack}
use Rattle.im_engine_rollback.proofs.BehindChanges.{never_hidden}
use Rattle.im_theory_machine.specs.View as views
use Rattle.im_theory_machine.specs.View.{View, owner_of}
use Rattle.im_theory_steps.specs.Checks.{checked_by}
use Rattle.im_engine.specs.declared.engine.Engine.{Engine}
use Rattle.im_engine.specs.declared.stepped.Aim.{Aim}
use Rattle.im_engine.specs.declared.stepped.Under.{Under}
use Rattle.im_engine.specs.Aims.{IsBesideOf, IsChanging, IsToldTo, under_of}
use Rattle.im_engine.specs.Faults.{told_as}
use Rattle.im_engine.specs.Paces.{Bars, BarsBack, EndsAs, GoesOnWith, IsRefusal, change_needed, leaf_planned, page_made}
use Rattle.im_engine.specs.Running.{IsRunning}
use Rattle.im_engine.specs.Told.{IsBlockedBy, IsPaced, LacksRoom, NeedsBack, TurnWants}
use Rattle.im_engine.specs.TurningBack.{EndsBack, aim_back}
use Rattle.im_engine.proofs.Paced.{kept_under}
use Rattle.im_engine.proofs.Returning.{net_at}
use Rattle.im_engine.proofs.SteppedBacks.{next_same, same_done, same_planned}
use Rattle.im_engine.proofs.SteppedTold.{none_under}
use Rattle.im_engine.proofs.SteppedTurns.{goes}

-- ---- what a change that is taken back needs, by the net of its transaction

needs_by : (pages : Pages) (map : IndexMap) (w : What) (rest : Effect) → NeedsChange pages w → NeedsBack pages map (change_of w ++ rest)
needs_by pages map (InsertKey k i) rest needs = needs
needs_by pages map (DeleteKey k i) rest needs = needs
needs_by pages map (UndoInsert k i) rest needs = absurd needs
needs_by pages map (UndoDelete k i) rest needs = absurd needs
needs_by pages map (Smo was now) rest needs = absurd needs
needs_by pages map (UndoSmo now) rest needs = absurd needs
needs_by pages map DummyClr rest needs = absurd needs
needs_by pages map Commit rest needs = absurd needs
needs_by pages map End rest needs = absurd needs
needs_by pages map (Image c) rest needs = absurd needs
needs_by pages map (Checkpoint n a dirty) rest needs = absurd needs
needs_by pages map Unreadable rest needs = absurd needs

needed_by : (pages : Pages) (map : IndexMap) (w : What) (rest : Effect) → is_key w ≡ true → NeedsBack pages map (change_of w ++ rest) → NeedsChange pages w
needed_by pages map (InsertKey k i) rest key needs = needs
needed_by pages map (DeleteKey k i) rest key needs = needs
needed_by pages map (UndoInsert k i) rest key needs = absurd cc
needed_by pages map (UndoDelete k i) rest key needs = absurd cc
needed_by pages map (Smo was now) rest key needs = absurd cc
needed_by pages map (UndoSmo now) rest key needs = absurd cc
needed_by pages map DummyClr rest key needs = absurd cc
needed_by pages map Commit rest key needs = absurd cc
needed_by pages map End rest key needs = absurd cc
needed_by pages map (Image c) rest key needs = absurd cc
needed_by pages map (Checkpoint n a dirty) rest key needs = absurd cc
needed_by pages map Unreadable rest key needs = absurd cc

module _ {D : Type 0} (d : Ghosts D) {b : Base} (before : List Effect) (s : Shown) (v : View) (t : ℕ) (row : Transaction) (old : Engine D d) (r : IsRunning d b before s v old)
    (found : find (is_of t) old.txns.rows ≡ Some row) (checked : checked_by old.txns.rows false (Continue t) ≡ None) where
  abbrev pages : Pages
  pages = settled b r.now.log

  net_is : (entry : Entry) (to : IsToUndo d b r.base r.now t entry) → (v.txns t).net ≡ change_of (what_of entry) ++ changes_of to.next.rest
  net_is entry to =
      net_at b r.earlier before s v r.now.log old.txns.rows old.txns.next old.locks t row r.serving found (goes d before s v t row old r found checked) ∙ ap changes_of to.next.stack

  -- it wants memory only for that
  pub needs_memory : NeedsChangeBack d b r.base r.now t → NeedsBack pages v.walk ((v.txns t).net)
  needs_memory is = subst (λ (e : Effect). NeedsBack pages v.walk e) (sym (net_is is.entry is.next)) (needs_by pages v.walk (what_of is.entry) (changes_of is.next.next.rest) is.needs)

  -- and one that needs it is known to
  pub needs_next : (entry : Entry) (to : IsToUndo d b r.base r.now t entry) → NeedsBack pages v.walk ((v.txns t).net) → NeedsChange pages (what_of entry)
  needs_next entry to needs = needed_by pages v.walk (what_of entry) (changes_of to.next.rest) to.next.key (subst (λ (e : Effect). NeedsBack pages v.walk e) (net_is entry to) needs)

  -- a key that comes back finds its leaf without room, and no way to a split
  pub lacks_numbers : old.under ≡ None → HasNoWayBack d b r.base r.now t → (wants : LacksRoom pages v.walk ((v.txns t).net)) × IsUsedUp false pages wants.key
  lacks_numbers none is = by (what_of is.entry) refl is.used_up
    where
      closed : open_smo r.now.log ≡ []
      closed = subst (λ (u : Option Under). IsChanging b u r.now.log) none r.changing

      can : IsUndoable b page_tree r.now.log
      can = record { lawful = r.lawful; closed = closed }

      by : (w : What) → what_of is.entry ≡ w → UsesUp pages w → (wants : LacksRoom pages v.walk ((v.txns t).net)) × IsUsedUp false pages wants.key
      by (DeleteKey k i) same full =
          let shows = subst (λ (w : What). ShowsChange (logs.bodies b r.now.log) w) same (shows_change b r.now.log can t (logged_at is.next.lsn is.entry) is.next.next) in (
            record {
              key = k;
              rid = i;
              older = changes_of is.next.next.rest;
              newest = net_is is.entry is.next ∙ ap (λ (w : What). change_of w ++ changes_of is.next.next.rest) same;
              absent = ap (λ (m : IndexMap). get m k) r.serving.seen_by.walk ∙ get_is b r.now.log can k ∙ shows;
              lacks = full.lacks;
            },
            full.used_up,
          )
      by (InsertKey k i) same full = absurd full
      by (UndoInsert k i) same full = absurd full
      by (UndoDelete k i) same full = absurd full
      by (Smo was now) same full = absurd full
      by (UndoSmo now) same full = absurd full
      by DummyClr same full = absurd full
      by Commit same full = absurd full
      by End same full = absurd full
      by (Image c) same full = absurd full
      by (Checkpoint n a dirty) same full = absurd full
      by Unreadable same full = absurd full

-- ---- beside the change of another

module _ {D : Type 0} (d : Ghosts D) {b : Base} (before : List Effect) (s : Shown) (v : View) (t : ℕ) (old : Engine D d) (r : IsRunning d b before s v old) (other : owner_of (under_of old.under) ≢ Some t) (beside : Beside) (told : IsBesideOf old.under beside) where
  -- that stands in its way
  pub blocked : (w : PageWriter) (disk : D) → IsHiddenBack d b r.base r.now t beside old.disk w disk → IsBlockedBy d b before s v (Continue t) old r
  blocked w disk is = by old.under refl told
    where
      by : (o : Option Under) → old.under ≡ o → IsBesideOf o beside → IsBlockedBy d b before s v (Continue t) old r
      by None none here = absurd (never_hidden (settled b r.now.log) beside (page_of is.entry) (what_of is.entry) here is.why)
      by (Some u) some here = record {
        u = u;
        under = some;
        beside = beside;
        told = here;
        other = ne_eqb u.begun.change.transaction t (λ e. other (ap (λ (x : Option Under). owner_of (under_of x)) some ∙ ap (λ (n : ℕ). Some n) e));
        cause = (logged_at is.next.lsn is.entry, is.next.next, is.why);
      }

  pub some_told : (u : Under) → old.under ≡ Some u → beside.pages.now ≢ []
  some_told u some none = let clash : None ≡ Some u = sym (none_under old.under beside told none) ∙ some in cc clash

  -- what is planned beside it is not barred
  pub never_barred : (u : Under) → old.under ≡ Some u → (two : Beside) → IsToldTo u two → (entry : Entry) → IsSeenNext d b r.base r.now t beside entry → (back : Back) → IsBack (settled_pages b r.now) beside (what_of entry) back
      → Bars (settled b r.now.log) two v.walk r.now.log (Continue t) → ⊥
  never_barred u some two told_two entry next back planned (found, is_next, bars) = by bars
    where
      here : IsToldTo u beside
      here = subst (λ (o : Option Under). IsBesideOf o beside) some told

      pages_same : two.pages.now ≡ beside.pages.now
      pages_same = told_two.pages ∙ sym here.pages

      done_same : two.done ≡ beside.done
      done_same = told_two.done ∙ sym here.done

      found_is : found ≡ logged_at next.next.lsn entry
      found_is = next_same d b r.base r.now t entry next.next found is_next

      page_is : found.page ≡ page_of entry
      page_is = ap (λ (x : Logged). x.page) found_is

      what_is : found.what ≡ what_of entry
      what_is = ap (λ (x : Logged). x.what) found_is

      hidden : ((leaf : ℕ) → IsLeafOf (bodies_of (settled_pages b r.now)) (what_of entry) leaf → is_planned beside leaf ≡ true → ⊥) × (beside.pages.now ≢ [] → NeedsChange (bodies_of (settled_pages b r.now)) (what_of entry) → ⊥)
      hidden = barred_plans_are_hidden (settled_pages b r.now) beside (what_of entry) back (has_tree b page_tree r.now.log r.lawful).good planned

      by : BarsBack (settled b r.now.log) two found.page found.what → ⊥
      by (page_made is) =
          let clash : false ≡ true = sym next.page ∙ ap (is_done beside) (sym page_is) ∙ sym (same_done two beside pages_same done_same found.page) ∙ is in
          cc clash
      by (leaf_planned leaf way is) = hidden.0 leaf (subst (λ (w : What). IsLeafOf (settled b r.now.log) w leaf) what_is way) (sym (same_planned two beside pages_same leaf) ∙ is)
      by (change_needed needs) = hidden.1 (some_told u some) (subst (λ (w : What). NeedsChange (settled b r.now.log) w) what_is needs)

-- ---- refusals

-- beside the change of another only the device or the log refuses it
pub first_refused : {D : Type 0} (d : Ghosts D) (v w : PageWriter) (new : D) (f : Fault) → TurnEnds d may_turn v w new (Some f) → f ≢ NotAStore → ((f ≡ Memory) ⊎ (f ≡ Capacity) → ⊥) → (f ≡ Failed → ⊥) → (told : Fault) → told ≡ told_as f
    → (Refused told ≡ Refused Device) ⊎ (Refused told ≡ Refused LogFull)
first_refused d v w new Device ends sound alone early told is = inl (ap (λ (x : Fault). Refused x) is)
first_refused d v w new LogFull ends sound alone early told is = inr (ap (λ (x : Fault). Refused x) is)
first_refused d v w new Memory ends sound alone early told is = absurd (alone (inl refl))
first_refused d v w new Capacity ends sound alone early told is = absurd (alone (inr refl))
first_refused d v w new Failed ends sound alone early told is = absurd (early refl)
first_refused d v w new NotAStore ends sound alone early told is = absurd (sound refl)
first_refused d v w new g ends sound alone early told is = absurd (let never = ends.0 in cc never)

-- ---- a change of its own that ends

-- is the one under way
pub ends_some : (splits : Bool) (t : ℕ) (under : Option Under) (ends : EndsBack splits t under) (u : Under) → under ≡ Some u → u ≡ ends.u
ends_some splits t under ends u some = let same : Some u ≡ Some ends.u = sym some ∙ ends.is in cc same

-- by what its end answers
ends_as : (splits : Bool) (reply : Reply) → (reply ≡ More) ⊎ (reply ≡ RolledBack) ⊎ (reply ≡ Done) → EndsAs (aim_back splits) reply
ends_as true reply is = is
ends_as false reply is = is

module _ {D : Type 0} (d : Ghosts D) (t : ℕ) (splits : Bool) (old : Engine D d) (ends : EndsBack splits t old.under) where
  own_is : owner_of (under_of old.under) ≡ Some t
  own_is = ap (λ (u : Option Under). owner_of (under_of u)) ends.is ∙ ap (λ (n : ℕ). Some n) ends.owner

  same_u : (u : Under) → old.under ≡ Some u → ends.u ≡ u
  same_u u some = let same : Some ends.u ≡ Some u = sym ends.is ∙ some in cc same

  pub ends_pace : (new : Engine D d) (reply : Reply) → told_by reply ≢ answers.BlockedTree → (((reply ≡ More) ⊎ (reply ≡ RolledBack) ⊎ (reply ≡ Done)) × (new.under ≡ None)) ⊎ IsRefusal reply → IsPaced d (Continue t) reply old new
  ends_pace new reply unblocked how = record {
    tree = λ is. absurd (unblocked is);
    first = λ none b before s v r u some other. absurd (let clash : false ≡ true = sym other ∙ eq-eqb u.begun.change.transaction t (ap (λ (x : Under). x.begun.change.transaction) (sym (same_u u some)) ∙ ends.owner) in cc clash);
    told = λ none u some is.
        elim how [ inl ended ↦ inr (inr (subst (λ (x : Under). EndsAs x.aim reply) (same_u u some) (subst (λ (a : Aim). EndsAs a reply) (sym ends.aim_is) (ends_as splits reply ended.0)))) | inr refused ↦ inl refused ];
    own = λ none b before s v r u some is.
        let same = same_u u some in
        subst (λ (x : Under). GoesOnWith x reply new.under) same (record {
          page = λ left. absurd (omega (arith, left, ends.end));
          end = λ done. elim how [ inl ended ↦ inl (subst (λ (a : Aim). EndsAs a reply) (sym ends.aim_is) (ends_as splits reply ended.0), ended.1) | inr refused ↦ inr refused ];
        });
    others = λ b before s v r not. absurd (not ends.u ends.is (ap Continue (sym ends.owner)));
  }

  pub ends_want : (now : Option views.Under) (pages : Pages) (map : IndexMap) (net : Effect) (Begun : Type 0) (reply : Reply) → (reply ≡ Refused Capacity → ⊥) → (reply ≡ Refused Failed → ⊥) → TurnWants pages map old.stepped (under_of old.under) now t net Begun reply
  ends_want now _ map net Begun reply used late = record {
    short = λ is other. absurd (other own_is);
    used_up = λ is. absurd (used is);
    broken = λ is. absurd (late is);
    begun = λ stepped none. absurd (let clash : None ≡ Some t = sym (ap owner_of none) ∙ own_is in cc clash);
  }

-- ---- a change that is taken back by one that has none of its own

module _ {D : Type 0} (d : Ghosts D) (t : ℕ) (old new : Engine D d) (other : owner_of (under_of old.under) ≢ Some t) where
  never_own : (u : Under) → old.under ≡ Some u → Continue t ≡ Continue u.begun.change.transaction → ⊥
  never_own u some is =
      let same : t ≡ u.begun.change.transaction = cc is in
      other (ap (λ (x : Option Under). owner_of (under_of x)) some ∙ ap (λ (n : ℕ). Some n) (sym same))

  -- it leaves that of another as it was
  pub stays_pace : (reply : Reply) → new.under ≡ old.under → (told_by reply ≡ answers.BlockedTree → (b : Base) (before : List Effect) (s : Shown) (v : View) (r : IsRunning d b before s v old) → IsBlockedBy d b before s v (Continue t) old r)
      → ((b : Base) (before : List Effect) (s : Shown) (v : View) (r : IsRunning d b before s v old) (u : Under) → old.under ≡ Some u → (two : Beside) → IsToldTo u two → Bars (settled b r.now.log) two v.walk r.now.log (Continue t)
      → (told_by reply ≡ answers.BlockedTree) ⊎ (reply ≡ Refused Device) ⊎ (reply ≡ Refused LogFull)) → IsPaced d (Continue t) reply old new
  stays_pace reply kept tree first = record {
    tree = tree;
    first = λ none b before s v r u some differ two told bars. first b before s v r u some two told bars;
    told = λ none u some is. absurd (never_own u some is);
    own = λ none b before s v r u some is. absurd (never_own u some is);
    others = λ b before s v r not. inl (kept_under old.under new.under kept);
  }

  -- or begins one, where there was none
  pub begins_pace : old.stepped ≡ true → is_some new.under ≡ true → ((b : Base) (before : List Effect) (s : Shown) (v : View) → IsRunning d b before s v old → old.under ≡ None) → IsPaced d (Continue t) More old new
  begins_pace stepped some alone = record {
    tree = λ is. absurd (cc is);
    first = λ none b before s v r u under differ two told bars. absurd (let clash : None ≡ Some u = sym (alone b before s v r) ∙ under in cc clash);
    told = λ none u under is. absurd (never_own u under is);
    own = λ none b before s v r u under is. absurd (never_own u under is);
    others = λ b before s v r not. inr (alone b before s v r, stepped, refl, some);
  }

-- what it wants that is no refusal
pub answered_want : (pages : Pages) (map : IndexMap) (stepped : Bool) (was now : Option views.Under) (t : ℕ) (net : Effect) (Begun : Type 0) (reply : Reply) → ((x : Fault) → reply ≢ Refused x) → (NeedsBack pages map net → (reply ≡ More) × (is_some now ≡ true))
    → TurnWants pages map stepped was now t net Begun reply
answered_want _ map stepped was now t net Begun reply not begins = record {
  short = λ is differ. absurd (not Memory is);
  used_up = λ is. absurd (not Capacity is);
  broken = λ is. absurd (not Failed is);
  begun = λ on none needs. inl (begins needs);
}
