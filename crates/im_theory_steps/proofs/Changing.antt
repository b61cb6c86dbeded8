-- Steps of a structure change that is made page by page, and steps of others that it stands in the way of.
use Rattle.std.proofs.Common.{◌≡◌, ◌≢◌, ◌≤◌, inl, inr, arith, ℕ, nat_eq, List, ◌++◌, [], ◌∷◌, length, map, refl, sym, ◌∙◌, ap, subst, true, false, Bool, Option, is_some, cond, None, Some, eq-eqb, ne_eqb}
use Rattle.std.specs.Prelude.{find}
use Rattle.std.specs.FinMap.{empty, get}
use Rattle.im_base_types.specs.Keys.{Key}
use Rattle.im_base_types.specs.Maps.{IndexMap}
use Rattle.im_base_types.specs.Changes.{Change, Effect, Put, Drop, apply_all, undone}
use Rattle.im_base_types.specs.Records.{InsertKey, DeleteKey}
use Rattle.im_base_types.specs.Answers as answers
use Rattle.im_base_types.specs.Answers.{Access, Insert, Delete, Inserted, Deleted, Do, Continue, More, BlockedTree, Done, RolledBack, changes}
use Rattle.im_base_types.specs.Lives.{Shown, effects}
use Rattle.im_base_types.specs.Refusals.{failed as has_failed}
use Rattle.im_theory_log.specs.Tree.{Tree, TreeLaws}
use Rattle.im_theory_log.specs.Histories.{History, Base}
use Rattle.im_theory_log.specs.Lawful as lawful
use Rattle.im_theory_log.specs.Lawful.{Follows}
use Rattle.im_theory_log.specs.Transactions.{net, last_of, undo_next_of, is_finished}
use Rattle.im_theory_log.proofs.LogLaws.{logs_stay_lawful}
use Rattle.im_base_txn.specs.declared.transaction.Mark as marks
use Rattle.im_base_txn.specs.declared.transaction.Mark.TheVariants.{Going, RollingBack, Returning, Committing}
use Rattle.im_base_txn.specs.declared.transaction.Transaction.{Transaction}
use Rattle.im_base_txn.specs.Rows.{is_of, changed, with_mark, with_record}
use Rattle.im_base_txn.specs.LookUps.{without}
use Rattle.im_base_txn.proofs.LookUps.{look_ups_follow}
use Rattle.im_theory_machine.specs.Locks.{Lock, Request, Holds, SameLocks, IsFree, kept}
use Rattle.im_theory_machine.specs.Rows.{asked}
use Rattle.im_theory_machine.specs.Table.{Table, locks_of, lasting_of}
use Rattle.im_theory_machine.specs.Changing.{MatchesWithKept}
use Rattle.im_theory_machine.specs.View.{View, Under, Aim, Puts, Drops, TakesBack, TookBack, Txn, idle, owner_of, pending_for, pending_of, kept_for, kept_lock, locks_in, own_locks, did, did_txn, locked, marked, undid_more, dropped_by, with_change, change_made, is_among, nets_of}
use Rattle.im_theory_machine.specs.Machine.{MayTakeBack, logs_page, drops_leaf, drops_first, takes_later, takes_first, takes_leaf, takes_last, leaf_is_back, tree_blocks, tree_halts, barred, barred_to_continue, or_else, fault_if}
use Rattle.im_theory_machine.proofs.Cited.{changes-serve, by_txn, pending_granted, nets_same}
use Rattle.im_theory_steps.specs.Seen.{IsSeen}
use Rattle.im_theory_steps.specs.Serving.{IsRow, mark_of, IsServing}
use Rattle.im_theory_steps.specs.Steps.{counted, key_record, noted, with_made, with_undone, InsertsBegin, PagesAreServed, InsertsStayFree, InsertsEnd, DeletesBegin, DeletesEnd, TurnsBegin, TurnsEmpty, TurnsDrop, TurnsEnd, TreesBlock, TreesHalt, TurnsOn, takes_back}
use Rattle.im_theory_steps.specs.Undone.{ReturnsDrop}
use Rattle.im_theory_steps.proofs.Asking.{trees_ask_nothing}
use Rattle.im_theory_steps.proofs.Growth.{structure_changes_no_key, same_here, same_then}
use Rattle.im_theory_steps.proofs.Holding.{same_locks, released_locks, free_by_table}
use Rattle.im_theory_steps.proofs.Logging.{adds_behind, count_below, others_say, row_says, deletes_served}
use Rattle.im_theory_steps.proofs.Promises.{granted_keys_free}
use Rattle.im_theory_steps.proofs.Records.{put_adds, drop_adds}
use Rattle.im_theory_steps.proofs.Rolling.{rolling_is}
use Rattle.im_theory_steps.proofs.Rows.{same_at, as_row, counted_at, rows_changed, rows_ended, row_marked, length_map, one_fewer}
use Rattle.im_theory_steps.proofs.Steps.{moves_by, do_passes, continue_passes, taking_passes, mark_free, cases_net, served, at, new_by}
use Rattle.im_theory_steps.proofs.Keeping.{structure_keeps}
use Rattle.im_theory_steps.proofs.Together.{together, marked_seen}

-- ---- what the log and the view say

-- a view with the same maps, queue and nets
pub seen_like : (b : Base) (log : History) (v w : View) → IsSeen b log v → w.committed ≡ v.committed → w.walk ≡ v.walk → w.queue ≡ v.queue → ((u : ℕ) → (w.txns u).net ≡ (v.txns u).net) → IsSeen b log w
seen_like b log v w seen same walk queue nets = record {
  finished = seen.finished;
  all = seen.all ∙ ap (λ (es : List Effect). seen.finished ++ es) (ap (nets_of v.txns) (sym queue) ∙ sym (nets_same v.txns w.txns w.queue nets));
  answered = same ∙ seen.answered;
  walk = walk ∙ seen.walk;
  nets = λ u none. nets u ∙ seen.nets u (ap (is_among u) (sym queue) ∙ none);
  over = λ u some. seen.over u (ap (is_among u) (sym queue) ∙ some);
}

-- ---- whose it is

owned_by : (o : Option Under) (t : ℕ) → owner_of o ≡ Some t → (u : Under) × (o ≡ Some u) × (u.owner ≡ t)
owned_by None t e = let never : None ≡ Some t = e in absurd (cc never)
owned_by (Some u) t e = (u, refl, cc)

none_owns : (o : Option Under) (t : ℕ) → o ≡ None → owner_of o ≢ Some t
none_owns o t none e = let never : None ≡ Some t = sym (ap owner_of none) ∙ e in cc never

other_owns : (o : Option Under) (u : Under) (t : ℕ) → o ≡ Some u → t ≢ u.owner → owner_of o ≢ Some t
other_owns o u t is differ e = let same : Some u.owner ≡ Some t = sym (ap owner_of is) ∙ e in differ cc

-- the Insert or Delete of t that goes on
mine_pending : (o : Option Under) (t : ℕ) (aim : Aim) (a : Access) → o ≡ Some (record { owner = t; aim = aim }) → pending_for aim ≡ Some a → pending_of o t ≡ Some a
mine_pending o t aim a is for = ap (λ (x : Option Under). pending_of x t) is ∙ ap (λ (b : Bool). cond b (pending_for aim) None) (eq-eqb t t refl) ∙ for

-- its owner may go on with it
owner_continues : (v : View) (t : ℕ) (a : Access) → v.failed ≡ false → pending_of v.under t ≡ Some a → barred v (Continue t) ≡ None
owner_continues v t a works is =
    ap (λ (b : Bool). or_else (fault_if b has_failed) (cond (is_some (pending_of v.under t)) None (barred_to_continue ((v.txns t).mark)))) works
    ∙ ap (λ (o : Option Access). cond (is_some o) None (barred_to_continue ((v.txns t).mark))) is

no_lock : (b : Bool) → cond {A = List Lock} b [] [] ≡ []
no_lock true = refl
no_lock false = refl

-- ---- an Insert

pub inserts_begin : InsertsBegin
inserts_begin b earlier before s v older longer rows next old new t row k i h found mark none fits absent decides grows =
    let free = mark_free row.mark Going mark (λ x. cc x) in
    let is = at b earlier before s v older rows next old h t row found free in
    let going : (v.txns t).mark ≡ answers.Going = is.2 ∙ ap mark_of mark in
    let goes = changes-serve.begins v old new h.locks t k i going none absent decides in
    let x : Txn = record (v.txns t) { locks = lasting_of new t } in
    let w = with_change (locked v t (lasting_of new t)) t (Puts k i) in
    let on = structure_changes_no_key b t older longer grows in
    let r = is.1 in
    let g = with_record (last_of t longer) (undo_next_of t longer) in
    let now : IsRow (g row) next longer = record {
      number = r.number;
      below = r.below;
      last = ap (λ (n : ℕ). last_of n longer) (sym is.0);
      undo = ap (λ (n : ℕ). undo_next_of n longer) (sym is.0);
      unfinished = ap (λ (n : ℕ). is_finished n longer) is.0 ∙ on.finished ∙ ap (λ (n : ℕ). is_finished n older) (sym is.0) ∙ r.unfinished;
      changes = r.changes ∙ ap (λ (e : Effect). length e) (sym (on.stays.nets row.number));
    } in
    served b earlier before s v older rows next old h (Do t (Insert k i)) More w longer (noted t longer rows) next new
    (moves_by v w (Do t (Insert k i)) More (do_passes v t h.works (Insert k i) (none_owns v.under t none) going fits) goes.0)
    h.works
    (seen_like b longer v w (together.stays b older longer v h.seen_by on.stays) refl refl refl (by_txn (λ u y. y.net ≡ (v.txns u).net) v.txns t x refl (λ u differ. refl)))
    on.stays.commits
    refl
    (record {
      each = rows_changed t next older longer rows v.txns x g row (λ y. refl) on.others h.table.each found is.0 (as_row row.mark (g row) next longer free now) is.2;
      active = h.table.active ∙ sym (length_map (changed t g) rows);
      numbers = h.table.numbers;
    })
    goes.1

pub pages_served : PagesAreServed
pages_served b earlier before s v older longer rows next held t row h found free owner passes grows =
    let on = structure_keeps b earlier before s v older longer rows next held t row h found free grows in
    let u = owned_by v.under t owner in
    served b earlier before s v longer (noted t longer rows) next held on (Continue t) More v longer (noted t longer rows) next held
    (moves_by v v (Continue t) More passes (logs_page t u.0 refl u.1 u.2 refl refl))
    on.works on.seen_by refl refl on.table on.locks

-- what its Insert asks is free beside the lock that it keeps
free_in : (v : View) (t : ℕ) (k : Key) (i : ℕ) (row : List Request) → v.under ≡ Some (record { owner = t; aim = Puts k i }) → IsFree (λ s. (v.txns s).locks) t row → IsFree (locks_in v) t row
free_in v t k i row is free s p = free s (record {
  name = p.name;
  mode = p.mode;
  theirs = p.theirs;
  other = p.other;
  ask = p.ask;
  held = subst (λ (ks : List Lock). Holds (ks ++ (v.txns s).locks) p.name p.theirs)
      (ap (λ (o : Option Under). kept_lock o v.walk s) is ∙ ap (λ (b : Bool). cond b (kept_for (Puts k i) v.walk) []) (ne_eqb t s (λ e. p.other (sym e)))) p.held;
  exclusive = p.exclusive;
})

module _ (b : Base) (earlier before : List Effect) (s : Shown) (v : View) (older : History) (rows : List Transaction) (next : ℕ) (held : Table) (t : ℕ) (k : Key) (i : ℕ) (h : IsServing b earlier before s v older rows next held)
    (under : v.under ≡ Some (record { owner = t; aim = Puts k i })) (going : (v.txns t).mark ≡ answers.Going) where
  lacks : get v.walk k ≡ None
  lacks = (pending_granted (apply_all empty before) v h.reached h.works t k i under).0.absent

  one_put : changes (Insert k i) v.walk ≡ Put k i ∷ []
  one_put = ap (λ (o : Option ℕ). cond (is_some o) [] (Put k i ∷ [])) lacks

  key_free : (between : History) → IsSeen b between v → lawful.IsFree t k between
  key_free between seen = granted_keys_free _ b between v t (Insert k i) (Put k i) h.reached seen h.works going (free_in v t k i (asked (Insert k i) v.walk) under (pending_granted (apply_all empty before) v h.reached h.works t k i under).1) one_put

pub inserts_free : InsertsStayFree
inserts_free b earlier before s v older rows next held t row k i h found mark under =
    let is = at b earlier before s v older rows next held h t row found (mark_free row.mark Going mark (λ x. cc x)) in
    let going : (v.txns t).mark ≡ answers.Going = is.2 ∙ ap mark_of mark in (
      ap (λ (m : IndexMap). get m k) (sym h.seen_by.walk) ∙ lacks b earlier before s v older rows next held t k i h under going,
      key_free b earlier before s v older rows next held t k i h under going older h.seen_by,
    )

pub inserts_end : (tree : Tree) → TreeLaws tree → InsertsEnd tree
inserts_end tree laws b earlier before s v older between rows next old new t last lsn page row k i h found mark under way law out apart can rises fallen =
    let free = mark_free row.mark Going mark (λ x. cc x) in
    let is = at b earlier before s v older rows next old h t row found free in
    let going : (v.txns t).mark ≡ answers.Going = is.2 ∙ ap mark_of mark in
    let newest = key_record t last lsn page (InsertKey k i) in
    let longer = newest ∷ between in
    let absent = lacks b earlier before s v older rows next old t k i h under going in
    let one = one_put b earlier before s v older rows next old t k i h under going in
    let here = together.stays b older between v h.seen_by way.stays in
    let follows : Follows b tree newest between = record {
      rises = rises;
      chained = λ owned. record { number = subst (λ (n : ℕ). 1 ≤ n) is.0 is.1.number; prev = sym way.newest; unfinished = way.unfinished };
      may = record {
        no_undo_next = refl;
        outside = out;
        free = key_free b earlier before s v older rows next old t k i h under going between here;
        absent = ap (λ (m : IndexMap). get m k) (sym here.walk) ∙ absent;
        can_put = can;
        not_in = apart;
      };
    } in
    let adds = adds_behind b t (Put k i) older between longer way.stays (put_adds b between newest t refl k i refl) in
    let goes = changes-serve.ends v old new h.locks t k i going under fallen in
    let done = did v t (Insert k i) (own_locks v t) in
    let w = change_made done in
    let new_one = new_by b earlier before s v older rows next old h t answers.Going going (λ x. cc x) in
    record {
      lawful = logs_stay_lawful tree laws b between newest law follows (λ e. absurd cc);
      served = served b earlier before s v older rows next old h (Continue t) Inserted w longer (counted t lsn rows) next new
          (moves_by v w (Continue t) Inserted (owner_continues v t (Insert k i) h.works (mine_pending v.under t (Puts k i) (Insert k i) under refl)) goes.0)
          h.works
          (seen_like b longer done w (together.adds b older longer v t (Insert k i) (Put k i) (own_locks v t) h.seen_by new_one one adds) refl refl refl (λ u. refl))
          adds.commits
          refl
          (record {
            each = rows_changed t next older longer rows v.txns (did_txn (v.txns t) (Insert k i) v.walk (own_locks v t)) (with_made lsn) row (λ y. refl)
                (λ u differ. same_then u older between longer (way.others u differ) (others_say between t last lsn page (InsertKey k i) (Put k i) refl refl refl refl u differ))
                h.table.each found is.0
                (as_row row.mark (with_made lsn row) next longer free (row_says between t last lsn page (InsertKey k i) (Put k i) refl refl refl refl row next is.0 is.1.number is.1.below way.unfinished (counted_at t next older row is.0 is.1 ∙ ap (λ (e : Effect). length e) (sym (way.stays.nets t))) (count_below tree b between t lsn law rises)))
                (sym (ap mark_of mark));
            active = h.table.active ∙ sym (length_map (changed t (with_made lsn)) rows);
            numbers = h.table.numbers;
          })
          goes.1;
    }

-- ---- a change that keeps no lock begins and ends

module _ (v : View) (held : Table) (h : MatchesWithKept v held) where
  -- it begins where none was under way
  begins_bare : (t : ℕ) (aim : Aim) → v.under ≡ None → ((w : IndexMap) → kept_for aim w ≡ []) → MatchesWithKept (with_change v t aim) held
  begins_bare t aim none bare = record {
    lasting = h.lasting;
    held = λ u. subst (λ (ks : List Lock). SameLocks (ks ++ own_locks v u) (locks_of held u))
        (ap (λ (o : Option Under). kept_lock o v.walk u) none ∙ sym (ap (λ (ks : List Lock). cond (nat_eq t u) ks []) (bare v.walk) ∙ no_lock (nat_eq t u))) (h.held u);
  }

  -- and ends
  ends_bare : (t : ℕ) (aim : Aim) → v.under ≡ Some (record { owner = t; aim = aim }) → ((w : IndexMap) → kept_for aim w ≡ []) → MatchesWithKept (change_made v) held
  ends_bare t aim is bare = record {
    lasting = h.lasting;
    held = λ u. subst (λ (ks : List Lock). SameLocks (ks ++ own_locks v u) (locks_of held u))
        (ap (λ (o : Option Under). kept_lock o v.walk u) is ∙ ap (λ (ks : List Lock). cond (nat_eq t u) ks []) (bare v.walk) ∙ no_lock (nat_eq t u)) (h.held u);
  }

-- ---- a Delete

pub deletes_begin : (tree : Tree) → TreeLaws tree → DeletesBegin tree
deletes_begin tree laws b earlier before s v older between rows next old new t last lsn page row k i h found mark none fits way law out apart there decides can rises =
    let unowned = none_owns v.under t none in
    let is = at b earlier before s v older rows next old h t row found (mark_free row.mark Going mark (λ x. cc x)) in
    let going : (v.txns t).mark ≡ answers.Going = is.2 ∙ ap mark_of mark in
    let newest = key_record t last lsn page (DeleteKey k i) in
    let longer = newest ∷ between in
    let done = did v t (Delete k) (lasting_of new t) in
    let w = with_change done t (Drops k) in
    let at_once = deletes_served tree laws b earlier before s v older between rows next old new t last lsn page row k i h found mark unowned fits way law out apart there decides can rises in
    let on = at_once.served.1 in
    let has : get v.walk k ≡ Some i = ap (λ (m : IndexMap). get m k) h.seen_by.walk ∙ there in
    let free : IsFree (locks_in v) t (asked (Delete k) v.walk) = free_by_table v old t (asked (Delete k) v.walk) h.locks decides.0 in
    let lasts : SameLocks (lasting_of new t) (kept (asked (Delete k) v.walk) ((v.txns t).locks)) = subst (λ (ls : List Lock). SameLocks (lasting_of new t) (kept (asked (Delete k) v.walk) ls)) (sym (h.locks.lasting t)) decides.1.lasting in
    record {
      lawful = at_once.lawful;
      served = served b earlier before s v older rows next old h (Do t (Delete k)) More w longer (counted t lsn rows) next new
          (moves_by v w (Do t (Delete k)) More (do_passes v t h.works (Delete k) unowned going fits) (drops_first t k i (lasting_of new t) refl going none has free lasts refl refl))
          h.works
          (seen_like b longer done w on.seen_by refl refl refl (λ u. refl))
          (adds_behind b t (Drop k i) older between longer way.stays (drop_adds b between newest t refl k i refl)).commits
          refl
          (record { each = on.table.each; active = on.table.active; numbers = on.table.numbers })
          (begins_bare done new on.locks t (Drops k) none (λ m. refl));
    }

pub deletes_end : DeletesEnd
deletes_end b earlier before s v older longer rows next held t row k h found mark under grows =
    let free = mark_free row.mark Going mark (λ x. cc x) in
    let is = at b earlier before s v older rows next held h t row found free in
    let going : (v.txns t).mark ≡ answers.Going = is.2 ∙ ap mark_of mark in
    let on = structure_keeps b earlier before s v older longer rows next held t row h found free grows in
    let w = change_made v in
    let pending : pending_of v.under t ≡ Some (Delete k) = mine_pending v.under t (Drops k) (Delete k) under refl in
    served b earlier before s v longer (noted t longer rows) next held on (Continue t) Deleted w longer (noted t longer rows) next held
    (moves_by v w (Continue t) Deleted (owner_continues v t (Delete k) h.works pending) (drops_leaf t k refl going under refl refl))
    on.works
    (seen_like b longer v w on.seen_by refl refl refl (λ u. refl))
    refl
    refl
    (record { each = on.table.each; active = on.table.active; numbers = on.table.numbers })
    (ends_bare v held on.locks t (Drops k) under (λ m. refl))

-- ---- a change that is taken back

module _ (b : Base) (earlier before : List Effect) (s : Shown) (v : View) (older : History) (rows : List Transaction) (next : ℕ) (held : Table) (t : ℕ) (row : Transaction) (h : IsServing b earlier before s v older rows next held) (found : find (is_of t) rows ≡ Some row) (turns : TurnsOn row) where
  turns_free : row.mark ≡ Committing → ⊥
  turns_free = elim turns [ inl rolling ↦ mark_free row.mark RollingBack rolling (λ x. cc x) | inr back ↦ mark_free row.mark (Returning back.0) back.1 (λ x. cc x) ]

  turns_at : (row.number ≡ t) × IsRow row next older × ((v.txns t).mark ≡ mark_of row.mark)
  turns_at = at b earlier before s v older rows next held h t row found turns_free

  turns_marked : takes_back ((v.txns t).mark) ≡ true
  turns_marked = ap takes_back turns_at.2 ∙ elim turns [ inl rolling ↦ ap (λ (m : marks.Mark). takes_back (mark_of m)) rolling | inr back ↦ ap (λ (m : marks.Mark). takes_back (mark_of m)) back.1 ]

  -- it waits for no force
  turns_new : is_among t v.queue ≡ false
  turns_new = new_by b earlier before s v older rows next held h t ((v.txns t).mark) refl (λ waits. let never : takes_back answers.Committing ≡ true = sym (ap takes_back waits) ∙ turns_marked in cc never)

  turns_count : row.changes ≡ length ((v.txns t).net)
  turns_count = counted_at t next older row turns_at.0 turns_at.1 ∙ ap (λ (e : Effect). length e) (sym (h.seen_by.nets t turns_new))

  -- it may take its newest change back
  turns_may : (c : Change) (cs : List Change) → (v.txns t).net ≡ c ∷ cs → MayTakeBack ((v.txns t).mark) cs
  turns_may c cs net_is = elim turns [
    | inl rolling ↦ inl (turns_at.2 ∙ ap mark_of rolling)
    | inr back ↦
        let count = turns_count ∙ ap (λ (e : Effect). length e) net_is in
        inr (back.0, turns_at.2 ∙ ap mark_of back.1, omega (arith, back.2, count))
  ]

  -- it has one to take back
  turns_has : v.under ≡ None → (v.txns t).net ≢ []
  turns_has none nothing = elim turns [
    | inl rolling ↦ (let never : None ≡ Some (record { owner = t; aim = TookBack }) = sym none ∙ rolling_is (apply_all empty before) v h.reached t (turns_at.2 ∙ ap mark_of rolling) nothing in cc never)
    | inr back ↦ (let count = turns_count ∙ ap (λ (e : Effect). length e) nothing in absurd (omega (arith, back.2, count)))
  ]

pub turns_begin : TurnsBegin
turns_begin b earlier before s v older longer rows next held t row h found turns none grows =
    let on = structure_keeps b earlier before s v older longer rows next held t row h found (turns_free b earlier before s v older rows next held t row h found turns) grows in
    let more = cases_net ((v.txns t).net) (turns_has b earlier before s v older rows next held t row h found turns none) in
    let w = with_change v t TakesBack in
    served b earlier before s v longer (noted t longer rows) next held on (Continue t) More w longer (noted t longer rows) next held
    (moves_by v w (Continue t) More (taking_passes v t h.works (turns_marked b earlier before s v older rows next held t row h found turns))
    (takes_later t more.0 more.1 refl (turns_may b earlier before s v older rows next held t row h found turns more.0 more.1 more.2) none more.2 refl refl))
    on.works
    (seen_like b longer v w on.seen_by refl refl refl (λ u. refl))
    refl
    refl
    (record { each = on.table.each; active = on.table.active; numbers = on.table.numbers })
    (begins_bare v held on.locks t TakesBack none (λ m. refl))

pub turns_empty : TurnsEmpty
turns_empty b earlier before s v older longer rows next held t last undo_next row c h found turns none on others now_row =
    let free = turns_free b earlier before s v older rows next held t row h found turns in
    let is = turns_at b earlier before s v older rows next held t row h found turns in
    let new_one = turns_new b earlier before s v older rows next held t row h found turns in
    let rest = net t longer in
    let net_is : (v.txns t).net ≡ c ∷ rest = h.seen_by.nets t new_one ∙ on.own in
    let x : Txn = record (v.txns t) { net = rest } in
    let done = undid_more v t c rest in
    let w = with_change done t TookBack in
    served b earlier before s v older rows next held h (Continue t) More w longer (map (changed t (with_undone last undo_next)) rows) next held
    (moves_by v w (Continue t) More (taking_passes v t h.works (turns_marked b earlier before s v older rows next held t row h found turns))
    (takes_first t c rest refl (turns_may b earlier before s v older rows next held t row h found turns c rest net_is) none net_is refl refl))
    h.works
    (seen_like b longer done w (together.takes_back b older longer v t c rest h.seen_by new_one net_is on) refl refl refl (λ u. refl))
    on.commits
    refl
    (record {
      each = rows_changed t next older longer rows v.txns x (with_undone last undo_next) row (λ y. refl) others h.table.each found is.0 (as_row row.mark (with_undone last undo_next row) next longer free now_row) is.2;
      active = h.table.active ∙ sym (length_map (changed t (with_undone last undo_next)) rows);
      numbers = h.table.numbers;
    })
    (let locks = same_locks v held t x h.locks refl (Some (record { owner = t; aim = TookBack })) (undone v.walk c) (λ u. no_lock (nat_eq t u) ∙ sym (ap (λ (o : Option Under). kept_lock o v.walk u) none)) in
    record { lasting = locks.0; held = locks.1 })

pub turns_drop : TurnsDrop
turns_drop b earlier before s v older longer rows next held t row h found turns under left grows =
    let on = structure_keeps b earlier before s v older longer rows next held t row h found (turns_free b earlier before s v older rows next held t row h found turns) grows in
    let more = cases_net (net t longer) left in
    let net_is = on.seen_by.nets t (turns_new b earlier before s v older rows next held t row h found turns) ∙ more.2 in
    let w = change_made v in
    served b earlier before s v longer (noted t longer rows) next held on (Continue t) More w longer (noted t longer rows) next held
    (moves_by v w (Continue t) More (taking_passes v t h.works (turns_marked b earlier before s v older rows next held t row h found turns))
    (takes_leaf t more.0 more.1 refl (turns_may b earlier before s v older rows next held t row h found turns more.0 more.1 net_is) under net_is refl refl))
    on.works
    (seen_like b longer v w on.seen_by refl refl refl (λ u. refl))
    refl
    refl
    (record { each = on.table.each; active = on.table.active; numbers = on.table.numbers })
    (ends_bare v held on.locks t TookBack under (λ m. refl))

-- of one that returns, and has as many changes as it returns to
pub returns_drop : ReturnsDrop
returns_drop b earlier before s v older longer rows next held t n row h found mark under left grows =
    let free = mark_free row.mark (Returning n) mark (λ x. cc x) in
    let is = at b earlier before s v older rows next held h t row found free in
    let back : (v.txns t).mark ≡ answers.Returning n = is.2 ∙ ap mark_of mark in
    let on = structure_keeps b earlier before s v older longer rows next held t row h found free grows in
    let count : length ((v.txns t).net) ≡ n = ap (λ (e : Effect). length e) (h.seen_by.nets t (new_by b earlier before s v older rows next held h t (answers.Returning n) back (λ x. cc x))) ∙ sym (counted_at t next older row is.0 is.1) ∙ sym left in
    let mid = change_made v in
    let x : Txn = record (v.txns t) { mark = answers.Going } in
    let w = change_made (marked v t answers.Going) in
    let found_now : find (is_of t) (noted t longer rows) ≡ Some (with_record (last_of t longer) (undo_next_of t longer) row) = look_ups_follow.changed_own t (with_record (last_of t longer) (undo_next_of t longer)) (λ y. refl) rows row found in
    let row_now = with_record (last_of t longer) (undo_next_of t longer) row in
    let at_now = at b earlier before s v longer (noted t longer rows) next held on t row_now found_now free in
    let bare = ends_bare v held on.locks t TookBack under (λ m. refl) in
    served b earlier before s v longer (noted t longer rows) next held on (Continue t) Done w longer (map (changed t (with_mark Going)) (noted t longer rows)) next held
    (moves_by v w (Continue t) Done (taking_passes v t h.works (ap takes_back back)) (leaf_is_back t n refl back under count refl refl))
    on.works
    (seen_like b longer (marked v t answers.Going) w (marked_seen b longer v t answers.Going on.seen_by) refl refl refl (λ u. refl))
    refl
    refl
    (record {
      each = rows_changed t next longer longer (noted t longer rows) v.txns x (with_mark Going) row_now (λ y. refl) (λ u differ. same_here u longer) on.table.each found_now at_now.0 (row_marked Going row_now next longer at_now.1) refl;
      active = on.table.active ∙ sym (length_map (changed t (with_mark Going)) (noted t longer rows));
      numbers = on.table.numbers;
    })
    (let locks = same_locks mid held t x bare refl None v.walk (λ u. refl) in record { lasting = locks.0; held = locks.1 })

pub turns_end : TurnsEnd
turns_end b earlier before s v older longer rows next old new t row h found mark under none stays others over stack released once =
    let is = at b earlier before s v older rows next old h t row found (mark_free row.mark RollingBack mark (λ x. cc x)) in
    let rolling : (v.txns t).mark ≡ answers.RollingBack = is.2 ∙ ap mark_of mark in
    let new_one = new_by b earlier before s v older rows next old h t answers.RollingBack rolling (λ x. cc x) in
    let here = together.stays b older longer v h.seen_by stays in
    let empty_net : (v.txns t).net ≡ [] = here.nets t new_one ∙ none in
    let w = change_made (dropped_by v t) in
    let bare : (u : ℕ) → kept_lock v.under v.walk u ≡ [] = λ u. ap (λ (o : Option Under). kept_lock o v.walk u) under ∙ no_lock (nat_eq t u) in
    served b earlier before s v older rows next old h (Continue t) RolledBack w longer (without t rows) next new
    (moves_by v w (Continue t) RolledBack (continue_passes v t h.works rolling) (takes_last t refl rolling under empty_net refl refl))
    h.works
    (seen_like b longer v w here refl refl refl (by_txn (λ u y. y.net ≡ (v.txns u).net) v.txns t idle (sym empty_net) (λ u differ. refl)))
    stays.commits
    refl
    (record {
      each = rows_ended t next older longer rows v.txns others h.table.each (over, stack, refl);
      active = one_fewer v.active (length rows) (length (without t rows)) h.table.active once;
      numbers = h.table.numbers;
    })
    (let locks = released_locks v old new t h.locks released None v.walk refl (λ u differ. sym (bare u)) in
    record { lasting = locks.0; held = locks.1 })

-- ---- in the way of others

pub trees_block : TreesBlock
trees_block b earlier before s v older longer rows next held t row a u h found mark under differ fits stays all =
    let is = at b earlier before s v older rows next held h t row found (mark_free row.mark Going mark (λ x. cc x)) in
    let going : (v.txns t).mark ≡ answers.Going = is.2 ∙ ap mark_of mark in
    served b earlier before s v older rows next held h (Do t a) BlockedTree v longer rows next held
    (moves_by v v (Do t a) BlockedTree (do_passes v t h.works a (other_owns v.under u t under differ) going fits) (tree_blocks t a u refl under differ refl refl))
    h.works
    (together.stays b older longer v h.seen_by stays)
    stays.commits
    (ap effects (trees_ask_nothing s t a))
    (record { each = λ n. same_at n next older longer (all n) (find (is_of n) rows) (v.txns n) (h.table.each n); active = h.table.active; numbers = h.table.numbers })
    h.locks

pub trees_halt : TreesHalt
trees_halt b earlier before s v older longer rows next held t row u h found mark under differ stays all =
    let is = at b earlier before s v older rows next held h t row found (λ waits. let never : takes_back (mark_of Committing) ≡ true = sym (ap (λ (m : marks.Mark). takes_back (mark_of m)) waits) ∙ mark in cc never) in
    served b earlier before s v older rows next held h (Continue t) BlockedTree v longer rows next held
    (moves_by v v (Continue t) BlockedTree (taking_passes v t h.works (ap takes_back is.2 ∙ mark)) (tree_halts t u refl under differ refl refl))
    h.works
    (together.stays b older longer v h.seen_by stays)
    stays.commits
    refl
    (record { each = λ n. same_at n next older longer (all n) (find (is_of n) rows) (v.txns n) (h.table.each n); active = h.table.active; numbers = h.table.numbers })
    h.locks
