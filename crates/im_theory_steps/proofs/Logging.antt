-- A key record that was granted its locks, a Commit and a Checkpoint, logged.
use Rattle.std.proofs.Common.{◌≡◌, ◌≢◌, ◌≤◌, ◌<◌, ◌+◌, suc, ℕ, List, [], ◌∷◌, ◌++◌, length, refl, sym, ◌∙◌, ap, subst, cond, is_some, Bool, true, false, Option, None, Some, arith, lt-ltb}
use Rattle.std.specs.Prelude.{find, if◌then◌else◌, ◌==◌, ◌||◌}
use Rattle.std.specs.FinMap.{get}
use Rattle.std.proofs.lemmas.Bool.{eq-eqb, cond-true}
use Rattle.im_base_types.specs.Maps.{IndexMap}
use Rattle.im_base_types.specs.Changes.{Change, Effect, Put, Drop, applied, key_of}
use Rattle.im_base_types.specs.Records.{What, InsertKey, DeleteKey, Commit as CommitRecord, Logged}
use Rattle.im_theory_log.specs.Tree.{Tree, TreeLaws}
use Rattle.im_theory_log.specs.Histories.{History, Base, end_of}
use Rattle.im_theory_log.specs.Lawful.{Follows, IsChained, IsLawful}
use Rattle.im_theory_log.proofs.Cited.{rises as log_rises}
use Rattle.im_theory_log.specs.Lawful as lawful
use Rattle.im_theory_log.proofs.LogLaws.{logs_stay_lawful}
use Rattle.im_theory_log.specs.Transactions.{last_of, undo_next_of, undo_from, to_undo, stack_after, is_finished, is_end, net, change_of, changes_of}
use Rattle.im_base_types.specs.Answers as answers
use Rattle.im_base_types.specs.Answers.{Access, Insert, Delete, Inserted, Deleted, Duplicate, Absent, Do, Reply, answer, changes, dropped}
use Rattle.im_base_types.specs.Lives.{Shown}
use Rattle.im_base_txn.specs.declared.transaction.Mark.TheVariants.{Going}
use Rattle.im_base_txn.specs.declared.transaction.Transaction.{Transaction}
use Rattle.im_base_txn.specs.Rows.{is_of}
use Rattle.im_theory_machine.specs.Table.{Table, lasting_of, Decides}
use Rattle.im_theory_machine.specs.declared.verdict.Verdict.TheVariants.{Granted}
use Rattle.im_theory_machine.specs.Machine.{keys_fit}
use Rattle.im_theory_machine.specs.Rows.{asked}
use Rattle.im_theory_machine.specs.View.{View, owner_in, did}
use Rattle.im_theory_steps.specs.Growth.{Stays, Adds, IsOfOthers}
use Rattle.im_theory_steps.specs.Serving.{IsServing, IsServed, IsRow, mark_of}
use Rattle.im_theory_steps.specs.Steps.{counted, with_made, key_record, commit_record, IsOnTheWay, InsertsAreServed, DeletesAreServed, LoggedCommitsAreServed, LoggedCommitsWait, LoggedCheckpointsAreServed}
use Rattle.im_theory_steps.proofs.Growth.{same_by, same_then, checkpoints_change_nothing}
use Rattle.im_theory_steps.proofs.Promises.{granted_keys_free}
use Rattle.im_theory_steps.proofs.Records.{put_adds, drop_adds, commit_commits}
use Rattle.im_theory_steps.proofs.Together.{together}
use Rattle.im_theory_steps.proofs.Holding.{free_by_table}
use Rattle.im_theory_steps.proofs.Counts.{counts_fit}
use Rattle.im_theory_steps.proofs.Rows.{counted_at}
use Rattle.im_theory_steps.proofs.Steps.{at, mark_free, changes_served, commits_served, commits_wait, checkpoints_served}

-- what a key record says of its transaction
module _ (older : History) (t last lsn page : ℕ) (w : What) (c : Change) (no_end : is_end w ≡ false) (from : undo_from (key_record t last lsn page w) w ≡ lsn)
    (stacked : stack_after (key_record t last lsn page w) w (to_undo t older) ≡ key_record t last lsn page w ∷ to_undo t older) (one : change_of w ≡ c ∷ []) where
  abbrev r : Logged
  r = key_record t last lsn page w

  own : {A : Type 0} (x y : A) → (if t == t then x else y) ≡ x
  own x y = cond-true (t == t) x y (eq-eqb t t refl)

  pub others_say : IsOfOthers t older (r ∷ older)
  others_say u differ = same_by u r older (λ e. differ (sym e))

  net_is : net t (r ∷ older) ≡ c ∷ net t older
  net_is = ap changes_of (own (stack_after r w (to_undo t older)) (to_undo t older) ∙ stacked) ∙ ap (λ (e : Effect). e ++ net t older) one

  pub row_says : (row : Transaction) (next : ℕ) → row.number ≡ t → 1 ≤ row.number → row.number < next → is_finished t older ≡ false → row.changes ≡ length (net t older) → length (net t older) < lsn → IsRow (with_made lsn row) next (r ∷ older)
  row_says row next is number below unfinished count low = record {
    number = number;
    below = below;
    last = sym (at_number (λ n. last_of n (r ∷ older)) (own lsn (last_of t older)));
    undo = sym (at_number (λ n. undo_next_of n (r ∷ older)) (own (undo_from r w) (undo_next_of t older) ∙ from));
    unfinished = at_number (λ n. is_finished n (r ∷ older)) (own (is_end w || is_finished t older) (is_finished t older) ∙ ap (λ (b : Bool). b || is_finished t older) no_end ∙ unfinished);
    changes =
        let now : length (net row.number (r ∷ older)) ≡ suc (length (net t older)) = at_number (λ n. length (net n (r ∷ older))) (ap (λ (e : Effect). length e) net_is) in
        let fewer : row.changes < lsn = omega (arith, count, low) in
        let more : row.changes + 1 ≡ length (net row.number (r ∷ older)) = omega (arith, now, count) in
        ap (λ (b : Bool). if b then row.changes + 1 else row.changes) (lt-ltb row.changes lsn fewer) ∙ more;
  }
    where
      at_number : {A : Type 0} {x : A} (f : ℕ → A) → f t ≡ x → f row.number ≡ x
      at_number f e = ap f is ∙ e

-- a lawful log has fewer changes of a transaction than LSNs
pub count_below : (tree : Tree) (b : Base) (log : History) (t lsn : ℕ) → IsLawful b tree log → end_of b log < lsn → length (net t log) < lsn
count_below tree b log t lsn law high =
    let few = counts_fit b log t (log_rises b tree log law) in
    omega (arith, few, high)

-- a change after records that change no key
pub adds_behind : (b : Base) (t : ℕ) (c : Change) (older between longer : History) → Stays b older between → Adds b t c between longer → Adds b t c older longer
adds_behind b t c older between longer stays on = record {
  commits = on.commits ∙ stays.commits;
  walk = on.walk ∙ ap (λ (m : IndexMap). applied m c) stays.walk;
  own = on.own ∙ ap (λ (e : Effect). c ∷ e) (stays.nets t);
  others = λ u differ. on.others u differ ∙ stays.nets u;
}

module _ (b : Base) (earlier before : List Effect) (s : Shown) (v : View) (older : History) (rows : List Transaction) (next : ℕ) (old : Table) (t : ℕ) (row : Transaction) (h : IsServing b earlier before s v older rows next old) (found : find (is_of t) rows ≡ Some row) (mark : row.mark ≡ Going) where
  is_at : (row.number ≡ t) × IsRow row next older × ((v.txns t).mark ≡ mark_of row.mark)
  is_at = at b earlier before s v older rows next old h t row found (mark_free row.mark Going mark (λ x. cc x))

  going : (v.txns t).mark ≡ answers.Going
  going = is_at.2 ∙ ap mark_of mark

  -- what a key record of t says of a step that was granted its locks
  module _ (last : ℕ) (between : History) (way : IsOnTheWay b t last older between) (new : Table) (a : Access) (c : Change) (lsn page : ℕ) (w : What) (unowned : owner_in v ≢ Some t) (fits : keys_fit a ≡ true) (one : changes a v.walk ≡ c ∷ []) (decides : Decides old t (asked a v.walk) Granted new) where
    chained : IsChained (key_record t last lsn page w) between
    chained = record { number = subst (λ (n : ℕ). 1 ≤ n) is_at.0 is_at.1.number; prev = sym way.newest; unfinished = way.unfinished }

    key_free : lawful.IsFree t (key_of c) between
    key_free = granted_keys_free _ b between v t a c h.reached (together.stays b older between v h.seen_by way.stays) h.works going (free_by_table v old t (asked a v.walk) h.locks decides.0) one

    logged : length (net t between) < lsn → is_end w ≡ false → undo_from (key_record t last lsn page w) w ≡ lsn → stack_after (key_record t last lsn page w) w (to_undo t between) ≡ key_record t last lsn page w ∷ to_undo t between → change_of w ≡ c ∷ []
        → Adds b t c between (key_record t last lsn page w ∷ between) → IsServed b earlier before s v (Do t a) (answer a v.walk) (did v t a (lasting_of new t)) (key_record t last lsn page w ∷ between) (counted t lsn rows) next new
    logged low no_end from stacked makes adds =
        let newest = key_record t last lsn page w in
        changes_served b earlier before s v older (newest ∷ between) rows next old new t lsn row a c h found mark unowned fits one decides
        (adds_behind b t c older between (newest ∷ between) way.stays adds)
        (λ u differ. same_then u older between (newest ∷ between) (way.others u differ) (others_say between t last lsn page w c no_end from stacked makes u differ))
        (row_says between t last lsn page w c no_end from stacked makes row next is_at.0 is_at.1.number is_at.1.below way.unfinished (counted_at t next older row is_at.0 is_at.1 ∙ ap (λ (e : Effect). length e) (sym (way.stays.nets t))) low)

pub inserts_served : (tree : Tree) → TreeLaws tree → InsertsAreServed tree
inserts_served tree laws b earlier before s v older between rows next old new t last lsn page row k i h found mark unowned fits way law out apart absent decides can rises =
    let lacks : get v.walk k ≡ None = ap (λ (m : IndexMap). get m k) h.seen_by.walk ∙ absent in
    let one : changes (Insert k i) v.walk ≡ Put k i ∷ [] = ap (λ (o : Option ℕ). cond (is_some o) [] (Put k i ∷ [])) lacks in
    let says : answer (Insert k i) v.walk ≡ Inserted = ap (λ (o : Option ℕ). cond (is_some o) Duplicate Inserted) lacks in
    let newest = key_record t last lsn page (InsertKey k i) in
    let w = did v t (Insert k i) (lasting_of new t) in
    let follows : Follows b tree newest between = record {
      rises = rises;
      chained = λ owned. chained b earlier before s v older rows next old t row h found mark last between way new (Insert k i) (Put k i) lsn page (InsertKey k i) unowned fits one decides;
      may = record {
        no_undo_next = refl;
        outside = out;
        free = key_free b earlier before s v older rows next old t row h found mark last between way new (Insert k i) (Put k i) lsn page (InsertKey k i) unowned fits one decides;
        absent = ap (λ (m : IndexMap). get m k) way.stays.walk ∙ absent;
        can_put = can;
        not_in = apart;
      };
    } in
    let served = logged b earlier before s v older rows next old t row h found mark last between way new (Insert k i) (Put k i) lsn page (InsertKey k i) unowned fits one decides (count_below tree b between t lsn law rises) refl refl refl refl (put_adds b between newest t refl k i refl) in
    record {
      lawful = logs_stay_lawful tree laws b between newest law follows (λ e. absurd cc);
      served = subst (λ (reply : Reply). IsServed b earlier before s v (Do t (Insert k i)) reply w (newest ∷ between) (counted t lsn rows) next new) says served;
    }

pub deletes_served : (tree : Tree) → TreeLaws tree → DeletesAreServed tree
deletes_served tree laws b earlier before s v older between rows next old new t last lsn page row k i h found mark unowned fits way law out apart there decides can rises =
    let has : get v.walk k ≡ Some i = ap (λ (m : IndexMap). get m k) h.seen_by.walk ∙ there in
    let one : changes (Delete k) v.walk ≡ Drop k i ∷ [] = ap (dropped k) has in
    let says : answer (Delete k) v.walk ≡ Deleted = ap (λ (o : Option ℕ). cond (is_some o) Deleted Absent) has in
    let newest = key_record t last lsn page (DeleteKey k i) in
    let w = did v t (Delete k) (lasting_of new t) in
    let follows : Follows b tree newest between = record {
      rises = rises;
      chained = λ owned. chained b earlier before s v older rows next old t row h found mark last between way new (Delete k) (Drop k i) lsn page (DeleteKey k i) unowned fits one decides;
      may = record {
        no_undo_next = refl;
        outside = out;
        free = key_free b earlier before s v older rows next old t row h found mark last between way new (Delete k) (Drop k i) lsn page (DeleteKey k i) unowned fits one decides;
        there = ap (λ (m : IndexMap). get m k) way.stays.walk ∙ there;
        can_drop = can;
        not_in = apart;
      };
    } in
    let served = logged b earlier before s v older rows next old t row h found mark last between way new (Delete k) (Drop k i) lsn page (DeleteKey k i) unowned fits one decides (count_below tree b between t lsn law rises) refl refl refl refl (drop_adds b between newest t refl k i refl) in
    record {
      lawful = logs_stay_lawful tree laws b between newest law follows (λ e. absurd cc);
      served = subst (λ (reply : Reply). IsServed b earlier before s v (Do t (Delete k)) reply w (newest ∷ between) (counted t lsn rows) next new) says served;
    }

-- ---- a Commit

pub logged_commits_served : (tree : Tree) → TreeLaws tree → LoggedCommitsAreServed tree
logged_commits_served tree laws b earlier before s v older rows next old new t lsn row h found mark some free law out rises alone released once =
    let is = at b earlier before s v older rows next old h t row found (mark_free row.mark Going mark (λ x. cc x)) in
    let newest = commit_record t row.last lsn in
    let follows : Follows b tree newest older = record {
      rises = rises;
      chained = λ owned. record {
        number = subst (λ (n : ℕ). 1 ≤ n) is.0 is.1.number;
        prev = is.1.last ∙ ap (λ (n : ℕ). last_of n older) is.0;
        unfinished = ap (λ (n : ℕ). is_finished n older) (sym is.0) ∙ is.1.unfinished;
      };
      may = record {
        no_undo_next = refl;
        outside = out;
      };
    } in
    record {
      lawful = logs_stay_lawful tree laws b older newest law follows (λ e. absurd cc);
      served = commits_served b earlier before s v older (newest ∷ older) rows next old new t row h found mark some free alone released (commit_commits b older newest t refl refl)
          (λ u differ. same_by u newest older (λ e. differ (sym e)))
          (λ one le. cond-true (t == t) (is_end CommitRecord || is_finished t older) (is_finished t older) (eq-eqb t t refl))
          (cond-true (t == t) [] (to_undo t older) (eq-eqb t t refl))
          once;
    }

pub logged_commits_wait : (tree : Tree) → TreeLaws tree → LoggedCommitsWait tree
logged_commits_wait tree laws b earlier before s v older rows next held t lsn row h found mark some free law out rises =
    let is = at b earlier before s v older rows next held h t row found (mark_free row.mark Going mark (λ x. cc x)) in
    let newest = commit_record t row.last lsn in
    let follows : Follows b tree newest older = record {
      rises = rises;
      chained = λ owned. record {
        number = subst (λ (n : ℕ). 1 ≤ n) is.0 is.1.number;
        prev = is.1.last ∙ ap (λ (n : ℕ). last_of n older) is.0;
        unfinished = ap (λ (n : ℕ). is_finished n older) (sym is.0) ∙ is.1.unfinished;
      };
      may = record {
        no_undo_next = refl;
        outside = out;
      };
    } in
    record {
      lawful = logs_stay_lawful tree laws b older newest law follows (λ e. absurd cc);
      served = commits_wait b earlier before s v older (newest ∷ older) rows next held t row h found mark some free (commit_commits b older newest t refl refl)
          (λ u differ. same_by u newest older (λ e. differ (sym e)))
          (cond-true (t == t) (is_end CommitRecord || is_finished t older) (is_finished t older) (eq-eqb t t refl))
          (cond-true (t == t) [] (to_undo t older) (eq-eqb t t refl));
    }

-- the record of a Checkpoint
pub logged_checkpoints_served : (tree : Tree) → LoggedCheckpointsAreServed tree
logged_checkpoints_served tree b earlier before s v r older rows next held h law is rises =
    let on = checkpoints_change_nothing tree b r older is rises in
    record { lawful = on.lawful law; served = checkpoints_served b earlier before s v older (r ∷ older) rows next held h on.stays on.all }
