-- How a log grows by one record.
use Rattle.std.proofs.Common.{◌≡◌, ◌≢◌, ℕ, [], ◌∷◌, ◌++◌, sym, ◌∙◌, ap}
use Rattle.std.specs.Prelude.{◌==◌}
use Rattle.std.proofs.lemmas.Bool.{eq-eqb, ne_eqb, cond-true, cond-false}
use Rattle.im_base_types.specs.Keys.{Key}
use Rattle.im_base_types.specs.Changes.{Put, Drop}
use Rattle.im_base_types.specs.Records.{What, InsertKey, DeleteKey, Commit, Logged}
use Rattle.im_theory_log.specs.Histories.{History, Base}
use Rattle.im_theory_log.specs.Transactions.{change_of, changes_of, committed, committed_after, contents, contents_after, net, stack_after, to_undo}
use Rattle.im_theory_steps.specs.Growth.{Adds, Commits}

module _ (b : Base) (older : History) (r : Logged) (t : ℕ) (mine : r.txn ≡ t) where
  own_net : net t (r ∷ older) ≡ changes_of (stack_after r r.what (to_undo t older))
  own_net = ap changes_of (cond-true (r.txn == t) (stack_after r r.what (to_undo t older)) (to_undo t older) (eq-eqb r.txn t mine))

  other_net : (u : ℕ) → u ≢ t → net u (r ∷ older) ≡ net u older
  other_net u differ = ap changes_of (cond-false (r.txn == u) (stack_after r r.what (to_undo u older)) (to_undo u older) (ne_eqb r.txn u (λ e. differ (sym e ∙ mine))))

  commits_as : (w : What) → r.what ≡ w → committed (r ∷ older) ≡ committed_after w (net r.txn older) (committed older)
  commits_as w is = ap (λ (x : What). committed_after x (net r.txn older) (committed older)) is

  walk_as : (w : What) → r.what ≡ w → contents b (r ∷ older) ≡ contents_after w (contents b older)
  walk_as w is = ap (λ (x : What). contents_after x (contents b older)) is

  stack_as : (w : What) → r.what ≡ w → net t (r ∷ older) ≡ changes_of (stack_after r w (to_undo t older))
  stack_as w is = own_net ∙ ap (λ (x : What). changes_of (stack_after r x (to_undo t older))) is

  pub put_adds : (k : Key) (i : ℕ) → r.what ≡ InsertKey k i → Adds b t (Put k i) older (r ∷ older)
  put_adds k i is = record {
    commits = commits_as (InsertKey k i) is;
    walk = walk_as (InsertKey k i) is;
    own = stack_as (InsertKey k i) is ∙ ap (λ (w : What). change_of w ++ net t older) is;
    others = other_net;
  }

  pub drop_adds : (k : Key) (i : ℕ) → r.what ≡ DeleteKey k i → Adds b t (Drop k i) older (r ∷ older)
  drop_adds k i is = record {
    commits = commits_as (DeleteKey k i) is;
    walk = walk_as (DeleteKey k i) is;
    own = stack_as (DeleteKey k i) is ∙ ap (λ (w : What). change_of w ++ net t older) is;
    others = other_net;
  }

  pub commit_commits : r.what ≡ Commit → Commits b t older (r ∷ older)
  commit_commits is = record {
    commits = commits_as Commit is ∙ ap (λ (u : ℕ). committed older ++ net u older ∷ []) mine;
    walk = walk_as Commit is;
    own = stack_as Commit is;
    others = other_net;
  }
