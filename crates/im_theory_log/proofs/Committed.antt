-- The tree's map, from the log's Commits and what is unfinished.
use Rattle.std.proofs.Common.{◌≡◌, ◌≢◌, inl, inr, ℕ, [], ◌∷◌, ◌++◌, Bool, true, false, refl, sym, ◌∙◌, ap, subst}
use Rattle.std.specs.Prelude.{if◌then◌else◌, ◌==◌}
use Rattle.std.specs.FinMap.{entries}
use Rattle.std.proofs.lemmas.Bool.{cases_eq, eq-eqb, ne_eqb, cond-true, cond-false}
use Rattle.im_base_types.specs.Changes.{Change, Drop, Effect, Put, apply_all}
use Rattle.im_theory_log.specs.Histories.{Base, History}
use Rattle.im_theory_log.specs.Lawful.{IsLawful, MayCome, Undoes}
use Rattle.im_base_types.specs.Maps.{IndexMap}
use Rattle.im_base_types.specs.Nets.{AreNets}
use Rattle.im_base_types.specs.Records.{Checkpoint, Commit, DeleteKey, DummyClr, End, Image, InsertKey, Logged, Smo, UndoDelete, UndoInsert, UndoSmo, Unreadable, What}
use Rattle.im_theory_log.specs.Structure.{settled}
use Rattle.im_theory_log.specs.Transactions.{change_of, changes_of, committed, committed_after, contents, contents_after, is_smo, net, rest_of, stack_after, to_undo, without_smo}
use Rattle.im_theory_log.specs.Tree.{Tree}
use Rattle.im_base_types.proofs.Changes.{apply_all_push}
use Rattle.im_theory_log.proofs.Fronts.{has_tree}
use Rattle.im_base_types.proofs.Nets.{net_commits, net_grows, net_shrinks, nets_at_start, no_nets}

smo_changes : (w : What) → is_smo w ≡ true → change_of w ≡ []
smo_changes (Smo old new) e = refl
smo_changes (InsertKey k i) e = cc
smo_changes (DeleteKey k i) e = cc
smo_changes (UndoInsert k i) e = refl
smo_changes (UndoDelete k i) e = refl
smo_changes (UndoSmo new) e = refl
smo_changes DummyClr e = refl
smo_changes Commit e = refl
smo_changes End e = refl
smo_changes (Image c) e = refl
smo_changes (Checkpoint n a d) e = refl
smo_changes Unreadable e = refl

one_more : (s : Logged) (rest : History) → changes_of (without_smo rest) ≡ changes_of rest → (t : Bool) → is_smo s.what ≡ t → changes_of (if t then without_smo rest else s ∷ rest) ≡ change_of s.what ++ changes_of rest
one_more s rest same true e = same ∙ ap (λ (c : Effect). c ++ changes_of rest) (sym (smo_changes s.what e))
one_more s rest same false e = refl

-- the records of a structure change have no changes
without_smo_changes : (stack : History) → changes_of (without_smo stack) ≡ changes_of stack
without_smo_changes [] = refl
without_smo_changes (s ∷ rest) = one_more s rest (without_smo_changes rest) (is_smo s.what) refl

module _ (b : Base) (tree : Tree) (r : Logged) (older : History) where
  -- the nets once a record of this kind has joined
  abbrev pub nets_after : What → ℕ → Effect
  nets_after w u = changes_of (if r.txn == u then stack_after r w (to_undo u older) else to_undo u older)

  abbrev pub nets_before : ℕ → Effect
  nets_before u = net u older

  others : (w : What) (u : ℕ) → u ≢ r.txn → nets_after w u ≡ nets_before u
  others w u differ = ap changes_of (cond-false (r.txn == u) (stack_after r w (to_undo u older)) (to_undo u older) (ne_eqb r.txn u (λ e. differ (sym e))))

  own : (w : What) → nets_after w r.txn ≡ changes_of (stack_after r w (to_undo r.txn older))
  own w = ap changes_of (cond-true (r.txn == r.txn) (stack_after r w (to_undo r.txn older)) (to_undo r.txn older) (eq-eqb r.txn r.txn refl))

  -- a kind that leaves its transaction's net leaves all
  all_same : (w : What) → changes_of (stack_after r w (to_undo r.txn older)) ≡ net r.txn older → nets_before ≡ nets_after w
  all_same w e = λ i u. sym (each u) i
    where
      each : (u : ℕ) → nets_after w u ≡ nets_before u
      each u = elim (cases_eq u r.txn) [
        | inl same ↦ subst (λ (x : ℕ). nets_after w x ≡ nets_before x) (sym same) (own w ∙ e)
        | inr differ ↦ others w u differ
      ]

  abbrev M : IndexMap
  M = apply_all b.map (committed older)

  abbrev now : IndexMap
  now = contents b older

  still : (w : What) → changes_of (stack_after r w (to_undo r.txn older)) ≡ net r.txn older → AreNets M now nets_before → AreNets M now (nets_after w)
  still w e old = subst (λ (f : ℕ → Effect). AreNets M now f) (all_same w e) old

  -- what an undo takes off
  undone_net : {is : What → Type 0} (u : Undoes r older is) → net r.txn older ≡ change_of u.undone.what ++ changes_of u.rest
  undone_net u = ap changes_of u.stack

  rest_net : {is : What → Type 0} (u : Undoes r older is) → changes_of (rest_of (to_undo r.txn older)) ≡ changes_of u.rest
  rest_net u = ap (λ (s : History). changes_of (rest_of s)) u.stack

  pushed : (w : What) (c : Change) → r.what ≡ w → stack_after r w (to_undo r.txn older) ≡ r ∷ to_undo r.txn older → change_of w ≡ c ∷ [] → nets_after w r.txn ≡ c ∷ nets_before r.txn
  pushed w c is on change = own w ∙ ap changes_of on ∙ ap (λ (w : What). change_of w ++ net r.txn older) is ∙ ap (λ (e : Effect). e ++ net r.txn older) change

  popped : (w v : What) (c : Change) (u : Undoes r older (λ x. x ≡ v)) → stack_after r w (to_undo r.txn older) ≡ rest_of (to_undo r.txn older) → change_of v ≡ c ∷ [] → nets_before r.txn ≡ c ∷ nets_after w r.txn
  popped w v c u off change =
      undone_net u ∙ ap (λ (w : What). change_of w ++ changes_of u.rest) u.inverse ∙ ap (λ (e : Effect). e ++ changes_of u.rest) change
      ∙ ap (λ (e : Effect). c ∷ e) (sym (own w ∙ ap changes_of off ∙ rest_net u))

  -- a record joins, of whatever kind
  joins : (w : What) → r.what ≡ w → MayCome b tree r older w → AreNets M now nets_before
      → AreNets (apply_all b.map (committed_after w (net r.txn older) (committed older))) (contents_after w now) (nets_after w)
  joins (InsertKey k i) e may old = net_grows M now nets_before (nets_after (InsertKey k i)) old r.txn (others (InsertKey k i)) (Put k i) (pushed (InsertKey k i) (Put k i) e refl refl) may.free may.absent
  joins (DeleteKey k i) e may old = net_grows M now nets_before (nets_after (DeleteKey k i)) old r.txn (others (DeleteKey k i)) (Drop k i) (pushed (DeleteKey k i) (Drop k i) e refl refl) may.free may.there
  joins (UndoInsert k i) e may old = net_shrinks M now nets_before (nets_after (UndoInsert k i)) old r.txn (others (UndoInsert k i)) (Put k i) (popped (UndoInsert k i) (InsertKey k i) (Put k i) may.undoes refl refl)
  joins (UndoDelete k i) e may old = net_shrinks M now nets_before (nets_after (UndoDelete k i)) old r.txn (others (UndoDelete k i)) (Drop k i) (popped (UndoDelete k i) (DeleteKey k i) (Drop k i) may.undoes refl refl)
  joins (Smo o n) e may old = still (Smo o n) (ap (λ (w : What). change_of w ++ net r.txn older) e) old
  joins (UndoSmo n) e may old =
      let u = may.undoes in
      let smo : change_of u.undone.what ≡ [] = ap change_of u.inverse.1 in
      still (UndoSmo n) (rest_net u ∙ ap (λ (c : Effect). c ++ changes_of u.rest) (sym smo) ∙ sym (undone_net u)) old
  joins DummyClr e may old = still DummyClr (without_smo_changes (to_undo r.txn older)) old
  joins Commit e may old = subst (λ (m : IndexMap). AreNets m now (nets_after Commit)) (sym (apply_all_push b.map (committed older) (net r.txn older))) (net_commits M now nets_before (nets_after Commit) old r.txn (others Commit) (own Commit))
  joins End e may old = still End (sym (ap changes_of may.nothing_left)) old
  joins (Image c) e may old = still (Image c) refl old
  joins (Checkpoint n a d) e may old = still (Checkpoint n a d) refl old
  joins Unreadable e may old = absurd may

-- In a lawful log the tree has the committed map with the nets, which touch different keys.
pub nets_of : (b : Base) (tree : Tree) (log : History) → IsLawful b tree log → AreNets (apply_all b.map (committed log)) (contents b log) (λ (t : ℕ). net t log)
nets_of b tree [] law = nets_at_start b.map
nets_of b tree (r ∷ older) law = joins b tree r older r.what refl law.1.may (nets_of b tree older law.0)

-- Where no transaction has a net, the tree has the committed map and nothing else.
pub all_finished : (b : Base) (tree : Tree) (log : History) → IsLawful b tree log → ((t : ℕ) → net t log ≡ []) → tree.walk (settled b log) ≡ entries (apply_all b.map (committed log))
all_finished b tree log law none =
    (has_tree b tree log law).walk ∙ ap (λ m. entries m) (no_nets (apply_all b.map (committed log)) (contents b log) (λ (t : ℕ). net t log) (nets_of b tree log law) none)
