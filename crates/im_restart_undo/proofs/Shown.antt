-- What the walk shows of the newest change that a transaction has left to undo.
use Rattle.std.proofs.Common.{◌≡◌, ◌≢◌, ℕ, List, [], ◌∷◌, ◌++◌, inl, refl, sym, ap, subst, ◌∙◌}
use Rattle.std.specs.FinMap.{get}
use Rattle.std.specs.FinMap.Entries.{find}
use Rattle.im_base_types.specs.Keys.{Key, key_order}
use Rattle.im_base_types.specs.Pages.{Entry}
use Rattle.im_base_types.specs.Changes.{Put, Drop, Effect, apply, apply_all, Touches}
use Rattle.im_base_types.specs.Records.{What, InsertKey, DeleteKey, UndoInsert, UndoDelete, Smo, UndoSmo, DummyClr, Commit, End, Image, Checkpoint, Unreadable, Logged}
use Rattle.im_theory_log.specs.Histories.{Base, History}
use Rattle.im_theory_log.specs.Lawful.{IsLawful}
use Rattle.im_theory_log.specs.Structure.{settled}
use Rattle.im_theory_log.specs.Transactions.{change_of, changes_of, committed, contents, net, to_undo}
use Rattle.im_theory_log.specs.LogLaws.{bodies}
use Rattle.im_base_types.proofs.Changes.{applied_at}
use Rattle.im_theory_log.proofs.Cited.{nets_of, has_tree}
use Rattle.im_base_types.proofs.Maps.{sorted_find}
use Rattle.im_theory_tree.specs.Levels.{Pages, walk}
use Rattle.im_theory_tree.specs.Search.{IsOnWay}
use Rattle.im_theory_tree.specs.Theory.{page_tree}
use Rattle.im_theory_tree.proofs.LookupLemmas.{leaf_value}
use Rattle.im_smo_actions.proofs.Told.{settled_is}
use Rattle.im_restart_analysis.specs.Undo.{IsNext, IsUndoable}
use Rattle.im_restart_undo.specs.Undoing.{ShowsChange}

module _ (b : Base) (log : History) (law : IsLawful b page_tree log) where
  settled_get : (k : Key) → get (contents b log) k ≡ find key_order k (walk (settled b log))
  settled_get k = sorted_find (contents b log) k ∙ ap (λ (es : List Entry). find key_order k es) (sym (has_tree b page_tree log law).walk)

  -- a key's leaf has of its key what the walk has
  pub settled_has : (k : Key) (p : ℕ) → IsOnWay (settled b log) 0 k p → find key_order k (settled b log p).entries ≡ find key_order k (walk (settled b log))
  settled_has k p way = sym (leaf_value (settled b log) [] k p (has_tree b page_tree log law).good way)

  module _ (t : ℕ) (x : Logged) (rest : History) (stack : to_undo t log ≡ x ∷ rest) where
    net_is : (w : What) → x.what ≡ w → net t log ≡ change_of w ++ changes_of rest
    net_is w is = ap changes_of stack ∙ ap (λ (v : What). change_of v ++ changes_of rest) is

    -- no other net touches a key of this one
    untouched : (k : Key) → Touches (net t log) k → (u : ℕ) → u ≢ t → Touches (net u log) k → ⊥
    untouched k mine u other theirs = (nets_of b page_tree log law).apart u t other k theirs mine

    shows : (w : What) → x.what ≡ w → ShowsChange (settled b log) w
    shows (InsertKey k i) is =
        let base = apply_all b.map (committed log) in
        let mine : Touches (net t log) k = subst (λ (c : Effect). Touches c k) (sym (net_is (InsertKey k i) is)) (inl refl) in
        sym (settled_get k)
        ∙ (nets_of b page_tree log law).makes t k (untouched k mine)
        ∙ ap (λ (c : Effect). get (apply base c) k) (net_is (InsertKey k i) is)
        ∙ applied_at (apply base (changes_of rest)) (Put k i) k refl
    shows (DeleteKey k i) is =
        let base = apply_all b.map (committed log) in
        let mine : Touches (net t log) k = subst (λ (c : Effect). Touches c k) (sym (net_is (DeleteKey k i) is)) (inl refl) in
        sym (settled_get k)
        ∙ (nets_of b page_tree log law).makes t k (untouched k mine)
        ∙ ap (λ (c : Effect). get (apply base c) k) (net_is (DeleteKey k i) is)
        ∙ applied_at (apply base (changes_of rest)) (Drop k i) k refl
    shows (UndoInsert k i) is = tt
    shows (UndoDelete k i) is = tt
    shows (Smo o n) is = tt
    shows (UndoSmo n) is = tt
    shows DummyClr is = tt
    shows Commit is = tt
    shows End is = tt
    shows (Image c) is = tt
    shows (Checkpoint n a d) is = tt
    shows Unreadable is = tt

  -- the walk has the key that an insert put, and lacks the one that a delete dropped
  pub settled_shows : (t : ℕ) (x : Logged) → IsNext t log x → ShowsChange (settled b log) x.what
  settled_shows t x next = shows t x next.rest next.stack x.what refl

-- the same of the pages as they are, where no structure change is open
module _ (b : Base) (log : History) (can : IsUndoable b page_tree log) where
  pub get_is : (k : Key) → get (contents b log) k ≡ find key_order k (walk (bodies b log))
  get_is k = settled_get b log can.lawful k ∙ ap (λ (pages : Pages). find key_order k (walk pages)) (settled_is b log can.closed)

  pub shows_change : (t : ℕ) (x : Logged) → IsNext t log x → ShowsChange (bodies b log) x.what
  shows_change t x next = subst (λ (pages : Pages). ShowsChange pages x.what) (settled_is b log can.closed) (settled_shows b log can.lawful t x next)
