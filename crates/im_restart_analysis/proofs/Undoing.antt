-- The records of undo may come next, and what they leave.
use Rattle.std.proofs.Common.{◌≡◌, ◌≤◌, ◌+◌, ℕ, suc, [], ◌∷◌, ◌++◌, length, true, false, inl, inr, refl, sym, ◌∙◌, ap, subst, arith}
use Rattle.std.proofs.lemmas.Bool.{cases_Bool}
use Rattle.im_base_types.specs.Pages.{Body}
use Rattle.im_base_types.specs.Records.{What, InsertKey, DeleteKey, UndoInsert, UndoDelete, Smo, UndoSmo, DummyClr, Commit, End, Image, Checkpoint, Unreadable, Logged}
use Rattle.im_theory_log.specs.Tree.{Tree, TreeLaws}
use Rattle.im_theory_log.specs.Histories.{History, Base, IsRecordOf, page_at}
use Rattle.im_theory_log.specs.Structure.{open_smo, open_after, settled, taken_back}
use Rattle.im_theory_log.specs.Transactions.{last_of, to_undo, stack_after, rest_of, undo_from, net, is_end, is_finished, committed, committed_after}
use Rattle.im_theory_log.specs.Lawful.{IsLawful, Follows, IsOutside, IsNotIn, MayCome, has_owner}
use Rattle.im_theory_log.specs.LogLaws.{bodies}
use Rattle.im_theory_log.proofs.Cited.{logs_stay_lawful, on_top, finished_none, finished_tree, in_log}
use Rattle.im_restart_analysis.specs.Losers.{is_loser}
use Rattle.im_restart_analysis.specs.Undo.{left_of, IsUndoable, IsNext, IsLinked, TakesBack, UndoesPage, LeavesOthers, TakesOff, HasEnded, UndoGoesOn}
use Rattle.im_restart_analysis.proofs.Losers.{loser_number, loser_unfinished, own_stack, own_row, still_loser, loser_ends, leaves_others, numbered, has_its_record, loser_from, all_done}
use Rattle.im_restart_analysis.proofs.Lefts.{left_loser, left_none, one_less}
use Rattle.im_restart_analysis.proofs.Nexts.{comes_beside, comes_to}
use Rattle.im_restart_analysis.proofs.Readings.{goes_on_at, reads_record, leads_back, leads_to}

-- where no structure change is open, the settled pages are the pages as they are
settled_is : (b : Base) (log : History) → open_smo log ≡ [] → settled b log ≡ bodies b log
settled_is b log closed = λ i p. taken_back (closed i) p (page_at b log p).body

-- ---- a record that takes one off

module _ (t : ℕ) (log : History) (s r : Logged) (rest : History) (stack : to_undo t log ≡ s ∷ rest) (mine : r.txn ≡ t) (one : 1 ≤ t) (going : is_finished t log ≡ false) (loser : is_loser t log ≡ true) where
  -- by its kind
  takes_off : (w : What) → r.what ≡ w → ((l : History) → stack_after r w l ≡ rest_of l) → undo_from r w ≡ r.undo_next → is_end w ≡ false → committed_after w (net r.txn log) (committed log) ≡ committed log
      → r.undo_next ≡ s.prev → TakesOff t log s r
  takes_off w is pops on goes same leads =
      let others : LeavesOthers t r log = leaves_others r log t mine (ap (λ (x : What). committed_after x (net r.txn log) (committed log)) is ∙ same) in
      let after : to_undo t (r ∷ log) ≡ rest = own_stack r log t mine ∙ ap (λ (x : What). stack_after r x (to_undo t log)) is ∙ pops (to_undo t log) ∙ ap rest_of stack in
      let still : is_loser t (r ∷ log) ≡ true = still_loser r log t mine one (ap is_end is ∙ goes) going in
      let old : left_of t log ≡ length (to_undo t log) + 1 = left_loser t log loser in
      let new : left_of t (r ∷ log) ≡ length (to_undo t (r ∷ log)) + 1 = left_loser t (r ∷ log) still in
      let long : length (to_undo t log) ≡ suc (length rest) = ap (λ (l : History). length l) stack in
      let short : length (to_undo t (r ∷ log)) ≡ length rest = ap (λ (l : History). length l) after in
      record {
        others = others;
        stack = stack ∙ ap (λ (l : History). s ∷ l) (sym after);
        loser = still;
        row = own_row r log t mine ∙ ap (λ (n : ℕ). record { last = r.lsn; undo_next = n }) (ap (λ (x : What). undo_from r x) is ∙ on ∙ leads);
        less = one_less t r log others (omega (arith, old, new, long, short));
      }

-- ---- a compensation, and an End

module _ (tree : Tree) (laws : TreeLaws tree) (b : Base) (log : History) (t : ℕ) (r : Logged) (law : IsLawful b tree log) (loser : is_loser t log ≡ true) (linked : IsLinked b t log r) where
  follows : (w : What) → r.what ≡ w → MayCome b tree r log w → Follows b tree r log
  follows w is may = record {
    rises = linked.rises;
    chained = λ _. record {
      number = subst (λ (x : ℕ). 1 ≤ x) (sym linked.owner) (loser_number t log loser);
      prev = linked.prev ∙ ap (λ (x : ℕ). last_of x log) (sym linked.owner);
      unfinished = ap (λ (x : ℕ). is_finished x log) linked.owner ∙ loser_unfinished t log loser;
    };
    may = subst (λ (x : What). MayCome b tree r log x) (sym is) may;
  }

  stays_lawful : (w : What) → r.what ≡ w → (w ≡ DummyClr → ⊥) → MayCome b tree r log w → IsLawful b tree (r ∷ log)
  stays_lawful w is plain may = logs_stay_lawful tree laws b log r law (follows w is may) (λ e. absurd (plain (sym is ∙ e)))

  mine_stack : (l : History) → to_undo t log ≡ l → to_undo r.txn log ≡ l
  mine_stack l is = ap (λ (x : ℕ). to_undo x log) linked.owner ∙ is

  -- an End leaves an open structure change as it was
  ended : to_undo t log ≡ [] → r.what ≡ End → r.undo_next ≡ 0 → IsLawful b tree (r ∷ log) × (open_smo (r ∷ log) ≡ open_smo log) × HasEnded t log r
  ended none is leads =
      let others : LeavesOthers t r log = leaves_others r log t linked.owner (ap (λ (x : What). committed_after x (net r.txn log) (committed log)) is) in
      let gone : is_loser t (r ∷ log) ≡ false = loser_ends r log t linked.owner (ap is_end is) in
      let old : left_of t log ≡ length (to_undo t log) + 1 = left_loser t log loser in
      let new : left_of t (r ∷ log) ≡ 0 = left_none t (r ∷ log) gone in
      let long : length (to_undo t log) ≡ 0 = ap (λ (l : History). length l) none in (
        stays_lawful End is (λ e. cc e) (record { no_undo_next = leads; nothing_left = mine_stack [] none }),
        ap (λ (x : What). open_after r x (open_smo log)) is,
        record { others = others; ended = gone; less = one_less t r log others (omega (arith, old, new, long)) },
      )

module _ (tree : Tree) (laws : TreeLaws tree) (b : Base) (log : History) (t : ℕ) (r : Logged) (can : IsUndoable b tree log) (loser : is_loser t log ≡ true) (linked : IsLinked b t log r) where
  stays : (w : What) → r.what ≡ w → (w ≡ DummyClr → ⊥) → MayCome b tree r log w → open_after r w (open_smo log) ≡ open_smo log → IsUndoable b tree (r ∷ log)
  stays w is plain may going = record {
    lawful = stays_lawful tree laws b log t r can.lawful loser linked w is plain may;
    closed = ap (λ (x : What). open_after r x (open_smo log)) is ∙ going ∙ can.closed;
  }

  outside : IsOutside r.txn (open_smo log)
  outside = subst (λ (l : History). IsOutside r.txn l) (sym can.closed) tt

  not_in : IsNotIn r.page (open_smo log)
  not_in = subst (λ (l : History). IsNotIn r.page l) (sym can.closed) tt

  own_list : (l : History) → to_undo t log ≡ l → to_undo r.txn log ≡ l
  own_list l is = mine_stack tree laws b log t r can.lawful loser linked l is

  compensated : (s : Logged) → IsNext t log s → r.undo_next ≡ s.prev → (v : What) → s.what ≡ v → TakesBack tree (bodies b log) r.page v r.what → IsUndoable b tree (r ∷ log) × TakesOff t log s r
  compensated s next leads (InsertKey k i) is (same, takes) = (
    stays (UndoInsert k i) same (λ e. cc e) (record {
      undoes = record { undone = s; rest = next.rest; stack = own_list (s ∷ next.rest) next.stack; inverse = is; leads = leads };
      outside = outside;
      can_drop = subst (λ (pages : ℕ → Body). tree.CanDrop pages r.page k i) (sym (settled_is b log can.closed)) takes;
      not_in = not_in;
    }) refl,
    takes_off t log s r next.rest next.stack linked.owner (loser_number t log loser) (loser_unfinished t log loser) loser (UndoInsert k i) same (λ l. refl) refl refl refl leads,
  )
  compensated s next leads (DeleteKey k i) is (same, takes) = (
    stays (UndoDelete k i) same (λ e. cc e) (record {
      undoes = record { undone = s; rest = next.rest; stack = own_list (s ∷ next.rest) next.stack; inverse = is; leads = leads };
      outside = outside;
      can_put = subst (λ (pages : ℕ → Body). tree.CanPut pages r.page k i) (sym (settled_is b log can.closed)) takes;
      not_in = not_in;
    }) refl,
    takes_off t log s r next.rest next.stack linked.owner (loser_number t log loser) (loser_unfinished t log loser) loser (UndoDelete k i) same (λ l. refl) refl refl refl leads,
  )
  compensated s next leads (UndoInsert k i) is takes = absurd takes
  compensated s next leads (UndoDelete k i) is takes = absurd takes
  compensated s next leads (Smo o n) is takes = absurd takes
  compensated s next leads (UndoSmo n) is takes = absurd takes
  compensated s next leads DummyClr is takes = absurd takes
  compensated s next leads Commit is takes = absurd takes
  compensated s next leads End is takes = absurd takes
  compensated s next leads (Image c) is takes = absurd takes
  compensated s next leads (Checkpoint n a d) is takes = absurd takes
  compensated s next leads Unreadable is takes = absurd takes

  ended_closed : to_undo t log ≡ [] → r.what ≡ End → r.undo_next ≡ 0 → IsUndoable b tree (r ∷ log) × HasEnded t log r
  ended_closed none is leads = let end = ended tree laws b log t r can.lawful loser linked none is leads in (record { lawful = end.0; closed = end.1 ∙ can.closed }, end.2)

-- ---- a page of an open structure change

module _ (tree : Tree) (laws : TreeLaws tree) (b : Base) (log : History) (s : Logged) (rest : History) (r : Logged) (law : IsLawful b tree log) (going : open_smo log ≡ s ∷ rest) (undoes : UndoesPage b log s r) where
  owners_stack : (bottom : History) × (to_undo s.txn log ≡ s ∷ (rest ++ bottom))
  owners_stack = let top = on_top tree b log s rest law going in (top.bottom, top.is ∙ ap (λ (l : History). l ++ top.bottom) going)

  unfinished : is_finished s.txn log ≡ false
  unfinished = elim (cases_Bool (is_finished s.txn log)) [
    | inl done ↦ (let clash : [] ≡ s ∷ (rest ++ owners_stack.0) = sym (finished_none b tree log s.txn law done) ∙ owners_stack.1 in absurd (cc clash))
    | inr is ↦ is
  ]

  logged : IsRecordOf s log × (has_owner s.what ≡ true)
  logged = in_log log s.txn s (subst (λ (l : History). IsRecordOf s l) (sym owners_stack.1) (inl refl))

  number : 1 ≤ s.txn
  number = numbered b tree log s law logged.0 logged.1

  page_back : IsLawful b tree (r ∷ log) × (open_smo (r ∷ log) ≡ rest) × TakesOff s.txn log s r
  page_back =
      let owner : r.txn ≡ s.txn = undoes.linked.owner in
      let loser : is_loser s.txn log ≡ true = loser_from s.txn log number (has_its_record s log logged.0) unfinished in
      let f : Follows b tree r log = record {
        rises = undoes.linked.rises;
        chained = λ _. record {
          number = subst (λ (x : ℕ). 1 ≤ x) (sym owner) number;
          prev = undoes.linked.prev ∙ ap (λ (x : ℕ). last_of x log) (sym owner);
          unfinished = ap (λ (x : ℕ). is_finished x log) owner ∙ unfinished;
        };
        may = subst (λ (x : What). MayCome b tree r log x) (sym undoes.what) (record {
          undoes = record {
            undone = s;
            rest = rest ++ owners_stack.0;
            stack = ap (λ (x : ℕ). to_undo x log) owner ∙ owners_stack.1;
            inverse = (undoes.now, undoes.undone);
            leads = undoes.leads;
          };
          page = sym undoes.page;
          rest = rest;
          going = going;
        });
      } in (
        logs_stay_lawful tree laws b log r law f (λ e. (let clash : UndoSmo undoes.was ≡ DummyClr = sym undoes.what ∙ e in absurd (cc clash))),
        ap (λ (x : What). open_after r x (open_smo log)) undoes.what ∙ ap (λ (l : History). open_after r (UndoSmo undoes.was) l) going,
        takes_off s.txn log s r (rest ++ owners_stack.0) owners_stack.1 owner number unfinished loser (UndoSmo undoes.was) undoes.what (λ l. refl) refl refl refl undoes.leads,
      )

-- ---- the laws

pub undo_goes_on : (tree : Tree) → TreeLaws tree → UndoGoesOn tree
undo_goes_on tree laws = record {
  undoes_page = λ b log s rest r law going undoes. page_back tree laws b log s rest r law going undoes;
  reads = λ b log t can loser. comes_to b tree log t can (λ e. (let one : 1 ≤ t = loser_number t log loser in omega (arith, one, e)));
  reads_beside = λ b log t law out one. comes_beside b tree log t law out (λ e. absurd (omega (arith, one, e)));
  goes_on_at = λ b log t law one some. goes_on_at b tree log t law some;
  reads_record = λ b log r law is. reads_record b tree log r law is;
  leads_back = λ b log r law is on. leads_back b tree log r law is on;
  leads_to = λ b log r law is on some. leads_to b tree log r law is on some;
  compensates = λ b log t s r can loser next c. compensated tree laws b log t r can loser c.linked s next c.leads s.what refl c.takes_back;
  ends = λ b log t r can loser none e. ended_closed tree laws b log t r can loser e.linked none e.what e.leads;
  ends_beside = λ b log t r law loser none e. ended tree laws b log t r law loser e.linked none e.what e.leads;
  finishes = λ b log law none. finished_tree tree b log law (all_done b tree log law none);
}
