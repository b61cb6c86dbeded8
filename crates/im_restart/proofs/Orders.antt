-- The latest record first: what a log's order is after calls.
use Rattle.std.proofs.Common.{◌≡◌, ◌≢◌, ◌≤◌, ◌⊎◌, ℕ, [], ◌∷◌, ◌++◌, length, Bool, true, false, inl, inr, refl, sym, ◌∙◌, ap, subst, append_assoc, arith}
use Rattle.std.specs.Prelude.{◌==◌}
use Rattle.std.proofs.lemmas.List.{append_cancel_right}
use Rattle.std.proofs.lemmas.Bool.{cases_eq, cond-true, cond-false, eq-eqb, ne_eqb}
use Rattle.im_base_types.specs.Records.{What, InsertKey, DeleteKey, UndoInsert, UndoDelete, Smo, UndoSmo, DummyClr, Commit, End, Image, Checkpoint, Unreadable, Logged}
use Rattle.im_theory_log.specs.Tree.{Tree}
use Rattle.im_theory_log.specs.Histories.{Base, History, IsFront}
use Rattle.im_theory_log.specs.Copies.{AreImages, GrowsByImages}
use Rattle.im_theory_log.specs.Transactions.{is_compensation, is_key, is_smo, stack_after, to_undo, without_smo}
use Rattle.im_theory_log.specs.Lawful.{IsLawful, MayCome}
use Rattle.im_theory_tree.specs.Good.{AllOf}
use Rattle.im_theory_tree.specs.Theory.{page_tree}
use Rattle.im_restart_analysis.specs.Losers.{is_loser}
use Rattle.im_restart_analysis.specs.Undo.{IsNext}
use Rattle.im_restart_analysis.proofs.Losers.{loser_number}
use Rattle.im_restart_undo.specs.Records as undone
use Rattle.im_restart_undo.specs.Records.{IsOfUndo, compensations, with_compensation}
use Rattle.im_restart_undo.proofs.Keeping.{undo_others}
use Rattle.im_restart_undo.proofs.StructureLogs.{twice}
use Rattle.im_restart.specs.UndoOrder.{AreInOrder, GoesFirst, IsInOrder, IsLatest, IsNearlyInOrder, TakesBackLatest}
use Rattle.im_restart.proofs.Others.{spares_key}

-- ---- records that are no compensations

pub order_none : (log : History) → IsInOrder log log
order_none log = record { more = []; is = refl; all = tt }

not_true : {P : Type 0} (x : Bool) → x ≡ false → x ≡ true → P
not_true x never holds = let clash : false ≡ true = sym never ∙ holds in absurd (cc clash)

-- a record more that is none
pub order_one : (all now : History) (r : Logged) → IsInOrder all now → is_compensation r.what ≡ false → IsInOrder all (r ∷ now)
order_one all now r order none = record {
  more = r ∷ order.more;
  is = ap (λ (l : History). r ∷ l) order.is;
  all = ((λ holds. not_true (is_compensation r.what) none holds), order.all);
}

images_in_order : (b : Base) (images log more all : History) → AreImages b images log → AreInOrder more all → AreInOrder (images ++ more) all
images_in_order b [] log more all is order = order
images_in_order b (r ∷ images) log more all is order =
    ((λ holds. not_true (is_compensation r.what) (ap is_compensation is.0.what) holds), images_in_order b images log more all is.1 order)

pub order_images : (b : Base) (all now longer : History) → IsInOrder all now → GrowsByImages b now longer → IsInOrder all longer
order_images b all now longer order by = record {
  more = by.images ++ order.more;
  is = by.is ∙ ap (λ (l : History). by.images ++ l) order.is ∙ sym (append_assoc by.images order.more all);
  all = images_in_order b by.images now order.more all by.all order.all;
}

are_then : (more some all : History) → AreInOrder some all → AreInOrder more (some ++ all) → AreInOrder (more ++ some) all
are_then [] some all first next = first
are_then (r ∷ more) some all first next = ((λ holds. subst (λ (l : History). TakesBackLatest r l) (sym (append_assoc more some all)) (next.0 holds)), are_then more some all first next.1)

pub order_then : (all now longer : History) → IsInOrder all now → IsInOrder now longer → IsInOrder all longer
order_then all now longer first next = record {
  more = next.more ++ first.more;
  is = next.is ∙ ap (λ (l : History). next.more ++ l) first.is ∙ sym (append_assoc next.more first.more all);
  all = are_then next.more first.more all first.all (subst (λ (l : History). AreInOrder next.more l) first.is next.all);
}

-- ---- the records with which one key record is taken back

counts_none : (r : Logged) (w : What) (rs : History) → with_compensation r w rs ≡ [] → (is_compensation w ≡ false) × (rs ≡ [])
counts_none r (UndoInsert k i) rs is = absurd (cc is)
counts_none r (UndoDelete k i) rs is = absurd (cc is)
counts_none r (InsertKey k i) rs is = (refl, is)
counts_none r (DeleteKey k i) rs is = (refl, is)
counts_none r (Smo was now) rs is = (refl, is)
counts_none r (UndoSmo now) rs is = (refl, is)
counts_none r DummyClr rs is = (refl, is)
counts_none r Commit rs is = (refl, is)
counts_none r End rs is = (refl, is)
counts_none r (Image c) rs is = (refl, is)
counts_none r (Checkpoint n a dirty) rs is = (refl, is)
counts_none r Unreadable rs is = (refl, is)

none_in_order : (more older : History) → compensations more ≡ [] → AreInOrder more older
none_in_order [] older none = tt
none_in_order (r ∷ more) older none =
    let parts = counts_none r r.what (compensations more) none in
    ((λ holds. not_true (is_compensation r.what) parts.0 holds), none_in_order more older parts.1)

stack_without : (t : ℕ) (r : Logged) (w : What) (rest : History) → r.what ≡ w → IsOfUndo t r w → is_compensation w ≡ false → without_smo (stack_after r w rest) ≡ without_smo rest
stack_without t r (Smo was now) rest same is none = cond-true (is_smo r.what) (without_smo rest) (r ∷ rest) (ap is_smo same)
stack_without t r DummyClr rest same is none = twice rest
stack_without t r (Image c) rest same is none = refl
stack_without t r (UndoInsert k i) rest same is none = absurd (cc none)
stack_without t r (UndoDelete k i) rest same is none = absurd (cc none)
stack_without t r (InsertKey k i) rest same is none = absurd is
stack_without t r (DeleteKey k i) rest same is none = absurd is
stack_without t r (UndoSmo now) rest same is none = absurd is
stack_without t r Commit rest same is none = absurd is
stack_without t r End rest same is none = absurd is
stack_without t r (Checkpoint n a dirty) rest same is none = absurd is
stack_without t r Unreadable rest same is none = absurd is

stacks_without : (t : ℕ) (more older : History) → AllOf (λ (r : Logged). IsOfUndo t r r.what) more → compensations more ≡ [] → without_smo (to_undo t (more ++ older)) ≡ without_smo (to_undo t older)
stacks_without t [] older all none = refl
stacks_without t (r ∷ more) older all none =
    let parts = counts_none r r.what (compensations more) none in
    elim (cases_eq r.txn t) [
      | inl here ↦
          ap without_smo (cond-true (r.txn == t) (stack_after r r.what (to_undo t (more ++ older))) (to_undo t (more ++ older)) (eq-eqb r.txn t here))
          ∙ stack_without t r r.what (to_undo t (more ++ older)) refl all.0 parts.0 ∙ stacks_without t more older all.1 parts.1
      | inr other ↦
          ap without_smo (cond-false (r.txn == t) (stack_after r r.what (to_undo t (more ++ older))) (to_undo t (more ++ older)) (ne_eqb r.txn t other))
          ∙ stacks_without t more older all.1 parts.1
    ]

-- a key record on top is no Smo
key_on_top : (s : Logged) (rest : History) (w : What) → s.what ≡ w → is_key w ≡ true → without_smo (s ∷ rest) ≡ s ∷ rest
key_on_top s rest (InsertKey k i) is key = cond-false (is_smo s.what) (without_smo rest) (s ∷ rest) (ap is_smo is)
key_on_top s rest (DeleteKey k i) is key = cond-false (is_smo s.what) (without_smo rest) (s ∷ rest) (ap is_smo is)
key_on_top s rest (UndoInsert k i) is key = absurd (cc key)
key_on_top s rest (UndoDelete k i) is key = absurd (cc key)
key_on_top s rest (Smo was now) is key = absurd (cc key)
key_on_top s rest (UndoSmo now) is key = absurd (cc key)
key_on_top s rest DummyClr is key = absurd (cc key)
key_on_top s rest Commit is key = absurd (cc key)
key_on_top s rest End is key = absurd (cc key)
key_on_top s rest (Image c) is key = absurd (cc key)
key_on_top s rest (Checkpoint n a d) is key = absurd (cc key)
key_on_top s rest Unreadable is key = absurd (cc key)

-- what a compensation of a lawful log takes back
record TakesBackKey (r : Logged) (older : History) : Type 0 where
  pub undone : Logged
  pub rest : History
  pub stack : to_undo r.txn older ≡ undone ∷ rest
  pub leads : r.undo_next ≡ undone.prev
  pub key : is_key undone.what ≡ true

takes_back_key : (b : Base) (tree : Tree) (r : Logged) (older : History) (w : What) → is_compensation w ≡ true → MayCome b tree r older w → TakesBackKey r older
takes_back_key b tree r older (UndoInsert k i) holds may = record { undone = may.undoes.undone; rest = may.undoes.rest; stack = may.undoes.stack; leads = may.undoes.leads; key = ap is_key may.undoes.inverse }
takes_back_key b tree r older (UndoDelete k i) holds may = record { undone = may.undoes.undone; rest = may.undoes.rest; stack = may.undoes.stack; leads = may.undoes.leads; key = ap is_key may.undoes.inverse }
takes_back_key b tree r older (InsertKey k i) holds may = absurd (cc holds)
takes_back_key b tree r older (DeleteKey k i) holds may = absurd (cc holds)
takes_back_key b tree r older (Smo was now) holds may = absurd (cc holds)
takes_back_key b tree r older (UndoSmo now) holds may = absurd (cc holds)
takes_back_key b tree r older DummyClr holds may = absurd (cc holds)
takes_back_key b tree r older Commit holds may = absurd (cc holds)
takes_back_key b tree r older End holds may = absurd (cc holds)
takes_back_key b tree r older (Image c) holds may = absurd (cc holds)
takes_back_key b tree r older (Checkpoint n a d) holds may = absurd (cc holds)
takes_back_key b tree r older Unreadable holds may = absurd may

owner_of : (t : ℕ) (r : Logged) (w : What) → is_compensation w ≡ true → IsOfUndo t r w → r.txn ≡ t
owner_of t r (UndoInsert k i) holds is = is
owner_of t r (UndoDelete k i) holds is = is
owner_of t r (InsertKey k i) holds is = absurd (cc holds)
owner_of t r (DeleteKey k i) holds is = absurd (cc holds)
owner_of t r (Smo was now) holds is = absurd (cc holds)
owner_of t r (UndoSmo now) holds is = absurd (cc holds)
owner_of t r DummyClr holds is = absurd (cc holds)
owner_of t r Commit holds is = absurd (cc holds)
owner_of t r End holds is = absurd (cc holds)
owner_of t r (Image c) holds is = absurd (cc holds)
owner_of t r (Checkpoint n a d) holds is = absurd (cc holds)
owner_of t r Unreadable holds is = absurd (cc holds)

none_behind : (r : Logged) (rs : History) → length (r ∷ rs) ≡ 1 → rs ≡ []
none_behind r [] one = refl
none_behind r (x ∷ rs) one = absurd (omega (arith, one))

-- the one compensation is this record, or among the others
counts_here : (r : Logged) (w : What) (rs : History) → is_compensation w ≡ true → length (with_compensation r w rs) ≡ 1 → rs ≡ []
counts_here r (InsertKey k i) rs holds one = absurd (cc holds)
counts_here r (DeleteKey k i) rs holds one = absurd (cc holds)
counts_here r (UndoInsert k i) rs holds one = none_behind r rs one
counts_here r (UndoDelete k i) rs holds one = none_behind r rs one
counts_here r (Smo was now) rs holds one = absurd (cc holds)
counts_here r (UndoSmo now) rs holds one = absurd (cc holds)
counts_here r DummyClr rs holds one = absurd (cc holds)
counts_here r Commit rs holds one = absurd (cc holds)
counts_here r End rs holds one = absurd (cc holds)
counts_here r (Image c) rs holds one = absurd (cc holds)
counts_here r (Checkpoint n a d) rs holds one = absurd (cc holds)
counts_here r Unreadable rs holds one = absurd (cc holds)

counts_there : (r : Logged) (w : What) (rs : History) → is_compensation w ≡ false → length (with_compensation r w rs) ≡ 1 → length rs ≡ 1
counts_there r (InsertKey k i) rs never one = one
counts_there r (DeleteKey k i) rs never one = one
counts_there r (UndoInsert k i) rs never one = absurd (cc never)
counts_there r (UndoDelete k i) rs never one = absurd (cc never)
counts_there r (Smo was now) rs never one = one
counts_there r (UndoSmo now) rs never one = one
counts_there r DummyClr rs never one = one
counts_there r Commit rs never one = one
counts_there r End rs never one = one
counts_there r (Image c) rs never one = one
counts_there r (Checkpoint n a d) rs never one = one
counts_there r Unreadable rs never one = one

-- a transaction of which a record is the latest of all goes first, and its one compensation takes that record back
module _ (b : Base) (t : ℕ) (log : History) (s : Logged) (rest : History) (stack : to_undo t log ≡ s ∷ rest) (key : is_key s.what ≡ true) (latest : IsLatest s.lsn log) where
  others_within : (more : History) → AllOf (λ (r : Logged). IsOfUndo t r r.what) more → (u : ℕ) (x : Logged) (below : History) → u ≢ t → is_loser u (more ++ log) ≡ true → to_undo u (more ++ log) ≡ x ∷ below → x.lsn ≤ s.lsn
  others_within more all u x below other loser is =
      let grows : undone.GrowsByUndo t log (more ++ log) = record { more = more; is = refl; all = all } in
      let some : u ≢ 0 = λ e. (let one = loser_number u (more ++ log) loser in omega (arith, one, e)) in
      let same = undo_others t u log (more ++ log) some other grows in
      latest u x below (sym ((spares_key t log (more ++ log) grows).losers u other) ∙ loser) (sym same.stack ∙ is)

  takes_latest : (more : History) (r : Logged) → AllOf (λ (x : Logged). IsOfUndo t x x.what) more → compensations more ≡ [] → r.txn ≡ t → TakesBackKey r (more ++ log) → TakesBackLatest r (more ++ log)
  takes_latest more r all none mine back =
      let now : to_undo t (more ++ log) ≡ back.undone ∷ back.rest = ap (λ (u : ℕ). to_undo u (more ++ log)) (sym mine) ∙ back.stack in
      let tops : back.undone ∷ back.rest ≡ s ∷ rest =
      sym (key_on_top back.undone back.rest back.undone.what refl back.key)
      ∙ ap without_smo (sym now) ∙ stacks_without t more log all none ∙ ap without_smo stack ∙ key_on_top s rest s.what refl key in
      let same : back.undone ≡ s = cc tops in
      record {
        undone = back.undone;
        rest = back.rest;
        stack = back.stack;
        leads = back.leads;
        latest = λ u x below loser is. elim (cases_eq u t) [
          | inl own ↦
              let one : x ∷ below ≡ back.undone ∷ back.rest = sym is ∙ ap (λ (v : ℕ). to_undo v (more ++ log)) own ∙ now in
              let e : x ≡ back.undone = cc one in
              let lsn : x.lsn ≡ back.undone.lsn = ap (λ (y : Logged). y.lsn) e in
              omega (arith, lsn)
          | inr other ↦
              let within : x.lsn ≤ s.lsn = others_within more all u x below other loser is in
              let lsn : back.undone.lsn ≡ s.lsn = ap (λ (y : Logged). y.lsn) same in
              omega (arith, within, lsn)
        ];
      }

  one_in_order : (more : History) → AllOf (λ (x : Logged). IsOfUndo t x x.what) more → length (compensations more) ≡ 1 → IsLawful b page_tree (more ++ log) → AreInOrder more log
  one_in_order [] all one law = tt
  one_in_order (r ∷ more) all one law = by (λ rest. one_in_order more all.1 rest law.0) (is_compensation r.what) refl
    where
      by : (length (compensations more) ≡ 1 → AreInOrder more log) → (x : Bool) → is_compensation r.what ≡ x → AreInOrder (r ∷ more) log
      by later true is =
          let none : compensations more ≡ [] = counts_here r r.what (compensations more) is one in
          ((λ holds. takes_latest more r all.1 none (owner_of t r r.what is all.0) (takes_back_key b page_tree r (more ++ log) r.what is law.1.may)), none_in_order more log none)
      by later false is = ((λ holds. not_true (is_compensation r.what) is holds), later (counts_there r r.what (compensations more) is one))

-- so the log stays in order
pub order_key : (b : Base) (all log now : History) (t : ℕ) (s : Logged) → IsInOrder all log → IsNext t log s → IsLatest s.lsn log → (grows : undone.GrowsByUndo t log now) → length (compensations grows.more) ≡ 1 → IsLawful b page_tree now
    → IsInOrder all now
order_key b all log now t s order next latest grows once law =
    order_then all log now order
    (record {
      more = grows.more;
      is = grows.is;
      all = one_in_order b t log s next.rest next.stack next.key latest grows.more grows.all once (subst (λ (l : History). IsLawful b page_tree l) grows.is law);
    })

-- ---- fronts

order_behind : (newer more all : History) → AreInOrder (newer ++ more) all → AreInOrder more all
order_behind [] more all order = order
order_behind (r ∷ newer) more all order = order_behind newer more all order.1

-- each front that has the older log is in order
pub order_front : (all left high : History) → IsInOrder all high → IsFront all left → IsFront left high → IsInOrder all left
order_front all left high order from upto =
    let whole : (upto.newer ++ from.newer) ++ all ≡ order.more ++ all = append_assoc upto.newer from.newer all ∙ ap (λ (l : History). upto.newer ++ l) from.is ∙ upto.is ∙ order.is in
    let same : upto.newer ++ from.newer ≡ order.more = append_cancel_right (upto.newer ++ from.newer) order.more all whole in
    record { more = from.newer; is = sym from.is; all = order_behind upto.newer from.newer all (subst (λ (l : History). AreInOrder l all) (sym same) order.all) }

-- of two fronts of a log one is a front of the other
one_longer : (a c newer more : History) → newer ++ a ≡ more ++ c → IsFront a c ⊎ IsFront c a
one_longer a c [] more is = inr (record { newer = more; is = sym is })
one_longer a c (x ∷ newer) [] is = inl (record { newer = x ∷ newer; is = is })
one_longer a c (x ∷ newer) (y ∷ more) is = let rest : newer ++ a ≡ more ++ c = cc is in one_longer a c newer more rest

all_behind : (P : Logged → Type 0) (newer more : History) → AllOf P (newer ++ more) → AllOf P more
all_behind P [] more all = all
all_behind P (r ∷ newer) more all = all_behind P newer more all.1

-- what is left of the records with which one key record was to be taken back
grown_left : (t : ℕ) (log left high : History) → undone.GrowsByUndo t log high → IsFront log left → IsFront left high → undone.GrowsByUndo t log left
grown_left t log left high by from upto =
    let whole : (upto.newer ++ from.newer) ++ log ≡ by.more ++ log = append_assoc upto.newer from.newer log ∙ ap (λ (l : History). upto.newer ++ l) from.is ∙ upto.is ∙ by.is in
    let same : upto.newer ++ from.newer ≡ by.more = append_cancel_right (upto.newer ++ from.newer) by.more log whole in
    record {
      more = from.newer;
      is = sym from.is;
      all = all_behind (λ (r : Logged). IsOfUndo t r r.what) upto.newer from.newer (subst (λ (l : History). AllOf (λ (r : Logged). IsOfUndo t r r.what) l) (sym same) by.all);
    }

-- a stop meanwhile leaves a log that is in order but for them
pub order_left : (all log left high : History) (t : ℕ) → IsInOrder all log → GoesFirst t log → undone.GrowsByUndo t log high → IsFront all left → IsFront left high → IsNearlyInOrder all left
order_left all log left high t order first by from upto = elim (one_longer log left by.more upto.newer (sym by.is ∙ sym upto.is)) [
  | inl longer ↦ inr (record { before = log; order = order; txn = t; first = first; grows = grown_left t log left high by longer upto })
  | inr shorter ↦ inl (order_front all left log order from shorter)
]
