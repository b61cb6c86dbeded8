-- A log that goes on empty where no transaction is active.
use Rattle.std.proofs.Common.{◌≡◌, ◌⊎◌, inl, inr, ℕ, ◌<◌, ◌≤◌, Bool, true, List, [], ◌∷◌, ◌++◌, None, refl, sym, ap, subst, ◌∙◌, append-nil, arith}
use Rattle.std.specs.Prelude.{find, if◌then◌else◌, nat_lt}
use Rattle.std.proofs.lemmas.Bool.{cases_eq, eq-eqb, ne_eqb}
use Rattle.std.specs.FinMap.{empty}
use Rattle.im_base_types.specs.Changes.{Effect, apply_all, seen}
use Rattle.im_base_types.specs.Answers.{Idle, Committing, Switch, Done}
use Rattle.im_base_types.specs.Lives.{Shown, effects}
use Rattle.im_base_types.specs.Records.{Logged}
use Rattle.im_base_types.specs.Refusals.{busy, failed as has_failed}
use Rattle.im_theory_log.specs.Histories.{Base, History, IsRecordOf, end_of}
use Rattle.im_theory_log.specs.Lawful.{IsLawful, has_owner}
use Rattle.im_theory_log.specs.Transactions.{committed, last_of}
use Rattle.im_theory_log.specs.Tree.{Tree}
use Rattle.im_base_txn.specs.declared.transaction.Transaction.{Transaction}
use Rattle.im_base_txn.specs.Rows.{is_of}
use Rattle.im_theory_machine.specs.Table.{Table}
use Rattle.im_theory_machine.specs.View.{View, Txn, nets_of}
use Rattle.im_theory_machine.specs.Machine.{fault_if, or_else, switches}
use Rattle.im_theory_machine.proofs.Isolates.{isolates, queue_marks}
use Rattle.im_theory_steps.specs.Serving.{IsServing, IsAt}
use Rattle.im_theory_steps.specs.Switching.{IsSwitched, SwitchesAreServed}
use Rattle.im_theory_steps.proofs.Durable.{empty_queue, no_rows}
use Rattle.im_theory_steps.proofs.Steps.{map_made, moves_by}

-- the last LSN of who has a record
last_on : (t : ℕ) (r : Logged) (older : History) → 1 ≤ r.lsn → (r.txn ≡ t) ⊎ (1 ≤ last_of t older) → 1 ≤ last_of t (r ∷ older)
last_on t r older up how = elim (cases_eq r.txn t) [
  | inl mine ↦ subst (λ (own : Bool). 1 ≤ (if own then r.lsn else last_of t older)) (sym (eq-eqb r.txn t mine)) up
  | inr other ↦ subst (λ (own : Bool). 1 ≤ (if own then r.lsn else last_of t older)) (sym (ne_eqb r.txn t other)) (elim how [ inl mine ↦ absurd (other mine) | inr low ↦ low ])
]

-- who has a record has a number, and a last LSN
owned_in : (b : Base) (tree : Tree) (log : History) (s : Logged) → IsLawful b tree log → IsRecordOf s log → has_owner s.what ≡ true → (1 ≤ s.txn) × (1 ≤ last_of s.txn log)
owned_in b tree [] s law is owner = absurd is
owned_in b tree (r ∷ older) s law (inl same) owner =
    let up : end_of b older < r.lsn = law.1.rises in
    (subst (λ (y : Logged). 1 ≤ y.txn) same (law.1.chained (subst (λ (y : Logged). has_owner y.what ≡ true) (sym same) owner)).number, last_on s.txn r older (omega (arith, up)) (inl (ap (λ (y : Logged). y.txn) same)))
owned_in b tree (r ∷ older) s law (inr there) owner =
    let up : end_of b older < r.lsn = law.1.rises in
    let rest = owned_in b tree older s law.0 there owner in
    (rest.0, last_on s.txn r older (omega (arith, up)) (inr rest.1))

module _ (tree : Tree) (b c : Base) (earlier before : List Effect) (s : Shown) (v : View) (log : History) (rows : List Transaction) (next : ℕ) (held : Table) (h : IsServing b earlier before s v log rows next held) (none : v.active ≡ 0) (law : IsLawful b tree log) (map : c.map ≡ apply_all b.map (committed log)) where
  gone : rows ≡ []
  gone = no_rows rows (sym h.table.active ∙ none)

  at_none : (t : ℕ) → IsAt t None next log (v.txns t)
  at_none t = subst (λ (l : List Transaction). IsAt t (find (is_of t) l) next log (v.txns t)) gone (h.table.each t)

  no_queue : v.queue ≡ []
  no_queue = empty_queue v.queue (λ t some.
      let waits : (v.txns t).mark ≡ Committing = (queue_marks _ v h.reached).waits t some in
      let never : Committing ≡ Idle = sym waits ∙ ap (λ (x : Txn). x.mark) (at_none t).2 in cc never)

  finished_is : committed log ≡ h.seen_by.finished
  finished_is = h.seen_by.all ∙ ap (λ (es : List Effect). h.seen_by.finished ++ es) (ap (nets_of v.txns) no_queue) ∙ append-nil h.seen_by.finished

  map_is : v.committed ≡ c.map
  map_is = h.seen_by.answered ∙ ap (apply_all b.map) (sym finished_is) ∙ sym map

  walk_is : v.walk ≡ v.committed
  walk_is = (isolates (apply_all empty before) h.reached.first).quiet h.reached.trace v h.reached.run (λ t. ap (λ (x : Txn). x.net) (at_none t).2)

  says : (earlier ++ seen (committed log)) ++ [] ≡ before ++ effects s.asked
  says = append-nil (earlier ++ seen (committed log)) ∙ h.says

  pub switched : IsSwitched c earlier before s v log rows next held
  switched = record {
    finished = λ r is owner. let owned = owned_in b tree log r law is owner in (at_none r.txn).0 owned.0 owned.1;
    served = (
      moves_by v v Switch Done (λ i. or_else (fault_if (h.works i) has_failed) (fault_if (nat_lt 0 (none i)) busy)) (switches refl refl refl),
      record {
        made = map_made b earlier (earlier ++ seen (committed log)) log h.made refl ∙ sym map;
        works = h.works;
        seen_by = record {
          finished = [];
          all = sym (ap (nets_of v.txns) no_queue);
          answered = map_is;
          walk = walk_is ∙ map_is;
          nets = λ t free. ap (λ (x : Txn). x.net) (at_none t).2;
          over = λ t some. refl;
        };
        shows = h.shows;
        reached = h.reached;
        says = says;
        table = record {
          each = λ t. subst (λ (l : List Transaction). IsAt t (find (is_of t) l) next [] (v.txns t)) (sym gone) ((λ one le. absurd (omega (arith, le))), refl, (at_none t).2);
          active = h.table.active;
          numbers = h.table.numbers;
        };
        locks = h.locks;
      },
    );
    commits = record { front = s.asked; rest = []; all = append-nil s.asked; waiting = tt; forced = says; whole = says };
  }

pub switches_served : (tree : Tree) → SwitchesAreServed tree
switches_served tree b c earlier before s v log rows next held h none law map = switched tree b c earlier before s v log rows next held h none law map
