-- Within a step: records that change no key, and the way to a change.
use Rattle.std.proofs.Common.{◌≡◌, ℕ, List, ◌++◌, length, map, refl, sym, ◌∙◌, ap, subst}
use Rattle.std.specs.Prelude.{find}
use Rattle.im_base_types.specs.Changes.{Effect, seen}
use Rattle.im_theory_log.specs.Histories.{History, Base}
use Rattle.im_theory_log.specs.Transactions.{last_of, undo_next_of, is_finished}
use Rattle.im_base_types.specs.Lives.{Shown}
use Rattle.im_base_txn.specs.declared.transaction.Mark.TheVariants.{Going}
use Rattle.im_base_txn.specs.declared.transaction.Transaction.{Transaction}
use Rattle.im_base_txn.specs.Rows.{is_of, changed, with_record}
use Rattle.im_theory_machine.specs.Table.{Table}
use Rattle.im_theory_machine.specs.View.{View, Txn}
use Rattle.im_theory_machine.proofs.Cited.{by_txn}
use Rattle.im_theory_steps.specs.Growth.{Stays}
use Rattle.im_theory_steps.specs.Serving.{IsRow, IsAt, IsServing}
use Rattle.im_theory_steps.specs.Steps.{ImagesKeepServing, StructureKeepsServing, WaysLeadOn}
use Rattle.im_theory_steps.proofs.Growth.{images_change_nothing, structure_changes_no_key, stays_then, same_here, same_then}
use Rattle.im_theory_steps.proofs.Together.{together}
use Rattle.im_theory_steps.proofs.Rows.{same_at, as_row, rows_changed, length_map}
use Rattle.im_theory_steps.proofs.Steps.{at, mark_free}

module _ (b : Base) (earlier before : List Effect) (s : Shown) (v : View) (older : History) (rows : List Transaction) (next : ℕ) (held : Table) (h : IsServing b earlier before s v older rows next held) where
  -- records that change no key, and leave each transaction in its row
  kept : (longer : History) (after : List Transaction) → Stays b older longer → ((u : ℕ) → IsAt u (find (is_of u) after) next longer (v.txns u)) → length after ≡ length rows → IsServing b earlier before s v longer after next held
  kept longer after stays each many = record {
    made = h.made;
    works = h.works;
    seen_by = together.stays b older longer v h.seen_by stays;
    shows = h.shows;
    reached = h.reached;
    says = ap (λ (es : List Effect). earlier ++ seen es) stays.commits ∙ h.says;
    table = record { each = each; active = h.table.active ∙ sym many; numbers = h.table.numbers };
    locks = h.locks;
  }

pub images_keep : ImagesKeepServing
images_keep b earlier before s v older longer rows next held h grows =
    let on = images_change_nothing b older longer grows in
    kept b earlier before s v older rows next held h longer rows on.0 (λ u. same_at u next older longer (on.1 u) (find (is_of u) rows) (v.txns u) (h.table.each u)) refl

pub structure_keeps : StructureKeepsServing
structure_keeps b earlier before s v older longer rows next held t row h found free grows =
    let is = at b earlier before s v older rows next held h t row found free in
    let on = structure_changes_no_key b t older longer grows in
    let r = is.1 in
    let f = with_record (last_of t longer) (undo_next_of t longer) in
    let now : IsRow (f row) next longer = record {
      number = r.number;
      below = r.below;
      last = ap (λ (n : ℕ). last_of n longer) (sym is.0);
      undo = ap (λ (n : ℕ). undo_next_of n longer) (sym is.0);
      unfinished = ap (λ (n : ℕ). is_finished n longer) is.0 ∙ on.finished ∙ ap (λ (n : ℕ). is_finished n older) (sym is.0) ∙ r.unfinished;
      changes = r.changes ∙ ap (λ (e : Effect). length e) (sym (on.stays.nets row.number));
    } in
    let each = rows_changed t next older longer rows v.txns (v.txns t) f row (λ x. refl) on.others h.table.each found is.0 (as_row row.mark (f row) next longer free now) is.2 in
    kept b earlier before s v older rows next held h longer (map (changed t f) rows) on.stays
    (λ u. subst (λ (x : Txn). IsAt u (find (is_of u) (map (changed t f) rows)) next longer x) (by_txn (λ n y. y ≡ v.txns n) v.txns t (v.txns t) refl (λ n differ. refl) u) (each u))
    (length_map (changed t f) rows)

pub ways_lead_on : WaysLeadOn
ways_lead_on = record {
  begins = λ b earlier before s v log rows next held t row h found mark.
      let is = at b earlier before s v log rows next held h t row found (mark_free row.mark Going mark (λ x. cc x)) in
      record {
        stays = record { commits = refl; walk = refl; nets = λ u. refl };
        others = λ u differ. same_here u log;
        newest = sym (is.1.last ∙ ap (λ (n : ℕ). last_of n log) is.0);
        unfinished = ap (λ (n : ℕ). is_finished n log) (sym is.0) ∙ is.1.unfinished;
      };
  leads = λ b t last older between longer way grows.
      let on = structure_changes_no_key b t between longer grows in
      record {
        stays = stays_then b older between longer way.stays on.stays;
        others = λ u differ. same_then u older between longer (way.others u differ) (on.others u differ);
        newest = refl;
        unfinished = on.finished ∙ way.unfinished;
      };
}
