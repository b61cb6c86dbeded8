use Rattle.std.proofs.Common.{◌++◌, ◌∷◌, [], inl, inr, Err, ap, rules, false, arith, length, ◌≤◌, List}
use Rattle.std.proofs.lemmas.List.{nil_from_length}
use Rattle.im_base_types.specs.Pages.{Entry}
use Rattle.im_base_types.specs.declared.file_id.FileId.TheVariants.{Pages}
use Rattle.im_base_disk.proofs.Ends.{own_answered}
use Rattle.im_load.specs.Edge.{IsAboveAll}
use Rattle.im_load.specs.declared.loader.Loader.{Loader}
use Rattle.im_load.specs.HasTaken.{HasTaken, HasPending}
use Rattle.im_load.proofs.Calls.{close_leaf_made, one_kind}
use Rattle.im_load.proofs.Faults.{passed_on, eased, is_capacity, is_unsound}
use Rattle.im_load.proofs.Goings.{goes_then}
use Rattle.im_load.proofs.Holdings.{taken_put}
use Rattle.im_load.proofs.Lasts.{leaf_kind, lacks_by}
use Rattle.im_load.proofs.Separators.{takes_entry}
use Rattle.im_load.proofs.loader.Loader.take.Goals as goal

pub returns-in_err-put_entry-clause-outcome : goal.returns-in_err-put_entry-clause-outcome
returns-in_err-put_entry-clause-outcome g c =
    let s = c.args.self.now in
    let f = c.in_err-put_entry.field-0.0 in
    own_answered _ false _ f c.from_residual.result c.from_residual.ensures.1
    (inr (inr (
      c.in_err-put_entry.ensures.refused,
      λ es t top some short.
          c.in_err-put_entry.ensures.sound
          (takes_entry s.leaf s.above.items s.count g.D.Disk.tells (g.D.Disk.seen c.args.disk.now Pages) es (c.args.key.now, c.args.rid) c.is_open-open.result t c.if-open.true c.is_open-open.ensures top some short)
          (ap Err c.in_err-put_entry.ensures.refused),
    )))
    (is_unsound f c.in_err-put_entry.ensures.refused) (search rules)

pub returns-then-open-clause-taken : goal.returns-then-open-clause-taken
returns-then-open-clause-taken g c es t top =
    let s = c.args.self.now in
    taken_put s.leaf c.put_entry.new.self s.above.items s.count g.D.Disk.tells (g.D.Disk.seen c.args.disk.now Pages) es (c.args.key.now, c.args.rid) t top c.in_ok-put_entry.ensures.put

pub returns-in_err-raise_leaf-clause-outcome : goal.returns-in_err-raise_leaf-clause-outcome
returns-in_err-raise_leaf-clause-outcome g c =
    let f = c.in_err-raise_leaf.field-0.0 in
    let key = c.args.key.now in
    passed_on _ _ _ f c.from_residual-in_err-raise_leaf.result c.from_residual-in_err-raise_leaf.ensures.1 c.in_err-raise_leaf.ensures.outcome
    (eased c.raise_leaf.new.self ((es : List Entry) → HasTaken g.D.Disk c.args.self.now c.args.disk.now es → 1 ≤ length key → length key ≤ 255 → ⊥)
    ((es : List Entry) → HasTaken g.D.Disk c.args.self.now c.args.disk.now es → IsAboveAll key es → 1 ≤ length key → length key ≤ 255 → ⊥) f (λ never es t top some short. never es t some short))

pub returns-then-levels-eq0-clause-taken : goal.returns-then-levels-eq0-clause-taken
returns-then-levels-eq0-clause-taken g c es t top =
    let s = c.args.self.now in
    c.in_ok-raise_leaf.ensures.taken es t (nil_from_length s.above.items (omega (arith, c.len-levels.ensures, c.if-levels-eq0.true))) top
    (lacks_by s.leaf c.is_open-open.result (leaf_kind s.leaf s.above.items s.count g.D.Disk.tells (g.D.Disk.seen c.args.disk.now Pages) es t) c.if-open.false c.is_open-open.ensures)

pub returns-in_err-next-clause-outcome : goal.returns-in_err-next-clause-outcome
returns-in_err-next-clause-outcome g c =
    own_answered _ false _ c.in_err-next.field-0.0 c.from_residual-in_err-next.result c.from_residual-in_err-next.ensures.1 (inr (inl c.in_err-next.ensures.refused))
    (is_capacity c.in_err-next.field-0.0 c.in_err-next.ensures.refused.0) (search rules)

pub returns-in_err-close_leaf-clause-outcome : goal.returns-in_err-close_leaf-clause-outcome
returns-in_err-close_leaf-clause-outcome g c =
    passed_on _ _ _ c.in_err-close_leaf.field-0.0 c.from_residual-in_err-close_leaf.result c.from_residual-in_err-close_leaf.ensures.1 c.in_err-close_leaf.ensures.outcome
    (λ is. inr (inr (
      is,
      λ es t top some short.
          c.in_err-close_leaf.ensures.sound
          (one_kind c.args.self.now c.new_page.new.self c.in_ok-next.next c.in_ok-next.ensures.page c.in_ok-next.ensures.more g.D.Disk.tells (g.D.Disk.seen c.args.disk.now Pages) es t)
          some short (ap Err is),
    )))

pub returns-in_err-put_above-clause-outcome : goal.returns-in_err-put_above-clause-outcome
returns-in_err-put_above-clause-outcome g c =
    let f = c.in_err-put_above.field-0.0 in
    let key = c.args.key.now in
    passed_on _ _ _ f c.from_residual-in_err-put_above.result c.from_residual-in_err-put_above.ensures.1 c.in_err-put_above.ensures.outcome
    (eased c.put_above.new.self ((es : List Entry) → HasPending g.D.Disk c.close_leaf.new.self c.close_leaf.new.disk es 0 key c.in_ok-next.next → 1 ≤ length key → length key ≤ 255 → ⊥)
    ((es : List Entry) → HasTaken g.D.Disk c.args.self.now c.args.disk.now es → IsAboveAll key es → 1 ≤ length key → length key ≤ 255 → ⊥) f
    (λ never es t top some short. never (es ++ (key, c.args.rid) ∷ [])
    (close_leaf_made c.args.self.now c.new_page.new.self c.in_ok-next.next c.in_ok-next.ensures.page c.in_ok-next.ensures.more c.close_leaf.new.self c.number-number.result g.D.Disk.tells (g.D.Disk.seen c.args.disk.now Pages)
    (g.D.Disk.seen c.close_leaf.new.disk Pages) es (c.args.key.now, c.args.rid) c.number-number.ensures c.in_ok-close_leaf.ensures.closed c.in_ok-close_leaf.ensures.written t
    (λ none. absurd (omega (arith, c.len-levels.ensures, c.if-levels-eq0.false, none, ap (λ (l : Loader). length l.above.items) c.in_ok-next.ensures.more))) top
    (lacks_by c.args.self.now.leaf c.is_open-open.result (leaf_kind c.args.self.now.leaf c.args.self.now.above.items c.args.self.now.count g.D.Disk.tells (g.D.Disk.seen c.args.disk.now Pages) es t) c.if-open.false c.is_open-open.ensures)) some short))

pub returns-in_err-put_above-clause-run : goal.returns-in_err-put_above-clause-run
returns-in_err-put_above-clause-run g c = goes_then g.D.Disk c.args.disk.now c.close_leaf.new.disk c.put_above.new.disk c.in_ok-close_leaf.ensures.run c.put_above.ensures.run

pub returns-clause-run : goal.returns-clause-run
returns-clause-run g c = goes_then g.D.Disk c.args.disk.now c.close_leaf.new.disk c.put_above.new.disk c.in_ok-close_leaf.ensures.run c.in_ok-put_above.ensures.run

pub returns-clause-taken : goal.returns-clause-taken
returns-clause-taken g c es t top =
    c.in_ok-put_above.ensures.taken (es ++ (c.args.key.now, c.args.rid) ∷ [])
    (close_leaf_made c.args.self.now c.new_page.new.self c.in_ok-next.next c.in_ok-next.ensures.page c.in_ok-next.ensures.more c.close_leaf.new.self c.number-number.result g.D.Disk.tells (g.D.Disk.seen c.args.disk.now Pages)
    (g.D.Disk.seen c.close_leaf.new.disk Pages) es (c.args.key.now, c.args.rid) c.number-number.ensures c.in_ok-close_leaf.ensures.closed c.in_ok-close_leaf.ensures.written t
    (λ none. absurd (omega (arith, c.len-levels.ensures, c.if-levels-eq0.false, none, ap (λ (l : Loader). length l.above.items) c.in_ok-next.ensures.more))) top
    (lacks_by c.args.self.now.leaf c.is_open-open.result (leaf_kind c.args.self.now.leaf c.args.self.now.above.items c.args.self.now.count g.D.Disk.tells (g.D.Disk.seen c.args.disk.now Pages) es t) c.if-open.false c.is_open-open.ensures))
