use Rattle.std.proofs.Common.{◌≡◌, ℕ, ◌≤◌, ◌+◌, ◌-◌, ◌^◌, ◌∙◌, ap, arith}
use Rattle.std.specs.Prelude.{min, max}
use Rattle.im_base_types.specs.Records.{Logged}
use Rattle.im_log_record.specs.Entry.{view}
use Rattle.im_log.specs.Spelled.{logged_at}
use Rattle.im_restart_analysis.specs.Records.{next_in}
use Rattle.im_restart_analysis.proofs.NextNumbers.{larger_is, next_more}
use Rattle.im_restart_analysis.proofs.numbers.next_after.Goals as goal

pub returns : goal.returns
returns c lsn least older was =
    let r : Logged = logged_at lsn (view c.args.record.now) in
    let fits : next_in r.what ≤ 2 ^ 64 - 1 = omega (arith, c.checkpoint_next.ensures, c.checkpoint_next.type_inv) in
    let is : c.max-2.result ≡ max c.args.next (max (min (r.txn + 1) (2 ^ 64 - 1)) (next_in r.what)) =
    (c.max-2.ensures ∙ larger_is c.args.next c.max.result) ∙ ap (λ (x : ℕ). max c.args.next x)
    ((c.max.ensures ∙ larger_is c.saturating_add-above.result c.checkpoint_next.result) ∙ ap (λ (x : ℕ). max x c.checkpoint_next.result) (c.saturating_add-above.ensures ∙ ap (λ (x : ℕ). min (x + 1) (2 ^ 64 - 1)) c.transaction.ensures)
    ∙ ap (λ (x : ℕ). max (min (r.txn + 1) (2 ^ 64 - 1)) x) c.checkpoint_next.ensures) in
    let n = next_more least (2 ^ 64 - 1) c.args.next c.max-2.result r older fits is was was.is in
    record { number = n.0; new = n.1; least = n.2; is = n.3 }
