use Rattle.std.proofs.Common.{◌≡◌, refl, ℕ, List, ◌-◌, Some, None, take, drop, ap, sym, ◌∙◌, ◌+◌, rules, arith, subst, length-drop}
use Rattle.im_base_types.specs.declared.fault.Fault.TheVariants.{NotAStore}
use Rattle.im_base_types.specs.declared.file_id.FileId.TheVariants.{Log}
use Rattle.im_log.specs.Spelled.{first_record}
use Rattle.im_log.specs.Reading.{IsFrontOf}
use Rattle.im_log.proofs.Spells.{first_is}
use Rattle.im_log.proofs.Places.{none_below, buffer_bounds, there_in_file, there_in_buffer, brought, cut_first, shown, shown_long}
use Rattle.im_log.proofs.Outcomes.{was_read, lies_in_file, lies_in_buffer}
use Rattle.im_log.proofs.log_file.LogFile.read_at.Goals as goal

pub returns-then-lsn-self-clause-found : goal.returns-then-lsn-self-clause-found
returns-then-lsn-self-clause-found g c base all durable r h has same =
    absurd (none_below g.D.Disk base all durable c.args.self.now c.args.disk.now r c.requires.ready h has (omega (arith, same)))

pub returns-in_err-size-clause-found : goal.returns-in_err-size-clause-found
returns-in_err-size-clause-found g c base all durable r h has same =
    let log = c.args.self.now in
    let t = there_in_file g.D.Disk base all durable log c.args.disk.now r c.requires.ready h has (c.args.lsn - log.base) (omega (arith, same)) (omega arith) in
    let fits = t.fits in
    let refused = c.in_err-size.ensures.refused in
    let told = h.tells in
    record { ok = search rules; cause = search (rules, fits, refused, told) }

pub returns-then-at-place-clause-found : goal.returns-then-at-place-clause-found
returns-then-at-place-clause-found g c base all durable r h has same =
    let log = c.args.self.now in
    let at : ℕ = c.args.lsn - log.base in
    let t = there_in_file g.D.Disk base all durable log c.args.disk.now r c.requires.ready h has at (omega (arith, same)) (omega arith) in
    record {
      ok = brought (drop at (g.D.Disk.seen c.args.disk.now Log)) c.read_front.new.room c.in_ok-size.size t.entry r t.first (c.in_ok-size.ensures.read h.tells) t.is;
      cause = search rules;
    }

pub returns-then-behind-lt5-clause-found : goal.returns-then-behind-lt5-clause-found
returns-then-behind-lt5-clause-found g c base all durable r h has same =
    let b = buffer_bounds g.D.Disk base all durable c.args.self.now c.args.disk.now r c.requires.ready h has (omega (arith, same)) in
    absurd (omega (arith, same, b.0, b.1))

pub returns-in_err-size-2-clause-found : goal.returns-in_err-size-2-clause-found
returns-in_err-size-2-clause-found g c base all durable r h has same =
    let log = c.args.self.now in
    let at : ℕ = c.args.lsn - log.base - c.place-place.result - 1 in
    let end : ℕ = c.min-end.result in
    let t = there_in_buffer g.D.Disk base all durable log c.args.disk.now r c.requires.ready h has at (omega (arith, same)) in
    let cut = cut_first log.buffer.items at (log.start + 4 + log.used) (end - at) t.entry (omega arith) (omega (arith, log.sized, log.within)) (omega (arith, c.min-end.ensures)) t.first (omega (arith, c.min-end.ensures, t.fits.room, t.fits.most, length-drop at (shown log), shown_long log)) in
    let are : take (end - at) (drop at c.deref.result.now) ≡ take (end - at) (drop at log.buffer.items) = ap (λ (l : List ℕ). take (end - at) (drop at l)) c.deref.ensures.value in
    let never : None ≡ Some t.entry = sym c.in_err-size-2.ensures.refused.1 ∙ ap first_record are ∙ first_is (take (end - at) (drop at log.buffer.items)) t.entry cut in
    let bottom : ⊥ = cc in
    absurd bottom

pub returns-clause-found : goal.returns-clause-found
returns-clause-found g c base all durable r h has same =
    let log = c.args.self.now in
    let at : ℕ = c.args.lsn - log.base - c.place-place.result - 1 in
    let end : ℕ = c.min-end.result in
    let t = there_in_buffer g.D.Disk base all durable log c.args.disk.now r c.requires.ready h has at (omega (arith, same)) in
    let cut = cut_first log.buffer.items at (log.start + 4 + log.used) (end - at) t.entry (omega arith) (omega (arith, log.sized, log.within)) (omega (arith, c.min-end.ensures)) t.first (omega (arith, c.min-end.ensures, t.fits.room, t.fits.most, length-drop at (shown log), shown_long log)) in
    let are : take (end - at) (drop at c.deref.result.now) ≡ take (end - at) (drop at log.buffer.items) = ap (λ (l : List ℕ). take (end - at) (drop at l)) c.deref.ensures.value in
    let copied = subst (λ (l : List ℕ). IsFrontOf c.in_ok-size-2.size l c.copy_front.new.room) are c.in_ok-size-2.ensures.copied in
    record { ok = brought (take (end - at) (drop at log.buffer.items)) c.copy_front.new.room c.in_ok-size-2.size t.entry r cut copied t.is; cause = search rules }

pub returns-in_err-size-clause-outcome : goal.returns-in_err-size-clause-outcome
returns-in_err-size-clause-outcome g c =
    was_read g.D.Disk (λ e. e ≡ NotAStore) c.args.self.now c.args.disk.now c.read_front.new.disk c.from_residual.result c.requires.ready c.read_front.ensures.outcome.reads (search rules)

pub returns-then-at-place-clause-outcome : goal.returns-then-at-place-clause-outcome
returns-then-at-place-clause-outcome g c =
    was_read g.D.Disk (λ e. e ≡ NotAStore) c.args.self.now c.args.disk.now c.read_front.new.disk _ c.requires.ready c.read_front.ensures.outcome.reads (search rules)

pub returns-then-lsn-self-clause-outside : goal.returns-then-lsn-self-clause-outside
returns-then-lsn-self-clause-outside g c works out = refl

pub returns-in_err-size-clause-outside : goal.returns-in_err-size-clause-outside
returns-in_err-size-clause-outside g c works out = absurd (lies_in_file c.args.self.now c.args.lsn (omega arith) (omega arith) out)

pub returns-then-at-place-clause-outside : goal.returns-then-at-place-clause-outside
returns-then-at-place-clause-outside g c works out = absurd (lies_in_file c.args.self.now c.args.lsn (omega arith) (omega arith) out)

pub returns-in_err-size-2-clause-outside : goal.returns-in_err-size-2-clause-outside
returns-in_err-size-2-clause-outside g c works out = absurd (lies_in_buffer c.args.self.now c.args.lsn (omega arith) (omega arith) out)

pub returns-clause-outside : goal.returns-clause-outside
returns-clause-outside g c works out = absurd (lies_in_buffer c.args.self.now c.args.lsn (omega arith) (omega arith) out)
