use Rattle.std.proofs.Common.{◌∙◌, ℕ, inl, inr, subst, sym}
use Rattle.std.specs.Prelude.{◌≡◌, ◌≤◌, true, false}
use Rattle.im_store.specs.Rule.{KnowsPages}
use Rattle.im_store.proofs.Keeping.{err_on, kept_then, ok_on, refused_then, short_unless_long, went_after, went_kept}
use Rattle.im_store.proofs.upkeep.Upkeep.end.Goals as goal

pub returns-then-is_long_at_end-clause-switched : goal.returns-then-is_long_at_end-clause-switched
returns-then-is_long_at_end-clause-switched g c = ok_on c.leave_log.result c.leave_log.ensures.went_on (λ went _. went)

pub returns-then-is_long_at_end-clause-short : goal.returns-then-is_long_at_end-clause-short
returns-then-is_long_at_end-clause-short g c = ok_on c.leave_log.result c.leave_log.ensures.went_on (λ went _ _. inr went)

pub returns-then-is_long_at_end-clause-kept : goal.returns-then-is_long_at_end-clause-kept
returns-then-is_long_at_end-clause-kept g c = ok_on c.leave_log.result c.leave_log.ensures.went_on (went_kept g.D.Disk c.args.engine.now c.leave_log.new.engine)

pub returns-then-is_long_at_end-2-clause-short : goal.returns-then-is_long_at_end-2-clause-short
returns-then-is_long_at_end-2-clause-short g c =
    ok_on c.leave_log-then-is_long_at_end-2.result c.leave_log-then-is_long_at_end-2.ensures.went_on (λ went _ _. inr (went_after g.D.Disk c.args.engine.now c.write_all.new.engine c.leave_log-then-is_long_at_end-2.new.engine c.in_default.ensures.kept went))

pub returns-then-is_long_at_end-2-clause-kept : goal.returns-then-is_long_at_end-2-clause-kept
returns-then-is_long_at_end-2-clause-kept g c =
    ok_on c.leave_log-then-is_long_at_end-2.result c.leave_log-then-is_long_at_end-2.ensures.went_on
    (λ went. kept_then g.D.Disk c.args.engine.now c.write_all.new.engine c.leave_log-then-is_long_at_end-2.new.engine c.in_default.ensures.kept (went_kept g.D.Disk c.write_all.new.engine c.leave_log-then-is_long_at_end-2.new.engine went))

pub returns-then-is_long_at_end-2-clause-refused : goal.returns-then-is_long_at_end-2-clause-refused
returns-then-is_long_at_end-2-clause-refused g c =
    err_on c.leave_log-then-is_long_at_end-2.result c.leave_log-then-is_long_at_end-2.ensures.refused (λ fault. refused_then g.D.Disk c.args.engine.now c.write_all.new.engine c.leave_log-then-is_long_at_end-2.new.engine fault c.in_default.ensures.kept)

pub returns-then-is_long_at_end-2-clause-pages : goal.returns-then-is_long_at_end-2-clause-pages
returns-then-is_long_at_end-2-clause-pages g c = subst (λ (n : ℕ). KnowsPages g.D.Disk c.args.engine.now c.args.self.now.pages n) (sym c.leave_log-then-is_long_at_end-2.ensures.pages) c.write_all.ensures.pages

pub returns-clause-short : goal.returns-clause-short
returns-clause-short g c = λ bounded idle.
    inl (short_unless_long g.D.Disk c.write_all.new.self c.write_all.new.engine (λ is. (let never : false ≡ true = sym c.if-is_long_at_end-2.false ∙ c.is_long_at_end-2.ensures.1 is in cc never)) (subst (λ b. 1 ≤ b.log.bytes) (sym c.write_all.ensures.bounds) bounded) idle)
