use Rattle.std.proofs.Common.{◌≡◌, ℕ, true, sym, ap, subst}
use Rattle.im_log.specs.Whats.{what_of}
use Rattle.im_log_record.specs.Entry.{Entry, page_of, view}
use Rattle.im_log_record.specs.declared.record.Record.{Record}
use Rattle.im_page_writer.proofs.Outcomes.{with_more}
use Rattle.im_smo_pages.specs.Kept.{mild_to_take}
use Rattle.im_smo_pages.proofs.Goings.{take_mildly}
use Rattle.im_tree_search.specs.Sights.{is_done}
use Rattle.im_restart_undo.specs.Planning.{BackPlanned}
use Rattle.im_restart_undo.proofs.KeyRecords.{no_key}
use Rattle.im_restart_undo.proofs.plan.plan_back.Goals as goal

pub returns-in-InsertKey-clause-outcome : goal.returns-in-InsertKey-clause-outcome
returns-in-InsertKey-clause-outcome g c = with_more g.D.Disk mild_to_take take_mildly c.plan_out.ensures.outcome

pub returns-in-InsertKey-clause-kept : goal.returns-in-InsertKey-clause-kept
returns-in-InsertKey-clause-kept g c pages whole =
    subst (λ (x : Entry). BackPlanned pages c.args.beside (page_of x) (what_of x) c.plan_out.result) (sym (ap (λ (x : Record). view x) c.in-InsertKey.is)) (c.plan_out.ensures.kept pages c.in-InsertKey.rid whole)

pub returns-in-InsertKey-clause-first : goal.returns-in-InsertKey-clause-first
returns-in-InsertKey-clause-first g c made = c.plan_out.ensures.first (subst (λ (p : ℕ). is_done c.args.beside p ≡ true) (ap (λ (x : Record). page_of (view x)) c.in-InsertKey.is) made)

pub returns-in-DeleteKey-clause-kept : goal.returns-in-DeleteKey-clause-kept
returns-in-DeleteKey-clause-kept g c pages whole =
    subst (λ (x : Entry). BackPlanned pages c.args.beside (page_of x) (what_of x) c.plan_in.result) (sym (ap (λ (x : Record). view x) c.in-DeleteKey.is)) (c.plan_in.ensures.kept pages c.in-DeleteKey.rid whole)

pub returns-in-DeleteKey-clause-first : goal.returns-in-DeleteKey-clause-first
returns-in-DeleteKey-clause-first g c made = c.plan_in.ensures.first (subst (λ (p : ℕ). is_done c.args.beside p ≡ true) (ap (λ (x : Record). page_of (view x)) c.in-DeleteKey.is) made)

pub returns-in_default : goal.returns-in_default
returns-in_default g c = absurd (no_key c.args.«record».now c.in_default.not-InsertKey c.in_default.not-DeleteKey c.requires.key)
