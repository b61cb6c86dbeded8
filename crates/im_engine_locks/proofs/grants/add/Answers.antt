use Rattle.std.proofs.Common.{List, map, ap, sym, subst, ◌∙◌}
use Rattle.im_engine_locks.specs.Requests.{named}
use Rattle.im_engine_locks.specs.Index.{IsOnce, seen, seen_all}
use Rattle.im_engine_locks.specs.Places.{Covers, finds, places_at}
use Rattle.im_engine_locks.specs.declared.stored_lock.StoredLock.{StoredLock}
use Rattle.im_theory_machine.proofs.Bools.{not_true, not_false}
use Rattle.im_engine_locks.proofs.Places.{apart-all, apart-but, apart-on, covers-kept}
use Rattle.im_engine_locks.proofs.Added.{added-known, added-once, added-held, there-held, back-known}
use Rattle.im_engine_locks.proofs.grants.add.Goals as goal

pub returns-in_err-add-clause-known : goal.returns-in_err-add-clause-known
returns-in_err-add-clause-known c = covers-kept c.args.names.now c.add.new.self c.args.t c.args.span (seen_all c.args.locks.now) c.requires.known (λ n i. c.add.ensures.kept n c.args.t c.args.span i)

pub returns-in_err-add-clause-apart : goal.returns-in_err-add-clause-apart
returns-in_err-add-clause-apart c = apart-all c.args.names.now c.add.new.self c.args.t c.args.span c.add.ensures.kept

pub returns-then-not-branch-clause-known : goal.returns-then-not-branch-clause-known
returns-then-not-branch-clause-known c = covers-kept c.args.names.now c.add.new.self c.args.t c.args.span (seen_all c.args.locks.now) c.requires.known (λ n i. c.add.ensures.kept n c.args.t c.args.span i)

pub returns-then-not-branch-clause-apart : goal.returns-then-not-branch-clause-apart
returns-then-not-branch-clause-apart c = apart-all c.args.names.now c.add.new.self c.args.t c.args.span c.add.ensures.kept

pub returns-then-not-branch-clause-held : goal.returns-then-not-branch-clause-held
returns-then-not-branch-clause-held c =
    there-held c.args.names.now c.args.t c.args.span (seen_all c.args.locks.now) (record { name = named c.args.name; mode = c.args.mode }) c.requires.known
    (ap (λ (items : List StoredLock). finds (places_at c.args.names.now (named c.args.name)) c.args.t c.args.span (map seen items) (named c.args.name) c.args.mode) (sym c.as_slice.ensures.value) ∙ not_false _ (sym c.in_ok-add.ensures.new ∙ c.if-not-branch.true))

pub returns-in-Err-clause-known : goal.returns-in-Err-clause-known
returns-in-Err-clause-known c =
    subst (λ (items : List StoredLock). Covers c.remove.new.self c.args.t c.args.span (map seen items)) (sym c.in-Err.ensures.err)
    (back-known c.args.names.now c.add.new.self c.remove.new.self (record { owner = c.args.t; span = c.args.span; at = c.len.result }) c.args.locks.now.items c.requires.known c.add.ensures.kept (c.len.ensures ∙ c.args.locks.now.ok.0) c.remove.ensures.kept)

pub returns-in-Err-clause-once : goal.returns-in-Err-clause-once
returns-in-Err-clause-once c = subst (λ (items : List StoredLock). IsOnce (map seen items)) (sym c.in-Err.ensures.err) c.requires.once

pub returns-in-Err-clause-apart : goal.returns-in-Err-clause-apart
returns-in-Err-clause-apart c =
    apart-on c.args.names.now c.add.new.self c.remove.new.self c.args.t c.args.span (apart-all c.args.names.now c.add.new.self c.args.t c.args.span c.add.ensures.kept)
    (apart-but c.add.new.self c.remove.new.self (record { owner = c.args.t; span = c.args.span; at = c.len.result }) c.remove.ensures.kept)

pub returns-clause-known : goal.returns-clause-known
returns-clause-known c =
    added-known c.args.names.now c.add.new.self c.args.t c.args.span c.args.locks.now.items (seen_all c.push_lock.new.locks) (record { name = named c.args.name; mode = c.args.mode }) c.len.result c.requires.known c.in_default.ensures.list c.add.ensures.kept (c.len.ensures ∙ c.args.locks.now.ok.0)
    (c.in_ok-add.ensures.there c.if-not-branch.false)

pub returns-clause-once : goal.returns-clause-once
returns-clause-once c =
    added-once c.args.names.now c.args.t c.args.span (seen_all c.args.locks.now) (seen_all c.push_lock.new.locks) (record { name = named c.args.name; mode = c.args.mode }) c.requires.known c.requires.once
    (ap (λ (items : List StoredLock). finds (places_at c.args.names.now (named c.args.name)) c.args.t c.args.span (map seen items) (named c.args.name) c.args.mode) (sym c.as_slice.ensures.value) ∙ not_true _ (sym c.in_ok-add.ensures.new ∙ c.if-not-branch.false))
    c.in_default.ensures.list

pub returns-clause-apart : goal.returns-clause-apart
returns-clause-apart c = apart-all c.args.names.now c.add.new.self c.args.t c.args.span c.add.ensures.kept

pub returns-clause-held : goal.returns-clause-held
returns-clause-held c = added-held (seen_all c.args.locks.now) (seen_all c.push_lock.new.locks) (record { name = named c.args.name; mode = c.args.mode }) c.in_default.ensures.list
