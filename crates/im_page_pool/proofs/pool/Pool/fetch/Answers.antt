use Rattle.std.proofs.Common.{ℕ, List, ◌∷◌, false, length, sym, ap, subst, ◌∙◌, length-set}
use Rattle.im_page_pool.specs.Frames.{Stored, stored_at}
use Rattle.im_page_pool.specs.Places.{PlacesView}
use Rattle.im_page_pool.specs.declared.frame.Frame.{Frame}
use Rattle.im_page_pool.specs.Pool.{Takes}
use Rattle.im_page_pool.proofs.PoolLemmas.{seen_as, not_taken, free_left, next_within, same_but_frames, takes, takes_shown, whole_taken, at_any_err}
use Rattle.im_page_pool.proofs.pool.Pool.fetch.Goals as goal

pub read-requires-clause-place : goal.read-requires-clause-place
read-requires-clause-place g c = next_within c.self.inside.frames c.self.inside.places c.self.inside.gets.count c.args.self.now c.self.invariant c.self.view_is c.args.p c.next-place.result c.next-place.ensures (not_taken c.self.inside.frames c.self.inside.places c.self.inside.gets.count c.args.self.now c.self.invariant c.self.view_is c.args.p c.requires.absent) (free_left c.self.inside.frames c.self.inside.places c.self.inside.gets.count c.args.self.now c.self.invariant c.self.view_is c.requires.room)

pub take-requires-clause-new : goal.take-requires-clause-new
take-requires-clause-new g c = (not_taken c.self.inside.frames c.self.inside.places c.self.inside.gets.count c.args.self.now c.self.invariant c.self.view_is c.args.p c.requires.absent)

pub returns-in_err-read-clause-err : goal.returns-in_err-read-clause-err
returns-in_err-read-clause-err g c = at_any_err c.from_residual.result
    (same_but_frames c.self.inside.frames c.self.inside.places c.self.inside.gets.count c.args.self.now c.self.invariant c.self.view_is c.args.p c.next-place.result c.next-place.ensures (not_taken c.self.inside.frames c.self.inside.places c.self.inside.gets.count c.args.self.now c.self.invariant c.self.view_is c.args.p c.requires.absent) (free_left c.self.inside.frames c.self.inside.places c.self.inside.gets.count c.args.self.now c.self.invariant c.self.view_is c.requires.room) (record { page = (stored_at c.read.new.self c.next-place.result).page; changed = false }) c.read.new.self c.read.ensures.others c.self.inside.gets.count)

pub invariant_of-self-2 : goal.invariant_of-self-2
invariant_of-self-2 g c =
    let w = whole_taken c.self.inside.frames c.self.inside.places c.self.inside.gets.count c.args.self.now c.self.invariant c.self.view_is c.args.p c.next-place.result c.next-place.ensures (not_taken c.self.inside.frames c.self.inside.places c.self.inside.gets.count c.args.self.now c.self.invariant c.self.view_is c.args.p c.requires.absent) (free_left c.self.inside.frames c.self.inside.places c.self.inside.gets.count c.args.self.now c.self.invariant c.self.view_is c.requires.room) c.take.new.self (ap (λ (v : PlacesView). v.taken) c.take.ensures ∙ ap (λ (k : ℕ). (c.args.p, k) ∷ c.self.inside.places.taken) (sym c.next-place.ensures)) (ap (λ (v : PlacesView). v.free) c.take.ensures) in
    let len = ap length c.read.ensures.others in
    record { apart = w.apart; all = w.all ∙ sym (len ∙ length-set c.self.inside.frames c.next-place.result (record { page = (stored_at c.read.new.self c.next-place.result).page; changed = false })) }

pub returns-clause-read : goal.returns-clause-read
returns-clause-read g c =
    let w : Stored = (record { page = (stored_at c.read.new.self c.next-place.result).page; changed = false }) in
    let frame : Frame = record { number = c.args.p; place = c.next-place.result } in
    let t = subst (λ (es : List (ℕ × ℕ)). Takes frame w.page w.changed c.args.self.now (seen_as c.read.new.self es c.self.inside.gets.count)) (sym (ap (λ (v : PlacesView). v.taken) c.take.ensures ∙ ap (λ (k : ℕ). (c.args.p, k) ∷ c.self.inside.places.taken) (sym c.next-place.ensures)))
    (takes c.self.inside.frames c.self.inside.places c.self.inside.gets.count c.args.self.now c.self.invariant c.self.view_is c.args.p c.next-place.result c.next-place.ensures (not_taken c.self.inside.frames c.self.inside.places c.self.inside.gets.count c.args.self.now c.self.invariant c.self.view_is c.args.p c.requires.absent) (free_left c.self.inside.frames c.self.inside.places c.self.inside.gets.count c.args.self.now c.self.invariant c.self.view_is c.requires.room) w c.read.new.self c.read.ensures.others c.self.inside.gets.count) in
    takes_shown frame w.page false c.args.self.now (seen_as c.read.new.self c.take.new.self.taken c.self.inside.gets.count) t
