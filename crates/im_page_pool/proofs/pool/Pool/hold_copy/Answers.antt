use Rattle.std.proofs.Common.{ℕ, List, ◌∷◌, true, sym, ap, subst, ◌∙◌}
use Rattle.im_page_pool.specs.Frames.{Stored, stored_at}
use Rattle.im_page_pool.specs.Places.{PlacesView}
use Rattle.im_page_pool.specs.declared.frame.Frame.{Frame}
use Rattle.im_page_pool.specs.Pool.{Takes}
use Rattle.im_page_pool.proofs.PoolLemmas.{seen_as, not_taken, free_left, next_within, takes, takes_shown, whole_taken, whole_len}
use Rattle.im_page_pool.proofs.pool.Pool.hold_copy.Goals as goal

pub load-requires : goal.load-requires
load-requires c = next_within c.self.inside.frames c.self.inside.places c.self.inside.gets.count c.args.self.now c.self.invariant c.self.view_is c.args.p c.next-place.result c.next-place.ensures (not_taken c.self.inside.frames c.self.inside.places c.self.inside.gets.count c.args.self.now c.self.invariant c.self.view_is c.args.p c.requires.absent) (free_left c.self.inside.frames c.self.inside.places c.self.inside.gets.count c.args.self.now c.self.invariant c.self.view_is c.requires.room)

pub take-requires-clause-new : goal.take-requires-clause-new
take-requires-clause-new c = (not_taken c.self.inside.frames c.self.inside.places c.self.inside.gets.count c.args.self.now c.self.invariant c.self.view_is c.args.p c.requires.absent)

pub invariant_of-self-2 : goal.invariant_of-self-2
invariant_of-self-2 c =
    let w = whole_taken c.self.inside.frames c.self.inside.places c.self.inside.gets.count c.args.self.now c.self.invariant c.self.view_is c.args.p c.next-place.result c.next-place.ensures (not_taken c.self.inside.frames c.self.inside.places c.self.inside.gets.count c.args.self.now c.self.invariant c.self.view_is c.args.p c.requires.absent) (free_left c.self.inside.frames c.self.inside.places c.self.inside.gets.count c.args.self.now c.self.invariant c.self.view_is c.requires.room) c.take.new.self (ap (λ (v : PlacesView). v.taken) c.take.ensures ∙ ap (λ (k : ℕ). (c.args.p, k) ∷ c.self.inside.places.taken) (sym c.next-place.ensures)) (ap (λ (v : PlacesView). v.free) c.take.ensures) in
    whole_len c.take.new.self c.self.inside.frames c.load.new.self w c.load.ensures.len

pub returns-clause-taken : goal.returns-clause-taken
returns-clause-taken c =
    let w : Stored = (record { page = (stored_at c.load.new.self c.next-place.result).page; changed = true }) in
    let frame : Frame = record { number = c.args.p; place = c.next-place.result } in
    let t = subst (λ (es : List (ℕ × ℕ)). Takes frame w.page w.changed c.args.self.now (seen_as c.load.new.self es c.self.inside.gets.count)) (sym (ap (λ (v : PlacesView). v.taken) c.take.ensures ∙ ap (λ (k : ℕ). (c.args.p, k) ∷ c.self.inside.places.taken) (sym c.next-place.ensures)))
    (takes c.self.inside.frames c.self.inside.places c.self.inside.gets.count c.args.self.now c.self.invariant c.self.view_is c.args.p c.next-place.result c.next-place.ensures (not_taken c.self.inside.frames c.self.inside.places c.self.inside.gets.count c.args.self.now c.self.invariant c.self.view_is c.args.p c.requires.absent) (free_left c.self.inside.frames c.self.inside.places c.self.inside.gets.count c.args.self.now c.self.invariant c.self.view_is c.requires.room) w c.load.new.self c.in_ok-load.ensures.put c.self.inside.gets.count) in
    takes_shown frame w.page true c.args.self.now (seen_as c.load.new.self c.take.new.self.taken c.self.inside.gets.count) t
