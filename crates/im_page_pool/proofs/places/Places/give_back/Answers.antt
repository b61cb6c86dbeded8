use Rattle.std.proofs.Common.{◌≡◌, ℕ, List, Some, None, nat_eq, sym, subst, ap, ◌∙◌, arith}
use Rattle.std.specs.Map.{lookup, remove_entry}
use Rattle.std.specs.HashMap.{get}
use Rattle.im_page_pool.specs.Places.{PlacesView, taken_in, Shows}
use Rattle.im_page_pool.proofs.UseLemmas.{put_gives, page_of_frame, taken_given, free_room, keeps_given}
use Rattle.im_page_pool.proofs.GuessLemmas.{shows_front, no_page}
use Rattle.im_page_pool.proofs.places.Places.give_back.Goals as goal

pub push_reserved-requires : goal.push_reserved-requires
push_reserved-requires c =
    let held : lookup (nat_eq c.args.p) (taken_in c.self.inside.by_use.entries) ≡ Some c.in-Some.place = sym (c.in-Some.ensures.found ∙ c.self.invariant.0.found c.args.p) in
    let f = free_room c.self.inside.by_use.entries (get nat_eq c.self.inside.numbers) _ c.self.inside.free.items c.self.invariant.0 c.args.p c.in-Some.place held in
    let v = c.self.invariant.1 in
    omega arith

pub invariant_of-self : goal.invariant_of-self
invariant_of-self c =
    let held : lookup (nat_eq c.args.p) (taken_in c.self.inside.by_use.entries) ≡ Some c.in-Some.place = sym (c.in-Some.ensures.found ∙ c.self.invariant.0.found c.args.p) in
    let es = c.self.inside.by_use.entries in
    let there = page_of_frame es (get nat_eq c.self.inside.numbers) _ c.self.inside.free.items c.self.invariant.0 c.args.p c.in-Some.place held in
    let put = put_gives c.self.inside.by_use c.put.new.self c.in-Some.place (Some c.args.p) None c.put.result there c.put.ensures.succeeds c.put.ensures.entries in
    let kept = keeps_given es (get nat_eq c.self.inside.numbers) _ c.self.inside.free.items c.self.invariant.0 c.args.p c.in-Some.place held c.put.new.self.entries (get nat_eq c.leave.new.numbers) _ c.push_reserved.new.self.items _
    put c.in-Some.ensures.noted c.in-Some.ensures.room c.push_reserved.ensures.items
    (let v = c.self.invariant.1 in let k = c.push_reserved.ensures.capacity in omega arith) in
    let shows = shows_front c.in-Some.place (Some c.args.p) es there c.self.inside.guesses c.self.invariant.2 None 0 c.put.new.self.entries no_page put in
    (kept.0, kept.1, subst (λ (g : List ℕ). Shows g c.put.new.self.entries) (sym c.note.ensures) shows)

pub returns-in-Some-clause-taken : goal.returns-in-Some-clause-taken
returns-in-Some-clause-taken c =
    let held : lookup (nat_eq c.args.p) (taken_in c.self.inside.by_use.entries) ≡ Some c.in-Some.place = sym (c.in-Some.ensures.found ∙ c.self.invariant.0.found c.args.p) in
    let es = c.self.inside.by_use.entries in
    let there = page_of_frame es (get nat_eq c.self.inside.numbers) _ c.self.inside.free.items c.self.invariant.0 c.args.p c.in-Some.place held in
    ap taken_in (put_gives c.self.inside.by_use c.put.new.self c.in-Some.place (Some c.args.p) None c.put.result there c.put.ensures.succeeds c.put.ensures.entries)
    ∙ taken_given es (get nat_eq c.self.inside.numbers) _ c.self.inside.free.items c.self.invariant.0 c.args.p c.in-Some.place held
    ∙ ap (λ (v : PlacesView). remove_entry (nat_eq c.args.p) v.taken) c.self.view_is
