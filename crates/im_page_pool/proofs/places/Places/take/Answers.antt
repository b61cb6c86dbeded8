use Rattle.std.proofs.Common.{◌≡◌, ◌+◌, ◌-◌, ◌<◌, ℕ, ◌∷◌, List, Some, None, nat_eq, length, take, slice_index, vec_len, sym, subst, ap, ◌∙◌, arith, rules}
use Rattle.std.specs.Map.{lookup}
use Rattle.std.specs.HashMap.{get}
use Rattle.im_page_pool.specs.Places.{PlacesView, taken_in, Shows}
use Rattle.im_page_pool.proofs.UseLemmas.{Uses, shown, put_gives, next_unused, taken_next, keeps_taken}
use Rattle.im_page_pool.proofs.GuessLemmas.{shows_front, one_page}
use Rattle.im_page_pool.proofs.places.Places.take.Goals as goal

pub invariant_of-self : goal.invariant_of-self
invariant_of-self c =
    let es = c.self.inside.by_use.entries in
    let at = get nat_eq c.self.inside.numbers in
    let free = c.self.inside.free.items in
    let f = c.next-place.result in
    let absent : lookup (nat_eq c.args.p) (taken_in es) ≡ None = ap (λ (v : PlacesView). lookup (nat_eq c.args.p) v.taken) c.self.view_is ∙ c.requires.new in
    let some : 0 < length free = let v = ap (λ (v : PlacesView). length v.free) c.self.view_is in let r = c.requires.room in omega arith in
    let next : f ≡ slice_index free (length free - 1) = c.next-place.ensures ∙ sym (ap (λ (v : PlacesView). slice_index v.free (length v.free - 1)) c.self.view_is) in
    let long : vec_len c.self.inside.free ≡ length free = search rules in
    let rest : c.pop.new.self.items ≡ take (length free - 1) free = c.pop.ensures.rest ∙ ap (λ (n : ℕ). take (n - 1) free) long in
    let unused = next_unused es at _ free c.self.invariant.0 c.args.p f absent some next in
    let put = put_gives c.self.inside.by_use c.put.new.self f None (Some c.args.p) c.put.result unused c.put.ensures.succeeds c.put.ensures.entries in
    let kept = keeps_taken es at _ free c.self.invariant.0 c.args.p f absent some next c.put.new.self.entries (get nat_eq c.enter.new.numbers) _ c.pop.new.self.items _
    put c.enter.ensures.found c.enter.ensures.room rest
    (let v = c.self.invariant.1 in let k = c.pop.ensures.capacity in omega arith) in
    let shows = shows_front f None es unused c.self.inside.guesses c.self.invariant.2 (Some c.args.p) (c.args.p + 1) c.put.new.self.entries (one_page c.args.p) put in
    (kept.0, kept.1, subst (λ (g : List ℕ). Shows g c.put.new.self.entries) (sym (c.guess.ensures ∙ c.note.ensures)) shows)

pub returns : goal.returns
returns c =
    let es = c.self.inside.by_use.entries in
    let at = get nat_eq c.self.inside.numbers in
    let free = c.self.inside.free.items in
    let f = c.next-place.result in
    let absent : lookup (nat_eq c.args.p) (taken_in es) ≡ None = ap (λ (v : PlacesView). lookup (nat_eq c.args.p) v.taken) c.self.view_is ∙ c.requires.new in
    let some : 0 < length free = let v = ap (λ (v : PlacesView). length v.free) c.self.view_is in let r = c.requires.room in omega arith in
    let next : f ≡ slice_index free (length free - 1) = c.next-place.ensures ∙ sym (ap (λ (v : PlacesView). slice_index v.free (length v.free - 1)) c.self.view_is) in
    let long : vec_len c.self.inside.free ≡ length free = search rules in
    let rest : c.pop.new.self.items ≡ take (length free - 1) free = c.pop.ensures.rest ∙ ap (λ (n : ℕ). take (n - 1) free) long in
    let unused = next_unused es at _ free c.self.invariant.0 c.args.p f absent some next in
    ap (λ (l : Uses). shown (taken_in l) c.pop.new.self.items) (put_gives c.self.inside.by_use c.put.new.self f None (Some c.args.p) c.put.result unused c.put.ensures.succeeds c.put.ensures.entries)
    ∙ ap (λ (l : List (ℕ × ℕ)). shown l c.pop.new.self.items) (taken_next es at _ free c.self.invariant.0 c.args.p f absent some next)
    ∙ ap (λ (l : List ℕ). shown ((c.args.p, f) ∷ taken_in es) l) rest
    ∙ ap (λ (k : ℕ). shown ((c.args.p, k) ∷ taken_in es) (take (length free - 1) free)) next
    ∙ ap (λ (v : PlacesView). shown ((c.args.p, slice_index v.free (length v.free - 1)) ∷ v.taken) (take (length v.free - 1) v.free)) c.self.view_is
