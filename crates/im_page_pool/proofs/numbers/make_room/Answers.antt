use Rattle.std.proofs.Common.{◌≡◌, ◌≤◌, ℕ, [], ◌∷◌, ◌++◌, Option, Some, None, IsOk, List, nat_eq, length, sym, subst, ap, ◌∙◌, arith}
use Rattle.std.proofs.lemmas.List.{length_push}
use Rattle.std.specs.Map.{keys_of, lookup}
use Rattle.std.specs.HashMap.{get, hash_map_len}
use Rattle.im_page_pool.specs.Places.{times, taken_in}
use Rattle.im_page_pool.proofs.UseLemmas.{Uses, on_gives, option_none}
use Rattle.im_page_pool.proofs.NumberLemmas.{again_first, again_more, again_passed, once_more, fresh_here, fresh_more, taken_passed, grown}
use Rattle.im_page_pool.proofs.numbers.make_room.Goals as goal

pub loop-place-init : goal.loop-place-init
loop-place-init c =
    let e : c.into_iter-place-iterator.result.iter ≡ c.args.by_use.now.entries = ap (λ r. r.iter) c.into_iter-place-iterator.ensures.into_iter_gives ∙ c.rev-place-items.ensures.source ∙ c.iter.ensures.rest in
    let none : (q : ℕ) → get nat_eq c.clear.new.self q ≡ None = λ q. ap (λ (l : List (ℕ × Option ℕ)). lookup (nat_eq q) l) c.clear.ensures.empty in
    record {
      same = λ p. again_first (get nat_eq c.clear.new.self) p c.args.by_use.now.entries c.into_iter-place-iterator.result.iter (none p) e;
      once = λ q. subst (λ (l : Uses). times q (keys_of (taken_in l)) ≤ 1) (sym e) (c.requires.once q);
      fresh = λ q le. none q;
      count = let z = c.clear.ensures.len in let k = ap length e in omega arith;
      room = let z = c.clear.ensures.capacity in let r = c.requires.room in omega arith;
    }

pub loop-place-preserved-in-Some-number : goal.loop-place-preserved-in-Some-number
loop-place-preserved-in-Some-number c =
    let rest = c.next.new.self.iter in
    let was = c.loop-place.place-iterator.iter in
    let p = c.in-Some-number.p in
    let f = c.in-Some.place.now in
    let old = c.loop-place.numbers in
    let new = c.insert.new.self in
    let is : was ≡ rest ++ (f, Some p) ∷ [] = c.in-Some.ensures.steps ∙ ap (λ (o : Option ℕ). rest ++ (f, o) ∷ []) c.in-Some-number.is in
    let i = c.loop-place.invariant in
    let long = ap length is ∙ length_push rest (f, Some p) in
    let ok : IsOk c.insert.result = c.insert.ensures.succeeds (let a = i.count in let b = i.room in omega arith) in
    let set = (on_gives c.insert.result ok c.insert.ensures.updates).0 in
    let more = grown c.insert.result (hash_map_len old) (hash_map_len new) (get nat_eq old p) ok (fresh_here rest was p f is (get nat_eq old) i.fresh) c.insert.ensures.old c.insert.ensures.len in
    record {
      same = λ q. again_more (get nat_eq old) (get nat_eq new) q p f c.args.by_use.now.entries rest was is (set q) (i.same q);
      once = once_more rest was p f is i.once;
      fresh = fresh_more rest was p f is (get nat_eq old) i.fresh (get nat_eq new) i.once set;
      count = let a = i.count in omega arith;
      room = let a = i.room in let s = c.insert.ensures.spare in omega arith;
    }

pub loop-place-preserved : goal.loop-place-preserved
loop-place-preserved c =
    let rest = c.next.new.self.iter in
    let was = c.loop-place.place-iterator.iter in
    let f = c.in-Some.place.now in
    let is : was ≡ rest ++ (f, None) ∷ [] = c.in-Some.ensures.steps ∙ ap (λ (o : Option ℕ). rest ++ (f, o) ∷ []) (option_none c.in-Some.number.now c.in_default.not-Some) in
    let i = c.loop-place.invariant in
    let long = ap length is ∙ length_push rest (f, None) in
    let taken = taken_passed rest was f is in
    record {
      same = λ q. again_passed (get nat_eq c.loop-place.numbers) q f c.args.by_use.now.entries rest was is (i.same q);
      once = λ q. subst (λ (l : _). times q (keys_of l) ≤ 1) taken (i.once q);
      fresh = λ q le. i.fresh q (subst (λ (l : _). 1 ≤ times q (keys_of l)) (sym taken) le);
      count = let a = i.count in omega arith;
      room = i.room;
    }
