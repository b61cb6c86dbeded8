use Rattle.std.proofs.Common.{◌≡◌, ℕ, List, Option, Some, nat_eq, sym, subst, ap, ◌∙◌}
use Rattle.std.specs.Map.{lookup}
use Rattle.std.specs.HashMap.{get}
use Rattle.lru.specs.LruCache.{LruCache, promoted}
use Rattle.im_page_pool.specs.Places.{PlacesView, taken_in, Shows}
use Rattle.im_page_pool.proofs.PlaceLemmas.{promoted_none}
use Rattle.im_page_pool.proofs.UseLemmas.{shown, page_of_frame, taken_promoted, keeps_promoted}
use Rattle.im_page_pool.proofs.GuessLemmas.{shows_promoted}
use Rattle.im_page_pool.proofs.places.Places.touch.Goals as goal

pub invariant_of-self : goal.invariant_of-self
invariant_of-self c =
    let held : lookup (nat_eq c.args.p) (taken_in c.self.inside.by_use.entries) ≡ Some c.in-Some.place = ap (λ (v : PlacesView). lookup (nat_eq c.args.p) v.taken) c.self.view_is ∙ sym c.in-Some.ensures in
    let es = c.self.inside.by_use.entries in
    let at = get nat_eq c.self.inside.numbers in
    let free = c.self.inside.free.items in
    let first = ap (λ (d : LruCache ℕ (Option ℕ)). d.entries) c.promote.ensures.entries in
    let kept = keeps_promoted es at _ free c.self.invariant.0 c.args.p c.in-Some.place held c.promote.new.self.entries _ first c.self.invariant.1 in
    let shows : Shows c.guess.new.self es = subst (λ (g : List ℕ). Shows g es) (sym c.guess.ensures) c.self.invariant.2 in
    (kept.0, kept.1, shows_promoted c.in-Some.place (Some c.args.p) es (page_of_frame es at _ free c.self.invariant.0 c.args.p c.in-Some.place held) c.guess.new.self shows c.promote.new.self.entries first)

pub returns-in-Some-clause-moved : goal.returns-in-Some-clause-moved
returns-in-Some-clause-moved c =
    let held : lookup (nat_eq c.args.p) (taken_in c.self.inside.by_use.entries) ≡ Some c.in-Some.place = ap (λ (v : PlacesView). lookup (nat_eq c.args.p) v.taken) c.self.view_is ∙ sym c.in-Some.ensures in
    ap (λ (d : LruCache ℕ (Option ℕ)). shown (taken_in d.entries) c.self.inside.free.items) c.promote.ensures.entries
    ∙ ap (λ (l : List (ℕ × ℕ)). shown l c.self.inside.free.items) (taken_promoted c.self.inside.by_use.entries (get nat_eq c.self.inside.numbers) _ c.self.inside.free.items c.self.invariant.0 c.args.p c.in-Some.place held)
    ∙ ap (λ (v : PlacesView). shown (promoted (nat_eq c.args.p) v.taken) v.free) c.self.view_is

pub returns-clause-moved : goal.returns-clause-moved
returns-clause-moved c = sym (ap (λ (l : List (ℕ × ℕ)). shown l c.args.self.now.free) (promoted_none c.args.p c.args.self.now.taken (sym c.in_default.ensures)))
