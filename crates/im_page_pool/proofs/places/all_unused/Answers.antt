use Rattle.std.proofs.Common.{◌≡◌, ◌<◌, ℕ, Option, None, nat_eq, length, sym, ap, ◌∙◌, arith}
use Rattle.std.specs.Map.{lookup}
use Rattle.lru.specs.LruCache.{LruCache}
use Rattle.im_page_pool.proofs.PlaceLemmas.{put_new}
use Rattle.im_page_pool.proofs.EntryLemmas.{lookup_nowhere}
use Rattle.im_page_pool.proofs.UseLemmas.{on_gives, unused_push}
use Rattle.im_page_pool.proofs.places.all_unused.Goals as goal

pub loop-i-preserved : goal.loop-i-preserved
loop-i-preserved c =
    let i = c.loop-i.invariant in
    let old = c.loop-i.by_use in
    let put = on_gives c.put.result (sym c.in_ok-map_err.ensures.variant) c.put.ensures.entries in
    let absent : lookup (nat_eq c.loop-i.i) old.entries ≡ None = lookup_nowhere c.loop-i.i old.entries (i.unused.never c.loop-i.i (omega arith)) in
    let room : length old.entries < old.cap = let l = i.unused.len in let k = i.cap in let t = c.loop-i-test.true in omega arith in
    record {
      unused = unused_push c.loop-i.i old.entries c.put.new.self.entries i.unused (ap (λ (d : LruCache ℕ (Option ℕ)). d.entries) put ∙ put_new old c.loop-i.i None absent room);
      cap = ap (λ (d : LruCache ℕ (Option ℕ)). d.cap) put ∙ i.cap;
    }
