-- Look-ups whose pages are held.
use Rattle.std.specs.Prelude.{◌≡◌, ◌≤◌, ℕ, Bool, true}
use Rattle.im_base_types.specs.Keys.{Key}
use Rattle.im_base_types.specs.declared.page_kind.PageKind.TheVariants.{Leaf, Inner}
use Rattle.im_theory_page.specs.Child.{IsChild}
use Rattle.im_page_pool.specs.Pool.{PoolView, held_of, page_at, Holds}
use Rattle.im_page_writer.specs.declared.page_writer.PageWriter.{PageWriter}

-- Each page of the set is held. It has page 1 and, with an inner page, the child on the key's way that this names.
pub record HoldsWay (key : Key) (pool : PoolView) (set : ℕ → Bool) : Type 0 where
  pub root : set 1 ≡ true
  pub held : (p : ℕ) → set p ≡ true → Holds pool p
  pub child : (p c : ℕ) → set p ≡ true → (page_at pool p).body.kind ≡ Inner → IsChild (page_at pool p).body key c → set c ≡ true

-- It has page 0 too and, with a leaf, the one after it.
pub record HoldsOn (key : Key) (pool : PoolView) (set : ℕ → Bool) : Type 0 where
  pub way : HoldsWay key pool set
  pub meta : set 0 ≡ true
  pub next : (p : ℕ) → set p ≡ true → (page_at pool p).body.kind ≡ Leaf → 1 ≤ (page_at pool p).body.next → set (page_at pool p).body.next ≡ true

-- It has page 0 too and, with a leaf, the one before it.
pub record HoldsBack (key : Key) (pool : PoolView) (set : ℕ → Bool) : Type 0 where
  pub way : HoldsWay key pool set
  pub meta : set 0 ≡ true
  pub prev : (p : ℕ) → set p ≡ true → (page_at pool p).body.kind ≡ Leaf → 1 ≤ (page_at pool p).body.prev → set (page_at pool p).body.prev ≡ true

-- Nothing was asked of the disk, and the same pages are held, each as it was.
pub record IsQuiet {D : Type 0} (v : PageWriter) (old : D) (w : PageWriter) (new : D) : Type 0 where
  pub disk : new ≡ old
  pub log : w.log ≡ v.log
  pub table : w.table ≡ v.table
  pub held : (q : ℕ) → held_of w.pool q ≡ held_of v.pool q
