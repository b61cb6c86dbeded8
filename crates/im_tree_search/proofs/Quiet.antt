-- Calls that ask nothing of the disk, since their pages are held.
use Rattle.std.proofs.Common.{◌≡◌, ◌≤◌, ℕ, Bool, true, Option, zero, suc, refl, sym, ◌∙◌, ap, subst, arith}
use Rattle.std.specs.Prelude.{IsSome}
use Rattle.std.specs.Option.{option_map_or}
use Rattle.im_base_types.specs.Keys.{Key}
use Rattle.im_base_types.specs.Pages.{Body, Page}
use Rattle.im_base_types.specs.declared.page_kind.PageKind.TheVariants.{Leaf, Inner}
use Rattle.im_theory_page.specs.Child.{IsChild}
use Rattle.im_theory_page.specs.Header.{initial}
use Rattle.im_page_pool.specs.Pool.{Held, PoolView, page_at, MovesFirst}
use Rattle.im_page_writer.specs.declared.page_writer.PageWriter.{PageWriter}
use Rattle.im_tree_search.specs.HeldPages.{HoldsWay, HoldsOn, HoldsBack, IsQuiet}
use Rattle.im_tree_search.specs.Levels.{HasLevel}
use Rattle.im_tree_search.proofs.Steps.{inner_kind}

-- no call
pub quiet_start : {D : Type 0} (v : PageWriter) (old : D) → IsQuiet v old v old
quiet_start v old = record { disk = refl; log = refl; table = refl; held = λ q. refl }

-- two in a row
pub quiet_then : {D : Type 0} {v : PageWriter} {old : D} {u : PageWriter} {mid : D} {w : PageWriter} {new : D} → IsQuiet v old u mid → IsQuiet u mid w new → IsQuiet v old w new
quiet_then a b = record { disk = b.disk ∙ a.disk; log = b.log ∙ a.log; table = b.table ∙ a.table; held = λ q. b.held q ∙ a.held q }

-- a get of a held page
pub got_quiet : {D : Type 0} {A : Type 0} {v : PageWriter} {old : D} {w : PageWriter} {new : D} {p : ℕ} → A × MovesFirst p v.pool w.pool → (new ≡ old) × (w.log ≡ v.log) × (w.table ≡ v.table) → IsQuiet v old w new
got_quiet first quiet = record { disk = quiet.0; log = quiet.1; table = quiet.2; held = first.1.all }

-- a page after it
pub page_still : {D : Type 0} {v : PageWriter} {old : D} {w : PageWriter} {new : D} → IsQuiet v old w new → (p : ℕ) → page_at w.pool p ≡ page_at v.pool p
page_still quiet p = ap (λ (o : Option Held). option_map_or (λ (h : Held). h.page) o (initial 0)) (quiet.held p)

-- the sets after it
pub way_still : {D : Type 0} {v : PageWriter} {old : D} {w : PageWriter} {new : D} (key : Key) (set : ℕ → Bool) → HoldsWay key v.pool set → IsQuiet v old w new → HoldsWay key w.pool set
way_still {D} {v} {old} {w} {new} key set way quiet = record {
  root = way.root;
  held = λ p in_set. subst (λ (o : Option Held). IsSome o) (sym (quiet.held p)) (way.held p in_set);
  child = λ p c in_set kind is.
      let same : page_at w.pool p ≡ page_at v.pool p = page_still quiet p in
      way.child p c in_set (subst (λ (x : Page). x.body.kind ≡ Inner) same kind) (subst (λ (x : Page). IsChild x.body key c) same is);
}

pub on_still : {D : Type 0} {v : PageWriter} {old : D} {w : PageWriter} {new : D} (key : Key) (set : ℕ → Bool) → HoldsOn key v.pool set → IsQuiet v old w new → HoldsOn key w.pool set
on_still {D} {v} {old} {w} {new} key set on quiet = record {
  way = way_still key set on.way quiet;
  meta = on.meta;
  next = λ p in_set kind some.
      let same : page_at w.pool p ≡ page_at v.pool p = page_still quiet p in
      subst (λ (x : Page). set x.body.next ≡ true) (sym same) (on.next p in_set (subst (λ (x : Page). x.body.kind ≡ Leaf) same kind) (subst (λ (x : Page). 1 ≤ x.body.next) same some));
}

pub back_still : {D : Type 0} {v : PageWriter} {old : D} {w : PageWriter} {new : D} (key : Key) (set : ℕ → Bool) → HoldsBack key v.pool set → IsQuiet v old w new → HoldsBack key w.pool set
back_still {D} {v} {old} {w} {new} key set back quiet = record {
  way = way_still key set back.way quiet;
  meta = back.meta;
  prev = λ p in_set kind some.
      let same : page_at w.pool p ≡ page_at v.pool p = page_still quiet p in
      subst (λ (x : Page). set x.body.prev ≡ true) (sym same) (back.prev p in_set (subst (λ (x : Page). x.body.kind ≡ Leaf) same kind) (subst (λ (x : Page). 1 ≤ x.body.prev) same some));
}

-- a page above the leaves is an inner one
pub level_inner : (h : ℕ) (b : Body) → 1 ≤ h → HasLevel h b → b.kind ≡ Inner
level_inner zero b some level = absurd (omega (arith, some))
level_inner (suc k) b some level = level.kind ∙ inner_kind k

-- the child on the way is in the set
pub child_in_set : (key : Key) (set : ℕ → Bool) (pool : PoolView) (h p c : ℕ) (lent : Page) → HoldsWay key pool set → set p ≡ true → 1 ≤ h → HasLevel h (page_at pool p).body → lent ≡ page_at pool p → IsChild lent.body key c → set c ≡ true
child_in_set key set pool h p c lent way in_set some level same is = way.child p c in_set (level_inner h (page_at pool p).body some level) (subst (λ (x : Page). IsChild x.body key c) same is)

-- and so is the leaf after a leaf
pub next_in_set : (key : Key) (set : ℕ → Bool) (pool : PoolView) (p n : ℕ) (lent : Page) → HoldsOn key pool set → set p ≡ true → HasLevel 0 (page_at pool p).body → lent ≡ page_at pool p → n ≡ lent.body.next → 1 ≤ n → set n ≡ true
next_in_set key set pool p n lent on in_set level same is some =
    let to : n ≡ (page_at pool p).body.next = is ∙ ap (λ (x : Page). x.body.next) same in
    subst (λ (m : ℕ). set m ≡ true) (sym to) (on.next p in_set level.kind (subst (λ (m : ℕ). 1 ≤ m) to some))

-- or before it
pub prev_in_set : (key : Key) (set : ℕ → Bool) (pool : PoolView) (p n : ℕ) (lent : Page) → HoldsBack key pool set → set p ≡ true → HasLevel 0 (page_at pool p).body → lent ≡ page_at pool p → n ≡ lent.body.prev → 1 ≤ n → set n ≡ true
prev_in_set key set pool p n lent back in_set level same is some =
    let to : n ≡ (page_at pool p).body.prev = is ∙ ap (λ (x : Page). x.body.prev) same in
    subst (λ (m : ℕ). set m ≡ true) (sym to) (back.prev p in_set level.kind (subst (λ (m : ℕ). 1 ≤ m) to some))
