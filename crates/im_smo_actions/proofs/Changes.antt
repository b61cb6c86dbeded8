-- How a structure change is refused, and a leaf that stays for want of memory.
use Rattle.std.proofs.Common.{Bool, true, false, ◌≡◌, ◌≢◌, inl, inr, ℕ, Option, Some, None, refl, sym, subst, ◌∙◌}
use Rattle.im_base_types.specs.declared.fault.Fault.{Fault}
use Rattle.im_base_types.specs.declared.fault.Fault.TheVariants.{Capacity, Device, Failed, LogFull, Memory, NotAStore}
use Rattle.im_base_types.specs.Keys.{Key}
use Rattle.im_base_disk.specs.declared.disk.Disk.{Ghosts}
use Rattle.im_page_writer.specs.declared.page_writer.PageWriter.{PageWriter}
use Rattle.im_page_writer.specs.Outcome.{mild, no_page, none_mild, AreLoaded, Ends, Outcome, LogEnds, Logs, Reads}
use Rattle.im_theory_tree.specs.Levels.{Pages}
use Rattle.im_smo_split.specs.Plan.{WantsPages}
use Rattle.im_smo_actions.specs.Structure.{IsUsedUp}

-- what is nothing is none
pub none_of : {A : Type 0} (o : Option A) → ((a : A) → o ≡ Some a → ⊥) → o ≡ None
none_of None not = refl
none_of (Some a) not = absurd (not a refl)

-- ---- refusals

-- a search is never refused for want of memory
pub reads_never_short : {D : Type 0} (d : Ghosts D) {v : PageWriter} {old : D} {w : PageWriter} {new : D} {f : Fault} → Reads d v old w new (Some f) → f ≡ Memory → ⊥
reads_never_short d {v} {old} {w} {new} {f} reads short =
    let ends : Ends d AreLoaded no_page v old w new (Some Memory) = subst (λ (x : Fault). Ends d AreLoaded no_page v old w new (Some x)) short reads.ends in
    let clash : false ≡ true = ends.0 in
    cc clash

-- a plan that wants numbers or levels wants them in each way that its refusal is told
pub runs_out : {dense : Bool} (pages : Pages) (key : Key) (max : Option ℕ) (f : Fault) → WantsPages dense pages key max f → f ≡ Capacity → IsUsedUp dense pages key
runs_out pages key max f wants is = elim (wants.used_up is) [ inl over ↦ inl over | inr tall ↦ elim (wants.whole_way is) [ inl over ↦ inl over | inr down ↦ inr (tall, down) ] ]

module _ {D : Type 0} (d : Ghosts D) where
  other_ends : (v : PageWriter) (old : D) (w : PageWriter) (new : D) (f : Fault) → f ≢ Memory → LogEnds d true mild v old w new (Some f) → LogEnds d true none_mild v old w new (Some f)
  other_ends v old w new Failed not one = one
  other_ends v old w new NotAStore not one = one
  other_ends v old w new Device not one = one
  other_ends v old w new LogFull not one = one
  other_ends v old w new Memory not one = absurd (not refl)
  other_ends v old w new f not one = absurd (let clash = one.0 in cc clash)

module _ {D : Type 0} (d : Ghosts D) {v : PageWriter} {old : D} {w : PageWriter} {new : D} where
  -- a writer that works has not failed
  pub never_failed : {m : Fault → Bool} (f : Fault) → v.failed ≡ false → Outcome d AreLoaded m v old w new (Some f) → f ≡ Failed → ⊥
  never_failed {m} f works one is =
      let ends : Ends d AreLoaded m v old w new (Some Failed) = subst (λ (x : Fault). Ends d AreLoaded m v old w new (Some x)) is one.ends in
      let clash : false ≡ true = sym works ∙ ends.0 in
      cc clash

  -- ---- a leaf that stays for want of memory

  pub memory_done : {m n : Fault → Bool} (f : Fault) → f ≡ Memory → Logs d true m v old w new (Some f) → Logs d true n v old w new None
  memory_done {m} {n} f is one =
      let ends : LogEnds d true m v old w new (Some Memory) = subst (λ (x : Fault). LogEnds d true m v old w new (Some x)) is one.ends in
      record { ready = one.ready; frames = one.frames; ends = record { began = ends.1.began; works = ends.1.works; alive = ends.1.alive } }

  pub other_so : (f : Fault) → f ≢ Memory → Logs d true mild v old w new (Some f) → Logs d true none_mild v old w new (Some f)
  other_so f not one = record { ready = one.ready; frames = one.frames; ends = other_ends d v old w new f not one.ends }
