-- What the table of a call's ends says of stops, and of refusals.
use Rattle.std.proofs.Common.{◌≡◌, ◌≢◌, ℕ, Bool, true, false, Option, None, Some, refl, sym, subst, ◌∙◌, ◌⊎◌, inl, inr}
use Rattle.std.specs.Prelude.{Result, Ok, Err, IfErr}
use Rattle.im_base_types.specs.declared.fault.Fault.{Fault}
use Rattle.im_base_types.specs.declared.fault.Fault.TheVariants.{Capacity, Device, Failed, LogFull, Memory, NotAStore}
use Rattle.im_theory_log.specs.Histories.{Base}
use Rattle.im_theory_log.specs.Writer.{Writer}
use Rattle.im_base_disk.specs.declared.disk.Disk.{Ghosts}
use Rattle.im_page_writer.specs.declared.page_writer.PageWriter.{PageWriter}
use Rattle.im_page_flush.specs.Writing.{LeavesGrown}
use Rattle.im_page_writer.specs.PageWriter.{StandsAs, Evicted}
use Rattle.im_page_writer.specs.Outcome.{fault_of, none_mild, AreLoaded, Stays, Ends, Outcome, Logs}
use Rattle.im_page_flush.proofs.Goings.{leaves_so_far}
use Rattle.im_page_writer.proofs.Outcomes.{late_behind, logs_late}

-- ---- what a stop has left

module _ {D : Type 0} (d : Ghosts D) (b : Base) (base : ℕ) (s : Writer) where
  left_staying : (v : PageWriter) (old : D) (w : PageWriter) (new : D) → StandsAs d b base s v old → AreLoaded s → Stays d AreLoaded v old w new → LeavesGrown d b base s old new
  left_staying v old w new stands loaded one = let ev = one.goes b base s stands loaded in leaves_so_far d b base s old ev.now w.log w.table w.pool new ev.on.goes

  left_ends : (m : Fault → Bool) (v : PageWriter) (old : D) (w : PageWriter) (new : D) (why : Option Fault) → StandsAs d b base s v old → AreLoaded s → Ends d AreLoaded m v old w new why → LeavesGrown d b base s old new
  left_ends m v old w new None stands loaded one = left_staying v old w new stands loaded one
  left_ends m v old w new (Some Failed) stands loaded one = absurd (let clash : false ≡ true = sym stands.working ∙ one.0 in cc clash)
  left_ends m v old w new (Some Device) stands loaded one = one.0.stops b base s stands loaded
  left_ends m v old w new (Some LogFull) stands loaded one = one.0.stops b base s stands loaded
  left_ends m v old w new (Some e) stands loaded one = left_staying v old w new stands loaded one.1

  -- a call that changed no page
  pub left_reading : {m : Fault → Bool} {v : PageWriter} {old : D} {w : PageWriter} {new : D} {why : Option Fault} → StandsAs d b base s v old → AreLoaded s → Outcome d AreLoaded m v old w new why → LeavesGrown d b base s old new
  left_reading {m} {v} {old} {w} {new} {why} stands loaded one = left_ends m v old w new why stands loaded one.ends

-- ---- refusals after a record

-- what is answered is not as no store, where the refusal was not
pub late_cause : (f answer : Fault) → (f ≡ Memory → answer ≡ Failed) → (f ≢ Memory → answer ≡ f) → f ≢ NotAStore → answer ≢ NotAStore
late_cause f answer memory others cause is =
    let other : f ≢ Memory = λ same. (let clash : Failed ≡ NotAStore = sym (memory same) ∙ is in cc clash) in
    cause (sym (others other) ∙ is)

-- nor for want of memory
pub late_short : (f answer : Fault) → (f ≡ Memory → answer ≡ Failed) → (f ≢ Memory → answer ≡ f) → (f ≡ Memory → ⊥) → answer ≡ Memory → ⊥
late_short f answer memory others never is = never (sym (others never) ∙ is)

-- nor for want of page numbers
pub late_capacity : (f answer : Fault) → (f ≡ Memory → answer ≡ Failed) → (f ≢ Memory → answer ≡ f) → (f ≡ Capacity → ⊥) → answer ≡ Capacity → ⊥
late_capacity f answer memory others never is =
    let other : f ≢ Memory = λ same. (let clash : Failed ≡ Capacity = sym (memory same) ∙ is in cc clash) in
    never (sym (others other) ∙ is)

-- ---- refusals

module _ {D : Type 0} (d : Ghosts D) where
  -- page numbers are not used up where that is no cause to go on for
  pub no_capacity : {A : Type 0} {late : Bool} {m : Fault → Bool} {v : PageWriter} {old : D} {w : PageWriter} {new : D} (P : Type 0) (r : Result A Fault) → m Capacity ≡ false → Logs d late m v old w new (fault_of r) → IfErr r (λ e. e ≡ Capacity → P)
  no_capacity {A} {late} {m} {v} {old} {w} {new} P (Ok a) none one = tt
  no_capacity {A} {late} {m} {v} {old} {w} {new} P (Err e) none one =
      λ is. let here : Logs d late m v old w new (Some Capacity) = subst (λ (f : Fault). Logs d late m v old w new (Some f)) is one in
      let clash : false ≡ true = sym none ∙ here.ends.0 in absurd (let never : ⊥ = cc clash in never)

  -- and memory is not wanted
  pub no_memory : {late : Bool} {m : Fault → Bool} {v : PageWriter} {old : D} {w : PageWriter} {new : D} {f : Fault} → m Memory ≡ false → Logs d late m v old w new (Some f) → f ≡ Memory → ⊥
  no_memory {late} {m} {v} {old} {w} {new} {f} none one is =
      let here : Logs d late m v old w new (Some Memory) = subst (λ (e : Fault). Logs d late m v old w new (Some e)) is one in
      let clash : false ≡ true = sym none ∙ here.ends.0 in cc clash

  pub never_short : {A : Type 0} {late : Bool} {m : Fault → Bool} {v : PageWriter} {old : D} {w : PageWriter} {new : D} (P : Type 0) (r : Result A Fault) → m Memory ≡ false → Logs d late m v old w new (fault_of r) → IfErr r (λ e. e ≡ Memory → P)
  never_short {A} {late} {m} {v} {old} {w} {new} P (Ok a) none one = tt
  never_short {A} {late} {m} {v} {old} {w} {new} P (Err e) none one = λ is. absurd (no_memory none one is)

  -- neither comes
  pub wants_nothing : {A : Type 0} {late : Bool} {m : Fault → Bool} {v : PageWriter} {old : D} {w : PageWriter} {new : D} (r : Result A Fault) → m Memory ≡ false → m Capacity ≡ false → Logs d late m v old w new (fault_of r) → IfErr r (λ e. (e ≡ Memory) ⊎ (e ≡ Capacity) → ⊥)
  wants_nothing {A} {late} {m} {v} {old} {w} {new} (Ok a) short none one = tt
  wants_nothing {A} {late} {m} {v} {old} {w} {new} (Err e) short none one = λ why. elim why [ inl is ↦ no_memory short one is | inr is ↦ no_capacity {A = Unit} ⊥ (Err e) none one is ]

  -- a refusal after a record, of a call that is not refused for want of memory
  pub none_late : {last late : Bool} {m n : Fault → Bool} {v : PageWriter} {old : D} {w : PageWriter} {mid : D} {x : PageWriter} {new : D} {f : Fault} → Logs d last m v old w mid None → Logs d late none_mild w mid x new (Some f) → Logs d true n v old x new (Some f)
  none_late {last} {late} {m} {n} {v} {old} {w} {mid} {x} {new} {f} one two =
      late_behind d one (logs_late d (λ e is. let never : ⊥ = cc is in absurd never) one.ends.works two) (λ is. absurd (no_memory refl two is)) (λ other. refl)

  -- a writer that worked is not refused as failed, unless late
  pub began_working : {A : Type 0} {m : Fault → Bool} {v : PageWriter} {old : D} {w : PageWriter} {new : D} (P : Type 0) (r : Result A Fault) → v.failed ≡ false → Logs d false m v old w new (fault_of r) → IfErr r (λ e. e ≡ Failed → P)
  began_working {A} {m} {v} {old} {w} {new} P (Ok a) works one = tt
  began_working {A} {m} {v} {old} {w} {new} P (Err e) works one =
      λ is. let here : Logs d false m v old w new (Some Failed) = subst (λ (f : Fault). Logs d false m v old w new (Some f)) is one in
      let clash : false ≡ true = sym works ∙ here.ends.0 in absurd (let never : ⊥ = cc clash in never)

  -- where it failed, memory was wanted, and nothing more was logged
  pub late_evicted : {m : Fault → Bool} {v : PageWriter} {old : D} {w : PageWriter} {new : D} (f answer : Fault) → (f ≡ Memory → answer ≡ Failed) → (f ≢ Memory → answer ≡ f) → answer ≡ Failed → v.failed ≡ false → Logs d false m v old w new (Some f)
      → (b : Base) (base : ℕ) (s : Writer) → StandsAs d b base s v old → AreLoaded s → Evicted d b base s old w new
  late_evicted {m} {v} {old} {w} {new} Memory answer memory others is works one b base s stands loaded = one.ends.1.goes b base s stands loaded
  late_evicted {m} {v} {old} {w} {new} Failed answer memory others is works one b base s stands loaded = absurd (let clash : false ≡ true = sym works ∙ one.ends.0 in cc clash)
  late_evicted {m} {v} {old} {w} {new} f answer memory others is works one b base s stands loaded = absurd (let clash : f ≡ Failed = sym (others (λ same. let never : ⊥ = cc same in never)) ∙ is in cc clash)
