-- Calls of a turn in a row, and how they end together.
use Rattle.std.proofs.Common.{◌≡◌, ◌≢◌, ◌⊎◌, inl, inr, Bool, true, false, Option, None, Some, refl, sym, ◌∙◌, ap, subst}
use Rattle.std.specs.Prelude.{◌↔◌, not, is_ok, Result, Ok, Err, IsErrAnd, IfErr}
use Rattle.im_base_types.specs.declared.fault.Fault.{Fault}
use Rattle.im_base_types.specs.declared.fault.Fault.TheVariants.{Capacity, Device, Failed, LogFull, Memory, NotAStore}
use Rattle.im_base_disk.specs.declared.disk.Disk.{Ghosts}
use Rattle.im_smo_pages.specs.Kept.{mild_to_take}
use Rattle.im_page_writer.specs.declared.page_writer.PageWriter.{PageWriter}
use Rattle.im_page_writer.specs.PageWriter.{IsReadyWriter}
use Rattle.im_page_writer.specs.Outcome.{fault_of, none_mild, Works, LogEnds, Logs}
use Rattle.im_page_file.proofs.LogEnds.{still_working}
use Rattle.im_engine_rollback.specs.Ends.{may_be_full, may_close, may_turn, TurnEnds, TurnOutcome}

module _ {D : Type 0} (d : Ghosts D) where
  -- ---- calls in a row

  works_then : {v w : PageWriter} {mid : D} {x : PageWriter} {new : D} → Works d v w mid → Works d w x new → Works d v x new
  works_then {v} {w} {mid} {x} {new} one two = record { began = one.began; works = two.works; alive = two.alive }

  ends_behind : (m n : Fault → Bool) → ((e : Fault) → m e ≡ true → n e ≡ true) → (v w : PageWriter) (mid : D) → Works d v w mid → (x : PageWriter) (new : D) (why : Option Fault) → TurnEnds d m w x new why → TurnEnds d n v x new why
  ends_behind m n may v w mid one x new None two = works_then one two
  ends_behind m n may v w mid one x new (Some Device) two = (record { began = one.began; broken = two.0.broken }, two.1)
  ends_behind m n may v w mid one x new (Some LogFull) two = (may LogFull two.0, record { began = one.began; broken = two.1.broken }, two.2, two.3)
  ends_behind m n may v w mid one x new (Some NotAStore) two = (one.began, two.1)
  ends_behind m n may v w mid one x new (Some e) two = (may e two.0, works_then one two.1)

  -- a call after another, which may be refused for more causes
  pub turn_behind : {l m n : Fault → Bool} {v w : PageWriter} {mid : D} {x : PageWriter} {new : D} {why : Option Fault} → ((e : Fault) → m e ≡ true → n e ≡ true) → TurnOutcome d l v w mid None → TurnOutcome d m w x new why → TurnOutcome d n v x new why
  turn_behind {l} {m} {n} {v} {w} {mid} {x} {new} {why} may one two = record { ready = two.ready; frames = two.frames ∙ one.frames; ends = ends_behind m n may v w mid one.ends x new why two.ends }

  ends_more : (m n : Fault → Bool) → ((e : Fault) → m e ≡ true → n e ≡ true) → (v w : PageWriter) (new : D) (why : Option Fault) → TurnEnds d m v w new why → TurnEnds d n v w new why
  ends_more m n may v w new None one = one
  ends_more m n may v w new (Some Device) one = one
  ends_more m n may v w new (Some LogFull) one = (may LogFull one.0, one.1, one.2, one.3)
  ends_more m n may v w new (Some NotAStore) one = one
  ends_more m n may v w new (Some e) one = (may e one.0, one.1)

  -- a call that may be refused for more causes
  pub turn_more : {m n : Fault → Bool} {v w : PageWriter} {new : D} {why : Option Fault} → ((e : Fault) → m e ≡ true → n e ≡ true) → TurnOutcome d m v w new why → TurnOutcome d n v w new why
  turn_more {m} {n} {v} {w} {new} {why} may one = record { ready = one.ready; frames = one.frames; ends = ends_more m n may v w new why one.ends }

  -- a refusal that is handed on
  pub turn_refused_on : {A : Type 0} {m : Fault → Bool} {v w : PageWriter} {new : D} {f : Fault} (r : Result A Fault) → IsErrAnd r (λ e. e ≡ f) → TurnOutcome d m v w new (Some f) → TurnOutcome d m v w new (fault_of r)
  turn_refused_on {A} {m} {v} {w} {new} {f} (Ok a) is one = absurd is
  turn_refused_on {A} {m} {v} {w} {new} {f} (Err e) is one = subst (λ (x : Fault). TurnOutcome d m v w new (Some x)) (sym is) one

  -- bytes that are none of a record, after other calls
  pub not_a_store : {m n : Fault → Bool} {v w : PageWriter} {new : D} → TurnOutcome d m v w new None → TurnOutcome d n v w new (Some NotAStore)
  not_a_store {m} {n} {v} {w} {new} one = record { ready = one.ready; frames = one.frames; ends = (one.ends.began, one.ends.alive) }

  pub no_record : {m n : Fault → Bool} {v w : PageWriter} {new : D} {f : Fault} → f ≡ NotAStore → TurnOutcome d m v w new None → TurnOutcome d n v w new (Some f)
  no_record {m} {n} {v} {w} {new} {f} is one = subst (λ (e : Fault). TurnOutcome d n v w new (Some e)) (sym is) (not_a_store one)

  -- ---- parts of a turn

  -- no call was made
  pub none_made : {m : Fault → Bool} (v : PageWriter) (disk : D) → IsReadyWriter d v disk → v.failed ≡ false → TurnOutcome d m v v disk None
  none_made v disk ready works =
      let opened = ready.opened works in
      record { ready = ready; frames = refl; ends = record { began = works; works = works; alive = opened.ready.reading.working (opened.working (ready.works works)) } }

  -- a record is read
  pub read_ends : {A : Type 0} {v w : PageWriter} {new : D} (r : Result A Fault) → IsReadyWriter d w new → v.failed ≡ false → w.failed ≡ not (is_ok r) → IfErr r (λ e. (e ≡ Failed) ⊎ (e ≡ NotAStore) ⊎ (e ≡ Device))
      → (r ≡ Err Failed) ↔ (v.failed ≡ true) → (r ≡ Err Device) ↔ (d.failed new ≡ true) → w.pool.frames ≡ v.pool.frames → TurnOutcome d none_mild v w new (fault_of r)
  read_ends {A} {v} {w} {new} (Ok a) ready works failed causes already device frames = record {
    ready = ready;
    frames = frames;
    ends = record { began = works; works = failed; alive = still_working (d.failed new) (λ lost. let clash = device.1 lost in let never : ⊥ = cc clash in never) };
  }
  read_ends {A} {v} {w} {new} (Err e) ready works failed causes already device frames = record {
    ready = ready;
    frames = frames;
    ends = elim causes [
      | inl is ↦ absurd (let clash : false ≡ true = sym works ∙ already.0 (ap Err is) in let never : ⊥ = cc clash in never)
      | inr more ↦ elim more [
        | inl is ↦
            subst (λ (f : Fault). TurnEnds d none_mild v w new (Some f)) (sym is)
            (works, still_working (d.failed new) (λ lost. let same = device.1 lost in let clash : NotAStore ≡ Device = sym is ∙ (let one : e ≡ Device = cc same in one) in let never : ⊥ = cc clash in never))
        | inr is ↦ subst (λ (f : Fault). TurnEnds d none_mild v w new (Some f)) (sym is) (record { began = works; broken = failed }, device.0 (ap Err is))
      ]
    ];
  }

  taken_ends : (v : PageWriter) (old : D) (w : PageWriter) (new : D) (why : Option Fault) → LogEnds d true mild_to_take v old w new why → TurnEnds d may_turn v w new why
  taken_ends v old w new None one = one
  taken_ends v old w new (Some Failed) one = (refl, one)
  taken_ends v old w new (Some NotAStore) one = (one.began, one.alive)
  taken_ends v old w new (Some Device) one = one
  taken_ends v old w new (Some LogFull) one = (refl, one.0, one.1, one.2)
  taken_ends v old w new (Some Memory) one = (refl, record { began = one.1.began; works = one.1.works; alive = one.1.alive })
  taken_ends v old w new (Some Capacity) one = (refl, record { began = one.1.began; works = one.1.works; alive = one.1.alive })
  taken_ends v old w new (Some e) one = absurd (let clash = one.0 in let never : ⊥ = cc clash in never)

  -- a change is taken back
  pub taken_turn : {v : PageWriter} {old : D} {w : PageWriter} {new : D} {why : Option Fault} → Logs d true mild_to_take v old w new why → TurnOutcome d may_turn v w new why
  taken_turn {v} {old} {w} {new} {why} one = record { ready = one.ready; frames = one.frames; ends = taken_ends v old w new why one.ends }

  end_ends : (v : PageWriter) (old : D) (w : PageWriter) (new : D) (why : Option Fault) → v.failed ≡ false → LogEnds d false none_mild v old w new why → TurnEnds d may_be_full v w new why
  end_ends v old w new None works one = one
  end_ends v old w new (Some Failed) works one = absurd (let clash : false ≡ true = sym works ∙ one.0 in let never : ⊥ = cc clash in never)
  end_ends v old w new (Some NotAStore) works one = absurd (let clash = one.0 in let never : ⊥ = cc clash in never)
  end_ends v old w new (Some Device) works one = one
  end_ends v old w new (Some LogFull) works one = (refl, one.0, one.1, one.2)
  end_ends v old w new (Some e) works one = absurd (let clash = one.0 in let never : ⊥ = cc clash in never)

  -- an End is logged
  pub end_turn : {v : PageWriter} {old : D} {w : PageWriter} {new : D} {why : Option Fault} → v.failed ≡ false → Logs d false none_mild v old w new why → TurnOutcome d may_be_full v w new why
  end_turn {v} {old} {w} {new} {why} works one = record { ready = one.ready; frames = one.frames; ends = end_ends v old w new why works one.ends }

  -- an End is not refused as no store
  pub end_sound : {v : PageWriter} {old : D} {w : PageWriter} {new : D} {f : Fault} → Logs d false none_mild v old w new (Some f) → f ≢ NotAStore
  end_sound {v} {old} {w} {new} {f} one is =
      let here : Logs d false none_mild v old w new (Some NotAStore) = subst (λ (e : Fault). Logs d false none_mild v old w new (Some e)) is one in
      let clash = here.ends.0 in cc clash

  -- ---- refusals that do not come

  never : {A : Type 0} {m : Fault → Bool} {v w : PageWriter} {new : D} (P : Type 0) (r : Result A Fault) (g : Fault) → (TurnEnds d m v w new (Some g) → ⊥) → TurnOutcome d m v w new (fault_of r) → IfErr r (λ e. e ≡ g → P)
  never {A} {m} {v} {w} {new} P (Ok a) g none one = tt
  never {A} {m} {v} {w} {new} P (Err e) g none one = λ is. absurd (none (subst (λ (f : Fault). TurnEnds d m v w new (Some f)) is one.ends))

  pub never_memory : {A : Type 0} {m : Fault → Bool} {v w : PageWriter} {new : D} (P : Type 0) (r : Result A Fault) → m Memory ≡ false → TurnOutcome d m v w new (fault_of r) → IfErr r (λ e. e ≡ Memory → P)
  never_memory {A} {m} {v} {w} {new} P r none one = never P r Memory (λ ends. let clash : false ≡ true = sym none ∙ ends.0 in cc clash) one

  pub never_capacity : {A : Type 0} {m : Fault → Bool} {v w : PageWriter} {new : D} (P : Type 0) (r : Result A Fault) → m Capacity ≡ false → TurnOutcome d m v w new (fault_of r) → IfErr r (λ e. e ≡ Capacity → P)
  never_capacity {A} {m} {v} {w} {new} P r none one = never P r Capacity (λ ends. let clash : false ≡ true = sym none ∙ ends.0 in cc clash) one

  pub never_failed : {A : Type 0} {m : Fault → Bool} {v w : PageWriter} {new : D} (P : Type 0) (r : Result A Fault) → m Failed ≡ false → TurnOutcome d m v w new (fault_of r) → IfErr r (λ e. e ≡ Failed → P)
  never_failed {A} {m} {v} {w} {new} P r none one = never P r Failed (λ ends. let clash : false ≡ true = sym none ∙ ends.0 in cc clash) one

-- a call that is refused for these causes is for more
pub none_may : (n : Fault → Bool) (e : Fault) → none_mild e ≡ true → n e ≡ true
none_may n e is = absurd (cc is)

pub full_may : (e : Fault) → may_be_full e ≡ true → may_turn e ≡ true
full_may LogFull is = refl
full_may e is = absurd (cc is)

pub close_may : (splits : Bool) (e : Fault) → may_close splits e ≡ true → may_turn e ≡ true
close_may true e is = is
close_may false e is = full_may e is

pub device_not_store : (e : Fault) → e ≡ Device → e ≢ NotAStore
device_not_store e is same = let clash : Device ≡ NotAStore = sym is ∙ same in cc clash
