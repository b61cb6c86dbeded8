-- A call of the log within a call of the writer, which is refused.
use Rattle.std.proofs.Common.{◌≡◌, ℕ, Bool, false, true, Some, sym, ◌∙◌, subst}
use Rattle.std.specs.Prelude.{Result, Ok, Err, IsErrAnd}
use Rattle.im_base_types.specs.declared.fault.Fault.{Fault}
use Rattle.im_base_types.specs.declared.fault.Fault.TheVariants.{Device, Failed, LogFull, NotAStore}
use Rattle.im_base_types.specs.Outcomes.{CallEnds, fault_of, none_own}
use Rattle.im_base_disk.specs.declared.disk.Disk.{Ghosts}
use Rattle.im_log.specs.declared.log_file.LogFile.{LogFile}
use Rattle.im_log.specs.LogFile.{HasNoRoom}
use Rattle.im_log.specs.Outcome.{LacksRoom, LogOutcome}
use Rattle.im_page_writer.specs.declared.page_writer.PageWriter.{PageWriter}
use Rattle.im_page_writer.specs.Outcome.{LogEnds, Logs}
use Rattle.im_page_writer.specs.PageWriter.{IsReadyWriter}

-- what a call of the log is refused for of its own: want of room alone
pub record IsFullOnly (own : Fault → Type 0) (w : PageWriter) : Type 0 where
  pub full : (e : Fault) → own e → e ≡ LogFull
  pub no_room : (e : Fault) → own e → HasNoRoom w.log

-- of a force nothing
pub force_only : (w : PageWriter) → IsFullOnly none_own w
force_only w = record { full = λ e is. absurd is; no_room = λ e is. absurd is }

pub append_only : {size : ℕ} (w : PageWriter) → IsFullOnly (LacksRoom size w.log) w
append_only {size} w = record { full = λ e is. is.full; no_room = λ e is. is.no_room }

module _ {D : Type 0} (d : Ghosts D) where
  log_broke_end : (late : Bool) (m : Fault → Bool) (own : Fault → Type 0) (v : PageWriter) (old : D) (w : PageWriter) (new : D) → IsFullOnly own w → v.failed ≡ false → w.failed ≡ true → v.log.failed ≡ false → (e : Fault)
      → CallEnds own v.log.failed w.log.failed (d.failed new) (Some e) → LogEnds d late m v old w new (Some e)
  log_broke_end late m own v old w new only began fails works Failed ends = absurd (let clash : false ≡ true = sym works ∙ ends.0 in cc clash)
  log_broke_end late m own v old w new only began fails works Device ends = (record { began = began; broken = fails }, ends.2)
  log_broke_end late m own v old w new only began fails works LogFull ends = (record { began = began; broken = fails }, ends.2, only.no_room LogFull ends.3)
  log_broke_end late m own v old w new only began fails works e ends = absurd (let clash = only.full e ends.3 in cc clash)

  pub log_broke : {A : Type 0} {late : Bool} {m : Fault → Bool} {own : Fault → Type 0} {v : PageWriter} {old : D} {w : PageWriter} {new : D} {f : Fault} (r : Result A Fault) → IsErrAnd r (λ e. e ≡ f) → IsFullOnly own w → v.failed ≡ false → w.failed ≡ true → v.log.failed ≡ false
      → LogOutcome d own v.log old w.log new (Some f) → IsReadyWriter d w new → w.pool.frames ≡ v.pool.frames → Logs d late m v old w new (fault_of r)
  log_broke {A} {late} {m} {own} {v} {old} {w} {new} {f} (Ok a) is only began fails works one ready frames = absurd is
  log_broke {A} {late} {m} {own} {v} {old} {w} {new} {f} (Err e) is only began fails works one ready frames =
      subst (λ (x : Fault). Logs d late m v old w new (Some x)) (sym is) (record { ready = ready; frames = frames; ends = log_broke_end late m own v old w new only began fails works f one.ends })

  own_end : (size : ℕ) (log : LogFile) (before now lost : Bool) (f : Fault) → CallEnds (LacksRoom size log) before now lost (Some f) → f ≡ NotAStore → ⊥
  own_end size log before now lost Failed ends same = cc same
  own_end size log before now lost Device ends same = cc same
  own_end size log before now lost f ends same = let clash : NotAStore ≡ LogFull = sym same ∙ ends.3.full in cc clash

  -- an append is not refused for bytes that are no store's
  pub append_sound : {size : ℕ} {v w : LogFile} {old new : D} {f : Fault} → LogOutcome d (LacksRoom size w) v old w new (Some f) → f ≡ NotAStore → ⊥
  append_sound {size} {v} {w} {old} {new} {f} one same = own_end size w v.failed w.failed (d.failed new) f one.ends same
