-- Calls by which a store is brought back, in a row, and how they end together.
use Rattle.std.proofs.Common.{◌≡◌, ◌≢◌, ◌⊎◌, inl, inr, Bool, false, true, Option, None, Some, refl, sym, ◌∙◌, ap, subst}
use Rattle.std.specs.Prelude.{◌↔◌, Result, Ok, Err, IsErrAnd, IfErr}
use Rattle.im_base_types.specs.declared.fault.Fault.{Fault}
use Rattle.im_base_types.specs.declared.fault.Fault.TheVariants.{Device, Failed, LogFull, Memory, NotAStore}
use Rattle.im_base_disk.specs.declared.disk.Disk.{Ghosts}
use Rattle.im_page_writer.specs.declared.page_writer.PageWriter.{PageWriter}
use Rattle.im_page_writer.specs.PageWriter.{IsReadyWriter}
use Rattle.im_page_writer.specs.Outcome.{Logs, LogEnds, RedoEnds, Redoes, Works, fault_of, mild, no_page, none_mild}
use Rattle.im_page_file.proofs.LogEnds.{still_working}
use Rattle.im_restart_redo.specs.Recovery.{RecoveryEnds, Recovers}

module _ {D : Type 0} (d : Ghosts D) where
  ends_behind : (may : Fault → Bool) (v w x : PageWriter) (mid new : D) (why : Option Fault) → Works d v w mid → RecoveryEnds d may w x new why → RecoveryEnds d may v x new why
  ends_behind may v w x mid new None one two = record { began = one.began; works = two.works; alive = two.alive }
  ends_behind may v w x mid new (Some Failed) one two = absurd (let clash : false ≡ true = sym one.works ∙ two.0 in cc clash)
  ends_behind may v w x mid new (Some Device) one two = (record { began = one.began; broken = two.0.broken }, two.1)
  ends_behind may v w x mid new (Some LogFull) one two = (record { began = one.began; broken = two.0.broken }, two.1, two.2)
  ends_behind may v w x mid new (Some e) one two = (two.0, one.began, two.2)

  -- how two calls end together, of which the first was not refused
  pub recovers_then : {may m : Fault → Bool} {v w x : PageWriter} {mid new : D} {why : Option Fault} → Recovers d m v w mid None → Recovers d may w x new why → Recovers d may v x new why
  recovers_then {may} {m} {v} {w} {x} {mid} {new} {why} one two = record { ready = two.ready; frames = two.frames ∙ one.frames; ends = ends_behind may v w x mid new why one.ends two.ends }

  -- a refusal that is handed on
  pub recovery_refused : {A : Type 0} {may : Fault → Bool} {v w : PageWriter} {new : D} {f : Fault} (r : Result A Fault) → IsErrAnd r (λ e. e ≡ f) → Recovers d may v w new (Some f) → Recovers d may v w new (fault_of r)
  recovery_refused {A} {may} {v} {w} {new} {f} (Ok a) is one = absurd is
  recovery_refused {A} {may} {v} {w} {new} {f} (Err e) is one = subst (λ (x : Fault). Recovers d may v w new (Some x)) (sym is) one

  more_ends : (may more : Fault → Bool) → ((e : Fault) → may e ≡ true → more e ≡ true) → (v w : PageWriter) (new : D) (why : Option Fault) → RecoveryEnds d may v w new why → RecoveryEnds d more v w new why
  more_ends may more to v w new None one = one
  more_ends may more to v w new (Some Failed) one = one
  more_ends may more to v w new (Some Device) one = one
  more_ends may more to v w new (Some LogFull) one = one
  more_ends may more to v w new (Some e) one = (to e one.0, one.1, one.2)

  -- a call that may be refused for less
  pub recovers_more : {may more : Fault → Bool} {v w : PageWriter} {new : D} {why : Option Fault} → ((e : Fault) → may e ≡ true → more e ≡ true) → Recovers d may v w new why → Recovers d more v w new why
  recovers_more {may} {more} {v} {w} {new} {why} to one = record { ready = one.ready; frames = one.frames; ends = more_ends may more to v w new why one.ends }

  own_end : (may : Fault → Bool) → may Failed ≡ false → may Device ≡ false → may LogFull ≡ false → (v w : PageWriter) (new : D) (e : Fault) → may e ≡ true → Works d v w new → RecoveryEnds d may v w new (Some e)
  own_end may failed device full v w new Failed is one = absurd (let clash : false ≡ true = sym failed ∙ is in cc clash)
  own_end may failed device full v w new Device is one = absurd (let clash : false ≡ true = sym device ∙ is in cc clash)
  own_end may failed device full v w new LogFull is one = absurd (let clash : false ≡ true = sym full ∙ is in cc clash)
  own_end may failed device full v w new e is one = (is, one.began, one.alive)

  -- what a call answers or refuses of its own, after calls that were not refused
  pub recovery_own : {A : Type 0} {may m : Fault → Bool} {v w : PageWriter} {new : D} → may Failed ≡ false → may Device ≡ false → may LogFull ≡ false → (r : Result A Fault) → Recovers d m v w new None → IfErr r (λ e. may e ≡ true) → Recovers d may v w new (fault_of r)
  recovery_own {A} {may} {m} {v} {w} {new} failed device full (Ok a) one of = record { ready = one.ready; frames = one.frames; ends = one.ends }
  recovery_own {A} {may} {m} {v} {w} {new} failed device full (Err e) one of = record { ready = one.ready; frames = one.frames; ends = own_end may failed device full v w new e of one.ends }

  -- no call was made yet
  pub unmoved : {may : Fault → Bool} (v : PageWriter) (old : D) → v.failed ≡ false → IsReadyWriter d v old → Recovers d may v v old None
  unmoved {may} v old works ready =
      let opened = ready.opened works in
      record { ready = ready; frames = refl; ends = record { began = works; works = works; alive = opened.ready.reading.working (opened.working (ready.works works)) } }

  logs_end : (may : Fault → Bool) (v w : PageWriter) (old new : D) (why : Option Fault) → LogEnds d false may v old w new why → RecoveryEnds d may v w new why
  logs_end may v w old new None one = one
  logs_end may v w old new (Some Failed) one = one
  logs_end may v w old new (Some Device) one = one
  logs_end may v w old new (Some LogFull) one = one
  logs_end may v w old new (Some NotAStore) one = (one.0, one.1.began, one.1.alive)
  logs_end may v w old new (Some e) one = (one.0, one.1.began, one.1.alive)

  -- a call that logs records of its own
  pub logs_recover : {may : Fault → Bool} {v w : PageWriter} {old new : D} {why : Option Fault} → Logs d false may v old w new why → Recovers d may v w new why
  logs_recover {may} {v} {w} {old} {new} {why} one = record { ready = one.ready; frames = one.frames; ends = logs_end may v w old new why one.ends }

  redo_end : (may : Fault → Bool) (v w : PageWriter) (new : D) (why : Option Fault) → RedoEnds d may v w new why → RecoveryEnds d may v w new why
  redo_end may v w new None one = one
  redo_end may v w new (Some Failed) one = one
  redo_end may v w new (Some Device) one = one
  redo_end may v w new (Some LogFull) one = (one.0, one.1, one.2)
  redo_end may v w new (Some e) one = (one.0, one.1.began, one.1.alive)

  -- a page that is loaded, or a record redone
  pub redone : {may : Fault → Bool} {v w : PageWriter} {new : D} {why : Option Fault} → Redoes d may v w new why → Recovers d may v w new why
  redone {may} {v} {w} {new} {why} one = record { ready = one.ready; frames = one.frames; ends = redo_end may v w new why one.ends }

module _ {D : Type 0} (d : Ghosts D) (v w : PageWriter) (new : D) (began : v.failed ≡ false) (ready : IsReadyWriter d w new) (frames : w.pool.frames ≡ v.pool.frames) where
  -- a call that was not refused
  pub moved : {may : Fault → Bool} → w.failed ≡ false → Recovers d may v w new None
  moved {may} works = let opened = ready.opened works in record { ready = ready; frames = frames; ends = record { began = began; works = works; alive = opened.ready.reading.working (opened.working (ready.works works)) } }

  -- a read of a record, refused
  pub read_none : {A : Type 0} {may : Fault → Bool} → may NotAStore ≡ true → (r : Result A Fault) (f : Fault) → r ≡ Err f → w.failed ≡ true → (f ≡ Failed) ⊎ (f ≡ NotAStore) ⊎ (f ≡ Device) → (r ≡ Err Failed) ↔ (v.failed ≡ true) → (v.failed ≡ false → (r ≡ Err Device) ↔ (d.failed new ≡ true))
      → Recovers d may v w new (Some f)
  read_none {A} {may} goes_on r f is broken causes already device = record {
    ready = ready;
    frames = frames;
    ends = by f causes (λ e. already.0 (is ∙ ap Err e)) ((λ e. (device began).0 (is ∙ ap Err e)), (λ lost. let same = sym is ∙ (device began).1 lost in cc same));
  }
    where
      by : (e : Fault) → (e ≡ Failed) ⊎ (e ≡ NotAStore) ⊎ (e ≡ Device) → (e ≡ Failed → v.failed ≡ true) → (e ≡ Device) ↔ (d.failed new ≡ true) → RecoveryEnds d may v w new (Some e)
      by e (inl is) before lost = absurd (let clash : false ≡ true = sym began ∙ before is in cc clash)
      by e (inr (inl is)) before lost =
          subst (λ (x : Fault). RecoveryEnds d may v w new (Some x)) (sym is) (goes_on, began, still_working (d.failed new) (λ gone. let clash : NotAStore ≡ Device = sym is ∙ lost.1 gone in cc clash))
      by e (inr (inr is)) before lost = subst (λ (x : Fault). RecoveryEnds d may v w new (Some x)) (sym is) (record { began = began; broken = broken }, lost.0 is)

  -- of a call that may be refused for want of memory too
  pub read_refused : {A : Type 0} (r : Result A Fault) (f : Fault) → r ≡ Err f → w.failed ≡ true → (f ≡ Failed) ⊎ (f ≡ NotAStore) ⊎ (f ≡ Device) → (r ≡ Err Failed) ↔ (v.failed ≡ true) → (v.failed ≡ false → (r ≡ Err Device) ↔ (d.failed new ≡ true))
      → Recovers d mild v w new (Some f)
  read_refused {A} r f is broken causes already device = read_none {A = A} {may = mild} refl r f is broken causes already device

-- no store was refused as none by a call that refuses no bytes
pub never_none : {D : Type 0} (d : Ghosts D) {v w : PageWriter} {new : D} (f : Fault) → Recovers d none_mild v w new (Some f) → f ≢ NotAStore
never_none {D} d {v} {w} {new} Failed one same = cc same
never_none {D} d {v} {w} {new} Device one same = cc same
never_none {D} d {v} {w} {new} LogFull one same = cc same
never_none {D} d {v} {w} {new} e one same = let clash = one.ends.0 in cc clash

-- a call that refuses no bytes may be refused for those that others are
pub mildly : (e : Fault) → none_mild e ≡ true → mild e ≡ true
mildly e is = absurd (cc is)

-- so it may for want of memory, where it is refused for bytes alone
pub bytes_mildly : (e : Fault) → no_page e ≡ true → mild e ≡ true
bytes_mildly NotAStore is = refl
bytes_mildly e is = absurd (let clash : false ≡ true = is in cc clash)

-- a call that makes nothing grow is never refused for want of memory
pub never_memory : {D : Type 0} (d : Ghosts D) {v w : PageWriter} {new : D} (f : Fault) → Recovers d no_page v w new (Some f) → f ≢ Memory
never_memory {D} d {v} {w} {new} Memory one same = let clash : false ≡ true = one.ends.0 in cc clash
never_memory {D} d {v} {w} {new} e one same = cc same

pub no_memory : {A : Type 0} {D : Type 0} (d : Ghosts D) {v w : PageWriter} {new : D} (r : Result A Fault) → Recovers d no_page v w new (fault_of r) → r ≡ Err Memory → ⊥
no_memory {A} {D} d {v} {w} {new} (Ok a) one is = cc is
no_memory {A} {D} d {v} {w} {new} (Err e) one is = never_memory d e one (cc is)

-- what a refusal that is handed on was refused for
pub refused_for : {A : Type 0} (r : Result A Fault) (f g : Fault) → IsErrAnd r (λ e. e ≡ f) → r ≡ Err g → f ≡ g
refused_for (Ok a) f g is e = absurd is
refused_for (Err x) f g is e = sym is ∙ (let same : x ≡ g = cc e in same)
