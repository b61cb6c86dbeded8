-- How an upgrade ends, by which a log of the first format goes on as one of the second.
use Rattle.std.proofs.Common.{◌≡◌, ◌≢◌, ◌⊎◌, inl, inr, ℕ, ◌≤◌, ◌+◌, ◌^◌, Bool, true, false, List, Some, None, Result, Ok, Err, take, refl, sym, ◌∙◌, ap, arith}
use Rattle.std.specs.Prelude.{◌↔◌, IfErr}
use Rattle.std.proofs.lemmas.Bool.{cases_Bool}
use Rattle.im_base_types.specs.declared.fault.Fault.{Fault}
use Rattle.im_base_types.specs.declared.fault.Fault.TheVariants.{Capacity, Device, Failed, LogFull, NotAStore}
use Rattle.im_base_types.specs.declared.file_id.FileId.TheVariants.{Log}
use Rattle.im_base_types.specs.Changes.{Effect}
use Rattle.im_base_disk.specs.declared.disk.Disk.{Ghosts}
use Rattle.im_base_disk.specs.Disk.{Files}
use Rattle.im_log_header.specs.Header.{says_made, says_second}
use Rattle.im_log_header.proofs.Saying.{says_other, gate_is}
use Rattle.im_log_gate.specs.Gate.{first_of, generation_at}
use Rattle.im_log_gate.specs.Header.{first_gate, generation_of}
use Rattle.im_log.specs.LogFile.{HasNoRoom}
use Rattle.im_page_file.proofs.LogEnds.{still_working}
use Rattle.im_page_writer.specs.declared.page_writer.PageWriter.{PageWriter}
use Rattle.im_page_writer.specs.Outcome.{fault_of}
use Rattle.im_page_writer.specs.PageWriter.{IsReadyWriter}
use Rattle.im_page_writer.specs.Switching.{RefusesSwitch, SwitchKept}
use Rattle.im_restart.specs.Opening.{OpeningEnds, Opens}
use Rattle.im_restart.proofs.Ends.{alive_log}
use Rattle.im_restart.proofs.FullLog.{full_log}
use Rattle.im_engine.specs.Restarting.{IsAtRest, UpgradeKept}
use Rattle.im_engine.proofs.AtRest.{rest_stops, rest_switched, switch_left}

-- ---- the two formats

-- a log of the first format is of generation 1
formats : (file : List ℕ) → (first_gate file ≡ 47) ⊎ ((first_gate file ≡ 31) × (generation_of file ≡ 1))
formats file = elim (cases_Bool (says_second (take 47 file))) [
  | inl second ↦ inl (gate_is file second)
  | inr other ↦ elim (cases_Bool (says_made (take 47 file))) [
    | inl made ↦ (let says = says_other file other true made in inr (says.gate, says.generation))
    | inr none ↦ inl (says_other file other false none).gate
  ]
]

not_first : (file : List ℕ) → (first_gate file ≡ 31 → ⊥) → first_gate file ≡ 47
not_first file other = elim (formats file) [
  | inl second ↦ second
  | inr first ↦ absurd (other first.0)
]

later_second : (file : List ℕ) → 2 ≤ generation_of file → first_gate file ≡ 47
later_second file later = elim (formats file) [
  | inl second ↦ second
  | inr first ↦ (let one = first.1 in absurd (omega (arith, later, one)))
]

first_generation : (file : List ℕ) → first_gate file ≡ 31 → generation_of file ≡ 1
first_generation file is = elim (formats file) [
  | inl second ↦ (let clash : 31 ≡ 47 = sym is ∙ second in absurd (cc clash))
  | inr first ↦ first.1
]

module _ {D : Type 0} (d : Ghosts D) where
  -- ---- a log of the second format stays

  pub stays_opens : (w : PageWriter) (disk : D) → IsReadyWriter d w disk → w.failed ≡ false → Opens d disk None
  stays_opens w disk ready works = record { ends = alive_log d w.log disk (ready.opened works) (ready.works works) }

  pub stays_kept : (before : List Effect) (next : ℕ) (w : PageWriter) (disk : D) → ((c : Files) → d.left_since disk (d.moment disk) c → d.may_leave disk c) → (first_of w.log.gate ≡ 31 → ⊥) → IsReadyWriter d w disk → IsAtRest d before next w disk
      → (result : Result Unit Fault) → result ≡ Ok tt → UpgradeKept d before next w disk w disk result
  stays_kept before next w disk only_now other ready x (Ok a) is =
      let st = x.stands.writing.stands in
      record {
        ok = record {
          rest = x;
          second = not_first (d.seen disk Log) (λ first. other ((st.ready.starts st.log_is.tells).first ∙ first));
          number = λ first. absurd (other first);
        };
        stops = rest_stops d before next w disk x only_now;
        cause = tt;
      }
  stays_kept before next w disk only_now other ready x (Err e) is = absurd (cc is)

  -- ---- a switch

  module _ (w : PageWriter) (new : D) (ready : IsReadyWriter d w new) where
    refused_end : (broken : Bool) → broken ≡ false → (f : Fault) → RefusesSwitch d broken w.log new f → (f ≡ LogFull → HasNoRoom w.log) → (f ≡ Device) ↔ (d.failed new ≡ true) → OpeningEnds d new (Some f)
    refused_end broken works Failed is full lost = absurd (let clash : false ≡ true = sym works ∙ is in cc clash)
    refused_end broken works Device is full lost = is
    refused_end broken works LogFull is full lost =
        let alive = still_working (d.failed new) (λ gone. let clash : LogFull ≡ Device = lost.1 gone in cc clash) in
        (alive, full_log d w new ready (λ gone. let clash : false ≡ true = sym alive ∙ gone in cc clash) (full refl))
    refused_end broken works Capacity is full lost = (refl, still_working (d.failed new) (λ gone. let clash : Capacity ≡ Device = lost.1 gone in cc clash))
    refused_end broken works f is full lost = absurd is

    pub switch_opens : (broken : Bool) (result : Result Unit Fault) → broken ≡ false → IfErr result (RefusesSwitch d broken w.log new) → (result ≡ Err LogFull → HasNoRoom w.log) → (result ≡ Err Device) ↔ (d.failed new ≡ true) → Opens d new (fault_of result)
    switch_opens broken (Ok a) works causes full lost = record { ends = still_working (d.failed new) (λ gone. let clash : Ok a ≡ Err Device = lost.1 gone in cc clash) }
    switch_opens broken (Err f) works causes full lost = record {
      ends = refused_end broken works f causes (λ is. full (ap Err is)) ((λ is. lost.0 (ap Err is)), (λ gone. let same : Err f ≡ Err Device = lost.1 gone in cc same));
    }

  never_no_store : (broken : Bool) (w : PageWriter) (new : D) (f : Fault) → RefusesSwitch d broken w.log new f → f ≢ NotAStore
  never_no_store broken w new NotAStore why is = why
  never_no_store broken w new f why is = cc is

  -- the next generation of a log of the first format is one
  never_last : (before : List Effect) (next : ℕ) (w : PageWriter) (disk : D) → IsAtRest d before next w disk → first_of w.log.gate ≡ 31 → 2 ^ 62 ≤ generation_at w.log.gate + 1 → ⊥
  never_last before next w disk x first last =
      let st = x.stands.writing.stands in
      let starts = st.ready.starts st.log_is.tells in
      let one : generation_at w.log.gate ≡ 1 = starts.generation ∙ first_generation (d.seen disk Log) (sym starts.first ∙ first) in
      omega (arith, last, one)

  module _ (before : List Effect) (next : ℕ) (v : PageWriter) (old : D) (x : IsAtRest d before next v old) (w : PageWriter) (new : D) where
    pub switch_kept : (broken : Bool) (result : Result Unit Fault) → SwitchKept d x.b x.base x.now next old w new result → IfErr result (RefusesSwitch d broken w.log new) → (result ≡ Err Capacity → 2 ^ 62 ≤ generation_at v.log.gate + 1) → first_of v.log.gate ≡ 31
        → UpgradeKept d before next v old w new result
    switch_kept broken (Ok a) kept causes last first = record {
      ok = record { rest = rest_switched d before next v old x w new kept.ok; second = later_second (d.seen new Log) kept.ok.second; number = λ first. kept.ok.number };
      stops = switch_left d before next v old x new kept.stops;
      cause = tt;
    }
    switch_kept broken (Err f) kept causes last first = record {
      ok = tt;
      stops = switch_left d before next v old x new kept.stops;
      cause = (never_no_store broken w new f causes, λ is. never_last before next v old x first (last (ap Err is)));
    }
