-- How records of a structure change end together, and what a refusal at one of its pages is answered as.
use Rattle.std.proofs.Common.{◌≡◌, ◌≢◌, ◌⊎◌, inl, inr, ℕ, Bool, true, false, ◌≤◌, ◌<◌, None, Some, refl, sym, subst, ◌∙◌, ⊎_elim, arith}
use Rattle.std.proofs.lemmas.Bool.{cases_lt}
use Rattle.std.specs.Prelude.{Result, Ok, Err, IfErr, IfOk}
use Rattle.im_base_types.specs.declared.fault.Fault.{Fault}
use Rattle.im_base_types.specs.declared.fault.Fault.TheVariants.{Device, Failed, LogFull, Memory, NotAStore}
use Rattle.im_base_disk.specs.declared.disk.Disk.{Ghosts}
use Rattle.im_page_writer.specs.declared.page_writer.PageWriter.{PageWriter}
use Rattle.im_page_writer.specs.Outcome.{fault_of, mild, none_mild, AreLoaded, IsSound, Stays, Works, LogEnds, Logs}

-- ---- what a refusal at the i-th page is answered as

memory_or : (f : Fault) → (f ≡ Memory) ⊎ (f ≢ Memory)
memory_or Memory = inl refl
memory_or f = inr (λ is. let never : ⊥ = cc is in never)

module _ (i : ℕ) (f answer : Fault) (first : i ≡ 0 → answer ≡ f) (late : 1 ≤ i → f ≡ Memory → answer ≡ Failed) (others : f ≢ Memory → answer ≡ f) where
  never_behind : answer ≡ Memory → 0 < i → ⊥
  never_behind is some =
      let other : f ≢ Memory = λ same. (let clash : Failed ≡ Memory = sym (late (omega (arith, some)) same) ∙ is in cc clash) in
      other (sym (others other) ∙ is)

  -- a want of memory came at the first page
  pub memory_first : answer ≡ Memory → i ≡ 0
  memory_first is = ⊎_elim (λ (some : 0 < i). absurd (never_behind is some)) (λ (none : i ≤ 0). omega (arith, none)) (cases_lt 0 i)

  -- and what did not fail, but is told so, came after it
  pub failed_later : f ≢ Failed → answer ≡ Failed → 1 ≤ i
  failed_later other is = ⊎_elim (λ (some : 0 < i). omega (arith, some)) (λ (none : i ≤ 0). absurd (other (sym (first (omega (arith, none))) ∙ is))) (cases_lt 0 i)

  -- where it is told to have failed, it wanted memory
  pub failed_memory : f ≢ Failed → answer ≡ Failed → f ≡ Memory
  failed_memory other is = ⊎_elim (λ (same : f ≡ Memory). same) (λ (not : f ≢ Memory). absurd (other (sym (others not) ∙ is))) (memory_or f)

  -- no store is told only where it was
  pub still_store : f ≢ NotAStore → answer ≢ NotAStore
  still_store sound is = ⊎_elim behind front (cases_lt 0 i)
    where
      other : 0 < i → f ≢ Memory
      other some memory = let clash : Failed ≡ NotAStore = sym (late (omega (arith, some)) memory) ∙ is in cc clash

      behind : 0 < i → ⊥
      behind some = sound (sym (others (other some)) ∙ is)

      front : i ≤ 0 → ⊥
      front none = sound (sym (first (omega (arith, none))) ∙ is)

module _ {D : Type 0} (d : Ghosts D) where
  -- a writer that works has not failed
  pub never_failed : {m : Fault → Bool} {v : PageWriter} {old : D} {w : PageWriter} {new : D} (f : Fault) → v.failed ≡ false → Logs d false m v old w new (Some f) → f ≢ Failed
  never_failed {m} {v} {old} {w} {new} f works one is =
      let ends : LogEnds d false m v old w new (Some Failed) = subst (λ (x : Fault). LogEnds d false m v old w new (Some x)) is one.ends in
      let clash : false ≡ true = sym works ∙ ends.0 in
      cc clash

  -- where it wants memory, nothing was logged
  pub memory_stays : {late : Bool} {m : Fault → Bool} {v : PageWriter} {old : D} {w : PageWriter} {new : D} (f : Fault) → f ≡ Memory → Logs d late m v old w new (Some f) → Stays d AreLoaded v old w new
  memory_stays {late} {m} {v} {old} {w} {new} f is one =
      let ends : LogEnds d late m v old w new (Some Memory) = subst (λ (x : Fault). LogEnds d late m v old w new (Some x)) is one.ends in
      ends.1

  answered_ends : (i : ℕ) (answer : Fault) (v : PageWriter) (old : D) (w : PageWriter) (new : D) → v.failed ≡ false → (f : Fault) → (i ≡ 0 → answer ≡ f) → (1 ≤ i → f ≡ Memory → answer ≡ Failed) → (f ≢ Memory → answer ≡ f)
      → LogEnds d false mild v old w new (Some f) → LogEnds d true mild v old w new (Some answer)
  answered_ends i answer v old w new works Memory first late others one = ⊎_elim
      (λ (some : 0 < i). subst (λ (x : Fault). LogEnds d true mild v old w new (Some x)) (sym (late (omega (arith, some)) refl)) (record { began = one.1.began; works = one.1.works; alive = one.1.alive }))
      (λ (none : i ≤ 0). subst (λ (x : Fault). LogEnds d true mild v old w new (Some x)) (sym (first (omega (arith, none)))) one)
      (cases_lt 0 i)
  answered_ends i answer v old w new works Failed first late others one = absurd (let clash : false ≡ true = sym works ∙ one.0 in cc clash)
  answered_ends i answer v old w new works NotAStore first late others one =
      subst (λ (x : Fault). LogEnds d true mild v old w new (Some x)) (sym (others (λ is. let never : ⊥ = cc is in never))) (record { began = one.1.began; works = one.1.works; alive = one.1.alive })
  answered_ends i answer v old w new works Device first late others one = subst (λ (x : Fault). LogEnds d true mild v old w new (Some x)) (sym (others (λ is. let never : ⊥ = cc is in never))) one
  answered_ends i answer v old w new works LogFull first late others one = subst (λ (x : Fault). LogEnds d true mild v old w new (Some x)) (sym (others (λ is. let never : ⊥ = cc is in never))) one
  answered_ends i answer v old w new works f first late others one = absurd (let clash = one.0 in cc clash)

  -- the page of an image was not logged
  pub answered : (i : ℕ) (f answer : Fault) → (i ≡ 0 → answer ≡ f) → (1 ≤ i → f ≡ Memory → answer ≡ Failed) → (f ≢ Memory → answer ≡ f) → {v : PageWriter} {old : D} {w : PageWriter} {new : D} → v.failed ≡ false → Logs d false mild v old w new (Some f)
      → Logs d true mild v old w new (Some answer)
  answered i f answer first late others {v} {old} {w} {new} works one = record { ready = one.ready; frames = one.frames; ends = answered_ends i answer v old w new works f first late others one.ends }

  behind_ends : (v : PageWriter) (old : D) (w : PageWriter) (mid : D) → Works d v w mid → (x : PageWriter) (new : D) (f : Fault) → (f ≡ Memory → (w ≡ v) × (mid ≡ old)) → LogEnds d true mild w mid x new (Some f) → LogEnds d true mild v old x new (Some f)
  behind_ends v old w mid one x new Memory same two =
      let at = same refl in
      (two.0, subst (λ (y : PageWriter). Stays d AreLoaded y old x new) at.0 (subst (λ (y : D). Stays d AreLoaded w y x new) at.1 two.1))
  behind_ends v old w mid one x new Failed same two = record { began = one.began; works = two.works; alive = two.alive }
  behind_ends v old w mid one x new NotAStore same two = record { began = one.began; works = two.works; alive = two.alive }
  behind_ends v old w mid one x new Device same two = (record { began = one.began; broken = two.0.broken }, two.1)
  behind_ends v old w mid one x new LogFull same two = (record { began = one.began; broken = two.0.broken }, two.1, two.2)
  behind_ends v old w mid one x new f same two = absurd (let clash = two.0 in cc clash)

  -- a page that is not logged after others: a want of memory came at the first one
  pub behind_pages : {v : PageWriter} {old : D} {w : PageWriter} {mid : D} {x : PageWriter} {new : D} (f : Fault) → (f ≡ Memory → (w ≡ v) × (mid ≡ old)) → Logs d true mild v old w mid None → Logs d true mild w mid x new (Some f) → Logs d true mild v old x new (Some f)
  behind_pages {v} {old} {w} {mid} {x} {new} f same one two = record { ready = two.ready; frames = two.frames ∙ one.frames; ends = behind_ends v old w mid one.ends x new f same two.ends }

  closing_ends : (v : PageWriter) (old : D) (w : PageWriter) (mid : D) → Works d v w mid → (x : PageWriter) (new : D) (f : Fault) → LogEnds d false none_mild w mid x new (Some f) → LogEnds d true mild v old x new (Some f)
  closing_ends v old w mid one x new Failed two = absurd (let clash : false ≡ true = sym one.works ∙ two.0 in cc clash)
  closing_ends v old w mid one x new Device two = (record { began = one.began; broken = two.0.broken }, two.1)
  closing_ends v old w mid one x new LogFull two = (record { began = one.began; broken = two.0.broken }, two.1, two.2)
  closing_ends v old w mid one x new f two = absurd (let clash = two.0 in cc clash)

  -- the record that closes the change, after all pages
  pub closing : {v : PageWriter} {old : D} {w : PageWriter} {mid : D} {x : PageWriter} {new : D} (r : Result ℕ Fault) → Logs d true mild v old w mid None → Logs d false none_mild w mid x new (fault_of r) → Logs d true mild v old x new (fault_of r)
  closing {v} {old} {w} {mid} {x} {new} (Ok lsn) one two = record { ready = two.ready; frames = two.frames ∙ one.frames; ends = record { began = one.ends.began; works = two.ends.works; alive = two.ends.alive } }
  closing {v} {old} {w} {mid} {x} {new} (Err f) one two = record { ready = two.ready; frames = two.frames ∙ one.frames; ends = closing_ends v old w mid one.ends x new f two.ends }

  -- which is no refusal for bytes that are no store's
  closing_bytes : (w : PageWriter) (mid : D) (x : PageWriter) (new : D) (f : Fault) → f ≡ NotAStore → LogEnds d false none_mild w mid x new (Some f) → ⊥
  closing_bytes w mid x new f is one =
      let ends : LogEnds d false none_mild w mid x new (Some NotAStore) = subst (λ (y : Fault). LogEnds d false none_mild w mid x new (Some y)) is one in
      let clash = ends.0 in
      cc clash

  pub closing_sound : {w : PageWriter} {mid : D} {x : PageWriter} {new : D} (r : Result ℕ Fault) (P : ℕ → Type 0) → IfOk r P → Logs d false none_mild w mid x new (fault_of r) → IsSound r P
  closing_sound {w} {mid} {x} {new} (Ok lsn) P is one = is
  closing_sound {w} {mid} {x} {new} (Err f) P is one = λ same. closing_bytes w mid x new f same one.ends

  pub closing_failed : {w : PageWriter} {mid : D} {x : PageWriter} {new : D} (r : Result ℕ Fault) (P : Type 0) → w.failed ≡ false → Logs d false none_mild w mid x new (fault_of r) → IfErr r (λ e. e ≡ Failed → P)
  closing_failed {w} {mid} {x} {new} (Ok lsn) P works one = tt
  closing_failed {w} {mid} {x} {new} (Err f) P works one = λ same. absurd (never_failed f works one same)
