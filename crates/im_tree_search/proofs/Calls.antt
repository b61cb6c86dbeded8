-- What a call answers or refuses of its own, after a get.
use Rattle.std.proofs.Common.{◌≡◌, None, Some, refl, sym, subst}
use Rattle.std.specs.Prelude.{Result, Ok, Err, IfErr, IfOk}
use Rattle.im_base_types.specs.declared.fault.Fault.{Fault}
use Rattle.im_base_types.specs.declared.fault.Fault.TheVariants.{NotAStore}
use Rattle.im_base_disk.specs.declared.disk.Disk.{Ghosts}
use Rattle.im_page_writer.specs.declared.page_writer.PageWriter.{PageWriter}
use Rattle.im_page_writer.specs.Outcome.{fault_of, IsSound, Reads}
use Rattle.im_page_writer.proofs.Outcomes.{refuses}

-- bytes that are no store's, found in a page that was got
pub bytes_refused : {D : Type 0} (d : Ghosts D) {A : Type 0} {v : PageWriter} {old : D} {w : PageWriter} {new : D} (r : Result A Fault) → IfErr r (λ e. e ≡ NotAStore) → Reads d v old w new None → Reads d v old w new (fault_of r)
bytes_refused {D} d {A} {v} {old} {w} {new} (Ok a) is one = one
bytes_refused {D} d {A} {v} {old} {w} {new} (Err e) is one = subst (λ (x : Fault). Reads d v old w new (Some x)) (sym is) (refuses d NotAStore refl refl one)

-- what is answered where there is no refusal
pub sound_always : {A : Type 0} (r : Result A Fault) (P : A → Type 0) → IfOk r P → IfErr r (λ _. ⊥) → IsSound r P
sound_always (Ok a) P is never = is
sound_always (Err e) P is never = absurd never
