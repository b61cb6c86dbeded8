-- A copy in a folder, from its begin to its end.
use Rattle.std.proofs.Common.{subst, sym}
use Rattle.std.specs.Prelude.{◌≡◌, ℕ, Result, Ok, Err, OnOk, IfErr}
use Rattle.im_base_types.specs.declared.fault.Fault.{Fault}
use Rattle.im_base_disk.specs.declared.disk.Disk.{Ghosts}
use Rattle.im_base_mirror_disk.specs.declared.mirrored.Mirrored.{Mirrored}
use Rattle.im_engine.specs.declared.engine.Engine.{Engine}
use Rattle.im_files_disk.specs.declared.open_error.OpenError.{OpenError}
use Rattle.im_open.specs.Copied.{HasBegun, HasEnded, IsCopiedHere, IsNotBegun, IsNotCopied, IsNotEnded, WasCopied, WasPieceRefused, no_memory, not_begun, not_ended, stopped}
use Rattle.im_open.specs.declared.copies.NotCopied.{NotCopied}
use Rattle.im_open.specs.declared.copies.NotCopied.TheVariants as causes

module _ {D T : Type 0} (d : Ghosts D) (t : Ghosts T) (m : Ghosts (Mirrored D T d t)) (makes : T → Type 0) (unmade : OpenError → Type 0) (unnamed : T → OpenError → Type 0) where
  -- none was begun
  pub none_begun : (old new : Engine (Mirrored D T d t) m) (error : NotCopied) → new ≡ old → IsNotBegun d t m unmade error → IsNotCopied d t m makes unmade unnamed old new error
  none_begun old new error same is = subst (λ (e : Engine (Mirrored D T d t) m). IsNotCopied d t m makes unmade unnamed old e error) (sym same) (not_begun error is)

  -- there was no room for a piece
  pub no_room : (old new : Engine (Mirrored D T d t) m) → HasBegun d t m makes old new → IsNotCopied d t m makes unmade unnamed old new causes.Memory
  no_room old new begun = no_memory new begun

  -- a piece was refused
  pub one_refused : (n : ℕ) (old first new : Engine (Mirrored D T d t) m) (fault : Fault) → HasBegun d t m makes old first → WasPieceRefused d t m n first new fault → n ≡ 262144 → IsNotCopied d t m makes unmade unnamed old new (causes.Store fault)
  one_refused n old first new fault begun was same = stopped first new fault begun (subst (λ (x : ℕ). WasPieceRefused d t m x first new fault) same was)

  -- it was not ended
  pub none_ended : (n : ℕ) (old first last new : Engine (Mirrored D T d t) m) (r : Result Unit NotCopied) → HasBegun d t m makes old first → WasCopied d t m n first last → n ≡ 262144
      → IfErr r (IsNotEnded d t m unnamed last new) → IfErr r (IsNotCopied d t m makes unmade unnamed old new)
  none_ended n old first last new (Ok _) begun copied same why = tt
  none_ended n old first last new (Err error) begun copied same why = not_ended first last new error begun (subst (λ (x : ℕ). WasCopied d t m x first last) same copied) why

module _ {D T : Type 0} (d : Ghosts D) (t : Ghosts T) (m : Ghosts (Mirrored D T d t)) (makes names : T → Type 0) where
  -- or it was
  pub one_ended : (n : ℕ) (old first last new : Engine (Mirrored D T d t) m) (r : Result Unit NotCopied) → HasBegun d t m makes old first → WasCopied d t m n first last → n ≡ 262144
      → OnOk r (HasEnded d t m names last new) → OnOk r (IsCopiedHere d t m makes names old new)
  one_ended n old first last new (Err error) begun copied same ended = tt
  one_ended n old first last new (Ok _) begun copied same ended =
      record { first = first; begun = begun; last = last; copied = subst (λ (x : ℕ). WasCopied d t m x first last) same copied; ended = ended }
