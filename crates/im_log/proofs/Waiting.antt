-- The batches that wait in the buffer are those that its bytes say: what is known of them has no data of its own, so that a type may keep it.
use Rattle.std.proofs.Common.{◌≡◌, ℕ, List, [], ◌∷◌, ◌++◌, Some, append-nil, take, sym, ◌∙◌, ap}
use Rattle.std.specs.Prelude.{All}
use Rattle.std.proofs.Props.{props}
use Rattle.std.proofs.lemmas.List.{append_cancel_right}
use mathlib.Core.HLevel.{Σ_prop_path}
use Rattle.im_log_gate.specs.Batches.{batches_from, Fits, gated, IsFilled}
use Rattle.im_log_gate.proofs.Several.{all_count}
use Rattle.im_log.specs.declared.log_file.LogFile.{LogFile}
use Rattle.im_log.specs.LogFile.{Sealed}

some_is : {A : Type 0} (x y : A) → Some x ≡ Some y → x ≡ y
some_is x y e = cc e

-- bytes are the layout of one list of batches at most
pub filled_once : (bs cs : List (List ℕ)) (bytes : List ℕ) → IsFilled bs bytes → IsFilled cs bytes → bs ≡ cs
filled_once bs cs bytes f g =
    let same : gated bs ≡ gated cs = append_cancel_right (gated bs) (gated cs) (1 ∷ []) (sym f.is ∙ g.is) in
    let read : Some (bs ++ []) ≡ Some (cs ++ []) = sym (all_count bs f.fit (0 ∷ [])) ∙ ap (λ (l : List ℕ). batches_from 0 (l ++ 0 ∷ [])) same ∙ all_count cs g.fit (0 ∷ []) in
    sym (append-nil bs) ∙ some_is (bs ++ []) (cs ++ []) read ∙ append-nil cs

fits_prop : (records : List ℕ) → IsProp (Fits records)
fits_prop records = hlevel props

fit_prop : (bs : List (List ℕ)) → IsProp (All Fits bs)
fit_prop bs = hlevel (props, fits_prop)

filled_prop : (bs : List (List ℕ)) (bytes : List ℕ) → IsProp (IsFilled bs bytes)
filled_prop bs bytes = hlevel (props, fit_prop)

pub sealed_prop : (log : LogFile) → IsProp (Sealed log)
sealed_prop log s t =
    let bytes : List ℕ = take log.start log.buffer.items in
    let pair : (s.batches, s.filled) ≡ (t.batches, t.filled) = Σ_prop_path (λ (bs : List (List ℕ)). filled_prop bs bytes) (filled_once s.batches t.batches bytes s.filled t.filled) in
    λ i. record { batches = (pair i).0; filled = (pair i).1 }
