-- The history of the model disk goes on by one moment.
use Rattle.std.proofs.Common.{◌≡◌, ◌⊎◌, inl, inr, ⊎_elim, ℕ, zero, suc, ◌≤◌, List, [], ◌∷◌, ◌++◌, length, drop, refl, sym, subst, arith, length-append}
use Rattle.im_base_disk.specs.Disk.{Files, Elapses}
use Rattle.im_base_model_disk.specs.Past.{Moment, HadBeen}

drop_push : (t : ℕ) (past : List Moment) (m : Moment) → t ≤ length past → drop t (past ++ m ∷ []) ≡ drop t past ++ m ∷ []
drop_push zero past m le = refl
drop_push (suc t) [] m le = absurd (omega arith)
drop_push (suc t) (p ∷ past) m le = drop_push t past m (omega arith)

module _ (leaves : Moment → Files → Type 0) where
  keeps : (past : List Moment) (m : Moment) (c : Files) → HadBeen leaves past c → HadBeen leaves (past ++ m ∷ []) c
  keeps [] m c had = absurd had
  keeps (p ∷ past) m c (inl here) = inl here
  keeps (p ∷ past) m c (inr there) = inr (keeps past m c there)

  parts : (past : List Moment) (m : Moment) (c : Files) → HadBeen leaves (past ++ m ∷ []) c → HadBeen leaves past c ⊎ leaves m c
  parts [] m c (inl here) = inr here
  parts [] m c (inr none) = absurd none
  parts (p ∷ past) m c (inl here) = inl (inl here)
  parts (p ∷ past) m c (inr there) = ⊎_elim (λ had. inl (inr had)) (λ new. inr new) (parts past m c there)

  newest : (past : List Moment) (m : Moment) (c : Files) → leaves m c → HadBeen leaves (past ++ m ∷ []) c
  newest [] m c is = inl is
  newest (p ∷ past) m c is = inr (newest past m c is)

  -- what a stop since t might have left
  abbrev pub Since : List Moment → Moment → ℕ → Files → Type 0
  Since past now t c = leaves now c ⊎ HadBeen leaves (drop t past) c

  was : (past : List Moment) (now : Moment) (t : ℕ) (c : Files) → HadBeen leaves (drop t past) c ⊎ leaves now c → Since past now t c
  was past now t c (inl had) = inr had
  was past now t c (inr new) = inl new

  pub elapses : (past later : List Moment) (now new : Moment) → later ≡ past ++ now ∷ [] → Elapses (length past) (length later) (Since past now) (Since later new) (leaves new)
  elapses past later now new is =
      subst (λ (l : List Moment). Elapses (length past) (length l) (Since past now) (Since l new) (leaves new)) (sym is) record {
        later = omega (arith, length-append past (now ∷ []));
        nothing_else = λ t c le left. ⊎_elim (λ here. inr here) (λ had. inl (was past now t c (parts (drop t past) now c (subst (λ (l : List Moment). HadBeen leaves l c) (drop_push t past now le) had)))) left;
        keeps = λ t c le left. inr (subst (λ (l : List Moment). HadBeen leaves l c) (sym (drop_push t past now le)) (⊎_elim (newest (drop t past) now c) (keeps (drop t past) now c) left));
      }
