-- Several views.
use Rattle.std.proofs.Common.{◌≡◌, List, [], ◌∷◌, refl, ap, ◌∙◌}
use Rattle.im_base_types.specs.Maps.{IndexMap}
use Rattle.im_base_types.specs.Answers.{Step, Reply}
use Rattle.im_theory_machine.specs.View.{View}
use Rattle.im_theory_machine.specs.Machine.{Moves, IsReached}
use Rattle.im_theory_machine.specs.Overlays.{Overlay, laid, IsOverlay, Lies, AreOverlays, through, oldest, NotesNewest}
use Rattle.im_theory_machine.specs.OverlayLaws.{Many}
use Rattle.im_theory_machine.proofs.Overlays.{steps_keep, chains, joins, laid_after}

step_all : (ms : List IndexMap) (v w : View) (step : Step) (reply : Reply) (os : List Overlay) → Moves v step reply w → AreOverlays ms v os → (ns : List Overlay) × NotesNewest v.walk os ns × AreOverlays ms w ns
step_all [] v w step reply [] moves h = ([], refl, tt)
step_all [] v w step reply (o ∷ os) moves h = absurd h
step_all (m ∷ ms) v w step reply [] moves h = absurd h
step_all (m ∷ ms) v w step reply (o ∷ os) moves h =
    let kept = steps_keep m v w step reply o moves h.0 in
    (kept.0 ∷ os, (kept.0, kept.1, refl), (kept.2, h.1))

begin_all : (base : IndexMap) (ms : List IndexMap) (v : View) (os : List Overlay) (o : Overlay) → IsReached base v → IsOverlay v.committed v o → AreOverlays ms v os → AreOverlays (v.committed ∷ ms) v (o ∷ os)
begin_all base [] v [] o reached covers h = (covers, tt)
begin_all base [] v (p ∷ os) o reached covers h = absurd h
begin_all base (m ∷ ms) v [] o reached covers h = absurd h
begin_all base (m ∷ ms) v (p ∷ os) o reached covers h = (covers, (chains base v m p reached h.0, h.1))

-- below a map, what the oldest reads through
lies_through : (m : IndexMap) (ms : List IndexMap) (os : List Overlay) → Lies m ms os → laid m (through os) ≡ oldest m ms
lies_through m [] [] h = refl
lies_through m [] (o ∷ os) h = absurd h
lies_through m (k ∷ ms) [] h = absurd h
lies_through m (k ∷ ms) (o ∷ os) h = laid_after m (through os) o ∙ ap (λ (n : IndexMap). laid n (through os)) h.0 ∙ lies_through k ms os h.1

pub many : Many
many = record {
  step = step_all;
  begin = begin_all;
  reads = λ m ms v o os h. laid_after v.walk (through os) o ∙ ap (λ (n : IndexMap). laid n (through os)) (h.0).is ∙ lies_through m ms os h.1;
  newest = λ m k ms v o p os h. (h.0, tt);
  ends = λ m k ms v o p os h. (joins v k m p o (h.1).0 h.0, (h.1).1);
  between = λ m k l ms o p os h. (laid_after m p o ∙ ap (λ (n : IndexMap). laid n p) h.0 ∙ (h.1).0, (h.1).1);
}
