-- Two writes and two syncs: over what stands there, and with no premise on stops.
use Rattle.std.proofs.Common.{◌≡◌, ◌⊎◌, inl, inr, ⊎_elim, ℕ, ◌+◌, ◌<◌, ◌≤◌, Bool, false, List, [], ◌∷◌, ◌++◌, length, take, drop, get_or, None, sym, ◌∙◌, ap, arith, append_assoc}
use Rattle.std.proofs.lemmas.List.{drop-drop, drop_at, drop_more, take-take, length-take-le, get_or-take, get_or-drop}
use Rattle.im_base_disk.specs.Disk.{Torn, whole}
use Rattle.im_base_disk.specs.Sums.{is_open, shown, shows}
use Rattle.im_log_one_sync.specs.Batches.{batches_from, IsLast, LaysFrom}
use Rattle.im_log_one_sync.specs.Laws.{TwoSyncs}
use Rattle.im_log_one_sync.proofs.Reading.{closed_shows, another_gate}
use Rattle.im_log_one_sync.proofs.Laws.{stays, reads_on, passes_at, has_all}

module _ (fits : ℕ → ℕ → List ℕ → Bool) (first base place : ℕ) (old : List ℕ) (before : List (List ℕ)) (last : IsLast fits first base place old before) where
  none_shown : (new : List ℕ) → is_open (get_or new place 0) ≡ false → shows fits base place new ≡ None
  none_shown new shut =
      closed_shows fits (base + place) (drop place new)
      (ap is_open (get_or-drop place new 0 0 ∙ ap (λ (n : ℕ). get_or new n 0) (let same : place + 0 ≡ place = omega arith in same)) ∙ shut)

  -- after the closed gate
  pub behind : is_open (get_or old place 0) ≡ false → (n : ℕ) (new : List ℕ) → Torn (place + 1) n old new → batches_from fits first base new ≡ before
  behind closed n new torn =
      let same : take place new ≡ take place old =
      sym (take-take place (place + 1) new (omega arith)) ∙ ap (λ (l : List ℕ). take place l) torn.before ∙ take-take place (place + 1) old (omega arith) in
      let gate : get_or new place 0 ≡ get_or old place 0 =
      sym (get_or-take (place + 1) new place 0 (omega arith)) ∙ ap (λ (l : List ℕ). get_or l place 0) torn.before ∙ get_or-take (place + 1) old place 0 (omega arith) in
      stays fits base first place old before last new same (omega (arith, last.within, torn.no_shorter)) (none_shown new (ap is_open gate ∙ closed))

  module _ (staged all : List ℕ) (front : take place staged ≡ take place old) (within : place < length staged) (is_all : all ≡ take place staged ++ 1 ∷ drop (place + 1) staged) (end : ℕ) where
    all_from : drop place all ≡ 1 ∷ drop (place + 1) staged
    all_from = ap (drop place) is_all ∙ drop_at (take place staged) (1 ∷ drop (place + 1) staged) place (length-take-le place staged (omega (arith, within)))

    all_behind : drop (place + 1) all ≡ drop (place + 1) staged
    all_behind = sym (drop-drop 1 place all) ∙ ap (drop 1) all_from

    behind_both : (new : List ℕ) → drop (place + 1) new ≡ drop (place + 1) staged → (n : ℕ) → drop (place + (13 + n)) new ≡ drop (place + (13 + n)) all
    behind_both new same n =
        ap (λ (k : ℕ). drop k new) (let split : place + (13 + n) ≡ place + 1 + (12 + n) = omega arith in split)
        ∙ sym (drop-drop (12 + n) (place + 1) new)
        ∙ ap (drop (12 + n)) (same ∙ sym all_behind)
        ∙ drop-drop (12 + n) (place + 1) all
        ∙ ap (λ (k : ℕ). drop k all) (let joined : place + 1 + (12 + n) ≡ place + (13 + n) = omega arith in joined)

    -- over it, by whatever gate
    pub over : (bs : List (List ℕ)) → 1 ≤ length bs → LaysFrom fits base end place bs all → (new : List ℕ) → Torn place 1 staged new
        → (batches_from fits first base new ≡ before) ⊎ (batches_from fits first base new ≡ before ++ bs)
    over [] some lays new torn = absurd (omega (arith, some))
    over (b ∷ more) some lays new torn =
        let from : drop place new ≡ get_or new place 0 ∷ drop (place + 1) staged =
        drop_more new place 0 (omega (arith, within, torn.no_shorter)) ∙ ap (λ (l : List ℕ). get_or new place 0 ∷ l) torn.after in
        ⊎_elim
        (λ none. inl (stays fits base first place old before last new (torn.before ∙ front) (omega (arith, within, torn.no_shorter)) (ap (shown fits (base + place)) from ∙ none)))
        (λ is. inr
        (reads_on fits base first place old before last new (torn.before ∙ front) (omega (arith, within, torn.no_shorter))
        ∙ ap (λ (l : List (List ℕ)). before ++ l)
        (passes_at fits base place new b (ap (shown fits (base + place)) from ∙ is)
        ∙ ap (λ (l : List (List ℕ)). b ∷ l)
        (ap (batches_from fits 0 (base + (place + (13 + length b)))) (behind_both new torn.after (length b)) ∙ has_all fits base end (place + (13 + length b)) more all lays.2))))
        (another_gate fits (base + place) (get_or new place 0) (drop (place + 1) staged) b (ap (shown fits (base + place)) (sym all_from) ∙ lays.1))

pub two_syncs : TwoSyncs
two_syncs = record {
  behind = λ fits first base place n old new before last closed torn. behind fits first base place old before last closed n new torn;
  over = λ fits first base place end bs old staged new before some last front within lays torn.
      over fits first base place old before last staged (whole place (1 ∷ []) staged) front within (append_assoc (take place staged) (1 ∷ []) (drop (place + 1) staged)) end bs some lays new torn;
}
