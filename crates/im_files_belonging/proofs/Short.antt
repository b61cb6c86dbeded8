-- Whether the file of pages was cut, by its two reasons.
use Rattle.std.proofs.Common.{◌≡◌, ◌≢◌, inl, inr, ℕ, Bool, true, false, true≢false, sym, ◌∙◌, ap, subst}
use Rattle.std.specs.Prelude.{◌↔◌}
use Rattle.im_log_header.specs.Header.{base_of}
use Rattle.im_files_belonging.specs.declared.folder.Folder.{Folder}
use Rattle.im_files_belonging.specs.declared.folder.Front.{Front}
use Rattle.im_files_belonging.specs.Fronts.{gate_byte, shown}
use Rattle.im_files_belonging.specs.Belonging.{current, left, IsCutShort, LacksCounted, LacksFirst}

module _ (f : Folder) (log other : Front) (base : ℕ) (log_is : log ≡ current f) (other_is : other ≡ left f) (is : base ≡ base_of (shown log)) where
  base_is : base ≡ base_of (shown (current f))
  base_is = is ∙ ap (λ (x : Front). base_of (shown x)) log_is

  -- where the first is not so, by the second
  pub by_first : (counted first : Bool) → ((counted ≡ true) ↔ ((gate_byte (shown log) ≢ 1) × LacksCounted (base_of (shown log)) f.pages)) → counted ≡ false
      → ((first ≡ true) ↔ LacksFirst base other f.pages) → (first ≡ true) ↔ IsCutShort f
  by_first counted first says none lacks = (
    (λ yes. inr (subst (λ (x : Front). LacksFirst (base_of (shown (current f))) x f.pages) other_is (subst (λ (n : ℕ). LacksFirst n other f.pages) base_is (lacks.0 yes)))),
    (λ short. by short),
  )
    where
      by : IsCutShort f → first ≡ true
      by (inl so) = absurd (true≢false (sym (says.1 (subst (λ (x : Front). (gate_byte (shown x) ≢ 1) × LacksCounted (base_of (shown x)) f.pages) (sym log_is) so)) ∙ none))
      by (inr so) = lacks.1 (subst (λ (n : ℕ). LacksFirst n other f.pages) (sym base_is) (subst (λ (x : Front). LacksFirst (base_of (shown (current f))) x f.pages) (sym other_is) so))
