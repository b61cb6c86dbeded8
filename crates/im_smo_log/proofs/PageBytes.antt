-- The bytes of a page after its LSN.
use Rattle.std.proofs.Common.{◌≡◌, ℕ, ◌+◌, ◌-◌, Bool, true, false, List, ◌++◌, length, take, drop, replicate, get_or, Some, None, refl, ap, subst, ◌∙◌, arith, if◌then◌else◌, get_or-append-add, get_or-drop, length-drop, length-append, take_all}
use Rattle.std.specs.Bool.{Decides}
use Rattle.im_base_types.specs.Pages.{Page}
use Rattle.im_theory_page.specs.Number.{SameOutside}
use Rattle.im_theory_page.specs.Page.{IsForm, said_by, is_form, page_of}
use Rattle.im_page.proofs.FieldLemmas.{lsn_written}
use Rattle.im_theory_page.proofs.FormLemmas.{form_decided, page_of_form}
use Rattle.im_log.specs.Whats.{page_behind}

form_of : (bytes : List ℕ) (p : Page) → page_of bytes ≡ Some p → IsForm bytes × (said_by bytes ≡ p)
unfolding page_of
form_of bytes p is = by (is_form bytes) (form_decided bytes) is
  where
    by : (t : Bool) → Decides t (IsForm bytes) → (if t then Some (said_by bytes) else None) ≡ Some p → IsForm bytes × (said_by bytes ≡ p)
    by true d is = (d.0 refl, let same : said_by bytes ≡ p = cc is in same)
    by false d is = absurd (cc is)

zeros_outside : (bytes : List ℕ) → length bytes ≡ 4096 → SameOutside bytes (replicate 8 0 ++ drop 8 bytes) 0 8
zeros_outside bytes len = record {
  len = simp (length-append, length-drop) (omega (arith, len));
  below = λ k lt. absurd (omega arith);
  above = λ k le.
      let at : 8 + (k - 8) ≡ k = omega arith in
      subst (λ (j : ℕ). get_or (replicate 8 0 ++ drop 8 bytes) j 0 ≡ get_or bytes j 0) at
      (get_or-append-add (replicate 8 0) (drop 8 bytes) (k - 8) 0 ∙ get_or-drop 8 bytes (k - 8) 0);
}

-- they are the page with an LSN of zero
pub behind_is : (bytes : List ℕ) (p : Page) → page_of bytes ≡ Some p → length bytes ≡ 4096 → page_behind (take (length bytes - 8) (drop 8 bytes)) ≡ Some (record p { lsn = 0 })
behind_is bytes p is len =
    let form = form_of bytes p is in
    let new = replicate 8 0 ++ drop 8 bytes in
    let all : take (length bytes - 8) (drop 8 bytes) ≡ drop 8 bytes = take_all (length bytes - 8) (drop 8 bytes) (simp length-drop (omega arith)) in
    let written = lsn_written bytes new 0 form.0 (zeros_outside bytes len) refl in
    ap (λ (l : List ℕ). page_of (replicate 8 0 ++ l)) all ∙ page_of_form new written.0 ∙ ap (λ (g : Page). Some g) (written.1 ∙ ap (λ (g : Page). record g { lsn = 0 }) form.1)
