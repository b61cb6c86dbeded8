-- Records that change no page are passed over.
use Rattle.std.proofs.Common.{◌≡◌, ℕ, ◌+◌, List, [], ◌∷◌, Bool, true, false, refl, sym, ◌∙◌, ap, arith}
use Rattle.std.proofs.Math.Path.{fun_ext}
use Rattle.std.specs.Prelude.{if◌then◌else◌, ◌==◌, nat_le}
use Rattle.im_base_types.specs.Pages.{Page}
use Rattle.im_base_types.specs.Records.{Logged}
use Rattle.im_theory_log.specs.Histories.{changes_page, page_after}
use Rattle.im_theory_log.specs.Copies.{redo_all, redo_one}
use Rattle.im_theory_log.specs.WriterSteps.{applies}
use Rattle.im_theory_log.proofs.Histories.{no_change}
use Rattle.im_page_rounds.specs.Rounds.{applied_of_all, applied_to, changing, NeedChanges}

abbrev one_if : Bool → ℕ
one_if t = if t then 1 else 0

stays : (t u : Bool) (g new : Page) → new ≡ g → (if t then (if u then g else new) else g) ≡ g
stays true true g new same = refl
stays true false g new same = same
stays false u g new same = refl

-- such a record leaves the page
pub plain_stays : (r : Logged) (p : ℕ) (g : Page) → changes_page r.what ≡ false → redo_one r p g ≡ g
plain_stays r p g plain = stays (r.page == p) (nat_le r.lsn g.lsn) g (page_after r.lsn r.what g) (no_change r.lsn r.what g plain)

pub if_none : (t u v : Bool) → v ≡ false → (if t then (if u then false else v) else false) ≡ false
if_none true true v none = refl
if_none true false v none = none
if_none false u v none = refl

-- and is not applied
pub plain_not_applied : (r : Logged) (p : ℕ) (g : Page) → changes_page r.what ≡ false → applies r p g ≡ false
plain_not_applied r p g plain = if_none (r.page == p) (nat_le r.lsn g.lsn) (changes_page r.what) plain

same_page : (rs : List Logged) (p : ℕ) (g : Page) → redo_all (changing rs) p g ≡ redo_all rs p g
same_page [] p g = refl
same_page (r ∷ rs) p g = by (same_page rs p) (changes_page r.what) refl
  where
    by : ((h : Page) → redo_all (changing rs) p h ≡ redo_all rs p h) → (t : Bool) → changes_page r.what ≡ t → redo_all (if t then r ∷ changing rs else changing rs) p g ≡ redo_all rs p (redo_one r p g)
    by rest true is = rest (redo_one r p g)
    by rest false is = rest g ∙ ap (λ (x : Page). redo_all rs p x) (sym (plain_stays r p g is))

same_count : (rs : List Logged) (p : ℕ) (g : Page) → applied_to (changing rs) p g ≡ applied_to rs p g
same_count [] p g = refl
same_count (r ∷ rs) p g = by (same_count rs p) (changes_page r.what) refl
  where
    by : ((h : Page) → applied_to (changing rs) p h ≡ applied_to rs p h) → (t : Bool) → changes_page r.what ≡ t → applied_to (if t then r ∷ changing rs else changing rs) p g ≡ one_if (applies r p g) + applied_to rs p (redo_one r p g)
    by rest true is = ap (λ (n : ℕ). one_if (applies r p g) + n) (rest (redo_one r p g))
    by rest false is =
        let same : applied_to rs p (redo_one r p g) ≡ applied_to rs p g = ap (λ (x : Page). applied_to rs p x) (plain_stays r p g is) in
        let none : one_if (applies r p g) ≡ 0 = ap one_if (plain_not_applied r p g is) in
        let all : applied_to (changing rs) p g ≡ applied_to rs p g = rest g in
        omega (arith, same, none, all)

-- the same of all pages
module _ (r : Logged) (rs : List Logged) (pages : ℕ → Page) (plain : changes_page r.what ≡ false) where
  pub pages_stay : (λ q. redo_one r q (pages q)) ≡ pages
  pages_stay = fun_ext (λ (q : ℕ). plain_stays r q (pages q) plain)

same_all : (rs : List Logged) (pages : ℕ → Page) → applied_of_all (changing rs) pages ≡ applied_of_all rs pages
same_all [] pages = refl
same_all (r ∷ rs) pages = by (same_all rs) (changes_page r.what) refl
  where
    by : ((ps : ℕ → Page) → applied_of_all (changing rs) ps ≡ applied_of_all rs ps) → (t : Bool) → changes_page r.what ≡ t
        → applied_of_all (if t then r ∷ changing rs else changing rs) pages ≡ one_if (applies r r.page (pages r.page)) + applied_of_all rs (λ q. redo_one r q (pages q))
    by rest true is = ap (λ (n : ℕ). one_if (applies r r.page (pages r.page)) + n) (rest (λ q. redo_one r q (pages q)))
    by rest false is =
        let same : applied_of_all rs (λ q. redo_one r q (pages q)) ≡ applied_of_all rs pages = ap (λ (ps : ℕ → Page). applied_of_all rs ps) (pages_stay r rs pages is) in
        let none : one_if (applies r r.page (pages r.page)) ≡ 0 = ap one_if (plain_not_applied r r.page (pages r.page) is) in
        let all : applied_of_all (changing rs) pages ≡ applied_of_all rs pages = rest pages in
        omega (arith, same, none, all)

pub changes_alone : NeedChanges
changes_alone = record { page = same_page; count = same_count; all = same_all }
