-- A page through the calls that change it by a record.
use Rattle.std.proofs.Common.{◌≡◌, ℕ, ◌<◌, ◌≤◌, false, Bool, List, length, insert, remove, refl, sym, ◌∙◌, ap}
use Rattle.std.specs.Prelude.{◌==◌, nat_le}
use Rattle.std.proofs.lemmas.Bool.{cond-true, cond-false, eq-eqb, lt-leb, le-leb}
use Rattle.im_base_types.specs.Keys.{Key}
use Rattle.im_base_types.specs.Pages.{Entry, Page}
use Rattle.im_base_types.specs.Records.{InsertKey, DeleteKey, Logged}
use Rattle.im_theory_log.specs.Histories.{changes_page, page_after}
use Rattle.im_theory_log.specs.WriterSteps.{applies}
use Rattle.im_theory_page.specs.Entry.{Parts, Rises, entry_at}
use Rattle.im_page.proofs.KeyLists.{put_at, without_at}
use Rattle.im_page_rounds.specs.OnePage.{PageChanges, PageRedone}

-- an entry put at its place, without the mark and with the LSN: the page that the record makes
pub put_is : (p : Page) (lsn : ℕ) (k : Key) (v i : ℕ) → Parts p.body.entries k i i → record { lsn = lsn; body = record p.body { marked = false; entries = insert p.body.entries i (k, v) } } ≡ page_after lsn (InsertKey k v) p
put_is p lsn k v i place = ap (λ (es : List Entry). record { lsn = lsn; body = record p.body { marked = false; entries = es } }) (sym (put_at p.body.entries k v i place))

pub take_is : (p : Page) (lsn : ℕ) (k : Key) (v i : ℕ) → Rises p.body.entries → i < length p.body.entries → (entry_at p.body.entries i).0 ≡ k
    → record { lsn = lsn; body = record p.body { marked = false; entries = remove p.body.entries i } } ≡ page_after lsn (DeleteKey k v) p
take_is p lsn k v i rises lt is = ap (λ (es : List Entry). record { lsn = lsn; body = record p.body { marked = false; entries = es } }) (sym (without_at p.body.entries k i rises lt is))

-- ---- by the page's LSN

-- a page that has the record already stays
pub has_already : (r : Logged) (g : Page) → r.lsn ≤ g.lsn → PageRedone r g false g
has_already r g le = record {
  applied = sym (cond-true (r.page == r.page) _ false (eq-eqb r.page r.page refl) ∙ cond-true (nat_le r.lsn g.lsn) false (changes_page r.what) (le-leb r.lsn g.lsn le));
  is = sym (cond-true (r.page == r.page) _ g (eq-eqb r.page r.page refl) ∙ cond-true (nat_le r.lsn g.lsn) g (page_after r.lsn r.what g) (le-leb r.lsn g.lsn le));
}

pub applies_below : (r : Logged) (g : Page) → g.lsn < r.lsn → applies r r.page g ≡ changes_page r.what
applies_below r g lt = cond-true (r.page == r.page) _ false (eq-eqb r.page r.page refl) ∙ cond-false (nat_le r.lsn g.lsn) false (changes_page r.what) (lt-leb r.lsn g.lsn lt)

-- one that lacks it is changed by it
pub lacked : (r : Logged) (g : Page) (done : Bool) (new : Page) → g.lsn < r.lsn → PageChanges r.lsn r.what g done new → PageRedone r g done new
lacked r g done new lt changes = record {
  applied = changes.changes ∙ sym (applies_below r g lt);
  is = changes.is ∙ sym (cond-true (r.page == r.page) _ g (eq-eqb r.page r.page refl) ∙ cond-false (nat_le r.lsn g.lsn) g (page_after r.lsn r.what g) (lt-leb r.lsn g.lsn lt));
}
