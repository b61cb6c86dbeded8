-- Pages that have had all their records below a bound, past records that change none of them; and what a page is to which redo applies
-- a record.
use Rattle.std.proofs.Common.{◌≡◌, inl, inr, ℕ, ◌+◌, ◌<◌, ◌≤◌, ◌∷◌, ◌++◌, Bool, true, false, refl, sym, ◌∙◌, ap, subst, arith}
use Rattle.std.specs.Prelude.{if◌then◌else◌, ◌==◌, nat_le}
use Rattle.std.proofs.lemmas.Bool.{cases_lt, le-leb}
use Rattle.im_base_types.specs.Pages.{Page}
use Rattle.im_base_types.specs.Records.{Checkpoint, Commit, DeleteKey, DummyClr, End, Image, InsertKey, Logged, Smo, UndoDelete, UndoInsert, UndoSmo, Unreadable, What}
use Rattle.im_theory_log.specs.Histories.{Base, History, Rises, changes_page, end_of, page_after, page_at}
use Rattle.im_theory_log.specs.Copies.{Reaches, redo_one}
use Rattle.im_theory_log.specs.WriterSteps.{applies}
use Rattle.im_theory_log.proofs.Cited.{below_between, below_has, no_change, none_below, page_here, page_lsn_up, reaches_one}

-- no record is at the start or before it
pub reaches_start : (b : Base) (log : History) (m p : ℕ) (g : Page) → Rises b log → Reaches b log m p g → Reaches b log (b.start + 1) p g
reaches_start b log m p g up has = elim (cases_lt b.start has.upto) [
  | inl past ↦ record { upto = has.upto; from = omega (arith, past); is = has.is }
  | inr before ↦ record {
    upto = b.start + 1;
    from = omega arith;
    is = has.is ∙ ap (λ (l : History). page_at b l p) (none_below b has.upto log up (omega (arith, before)) ∙ sym (none_below b (b.start + 1) log up (omega arith)));
  }
]

-- a record that changes no page leaves each page
redo_plain : (r : Logged) (p : ℕ) (g : Page) → changes_page r.what ≡ false → redo_one r p g ≡ g
redo_plain r p g plain = by (r.page == p) (nat_le r.lsn g.lsn)
  where
    by : (here has : Bool) → (if here then (if has then g else page_after r.lsn r.what g) else g) ≡ g
    by true true = refl
    by true false = no_change r.lsn r.what g plain
    by false has = refl

-- and is passed by
pub reaches_past : (b : Base) (newer : History) (r : Logged) (f : History) (m p : ℕ) (g : Page) → Rises b (newer ++ r ∷ f) → changes_page r.what ≡ false → end_of b f < m
    → Reaches b (newer ++ r ∷ f) m p g → Reaches b (newer ++ r ∷ f) (r.lsn + 1) p g
reaches_past b newer r f m p g up plain low has =
    subst (λ (h : Page). Reaches b (newer ++ r ∷ f) (r.lsn + 1) p h) (redo_plain r p g plain) (reaches_one b newer r f m p g up low has)

-- ---- the page to which a record is applied

-- a record that changes a page gives it its LSN
pub changed_lsn : (l : ℕ) (w : What) (g : Page) → changes_page w ≡ true → (page_after l w g).lsn ≡ l
changed_lsn l (InsertKey k i) g is = refl
changed_lsn l (DeleteKey k i) g is = refl
changed_lsn l (UndoInsert k i) g is = refl
changed_lsn l (UndoDelete k i) g is = refl
changed_lsn l (Smo old new) g is = refl
changed_lsn l (UndoSmo new) g is = refl
changed_lsn l DummyClr g is = absurd (cc is)
changed_lsn l Commit g is = absurd (cc is)
changed_lsn l End g is = absurd (cc is)
changed_lsn l (Image c) g is = absurd (cc is)
changed_lsn l (Checkpoint n a d) g is = absurd (cc is)
changed_lsn l Unreadable g is = absurd (cc is)

-- a page that needs the record: its LSN is less
needs : (here has changes : Bool) → (if here then (if has then false else changes) else false) ≡ true → (has ≡ false) × (changes ≡ true)
needs true false changes is = (refl, is)
needs true true changes is = absurd (cc is)
needs false has changes is = absurd (cc is)

-- A page that has had all before a record, and needs it, is as the records before it left it.
pub needs_record : (b : Base) (newer : History) (r : Logged) (f : History) (m : ℕ) (g : Page) → Rises b (newer ++ r ∷ f) → end_of b f < m
    → Reaches b (newer ++ r ∷ f) m r.page g → applies r r.page g ≡ true → page_at b f r.page ≡ g
needs_record b newer r f m g up low has applied = elim (cases_lt r.lsn has.upto) [
  | inr before ↦ sym (has.is ∙ ap (λ (l : History). page_at b l r.page) (below_between newer b r f has.upto up (let le : m ≤ has.upto = has.from in omega (arith, low, le)) before))
  | inl past ↦
      let need = needs (r.page == r.page) (nat_le r.lsn g.lsn) (changes_page r.what) applied in
      let found = below_has newer b r f has.upto up past in
      let same : g ≡ page_at b (found.0 ++ r ∷ f) r.page = has.is ∙ ap (λ (l : History). page_at b l r.page) found.1 in
      let at_r : (page_at b (r ∷ f) r.page).lsn ≡ r.lsn = ap (λ (q : Page). q.lsn) (page_here b r f r.page refl) ∙ changed_lsn r.lsn r.what (page_at b f r.page) need.1 in
      let later : (page_at b (r ∷ f) r.page).lsn ≤ (page_at b (found.0 ++ r ∷ f) r.page).lsn = page_lsn_up b found.0 (r ∷ f) r.page found.2 in
      let lsn : g.lsn ≡ (page_at b (found.0 ++ r ∷ f) r.page).lsn = ap (λ (q : Page). q.lsn) same in
      let has_it : r.lsn ≤ g.lsn = omega (arith, at_r, later, lsn) in
      absurd (let clash : true ≡ false = sym (le-leb r.lsn g.lsn has_it) ∙ need.0 in cc clash)
]
