-- What a page is once a record of the log has changed it: its LSN is no less than the record's; and where it is the record's, the page is what the record left.
use Rattle.std.proofs.Common.{◌≡◌, inl, inr, ℕ, ◌<◌, ◌≤◌, [], ◌∷◌, true, sym, ◌∙◌, ap, subst, arith, Some}
use Rattle.std.proofs.lemmas.Bool.{cases_Bool, cases_eq, cases_lt}
use Rattle.im_base_types.specs.Pages.{Body, Page}
use Rattle.im_base_types.specs.Records.{What, InsertKey, DeleteKey, UndoInsert, UndoDelete, Smo, UndoSmo, DummyClr, Commit, End, Image, Checkpoint, Unreadable, Logged}
use Rattle.im_theory_log.specs.Histories.{Base, History, IsRecordOf, Rises, below, changes_page, end_of, page_after, page_at}
use Rattle.im_theory_log.proofs.Histories.{below_newest, below_older, no_change, page_here, page_lsn_up, page_other}
use Rattle.im_page_file.specs.PageCopy.{after_in}
use Rattle.im_theory_switch.proofs.Left.{own_lsn}

-- a structure change leaves its image
pub after_body : (l : ℕ) (w : What) (g : Page) (body : Body) → after_in w ≡ Some body → (page_after l w g).body ≡ body
after_body l (InsertKey k i) g body is = absurd (cc is)
after_body l (DeleteKey k i) g body is = absurd (cc is)
after_body l (UndoInsert k i) g body is = absurd (cc is)
after_body l (UndoDelete k i) g body is = absurd (cc is)
after_body l (Smo old new) g body is = let e : new ≡ body = cc is in e
after_body l (UndoSmo new) g body is = let e : new ≡ body = cc is in e
after_body l DummyClr g body is = absurd (cc is)
after_body l Commit g body is = absurd (cc is)
after_body l End g body is = absurd (cc is)
after_body l (Image c) g body is = absurd (cc is)
after_body l (Checkpoint n a d) g body is = absurd (cc is)
after_body l Unreadable g body is = absurd (cc is)

-- a record is none after the log's end
pub record_low : (b : Base) (log : History) (r : Logged) → Rises b log → IsRecordOf r log → r.lsn ≤ end_of b log
record_low b [] r up has = absurd has
record_low b (x ∷ older) r up (inl same) = omega (arith, ap (λ (y : Logged). y.lsn) same)
record_low b (x ∷ older) r up (inr has) = let low = record_low b older r up.0 has in omega (arith, low, up.1)

-- a record is among those below a bound that is above its LSN
pub record_below : (b : Base) (n : ℕ) (log : History) (r : Logged) → Rises b log → IsRecordOf r log → r.lsn < n → IsRecordOf r (below n log)
record_below b n [] r up has under = absurd has
record_below b n (x ∷ older) r up (inl same) under =
    let here : x.lsn < n = omega (arith, ap (λ (y : Logged). y.lsn) same, under) in
    subst (λ (h : History). IsRecordOf r h) (sym (below_newest n x older here)) (inl same)
record_below b n (x ∷ older) r up (inr has) under = elim (cases_lt x.lsn n) [
  | inl here ↦ subst (λ (h : History). IsRecordOf r h) (sym (below_newest n x older here)) (inr has)
  | inr over ↦ subst (λ (h : History). IsRecordOf r h) (sym (below_older n x older over)) (record_below b n older r up.0 has under)
]

-- a bound leaves a log that ends no later
pub below_low : (b : Base) (n : ℕ) (log : History) → Rises b log → end_of b (below n log) ≤ end_of b log
below_low b n [] up = omega arith
below_low b n (x ∷ older) up = elim (cases_lt x.lsn n) [
  | inl here ↦ omega (arith, ap (λ (h : History). end_of b h) (below_newest n x older here))
  | inr over ↦ let low = below_low b n older up.0 in omega (arith, ap (λ (h : History). end_of b h) (below_older n x older over), low, up.1)
]

module _ (b : Base) (p : ℕ) (r : Logged) (page : r.page ≡ p) (changes : changes_page r.what ≡ true) where
  newest_lsn : (older : History) → (page_at b (r ∷ older) p).lsn ≡ r.lsn
  newest_lsn older = ap (λ (g : Page). g.lsn) (page_here b r older p page) ∙ own_lsn r.lsn r.what (page_at b older p) changes

  pub changed_reaches : (log : History) → Rises b log → IsRecordOf r log → r.lsn ≤ (page_at b log p).lsn
  changed_reaches [] up has = absurd has
  changed_reaches (x ∷ older) up (inl same) =
      let here : (page_at b (x ∷ older) p).lsn ≡ r.lsn = subst (λ (y : Logged). (page_at b (y ∷ older) p).lsn ≡ r.lsn) (sym same) (newest_lsn older) in
      omega (arith, here)
  changed_reaches (x ∷ older) up (inr has) =
      let old = changed_reaches older up.0 has in
      let rises : (page_at b older p).lsn ≤ (page_at b (x ∷ older) p).lsn = page_lsn_up b (x ∷ []) older p up in
      omega (arith, old, rises)

  -- where the page has the record's LSN it is what the record left
  pub changed_here : (body : Body) → after_in r.what ≡ Some body → (log : History) → Rises b log → IsRecordOf r log → (page_at b log p).lsn ≡ r.lsn → (page_at b log p).body ≡ body
  changed_here body after [] up has same = absurd has
  changed_here body after (x ∷ older) up (inl is) same =
      subst (λ (y : Logged). (page_at b (y ∷ older) p).body ≡ body) (sym is) (ap (λ (g : Page). g.body) (page_here b r older p page) ∙ after_body r.lsn r.what (page_at b older p) body after)
  changed_here body after (x ∷ older) up (inr has) same =
      let low = record_low b older r up.0 has in
      elim (cases_eq x.page p) [
        | inl here ↦ elim (cases_Bool (changes_page x.what)) [
          | inl changed ↦
              let e : (page_at b (x ∷ older) p).lsn ≡ x.lsn = ap (λ (g : Page). g.lsn) (page_here b x older p here) ∙ own_lsn x.lsn x.what (page_at b older p) changed in
              absurd (omega (arith, e, same, low, up.1))
          | inr plain ↦
              let e : page_at b (x ∷ older) p ≡ page_at b older p = page_here b x older p here ∙ no_change x.lsn x.what (page_at b older p) plain in
              ap (λ (g : Page). g.body) e ∙ changed_here body after older up.0 has (sym (ap (λ (g : Page). g.lsn) e) ∙ same)
        ]
        | inr other ↦
            let e : page_at b (x ∷ older) p ≡ page_at b older p = page_other b x older p other in
            ap (λ (g : Page). g.body) e ∙ changed_here body after older up.0 has (sym (ap (λ (g : Page). g.lsn) e) ∙ same)
      ]
