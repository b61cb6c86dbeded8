-- The dirty table through the steps of a writer: a change, a copy loaded, a record redone, a write, a sync.
use Rattle.std.proofs.Common.{◌≡◌, inl, inr, ℕ, false, true, Option, None, Some, refl, sym, ◌∙◌, ap, subst}
use Rattle.std.proofs.lemmas.Bool.{cases_Bool, cases_eq, cond-false}
use Rattle.im_theory_log.specs.Writer.{DirtyEntry, PageState, IsWritten}
use Rattle.im_theory_log.specs.WriterSteps.{entry_since, only, synced_entry, synced_page, written_entry, written_page}
use Rattle.im_page_table.specs.DirtyTable.{TableView, entry_in, has_room, put, written_in, ChangesEntry, HasEntries, IsTied}
use Rattle.im_page_table.proofs.OnePage.{only_here, only_other}
use Rattle.im_page_table.proofs.Tables.{room_found}

-- a step that changes one page's entry as the table's call does
pub entries_put : (f : PageState → PageState) (g : Option DirtyEntry → DirtyEntry) (pages : ℕ → PageState) (p : ℕ) (old new : TableView) → ((x : PageState) → (f x).entry ≡ Some (g x.entry)) → HasEntries old pages
    → ChangesEntry p g old new → HasEntries new (only p f pages)
entries_put f g pages p old new step has changes q = elim (cases_eq p q) [
  | inl here ↦
      ap (λ (n : ℕ). entry_in new n) (sym here) ∙ changes.entry ∙ ap (λ (o : Option DirtyEntry). Some (g o)) (has p) ∙ sym (step (pages p))
      ∙ ap (λ (n : ℕ). (f (pages n)).entry) here ∙ ap (λ (x : PageState). x.entry) (sym (only_here f pages p q here))
  | inr other ↦ changes.others q (λ e. other (sym e)) ∙ has q ∙ ap (λ (x : PageState). x.entry) (sym (only_other f pages p q other))
]

-- ---- a write, and a sync

module _ (pages : ℕ → PageState) (p l : ℕ) (old new : TableView) (entry : entry_in old p ≡ (pages p).entry) (is : new ≡ written_in p l old)
    (changes : has_room p old ≡ true → ChangesEntry p (written_entry l) old new) where
  -- with room, the table has the page's entry
  entered_here : has_room p old ≡ true → (q : ℕ) → p ≡ q → entry_in new q ≡ (only p (written_page l) pages q).entry
  entered_here room q here =
      ap (λ (n : ℕ). entry_in new n) (sym here) ∙ (changes room).entry ∙ ap (λ (o : Option DirtyEntry). Some (written_entry l o)) entry
      ∙ ap (λ (n : ℕ). Some (written_entry l (pages n).entry)) here ∙ ap (λ (x : PageState). x.entry) (sym (only_here (written_page l) pages p q here))

  -- and each other page's as before
  entered_other : has_room p old ≡ true → (q : ℕ) → (p ≡ q → ⊥) → entry_in new q ≡ entry_in old q
  entered_other room q other = (changes room).others q (λ e. other (sym e))

  unmoved : has_room p old ≡ false → new ≡ old
  unmoved full = is ∙ cond-false (has_room p old) (put p (written_entry l) old) old full

  -- after a write the table has the entries, where it had them and has room
  pub entries_written : has_room p old ≡ true → HasEntries old pages → HasEntries new (only p (written_page l) pages)
  entries_written room has q = elim (cases_eq p q) [
    | inl here ↦ entered_here room q here
    | inr other ↦ entered_other room q other ∙ has q ∙ ap (λ (x : PageState). x.entry) (sym (only_other (written_page l) pages p q other))
  ]

  -- and is tied to the pages in any case
  pub tied_written : ((q : ℕ) → IsTied (entry_in old q) (pages q).entry) → (q : ℕ) → IsTied (entry_in new q) (only p (written_page l) pages q).entry
  tied_written tied q = elim (cases_eq p q) [
    | inl here ↦ elim (cases_Bool (has_room p old)) [
      | inl room ↦ inl (entered_here room q here)
      | inr full ↦
          let none : entry_in old p ≡ None = none_where_full full in
          let same : entry_in new q ≡ None = ap (λ (n : ℕ). entry_in new n) (sym here) ∙ ap (λ (t : TableView). entry_in t p) (unmoved full) ∙ none in
          inr (same, subst (λ (o : Option DirtyEntry). IsWritten o) (ap (λ (x : PageState). x.entry) (sym (only_here (written_page l) pages p q here))) (written_is (pages q).entry))
    ]
    | inr other ↦
        let kept : (only p (written_page l) pages q).entry ≡ (pages q).entry = ap (λ (x : PageState). x.entry) (only_other (written_page l) pages p q other) in
        let same : entry_in new q ≡ entry_in old q = elim (cases_Bool (has_room p old)) [
          | inl room ↦ entered_other room q other
          | inr full ↦ ap (λ (t : TableView). entry_in t q) (unmoved full)
        ] in
        subst (λ (o : Option DirtyEntry). IsTied (entry_in new q) o) (sym kept) (subst (λ (o : Option DirtyEntry). IsTied o (pages q).entry) (sym same) (tied q))
  ]
    where
      written_is : (o : Option DirtyEntry) → IsWritten (Some (written_entry l o))
      written_is None = refl
      written_is (Some e) = refl

      none_where_full : has_room p old ≡ false → entry_in old p ≡ None
      none_where_full full = by (entry_in old p) refl
        where
          by : (o : Option DirtyEntry) → entry_in old p ≡ o → entry_in old p ≡ None
          by None none = none
          by (Some e) some = let clash : true ≡ false = sym (room_found old p e some) ∙ full in absurd (cc clash)

-- a sync takes out the pages that were written without an entry
pub tied_synced : (pages : ℕ → PageState) (old new : TableView) → ((p : ℕ) → entry_in new p ≡ synced_entry (entry_in old p)) → ((p : ℕ) → IsTied (entry_in old p) (pages p).entry) → HasEntries new (λ q. synced_page (pages q))
tied_synced pages old new is tied p = is p ∙ elim (tied p) [
  | inl same ↦ ap synced_entry same
  | inr none ↦ ap synced_entry none.0 ∙ sym (gone (pages p).entry none.1)
]
  where
    gone : (o : Option DirtyEntry) → IsWritten o → synced_entry o ≡ None
    gone None done = refl
    gone (Some e) done = ap (λ (t : Option ℕ). entry_since e.copied t) done
