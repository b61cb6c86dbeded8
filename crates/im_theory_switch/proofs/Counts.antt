-- The greatest page that a lawful log names was changed, so that it is in the file.
use Rattle.std.proofs.Common.{◌≡◌, ◌⊎◌, inl, inr, ⊎_elim, ℕ, ◌+◌, ◌<◌, ◌≤◌, [], ◌∷◌, true, refl, sym, ◌∙◌, ap, subst, arith}
use Rattle.std.specs.Prelude.{max}
use Rattle.std.proofs.lemmas.Bool.{cases_Bool, cases_lt, cond-true, cond-false}
use Rattle.im_base_types.specs.Pages.{Page}
use Rattle.im_base_types.specs.Records.{Checkpoint, Commit, DeleteKey, DummyClr, End, Image, InsertKey, Logged, Smo, UndoDelete, UndoInsert, UndoSmo, Unreadable, What}
use Rattle.im_theory_log.specs.Histories.{Base, History, end_of, page_after, page_at}
use Rattle.im_theory_log.specs.Lawful.{IsLawful, MayCome}
use Rattle.im_theory_log.specs.PageCounts.{named_to, names_page}
use Rattle.im_theory_log.specs.Structure.{settled, taken_back}
use Rattle.im_theory_log.specs.Tree.{Tree}
use Rattle.im_theory_log.proofs.Cited.{has_tree, rises, page_here, page_lsn_up, start_low, finished_tree}
use Rattle.im_theory_switch.specs.Switch.{CountsStayInFile}

-- a record that names a page changes it, or is an Image
names_how : (w : What) → names_page w ≡ true → ((l : ℕ) (g : Page) → (page_after l w g).lsn ≡ l) ⊎ ((c : Page) × (w ≡ Image c))
names_how (InsertKey k i) is = inl (λ l g. refl)
names_how (DeleteKey k i) is = inl (λ l g. refl)
names_how (UndoInsert k i) is = inl (λ l g. refl)
names_how (UndoDelete k i) is = inl (λ l g. refl)
names_how (Smo o n) is = inl (λ l g. refl)
names_how (UndoSmo n) is = inl (λ l g. refl)
names_how (Image c) is = inr (c, refl)
names_how DummyClr is = absurd (cc is)
names_how Commit is = absurd (cc is)
names_how End is = absurd (cc is)
names_how (Checkpoint n a d) is = absurd (cc is)
names_how Unreadable is = absurd (cc is)

-- the greatest page that was named, and that it was changed
record Greatest (b : Base) (log : History) : Type 0 where
  pub page : ℕ
  pub is : page + 1 ≡ named_to log
  pub changed : b.start < (page_at b log page).lsn

module _ (b : Base) (tree : Tree) (r : Logged) (older : History) (law : IsLawful b tree (r ∷ older)) where
  up : (named_to older ≡ 0) ⊎ Greatest b older → named_to (r ∷ older) ≡ named_to older → (named_to (r ∷ older) ≡ 0) ⊎ Greatest b (r ∷ older)
  up (inl none) same = inl (same ∙ none)
  up (inr g) same = inr (record { page = g.page; is = g.is ∙ sym same; changed = (let grown = page_lsn_up b (r ∷ []) older g.page (rises b tree (r ∷ older) law) in let was = g.changed in omega (arith, grown, was)) })

  named : (names_page r.what ≡ true) → (named_to older ≡ 0) ⊎ Greatest b older → (named_to (r ∷ older) ≡ 0) ⊎ Greatest b (r ∷ older)
  named names old =
      let is : named_to (r ∷ older) ≡ max (r.page + 1) (named_to older) = cond-true (names_page r.what) (max (r.page + 1) (named_to older)) (named_to older) names in
      elim (cases_lt r.page (named_to older)) [
        | inl under ↦ up old (omega (arith, is, under))
        | inr over ↦ ⊎_elim
            (λ (changes : (l : ℕ) (g : Page) → (page_after l r.what g).lsn ≡ l).
            inr (record {
              page = r.page;
              is = omega (arith, is, over);
              changed = (
                  let here : (page_at b (r ∷ older) r.page).lsn ≡ r.lsn = ap (λ (g : Page). g.lsn) (page_here b r older r.page refl) ∙ changes r.lsn (page_at b older r.page) in
                  let later : end_of b older < r.lsn = law.1.rises in
                  let low = start_low b older (rises b tree older law.0) in
                  omega (arith, here, later, low));
            }))
            (λ (image : (c : Page) × (r.what ≡ Image c)).
            let may = subst (λ (w : What). MayCome b tree r older w) image.1 law.1.may in
            let low : r.page < named_to older = may.named in
            absurd (omega (arith, low, over)))
            (names_how r.what names)
      ]

greatest : (b : Base) (tree : Tree) (log : History) → IsLawful b tree log → (named_to log ≡ 0) ⊎ Greatest b log
greatest b tree [] law = inl refl
greatest b tree (r ∷ older) law = elim (cases_Bool (names_page r.what)) [
  | inl names ↦ named b tree r older law names (greatest b tree older law.0)
  | inr not ↦ up b tree r older law (greatest b tree older law.0) (cond-false (names_page r.what) (max (r.page + 1) (named_to older)) (named_to older) not)
]

pub counts_stay : (tree : Tree) → CountsStayInFile tree
counts_stay tree b log place many file law all in_file past =
    let shut = (finished_tree tree b log law all).closed in
    let settled_is : (settled b log 0).leftmost ≡ (page_at b log 0).body.leftmost = ap (λ (l : History). (taken_back l 0 (page_at b log 0).body).leftmost) shut in
    let known = (has_tree b tree log law).named in
    let few = within (greatest b tree log law) in
    omega (arith, settled_is, known, few)
  where
    within : (named_to log ≡ 0) ⊎ Greatest b log → named_to log ≤ many
    within (inl none) = omega (arith, none)
    within (inr g) = elim (cases_lt g.page many) [
      | inl under ↦ (let is = g.is in omega (arith, is, under))
      | inr over ↦ (
          let zero_is = past g.page (page_at b log g.page) over (in_file g.page) in
          let some = g.changed in
          absurd (omega (arith, zero_is, some)))
    ]
