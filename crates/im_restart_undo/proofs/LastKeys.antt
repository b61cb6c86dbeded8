-- The last key of a leaf that goes, and the change after it that takes the leaf out of the tree.
use Rattle.std.proofs.Common.{◌≡◌, ℕ, Bool, List, [], ◌∷◌, length, None, Some, inl, inr, sym, ◌∙◌, ap, subst, arith}
use Rattle.std.specs.Prelude.{not, cond, ◌==◌}
use Rattle.std.specs.Ordering.{eq_by_cmp}
use Rattle.std.specs.FinMap.Entries.{find}
use Rattle.std.proofs.Math.Path.{fun_ext}
use Rattle.std.proofs.lemmas.Bool.{cases_Bool, cases_eq, cond-true, cond-false, eq-eqb, ne_eqb}
use Rattle.im_base_types.specs.Keys.{Key, key_order}
use Rattle.im_base_types.specs.Maps.{without_key}
use Rattle.im_base_types.specs.Pages.{Entry, Page}
use Rattle.im_base_types.specs.Records.{What, InsertKey}
use Rattle.im_theory_log.specs.Tree.{with_entries}
use Rattle.im_theory_log.specs.Histories.{Base}
use Rattle.im_theory_log.specs.Lawful.{IsLawful}
use Rattle.im_theory_log.specs.Structure.{settled}
use Rattle.im_theory_log.specs.Writer.{Writer}
use Rattle.im_theory_log.proofs.Cited.{has_tree}
use Rattle.im_base_disk.specs.declared.disk.Disk.{Ghosts}
use Rattle.im_log_record.specs.Entry.{Entry as Said, prev_of}
use Rattle.im_log.specs.Spelled.{logged_at}
use Rattle.im_log.specs.Whats.{what_of}
use Rattle.im_page_writer.specs.declared.page_writer.PageWriter.{PageWriter}
use Rattle.im_page_writer.specs.Outcome.{AllPages}
use Rattle.im_theory_tree.specs.Good.{IsGoodTree}
use Rattle.im_theory_tree.specs.Levels.{Pages}
use Rattle.im_theory_tree.specs.Theory.{page_tree}
use Rattle.im_theory_tree.specs.Ways.{with_leaf}
use Rattle.im_tree_search.specs.Levels.{bodies, bodies_of}
use Rattle.im_smo_pages.specs.Bodies.{says}
use Rattle.im_smo_pages.specs.Images.{Numbered}
use Rattle.im_smo_drop_leaf.specs.Emptied.{emptied}
use Rattle.im_smo_drop_leaf.proofs.PlanWays.{deletion_plans_keep_ways}
use Rattle.im_smo_log.specs.Changes.{MayChange}
use Rattle.im_smo_actions.specs.GoingBeside.{settled_pages}
use Rattle.im_restart_undo.specs.declared.back.Back.TheVariants.{Plain}
use Rattle.im_restart_undo.specs.GoingBeside.{entries_behind, TakenBeside}
use Rattle.im_restart_undo.specs.Planning.{EmptiesLeaf}
use Rattle.im_restart_undo.specs.Undoing.{IsGoing, IsToUndo, ShowsChange}
use Rattle.im_restart_undo.proofs.Closed.{beside_closed}
use Rattle.im_restart_undo.proofs.Shown.{settled_has, settled_shows}
use Rattle.im_restart_undo.proofs.StructureChanges.{may_change, settled_here}

-- a list of one entry, without that entry's key
none_left : (k : Key) (i : ℕ) (es : List Entry) → length es ≡ 1 → find key_order k es ≡ Some i → without_key k es ≡ []
none_left k i [] one has = absurd (let clash : None ≡ Some i = has in cc clash)
none_left k i (e ∷ []) one has = elim (cases_Bool (eq_by_cmp key_order k e.0)) [
  | inl is ↦ ap (λ (x : Bool). cond (not x) (e ∷ []) []) is
  | inr other ↦ (let clash : None ≡ Some i = sym (ap (λ (x : Bool). cond x (Some e.1) None) other) ∙ has in absurd (cc clash))
]
none_left k i (e ∷ f ∷ es) one has = absurd (omega (arith, one))

-- the pages of which one has no entries
emptied_is : (pages : AllPages) (p : ℕ) (es : List Entry) → es ≡ [] → with_leaf (bodies_of pages) p es ≡ bodies_of (emptied pages p)
emptied_is pages p es none = fun_ext (λ (q : ℕ). elim (cases_eq p q) [
  | inl here ↦
      cond-true (p == q) (with_entries (bodies_of pages p) es) (bodies_of pages q) (eq-eqb p q here)
      ∙ ap (λ (x : List Entry). with_entries (bodies_of pages p) x) none
      ∙ ap (λ (x : ℕ). with_entries (bodies_of pages x) []) here
      ∙ sym (ap (λ (g : Page). g.body) (cond-true (p == q) (says (pages q) (with_entries (bodies_of pages q) [])) (pages q) (eq-eqb p q here)))
  | inr other ↦
      cond-false (p == q) (with_entries (bodies_of pages p) es) (bodies_of pages q) (ne_eqb p q other)
      ∙ sym (ap (λ (g : Page). g.body) (cond-false (p == q) (says (pages q) (with_entries (bodies_of pages q) [])) (pages q) (ne_eqb p q other)))
])

module _ {D : Type 0} (d : Ghosts D) (b : Base) (base : ℕ) where
  module _ (s : Writer) (e t : ℕ) (old : D) (law : IsLawful b page_tree s.log) (said : Said) (to : IsToUndo d b base s t said) (key : Key) (rid : ℕ) (same : what_of said ≡ InsertKey key rid) (p : ℕ) (images : List Numbered)
      (leaf : EmptiesLeaf (settled_pages b s) key p images) (l : ℕ) (v : PageWriter) (mid : D) (taken : TakenBeside d b base s e t said (Plain p) l old v mid) where
    -- the leaf has the key
    has_key : find key_order key (settled b s.log p).entries ≡ Some rid
    has_key = settled_has b s.log law key p leaf.leaf ∙ subst (λ (w : What). ShowsChange (settled b s.log) w) same (settled_shows b s.log law t (logged_at to.lsn said) to.next)

    -- after the compensation it has none
    pub emptied_behind : settled b taken.now.log ≡ bodies_of (emptied (settled_pages b s) p)
    emptied_behind =
        sym taken.pages
        ∙ ap (λ (w : What). with_leaf (settled b s.log) p (entries_behind w (settled b s.log p).entries)) same
        ∙ emptied_is (settled_pages b s) p (without_key key (settled b s.log p).entries) (none_left key rid (settled b s.log p).entries leaf.one has_key)

  module _ (s : Writer) (e t last undo_next : ℕ) (start : PageWriter) (old : D) (g : IsGoing d b base s e t last undo_next start old) (said : Said) (to : IsToUndo d b base s t said)
      (key : Key) (rid : ℕ) (same : what_of said ≡ InsertKey key rid) (p : ℕ) (images : List Numbered) (leaf : EmptiesLeaf (settled_pages b s) key p images)
      (l : ℕ) (v : PageWriter) (mid : D) (taken : TakenBeside d b base s e t said (Plain p) l old v mid) where
    pub going_behind : IsGoing d b base taken.now e t l (prev_of said) v mid
    going_behind = beside_closed d b base taken.now e t l (prev_of said) v mid (taken.going_on ∙ g.can.closed) taken.going

    empty_here : bodies taken.now ≡ bodies_of (emptied (settled_pages b s) p)
    empty_here = settled_here d b base taken.now e t l (prev_of said) v mid going_behind ∙ emptied_behind s e t old g.can.lawful said to key rid same p images leaf l v mid taken

    pub may_empty : MayChange d b base taken.now e images t l (prev_of said) v mid
    may_empty = may_change d b base taken.now e t l (prev_of said) v mid going_behind (emptied (settled_pages b s) p) images empty_here leaf.plan.some leaf.plan.good leaf.plan.same
        (deletion_plans_keep_ways (emptied (settled_pages b s) p) p images
        (subst (λ (f : Pages). IsGoodTree f []) (emptied_behind s e t old g.can.lawful said to key rid same p images leaf l v mid taken) (has_tree b page_tree taken.now.log taken.going.lawful).good) leaf.plan)
