-- A lawful log with one record more.
use Rattle.std.proofs.Common.{◌≡◌, inl, inr, ℕ, List, [], ◌∷◌, refl, sym, ◌∙◌, ap, subst}
use Rattle.std.specs.Prelude.{◌==◌, ◌≤◌, max}
use Rattle.std.specs.Cmp.Lexicographic.{nat_list_cmp_total}
use Rattle.std.specs.FinMap.{insert, remove, entries, entries-insert}
use Rattle.std.proofs.lemmas.Bool.{cases_eq, eq-eqb, ne_eqb, cond-true, cond-false}
use Rattle.im_base_types.specs.declared.tables.ActiveTransaction.{ActiveTransaction}
use Rattle.im_base_types.specs.declared.tables.DirtyPage.{DirtyPage}
use Rattle.im_theory_log.specs.Histories.{Base, History, page_after, page_at}
use Rattle.im_base_types.specs.Keys.{Key}
use Rattle.im_theory_log.specs.Lawful.{Follows, HasTree, IsLawful, IsNotIn, MayCome}
use Rattle.im_base_types.specs.Maps.{IndexMap, with_key, without_key}
use Rattle.im_base_types.specs.Pages.{Body, Entry, Page}
use Rattle.im_base_types.specs.Records.{Checkpoint, Commit, DeleteKey, DummyClr, End, Image, InsertKey, Logged, Smo, UndoDelete, UndoInsert, UndoSmo, What}
use Rattle.im_theory_log.specs.PageCounts.{count_of, named_to}
use Rattle.im_theory_log.specs.Structure.{body_before, open_after, open_smo, settled, taken_back}
use Rattle.im_theory_log.specs.Transactions.{contents, contents_after}
use Rattle.im_theory_log.specs.Tree.{Tree, TreeLaws, with_body, with_entries}
use Rattle.im_theory_log.proofs.Fronts.{has_tree}
use Rattle.im_theory_log.proofs.Histories.{page_same}
use Rattle.im_base_types.proofs.Maps.{entries_drop}
use Rattle.im_theory_log.proofs.Named.{still_named}
use Rattle.im_theory_log.proofs.OpenSmo.{IsOpenSmo, is_open_smo}
use Rattle.im_theory_log.proofs.Settled.{settled_smo, settled_undo_smo, tree_same}

pub left_alone : (p : ℕ) (going : History) (now : Body) → IsNotIn p going → taken_back going p now ≡ now
left_alone p [] now out = refl
left_alone p (s ∷ rest) now out = cond-false (s.page == p) (body_before s.what now) (taken_back rest p now) (ne_eqb s.page p out.0) ∙ left_alone p rest now out.1

module _ (b : Base) (tree : Tree) (older : History) (r : Logged) (law : IsLawful b tree older) (follows : Follows b tree r older) where
  -- with the tree that it then stands for
  pub lawful_more : HasTree b tree (r ∷ older) → IsLawful b tree (r ∷ older)
  lawful_more s = (law, follows, s)

  -- Commit, End, Image, Checkpoint: nothing more is asked
  pub plain : (w : What) → r.what ≡ w → ((l : ℕ) (p : Page) → page_after l w p ≡ p) → ((going : History) → open_after r w going ≡ going) → ((m : IndexMap) → contents_after w m ≡ m) → IsLawful b tree (r ∷ older)
  plain w is pages smo map =
      let pages_r : (p : Page) → page_after r.lsn r.what p ≡ p = λ p. ap (λ (v : What). page_after r.lsn v p) is ∙ pages r.lsn p in
      let going : open_smo (r ∷ older) ≡ open_smo older = ap (λ (v : What). open_after r v (open_smo older)) is ∙ smo (open_smo older) in
      lawful_more (tree_same b tree r older
      (λ p. ap (λ (l : History). taken_back l p (page_at b (r ∷ older) p).body) going ∙ ap (λ (g : Page). taken_back (open_smo older) p g.body) (page_same b r older pages_r p))
      (ap (λ (v : What). contents_after v (contents b older)) is ∙ map (contents b older))
      (has_tree b tree older law))

  pub append_commit : r.what ≡ Commit → IsLawful b tree (r ∷ older)
  append_commit is = plain Commit is (λ l p. refl) (λ going. refl) (λ m. refl)

  pub append_end : r.what ≡ End → IsLawful b tree (r ∷ older)
  append_end is = plain End is (λ l p. refl) (λ going. refl) (λ m. refl)

  pub append_image : (c : Page) → r.what ≡ Image c → IsLawful b tree (r ∷ older)
  append_image c is = plain (Image c) is (λ l p. refl) (λ going. refl) (λ m. refl)

  -- an Smo record: its page is taken back, so the tree is as before
  pub append_smo : (was now : Body) → r.what ≡ Smo was now → IsLawful b tree (r ∷ older)
  append_smo was now is =
      let may = subst (λ (w : What). MayCome b tree r older w) is follows.may in
      lawful_more (tree_same b tree r older (settled_smo b r older was now is may.new_in may.before) (ap (λ (w : What). contents_after w (contents b older)) is) (has_tree b tree older law))

  -- the record that closes a structure change: the tree that the pages now are is good, and has the same walk
  pub append_dummy : r.what ≡ DummyClr → tree.Good (λ p. (page_at b older p).body) → tree.walk (λ p. (page_at b older p).body) ≡ tree.walk (settled b older)
      → (page_at b older 0).body.leftmost ≤ max (count_of b) (named_to older) → IsLawful b tree (r ∷ older)
  append_dummy is good walk named =
      let shut : open_smo (r ∷ older) ≡ [] = ap (λ (w : What). open_after r w (open_smo older)) is in
      let same : (p : ℕ) → settled b (r ∷ older) p ≡ (page_at b older p).body = λ p.
      ap (λ (l : History). taken_back l p (page_at b (r ∷ older) p).body) shut ∙ ap (λ (g : Page). g.body) (page_same b r older (λ g. ap (λ (w : What). page_after r.lsn w g) is) p) in
      let as_pages : (λ p. (page_at b older p).body) ≡ settled b (r ∷ older) = λ i p. sym (same p) i in
      lawful_more (record {
        good = subst (λ (f : ℕ → Body). tree.Good f) as_pages good;
        walk = ap (λ (f : ℕ → Body). tree.walk f) (sym as_pages) ∙ walk ∙ (has_tree b tree older law).walk ∙ sym (ap (λ (w : What). entries (contents_after w (contents b older))) is);
        named = still_named b r older (settled b (r ∷ older) 0).leftmost (page_at b older 0).body.leftmost (ap (λ (x : Body). x.leftmost) (same 0)) named;
      })

  pub append_checkpoint : (n : ℕ) (a : List ActiveTransaction) (d : List DirtyPage) → r.what ≡ Checkpoint n a d → IsLawful b tree (r ∷ older)
  append_checkpoint n a d is = plain (Checkpoint n a d) is (λ l p. refl) (λ going. refl) (λ m. refl)

  -- the newest Smo record undone: its page is what it was taken back to
  pub append_undo_smo : (now : Body) → r.what ≡ UndoSmo now → IsLawful b tree (r ∷ older)
  append_undo_smo now is =
      let may = subst (λ (w : What). MayCome b tree r older w) is follows.may in
      let u = may.undoes in
      let going : open_smo older ≡ u.undone ∷ may.rest = may.going in
      let ok = subst (λ (l : History). IsOpenSmo l) going (is_open_smo b tree older law) in
      lawful_more (tree_same b tree r older (settled_undo_smo b r u.undone older may.rest now u.inverse.0 is going u.inverse.1 may.page ok.1) (ap (λ (w : What). contents_after w (contents b older)) is) (has_tree b tree older law))

  -- a key record on a page that the open structure change, if there is one, leaves alone
  key_pages : (f : List Entry → List Entry) (w : What) → ((l : ℕ) (g : Page) → page_after l w g ≡ record { lsn = l; body = with_entries g.body (f g.body.entries) })
      → ((going : History) → open_after r w going ≡ going) → r.what ≡ w → IsNotIn r.page (open_smo older)
      → with_body (settled b older) r.page (with_entries (settled b older r.page) (f (settled b older r.page).entries)) ≡ settled b (r ∷ older)
  key_pages f w new smo is out j p = sym (each p) j
    where
      going : open_smo (r ∷ older) ≡ open_smo older
      going = ap (λ (v : What). open_after r v (open_smo older)) is ∙ smo (open_smo older)

      each : (p : ℕ) → settled b (r ∷ older) p ≡ with_body (settled b older) r.page (with_entries (settled b older r.page) (f (settled b older r.page).entries)) p
      each p = ap (λ (l : History). taken_back l p (page_at b (r ∷ older) p).body) going ∙ elim (cases_eq r.page p) [
        | inl here ↦
            let made : page_at b (r ∷ older) p ≡ record { lsn = r.lsn; body = with_entries (page_at b older p).body (f (page_at b older p).body.entries) } =
            cond-true (r.page == p) (page_after r.lsn r.what (page_at b older p)) (page_at b older p) (eq-eqb r.page p here) ∙ ap (λ (v : What). page_after r.lsn v (page_at b older p)) is ∙ new r.lsn (page_at b older p) in
            let there : IsNotIn p (open_smo older) = subst (λ (q : ℕ). IsNotIn q (open_smo older)) here out in
            let body : settled b older r.page ≡ (page_at b older p).body = ap (λ (q : ℕ). settled b older q) here ∙ left_alone p (open_smo older) (page_at b older p).body there in
            left_alone p (open_smo older) (page_at b (r ∷ older) p).body there
            ∙ ap (λ (g : Page). g.body) made
            ∙ sym (ap (λ (x : Body). with_entries x (f x.entries)) body)
            ∙ sym (cond-true (r.page == p) _ _ (eq-eqb r.page p here))
        | inr other ↦
            ap (λ (g : Page). taken_back (open_smo older) p g.body) (cond-false (r.page == p) (page_after r.lsn r.what (page_at b older p)) (page_at b older p) (ne_eqb r.page p other))
            ∙ sym (cond-false (r.page == p) _ _ (ne_eqb r.page p other))
      ]

  -- a key record leaves the count that page 0 says
  entries_count : (f : List Entry → List Entry) → with_body (settled b older) r.page (with_entries (settled b older r.page) (f (settled b older r.page).entries)) ≡ settled b (r ∷ older)
      → (settled b (r ∷ older) 0).leftmost ≡ (settled b older 0).leftmost
  entries_count f pages = ap (λ (g : ℕ → Body). (g 0).leftmost) (sym pages) ∙ elim (cases_eq r.page 0) [
    | inl here ↦ ap (λ (x : Body). x.leftmost) (cond-true (r.page == 0) (with_entries (settled b older r.page) (f (settled b older r.page).entries)) (settled b older 0) (eq-eqb r.page 0 here)) ∙ ap (λ (q : ℕ). (settled b older q).leftmost) here
    | inr other ↦ ap (λ (x : Body). x.leftmost) (cond-false (r.page == 0) (with_entries (settled b older r.page) (f (settled b older r.page).entries)) (settled b older 0) (ne_eqb r.page 0 other))
  ]

  puts : TreeLaws tree → (k : Key) (i : ℕ) (w : What) → ((l : ℕ) (g : Page) → page_after l w g ≡ record { lsn = l; body = with_entries g.body (with_key k i g.body.entries) })
      → ((going : History) → open_after r w going ≡ going) → contents_after w (contents b older) ≡ insert (contents b older) k i → r.what ≡ w → IsNotIn r.page (open_smo older) → tree.CanPut (settled b older) r.page k i → IsLawful b tree (r ∷ older)
  puts laws k i w new smo map is out can =
      let pages = key_pages (λ es. with_key k i es) w new smo is out in
      let old = has_tree b tree older law in
      lawful_more (record {
        good = subst (λ (f : ℕ → Body). tree.Good f) pages (laws.put_good (settled b older) r.page k i old.good can);
        walk = ap (λ (f : ℕ → Body). tree.walk f) (sym pages) ∙ laws.put_walk (settled b older) r.page k i old.good can
            ∙ ap (λ (es : List Entry). with_key k i es) old.walk ∙ sym (entries-insert nat_list_cmp_total (contents b older) k i)
            ∙ sym (ap (λ (m : IndexMap). entries m) (ap (λ (v : What). contents_after v (contents b older)) is ∙ map));
        named = still_named b r older (settled b (r ∷ older) 0).leftmost (settled b older 0).leftmost (entries_count (λ es. with_key k i es) pages) old.named;
      })

  drops : TreeLaws tree → (k : Key) (i : ℕ) (w : What) → ((l : ℕ) (g : Page) → page_after l w g ≡ record { lsn = l; body = with_entries g.body (without_key k g.body.entries) })
      → ((going : History) → open_after r w going ≡ going) → contents_after w (contents b older) ≡ remove (contents b older) k → r.what ≡ w → IsNotIn r.page (open_smo older) → tree.CanDrop (settled b older) r.page k i → IsLawful b tree (r ∷ older)
  drops laws k i w new smo map is out can =
      let pages = key_pages (λ es. without_key k es) w new smo is out in
      let old = has_tree b tree older law in
      lawful_more (record {
        good = subst (λ (f : ℕ → Body). tree.Good f) pages (laws.drop_good (settled b older) r.page k i old.good can);
        walk = ap (λ (f : ℕ → Body). tree.walk f) (sym pages) ∙ laws.drop_walk (settled b older) r.page k i old.good can
            ∙ ap (λ (es : List Entry). without_key k es) old.walk ∙ sym (entries_drop (contents b older) k)
            ∙ sym (ap (λ (m : IndexMap). entries m) (ap (λ (v : What). contents_after v (contents b older)) is ∙ map));
        named = still_named b r older (settled b (r ∷ older) 0).leftmost (settled b older 0).leftmost (entries_count (λ es. without_key k es) pages) old.named;
      })

  pub append_insert : TreeLaws tree → (k : Key) (i : ℕ) → r.what ≡ InsertKey k i → IsLawful b tree (r ∷ older)
  append_insert laws k i is = puts laws k i (InsertKey k i) (λ l g. refl) (λ going. refl) refl is (subst (λ (w : What). MayCome b tree r older w) is follows.may).not_in (subst (λ (w : What). MayCome b tree r older w) is follows.may).can_put

  pub append_delete : TreeLaws tree → (k : Key) (i : ℕ) → r.what ≡ DeleteKey k i → IsLawful b tree (r ∷ older)
  append_delete laws k i is = drops laws k i (DeleteKey k i) (λ l g. refl) (λ going. refl) refl is (subst (λ (w : What). MayCome b tree r older w) is follows.may).not_in (subst (λ (w : What). MayCome b tree r older w) is follows.may).can_drop

  pub append_undo_insert : TreeLaws tree → (k : Key) (i : ℕ) → r.what ≡ UndoInsert k i → IsLawful b tree (r ∷ older)
  append_undo_insert laws k i is = drops laws k i (UndoInsert k i) (λ l g. refl) (λ going. refl) refl is (subst (λ (w : What). MayCome b tree r older w) is follows.may).not_in (subst (λ (w : What). MayCome b tree r older w) is follows.may).can_drop

  pub append_undo_delete : TreeLaws tree → (k : Key) (i : ℕ) → r.what ≡ UndoDelete k i → IsLawful b tree (r ∷ older)
  append_undo_delete laws k i is = puts laws k i (UndoDelete k i) (λ l g. refl) (λ going. refl) refl is (subst (λ (w : What). MayCome b tree r older w) is follows.may).not_in (subst (λ (w : What). MayCome b tree r older w) is follows.may).can_put
