-- Records of others keep a structure change under way.
use Rattle.std.proofs.Common.{◌≡◌, ◌≢◌, ℕ, zero, suc, ◌<◌, ◌≤◌, Bool, true, false, List, [], ◌∷◌, length, Some, None, inl, inr, refl, sym, ap, subst, ◌∙◌, arith, ◌==◌}
use Rattle.std.specs.Prelude.{◌||◌}
use Rattle.std.proofs.Math.Path.{fun_ext}
use Rattle.std.proofs.lemmas.Bool.{cases_eq, cond-true, cond-false, eq-eqb, ne_eqb}
use Rattle.im_base_types.specs.Keys.{Key}
use Rattle.im_base_types.specs.Maps.{with_key, without_key}
use Rattle.im_base_types.specs.Pages.{Page, Body, Entry}
use Rattle.im_base_types.specs.Records.{What, InsertKey, DeleteKey, UndoInsert, UndoDelete, Smo, UndoSmo, DummyClr, Commit, End, Image, Checkpoint, Unreadable, Logged}
use Rattle.im_theory_log.specs.Tree.{with_entries}
use Rattle.im_theory_log.specs.Histories.{Base, History, changes_page, end_of, page_after, page_at}
use Rattle.im_theory_log.specs.Lawful.{IsLawful, IsNotIn, MayCome, resumes}
use Rattle.im_theory_log.specs.PageCounts.{count_of}
use Rattle.im_theory_log.specs.Structure.{open_after, open_smo, settled, taken_back}
use Rattle.im_theory_log.specs.Transactions.{is_end, is_finished, last_of, undo_from, undo_next_of}
use Rattle.im_theory_log.proofs.Cited.{has_tree, below_older, no_change, page_other, page_same, named_up, count_more, left_alone}
use Rattle.im_theory_tree.specs.Levels.{Pages}
use Rattle.im_theory_tree.specs.Good.{IsGoodTree}
use Rattle.im_theory_tree.specs.Same.{SameButMark}
use Rattle.im_theory_tree.specs.Search.{IsOnWay}
use Rattle.im_theory_tree.specs.Theory.{page_tree}
use Rattle.im_smo_pages.specs.Images.{Numbered, image_of, image_at, held}
use Rattle.im_theory_tree.specs.Ways.{IsCarried, with_leaf}
use Rattle.im_smo_pages.specs.OnWay.{IsApart}
use Rattle.im_smo_log.specs.Under.{AreLogged, IsUnderWay, is_structural}
use Rattle.im_smo_log.proofs.ImagePlaces.{held_leaf, image_there}
use Rattle.im_theory_tree.proofs.WayBlind.{carried_dropped, carried_put}

-- a record that is none of a structure change leaves the open one as it is
pub open_same : (r : Logged) (w : What) (going : History) → is_structural w ≡ false → open_after r w going ≡ going
open_same r (Smo old new) going plain = absurd (cc plain)
open_same r (UndoSmo new) going plain = absurd (cc plain)
open_same r DummyClr going plain = absurd (cc plain)
open_same r (InsertKey k i) going plain = refl
open_same r (DeleteKey k i) going plain = refl
open_same r (UndoInsert k i) going plain = refl
open_same r (UndoDelete k i) going plain = refl
open_same r Commit going plain = refl
open_same r End going plain = refl
open_same r (Image c) going plain = refl
open_same r (Checkpoint n a d) going plain = refl
open_same r Unreadable going plain = refl

pub logged_wider : (t : ℕ) (images : List Numbered) (l m i : ℕ) (going : History) → l ≤ m → AreLogged t images l i going → AreLogged t images m i going
logged_wider t images l m zero [] up is = tt
logged_wider t images l m zero (s ∷ rest) up is = absurd is
logged_wider t images l m (suc i) [] up is = absurd is
logged_wider t images l m (suc i) (s ∷ rest) up is =
    (is.0, is.1, (let low : s.lsn ≤ l = is.2 in omega (arith, low, up)), logged_wider t images l m i rest up is.3)

-- where undo goes on after the change: a later record of another says nothing of it
resumes_other : (b : Base) (t : ℕ) (images : List Numbered) (i : ℕ) (r : Logged) (older going : History) → r.txn ≢ t → end_of b older < r.lsn → AreLogged t images (end_of b older) i going
    → resumes (r ∷ older) t going ≡ resumes older t going
resumes_other b t images i r older [] other high is = cond-false (r.txn == t) (undo_from r r.what) (undo_next_of t older) (ne_eqb r.txn t other)
resumes_other b t images zero r older (s ∷ rest) other high is = absurd is
resumes_other b t images (suc i) r older (s ∷ []) other high is =
    let low : s.lsn ≤ end_of b older = is.2 in ap (undo_next_of t) (below_older s.lsn r older (omega (arith, low, high)))
resumes_other b t images (suc i) r older (s ∷ u ∷ rest) other high is = resumes_other b t images i r older (u ∷ rest) other high is.3

-- the settled pages after a key record on a page that the open change leaves alone
pub key_pages : (b : Base) (r : Logged) (older : History) (f : List Entry → List Entry) (w : What) → ((l : ℕ) (g : Page) → page_after l w g ≡ record { lsn = l; body = with_entries g.body (f g.body.entries) })
    → open_smo (r ∷ older) ≡ open_smo older → r.what ≡ w → IsNotIn r.page (open_smo older)
    → with_leaf (settled b older) r.page (f (settled b older r.page).entries) ≡ settled b (r ∷ older)
key_pages b r older f w new going is out = fun_ext (λ (p : ℕ). sym (ap (λ (l : History). taken_back l p (page_at b (r ∷ older) p).body) going ∙ (elim (cases_eq r.page p) [
  | inl here ↦
      let made : page_at b (r ∷ older) p ≡ record { lsn = r.lsn; body = with_entries (page_at b older p).body (f (page_at b older p).body.entries) } =
      cond-true (r.page == p) (page_after r.lsn r.what (page_at b older p)) (page_at b older p) (eq-eqb r.page p here) ∙ ap (λ (v : What). page_after r.lsn v (page_at b older p)) is ∙ new r.lsn (page_at b older p) in
      let there : IsNotIn p (open_smo older) = subst (λ (q : ℕ). IsNotIn q (open_smo older)) here out in
      let body : settled b older r.page ≡ (page_at b older p).body = ap (λ (q : ℕ). settled b older q) here ∙ left_alone p (open_smo older) (page_at b older p).body there in
      left_alone p (open_smo older) (page_at b (r ∷ older) p).body there
      ∙ ap (λ (g : Page). g.body) made
      ∙ sym (ap (λ (x : Body). with_entries x (f x.entries)) body)
      ∙ sym (cond-true (r.page == p) _ _ (eq-eqb r.page p here))
  | inr other ↦
      ap (λ (g : Page). taken_back (open_smo older) p g.body) (cond-false (r.page == p) (page_after r.lsn r.what (page_at b older p)) (page_at b older p) (ne_eqb r.page p other))
      ∙ sym (cond-false (r.page == p) _ _ (ne_eqb r.page p other))
])))

module _ (b : Base) (t undo_next : ℕ) (images : List Numbered) (done prev : ℕ) (r : Logged) (older : History) (way : IsUnderWay b t undo_next images done prev older)
    (law : IsLawful b page_tree (r ∷ older)) (other : r.txn ≢ t) (plain : is_structural r.what ≡ false) (apart : changes_page r.what ≡ true → IsApart images r.page) where
  going : open_smo (r ∷ older) ≡ open_smo older
  going = open_same r r.what (open_smo older) plain

  high : end_of b older < r.lsn
  high = law.1.rises

  good : IsGoodTree (settled b older) []
  good = (has_tree b page_tree older law.0).good

  -- a page of the plan is as it was
  page_kept : (p : ℕ) (g : Page) → image_of images p ≡ Some g → page_at b (r ∷ older) p ≡ page_at b older p
  page_kept p g is = by (changes_page r.what) refl
    where
      by : (c : Bool) → changes_page r.what ≡ c → page_at b (r ∷ older) p ≡ page_at b older p
      by true change = page_other b r older p (λ e. (let clash : None ≡ Some g = sym (apart change) ∙ ap (image_of images) e ∙ is in absurd (cc clash)))
      by false change = page_same b r older (λ g. no_change r.lsn r.what g change) p

  -- a record that changes no page
  same_pages : changes_page r.what ≡ false → IsCarried (held (settled b older) images) (settled b (r ∷ older)) (held (settled b (r ∷ older)) images) (IsApart images)
  same_pages change =
      let same : settled b older ≡ settled b (r ∷ older) = fun_ext (λ (p : ℕ). sym (ap (λ (l : History). taken_back l p (page_at b (r ∷ older) p).body) going
      ∙ ap (λ (g : Page). taken_back (open_smo older) p g.body) (page_same b r older (λ g. no_change r.lsn r.what g change) p))) in
      subst (λ (pages : Pages). IsCarried (held (settled b older) images) pages (held pages images) (IsApart images)) same (record { stands = way.stands; ways = λ key x to all. to })

  key_put_on : (k : Key) (i : ℕ) (w : What) → ((l : ℕ) (g : Page) → page_after l w g ≡ record { lsn = l; body = with_entries g.body (with_key k i g.body.entries) }) → r.what ≡ w → IsApart images r.page
      → IsNotIn r.page (open_smo older) → IsOnWay (settled b older) 0 k r.page → IsCarried (held (settled b older) images) (settled b (r ∷ older)) (held (settled b (r ∷ older)) images) (IsApart images)
  key_put_on k i w new is alone out leaf =
      let old : Pages = settled b older in
      subst (λ (pages : Pages). IsCarried (held old images) pages (held pages images) (IsApart images)) (key_pages b r older (with_key k i) w new going is out)
      (subst (λ (pages : Pages). IsCarried (held old images) (with_leaf old r.page (with_key k i (old r.page).entries)) pages (IsApart images)) (held_leaf old images r.page (with_key k i) alone)
      (carried_put old (held old images) (IsApart images) r.page k i good way.stands alone leaf))

  key_dropped_on : (k : Key) (w : What) → ((l : ℕ) (g : Page) → page_after l w g ≡ record { lsn = l; body = with_entries g.body (without_key k g.body.entries) }) → r.what ≡ w → IsApart images r.page
      → IsNotIn r.page (open_smo older) → IsOnWay (settled b older) 0 k r.page → IsCarried (held (settled b older) images) (settled b (r ∷ older)) (held (settled b (r ∷ older)) images) (IsApart images)
  key_dropped_on k w new is alone out leaf =
      let old : Pages = settled b older in
      subst (λ (pages : Pages). IsCarried (held old images) pages (held pages images) (IsApart images)) (key_pages b r older (without_key k) w new going is out)
      (subst (λ (pages : Pages). IsCarried (held old images) (with_leaf old r.page (without_key k (old r.page).entries)) pages (IsApart images)) (held_leaf old images r.page (without_key k) alone)
      (carried_dropped old (held old images) (IsApart images) r.page k good way.stands alone leaf))

  may : (w : What) → r.what ≡ w → MayCome b page_tree r older w
  may w is = subst (λ (v : What). MayCome b page_tree r older v) is law.1.may

  alone_by : (w : What) → r.what ≡ w → changes_page w ≡ true → IsApart images r.page
  alone_by w is change = apart (ap changes_page is ∙ change)

  stands_on : (w : What) → r.what ≡ w → IsCarried (held (settled b older) images) (settled b (r ∷ older)) (held (settled b (r ∷ older)) images) (IsApart images)
  stands_on (InsertKey k i) is = let m = may (InsertKey k i) is in key_put_on k i (InsertKey k i) (λ l g. refl) is (alone_by (InsertKey k i) is refl) m.not_in m.can_put.leaf
  stands_on (UndoDelete k i) is = let m = may (UndoDelete k i) is in key_put_on k i (UndoDelete k i) (λ l g. refl) is (alone_by (UndoDelete k i) is refl) m.not_in m.can_put.leaf
  stands_on (DeleteKey k i) is = let m = may (DeleteKey k i) is in key_dropped_on k (DeleteKey k i) (λ l g. refl) is (alone_by (DeleteKey k i) is refl) m.not_in m.can_drop.leaf
  stands_on (UndoInsert k i) is = let m = may (UndoInsert k i) is in key_dropped_on k (UndoInsert k i) (λ l g. refl) is (alone_by (UndoInsert k i) is refl) m.not_in m.can_drop.leaf
  stands_on (Smo old new) is = absurd (let clash : true ≡ false = sym (ap is_structural is) ∙ plain in cc clash)
  stands_on (UndoSmo new) is = absurd (let clash : true ≡ false = sym (ap is_structural is) ∙ plain in cc clash)
  stands_on DummyClr is = absurd (let clash : true ≡ false = sym (ap is_structural is) ∙ plain in cc clash)
  stands_on Commit is = same_pages (ap changes_page is)
  stands_on End is = same_pages (ap changes_page is)
  stands_on (Image c) is = same_pages (ap changes_page is)
  stands_on (Checkpoint n a d) is = same_pages (ap changes_page is)
  stands_on Unreadable is = same_pages (ap changes_page is)

  -- OTHERS KEEP
  pub others_keep : IsUnderWay b t undo_next images done prev (r ∷ older)
  others_keep = record {
    lawful = law;
    owner = way.owner;
    last = cond-false (r.txn == t) r.lsn (last_of t older) (ne_eqb r.txn t other) ∙ way.last;
    unfinished = cond-false (r.txn == t) (is_end r.what || is_finished t older) (is_finished t older) (ne_eqb r.txn t other) ∙ way.unfinished;
    rising = way.rising;
    within = way.within;
    logged = subst (AreLogged t images (end_of b (r ∷ older)) done) (sym going) (logged_wider t images (end_of b older) r.lsn done (open_smo older) (omega (arith, high)) way.logged);
    made = λ k lt.
        let in_plan : k < length images = (let all = way.within in omega (arith, lt, all)) in
        subst (λ (g : Page). SameButMark (image_at images k).1.body g.body) (sym (page_kept (image_at images k).0 (image_at images k).1 (image_there images k way.rising in_plan))) (way.made k lt);
    leads = ap (resumes (r ∷ older) t) going ∙ resumes_other b t images done r older (open_smo older) other high way.logged ∙ way.leads;
    counted = λ any. (let up = count_more (count_of b) r older in let old = way.counted any in omega (arith, up, old));
    zeroth = way.zeroth;
    named = λ k lt. (let up = named_up r older in let old = way.named k lt in omega (arith, up, old));
    bounded = λ any. (let up = named_up r older in let old = way.bounded any in omega (arith, up, old));
    stands = (stands_on r.what refl).stands;
  }

  -- THE WAYS after the change stay too
  pub ways_keep : (key : Key) (x : ℕ) → IsOnWay (held (settled b older) images) 0 key x → IsOnWay (held (settled b (r ∷ older)) images) 0 key x
  ways_keep key x to = (stands_on r.what refl).ways key x to tt
