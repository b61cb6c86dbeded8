-- What records on top leave of transactions.
use Rattle.std.proofs.Common.{◌≡◌, ◌≢◌, ◌≤◌, ◌<◌, inl, inr, ℕ, true, false, Bool, List, [], ◌∷◌, ◌++◌, refl, sym, ◌∙◌, ap, subst, arith}
use Rattle.std.specs.Prelude.{◌==◌, ◌||◌, if◌then◌else◌}
use Rattle.std.proofs.lemmas.Bool.{eq-eqb, ne_eqb, cond-true, cond-false, cases_eq}
use Rattle.im_base_types.specs.Maps.{IndexMap}
use Rattle.im_base_types.specs.Changes.{Effect}
use Rattle.im_base_types.specs.Records.{What, InsertKey, DeleteKey, UndoInsert, UndoDelete, Smo, UndoSmo, DummyClr, Commit, End, Image, Checkpoint, Unreadable, Logged}
use Rattle.im_theory_log.specs.Tree.{Tree}
use Rattle.im_theory_log.specs.Histories.{History, Base, Rises, end_of, page_after}
use Rattle.im_theory_log.specs.Structure.{open_after, open_smo}
use Rattle.im_theory_log.specs.Copies as copies
use Rattle.im_theory_log.specs.Lawful.{IsLawful, MayCome, has_owner}
use Rattle.im_theory_log.proofs.Cited.{append_checkpoint, page_same, images_open, lawful_images}
use Rattle.im_theory_log.specs.Transactions.{committed, committed_after, contents, contents_after, net, change_of, changes_of, without_smo, is_smo, last_of, undo_next_of, undo_from, to_undo, stack_after, is_finished, is_end}
use Rattle.im_theory_steps.specs.Growth.{Stays, SaysSameOf, HasNone, IsImageRecord, IsCheckpoint, IsUnowned, IsWithin, AreWithin, AreImageRecords, AreUnowned, GrowthWithinLeavesOthers, ImagesChangeNothing, UnownedChangeNothing, CheckpointsChangeNothing, AreBelow, AreStructural, CopiesAreImages, IsRestructured, IsStructural, NumbersStayNew, StructureChangesNoKey, is_structural}

-- ---- one record

-- a record of another
pub same_by : (u : ℕ) (r : Logged) (older : History) → r.txn ≢ u → SaysSameOf u older (r ∷ older)
same_by u r older other = record {
  last = λ le. cond-false (r.txn == u) r.lsn (last_of u older) (ne_eqb r.txn u other);
  undo = λ le. cond-false (r.txn == u) (undo_from r r.what) (undo_next_of u older) (ne_eqb r.txn u other);
  finished = cond-false (r.txn == u) (is_end r.what || is_finished u older) (is_finished u older) (ne_eqb r.txn u other);
  stack = cond-false (r.txn == u) (stack_after r r.what (to_undo u older)) (to_undo u older) (ne_eqb r.txn u other);
}

either_way : {A : Type 0} (b : Bool) (x y : A) → x ≡ y → (if b then x else y) ≡ y
either_way true x y e = e
either_way false x y e = refl

-- ---- a record that says nothing of any transaction or key

pub record SaysNothing (r : Logged) : Type 0 where
  pub no_owner : r.txn ≡ 0
  pub end : is_end r.what ≡ false
  pub stack : (rest : History) → stack_after r r.what rest ≡ rest
  pub commits : (e : Effect) (es : List Effect) → committed_after r.what e es ≡ es
  pub walk : (m : IndexMap) → contents_after r.what m ≡ m

pub image_says_nothing : (r : Logged) → IsImageRecord r → SaysNothing r
image_says_nothing r image = record {
  no_owner = image.no_owner;
  end = ap is_end image.what;
  stack = λ rest. ap (λ (w : What). stack_after r w rest) image.what;
  commits = λ e es. ap (λ (w : What). committed_after w e es) image.what;
  walk = λ m. ap (λ (w : What). contents_after w m) image.what;
}

pub checkpoint_says_nothing : (r : Logged) → IsCheckpoint r → SaysNothing r
checkpoint_says_nothing r is = record {
  no_owner = is.no_owner;
  end = ap is_end is.what;
  stack = λ rest. ap (λ (w : What). stack_after r w rest) is.what;
  commits = λ e es. ap (λ (w : What). committed_after w e es) is.what;
  walk = λ m. ap (λ (w : What). contents_after w m) is.what;
}

unowned_says_nothing : (r : Logged) → IsUnowned r → SaysNothing r
unowned_says_nothing r (inl image) = image_says_nothing r image
unowned_says_nothing r (inr is) = checkpoint_says_nothing r is

pub same_by_none : (u : ℕ) (r : Logged) (older : History) → SaysNothing r → SaysSameOf u older (r ∷ older)
same_by_none u r older says = record {
  last = λ le. cond-false (r.txn == u) r.lsn (last_of u older) (ne_eqb r.txn u (other le));
  undo = λ le. cond-false (r.txn == u) (undo_from r r.what) (undo_next_of u older) (ne_eqb r.txn u (other le));
  finished = either_way (r.txn == u) (is_end r.what || is_finished u older) (is_finished u older) (ap (λ (x : Bool). x || is_finished u older) says.end);
  stack = either_way (r.txn == u) (stack_after r r.what (to_undo u older)) (to_undo u older) (says.stack (to_undo u older));
}
  where
    other : 1 ≤ u → r.txn ≡ u → ⊥
    other le e = let zero_is : r.txn ≡ 0 = says.no_owner in omega (arith, le, e, zero_is)

pub same_by_image : (u : ℕ) (r : Logged) (older : History) → IsImageRecord r → SaysSameOf u older (r ∷ older)
same_by_image u r older image = same_by_none u r older (image_says_nothing r image)

-- ---- one after another

pub same_then : (u : ℕ) (a b c : History) → SaysSameOf u a b → SaysSameOf u b c → SaysSameOf u a c
same_then u a b c one two = record {
  last = λ le. two.last le ∙ one.last le;
  undo = λ le. two.undo le ∙ one.undo le;
  finished = two.finished ∙ one.finished;
  stack = two.stack ∙ one.stack;
}

pub same_here : (u : ℕ) (log : History) → SaysSameOf u log log
same_here u log = record { last = λ le. refl; undo = λ le. refl; finished = refl; stack = refl }

within_same : (t u : ℕ) (more older : History) → u ≢ t → AreWithin t more → SaysSameOf u older (more ++ older)
within_same t u [] older differ all = same_here u older
within_same t u (r ∷ more) older differ all = same_then u older (more ++ older) (r ∷ (more ++ older)) (within_same t u more older differ all.1) (step all.0)
  where
    step : IsWithin t r → SaysSameOf u (more ++ older) (r ∷ (more ++ older))
    step (inl image) = same_by_image u r (more ++ older) image
    step (inr own) = same_by u r (more ++ older) (λ e. differ (sym e ∙ own.0))

uncommitted : (w : What) (e : Effect) (es : List Effect) → is_end w ≡ false → committed_after w e es ≡ es
uncommitted Commit e es is = absurd cc
uncommitted (InsertKey k i) e es is = refl
uncommitted (DeleteKey k i) e es is = refl
uncommitted (UndoInsert k i) e es is = refl
uncommitted (UndoDelete k i) e es is = refl
uncommitted (Smo old new) e es is = refl
uncommitted (UndoSmo new) e es is = refl
uncommitted DummyClr e es is = refl
uncommitted End e es is = refl
uncommitted (Image c) e es is = refl
uncommitted (Checkpoint n a d) e es is = refl
uncommitted Unreadable e es is = refl

within_committed : (t : ℕ) (more older : History) → AreWithin t more → committed (more ++ older) ≡ committed older
within_committed t [] older all = refl
within_committed t (r ∷ more) older all = uncommitted r.what (net r.txn (more ++ older)) (committed (more ++ older)) (no_end all.0) ∙ within_committed t more older all.1
  where
    no_end : IsWithin t r → is_end r.what ≡ false
    no_end (inl image) = ap is_end image.what
    no_end (inr own) = own.1

pub within_leaves_others : GrowthWithinLeavesOthers
within_leaves_others t older longer grows = (
  λ u differ. subst (λ (l : History). SaysSameOf u older l) grows.is (within_same t u grows.more older differ grows.within),
  subst (λ (l : History). committed l ≡ committed older) grows.is (within_committed t grows.more older grows.within),
)

-- ---- Images and Checkpoints

unowned_same : (u : ℕ) (more older : History) → AreUnowned more → SaysSameOf u older (more ++ older)
unowned_same u [] older all = same_here u older
unowned_same u (r ∷ more) older all = same_then u older (more ++ older) (r ∷ (more ++ older)) (unowned_same u more older all.1) (same_by_none u r (more ++ older) (unowned_says_nothing r all.0))

unowned_stay : (b : Base) (more older : History) → AreUnowned more → Stays b older (more ++ older)
unowned_stay b [] older all = record { commits = refl; walk = refl; nets = λ t. refl }
unowned_stay b (r ∷ more) older all =
    let rest = unowned_stay b more older all.1 in
    let says = unowned_says_nothing r all.0 in
    record {
      commits = says.commits (net r.txn (more ++ older)) (committed (more ++ older)) ∙ rest.commits;
      walk = says.walk (contents b (more ++ older)) ∙ rest.walk;
      nets = λ t. ap changes_of (same_by_none t r (more ++ older) says).stack ∙ rest.nets t;
    }

pub unowned_change_nothing : UnownedChangeNothing
unowned_change_nothing b older longer grows = (
  subst (λ (l : History). Stays b older l) grows.is (unowned_stay b grows.more older grows.unowned),
  λ u. subst (λ (l : History). SaysSameOf u older l) grows.is (unowned_same u grows.more older grows.unowned),
)

images_unowned : (more : History) → AreImageRecords more → AreUnowned more
images_unowned [] all = tt
images_unowned (r ∷ more) all = (inl all.0, images_unowned more all.1)

pub images_change_nothing : ImagesChangeNothing
images_change_nothing b older longer grows = unowned_change_nothing b older longer (record { more = grows.more; is = grows.is; unowned = images_unowned grows.more grows.images })

-- what the record of a Checkpoint leaves
pub checkpoints_change_nothing : (tree : Tree) → CheckpointsChangeNothing tree
checkpoints_change_nothing tree b r older is rises =
    let same = unowned_change_nothing b older (r ∷ older) (record { more = r ∷ []; is = refl; unowned = (inr is, tt) }) in
    record {
      stays = same.0;
      all = same.1;
      lawful = λ law. append_checkpoint b tree older r law
          (record {
            rises = rises;
            chained = λ owned. absurd (let t : false ≡ true = sym (ap has_owner is.what) ∙ owned in cc t);
            may = subst (λ (w : What). MayCome b tree r older w) (sym is.what) is.no_owner;
          })
          is.next is.active is.dirty is.what;
      opened = ap (λ (w : What). open_after r w (open_smo older)) is.what;
      pages = page_same b r older (λ g. ap (λ (w : What). page_after r.lsn w g) is.what);
      below = λ next one under. (let zero_is : r.txn ≡ 0 = is.no_owner in omega (arith, zero_is, one), under);
    }

-- ---- a transaction without a record

module _ (t : ℕ) where
  pub none_last : (log : History) → HasNone t log → last_of t log ≡ 0
  none_last [] h = refl
  none_last (r ∷ older) h = cond-false (r.txn == t) r.lsn (last_of t older) (ne_eqb r.txn t h.0) ∙ none_last older h.1

  pub none_undo : (log : History) → HasNone t log → undo_next_of t log ≡ 0
  none_undo [] h = refl
  none_undo (r ∷ older) h = cond-false (r.txn == t) (undo_from r r.what) (undo_next_of t older) (ne_eqb r.txn t h.0) ∙ none_undo older h.1

  pub none_finished : (log : History) → HasNone t log → is_finished t log ≡ false
  none_finished [] h = refl
  none_finished (r ∷ older) h = cond-false (r.txn == t) (is_end r.what || is_finished t older) (is_finished t older) (ne_eqb r.txn t h.0) ∙ none_finished older h.1

  pub none_to_undo : (log : History) → HasNone t log → to_undo t log ≡ []
  none_to_undo [] h = refl
  none_to_undo (r ∷ older) h = cond-false (r.txn == t) (stack_after r r.what (to_undo t older)) (to_undo t older) (ne_eqb r.txn t h.0) ∙ none_to_undo older h.1

-- LSNs are above 0, so one whose last is 0 has no record, and nothing to undo
pub unlogged : (b : Base) (t : ℕ) (log : History) → Rises b log → last_of t log ≡ 0 → to_undo t log ≡ []
unlogged b t [] rises none = refl
unlogged b t (r ∷ older) rises none = elim (cases_eq r.txn t) [
  | inl is ↦
      let zero_is : r.lsn ≡ 0 = sym (cond-true (r.txn == t) r.lsn (last_of t older) (eq-eqb r.txn t is)) ∙ none in
      let above : end_of b older < r.lsn = rises.1 in
      absurd (omega (arith, zero_is, above))
  | inr other ↦
      cond-false (r.txn == t) (stack_after r r.what (to_undo t older)) (to_undo t older) (ne_eqb r.txn t other)
      ∙ unlogged b t older rises.0 (sym (cond-false (r.txn == t) r.lsn (last_of t older) (ne_eqb r.txn t other)) ∙ none)
]

-- ---- structure changes

pub stays_then : (b : Base) (one two three : History) → Stays b one two → Stays b two three → Stays b one three
stays_then b one two three first second = record { commits = second.commits ∙ first.commits; walk = second.walk ∙ first.walk; nets = λ u. second.nets u ∙ first.nets u }

-- what such a record is to the words of transactions
structural_walk : (w : What) (m : IndexMap) → is_structural w ≡ true → contents_after w m ≡ m
structural_walk (Smo old new) m is = refl
structural_walk DummyClr m is = refl
structural_walk (InsertKey k i) m is = absurd cc
structural_walk (DeleteKey k i) m is = absurd cc
structural_walk (UndoInsert k i) m is = absurd cc
structural_walk (UndoDelete k i) m is = absurd cc
structural_walk (UndoSmo new) m is = absurd cc
structural_walk Commit m is = absurd cc
structural_walk End m is = absurd cc
structural_walk (Image c) m is = absurd cc
structural_walk (Checkpoint n a d) m is = absurd cc
structural_walk Unreadable m is = absurd cc

structural_end : (w : What) → is_structural w ≡ true → is_end w ≡ false
structural_end (Smo old new) is = refl
structural_end DummyClr is = refl
structural_end (InsertKey k i) is = refl
structural_end (DeleteKey k i) is = refl
structural_end (UndoInsert k i) is = refl
structural_end (UndoDelete k i) is = refl
structural_end (UndoSmo new) is = refl
structural_end Commit is = absurd cc
structural_end End is = absurd cc
structural_end (Image c) is = refl
structural_end (Checkpoint n a d) is = refl
structural_end Unreadable is = refl

no_change : (w : What) → is_smo w ≡ true → change_of w ≡ []
no_change (Smo old new) is = refl
no_change (InsertKey k i) is = absurd cc
no_change (DeleteKey k i) is = absurd cc
no_change w is = refl

closed_net : (stack : History) → changes_of (without_smo stack) ≡ changes_of stack
closed_net [] = refl
closed_net (x ∷ rest) = by (is_smo x.what) refl (closed_net rest)
  where
    by : (is : Bool) → is_smo x.what ≡ is → changes_of (without_smo rest) ≡ changes_of rest → changes_of (if is_smo x.what then without_smo rest else x ∷ rest) ≡ changes_of (x ∷ rest)
    by true is below = ap (λ (z : Bool). changes_of (if z then without_smo rest else x ∷ rest)) is ∙ below ∙ sym (ap (λ (e : Effect). e ++ changes_of rest) (no_change x.what is))
    by false is below = ap (λ (z : Bool). changes_of (if z then without_smo rest else x ∷ rest)) is

structural_net : (r : Logged) (w : What) (stack : History) → r.what ≡ w → is_structural w ≡ true → changes_of (stack_after r w stack) ≡ changes_of stack
structural_net r (Smo old new) stack same is = ap (λ (x : What). change_of x ++ changes_of stack) same
structural_net r DummyClr stack same is = closed_net stack
structural_net r (InsertKey k i) stack same is = absurd cc
structural_net r (DeleteKey k i) stack same is = absurd cc
structural_net r (UndoInsert k i) stack same is = absurd cc
structural_net r (UndoDelete k i) stack same is = absurd cc
structural_net r (UndoSmo new) stack same is = absurd cc
structural_net r Commit stack same is = absurd cc
structural_net r End stack same is = absurd cc
structural_net r (Image c) stack same is = absurd cc
structural_net r (Checkpoint n a d) stack same is = absurd cc
structural_net r Unreadable stack same is = absurd cc

module _ (b : Base) (t : ℕ) where
  own_record : (r : Logged) (older : History) → r.txn ≡ t → is_structural r.what ≡ true → IsRestructured b t older (r ∷ older)
  own_record r older mine is = record {
    stays = record {
      commits = uncommitted r.what (net r.txn older) (committed older) (structural_end r.what is);
      walk = structural_walk r.what (contents b older) is;
      nets = nets;
    };
    others = λ u differ. same_by u r older (λ e. differ (sym e ∙ mine));
    finished = own (is_end r.what || is_finished t older) (is_finished t older) ∙ ap (λ (x : Bool). x || is_finished t older) (structural_end r.what is);
  }
    where
      own : {A : Type 0} (x y : A) → (if r.txn == t then x else y) ≡ x
      own x y = cond-true (r.txn == t) x y (eq-eqb r.txn t mine)

      nets : (u : ℕ) → net u (r ∷ older) ≡ net u older
      nets u = elim (cases_eq r.txn u) [
        | inl same ↦ ap changes_of (cond-true (r.txn == u) (stack_after r r.what (to_undo u older)) (to_undo u older) (eq-eqb r.txn u same)) ∙ structural_net r r.what (to_undo u older) refl is
        | inr other ↦ ap changes_of (same_by u r older other).stack
      ]

  image_record : (r : Logged) (older : History) → IsImageRecord r → IsRestructured b t older (r ∷ older)
  image_record r older image = record {
    stays = unowned_stay b (r ∷ []) older (inl image, tt);
    others = λ u differ. same_by_image u r older image;
    finished = (same_by_image t r older image).finished;
  }

  structural : (more older : History) → AreStructural t more → IsRestructured b t older (more ++ older)
  structural [] older all = record { stays = record { commits = refl; walk = refl; nets = λ u. refl }; others = λ u differ. same_here u older; finished = refl }
  structural (r ∷ more) older all =
      let rest = structural more older all.1 in
      let last = step all.0 in
      record {
        stays = stays_then b older (more ++ older) (r ∷ (more ++ older)) rest.stays last.stays;
        others = λ u differ. same_then u older (more ++ older) (r ∷ (more ++ older)) (rest.others u differ) (last.others u differ);
        finished = last.finished ∙ rest.finished;
      }
    where
      step : IsStructural t r → IsRestructured b t (more ++ older) (r ∷ (more ++ older))
      step (inl image) = image_record r (more ++ older) image
      step (inr own) = own_record r (more ++ older) own.0 own.1

pub structure_changes_no_key : StructureChangesNoKey
structure_changes_no_key b t older longer grows = subst (λ (l : History). IsRestructured b t older l) grows.is (structural b t grows.more older grows.structural)

-- ---- numbers

new_none : (next : ℕ) (log : History) → AreBelow next log → HasNone next log
new_none next [] all = tt
new_none next (r ∷ older) all = ((λ e. let l : r.txn < next = all.0 in absurd (omega (arith, e, l))), new_none next older all.1)

below_further : (next further : ℕ) (log : History) → next ≤ further → AreBelow next log → AreBelow further log
below_further next further [] le all = tt
below_further next further (r ∷ older) le all = (let l : r.txn < next = all.0 in omega (arith, le, l), below_further next further older le all.1)

below_within : (next t : ℕ) (more older : History) → t < next → AreBelow next older → AreWithin t more → AreBelow next (more ++ older)
below_within next t [] older lt all within = all
below_within next t (r ∷ more) older lt all within = (here within.0, below_within next t more older lt all within.1)
  where
    here : IsWithin t r → r.txn < next
    here (inl image) = let zero_is : r.txn ≡ 0 = image.no_owner in omega (arith, zero_is, lt)
    here (inr own) = let is : r.txn ≡ t = own.0 in omega (arith, is, lt)

pub numbers_stay_new : NumbersStayNew
numbers_stay_new = record {
  none = new_none;
  more = below_further;
  within = λ next t older longer lt all grows. subst (λ (l : History). AreBelow next l) grows.is (below_within next t grows.more older lt all grows.within);
}

-- ---- full copies

copies_images : (b : Base) (images older : History) → copies.AreImages b images older → AreImageRecords images
copies_images b [] older all = tt
copies_images b (r ∷ images) older all = (record { copy = all.0.copy; what = all.0.what; no_owner = all.0.no_owner }, copies_images b images older all.1)

copies_below : (next : ℕ) (b : Base) (images older : History) → 1 ≤ next → copies.AreImages b images older → AreBelow next older → AreBelow next (images ++ older)
copies_below next b [] older one all under = under
copies_below next b (r ∷ images) older one all under = (let zero_is : r.txn ≡ 0 = all.0.no_owner in omega (arith, zero_is, one), copies_below next b images older one all.1 under)

pub copies_are_images : (tree : Tree) → CopiesAreImages tree
copies_are_images tree b older longer grows = record {
  images = record { more = grows.images; is = sym grows.is; images = copies_images b grows.images older grows.all };
  lawful = λ law. subst (λ (l : History). IsLawful b tree l) (sym grows.is) (lawful_images b tree grows.images older grows.all law);
  opened = ap open_smo grows.is ∙ images_open b grows.images older grows.all;
  below = λ next one under. subst (λ (l : History). AreBelow next l) (sym grows.is) (copies_below next b grows.images older one grows.all under);
}
