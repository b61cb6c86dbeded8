-- An insert that is laid down beside a structure change of another: what it asks, what bars it, and what is kept of it.
use Rattle.std.proofs.Common.{◌≡◌, ◌≢◌, ◌⊎◌, inl, inr, ⊎_elim, ◌≤◌, ℕ, true, false, Bool, List, [], length, None, Some, Option, Result, Ok, Err, refl, sym, ◌∙◌, ap, subst, ◌==◌, arith}
use Rattle.std.specs.Prelude.{IsErrAnd}
use Rattle.std.specs.FinMap.{entries, get}
use Rattle.std.specs.FinMap.Entries.{find}
use Rattle.std.specs.List.{list_any}
use Rattle.im_base_types.specs.declared.fault.Fault.{Fault}
use Rattle.im_base_types.specs.declared.fault.Fault.TheVariants.{Capacity, Device, Failed, LogFull, Memory, NotAStore, PagesFull}
use Rattle.im_base_types.specs.Keys.{Key, key_order}
use Rattle.im_base_types.specs.Maps.{IndexMap}
use Rattle.im_base_types.specs.Answers.{Insert}
use Rattle.im_base_types.specs.Pages.{Page}
use Rattle.im_base_disk.specs.declared.disk.Disk.{Ghosts}
use Rattle.im_page_pool.specs.Pool.{PoolView, page_at}
use Rattle.im_page_writer.specs.declared.page_writer.PageWriter.{PageWriter}
use Rattle.im_page_writer.specs.Outcome.{fault_of, AllPages, AreLoaded, HasPages, IsSound, Reads}
use Rattle.im_theory_machine.specs.Locks.{Request}
use Rattle.im_theory_machine.specs.Rows.{asked}
use Rattle.im_theory_machine.specs.Table.{Table, Decides}
use Rattle.im_theory_machine.specs.declared.verdict.Verdict.{Verdict}
use Rattle.im_theory_machine.specs.declared.verdict.Verdict.TheVariants.{Granted as GrantedAll, Wait as MustWait, Die as MustDie}
use Rattle.im_theory_page.specs.Split.{HasRoom}
use Rattle.im_theory_steps.proofs.Holding.{begun_waits, begun_dies}
use Rattle.im_theory_tree.specs.Good.{IsGoodTree}
use Rattle.im_theory_tree.specs.Levels.{Pages, walk}
use Rattle.im_theory_tree.specs.Search.{IsOnWay}
use Rattle.im_theory_tree.proofs.LookupLemmas.{leaf_value}
use Rattle.im_tree_search.specs.declared.change_beside.Beside.{Beside}
use Rattle.im_tree_search.specs.declared.sight.Sight.{Sight}
use Rattle.im_tree_search.specs.declared.sight.Sight.TheVariants.{Seen, Hidden}
use Rattle.im_tree_search.specs.Found.{IsReached}
use Rattle.im_tree_search.specs.Levels.{bodies_of}
use Rattle.im_tree_search.specs.Sights.{HasTreeBut, IfSeen}
use Rattle.im_smo_pages.specs.Images.{Numbered, IsRising}
use Rattle.im_smo_split.specs.Plan.{IsOver, IsWithin, Planned}
use Rattle.im_smo_split.specs.Tops.{LacksRoomFor}
use Rattle.im_smo_split.proofs.OneLeaf.{one_leaf}
use Rattle.im_smo_split.proofs.Reasons.{never_pages_full}
use Rattle.im_smo_actions.specs.declared.planned_change.PlannedChange.{PlannedChange}
use Rattle.im_smo_actions.specs.GoingBeside.{is_planned}
use Rattle.im_smo_actions.proofs.Told.{none_made}
use Rattle.im_engine_access.specs.declared.change_plan.Coming.{Coming}
use Rattle.im_engine_access.specs.declared.change_plan.Coming.TheVariants.{There, Splits}
use Rattle.im_engine_access.specs.declared.lock_answer.LockAnswer.{LockAnswer}
use Rattle.im_engine_access.specs.declared.lock_answer.LockAnswer.TheVariants.{Granted, Wait, Die}
use Rattle.im_engine_access.specs.Barred.{Bars, IsBarred, TreeCause}
use Rattle.im_engine_access.specs.ChangePlans.{asks_of, asks_row, begins, ComingKept, ComingPlanned, IsComing, IsComingDecided}
use Rattle.im_engine_access.specs.Edits.{IsLimited}
use Rattle.im_engine_access.specs.LockAnswers.{verdict_of, IfGranted}
use Rattle.im_engine_access.specs.LockCalls.{AsksLocks}
use Rattle.im_engine_access.proofs.Calls.{decided_as}
use Rattle.im_engine_access.proofs.Names.{found_is}

-- with none under way the pages are the settled ones
pub alone_pages : {D : Type 0} (d : Ghosts D) (pages : AllPages) (beside : Beside) (w : PageWriter) (disk : D) → HasTreeBut d pages beside w disk → beside.pages.now ≡ [] → HasPages d AreLoaded pages w disk
alone_pages {D} d pages beside w disk but none = record { b = but.has.b; base = but.has.base; now = but.has.now; stands = but.has.stands; asked = but.has.asked; shows = λ p. but.has.shows p ∙ but.agrees p (none_made beside p none) }

-- ---- what it asks

-- who waits or dies has asked as an insert asks that ends at once
asks_wait : (lasts : Bool) (old new : Table) (t holder : ℕ) (key : Key) (rid : ℕ) (m : IndexMap) → get m key ≡ None → Decides old t (asks_row lasts key rid m) (MustWait holder) new → Decides old t (asked (Insert key rid) m) (MustWait holder) new
asks_wait true old new t holder key rid m none decides = begun_waits m key rid none old new t holder decides
asks_wait false old new t holder key rid m none decides = decides

asks_die : (lasts : Bool) (old new : Table) (t : ℕ) (key : Key) (rid : ℕ) (m : IndexMap) → get m key ≡ None → Decides old t (asks_row lasts key rid m) MustDie new → Decides old t (asked (Insert key rid) m) MustDie new
asks_die true old new t key rid m none decides = begun_dies m key rid none old new t decides
asks_die false old new t key rid m none decides = decides

-- what the lock table decided, of a key that is not there
pub coming_decided : (stepped : Bool) (coming : Coming) (old new : Table) (t : ℕ) (key : Key) (rid : ℕ) (m : IndexMap) (row : List Request) (verdict : Verdict) (answer : LockAnswer Coming) → get m key ≡ None → Decides old t row verdict new → row ≡ asks_of stepped coming key rid m
    → verdict_of answer ≡ verdict → IfGranted answer (λ x. x ≡ coming) → IsComingDecided stepped (λ x. x ≡ coming) old t key rid m new answer
coming_decided stepped coming old new t key rid m row verdict (Granted x) none decides is same value =
    (subst (λ (c : Coming). Decides old t (asks_of stepped c key rid m) GrantedAll new) (sym value) (decided_as old new t row (asks_of stepped coming key rid m) verdict (Granted x) decides is same), value)
coming_decided stepped coming old new t key rid m row verdict (Wait holder) none decides is same value =
    asks_wait (begins stepped coming) old new t holder key rid m none (decided_as {X = Coming} old new t row (asks_of stepped coming key rid m) verdict (Wait holder) decides is same)
coming_decided stepped coming old new t key rid m row verdict Die none decides is same value =
    asks_die (begins stepped coming) old new t key rid m none (decided_as {X = Coming} old new t row (asks_of stepped coming key rid m) verdict Die decides is same)

-- and of one that is
pub there_decided : (stepped : Bool) (old new : Table) (t : ℕ) (key : Key) (rid : ℕ) (m : IndexMap) (row : List Request) (verdict : Verdict) (answer : LockAnswer Coming) → Decides old t row verdict new → row ≡ asked (Insert key rid) m
    → verdict_of answer ≡ verdict → IfGranted answer (λ x. x ≡ There) → IsComingDecided stepped (λ x. x ≡ There) old t key rid m new answer
there_decided stepped old new t key rid m row verdict (Granted x) decides is same value =
    (subst (λ (c : Coming). Decides old t (asks_of stepped c key rid m) GrantedAll new) (sym value) (decided_as old new t row (asked (Insert key rid) m) verdict (Granted x) decides is same), value)
there_decided stepped old new t key rid m row verdict (Wait holder) decides is same value = decided_as {X = Coming} old new t row (asked (Insert key rid) m) verdict (Wait holder) decides is same
there_decided stepped old new t key rid m row verdict Die decides is same value = decided_as {X = Coming} old new t row (asked (Insert key rid) m) verdict Die decides is same

-- so the key may come
pub coming_so : (stepped : Bool) (P : Coming → Type 0) (coming : Coming) (old new : Table) (t : ℕ) (key : Key) (rid : ℕ) (m : IndexMap) (answer : LockAnswer Coming) → P coming → IsComingDecided stepped (λ x. x ≡ coming) old t key rid m new answer → IsComingDecided stepped P old t key rid m new answer
coming_so stepped P coming old new t key rid m (Granted x) holds is = (is.0, subst P (sym is.1) holds)
coming_so stepped P coming old new t key rid m (Wait holder) holds is = is
coming_so stepped P coming old new t key rid m Die holds is = is

-- ---- what bars it

none_planned : (beside : Beside) (p : ℕ) → beside.pages.now ≡ [] → is_planned beside p ≡ true → ⊥
none_planned beside p none is = let clash : false ≡ true = sym (ap (λ (ps : List ℕ). list_any (λ (q : ℕ). q == p) ps) none) ∙ is in cc clash

-- no change bars a key where none is under way
pub alone_bars : (pages : Pages) (beside : Beside) (key : Key) (Needs : Type 0) → beside.pages.now ≡ [] → IsBarred pages beside key Needs → ⊥
alone_bars pages beside key Needs none is = ⊎_elim (λ (planned : is_planned beside is.leaf ≡ true). none_planned beside is.leaf none planned) (λ (needs : (beside.pages.now ≢ []) × Needs). needs.0 none) is.by

-- nor one whose leaf is none of its pages, where it needs no change of its own
pub apart_bars : (pages : Pages) (spare : List ℕ) (beside : Beside) (key : Key) (Needs : Type 0) (page : ℕ) → IsGoodTree pages spare → IsOnWay pages 0 key page → is_planned beside page ≡ false → (Needs → ⊥) → IsBarred pages beside key Needs → ⊥
apart_bars pages spare beside key Needs page good way apart not is =
    ⊎_elim (λ (planned : is_planned beside is.leaf ≡ true). (let clash : false ≡ true = sym apart ∙ ap (is_planned beside) (one_leaf pages spare key page is.leaf good way is.way) ∙ planned in let never : ⊥ = cc clash in never))
    (λ (needs : (beside.pages.now ≢ []) × Needs). not needs.1) is.by

pub room_not : (pages : Pages) (spare : List ℕ) (key : Key) (page : ℕ) → IsGoodTree pages spare → IsOnWay pages 0 key page → HasRoom true (pages page).entries (key, 0) → LacksRoomFor pages key → ⊥
room_not pages spare key page good way room lacks = lacks.lacks (subst (λ (p : ℕ). HasRoom true (pages p).entries (key, 0)) (one_leaf pages spare key page lacks.page good way lacks.way) room)

-- a search over a writer that works is refused only by the files
pub files_refused : {D : Type 0} (d : Ghosts D) (v : PageWriter) (old : D) (w : PageWriter) (new : D) (f : Fault) → v.failed ≡ false → Reads d v old w new (Some f) → f ≢ NotAStore → (f ≡ Device) ⊎ (f ≡ LogFull)
files_refused d v old w new Device works one sound = inl refl
files_refused d v old w new LogFull works one sound = inr refl
files_refused d v old w new Failed works one sound = absurd (let clash : false ≡ true = sym works ∙ one.ends.0 in cc clash)
files_refused d v old w new NotAStore works one sound = absurd (sound refl)
files_refused d v old w new f works one sound = absurd (let clash : false ≡ true = one.ends.0 in cc clash)

-- ---- the plan

pub plan_splits : (pages : AllPages) (beside : Beside) (key : Key) (dense : Bool) (max : ℕ) (m : IndexMap) (images : List Numbered) (leaf : ℕ) (plan : PlannedChange) → get m key ≡ None → beside.pages.now ≡ [] → LacksRoomFor (bodies_of pages) key → Planned dense pages key (Some max) images leaf
    → plan.images ≡ images → IsRising plan.images → plan.count ≡ (bodies_of pages 0).leftmost → ComingPlanned pages beside key dense max m (Ok (Splits plan leaf))
plan_splits pages beside key dense max m images leaf plan none alone lacks planned same rising count =
    let some : 1 ≤ length images = planned.some lacks.page lacks.way lacks.lacks in
    record {
      sound = record {
        absent = none;
        alone = alone;
        lacks = lacks;
        planned = subst (λ (xs : List Numbered). Planned dense pages key (Some max) xs leaf) (sym same) planned;
        some = subst (λ (xs : List Numbered). 1 ≤ length xs) (sym same) some;
        rising = rising;
        count = count;
      };
      limited =
          λ l. inl
          (⊎_elim (λ (no_image : images ≡ []). absurd (let zero_is : length images ≡ 0 = ap (λ (xs : List Numbered). length xs) no_image in omega (arith, some, zero_is)))
          (λ (within : IsWithin dense (bodies_of pages) key max). within) (planned.within max refl));
      full = tt;
    }

pub plan_coming_refused : (pages : AllPages) (beside : Beside) (key : Key) (dense : Bool) (max : ℕ) (m : IndexMap) (f : Fault) (r : Result Coming Fault) → IsErrAnd r (λ y. y ≡ f) → f ≢ NotAStore → (f ≡ PagesFull → LacksRoomFor (bodies_of pages) key × IsOver dense (bodies_of pages) key max)
    → ComingPlanned pages beside key dense max m r
plan_coming_refused pages beside key dense max m f (Ok x) is sound full = absurd is
plan_coming_refused pages beside key dense max m f (Err y) is sound full = record { sound = λ same. sound (sym is ∙ same); limited = tt; full = λ same. full (sym is ∙ same) }

-- ---- what is kept

module _ (stepped : Bool) (pages : AllPages) (beside : Beside) (t : ℕ) (key : Key) (rid : ℕ) (dense : Bool) (max : ℕ) (m : IndexMap) (old new : Table) where
  abbrev Kept : Result (Sight (LockAnswer Coming)) Fault → Type 0
  Kept r = ComingKept stepped pages beside t key rid dense max m old new r

  -- where it is hidden
  pub coming_hidden : TreeCause (bodies_of pages) beside (Insert key rid) m → new ≡ old → Kept (Ok Hidden)
  coming_hidden why same = record { sound = (why, same); full = tt; limited = tt; first = λ bars. (tt, tt) }

  -- where the change beside bars nothing
  pub coming_seen : {D : Type 0} (d : Ghosts D) {v : PageWriter} {before : D} {w : PageWriter} {disk : D} (coming : Coming) (r : Result (Sight (LockAnswer Coming)) Fault) → AsksLocks d v before w disk (fault_of r) → IsComing pages beside key dense max m coming
      → (get m key ≡ None → IsLimited dense (bodies_of pages) key max) → (Bars (bodies_of pages) beside (Insert key rid) m → ⊥)
      → IsSound r (IfSeen (IsComingDecided stepped (λ x. x ≡ coming) old t key rid m new) (TreeCause (bodies_of pages) beside (Insert key rid) m × (new ≡ old))) → Kept r
  coming_seen {D} d {v} {before} {w} {disk} coming (Ok (Seen answer)) one may limited never sound = record {
    sound = coming_so stepped (IsComing pages beside key dense max m) coming old new t key rid m answer may sound;
    full = tt;
    limited = limited;
    first = λ bars. absurd (never bars);
  }
  coming_seen {D} d {v} {before} {w} {disk} coming (Ok Hidden) one may limited never sound = record { sound = sound; full = tt; limited = tt; first = λ bars. (tt, tt) }
  coming_seen {D} d {v} {before} {w} {disk} coming (Err y) one may limited never sound = record { sound = sound; full = λ full. absurd (never_pages_full d refl one full); limited = tt; first = λ bars. absurd (never bars) }

  -- where it is refused
  pub coming_refused : (f : Fault) (r : Result (Sight (LockAnswer Coming)) Fault) → IsErrAnd r (λ y. y ≡ f) → f ≢ NotAStore → (f ≡ PagesFull → (get m key ≡ None) × LacksRoomFor (bodies_of pages) key × IsOver dense (bodies_of pages) key max)
      → (Bars (bodies_of pages) beside (Insert key rid) m → (f ≡ Device) ⊎ (f ≡ LogFull)) → Kept r
  coming_refused f (Ok x) is sound full first = absurd is
  coming_refused f (Err y) is sound full first = record {
    sound = λ same. sound (sym is ∙ same);
    full = λ same. full (sym is ∙ same);
    limited = tt;
    first = λ bars. (tt, subst (λ (x : Fault). (x ≡ Device) ⊎ (x ≡ LogFull)) (sym is) (first bars));
  }

-- ---- a key that is there

pub some_never : (m : IndexMap) (key : Key) (i : ℕ) → get m key ≡ Some i → get m key ≡ None → ⊥
some_never m key i there none = let clash : Some i ≡ None = sym there ∙ none in cc clash

pub memory_full : (f : Fault) → f ≡ Memory → f ≢ PagesFull
memory_full f is same = let clash : Memory ≡ PagesFull = sym is ∙ same in cc clash

pub memory_numbers : (f : Fault) → f ≡ Memory → f ≢ Capacity
memory_numbers f is same = let clash : Memory ≡ Capacity = sym is ∙ same in cc clash

pub there_kept : (stepped : Bool) (pages : AllPages) (beside : Beside) (t : ℕ) (key : Key) (rid : ℕ) (dense : Bool) (max : ℕ) (m : IndexMap) (old new : Table) (answer : LockAnswer Coming) (i : ℕ) → get m key ≡ Some i → IsComingDecided stepped (λ x. x ≡ There) old t key rid m new answer → ComingKept stepped pages beside t key rid dense max m old new (Ok (Seen answer))
there_kept stepped pages beside t key rid dense max m old new answer i there decided = record {
  sound = coming_so stepped (IsComing pages beside key dense max m) There old new t key rid m answer (i, there) decided;
  full = tt;
  limited = λ none. absurd (some_never m key i there none);
  first = λ bars. absurd (some_never m key i there bars.0);
}

-- what its leaf has of a key, the map has
pub leaf_has_it : (pages : AllPages) (spare : List ℕ) (m : IndexMap) (key : Key) (p : ℕ) (page : Page) (pool : PoolView) (rid : Option ℕ) → IsGoodTree (bodies_of pages) spare → walk (bodies_of pages) ≡ entries m → IsReached pages key 0 p pool → page ≡ page_at pool p
    → rid ≡ find key_order key page.body.entries → get m key ≡ rid
leaf_has_it pages spare m key p page pool rid good is r lent found =
    found_is m (walk (bodies_of pages)) key rid is (found ∙ ap (λ (x : Page). find key_order key x.body.entries) (lent ∙ r.shown) ∙ sym (leaf_value (bodies_of pages) spare key p good r.way))
