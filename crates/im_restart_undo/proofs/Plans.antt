-- What a leaf that was found says of how a key record can be taken back.
use Rattle.std.proofs.Common.{◌≡◌, ◌≢◌, ◌≤◌, ◌⊎◌, inl, inr, ⊎_elim, ℕ, Bool, Bor, true, false, List, [], length, None, Some, refl, sym, ◌∙◌, ap, subst, arith}
use Rattle.std.specs.Prelude.{Result, Ok, Err, IfErr, IfOk, IsErrAnd, ◌==◌}
use Rattle.std.specs.List.{list_any}
use Rattle.im_base_types.specs.declared.fault.Fault.{Fault}
use Rattle.im_base_types.specs.declared.fault.Fault.TheVariants.{Capacity, Memory, NotAStore}
use Rattle.im_base_types.specs.Keys.{Key}
use Rattle.im_base_types.specs.Pages.{Page}
use Rattle.im_base_types.specs.Records.{What, InsertKey, DeleteKey}
use Rattle.im_theory_log.specs.Transactions.{is_key}
use Rattle.im_log_record.specs.declared.record.Record.{Record}
use Rattle.im_log_record.specs.declared.record.Record.TheVariants as records
use Rattle.im_log_record.specs.Entry.{view}
use Rattle.im_log.specs.Whats.{what_of}
use Rattle.im_base_disk.specs.declared.disk.Disk.{Ghosts}
use Rattle.im_theory_page.specs.Split.{HasRoom}
use Rattle.im_page_pool.specs.declared.frame.Frame.{Frame}
use Rattle.im_page_pool.specs.Pool.{PoolView, page_at}
use Rattle.im_page_writer.specs.declared.page_writer.PageWriter.{PageWriter}
use Rattle.im_page_writer.specs.Outcome.{fault_of, mild, no_page, AllPages, AreLoaded, Ends, HasPages, IsSound, Outcome, Reads}
use Rattle.im_page_writer.proofs.Cited.{err_on, sound_on}
use Rattle.im_theory_tree.specs.Good.{IsGoodTree}
use Rattle.im_tree_search.specs.declared.change_beside.Beside.{Beside}
use Rattle.im_tree_search.specs.declared.sight.Sight.{Sight}
use Rattle.im_tree_search.specs.declared.sight.Sight.TheVariants.{Seen, Hidden}
use Rattle.im_tree_search.specs.Levels.{bodies_of}
use Rattle.im_tree_search.specs.Found.{IsLeafFor, IsReached}
use Rattle.im_tree_search.specs.Sights.{IfSeen, IsWayMade}
use Rattle.im_tree_search.proofs.Sighted.{at_seen, but_still}
use Rattle.im_smo_pages.specs.Images.{Numbered}
use Rattle.im_smo_drop_leaf.specs.Emptied.{emptied}
use Rattle.im_smo_drop_leaf.specs.Plan.{IsPlan}
use Rattle.im_smo_split.specs.Plan.{Planned, WantsPages}
use Rattle.im_smo_split.specs.Tops.{LacksRoomFor}
use Rattle.im_smo_split.specs.declared.split_plan.SplitPlan.{SplitPlan}
use Rattle.im_smo_split.proofs.OneLeaf.{one_leaf}
use Rattle.im_smo_actions.proofs.Changes.{reads_never_short, runs_out}
use Rattle.im_smo_actions.proofs.Told.{none_made}
use Rattle.im_smo_actions.specs.GoingBeside.{is_planned, HasWholeTreeBut}
use Rattle.im_restart_undo.specs.Undoing.{UsesUp, WantsRoom}
use Rattle.im_restart_undo.proofs.KeyRecords.{delete_of}
use Rattle.im_restart_undo.specs.declared.back.Back.{Back}
use Rattle.im_restart_undo.specs.declared.back.Back.TheVariants.{Plain, Split, Drop}
use Rattle.im_restart_undo.specs.Place.{HasGap, HasKey, HasWholeTree, IsKnownLeaf, IsPlaceMade}
use Rattle.im_restart_undo.specs.Planning.{BackPlanned, HiddenBack, page_made, way_made, HoldsOneKey, IsBack, NeedsChange, CanBack, PlannedAlone}

-- ---- trees

-- it is there still after a call that changed no page
pub whole_but_still : {D : Type 0} (d : Ghosts D) {m : Fault → Bool} {pages : AllPages} {beside : Beside} {v : PageWriter} {old : D} {w : PageWriter} {mid : D} → HasWholeTreeBut d pages beside v old → Outcome d AreLoaded m v old w mid None
    → HasWholeTreeBut d pages beside w mid
whole_but_still {D} d {m} {pages} {beside} {v} {old} {w} {mid} whole one = record { tree = but_still d whole.tree one; good = whole.good }

-- beside no change the pages are these
pub pages_alone : {D : Type 0} (d : Ghosts D) {pages : AllPages} (beside : Beside) {w : PageWriter} {disk : D} → beside.pages.now ≡ [] → HasWholeTreeBut d pages beside w disk → HasPages d AreLoaded pages w disk
pages_alone {D} d {pages} beside {w} {disk} none whole = record {
  b = whole.tree.has.b;
  base = whole.tree.has.base;
  now = whole.tree.has.now;
  stands = whole.tree.has.stands;
  asked = whole.tree.has.asked;
  shows = λ p. whole.tree.has.shows p ∙ whole.tree.agrees p (none_made beside p none);
}

-- and the other way round
pub whole_alone : {D : Type 0} (d : Ghosts D) {pages : AllPages} (beside : Beside) {w : PageWriter} {disk : D} → beside.pages.now ≡ [] → HasWholeTree d pages w disk → HasWholeTreeBut d pages beside w disk
whole_alone {D} d {pages} beside {w} {disk} none whole = record {
  tree = record {
    now = pages;
    has = whole.has;
    agrees = λ p not. refl;
    count = λ is. absurd (let clash : true ≡ false = sym is ∙ none_made beside 0 none in let never : ⊥ = cc clash in never);
    spare = [];
    good = whole.good;
  };
  good = whole.good;
}

-- ---- the key's leaf

-- a search from the root, where the page that was looked at first is not that leaf
pub leaf_seen : (r : Result (Sight Frame) Fault) (pages : AllPages) (beside : Beside) (page : ℕ) (key : Key) (Known : Type 0) (gets : ℕ) (pool : PoolView) → (Known → ⊥)
    → IsSound r (IfSeen (λ frame. IsLeafFor pages key frame.number gets pool) (IsWayMade (bodies_of pages) beside key))
    → IsSound r (IfSeen (λ frame. IsReached pages key 0 frame.number pool) (IsPlaceMade (bodies_of pages) beside page key Known))
leaf_seen (Ok (Seen frame)) pages beside page key Known gets pool not found = found.reached
leaf_seen (Ok Hidden) pages beside page key Known gets pool not way = inr (not, way)
leaf_seen (Err e) pages beside page key Known gets pool not sound = sound

-- ---- a key that goes

module _ (pages : AllPages) (beside : Beside) (page : ℕ) (key : Key) (rid : ℕ) where
  pub out_hidden : IsPlaceMade (bodies_of pages) beside page key (IsKnownLeaf (bodies_of pages) page × HasKey (bodies_of pages page).entries key) → HiddenBack (bodies_of pages) beside page (InsertKey key rid)
  out_hidden (inl made) = page_made made
  out_hidden (inr way) = way_made way.0 way.1

  pub in_hidden : IsPlaceMade (bodies_of pages) beside page key (IsKnownLeaf (bodies_of pages) page × HasGap (bodies_of pages page) key) → HiddenBack (bodies_of pages) beside page (DeleteKey key rid)
  in_hidden (inl made) = page_made made
  in_hidden (inr way) = way_made way.0 way.1

  module _ (p : ℕ) (pool : PoolView) (leaf : IsReached pages key 0 p pool) where
    shown_entries : length (page_at pool p).body.entries ≡ length (bodies_of pages p).entries
    shown_entries = ap (λ (g : Page). length g.body.entries) leaf.shown

    -- it is one of others
    pub out_plain : IsGoodTree (bodies_of pages) [] → is_planned beside p ≡ false → (p ≡ 1) ⊎ (length (page_at pool p).body.entries ≢ 1) → IsBack pages beside (InsertKey key rid) (Plain p)
    out_plain good clear more = record {
      can = leaf.way;
      clear = clear;
      whole = λ one.
          let same : one.page ≡ p = one_leaf (bodies_of pages) [] key one.page p good one.way leaf.way in
          ⊎_elim (λ (root : p ≡ 1). one.other (same ∙ root))
          (λ (many : length (page_at pool p).body.entries ≢ 1). many (shown_entries ∙ ap (λ (n : ℕ). length (bodies_of pages n).entries) (sym same) ∙ one.one)) more;
    }

    -- or the only one
    pub out_one : length (page_at pool p).body.entries ≡ 1 → length (bodies_of pages p).entries ≡ 1
    out_one one = sym shown_entries ∙ one

    pub out_needs : (p ≢ 1) × (length (page_at pool p).body.entries ≡ 1) → HoldsOneKey (bodies_of pages) key
    out_needs last = record { page = p; way = leaf.way; other = last.0; one = sym shown_entries ∙ last.1 }

    pub out_drops : beside.pages.now ≡ [] → (p ≢ 1) × (length (page_at pool p).body.entries ≡ 1) → (images : List Numbered) → IsPlan (emptied pages p) p images → IsBack pages beside (InsertKey key rid) (Drop p images)
    out_drops none last images plan = record { can = record { leaf = leaf.way; other = last.0; one = sym shown_entries ∙ last.1; plan = plan }; clear = none; whole = tt }

    -- ---- a key that comes back

    -- its leaf has room
    pub in_plain : IsGoodTree (bodies_of pages) [] → is_planned beside p ≡ false → HasRoom true (page_at pool p).body.entries (key, 0) → IsBack pages beside (DeleteKey key rid) (Plain p)
    in_plain good clear room =
        let here : HasRoom true (bodies_of pages p).entries (key, 0) = subst (λ (g : Page). HasRoom true g.body.entries (key, 0)) leaf.shown room in
        record {
          can = (leaf.way, here);
          clear = clear;
          whole = λ lacks.
              let same : lacks.page ≡ p = one_leaf (bodies_of pages) [] key lacks.page p good lacks.way leaf.way in
              lacks.lacks (subst (λ (n : ℕ). HasRoom true (bodies_of pages n).entries (key, 0)) (sym same) here);
        }

    -- or not
    pub in_needs : (HasRoom true (page_at pool p).body.entries (key, 0) → ⊥) → LacksRoomFor (bodies_of pages) key
    in_needs full = record { page = p; way = leaf.way; lacks = subst (λ (g : Page). HasRoom true g.body.entries (key, 0) → ⊥) leaf.shown full }

    pub in_splits : beside.pages.now ≡ [] → (HasRoom true (page_at pool p).body.entries (key, 0) → ⊥) → (plan : SplitPlan) → Planned false pages key None plan.images plan.leaf → IsBack pages beside (DeleteKey key rid) (Split plan)
    in_splits none full plan planned = record { can = (planned, planned.some p leaf.way (subst (λ (g : Page). HasRoom true g.body.entries (key, 0) → ⊥) leaf.shown full)); clear = none; whole = tt }

-- ---- refusals

-- a search is not refused for want of page numbers
reads_never_full : {D : Type 0} (d : Ghosts D) {v : PageWriter} {old : D} {w : PageWriter} {new : D} {f : Fault} → Reads d v old w new (Some f) → f ≡ Capacity → ⊥
reads_never_full d {v} {old} {w} {new} {f} reads full =
    let ends : Ends d AreLoaded no_page v old w new (Some Capacity) = subst (λ (x : Fault). Ends d AreLoaded no_page v old w new (Some x)) full reads.ends in
    let clash : false ≡ true = ends.0 in
    cc clash

-- a call after which the writer goes on changed no page
pub goes_on_short : {D : Type 0} (d : Ghosts D) {m : Fault → Bool} {v : PageWriter} {old : D} {w : PageWriter} {mid : D} (f : Fault) → f ≡ Memory → Outcome d AreLoaded m v old w mid (Some f) → Outcome d AreLoaded m v old w mid None
goes_on_short {D} d {m} {v} {old} {w} {mid} f is one =
    let here : Outcome d AreLoaded m v old w mid (Some Memory) = subst (λ (x : Fault). Outcome d AreLoaded m v old w mid (Some x)) is one in
    record { ready = here.ready; frames = here.frames; ends = here.ends.1 }

-- the key's leaf was not found
pub place_refused : {D : Type 0} (d : Ghosts D) (pages : AllPages) (beside : Beside) (page : ℕ) (w : What) (f : Fault) (r : Result (Sight Back) Fault) → IsErrAnd r (λ x. x ≡ f) → f ≢ NotAStore → {v : PageWriter} {old : D} {u : PageWriter} {new : D} → Reads d v old u new (Some f)
    → BackPlanned pages beside page w r
place_refused {D} d pages beside page w f r here cause {v} {old} {u} {new} one = record {
  sound = sound_on r f (IfSeen (IsBack pages beside w) (HiddenBack (bodies_of pages) beside page w)) here cause;
  short = err_on r f (λ x. x ≡ Memory → NeedsChange (bodies_of pages) w) here (λ is. absurd (reads_never_short d one is));
  used_up = err_on r f (λ x. x ≡ Capacity → UsesUp (bodies_of pages) w) here (λ is. absurd (reads_never_full d one is));
}

pub place_alone : {D : Type 0} (d : Ghosts D) (beside : Beside) (f : Fault) (r : Result (Sight Back) Fault) → IsErrAnd r (λ x. x ≡ f) → {v : PageWriter} {old : D} {u : PageWriter} {new : D} → Reads d v old u new (Some f) → IfErr r (λ e. (e ≡ Memory) ⊎ (e ≡ Capacity) → beside.pages.now ≡ [])
place_alone {D} d beside f r here {v} {old} {u} {new} one =
    err_on r f (λ x. (x ≡ Memory) ⊎ (x ≡ Capacity) → beside.pages.now ≡ []) here (λ why. ⊎_elim (λ (is : f ≡ Memory). absurd (reads_never_short d one is)) (λ (is : f ≡ Capacity). absurd (reads_never_full d one is)) why)

pub err_alone : {P : Type 0} (r : Result (Sight Back) Fault) → P → IfErr r (λ e. (e ≡ Memory) ⊎ (e ≡ Capacity) → P)
err_alone {P} (Ok a) p = tt
err_alone {P} (Err e) p = λ why. p

-- the plan was refused
pub drop_refused : {D : Type 0} (d : Ghosts D) (pages : AllPages) (beside : Beside) (page : ℕ) (key : Key) (rid : ℕ) (f : Fault) (r : Result (Sight Back) Fault) → IsErrAnd r (λ x. x ≡ f) → HoldsOneKey (bodies_of pages) key → f ≢ NotAStore
    → {v : PageWriter} {old : D} {u : PageWriter} {new : D} → Outcome d AreLoaded mild v old u new (Some f) → BackPlanned pages beside page (InsertKey key rid) r
drop_refused {D} d pages beside page key rid f r here needs cause {v} {old} {u} {new} one = record {
  sound = sound_on r f (IfSeen (IsBack pages beside (InsertKey key rid)) (HiddenBack (bodies_of pages) beside page (InsertKey key rid))) here cause;
  short = err_on r f (λ x. x ≡ Memory → HoldsOneKey (bodies_of pages) key) here (λ is. needs);
  used_up = err_on r f (λ x. x ≡ Capacity → ⊥) here (λ is.
      let ends : Ends d AreLoaded mild v old u new (Some Capacity) = subst (λ (x : Fault). Ends d AreLoaded mild v old u new (Some x)) is one.ends in
      let clash : false ≡ true = ends.0 in cc clash);
}

pub split_refused : (pages : AllPages) (beside : Beside) (page : ℕ) (key : Key) (rid : ℕ) (f : Fault) (r : Result (Sight Back) Fault) → IsErrAnd r (λ x. x ≡ f) → LacksRoomFor (bodies_of pages) key → f ≢ NotAStore → WantsPages false (bodies_of pages) key None f
    → BackPlanned pages beside page (DeleteKey key rid) r
split_refused pages beside page key rid f r here lacks cause wants = record {
  sound = sound_on r f (IfSeen (IsBack pages beside (DeleteKey key rid)) (HiddenBack (bodies_of pages) beside page (DeleteKey key rid))) here cause;
  short = err_on r f (λ x. x ≡ Memory → LacksRoomFor (bodies_of pages) key) here (λ is. lacks);
  used_up = err_on r f (λ x. x ≡ Capacity → UsesUp (bodies_of pages) (DeleteKey key rid)) here (λ is. record { lacks = lacks; used_up = runs_out (bodies_of pages) key None f wants is });
}

-- ---- what is seen, or hidden

-- a refusal is not hidden, nor what is seen
pub never_first : {A B : Type 0} {f : Fault} → (let r : Result (Sight A) Fault = Err f in r ≡ Ok Hidden) → B
never_first {A} {B} {f} is = absurd (cc is)

abbrev is_hidden : {A : Type 0} → Result (Sight A) Fault → Type 0
is_hidden (Ok (Seen a)) = ⊥
is_hidden (Ok Hidden) = Unit {0}
is_hidden (Err e) = ⊥

pub seen_first : {A B : Type 0} (s : Sight A) (a : A) → s ≡ Seen a → (let r : Result (Sight A) Fault = Ok s in r ≡ Ok Hidden) → B
seen_first {A} {B} s a is first = absurd (subst (λ (x : Sight A). is_hidden (Ok x)) is (subst is_hidden (sym first) tt))

-- beside no change nothing is made
pub none_open : {B : Type 0} (beside : Beside) → beside.done ≡ 0 → 1 ≤ beside.done → B
none_open {B} beside none some = absurd (omega (arith, none, some))

pub never_planned : {B : Type 0} (beside : Beside) (p : ℕ) → beside.pages.now ≡ [] → is_planned beside p ≡ true → B
never_planned {B} beside p none is = let clash : false ≡ true = sym (ap (λ (ps : List ℕ). list_any (λ (q : ℕ). q == p) ps) none) ∙ is in absurd (cc clash)

pub never_both : {A : Type 0} (s : Sight A) (a : A) → s ≡ Seen a → s ≡ Hidden → ⊥
never_both s a one two = let clash : Seen a ≡ Hidden = sym one ∙ two in cc clash

-- ---- with no change under way

pub alone_outcome : {D : Type 0} (d : Ghosts D) {m : Fault → Bool} {v : PageWriter} {old : D} {w : PageWriter} {new : D} (r : Result Back Fault) → IfErr r (λ _. ⊥) → Outcome d AreLoaded m v old w new None → Outcome d AreLoaded m v old w new (fault_of r)
alone_outcome {D} d {m} {v} {old} {w} {new} (Ok back) never one = one
alone_outcome {D} d {m} {v} {old} {w} {new} (Err f) never one = absurd never

pub alone_planned : (pages : AllPages) (beside : Beside) (page : ℕ) (w : What) (s : Sight Back) (r : Result Back Fault) → IfOk r (λ back. s ≡ Seen back) → IfErr r (λ _. ⊥) → BackPlanned pages beside page w (Ok s) → PlannedAlone pages w r
alone_planned pages beside page w s (Ok back) is never planned = record { sound = (at_seen s back (IsBack pages beside w) (HiddenBack (bodies_of pages) beside page w) is planned.sound).can; short = tt; used_up = tt }
alone_planned pages beside page w s (Err f) is never planned = absurd never

pub alone_refused : (pages : AllPages) (beside : Beside) (page : ℕ) (w : What) (f : Fault) → f ≢ Memory → BackPlanned pages beside page w (Err f) → PlannedAlone pages w (Err f)
alone_refused pages beside page w f other planned = record { sound = planned.sound; short = λ is. absurd (other is); used_up = planned.used_up }

-- ---- for want of memory

pub short_refused : {D : Type 0} (d : Ghosts D) (pages : AllPages) (w : What) (f : Fault) (r : Result Back Fault) → IsErrAnd r (λ x. x ≡ f) → f ≢ NotAStore → {v : PageWriter} {old : D} {u : PageWriter} {new : D} → Reads d v old u new (Some f) → PlannedAlone pages w r
short_refused {D} d pages w f r here cause {v} {old} {u} {new} one = record {
  sound = sound_on r f (CanBack pages w) here cause;
  short = err_on r f (λ x. x ≡ Memory → WantsRoom (bodies_of pages) w) here (λ is. absurd (reads_never_short d one is));
  used_up = err_on r f (λ x. x ≡ Capacity → UsesUp (bodies_of pages) w) here (λ is. absurd (reads_never_full d one is));
}

-- a key that comes back needs a change only where its leaf lacks room
pub short_wants : (pages : AllPages) (r : Record) → ((t p g : ℕ) (k : Bor (List ℕ)) (i : ℕ) → r ≡ records.InsertKey t p g k i → ⊥) → is_key (what_of (view r)) ≡ true → NeedsChange (bodies_of pages) (what_of (view r)) → PlannedAlone pages (what_of (view r)) (Err Memory)
short_wants pages r not key needs =
    let is = delete_of r not key in
    record {
      sound = λ same. (let never : ⊥ = cc same in never);
      short = λ _. subst (λ (w : What). WantsRoom (bodies_of pages) w) (sym is.2) (subst (λ (w : What). NeedsChange (bodies_of pages) w) is.2 needs);
      used_up = λ same. absurd (let never : ⊥ = cc same in never);
    }
