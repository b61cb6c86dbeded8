-- One key record taken back: the parts of it in a row.
use Rattle.std.proofs.Common.{◌≡◌, ◌≢◌, inr, ◌≤◌, ℕ, ◌∷◌, ◌++◌, length, false, Some, Result, Ok, Err, refl, sym, ◌∙◌, ap, subst, append-nil, ◌⊎◌, inl}
use Rattle.std.proofs.Math.Path.{fun_ext}
use Rattle.std.specs.Prelude.{IfErr, IsErrAnd}
use Rattle.im_base_types.specs.declared.fault.Fault.{Fault}
use Rattle.im_base_types.specs.declared.fault.Fault.TheVariants.{Capacity, Failed, Memory}
use Rattle.im_base_types.specs.Keys.{Key}
use Rattle.im_base_types.specs.Maps.{IndexMap}
use Rattle.im_base_types.specs.Pages.{Page}
use Rattle.im_base_types.specs.Records.{Logged}
use Rattle.im_theory_log.specs.Histories.{Base, History, IsFront, IsRecordOf}
use Rattle.im_theory_log.specs.Transactions.{contents, contents_after, to_undo, undo_next_of}
use Rattle.im_theory_log.specs.Writer.{Writer}
use Rattle.im_theory_log.proofs.Images.{images_contents, images_to_undo}
use Rattle.im_base_disk.specs.declared.disk.Disk.{Ghosts}
use Rattle.im_log_record.specs.Entry.{Entry, prev_of}
use Rattle.im_log.specs.Spelled.{logged_at}
use Rattle.im_log.specs.Whats.{what_of}
use Rattle.im_page_writer.specs.declared.page_writer.PageWriter.{PageWriter}
use Rattle.im_page_table.specs.Growth.{Keeps}
use Rattle.im_page_writer.specs.PageWriter.{GoesOn}
use Rattle.im_page_writer.specs.Outcome.{no_page, pages_of, AreLoaded, Logs, Outcome}
use Rattle.im_page_writer.proofs.Cited.{again_on, err_on, sound_also, sound_on}
use Rattle.im_smo_pages.specs.Kept.{mild_to_take}
use Rattle.im_smo_actions.proofs.Changes.{never_failed}
use Rattle.im_theory_tree.specs.Levels.{Pages}
use Rattle.im_tree_search.specs.Levels.{bodies}
use Rattle.im_restart_analysis.specs.declared.rows.Loser.{Loser}
use Rattle.im_restart_analysis.specs.Undo.{IsNext}
use Rattle.im_restart_undo.specs.Planning.{PlannedAlone}
use Rattle.im_restart_undo.specs.Records.{compensations, inverse_of}
use Rattle.im_restart_undo.specs.Undoing.{IsGoing, GoesTo, UsesUp, HasBegun, Restructured, EmptiedKept, HasMadeRoom, SplitKept, IsToUndo, TakenBack, CompensateKept, WantsRoom}
use Rattle.im_restart_undo.proofs.Ends.{late_capacity, late_cause, late_evicted, left_reading, no_capacity, late_short, no_memory}
use Rattle.im_restart_undo.proofs.Beside.{in_newer}
use Rattle.im_restart_undo.proofs.Begun.{begun_then, begun_since}
use Rattle.im_restart_undo.proofs.Growth.{owner_some, grown_front, going_ready, left_images, left_then, goes_images, goes_images_none, goes_then, goes_compensations}

-- ---- what is to be taken back

next_longer : (t : ℕ) (older longer : History) (x : Logged) → IsFront older longer → to_undo t longer ≡ to_undo t older → undo_next_of t longer ≡ undo_next_of t older → IsNext t older x → IsNext t longer x
next_longer t older longer x front stack next is = record {
  rest = is.rest;
  stack = stack ∙ is.stack;
  key = is.key;
  owner = is.owner;
  logged = subst (λ (l : History). IsRecordOf x l) front.is (in_newer x front.newer older is.logged);
  behind = subst (λ (n : ℕ). x.lsn ≤ n) (sym next) is.behind;
  falls = is.falls;
}

-- the same pages in another state of the writer
bodies_stay : (b : Base) (s t : Writer) → Keeps b s t → bodies t ≡ bodies s
bodies_stay b s t keeps = fun_ext (λ (p : ℕ). ap (λ (g : Page). g.body) (keeps.pages p).page)

module _ {D : Type 0} (d : Ghosts D) (b : Base) (base : ℕ) where
  module _ (s : Writer) (e t last undo_next : ℕ) (start : PageWriter) (old : D) (g : IsGoing d b base s e t last undo_next start old) where
    -- calls that add Images change no structure, and compensate nothing
    unfoldable pub images_made : (now : Writer) (w : PageWriter) (disk : D) → GoesOn d b base s old now w disk → Restructured d b base s e t last undo_next old w disk
    images_made now w disk on =
        let by = on.goes.keeps.log in
        record {
          now = now;
          goes = goes_images d b base s e t last undo_next start old now w disk g on;
          stack = ap (λ (l : History). to_undo t l) by.is ∙ images_to_undo b t by.images s.log (owner_some t g.owner) by.all;
          map = ap (λ (l : History). contents b l) by.is ∙ images_contents b by.images s.log by.all;
          none = goes_images_none d b base s e t last undo_next start old now w disk g on;
        }

    -- the same is to be taken back
    pub still_to_undo : (entry : Entry) (l : ℕ) (w : PageWriter) (disk : D) (made : Restructured d b base s e t l undo_next old w disk) → IsToUndo d b base s t entry → IsToUndo d b base made.now t entry
    still_to_undo entry l w disk made to = record {
      lsn = to.lsn;
      next = next_longer t s.log made.now.log (logged_at to.lsn entry) (grown_front t s.log made.now.log made.goes.grows) made.stack
          (ap (λ (r : Loser). r.undo_next) made.goes.going.row ∙ sym (ap (λ (r : Loser). r.undo_next) g.row)) to.next;
    }

    pub to_undo_on : (entry : Entry) (now : Writer) (w : PageWriter) (disk : D) → GoesOn d b base s old now w disk → IsToUndo d b base s t entry → IsToUndo d b base now t entry
    unfolding images_made
    to_undo_on entry now w disk on to = still_to_undo entry last w disk (images_made now w disk on) to

  module _ (s : Writer) (e t : ℕ) (entry : Entry) (old : D) where
    -- a compensation after a structure change
    pub restructured_then : (l m undo_next : ℕ) (v : PageWriter) (mid : D) (w : PageWriter) (new : D) (made : Restructured d b base s e t l undo_next old v mid) → TakenBack d b base made.now e t entry m mid w new
        → TakenBack d b base s e t entry m old w new
    restructured_then l m undo_next v mid w new made taken =
        let first : GoesTo d b base s e t l undo_next old made.now v mid = made.goes in
        let next : GoesTo d b base made.now e t m (prev_of entry) mid taken.now w new = taken.goes in
        record {
          now = taken.now;
          goes = goes_then d b base s e t l undo_next old made.now v mid first m (prev_of entry) taken.now w new next;
          lsn = taken.lsn;
          stack = sym made.stack ∙ taken.stack;
          map = taken.map ∙ ap (λ (x : IndexMap). contents_after (inverse_of (what_of entry)) x) made.map;
          once = ap (λ (rs : History). length rs)
              (goes_compensations d b base s e t l undo_next old made.now v mid first m (prev_of entry) taken.now w new next
              ∙ ap (λ (rs : History). compensations next.grows.more ++ rs) made.none ∙ append-nil (compensations next.grows.more)) ∙ taken.once;
        }

    -- and a structure change after a compensation
    pub taken_then : (l m : ℕ) (v : PageWriter) (mid : D) (w : PageWriter) (new : D) (taken : TakenBack d b base s e t entry l old v mid) → Restructured d b base taken.now e t m (prev_of entry) mid w new
        → TakenBack d b base s e t entry m old w new
    taken_then l m v mid w new taken made =
        let first : GoesTo d b base s e t l (prev_of entry) old taken.now v mid = taken.goes in
        let next : GoesTo d b base taken.now e t m (prev_of entry) mid made.now w new = made.goes in
        record {
          now = made.now;
          goes = goes_then d b base s e t l (prev_of entry) old taken.now v mid first m (prev_of entry) made.now w new next;
          lsn = taken.lsn;
          stack = taken.stack ∙ ap (λ (rest : History). logged_at taken.lsn entry ∷ rest) (sym made.stack);
          map = made.map ∙ taken.map;
          once = ap (λ (rs : History). length rs)
              (goes_compensations d b base s e t l (prev_of entry) old taken.now v mid first m (prev_of entry) made.now w new next
              ∙ ap (λ (rs : History). rs ++ compensations first.grows.more) made.none) ∙ taken.once;
        }

    -- ---- the plan

    -- it was refused
    pub plan_refused : (w : PageWriter) (new : D) (l undo_next : ℕ) (start : PageWriter) (f : Fault) (result : Result ℕ Fault) → IsGoing d b base s e t l undo_next start old → PlannedAlone (pages_of s) (what_of entry) (Err f)
        → Outcome d AreLoaded mild_to_take start old w new (Some f) → IsErrAnd result (λ x. x ≡ f) → CompensateKept d b base s e t entry old w new result
    plan_refused w new l undo_next start f result g planned one here = record {
      sound = sound_on result f (λ last. TakenBack d b base s e t entry last old w new) here planned.sound;
      stops = left_images d b base s t old new g.can.lawful (left_reading d b base s g.stands (going_ready d b base s e t l undo_next start old g) one);
      short = err_on result f (λ x. x ≡ Memory → WantsRoom (bodies s) (what_of entry)) here planned.short;
      used_up = err_on result f (λ x. x ≡ Capacity → UsesUp (bodies s) (what_of entry)) here planned.used_up;
      begun = err_on result f (λ x. x ≡ Failed → HasBegun d b base s t w new) here (λ failed. absurd (never_failed d f g.stands.working one failed));
    }

    -- after it the key record is taken back
    pub plan_then : (l undo_next : ℕ) (start v : PageWriter) (mid : D) (w : PageWriter) (new : D) (g : IsGoing d b base s e t l undo_next start old) (now : Writer) → GoesOn d b base s old now v mid
        → (result : Result ℕ Fault) → CompensateKept d b base now e t entry mid w new result → CompensateKept d b base s e t entry old w new result
    unfolding images_made
    plan_then l undo_next start v mid w new g now on result kept =
        let made : Restructured d b base s e t l undo_next old v mid = images_made s e t l undo_next start old g now v mid on in
        record {
          sound = sound_also result (λ last. TakenBack d b base now e t entry last mid w new) (λ last. TakenBack d b base s e t entry last old w new) kept.sound
              (λ last taken. restructured_then l last undo_next v mid w new made taken);
          stops = left_then d b base s e t l undo_next old now v mid made.goes new kept.stops;
          short = again_on result (λ x. x ≡ Memory) (WantsRoom (bodies now) (what_of entry)) (WantsRoom (bodies s) (what_of entry)) kept.short
              (λ lacks. subst (λ (pages : Pages). WantsRoom pages (what_of entry)) (bodies_stay b s now on.goes.keeps) lacks);
          used_up = again_on result (λ x. x ≡ Capacity) (UsesUp (bodies now) (what_of entry)) (UsesUp (bodies s) (what_of entry)) kept.used_up
              (λ up. subst (λ (pages : Pages). UsesUp pages (what_of entry)) (bodies_stay b s now on.goes.keeps) up);
          begun = again_on result (λ x. x ≡ Failed) (HasBegun d b base now t w new) (HasBegun d b base s t w new) kept.begun (λ is. begun_then d b base s now t w new made.goes.grows is);
        }

    -- a refusal that is handed on
    pub refused_on : (w : PageWriter) (new : D) (f : Fault) (result : Result ℕ Fault) → IsErrAnd result (λ x. x ≡ f) → CompensateKept d b base s e t entry old w new (Err f) → CompensateKept d b base s e t entry old w new result
    refused_on w new f result here kept = record {
      sound = sound_on result f (λ last. TakenBack d b base s e t entry last old w new) here kept.sound;
      stops = kept.stops;
      short = err_on result f (λ x. x ≡ Memory → WantsRoom (bodies s) (what_of entry)) here kept.short;
      used_up = err_on result f (λ x. x ≡ Capacity → UsesUp (bodies s) (what_of entry)) here kept.used_up;
      begun = err_on result f (λ x. x ≡ Failed → HasBegun d b base s t w new) here kept.begun;
    }

    -- ---- the leaf that was left empty

    pub drop_kept : (l : ℕ) (v : PageWriter) (mid : D) (w : PageWriter) (new : D) (taken : TakenBack d b base s e t entry l old v mid) (result : Result ℕ Fault)
        → IfErr result (λ x. (x ≡ Memory) ⊎ (x ≡ Capacity) → ⊥) → EmptiedKept d b base taken.now e t (prev_of entry) mid w new result → CompensateKept d b base s e t entry old w new result
    drop_kept l v mid w new taken (Ok last) never kept = record {
      sound = taken_then l last v mid w new taken kept.sound;
      stops = left_then d b base s e t l (prev_of entry) old taken.now v mid taken.goes new kept.stops;
      short = tt;
      used_up = tt;
      begun = tt;
    }
    drop_kept l v mid w new taken (Err f) never kept = record {
      sound = kept.sound;
      stops = left_then d b base s e t l (prev_of entry) old taken.now v mid taken.goes new kept.stops;
      short = λ is. absurd (never (inl is));
      used_up = λ is. absurd (never (inr is));
      begun = λ is. begun_then d b base s taken.now t w new taken.goes.grows (kept.begun is);
    }

    -- ---- the split of the leaf

    -- it was refused
    pub split_refused : (undo_next : ℕ) (key : Key) (leaf : ℕ) (w : PageWriter) (new : D) (f : Fault) (result : Result ℕ Fault) → IsErrAnd result (λ x. x ≡ f) → WantsRoom (bodies s) (what_of entry) → (f ≡ Capacity → ⊥)
        → SplitKept d b base s e t undo_next key leaf old w new (Err f) → CompensateKept d b base s e t entry old w new result
    split_refused undo_next key leaf w new f result here lacks never kept = record {
      sound = sound_on result f (λ last. TakenBack d b base s e t entry last old w new) here kept.sound;
      stops = kept.stops;
      short = err_on result f (λ x. x ≡ Memory → WantsRoom (bodies s) (what_of entry)) here (λ _. lacks);
      used_up = err_on result f (λ x. x ≡ Capacity → UsesUp (bodies s) (what_of entry)) here (λ up. absurd (never up));
      begun = err_on result f (λ x. x ≡ Failed → HasBegun d b base s t w new) here kept.begun;
    }

    module _ (last l undo_next : ℕ) (start : PageWriter) (g : IsGoing d b base s e t last undo_next start old) (to : IsToUndo d b base s t entry) (key : Key) (leaf : ℕ) (v : PageWriter) (mid : D)
        (room : HasMadeRoom d b base s e t l undo_next key leaf old v mid) (w : PageWriter) (new : D) where
      pub to_undo_behind : IsToUndo d b base room.made.now t entry
      to_undo_behind = still_to_undo s e t last undo_next start old g entry l v mid room.made to

      -- the key is back
      pub behind_split : (m : ℕ) → CompensateKept d b base room.made.now e t entry mid w new (Ok m) → CompensateKept d b base s e t entry old w new (Ok m)
      behind_split m kept = record {
        sound = restructured_then l m undo_next v mid w new room.made kept.sound;
        stops = left_then d b base s e t l undo_next old room.made.now v mid room.made.goes new kept.stops;
        short = tt;
        used_up = tt;
        begun = tt;
      }

      -- or that was refused
      pub late_refused : (f answer : Fault) → Logs d false no_page v mid w new (Some f) → (f ≡ Memory → answer ≡ Failed) → (f ≢ Memory → answer ≡ f) → CompensateKept d b base room.made.now e t entry mid w new (Err f)
          → CompensateKept d b base s e t entry old w new (Err answer)
      late_refused f answer one memory others kept =
          let now : Writer = room.made.now in
          let going : IsGoing d b base now e t l undo_next v mid = room.made.goes.going in
          let none : f ≡ Capacity → ⊥ = no_capacity d {A = ℕ} ⊥ (Err f) refl one in
          record {
            sound = late_cause f answer memory others kept.sound;
            stops = left_then d b base s e t l undo_next old now v mid room.made.goes new kept.stops;
            short = λ is. absurd (late_short f answer memory others (no_memory d refl one) is);
            used_up = λ is. absurd (late_capacity f answer memory others none is);
            begun = λ is. begun_since d b base s now t mid w new room.made.goes.grows room.some
                (late_evicted d f answer memory others is going.stands.working one b base now going.stands (going_ready d b base now e t l undo_next v mid going));
          }
