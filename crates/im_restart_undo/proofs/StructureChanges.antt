-- Structure changes on the way of an undo.
use Rattle.std.proofs.Common.{◌≡◌, ◌≤◌, ℕ, true, false, List, [], length, None, Result, Ok, Err, ap, sym, subst, ◌∙◌}
use Rattle.std.proofs.Math.Path.{fun_ext}
use Rattle.im_base_types.specs.declared.fault.Fault.{Fault}
use Rattle.im_base_types.specs.Keys.{Key}
use Rattle.im_theory_log.specs.Histories.{Base}
use Rattle.im_theory_log.specs.Structure.{settled}
use Rattle.im_theory_log.specs.Writer.{Writer}
use Rattle.im_base_disk.specs.declared.disk.Disk.{Ghosts}
use Rattle.im_page_writer.specs.declared.page_writer.PageWriter.{PageWriter}
use Rattle.im_page_writer.specs.Outcome.{AllPages, pages_of}
use Rattle.im_page_writer.specs.PageWriter.{Evicted}
use Rattle.im_theory_tree.specs.Good.{IsGoodTree}
use Rattle.im_theory_tree.specs.Levels.{Pages, walk}
use Rattle.im_theory_tree.specs.Plans.{applied}
use Rattle.im_theory_tree.specs.Search.{IsOnWay}
use Rattle.im_theory_tree.specs.Ways.{KeepsWays}
use Rattle.im_theory_page.specs.Split.{HasRoom}
use Rattle.im_tree_search.specs.Levels.{bodies, bodies_of}
use Rattle.im_smo_pages.specs.Images.{Numbered, held, plan_of}
use Rattle.im_smo_pages.specs.OnWay.{IsApart}
use Rattle.im_smo_pages.specs.Seen.{seen}
use Rattle.im_smo_split.specs.Plan.{Planned}
use Rattle.im_restart_analysis.specs.declared.rows.Loser.{Loser}
use Rattle.im_smo_log.specs.Changes.{LeavesChange, Begun, Changed, ChangeKept, MayChange, image_marks}
use Rattle.im_smo_log.proofs.Closing.{change_contents}
use Rattle.im_smo_log.proofs.Runs.{marked_is}
use Rattle.im_smo_actions.proofs.Told.{settled_is}
use Rattle.im_smo_actions.specs.GoingBeside.{settled_pages}
use Rattle.im_restart_undo.specs.Undoing.{IsGoing, HasBegun, Restructured, SplitKept, EmptiedKept}
use Rattle.im_restart_undo.proofs.Growth.{going_bodies, grows_change, none_change, left_change}
use Rattle.im_restart_undo.proofs.Composing.{images_made}
use Rattle.im_restart_undo.proofs.StructureLogs.{same_stack, row_is}

module _ {D : Type 0} (d : Ghosts D) (b : Base) (base : ℕ) where
  -- a record of one joined the log
  begun_as : (s : Writer) (t : ℕ) (w : PageWriter) (disk : D) → Begun d b base s t w disk → HasBegun d b base s t w disk
  unfolding grows_change
  begun_as s t w disk is = record { now = is.now; stands = is.stands; grows = grows_change t s.log is.now.log is.grows; some = is.some }

  module _ (s : Writer) (e t last undo_next : ℕ) (v : PageWriter) (old : D) (g : IsGoing d b base s e t last undo_next v old) where
    -- ---- the pages

    -- with no change open they are the settled ones
    pub settled_here : bodies s ≡ settled b s.log
    settled_here = going_bodies d b base s e t last undo_next v old g ∙ sym (settled_is b s.log g.can.closed)

    seen_same : (pages : AllPages) (images : List Numbered) → bodies s ≡ bodies_of pages → seen (pages_of s) images ≡ seen pages images
    seen_same pages images same = ap (λ (x : Pages). applied x (plan_of x images)) same

    -- a plan over them may be made
    pub may_change : (pages : AllPages) (images : List Numbered) → bodies s ≡ bodies_of pages → 1 ≤ length images → IsGoodTree (seen pages images) [] → walk (seen pages images) ≡ walk (bodies_of pages)
        → KeepsWays (bodies_of pages) (seen pages images) (IsApart images) → MayChange d b base s e images t last undo_next v old
    may_change pages images same some good walks ways = record {
      stands = g.stands;
      over = g.over;
      lawful = g.can.lawful;
      closed = g.can.closed;
      newest = ap (λ (r : Loser). r.last) g.row;
      undo = ap (λ (r : Loser). r.undo_next) g.row;
      unfinished = g.unfinished;
      some = some;
      good = subst (λ (x : Pages). IsGoodTree x []) (sym (seen_same pages images same)) good;
      same = ap walk (seen_same pages images same) ∙ walks ∙ ap walk (sym same);
      ways = subst (λ (x : Pages). KeepsWays x (held x images) (IsApart images)) (sym same) ways;
    }

    -- ---- the change

    -- it is undone still after a structure change
    unfoldable restructured : (images : List Numbered) (l : ℕ) (w : PageWriter) (disk : D) → Changed d b base s e images t undo_next l old w disk → LeavesChange d b base s t old disk → Restructured d b base s e t l undo_next old w disk
    restructured images l w disk made stops = record {
      now = made.now;
      goes = record {
        going = record {
          stands = made.stands;
          over = made.over;
          can = record { lawful = made.lawful; closed = made.closed };
          owner = g.owner;
          unfinished = made.unfinished;
          row = row_is t l undo_next made.now.log made.last made.undo;
        };
        point = made.point;
        durable = made.durable;
        grows = grows_change t s.log made.now.log made.grows;
        stops = left_change d b base s t old disk stops;
      };
      stack = same_stack b t t s.log made.now.log g.can (record { lawful = made.lawful; closed = made.closed }) made.grows;
      map = change_contents b t s.log made.now.log made.grows;
      none = none_change t s.log made.now.log made.grows;
    }

    -- ---- the split of a key's leaf

    pub split_kept : (key : Key) (images : List Numbered) (leaf : ℕ) → Planned false (settled_pages b s) key None images leaf → 1 ≤ length images → (w : PageWriter) (disk : D) (r : Result ℕ Fault) → ChangeKept d b base s e images t undo_next old w disk r
        → SplitKept d b base s e t undo_next key leaf old w disk r
    unfolding restructured grows_change
    split_kept key images leaf plan some w disk (Ok l) kept =
        let pages : bodies kept.sound.now ≡ seen (settled_pages b s) images = fun_ext kept.sound.pages ∙ seen_same (settled_pages b s) images settled_here in
        record {
          sound = record {
            made = restructured images l w disk kept.sound kept.stops;
            way = subst (λ (x : Pages). IsOnWay x 0 key leaf) (sym pages) (plan.way some);
            room = subst (λ (x : Pages). HasRoom true (x leaf).entries (key, 0)) (sym pages) (plan.fits leaf (plan.way some));
            some = marked_is t kept.sound.grows.more None (image_marks (length images) images) kept.sound.grows.all kept.sound.order;
          };
          stops = left_change d b base s t old disk kept.stops;
          begun = tt;
        }
    split_kept key images leaf plan some w disk (Err f) kept = record {
      sound = kept.sound;
      stops = left_change d b base s t old disk kept.stops;
      begun = λ failed. begun_as s t w disk (kept.begun failed);
    }

    -- ---- an empty leaf

    -- it left the tree, or that was refused
    pub emptied_kept : (images : List Numbered) (w : PageWriter) (disk : D) (r : Result ℕ Fault) → ChangeKept d b base s e images t undo_next old w disk r → EmptiedKept d b base s e t undo_next old w disk r
    emptied_kept images w disk (Ok l) kept = record { sound = restructured images l w disk kept.sound kept.stops; stops = left_change d b base s t old disk kept.stops; begun = tt }
    emptied_kept images w disk (Err f) kept = record { sound = kept.sound; stops = left_change d b base s t old disk kept.stops; begun = λ failed. begun_as s t w disk (kept.begun failed) }

    -- it stays for want of memory
    pub emptied_none : (w : PageWriter) (disk : D) → Evicted d b base s old w disk → LeavesChange d b base s t old disk → EmptiedKept d b base s e t undo_next old w disk (Ok last)
    emptied_none w disk now stops = record {
      sound = images_made d b base s e t last undo_next v old g now.now w disk now.on;
      stops = left_change d b base s t old disk stops;
      begun = tt;
    }
