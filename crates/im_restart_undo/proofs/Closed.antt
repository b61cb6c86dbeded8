-- Where no structure change is open, what is kept beside one is what is kept without.
use Rattle.std.proofs.Common.{◌≡◌, ℕ, List, [], ◌∷◌, Result, Ok, Err, sym, ◌∙◌, ap, subst}
use Rattle.std.specs.Prelude.{IfErr}
use Rattle.std.proofs.Math.Path.{fun_ext}
use Rattle.im_base_types.specs.declared.fault.Fault.{Fault}
use Rattle.im_base_types.specs.declared.fault.Fault.TheVariants.{Capacity, Memory}
use Rattle.im_base_types.specs.Pages.{Body}
use Rattle.im_base_types.specs.Records.{Logged}
use Rattle.im_theory_log.specs.Histories.{Base, History}
use Rattle.im_theory_log.specs.Lawful.{IsNotIn, IsOutside}
use Rattle.im_theory_log.specs.Structure.{open_smo}
use Rattle.im_theory_log.specs.Writer.{Writer}
use Rattle.im_base_disk.specs.declared.disk.Disk.{Ghosts}
use Rattle.im_log_record.specs.Entry.{Entry}
use Rattle.im_log.specs.Whats.{what_of}
use Rattle.im_page_writer.specs.declared.page_writer.PageWriter.{PageWriter}
use Rattle.im_page_writer.specs.Outcome.{pages_of}
use Rattle.im_page_writer.proofs.Outcomes.{sound_also}
use Rattle.im_theory_tree.specs.Good.{AllOf}
use Rattle.im_tree_search.specs.Levels.{bodies}
use Rattle.im_smo_pages.specs.Images.{Numbered}
use Rattle.im_smo_split.specs.declared.split_plan.SplitPlan.{SplitPlan}
use Rattle.im_smo_actions.specs.GoingBeside.{settled_pages}
use Rattle.im_restart_undo.specs.declared.back.Back.{Back}
use Rattle.im_restart_undo.specs.declared.back.Back.TheVariants.{Plain, Split, Drop}
use Rattle.im_restart_undo.specs.GoingBeside.{BackKept, IsGoingBeside, TakenBeside}
use Rattle.im_restart_undo.specs.Planning.{IsOutOf}
use Rattle.im_restart_undo.specs.Undoing.{CompensateKept, IsGoing, TakenBack, UsesUp, WantsRoom}
use Rattle.im_restart_undo.proofs.StructureChanges.{settled_here}

-- nothing stands in the way where none is open
pub out_of_none : (going : History) (back : Back) → going ≡ [] → IsOutOf going back
out_of_none going (Plain p) closed = subst (λ (l : History). IsNotIn p l) (sym closed) tt
out_of_none going (Split plan) closed = closed
out_of_none going (Drop p images) closed = closed

pub if_err : {A : Type 0} (r : Result A Fault) {P : Fault → Type 0} → ((f : Fault) → P f) → IfErr r P
if_err (Ok a) all = tt
if_err (Err f) all = all f

all_units : (rs : History) → AllOf (λ (r : Logged). Unit {0}) rs
all_units [] = tt
all_units (r ∷ rs) = (tt, all_units rs)

module _ {D : Type 0} (d : Ghosts D) (b : Base) (base : ℕ) where
  module _ (s : Writer) (e t last undo_next : ℕ) (w : PageWriter) (disk : D) where
    pub closed_beside : IsGoing d b base s e t last undo_next w disk → IsGoingBeside d b base s e t last undo_next w disk
    closed_beside g = record {
      stands = g.stands;
      over = g.over;
      lawful = g.can.lawful;
      outside = subst (λ (l : History). IsOutside t l) (sym g.can.closed) tt;
      owner = g.owner;
      unfinished = g.unfinished;
      row = g.row;
    }

    pub beside_closed : open_smo s.log ≡ [] → IsGoingBeside d b base s e t last undo_next w disk → IsGoing d b base s e t last undo_next w disk
    beside_closed closed g = record {
      stands = g.stands;
      over = g.over;
      can = record { lawful = g.lawful; closed = closed };
      owner = g.owner;
      unfinished = g.unfinished;
      row = g.row;
    }

    -- the settled pages are those that the writer shows
    pub settled_pages_are : IsGoing d b base s e t last undo_next w disk → settled_pages b s ≡ pages_of s
    settled_pages_are g = fun_ext (λ (p : ℕ). ap (λ (x : Body). record (s.pages p).page { body = x }) (ap (λ (pages : ℕ → Body). pages p) (sym (settled_here d b base s e t last undo_next w disk g))))

  module _ (s : Writer) (e t : ℕ) (entry : Entry) (closed : open_smo s.log ≡ []) (old : D) (w : PageWriter) (disk : D) where
    unfoldable pub taken_closed : (back : Back) (last : ℕ) → TakenBeside d b base s e t entry back last old w disk → TakenBack d b base s e t entry last old w disk
    taken_closed back last taken = record {
      now = taken.now;
      goes = record {
        going = beside_closed taken.now e t last _ w disk (taken.going_on ∙ closed) taken.going;
        point = taken.point;
        durable = taken.durable;
        grows = taken.grows;
        stops = taken.stops;
      };
      lsn = taken.lsn;
      stack = taken.stack;
      map = taken.map;
      once = taken.once;
    }

    pub kept_closed : (back : Back) (result : Result ℕ Fault) → IfErr result (λ f. f ≡ Memory → WantsRoom (bodies s) (what_of entry)) → IfErr result (λ f. f ≡ Capacity → UsesUp (bodies s) (what_of entry))
        → BackKept d b base s e t entry back old w disk result → CompensateKept d b base s e t entry old w disk result
    kept_closed back result short used_up kept = record {
      sound = sound_also result (λ last. TakenBeside d b base s e t entry back last old w disk) (λ last. TakenBack d b base s e t entry last old w disk) kept.sound (λ last taken. taken_closed back last taken);
      stops = kept.stops;
      short = short;
      used_up = used_up;
      begun = kept.begun;
    }

    taken_split : (plan : SplitPlan) (last : ℕ) → TakenBack d b base s e t entry last old w disk → TakenBeside d b base s e t entry (Split plan) last old w disk
    taken_split plan last taken = record {
      now = taken.now;
      going = closed_beside taken.now e t last _ w disk taken.goes.going;
      point = taken.goes.point;
      durable = taken.goes.durable;
      grows = taken.goes.grows;
      stops = taken.goes.stops;
      lsn = taken.lsn;
      stack = taken.stack;
      map = taken.map;
      once = taken.once;
      going_on = taken.goes.going.can.closed ∙ sym closed;
      planned = all_units taken.goes.grows.more;
      pages = tt;
    }

    taken_drop : (p : ℕ) (images : List Numbered) (last : ℕ) → TakenBack d b base s e t entry last old w disk → TakenBeside d b base s e t entry (Drop p images) last old w disk
    taken_drop p images last taken = record {
      now = taken.now;
      going = closed_beside taken.now e t last _ w disk taken.goes.going;
      point = taken.goes.point;
      durable = taken.goes.durable;
      grows = taken.goes.grows;
      stops = taken.goes.stops;
      lsn = taken.lsn;
      stack = taken.stack;
      map = taken.map;
      once = taken.once;
      going_on = taken.goes.going.can.closed ∙ sym closed;
      planned = all_units taken.goes.grows.more;
      pages = tt;
    }

    pub kept_split : (plan : SplitPlan) (result : Result ℕ Fault) → CompensateKept d b base s e t entry old w disk result → BackKept d b base s e t entry (Split plan) old w disk result
    kept_split plan result kept = record {
      sound = sound_also result (λ last. TakenBack d b base s e t entry last old w disk) (λ last. TakenBeside d b base s e t entry (Split plan) last old w disk) kept.sound (λ last taken. taken_split plan last taken);
      stops = kept.stops;
      short = if_err result (λ _ _. tt);
      begun = kept.begun;
    }

    pub kept_drop : (p : ℕ) (images : List Numbered) (result : Result ℕ Fault) → IfErr result (λ f. f ≡ Memory → ⊥) → CompensateKept d b base s e t entry old w disk result → BackKept d b base s e t entry (Drop p images) old w disk result
    kept_drop p images result never kept = record {
      sound = sound_also result (λ last. TakenBack d b base s e t entry last old w disk) (λ last. TakenBeside d b base s e t entry (Drop p images) last old w disk) kept.sound (λ last taken. taken_drop p images last taken);
      stops = kept.stops;
      short = never;
      begun = kept.begun;
    }
