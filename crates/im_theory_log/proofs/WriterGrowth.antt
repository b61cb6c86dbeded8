-- More of the log may have become durable, by whatever call: fewer fronts can be left, so that what is kept is kept.
use Rattle.std.proofs.Common.{inl, inr, ℕ, Option}
use Rattle.im_theory_log.specs.Histories.{Base, History, IsFront}
use Rattle.im_base_types.specs.Pages.{Page}
use Rattle.im_theory_log.specs.RedoPoints.{redo_point}
use Rattle.im_theory_log.specs.Writer.{IsLeft, PageKept, PageState, ReachesInEach, Writer, WriterKept}
use Rattle.im_theory_log.proofs.Copies.{copy_grows}
use Rattle.im_theory_log.proofs.Histories.{front_of_front}

-- a front that a stop leaves then is one that it left before
pub left_grown : (durable more log h : History) → IsFront durable more → IsLeft more log h → IsLeft durable log h
left_grown durable more log h f w = record { from = front_of_front durable more h f w.from; upto = w.upto }

reaches_grown : (b : Base) (log durable more : History) (p m : ℕ) (o : Option Page) → IsFront durable more → ReachesInEach b durable log p m o → ReachesInEach b more log p m o
reaches_grown b log durable more p m o f r = record { page = r.page; is = r.is; all = λ h w. r.all h (left_grown durable more log h f w) }

page_grown : (b : Base) (log durable more : History) (point : ℕ) (redo_end : Option ℕ) (p : ℕ) (x : PageState) → IsFront durable more → PageKept b log durable point redo_end p x → PageKept b log more point redo_end p x
page_grown b log durable more point redo_end p x f k = record {
  low = k.low;
  high = k.high;
  run = k.run;
  now = k.now;
  written = λ ready done h w. k.written ready done h (left_grown durable more log h f w);
  clean = k.clean;
  entry = λ e is. let old = k.entry e is in record {
    low = λ h w. old.low h (left_grown durable more log h f w);
    high = old.high;
    own = old.own;
    untouched = λ untouched. let d = old.untouched untouched in record {
      since = d.since;
      has = elim d.has [
        | inl copy ↦ inl (copy_grows durable more p e.rec_lsn f copy)
        | inr here ↦ inr (reaches_grown b log durable more p e.rec_lsn x.synced f here)
      ];
    };
    copy = λ unsynced h w. copy_grows durable more p (redo_point h) f (old.copy unsynced h (left_grown durable more log h f w));
    copied = old.copied;
    written = old.written;
    older = λ unsynced t is. reaches_grown b log durable more p t x.reads f (old.older unsynced t is);
    named = old.named;
  };
  still = k.still;
  waiting = λ waits. let old = k.waiting waits in record { none = old.none; synced = old.synced; lsn = old.lsn; copy = old.copy; found = old.found };
  found = λ waits h w. k.found waits h (left_grown durable more log h f w);
}

-- A longer front of the log is durable.
pub grown_kept : (b : Base) (s : Writer) (more : History) → IsFront s.durable more → IsFront more s.log → WriterKept b s → WriterKept b (record s { durable = more })
grown_kept b s more below above k = record {
  rises = k.rises;
  front = above;
  points = λ h w. k.points h (left_grown s.durable more s.log h below w);
  copied = λ h w. k.copied h (left_grown s.durable more s.log h below w);
  exact = k.exact;
  first = k.first;
  over = k.over;
  pages = λ p. page_grown b s.log s.durable more s.point s.redo_end p (s.pages p) below (k.pages p);
}
