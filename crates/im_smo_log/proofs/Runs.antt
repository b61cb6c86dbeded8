-- A writer of pages through a structure change.
use Rattle.std.proofs.Common.{◌≡◌, ◌≢◌, ◌⊎◌, ℕ, zero, suc, ◌+◌, ◌<◌, ◌≤◌, ◌-◌, Bool, true, false, List, [], ◌∷◌, length, drop, Option, Some, None, inl, inr, refl, sym, ap, subst, ◌∙◌, arith, ◌==◌, if◌then◌else◌}
use Rattle.std.proofs.Math.Path.{fun_ext}
use Rattle.std.proofs.lemmas.Bool.{cases_eq, cond-true, cond-false, eq-eqb, ne_eqb}
use Rattle.std.proofs.lemmas.List.{drop_more, drop_all}
use Rattle.im_base_types.specs.Pages.{Body, Page}
use Rattle.im_base_types.specs.Records.{What, InsertKey, DeleteKey, UndoInsert, UndoDelete, Smo, UndoSmo, DummyClr, Commit, End, Image, Checkpoint, Unreadable, Logged}
use Rattle.im_theory_log.specs.Histories.{Base, History, IsFront}
use Rattle.im_theory_log.specs.Lawful.{IsLawful}
use Rattle.im_theory_log.specs.Structure.{settled}
use Rattle.im_theory_log.specs.Transactions.{is_finished}
use Rattle.im_theory_log.specs.Tree.{with_body}
use Rattle.im_theory_log.specs.Writer.{PageState, Writer}
use Rattle.im_theory_log.specs.WriterSteps.{appended}
use Rattle.im_page_table.specs.KnownCopies.{changed_as, changed_page_as}
use Rattle.im_theory_log.proofs.Cited.{front_self}
use Rattle.im_base_disk.specs.declared.disk.Disk.{Ghosts}
use Rattle.im_base_disk.specs.Disk.{Files}
use Rattle.im_base_disk.proofs.Runs.{then_on, weakened}
use Rattle.im_log.proofs.Above.{front_then}
use Rattle.im_theory_page.specs.Header.{initial}
use Rattle.im_log_record.specs.Entry as entries
use Rattle.im_page_writer.specs.declared.page_writer.PageWriter.{PageWriter}
use Rattle.im_page_file.specs.Stands.{IsCovered}
use Rattle.im_page_flush.specs.Writing.{LeavesGrown}
use Rattle.im_page_writer.specs.Outcome.{pages_of}
use Rattle.im_page_writer.specs.PageWriter.{LoggedOnly, Evicted}
use Rattle.im_page_flush.proofs.Goings.{leaves_so_far}
use Rattle.im_page_file.proofs.Standing.{wider_covered}
use Rattle.im_page_writer.proofs.Writers.{goes_on_start}
use Rattle.im_theory_tree.specs.Levels.{Pages}
use Rattle.im_theory_tree.specs.Good.{AllOf}
use Rattle.im_theory_tree.specs.Theory.{page_tree}
use Rattle.im_theory_tree.specs.Ways.{StandsFor}
use Rattle.im_smo_pages.specs.Images.{Numbered, IsAbove, IsRising, image_of, image_at, held}
use Rattle.im_smo_pages.specs.Changed.{SamePages}
use Rattle.im_smo_pages.specs.OnWay.{IsApart}
use Rattle.im_smo_pages.specs.Seen.{bodies, seen}
use Rattle.im_smo_pages.proofs.ImageLemmas.{body_or, applied_image, rising_tail}
use Rattle.im_smo_pages.proofs.Updates.{at_other}
use Rattle.im_smo_log.specs.Logged.{smo_at, dummy_at, PageLogged}
use Rattle.im_smo_log.specs.Under.{IsUnderWay}
use Rattle.im_smo_log.specs.Changes.{IsOfChange, GrowsByChange, HasRecordOf, with_mark, marks, image_marks, AreCounted, LeftByChange, LeavesChange, MayChange, PagesLogged, Begun, Changed}
use Rattle.im_smo_log.proofs.ChangeLogs.{grows_images, grows_page, images_lawful, marks_images, marks_page}
use Rattle.im_smo_log.proofs.Closing.{closed_pages}
use Rattle.im_smo_log.proofs.Coming.{changes_begin, closes_may_come}
use Rattle.im_smo_log.proofs.Stepping.{page_is, step_goes}

-- ---- records of the change

-- the record is one of the transaction, or a mark stands after it
has_one : (t : ℕ) (r : Logged) (w : What) (older : History) (m : Option ℕ) (ms : List (Option ℕ)) → IsOfChange t r w → with_mark r w (marks older) ≡ m ∷ ms → (marks older ≡ m ∷ ms → HasRecordOf t older)
    → (r.txn ≡ t) ⊎ HasRecordOf t older
has_one t r (Smo was now) older m ms is marked rest = inl is
has_one t r DummyClr older m ms is marked rest = inl is
has_one t r (Image c) older m ms is marked rest = inr (rest marked)
has_one t r (InsertKey k i) older m ms is marked rest = absurd is
has_one t r (DeleteKey k i) older m ms is marked rest = absurd is
has_one t r (UndoInsert k i) older m ms is marked rest = absurd is
has_one t r (UndoDelete k i) older m ms is marked rest = absurd is
has_one t r (UndoSmo now) older m ms is marked rest = absurd is
has_one t r Commit older m ms is marked rest = absurd is
has_one t r End older m ms is marked rest = absurd is
has_one t r (Checkpoint n a dirty) older m ms is marked rest = absurd is
has_one t r Unreadable older m ms is marked rest = absurd is

pub marked_is : (t : ℕ) (more : History) (m : Option ℕ) (ms : List (Option ℕ)) → AllOf (λ (r : Logged). IsOfChange t r r.what) more → marks more ≡ m ∷ ms → HasRecordOf t more
marked_is t [] m ms all is = absurd (cc is)
marked_is t (r ∷ more) m ms all is = has_one t r r.what more m ms all.0 is (λ rest. marked_is t more m ms all.1 rest)

-- where an image is logged, the transaction has a record
images_begun : (t i : ℕ) (xs : List Numbered) (more : History) → 1 ≤ i → AllOf (λ (r : Logged). IsOfChange t r r.what) more → marks more ≡ image_marks i xs → HasRecordOf t more
images_begun t zero xs more some all is = absurd (omega (arith, some))
images_begun t (suc i) xs more some all is = marked_is t more (Some (image_at xs i).0) (image_marks i xs) all is

-- ---- images that are still to be logged

absent : (m n : ℕ) (xs : List Numbered) → IsAbove m xs → n ≤ m → image_of xs n ≡ None
absent m n [] up le = refl
absent m n (x ∷ xs) up le =
    let here : m < x.0 = up.0 in
    cond-false (x.0 == n) (Some x.1) (image_of xs n) (ne_eqb x.0 n (λ e. absurd (omega (arith, e, here, le)))) ∙ absent x.0 n xs up.1 (omega (arith, here, le))

drop_rises : (i : ℕ) (xs : List Numbered) → IsRising xs → IsRising (drop i xs)
drop_rises zero xs up = up
drop_rises (suc i) [] up = tt
drop_rises (suc i) (x ∷ xs) up = drop_rises i xs (rising_tail x xs up)

-- the first of them becomes the writer's page
seen_step : (s t : Writer) (x : Numbered) (rest : List Numbered) → IsAbove x.0 rest → ((q : ℕ) → bodies (pages_of t) q ≡ with_body (bodies (pages_of s)) x.0 x.1.body q) → SamePages (seen (pages_of t) rest) (seen (pages_of s) (x ∷ rest))
seen_step s t x rest up step q = applied_image (bodies (pages_of t)) rest q ∙ (elim (cases_eq x.0 q) [
  | inl here ↦
      ap (λ (o : Option Page). body_or o (bodies (pages_of t) q)) (absent x.0 q rest up (omega (arith, here)))
      ∙ step q ∙ cond-true (x.0 == q) x.1.body (bodies (pages_of s) q) (eq-eqb x.0 q here)
      ∙ sym (cond-true (x.0 == q) x.1.body (seen (pages_of s) rest q) (eq-eqb x.0 q here))
  | inr other ↦
      ap (λ (c : Body). body_or (image_of rest q) c) (step q ∙ at_other (bodies (pages_of s)) x.0 x.1.body q other)
      ∙ sym (applied_image (bodies (pages_of s)) rest q)
      ∙ sym (cond-false (x.0 == q) x.1.body (seen (pages_of s) rest q) (ne_eqb x.0 q other))
])

changed_bodies : (known : Bool) (lsn t prev p : ℕ) (was now : Body) (s : Writer) (q : ℕ) → bodies (pages_of (changed_as known (smo_at lsn t prev p was now) s)) q ≡ with_body (bodies (pages_of s)) p now q
changed_bodies known lsn t prev p was now s q = by (p == q) refl
  where
    by : (u : Bool) → (p == q) ≡ u → bodies (pages_of (changed_as known (smo_at lsn t prev p was now) s)) q ≡ with_body (bodies (pages_of s)) p now q
    by true is =
        ap (λ (x : PageState). x.page.body) (cond-true (p == q) (changed_page_as known (smo_at lsn t prev p was now) (s.pages q)) (s.pages q) is)
        ∙ sym (cond-true (p == q) now (bodies (pages_of s) q) is)
    by false is =
        ap (λ (x : PageState). x.page.body) (cond-false (p == q) (changed_page_as known (smo_at lsn t prev p was now) (s.pages q)) (s.pages q) is)
        ∙ sym (cond-false (p == q) now (bodies (pages_of s) q) is)

module _ {D : Type 0} (d : Ghosts D) (b : Base) (base : ℕ) where
  -- ---- what a stop leaves

  pub left_grown : (s : Writer) (t : ℕ) (now : Writer) (mid new : D) → IsFront s.durable now.durable → IsLawful b page_tree now.log → GrowsByChange t s.log now.log → LeavesGrown d b base now mid new → LeavesChange d b base s t mid new
  left_grown s t now mid new durable law grows stops =
      weakened d mid new (IsCovered b base now.durable stops.high) (LeftByChange d b base s t) stops.stops
      (λ told c is. record {
        high = stops.high;
        lawful = images_lawful b now.log stops.high stops.grows law;
        grows = grows_images b t s.log now.log stops.high grows stops.grows;
        covered = wider_covered d b base s.durable now.durable stops.high stops.high c durable (front_self stops.high) is;
      })

  stops_then : (s : Writer) (t : ℕ) (old mid new : D) → LeavesChange d b base s t old mid → LeavesChange d b base s t mid new → LeavesChange d b base s t old new
  stops_then s t old mid new first second = then_on d old mid new (LeftByChange d b base s t) (LeftByChange d b base s t) first second (λ told c left. left)

  module _ (s : Writer) (e : ℕ) (xs : List Numbered) (t undo_next : ℕ) where
    -- ---- in front of the first page

    abbrev none_more : GrowsByChange t s.log s.log
    none_more = record { more = []; is = refl; all = tt }

    pub stops_begin : (last : ℕ) (w : PageWriter) (disk : D) → ((c : Files) → d.left_since disk (d.moment disk) c → d.may_leave disk c) → MayChange d b base s e xs t last undo_next w disk → LeavesChange d b base s t disk disk
    stops_begin last w disk only_now may = left_grown s t s disk disk (front_self s.durable) may.lawful none_more (leaves_so_far d b base s disk s w.log w.table w.pool disk (goes_on_start d b base s w disk only_now may.stands).goes)

    -- with none open, the writer's pages are the settled ones
    settled_first : (last : ℕ) (w : PageWriter) (disk : D) → MayChange d b base s e xs t last undo_next w disk → bodies (pages_of s) ≡ settled b s.log
    settled_first last w disk may = fun_ext (λ (q : ℕ). ap (λ (g : Page). g.body) (page_is d b base s e w disk may.stands may.over q)) ∙ sym (closed_pages b s.log may.closed)

    pub pages_begin : (last : ℕ) (w : PageWriter) (disk : D) → ((c : Files) → d.left_since disk (d.moment disk) c → d.may_leave disk c) → t ≢ 0 → IsRising xs → MayChange d b base s e xs t last undo_next w disk
        → PagesLogged d b base s e xs t undo_next 0 last disk w disk
    pages_begin last w disk only_now some up may = record {
      now = s;
      stands = may.stands;
      over = may.over;
      point = refl;
      durable = front_self s.durable;
      under = changes_begin b t undo_next xs last s.log may.lawful some may.newest may.unfinished up may.closed may.undo
          (subst (λ (f : Pages). StandsFor f (held f xs) (IsApart xs)) (settled_first last w disk may) (record { good = may.good; same = may.same; ways = may.ways }));
      grows = none_more;
      order = refl;
      pages = λ p. refl;
      stops = stops_begin last w disk only_now may;
    }

    -- ---- the way through the pages

    pub pages_stops : (i prev : ℕ) (old : D) (w : PageWriter) (mid new : D) (so : PagesLogged d b base s e xs t undo_next i prev old w mid) → LeavesGrown d b base so.now mid new → LeavesChange d b base s t old new
    pages_stops i prev old w mid new so stops = stops_then s t old mid new so.stops (left_grown s t so.now mid new so.durable so.under.lawful so.grows stops)

    pub pages_next : (i prev lsn : ℕ) (old : D) (w : PageWriter) (mid : D) (v : PageWriter) (new : D) → IsRising xs → AreCounted xs → i < length xs → (so : PagesLogged d b base s e xs t undo_next i prev old w mid)
        → PageLogged d b base so.now t prev (image_at xs i).0 (image_at xs (length xs - 1)).0 (image_at xs i).1.body lsn v new → LeavesGrown d b base so.now mid new → PagesLogged d b base s e xs t undo_next (i + 1) lsn old v new
    pages_next i prev lsn old w mid v new up all within so done stops = record {
      now = after;
      stands = done.stands;
      over = done.keeps.redo_end ∙ so.over;
      point = done.keeps.point ∙ so.point;
      durable = front_then s.durable now.durable done.durable so.durable (front_then now.durable done.before.durable done.durable done.keeps.durable done.grows);
      under = subst (λ (n : ℕ). IsUnderWay b t undo_next xs n lsn after.log) one_more (step_goes d b base now e w mid so.stands so.over t undo_next xs i prev false lsn v new all within done so.under);
      grows = grows_page t s.log done.before.log lsn prev p was x.1.body among;
      order = marks_page t s.log done.before.log lsn prev p was x.1.body among
          ∙ ap (λ (ms : List (Option ℕ)). Some p ∷ ms) (marks_images b t s.log now.log done.before.log so.grows done.keeps.log ∙ so.order)
          ∙ ap (λ (n : ℕ). image_marks n xs) one_more;
      pages = λ q. seen_step now after x (drop (i + 1) xs) above step q ∙ ap (λ (l : List Numbered). seen (pages_of now) l q) (sym front) ∙ so.pages q;
      stops = pages_stops i prev old w mid new so stops;
    }
      where
        now : Writer
        now = so.now

        x : Numbered
        x = image_at xs i

        p : ℕ
        p = (image_at xs i).0

        was : Body
        was = (now.pages p).page.body

        after : Writer
        after = record (changed_as done.known (smo_at lsn t prev p was x.1.body) done.before) { durable = done.durable }

        one_more : suc i ≡ i + 1
        one_more = omega arith

        among : GrowsByChange t s.log done.before.log
        among = grows_images b t s.log now.log done.before.log so.grows done.keeps.log

        front : drop i xs ≡ x ∷ drop (i + 1) xs
        front = drop_more xs i (0, initial 0) within

        above : IsAbove p (drop (i + 1) xs)
        above = subst IsRising front (drop_rises i xs up)

        step : (q : ℕ) → bodies (pages_of after) q ≡ with_body (bodies (pages_of now)) p x.1.body q
        step q =
            changed_bodies done.known lsn t prev p was x.1.body done.before q
            ∙ ap (λ (c : Body). if p == q then x.1.body else c) (ap (λ (g : Page). g.body) (done.keeps.pages q).page)

    -- a page was not logged, after the first one
    pub pages_begun : (i prev : ℕ) (old : D) (w : PageWriter) (mid : D) (v : PageWriter) (new : D) → 1 ≤ i → (so : PagesLogged d b base s e xs t undo_next i prev old w mid)
        → Evicted d b base so.now mid v new → Begun d b base s t v new
    pages_begun i prev old w mid v new first so ev =
        let among = grows_images b t s.log so.now.log ev.now.log so.grows ev.on.goes.keeps.log in
        record {
          now = ev.now;
          stands = record { working = ev.on.working; writing = ev.on.goes.writing; known = ev.on.known };
          grows = among;
          some = images_begun t i xs among.more first among.all (marks_images b t s.log so.now.log ev.now.log so.grows ev.on.goes.keeps.log ∙ so.order);
        }

    -- ---- the end: pages in a row, and the record that closes them, are a run

    pub change_done : (last prev lsn : ℕ) (start : PageWriter) (old : D) (w : PageWriter) (mid : D) (v : PageWriter) (new : D) → MayChange d b base s e xs t last undo_next start old
        → (so : PagesLogged d b base s e xs t undo_next (length xs) prev old w mid) → LoggedOnly d b base so.now (entries.DummyClr t prev undo_next) lsn v new → Changed d b base s e xs t undo_next lsn old v new
    change_done last prev lsn start old w mid v new may so done =
        let now = so.now in
        let end = closes_may_come b t undo_next xs prev lsn now.log so.under may.some done.high in
        record {
          now = record (appended (dummy_at lsn t prev undo_next) now) { durable = done.durable };
          stands = done.stands;
          over = so.over;
          point = so.point;
          durable = front_then s.durable now.durable done.durable so.durable done.grows;
          pages = λ q. ap (λ (l : List Numbered). seen (pages_of now) l q) (sym (drop_all (length xs) xs (omega arith))) ∙ so.pages q;
          lawful = end.lawful;
          grows = record { more = dummy_at lsn t prev undo_next ∷ so.grows.more; is = ap (λ (l : History). dummy_at lsn t prev undo_next ∷ l) so.grows.is; all = (refl, so.grows.all) };
          order = ap (λ (ms : List (Option ℕ)). None ∷ ms) so.order;
          last = end.last;
          undo = end.undo;
          unfinished = cond-true (t == t) (is_finished t now.log) (is_finished t now.log) (eq-eqb t t refl) ∙ so.under.unfinished;
          closed = end.closed;
        }
