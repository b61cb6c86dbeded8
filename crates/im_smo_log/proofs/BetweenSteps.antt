-- A structure change that goes on over several steps: after records of others, after a page of its own, and after its end.
use Rattle.std.proofs.Common.{◌≡◌, ℕ, Bool, true, false, List, [], ◌∷◌, ◌++◌, Option, Some, None, refl, sym, ap, subst, ◌∙◌}
use Rattle.std.proofs.Math.Path.{fun_ext}
use Rattle.im_base_types.specs.Keys.{Key}
use Rattle.im_base_types.specs.Pages.{Page, Body, Entry}
use Rattle.im_base_types.specs.Records.{What, DummyClr, Logged}
use Rattle.im_theory_log.specs.Histories.{Base, History, changes_page, page_after, page_at}
use Rattle.im_theory_log.specs.Lawful.{MayCome}
use Rattle.im_theory_log.specs.LogLaws.{bodies}
use Rattle.im_theory_log.specs.Structure.{open_after, open_smo, settled, taken_back}
use Rattle.im_theory_log.proofs.Cited.{no_change, page_other, page_same, settled_smo}
use Rattle.im_theory_page.specs.Split.{HasRoom}
use Rattle.im_theory_tree.specs.Levels.{Pages, leaves_under, pages_under, the_root, height}
use Rattle.im_theory_tree.specs.Good.{IsGoodTree}
use Rattle.im_theory_tree.specs.Same.{SameTree, SameButMark}
use Rattle.im_theory_tree.specs.Search.{IsOnWay}
use Rattle.im_theory_tree.specs.Theory.{page_tree}
use Rattle.im_theory_tree.proofs.Cited.{leaves_same, first_of_tree, all_everywhere, marks_keep, same_leaves_same_ways}
use Rattle.im_smo_pages.specs.Images.{Numbered, image_of, held}
use Rattle.im_smo_pages.proofs.ImageLemmas.{body_or, applied_image}
use Rattle.im_smo_log.specs.BetweenSteps.{IsRecordBeside, OthersGoOn, PagesKeepSettled, InsertsMayEnd}
use Rattle.im_smo_log.proofs.Going.{made_all}
use Rattle.im_smo_log.proofs.Others.{open_same, others_keep, ways_keep}

-- ---- others

module _ (t : ℕ) (images : List Numbered) (b : Base) (r : Logged) (older : History) (is : IsRecordBeside t images r) where
  opened_same : open_smo (r ∷ older) ≡ open_smo older
  opened_same = open_same r r.what (open_smo older) is.plain

  -- a page of the plan is as it was
  planned_same : (p : ℕ) (g : Page) → image_of images p ≡ Some g → page_at b (r ∷ older) p ≡ page_at b older p
  planned_same p g some = by (changes_page r.what) refl
    where
      by : (c : Bool) → changes_page r.what ≡ c → page_at b (r ∷ older) p ≡ page_at b older p
      by false says = page_same b r older (λ q. no_change r.lsn r.what q says) p
      by true says = page_other b r older p (λ e. let never : None ≡ Some g = sym (is.apart says) ∙ ap (image_of images) e ∙ some in absurd (cc never))

  planned_settled : (p : ℕ) (g : Page) → image_of images p ≡ Some g → settled b (r ∷ older) p ≡ settled b older p
  planned_settled p g some = ap (λ (l : History). taken_back l p (page_at b (r ∷ older) p).body) opened_same ∙ ap (λ (q : Page). taken_back (open_smo older) p q.body) (planned_same p g some)

pub others_go_on : OthersGoOn
others_go_on b t undo_next images done prev [] older under law all = record { under = under; ways = λ key p on. on; opened = refl; settled_same = λ p g some. refl }
others_go_on b t undo_next images done prev (r ∷ rs) older under law all =
    let rest = others_go_on b t undo_next images done prev rs older under law.0 all.1 in
    let one = all.0 in
    record {
      under = others_keep b t undo_next images done prev r (rs ++ older) rest.under law one.other one.plain one.apart;
      ways = λ key p on. ways_keep b t undo_next images done prev r (rs ++ older) rest.under law one.other one.plain one.apart key p (rest.ways key p on);
      opened = opened_same t images b r (rs ++ older) one ∙ rest.opened;
      settled_same = λ p g some. planned_settled t images b r (rs ++ older) one p g some ∙ rest.settled_same p g some;
    }

-- ---- its owner

pub pages_keep_settled : PagesKeepSettled
pages_keep_settled b r older old new law is p =
    let may = subst (λ (w : What). MayCome b page_tree r older w) is law.1.may in
    settled_smo b r older old new is may.new_in may.before p

-- trees that are the same but for marks have the same ways
same_ways : (pages new : Pages) (key : Key) (p : ℕ) → ((x : ℕ) → SameButMark (pages x) (new x)) → IsGoodTree pages [] → IsOnWay pages 0 key p → IsOnWay new 0 key p
same_ways pages new key p same good way =
    let s = all_everywhere (λ (x : ℕ). SameTree (pages x) (new x)) (pages_under pages (height pages) the_root) (λ x. (same x).0) in
    let tall : height new ≡ height pages = (first_of_tree pages new (height pages) s).level in
    same_leaves_same_ways pages new key p (marks_keep pages new [] same good).0 (ap (λ (k : ℕ). leaves_under new k the_root) tall ∙ leaves_same pages new (height pages) the_root s) way

module _ (b : Base) (r : Logged) (log : History) (is : r.what ≡ DummyClr) where
  closed_page : (p : ℕ) → settled b (r ∷ log) p ≡ bodies b log p
  closed_page p =
      ap (λ (l : History). taken_back l p (page_at b (r ∷ log) p).body) (ap (λ (w : What). open_after r w (open_smo log)) is)
      ∙ ap (λ (q : Page). q.body) (page_same b r log (λ q. ap (λ (w : What). page_after r.lsn w q) is ∙ no_change r.lsn DummyClr q refl) p)

  -- after the record that closes a change the pages are settled as they stand
  closed_pages : settled b (r ∷ log) ≡ bodies b log
  closed_pages = fun_ext closed_page

pub inserts_may_end : InsertsMayEnd
inserts_may_end b t undo_next images prev r log key leaf g way is on some room =
    let same : (p : ℕ) → SameButMark (held (settled b log) images p) (bodies b log p) = λ p. made_all b t undo_next images prev log way p (image_of images p) refl in
    let closed = closed_pages b r log is in
    let image : held (settled b log) images leaf ≡ g.body = applied_image (settled b log) images leaf ∙ ap (λ (o : Option Page). body_or o (settled b log leaf)) some in
    let entries : (settled b (r ∷ log) leaf).entries ≡ g.body.entries = ap (λ (f : Pages). (f leaf).entries) closed ∙ (same leaf).0.entries ∙ ap (λ (c : Body). c.entries) image in (
      subst (λ (f : Pages). IsOnWay f 0 key leaf) (sym closed) (same_ways (held (settled b log) images) (bodies b log) key leaf same way.stands.good on),
      subst (λ (es : List Entry). HasRoom true es (key, 0)) (sym entries) room,
    )
