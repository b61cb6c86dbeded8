-- A log through a structure change.
use Rattle.std.proofs.Common.{◌≡◌, ◌≢◌, ⊎_elim, ℕ, zero, suc, ◌-◌, ◌<◌, ◌≤◌, List, [], ◌∷◌, ◌++◌, length, Some, refl, sym, ap, subst, ◌∙◌, append_assoc, arith, ◌==◌}
use Rattle.std.specs.Prelude.{◌||◌}
use Rattle.std.proofs.lemmas.Bool.{cases_lt, cond-false, ne_eqb}
use Rattle.im_base_types.specs.Pages.{Body}
use Rattle.im_base_types.specs.Records.{What, Logged}
use Rattle.im_theory_log.specs.Histories.{Base, History}
use Rattle.im_theory_log.specs.Copies.{AreImages, GrowsByImages}
use Rattle.im_theory_log.specs.Lawful.{IsLawful}
use Rattle.im_theory_log.specs.Transactions.{is_end, is_finished}
use Rattle.im_theory_log.proofs.Cited.{lawful_images}
use Rattle.im_theory_tree.specs.Good.{AllOf}
use Rattle.im_theory_tree.specs.Theory.{page_tree}
use Rattle.im_smo_pages.specs.Images.{Numbered, IsRising, image_at}
use Rattle.im_smo_pages.proofs.ImageLemmas.{above_all, rising_tail}
use Rattle.im_smo_log.specs.Logged.{smo_at}
use Rattle.im_smo_log.specs.Changes.{IsOfChange, GrowsByChange, with_mark, marks}

-- ---- numbers that rise

pub rising_lt : (xs : List Numbered) (i k : ℕ) → IsRising xs → i < k → k < length xs → (image_at xs i).0 < (image_at xs k).0
rising_lt [] i k up lt within = absurd (omega arith)
rising_lt (x ∷ xs) zero zero up lt within = absurd (omega arith)
rising_lt (x ∷ xs) zero (suc k) up lt within = above_all x.0 xs k up (omega arith)
rising_lt (x ∷ xs) (suc i) zero up lt within = absurd (omega arith)
rising_lt (x ∷ xs) (suc i) (suc k) up lt within = rising_lt xs i k (rising_tail x xs up) (omega arith) (omega arith)

-- none is past the last one
pub last_most : (xs : List Numbered) (i : ℕ) → IsRising xs → i < length xs → (image_at xs i).0 ≤ (image_at xs (length xs - 1)).0
last_most xs i up within = ⊎_elim
    (λ (less : i < length xs - 1). let under = rising_lt xs i (length xs - 1) up less (omega (arith, within)) in omega (arith, under))
    (λ (more : length xs - 1 ≤ i). let same : i ≡ length xs - 1 = omega (arith, more, within) in omega (arith, ap (λ (k : ℕ). (image_at xs k).0) same))
    (cases_lt i (length xs - 1))

-- ---- Images

pub images_finished : (b : Base) (t : ℕ) (images older : History) → t ≢ 0 → AreImages b images older → is_finished t (images ++ older) ≡ is_finished t older
images_finished b t [] older some all = refl
images_finished b t (r ∷ images) older some all =
    cond-false (r.txn == t) (is_end r.what || is_finished t (images ++ older)) (is_finished t (images ++ older)) (ne_eqb r.txn t (λ e. some (sym e ∙ all.0.no_owner)))
    ∙ images_finished b t images older some all.1

images_of_change : (b : Base) (t : ℕ) (images older : History) → AreImages b images older → AllOf (λ (r : Logged). IsOfChange t r r.what) images
images_of_change b t [] older all = tt
images_of_change b t (r ∷ images) older all = (subst (λ (w : What). IsOfChange t r w) (sym all.0.what) all.0.no_owner, images_of_change b t images older all.1)

images_marks : (b : Base) (images older more : History) → AreImages b images older → marks (images ++ more) ≡ marks more
images_marks b [] older more all = refl
images_marks b (r ∷ images) older more all = ap (λ (w : What). with_mark r w (marks (images ++ more))) all.0.what ∙ images_marks b images older more all.1

pub all_append : (P : Logged → Type 0) (one two : History) → AllOf P one → AllOf P two → AllOf P (one ++ two)
all_append P [] two first second = second
all_append P (r ∷ one) two first second = (first.0, all_append P one two first.1 second)

pub grows_images : (b : Base) (t : ℕ) (older log longer : History) → GrowsByChange t older log → GrowsByImages b log longer → GrowsByChange t older longer
grows_images b t older log longer grows images = record {
  more = images.images ++ grows.more;
  is = images.is ∙ ap (λ (l : History). images.images ++ l) grows.is ∙ sym (append_assoc images.images grows.more older);
  all = all_append (λ (r : Logged). IsOfChange t r r.what) images.images grows.more (images_of_change b t images.images log images.all) grows.all;
}

pub images_lawful : (b : Base) (log longer : History) → GrowsByImages b log longer → IsLawful b page_tree log → IsLawful b page_tree longer
images_lawful b log longer images law = subst (IsLawful b page_tree) (sym images.is) (lawful_images b page_tree images.images log images.all law)

pub marks_images : (b : Base) (t : ℕ) (older log longer : History) (grows : GrowsByChange t older log) (images : GrowsByImages b log longer) → marks (grows_images b t older log longer grows images).more ≡ marks grows.more
unfolding grows_images
marks_images b t older log longer grows images = images_marks b images.images log grows.more images.all

-- ---- one record more

pub grows_page : (t : ℕ) (older log : History) (lsn prev p : ℕ) (was now : Body) → GrowsByChange t older log → GrowsByChange t older (smo_at lsn t prev p was now ∷ log)
grows_page t older log lsn prev p was now grows = record {
  more = smo_at lsn t prev p was now ∷ grows.more;
  is = ap (λ (l : History). smo_at lsn t prev p was now ∷ l) grows.is;
  all = (refl, grows.all);
}

pub marks_page : (t : ℕ) (older log : History) (lsn prev p : ℕ) (was now : Body) (grows : GrowsByChange t older log) → marks (grows_page t older log lsn prev p was now grows).more ≡ Some p ∷ marks grows.more
unfolding grows_page
marks_page t older log lsn prev p was now grows = refl
