-- Each page stays, and the log has Images more: what that gives, and that an Image is such a step.
use Rattle.std.proofs.Common.{◌≡◌, ◌≢◌, ℕ, ◌+◌, ◌<◌, ◌≤◌, false, [], ◌∷◌, ◌++◌, Option, None, Some, refl, sym, ◌∙◌, ap, subst, append_assoc, arith}
use Rattle.std.specs.Prelude.{Result, Ok, Err, IfOk, OnOk}
use Rattle.im_theory_log.specs.Histories.{Base, History, IsFront, end_of}
use Rattle.im_theory_log.specs.Copies.{IsImage, AreImages, GrowsByImages}
use Rattle.im_theory_log.specs.PageCounts.{named_to}
use Rattle.im_theory_log.specs.Writer.{PageState, Writer, WriterKept}
use Rattle.im_theory_log.proofs.Cited.{front_of_front, front_self, reaches_exact}
use Rattle.im_page_table.specs.Growth.{image_at, image_pages, with_image, SamePage, Keeps}

-- what a call answers, said in another way
pub if_ok : {A E : Type 0} (r : Result A E) (P Q : A → Type 0) → IfOk r P → ((a : A) → P a → Q a) → IfOk r Q
if_ok (Ok a) P Q is to = to a is
if_ok (Err e) P Q is to = tt

pub on_ok : {A E : Type 0} (r : Result A E) (P Q : Type 0) → OnOk r P → (P → Q) → OnOk r Q
on_ok (Ok a) P Q is to = to is
on_ok (Err e) P Q is to = tt

-- ---- what stays

pub same_page : (x : PageState) → SamePage x x
same_page x = record { page = refl; waits = refl; found = refl; upto = omega arith; written = λ w. w }

pub same_then : (x y z : PageState) → SamePage x y → SamePage y z → SamePage x z
same_then x y z one two = record {
  page = two.page ∙ one.page;
  waits = two.waits ∙ one.waits;
  found = two.found ∙ one.found;
  upto = let low : x.upto ≤ y.upto = one.upto in let high : y.upto ≤ z.upto = two.upto in omega (arith, low, high);
  written = λ w. two.written (one.written w);
}

images_then : (b : Base) (more some older : History) → AreImages b some older → AreImages b more (some ++ older) → AreImages b (more ++ some) older
images_then b [] some older first next = first
images_then b (r ∷ more) some older first next = (subst (λ (l : History). IsImage b r l) (sym (append_assoc more some older)) next.0, images_then b more some older first next.1)

pub grows_then : (b : Base) (one two three : History) → GrowsByImages b one two → GrowsByImages b two three → GrowsByImages b one three
grows_then b one two three first next = record {
  images = next.images ++ first.images;
  is = next.is ∙ ap (λ (l : History). next.images ++ l) first.is ∙ sym (append_assoc next.images first.images one);
  all = images_then b next.images first.images one first.all (subst (λ (l : History). AreImages b next.images l) first.is next.all);
}

pub grows_none : (b : Base) (log : History) → GrowsByImages b log log
grows_none b log = record { images = []; is = refl; all = tt }

pub grown_front : (b : Base) (older longer : History) → GrowsByImages b older longer → IsFront older longer
grown_front b older longer grows = record { newer = grows.images; is = sym grows.is }

pub keeps_none : (b : Base) (s : Writer) → Keeps b s s
keeps_none b s = record { log = grows_none b s.log; durable = front_self s.durable; point = refl; redo_end = refl; pages = λ p. same_page (s.pages p) }

pub keeps_then : (b : Base) (s t u : Writer) → Keeps b s t → Keeps b t u → Keeps b s u
keeps_then b s t u one two = record {
  log = grows_then b s.log t.log u.log one.log two.log;
  durable = front_of_front s.durable t.durable u.durable one.durable two.durable;
  point = two.point ∙ one.point;
  redo_end = two.redo_end ∙ one.redo_end;
  pages = λ p. same_then (s.pages p) (t.pages p) (u.pages p) (one.pages p) (two.pages p);
}

-- a log that has begun goes on
pub begun_still : (b : Base) (s t : Writer) → Keeps b s t → s.log ≢ [] → t.log ≢ []
begun_still b s t keeps begun empty = by keeps.log.images (sym keeps.log.is ∙ empty)
  where
    by : (images : History) → images ++ s.log ≡ [] → ⊥
    by [] is = begun is
    by (r ∷ images) is = cc is

-- ---- the Image

module _ (b : Base) (s : Writer) (p l : ℕ) (kept : WriterKept b s) (ready : (s.pages p).waits ≡ false) (last : end_of b s.log < l) where
  -- what an Image leaves of each page
  page_imaged : (o : Option ℕ) (q : ℕ) → SamePage (s.pages q) (image_pages o l s.pages q)
  page_imaged None q = same_page (s.pages q)
  page_imaged (Some e) q = record {
    page = refl;
    waits = refl;
    found = refl;
    upto = let high : (s.pages q).upto ≤ end_of b s.log + 1 = (kept.pages q).high in omega (arith, high, last);
    written = λ w. w;
  }

  entry_imaged : (o : Option ℕ) (q : ℕ) → (image_pages o l s.pages q).entry ≡ (s.pages q).entry
  entry_imaged None q = refl
  entry_imaged (Some e) q = refl

  pub image_keeps : p < named_to s.log → (durable : History) → IsFront s.durable durable → Keeps b s (with_image l p durable s)
  image_keeps named durable grows = record {
    log = record {
      images = image_at l p (s.pages p).page ∷ [];
      is = refl;
      all = (
        record {
          copy = (s.pages p).page;
          what = refl;
          no_owner = refl;
          exact = reaches_exact b s.log (s.pages p).upto p (s.pages p).page kept.rises ((kept.pages p).now ready);
          named = named;
          rises = last;
        },
        tt,
      );
    };
    durable = grows;
    point = refl;
    redo_end = refl;
    pages = λ q. page_imaged s.redo_end q;
  }

  -- the dirty table is as it was
  pub image_entry : (durable : History) (q : ℕ) → ((with_image l p durable s).pages q).entry ≡ (s.pages q).entry
  image_entry durable q = entry_imaged s.redo_end q
