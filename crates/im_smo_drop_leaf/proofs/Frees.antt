-- Pages given back in a row.
use Rattle.std.proofs.Common.{◌≡◌, ℕ, ◌≤◌, List, [], ◌∷◌, ◌++◌, length, None, inl, inr, refl, sym, ap, subst, ◌∙◌, arith, append_assoc}
use Rattle.std.specs.Prelude.{IsSome}
use Rattle.std.proofs.Math.Path.{fun_ext}
use Rattle.std.proofs.lemmas.Bool.{cases_eq}
use Rattle.im_base_types.specs.Pages.{Body}
use Rattle.im_theory_log.specs.Tree.{with_body}
use Rattle.im_base_types.specs.declared.page_kind.PageKind.TheVariants.{Free}
use Rattle.im_base_disk.specs.declared.disk.Disk.{Ghosts}
use Rattle.im_theory_page.specs.Header.{empty_body}
use Rattle.im_page_writer.specs.declared.page_writer.PageWriter.{PageWriter}
use Rattle.im_page_writer.specs.Outcome.{AllPages}
use Rattle.im_page_writer.proofs.Outcomes.{pages_still}
use Rattle.im_theory_tree.specs.Levels.{Pages}
use Rattle.im_theory_tree.specs.Good.{times, IsGoodTree}
use Rattle.im_theory_tree.proofs.Cited.{times-append, relisted}
use Rattle.im_smo_pages.specs.Bodies.{meta_with_first}
use Rattle.im_smo_pages.specs.Changed.{SamePages, free_given_pages}
use Rattle.im_smo_pages.specs.Images.{Numbered, image_of}
use Rattle.im_smo_pages.specs.Seen.{seen, GivesPage}
use Rattle.im_smo_pages.specs.Kept.{HasImages, Plans}
use Rattle.im_smo_pages.proofs.Updates.{at_here}
use Rattle.im_smo_drop_leaf.specs.Given.{IsGiven}

-- the last page of a list in front of it
turned : (x q : ℕ) (xs : List ℕ) → times x (q ∷ xs) ≡ times x (xs ++ q ∷ [])
turned x q xs = omega (arith, times-append x xs (q ∷ []))

has_one : (xs : List Numbered) (n : ℕ) → IsSome (image_of xs n) → 1 ≤ length xs
has_one [] n is = absurd (cc is)
has_one (x ∷ xs) n is = omega arith

-- the page that is given back is free
freed : (store : AllPages) (images new : List Numbered) (spare : List ℕ) (q : ℕ) → GivesPage store images spare q new → (seen store new q).kind ≡ Free
freed store images new spare q gives =
    ap (λ (c : Body). c.kind)
    (gives.pages q ∙ at_here (with_body (seen store images) 0 (meta_with_first (seen store images 0) q)) q (empty_body Free 0 0 (seen store images 0).next 0))

none_behind : (xs : List ℕ) → xs ++ [] ≡ xs
none_behind [] = refl
none_behind (x ∷ xs) = ap (λ (ys : List ℕ). x ∷ ys) (none_behind xs)

pub given_first : (store : AllPages) (images new : List Numbered) (spare : List ℕ) (q : ℕ) → GivesPage store images spare q new → IsGiven store images new q spare spare
given_first store images new spare q gives = record {
  done = [];
  parts = sym (none_behind spare);
  pages = gives.pages;
  good = gives.good;
  same = gives.same;
  some = has_one new q gives.there;
  other = gives.other;
  gone = freed store images new spare q gives;
}

-- one more
pub given_more : (store : AllPages) (images mid new : List Numbered) (above spare more : List ℕ) (leaf q : ℕ) → more ≡ spare ++ q ∷ [] → IsGiven store images mid leaf above more → GivesPage store mid spare q new → IsGiven store images new leaf above spare
given_more store images mid new above spare more leaf q is one gives = record {
  done = q ∷ one.done;
  parts = one.parts ∙ ap (λ (xs : List ℕ). xs ++ one.done) is ∙ append_assoc spare (q ∷ []) one.done;
  pages = subst (λ (f : Pages). SamePages (seen store new) (free_given_pages f q)) (fun_ext one.pages) gives.pages;
  good = gives.good;
  same = gives.same ∙ one.same;
  some = has_one new q gives.there;
  other = one.other;
  gone = elim (cases_eq leaf q) [
    | inl here ↦ subst (λ (x : ℕ). (seen store new x).kind ≡ Free) (sym here) (freed store mid new spare q gives)
    | inr away ↦ ap (λ (c : Body). c.kind) (gives.rest leaf one.other away) ∙ one.gone
  ];
}

pub none_left : {X : Type 0} (n : ℕ) (es : List X) → n ≡ length es → n ≡ 0 → es ≡ []
none_left n [] is none = refl
none_left n (e ∷ es) is none = absurd (omega (arith, is, none))

-- the last page of the spare ones may be given back
last_good : (pages : Pages) (xs : List ℕ) (q : ℕ) → IsGoodTree pages (xs ++ q ∷ []) → IsGoodTree pages (q ∷ xs)
last_good pages xs q good = relisted pages (xs ++ q ∷ []) (q ∷ xs) (λ x. turned x q xs) good

module _ {D : Type 0} (d : Ghosts D) where
  pub last_first : (pages : AllPages) (images : List Numbered) (xs : List ℕ) (q : ℕ) (w : PageWriter) (disk : D) → HasImages d pages images (xs ++ q ∷ []) w disk → HasImages d pages images (q ∷ xs) w disk
  last_first pages images xs q w disk tree = record { has = tree.has; good = last_good (seen pages images) xs q tree.good }

  -- and the next one after it
  pub next_given : (pages : AllPages) (images mid : List Numbered) (leaf : ℕ) (above spare rest all : List ℕ) (q : ℕ) {v : PageWriter} {old : D} {w : PageWriter} {disk : D} → HasImages d pages images all v old → Plans d v old w disk None
      → IsGiven pages images mid leaf above spare → spare ≡ rest ++ q ∷ [] → HasImages d pages mid (q ∷ rest) w disk
  next_given pages images mid leaf above spare rest all q {v} {old} {w} {disk} tree one given is = record {
    has = pages_still d tree.has one;
    good = last_good (seen pages mid) rest q (subst (IsGoodTree (seen pages mid)) is given.good);
  }
