-- Pages as a structure change has them: its images in the place of the writer's pages.
use Rattle.std.specs.Prelude.{◌≡◌, ◌≢◌, ◌≤◌, ℕ, List, ◌∷◌, IsSome, Option, Some, None, if◌then◌else◌, ◌==◌}
use Rattle.im_base_types.specs.Pages.{Body, Page}
use Rattle.im_page_writer.specs.Outcome.{AllPages}
use Rattle.im_theory_tree.specs.Levels.{Pages, walk}
use Rattle.im_theory_tree.specs.Good.{IsGoodTree}
use Rattle.im_theory_tree.specs.Plans.{applied}
use Rattle.im_smo_pages.specs.Bodies.{meta_without_first, meta_with_count}
use Rattle.im_smo_pages.specs.Changed.{SamePages, free_taken_pages, count_taken_pages, free_given_pages}
use Rattle.im_smo_pages.specs.Images.{Numbered, image_of, plan_of}

-- what the pages say
abbrev pub bodies : AllPages → Pages
bodies pages p = (pages p).body

-- what they say with the images in their place
abbrev pub seen : AllPages → List Numbered → Pages
seen pages images = applied (bodies pages) (plan_of (bodies pages) images)

-- an image, or else this page
abbrev pub image_or : Option Page → Page → Page
image_or None g = g
image_or (Some p) g = p

-- the page of a number, from the images or else the writer's
abbrev pub page_in : AllPages → List Numbered → ℕ → Page
page_in pages images n = image_or (image_of images n) (pages n)

-- ---- allocation, by what page 0 says: `prev` is how many pages are free, `next` the first of them, `leftmost` the page count

-- the page that is taken next: the first free one, and where there is none, the one past the page count
abbrev pub next_page : Body → ℕ
next_page meta = if meta.prev == 0 then meta.leftmost else meta.next

-- page 0 after that, from what the page that is taken says
abbrev pub meta_behind : Body → Body → Body
meta_behind meta page = if meta.prev == 0 then meta_with_count meta else meta_without_first meta page

-- Page q is taken: the first free one, where there is one, and otherwise the one past the page count. It is spare now, and among the images; page 0 alone says something else, the images of others stay, and so does the walk.
pub record TakesPage (store : AllPages) (images : List Numbered) (spare : List ℕ) (q : ℕ) (new : List Numbered) : Type 0 where
  pub free : 1 ≤ (seen store images 0).prev → (q ≡ (seen store images 0).next) × SamePages (seen store new) (free_taken_pages (seen store images))
  pub count : (seen store images 0).prev ≡ 0 → (q ≡ (seen store images 0).leftmost) × SamePages (seen store new) (count_taken_pages (seen store images))
  pub rest : (x : ℕ) → x ≢ 0 → seen store new x ≡ seen store images x
  pub other : q ≢ 0
  pub there : IsSome (image_of new q)
  pub others : (x : ℕ) → x ≢ 0 → x ≢ q → image_of new x ≡ image_of images x
  pub good : IsGoodTree (seen store new) (q ∷ spare)
  pub same : walk (seen store new) ≡ walk (seen store images)

-- Page q, which was spare, is the first free page, and page 0 says so. It is among the images, the images of others stay, and so does the walk.
pub record GivesPage (store : AllPages) (images : List Numbered) (spare : List ℕ) (q : ℕ) (new : List Numbered) : Type 0 where
  pub pages : SamePages (seen store new) (free_given_pages (seen store images) q)
  pub rest : (x : ℕ) → x ≢ 0 → x ≢ q → seen store new x ≡ seen store images x
  pub other : q ≢ 0
  pub there : IsSome (image_of new q)
  pub others : (x : ℕ) → x ≢ 0 → x ≢ q → image_of new x ≡ image_of images x
  pub good : IsGoodTree (seen store new) spare
  pub same : walk (seen store new) ≡ walk (seen store images)
