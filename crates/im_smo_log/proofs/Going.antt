-- The next page of a structure change, the pages beside it, and its end.
use Rattle.std.proofs.Common.{◌≡◌, ◌≢◌, ℕ, zero, suc, ◌+◌, ◌-◌, ◌<◌, ◌≤◌, Bool, true, false, List, [], ◌∷◌, length, Option, Some, None, inl, inr, refl, sym, ap, subst, ◌∙◌, arith, ◌==◌, if◌then◌else◌}
use Rattle.std.specs.Prelude.{◌||◌, max}
use Rattle.std.proofs.Math.Path.{fun_ext}
use Rattle.std.proofs.lemmas.Bool.{cases_lt, cond-true, eq-eqb}
use Rattle.im_base_types.specs.Pages.{Page, Body}
use Rattle.im_base_types.specs.Records.{What, Smo, Logged}
use Rattle.im_theory_log.specs.Histories.{Base, History, end_of, page_after, page_at}
use Rattle.im_theory_log.specs.Lawful.{IsLawful, IsNotIn, MayCome, resumes}
use Rattle.im_theory_log.specs.LogLaws.{IsRebuilt, bodies}
use Rattle.im_theory_log.specs.PageCounts.{count_in, count_of, greatest_count, named_to, names_page}
use Rattle.im_theory_log.specs.Structure.{open_after, open_smo, settled}
use Rattle.im_theory_log.specs.Transactions.{is_end, is_finished, last_of, undo_next_of}
use Rattle.im_theory_log.proofs.Cited.{below_older, page_here, page_other, whole_below, has_tree, named_up, count_more, count_said, settled_smo, left_alone}
use Rattle.im_theory_tree.specs.Levels.{Pages, walk}
use Rattle.im_theory_tree.specs.Good.{IsGoodTree}
use Rattle.im_theory_tree.specs.Same.{SameButMark}
use Rattle.im_theory_tree.specs.Theory.{page_tree}
use Rattle.im_theory_tree.proofs.MarkLemmas.{marks_keep}
use Rattle.im_smo_pages.specs.Images.{Numbered, image_of, image_at, held}
use Rattle.im_theory_tree.specs.Ways.{StandsFor}
use Rattle.im_smo_pages.specs.OnWay.{IsApart}
use Rattle.im_smo_log.specs.Under.{AreLogged, IsUnderWay, is_done}
use Rattle.im_smo_log.specs.GoingOn.{PagesAgree}
use Rattle.im_smo_pages.proofs.ImageLemmas.{body_or, applied_image}
use Rattle.im_smo_log.proofs.ChangeLogs.{rising_lt}
use Rattle.im_smo_log.proofs.ImagePlaces.{image_place, image_there}
use Rattle.im_smo_log.proofs.Others.{logged_wider}

-- undo goes on, after the change, where it stood
resumes_newer : (b : Base) (t : ℕ) (images : List Numbered) (i : ℕ) (r : Logged) (older : History) (s : Logged) (rest : History) → end_of b older < r.lsn → AreLogged t images (end_of b older) i (s ∷ rest)
    → resumes (r ∷ older) t (s ∷ rest) ≡ resumes older t (s ∷ rest)
resumes_newer b t images zero r older s rest high is = absurd is
resumes_newer b t images (suc i) r older s [] high is =
    let low : s.lsn ≤ end_of b older = is.2 in ap (undo_next_of t) (below_older s.lsn r older (omega (arith, low, high)))
resumes_newer b t images (suc i) r older s (u ∷ rest) high is = resumes_newer b t images i r older u rest high is.3

resumes_smo : (b : Base) (t : ℕ) (images : List Numbered) (i : ℕ) (r : Logged) (older going : History) → end_of b older < r.lsn → AreLogged t images (end_of b older) i going
    → resumes (r ∷ older) t (r ∷ going) ≡ resumes older t going
resumes_smo b t images i r older [] high is = ap (undo_next_of t) (below_older r.lsn r older (omega arith) ∙ whole_below b r.lsn older high)
resumes_smo b t images i r older (s ∷ rest) high is = resumes_newer b t images i r older s rest high is

-- pages that are none of the first images are not in the open change
pub outside : (t : ℕ) (images : List Numbered) (l i : ℕ) (going : History) (p : ℕ) → ((k : ℕ) → k < i → (image_at images k).0 ≢ p) → AreLogged t images l i going → IsNotIn p going
outside t images l i [] p none_of is = tt
outside t images l zero (s ∷ rest) p none_of is = absurd is
outside t images l (suc i) (s ∷ rest) p none_of is = ((λ e. none_of i (omega arith) (sym is.1 ∙ e)), outside t images l i rest p (λ k lt. none_of k (omega (arith, lt))) is.3)

pub other_page_settled : (b : Base) (t undo_next : ℕ) (images : List Numbered) (done prev : ℕ) (log : History) (p : ℕ) → IsUnderWay b t undo_next images done prev log
    → ((k : ℕ) → k < done → (image_at images k).0 ≢ p) → bodies b log p ≡ settled b log p
other_page_settled b t undo_next images done prev log p way none_of =
    sym (left_alone p (open_smo log) (page_at b log p).body (outside t images (end_of b log) done (open_smo log) p none_of way.logged))

or_left : (x y : Bool) → (x || y) ≡ false → x ≡ false
or_left true y e = e
or_left false y e = refl

or_right : (x y : Bool) → (x || y) ≡ false → y ≡ false
or_right true y e = absurd (let clash : true ≡ false = e in cc clash)
or_right false y e = e

-- a page that is not made is none of the first images
none_done : (images : List Numbered) (n p : ℕ) → n ≤ length images → is_done images n p ≡ false → (k : ℕ) → k < n → (image_at images k).0 ≢ p
none_done [] n p within not k lt = absurd (omega (arith, within, lt))
none_done (x ∷ xs) zero p within not k lt = absurd (omega (arith, lt))
none_done (x ∷ xs) (suc n) p within not zero lt = λ same. let yes : (x.0 == p) ≡ true = eq-eqb x.0 p same in let clash : true ≡ false = sym yes ∙ or_left (x.0 == p) (is_done xs n p) not in cc clash
none_done (x ∷ xs) (suc n) p within not (suc k) lt = none_done xs n p (omega (arith, within)) (or_right (x.0 == p) (is_done xs n p) not) k (omega (arith, lt))

pub pages_agree : PagesAgree
pages_agree b t undo_next images done prev log p way not = other_page_settled b t undo_next images done prev log p way (none_done images done p way.within not)

module _ (b : Base) (t undo_next : ℕ) (images : List Numbered) (done prev : ℕ) (r : Logged) (older : History) (old new : Body) (way : IsUnderWay b t undo_next images done prev older)
    (law : IsLawful b page_tree (r ∷ older)) (more : done < length images) (mine : r.txn ≡ t) (page : r.page ≡ (image_at images done).0) (is : r.what ≡ Smo old new)
    (same : SameButMark (image_at images done).1.body new) (first : (image_at images 0).0 ≡ 0) (said : r.page ≡ 0 → new.leftmost ≤ max old.leftmost ((image_at images (length images - 1)).0 + 1)) where
  opened : open_smo (r ∷ older) ≡ r ∷ open_smo older
  opened = ap (λ (w : What). open_after r w (open_smo older)) is

  high : end_of b older < r.lsn
  high = law.1.rises

  made_now : (k : ℕ) → k < suc done → SameButMark (image_at images k).1.body (page_at b (r ∷ older) (image_at images k).0).body
  made_now k lt = elim (cases_lt k done) [
    | inl before ↦
        let less : (image_at images k).0 < (image_at images done).0 = rising_lt images k done way.rising before more in
        subst (λ (g : Page). SameButMark (image_at images k).1.body g.body) (sym (page_other b r older (image_at images k).0 (λ e. absurd (omega (arith, less, page, e))))) (way.made k before)
    | inr after ↦
        let it : done ≡ k = omega (arith, after, lt) in
        let body : (page_at b (r ∷ older) (image_at images done).0).body ≡ new =
        ap (λ (g : Page). g.body) (page_here b r older (image_at images done).0 page ∙ ap (λ (w : What). page_after r.lsn w (page_at b older (image_at images done).0)) is) in
        subst (λ (j : ℕ). SameButMark (image_at images j).1.body (page_at b (r ∷ older) (image_at images j).0).body) it
        (subst (λ (c : Body). SameButMark (image_at images done).1.body c) (sym body) same)
  ]

  stands_now : StandsFor (settled b (r ∷ older)) (held (settled b (r ∷ older)) images) (IsApart images)
  stands_now =
      let may = subst (λ (w : What). MayCome b page_tree r older w) is law.1.may in
      let pages : settled b older ≡ settled b (r ∷ older) = fun_ext (λ (p : ℕ). sym (settled_smo b r older old new is may.new_in may.before p)) in
      subst (λ (f : Pages). StandsFor f (held f images) (IsApart images)) pages way.stands

  counted_now : (image_at images 0).1.body.leftmost ≤ greatest_count (count_of b) (r ∷ older)
  counted_now = elim (cases_lt 0 done) [
    | inl some ↦ (let up = count_more (count_of b) r older in let old_count = way.counted (omega (arith, some)) in omega (arith, up, old_count))
    | inr none ↦
        let zero_is : done ≡ 0 = omega (arith, none) in
        let here : r.page ≡ 0 = page ∙ ap (λ (k : ℕ). (image_at images k).0) zero_is ∙ first in
        let count : count_in r.what ≡ (image_at images 0).1.body.leftmost = ap count_in is ∙ same.0.leftmost ∙ ap (λ (k : ℕ). (image_at images k).1.body.leftmost) zero_is in
        let now = count_said (count_of b) r older here in
        omega (arith, count, now)
  ]

  named_here : r.page < named_to (r ∷ older)
  named_here = let names : named_to (r ∷ older) ≡ max (r.page + 1) (named_to older) = ap (λ (w : What). if names_page w then max (r.page + 1) (named_to older) else named_to older) is in omega (arith, names)

  named_now : (k : ℕ) → k < suc done → (image_at images k).0 < named_to (r ∷ older)
  named_now k lt = elim (cases_lt k done) [
    | inl before ↦ (let up = named_up r older in let was = way.named k before in omega (arith, up, was))
    | inr after ↦
        let it : k ≡ done = omega (arith, after, lt) in
        let here : (image_at images k).0 ≡ r.page = ap (λ (n : ℕ). (image_at images n).0) it ∙ sym page in
        let low = named_here in
        omega (arith, here, low)
  ]

  bounded_now : (image_at images 0).1.body.leftmost ≤ max (count_of b) (max (named_to (r ∷ older)) ((image_at images (length images - 1)).0 + 1))
  bounded_now = elim (cases_lt 0 done) [
    | inl some ↦ (let up = named_up r older in let was = way.bounded (omega (arith, some)) in omega (arith, up, was))
    | inr none ↦
        let zero_is : done ≡ 0 = omega (arith, none) in
        let here : r.page ≡ 0 = page ∙ ap (λ (k : ℕ). (image_at images k).0) zero_is ∙ first in
        let body : new.leftmost ≡ (image_at images 0).1.body.leftmost = same.0.leftmost ∙ ap (λ (k : ℕ). (image_at images k).1.body.leftmost) zero_is in
        let may = subst (λ (w : What). MayCome b page_tree r older w) is law.1.may in
        let was : old.leftmost ≡ (bodies b older 0).leftmost = ap (λ (x : Body). x.leftmost) may.before ∙ ap (λ (p : ℕ). (page_at b older p).body.leftmost) here in
        let settled_now : bodies b older 0 ≡ settled b older 0 = other_page_settled b t undo_next images done prev older 0 way (λ k lt. absurd (omega (arith, lt, zero_is))) in
        let count : (bodies b older 0).leftmost ≡ (settled b older 0).leftmost = ap (λ (x : Body). x.leftmost) settled_now in
        let low = (has_tree b page_tree older law.0).named in
        let more = said here in
        let up = named_up r older in
        omega (arith, body, was, count, low, more, up)
  ]

  -- THE NEXT PAGE
  pub page_goes_on : IsUnderWay b t undo_next images (suc done) r.lsn (r ∷ older)
  page_goes_on = record {
    lawful = law;
    owner = way.owner;
    last = cond-true (r.txn == t) r.lsn (last_of t older) (eq-eqb r.txn t mine);
    unfinished = cond-true (r.txn == t) (is_end r.what || is_finished t older) (is_finished t older) (eq-eqb r.txn t mine) ∙ ap (λ (w : What). is_end w || is_finished t older) is ∙ way.unfinished;
    rising = way.rising;
    within = omega (arith, more);
    logged = subst (AreLogged t images r.lsn (suc done)) (sym opened)
        (mine, page, omega arith, logged_wider t images (end_of b older) r.lsn done (open_smo older) (omega (arith, high)) way.logged);
    made = made_now;
    leads = ap (resumes (r ∷ older) t) opened ∙ resumes_smo b t images done r older (open_smo older) high way.logged ∙ way.leads;
    counted = λ any. counted_now;
    zeroth = λ any. first;
    named = named_now;
    bounded = λ any. bounded_now;
    stands = stands_now;
  }

-- ITS END: the pages are those of the images, put over the settled ones, but for marks
module _ (b : Base) (t undo_next : ℕ) (images : List Numbered) (prev : ℕ) (log : History) (way : IsUnderWay b t undo_next images (length images) prev log) where
  pub made_all : (p : ℕ) (o : Option Page) → image_of images p ≡ o → SameButMark (held (settled b log) images p) (bodies b log p)
  made_all p None is =
      let none_of : (k : ℕ) → k < length images → (image_at images k).0 ≢ p = λ k lt e.
      (let clash : Some (image_at images k).1 ≡ None = sym (image_there images k way.rising lt) ∙ ap (image_of images) e ∙ is in absurd (cc clash)) in
      let same : held (settled b log) images p ≡ bodies b log p =
      applied_image (settled b log) images p ∙ ap (λ (o : Option Page). body_or o (settled b log p)) is ∙ sym (other_page_settled b t undo_next images (length images) prev log p way none_of) in
      subst (λ (c : Body). SameButMark c (bodies b log p)) (sym same) (self (bodies b log p))
    where
      self : (c : Body) → SameButMark c c
      self c = (record { kind = refl; level = refl; entries = refl; leftmost = refl }, record { prev = refl; next = refl })
  made_all p (Some g) is =
      let at = image_place images p g is in
      let body : (image_at images at.place).1.body ≡ held (settled b log) images p =
      ap (λ (x : Page). x.body) at.image ∙ sym (applied_image (settled b log) images p ∙ ap (λ (o : Option Page). body_or o (settled b log p)) is) in
      subst (λ (q : ℕ). SameButMark (held (settled b log) images p) (bodies b log q)) at.number
      (subst (λ (c : Body). SameButMark c (bodies b log (image_at images at.place).0)) body (way.made at.place at.within))

pub closes_well : (b : Base) (t undo_next : ℕ) (images : List Numbered) (prev : ℕ) (log : History) → IsUnderWay b t undo_next images (length images) prev log → IsRebuilt b page_tree log
closes_well b t undo_next images prev log way = record { good = kept.0; walk = kept.1 ∙ way.stands.same; named = count }
  where
    kept : IsGoodTree (bodies b log) [] × (walk (bodies b log) ≡ walk (held (settled b log) images))
    kept = marks_keep (held (settled b log) images) (bodies b log) [] (λ p. made_all b t undo_next images prev log way p (image_of images p) refl) way.stands.good

    count : (bodies b log 0).leftmost ≤ max (count_of b) (named_to log)
    count = elim (cases_lt 0 (length images)) [
      | inl some ↦
          let body : (image_at images 0).1.body.leftmost ≡ (page_at b log (image_at images 0).0).body.leftmost = sym (way.made 0 some).0.leftmost in
          let zero_is : (page_at b log (image_at images 0).0).body.leftmost ≡ (bodies b log 0).leftmost = ap (λ (p : ℕ). (page_at b log p).body.leftmost) (way.zeroth (omega (arith, some))) in
          let low = way.bounded (omega (arith, some)) in
          let last = way.named (length images - 1) (omega (arith, some)) in
          omega (arith, body, zero_is, low, last)
      | inr none ↦
          let zero_is : length images ≡ 0 = omega (arith, none) in
          let same : bodies b log 0 ≡ settled b log 0 = other_page_settled b t undo_next images (length images) prev log 0 way (λ k lt. absurd (omega (arith, lt, zero_is))) in
          let body : (bodies b log 0).leftmost ≡ (settled b log 0).leftmost = ap (λ (x : Body). x.leftmost) same in
          let low = (has_tree b page_tree log way.lawful).named in
          omega (arith, body, low)
    ]
