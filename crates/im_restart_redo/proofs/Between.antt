-- Redo within a segment: from its begin, part after part, to its end.
use Rattle.std.proofs.Common.{◌≡◌, ◌⊎◌, inl, inr, ℕ, ◌+◌, ◌<◌, ◌≤◌, List, [], ◌∷◌, ◌++◌, length, take, drop, Bool, true, false, not, Option, None, Some, refl, sym, ◌∙◌, ap, subst, arith, append_assoc}
use Rattle.std.specs.Prelude.{if◌then◌else◌, ◌&&◌, IfSome, Ok}
use Rattle.std.proofs.Math.Path.{fun_ext}
use Rattle.std.proofs.lemmas.List.{append-nil, take-append-drop, take-map}
use Rattle.std.specs.List.Sorted.{IsPermutation}
use Rattle.im_base_types.specs.Pages.{Page}
use Rattle.im_base_types.specs.Records.{Logged}
use Rattle.im_theory_log.specs.Histories.{Base, History, IsFront, Rises, end_of}
use Rattle.im_theory_log.specs.Copies.{onto, redo_all, redo_one}
use Rattle.im_theory_log.specs.RedoPoints.{redo_point}
use Rattle.im_theory_log.specs.Writer.{PageState, Writer, WriterKept}
use Rattle.im_theory_log.specs.WriterSteps.{applies}
use Rattle.im_theory_log.proofs.Histories.{end_le, front_of_front, rises_in}
use Rattle.im_base_disk.specs.declared.disk.Disk.{Ghosts}
use Rattle.im_page_rounds.specs.Hand.{AllTaken}
use Rattle.im_page_rounds.specs.Rounds.{HaveHad, applied_of_all, changing, of_page, redone_all}
use Rattle.im_page_rounds.proofs.Changes.{changes_alone}
use Rattle.im_page_rounds.proofs.Pages.{own_records}
use Rattle.im_page_rounds.proofs.Rounds.{page_then, round_leaves, onto_has}
use Rattle.im_page_writer.specs.declared.page_writer.PageWriter.{PageWriter}
use Rattle.im_page_writer.specs.PageWriter.{Evicted}
use Rattle.im_page_writer.specs.Rounds.{AreOfThose, RoundFrom, RoundKept, redone_of}
use Rattle.im_page_writer.proofs.RoundsDone.{either_page}
use Rattle.im_restart_redo.specs.declared.rounds.Passed.{Passed}
use Rattle.im_restart_redo.specs.Applying.{IsApplying, IsLsnBehind}
use Rattle.im_restart_analysis.specs.declared.changes.Change.{Change}
use Rattle.im_restart_redo.specs.Changes.{AreOwn, lsns_of, record_lsns}
use Rattle.im_restart_redo.specs.Redo.{AreApplicable, applied_in, first_lsn}
use Rattle.im_restart_redo.specs.Rounds.{passed_of}
use Rattle.im_restart_redo.specs.Segments.{AreApart, AreOrdered, IsWithinSegment, lsns_at, pairs_of}
use Rattle.im_restart_redo.proofs.ChangeLsns.{own_take}
use Rattle.im_restart_redo.proofs.Ordered.{AreUp, at_then, same_order}
use Rattle.im_restart_redo.proofs.Parts.{AreOfPage, ArePart, TakesEach, all_of_each, each_of_all, of_page_are, of_page_records, of_page_then, pairs_are, part_of, taken_changing, up_changing, up_onto, up_page}
use Rattle.im_restart_redo.proofs.RoundsApplied.{AreRecords, SegmentNext, begun_rises, records_changing, records_longer, records_onto}
use Rattle.im_restart_redo.proofs.RoundsPassed.{counted_after, had_after, had_keeps, lsns_after, round_taken}
use Rattle.im_restart_redo.proofs.SameCounts.{same_count}
use Rattle.im_restart_redo.proofs.Within.{within_more}

-- ---- one page, before a part and after it

abbrev is_none : List ℕ → Bool
is_none [] = true
is_none (x ∷ xs) = false

front_none : (xs ys : List ℕ) → xs ++ ys ≡ [] → xs ≡ []
front_none [] ys is = refl
front_none (x ∷ xs) ys is = absurd (cc is)

rest_none : (xs ys : List ℕ) → xs ++ ys ≡ [] → ys ≡ []
rest_none [] ys is = is
rest_none (x ∷ xs) ys is = absurd (cc is)

-- its changes in the part are all that it has in the segment, where none is left, and none was made; otherwise it has none there
part_is : (xs ys all : List ℕ) (done : Bool) → xs ++ ys ≡ (if done then [] else all) → (xs ≡ []) ⊎ (ys ≡ []) → xs ≡ (if is_none ys && not done then all else [])
part_is xs [] all false is apart = sym (append-nil xs) ∙ is
part_is xs [] all true is apart = front_none xs [] is
part_is xs (y ∷ ys) all done is (inl none) = none
part_is xs (y ∷ ys) all done is (inr none) = absurd (cc none)

left_then : (xs ys all : List ℕ) (done : Bool) → xs ++ ys ≡ (if done then [] else all) → (xs ≡ []) ⊎ (ys ≡ []) → ys ≡ (if is_none ys then [] else all)
left_then xs [] all done is apart = refl
left_then xs (y ∷ ys) all done is (inr none) = absurd (cc none)
left_then xs (y ∷ ys) all false is (inl none) = ap (λ (l : List ℕ). l ++ y ∷ ys) (sym none) ∙ is
left_then xs (y ∷ ys) all true is (inl none) = absurd (let clash : y ∷ ys ≡ [] = rest_none xs (y ∷ ys) is in cc clash)

done_still : (xs ys all : List ℕ) (done : Bool) → xs ++ ys ≡ (if done then [] else all) → done ≡ true → is_none ys ≡ true
done_still xs ys all done is was = ap is_none (rest_none xs ys (is ∙ ap (λ (t : Bool). if t then [] else all) was))

who_undone : (will was : Bool) → (will && not was) ≡ true → was ≡ false
who_undone true false is = refl
who_undone true true is = absurd (let clash : false ≡ true = is in cc clash)
who_undone false was is = absurd (let clash : false ≡ true = is in cc clash)

-- its records that were redone
parts_then : (made own all : List Logged) (was will : Bool) → (was ≡ true → will ≡ true) → made ≡ (if was then all else []) → own ≡ (if will && not was then all else []) → made ++ own ≡ (if will then all else [])
parts_then made own all true true still one two = ap (λ (l : List Logged). l ++ own) one ∙ ap (λ (l : List Logged). all ++ l) two ∙ append-nil all
parts_then made own all true false still one two = absurd (let clash : false ≡ true = still refl in cc clash)
parts_then made own all false true still one two = ap (λ (l : List Logged). l ++ own) one ∙ two
parts_then made own all false false still one two = ap (λ (l : List Logged). l ++ own) one ∙ two

-- up to where it has had the log
had_then : (was will : Bool) (x y : PageState) (low high : ℕ) → (was ≡ true → will ≡ true) → high < y.upto → (if was then high else low) < x.upto → (if will then high else low) < (if will && not was then y else x).upto
had_then true true x y low high still redone old = old
had_then true false x y low high still redone old = absurd (let clash : false ≡ true = still refl in cc clash)
had_then false true x y low high still redone old = redone
had_then false false x y low high still redone old = old

-- records that are of a page in the same order make the same of it
same_redone : (xs ys : List Logged) (p : ℕ) (g : Page) → of_page p xs ≡ of_page p ys → redo_all xs p g ≡ redo_all ys p g
same_redone xs ys p g is = sym (own_records.page xs p g) ∙ ap (λ (l : List Logged). redo_all l p g) is ∙ own_records.page ys p g

-- how many of records in turn are applied
applied_then : (rs more : List Logged) (g : ℕ → Page) → applied_of_all (rs ++ more) g ≡ applied_of_all rs g + applied_of_all more (λ q. redo_all rs q (g q))
applied_then [] more g = let e : applied_of_all more g ≡ 0 + applied_of_all more g = omega arith in e
applied_then (r ∷ rs) more g =
    let one : ℕ = if applies r r.page (g r.page) then 1 else 0 in
    let some : ℕ = applied_of_all rs (λ q. redo_one r q (g q)) in
    let others : ℕ = applied_of_all more (λ q. redo_all rs q (redo_one r q (g q))) in
    ap (λ (n : ℕ). one + n) (applied_then rs more (λ q. redo_one r q (g q))) ∙ (let e : one + (some + others) ≡ (one + some) + others = omega arith in e)

-- where records were redone, their changes went past
pub some_redone : (n : ℕ) (redone : Option ℕ) → 0 < n → (redone ≡ None → ⊥) → 0 < (passed_of n redone).changes
some_redone n (Some applied) some never = some
some_redone n None some never = absurd (never refl)

pub passed_few : (n most : ℕ) (redone : Option ℕ) → n ≤ most → IfSome redone (λ a. a ≤ n) → ((passed_of n redone).changes ≤ most) × ((passed_of n redone).applied ≤ (passed_of n redone).changes)
passed_few n most (Some applied) le few = (le, few)
passed_few n most None le few = (omega arith, omega arith)

-- ---- a segment begins

module _ {D : Type 0} (d : Ghosts D) (b : Base) (base : ℕ) (begun : History) (file : ℕ → Option Page) (from : D) where
  -- so many changes, put in order of pages, are of each page those of its records
  pub segment_order : (xs : List Change) (count : ℕ) (w : PageWriter) (disk : D) (so : IsApplying d b base begun file (lsns_of xs) count from w disk) (n : ℕ) (next : SegmentNext d b base begun file from (lsns_of xs) count w disk so n) (noted sorted : List (ℕ × ℕ))
      → noted ≡ pairs_of (take n xs) → AreOwn begun xs → IsPermutation noted sorted → AreOrdered sorted → (p : ℕ) → lsns_at p sorted ≡ record_lsns (of_page p (changing next.rs))
  segment_order xs count w disk so n next noted sorted is own moved order p =
      let cs : List Logged = changing next.rs in
      let rises : Rises b (onto next.rs next.front) = rises_in b (onto next.rs next.front) begun (record { newer = next.after; is = next.split }) (begun_rises d b base begun file from (lsns_of xs) count w disk so) in
      let same : lsns_at p noted ≡ record_lsns (of_page p cs) =
      ap (λ (l : List (ℕ × ℕ)). lsns_at p l) is ∙ pairs_are begun (take n xs) cs (next.these ∙ take-map (λ (x : Change). x.lsn) n xs) next.records (own_take begun xs n own) p in
      let up : AreUp (lsns_at p noted) = subst (λ (l : List ℕ). AreUp l) (sym same) (up_page p cs (up_changing next.rs (up_onto b next.rs next.front rises))) in
      same_order noted sorted p moved order up ∙ same

  pub segment_begins : (lsns : List ℕ) (count : ℕ) (w : PageWriter) (disk : D) (so : IsApplying d b base begun file lsns count from w disk) (n : ℕ) (next : SegmentNext d b base begun file from lsns count w disk so n) (all : List (ℕ × ℕ))
      → ((p : ℕ) → lsns_at p all ≡ record_lsns (of_page p (changing next.rs))) → IsWithinSegment d b base begun file all all (drop n lsns) count from w disk
  segment_begins lsns count w disk so n next all is = record {
    after = next.after;
    rs = next.rs;
    front = next.front;
    split = next.split;
    above = next.above;
    later_is = next.rest;
    changes = is;
    first = λ q. (next.passed.now.pages q).page;
    lsns = next.passed.lsns;
    taken = λ can. round_taken d b base begun file from w disk next.front next.passed next.after next.rs next.split can;
    made = [];
    done = λ p. false;
    parts = λ p. refl;
    left_is = λ p. refl;
    moved = λ lt. absurd (omega (arith, lt));
    passed = record { now = next.passed.now; within = next.passed.within; had = next.passed.had };
    pages = λ p. refl;
    counted = (let counted = next.counted in omega (arith, counted));
  }

  module _ (all left : List (ℕ × ℕ)) (later : List ℕ) (count : ℕ) (w : PageWriter) (disk : D) (so : IsWithinSegment d b base begun file all left later count from w disk) where
    kept : WriterKept b so.passed.now
    kept = so.passed.within.stands.writing.stands.kept

    whole : IsFront (onto so.rs so.front) so.passed.now.log
    whole =
        front_of_front (onto so.rs so.front) so.passed.now.durable so.passed.now.log
        (front_of_front (onto so.rs so.front) begun so.passed.now.durable (record { newer = so.after; is = so.split }) so.passed.within.durable) kept.front

    rises : Rises b (onto so.rs so.front)
    rises = rises_in b (onto so.rs so.front) so.passed.now.log whole kept.rises

    pub segment_records : AreRecords begun (changing so.rs)
    segment_records = records_changing begun so.rs (subst (λ (h : History). AreRecords h so.rs) so.split (records_longer so.after (onto so.rs so.front) so.rs (records_onto so.rs so.front)))

    -- ---- and ends

    pub segment_ends : left ≡ [] → 0 < length all → IsApplying d b base begun file later count from w disk
    segment_ends none some =
        let done : (p : ℕ) → so.done p ≡ true = λ p. so.moved (let short : length left ≡ 0 = ap (λ (l : List (ℕ × ℕ)). length l) none in omega (arith, short, some)) p (ap (λ (l : List (ℕ × ℕ)). lsns_at p l) none) in
        let high : ℕ = end_of b (onto so.rs so.front) in
        let made : (p : ℕ) → of_page p so.made ≡ of_page p (changing so.rs) = λ p. so.parts p ∙ ap (λ (t : Bool). if t then of_page p (changing so.rs) else []) (done p) in
        let redone : (p : ℕ) → redo_all so.rs p (so.first p) ≡ (so.passed.now.pages p).page = λ p.
        sym (changes_alone.page so.rs p (so.first p)) ∙ sym (same_redone so.made (changing so.rs) p (so.first p) (made p)) ∙ sym (so.pages p) in
        let counts = counted_after b (first_lsn b begun file) (redo_point begun) so.rs so.front so.first (applied_in (first_lsn b begun file) (redo_point begun) so.front) rises so.above so.lsns refl in
        let as_many : applied_of_all so.made so.first ≡ applied_of_all so.rs so.first = same_count so.made (changing so.rs) so.first made ∙ changes_alone.all so.rs so.first in
        record {
          newer = so.after;
          front = onto so.rs so.front;
          split = so.split;
          left_is = so.later_is;
          passed = record {
            now = so.passed.now;
            within = so.passed.within;
            had = λ p. ((so.passed.had p).0, subst (λ (t : Bool). (if t then high else end_of b so.front) < (so.passed.now.pages p).upto) (done p) (so.passed.had p).1);
            lsns = λ p.
                subst (λ (g : Page). IsLsnBehind b (first_lsn b begun file p) (onto so.rs so.front) g.lsn) (redone p)
                (lsns_after b (first_lsn b begun file) (redo_point begun) so.rs so.front so.first rises so.lsns p);
          };
          counted = so.counted ∙ ap (λ (n : ℕ). applied_in (first_lsn b begun file) (redo_point begun) so.front + n) as_many ∙ counts;
        }

    -- ---- what a part asks

    pub part_durable : (so.passed.within.durable.newer ++ so.after) ++ onto so.rs so.front ≡ so.passed.now.durable
    part_durable = append_assoc so.passed.within.durable.newer so.after (onto so.rs so.front) ∙ ap (λ (h : History). so.passed.within.durable.newer ++ h) so.split ∙ so.passed.within.durable.is

    front_low : end_of b so.front ≤ end_of b (onto so.rs so.front)
    front_low = let (newer, is) = onto_has so.rs so.front in end_le b so.front (onto so.rs so.front) rises (record { newer = newer; is = is })

    pub part_had : HaveHad b so.front so.passed.now.pages
    part_had p = ((so.passed.had p).0, by (so.done p) (so.passed.had p).1)
      where
        by : (t : Bool) → (if t then end_of b (onto so.rs so.front) else end_of b so.front) < (so.passed.now.pages p).upto → end_of b so.front < (so.passed.now.pages p).upto
        by true past = let low = front_low in omega (arith, low, past)
        by false past = past

    module _ (k : ℕ) (apart : AreApart (take k left) (drop k left)) where
      -- the pages that take part
      abbrev pub part_done : ℕ → Bool
      part_done p = is_none (lsns_at p (drop k left))

      abbrev pub part_who : ℕ → Bool
      part_who p = is_none (lsns_at p (drop k left)) && not (so.done p)

      -- and their records
      abbrev pub part_have : ℕ → List Logged
      part_have p = if part_who p then of_page p (changing so.rs) else []

      both : (p : ℕ) → lsns_at p (take k left) ++ lsns_at p (drop k left) ≡ (if so.done p then [] else lsns_at p all)
      both p = sym (at_then p (take k left) (drop k left)) ∙ ap (λ (l : List (ℕ × ℕ)). lsns_at p l) (take-append-drop k left) ∙ so.left_is p

      still : (p : ℕ) → so.done p ≡ true → part_done p ≡ true
      still p was = done_still (lsns_at p (take k left)) (lsns_at p (drop k left)) (lsns_at p all) (so.done p) (both p) was

      pub part_lsns : (p : ℕ) → lsns_at p (take k left) ≡ record_lsns (part_have p)
      part_lsns p =
          part_is (lsns_at p (take k left)) (lsns_at p (drop k left)) (lsns_at p all) (so.done p) (both p) (apart p)
          ∙ by (part_who p)
        where
          by : (t : Bool) → (if t then lsns_at p all else []) ≡ record_lsns (if t then of_page p (changing so.rs) else [])
          by true = so.changes p
          by false = refl

      pub part_records : AreRecords begun (changing so.rs) → ArePart begun (take k left) part_have
      part_records records =
          part_of begun (take k left) part_have part_lsns (λ p. by_page p (part_who p)) (λ p. by_record p (part_who p))
        where
          by_page : (p : ℕ) (t : Bool) → AreOfPage p (if t then of_page p (changing so.rs) else [])
          by_page p true = of_page_are p (changing so.rs)
          by_page p false = tt

          by_record : (p : ℕ) (t : Bool) → AreRecords begun (if t then of_page p (changing so.rs) else [])
          by_record p true = of_page_records begun p (changing so.rs) records
          by_record p false = tt

      module _ (part : ArePart begun (take k left) part_have) where
        own_of : (p : ℕ) (t : Bool) → part_who p ≡ t → of_page p part.own ≡ (if t then of_page p (changing so.rs) else [])
        own_of p t is = part.pages p ∙ ap (λ (u : Bool). if u then of_page p (changing so.rs) else []) is

        pub part_those : AreOfThose part_who so.rs part.own
        part_those = record { these = λ p takes. own_of p true takes; others = λ p stays. own_of p false stays }

        -- a page that takes part is as the segment found it
        untouched : (p : ℕ) → part_who p ≡ true → (so.passed.now.pages p).page ≡ so.first p
        untouched p takes =
            let was : so.done p ≡ false = who_undone (part_done p) (so.done p) takes in
            let none : of_page p so.made ≡ [] = so.parts p ∙ ap (λ (t : Bool). if t then of_page p (changing so.rs) else []) was in
            so.pages p ∙ (own_records.none so.made p (so.first p) none).0

        pub part_taken : AreApplicable b begun → AllTaken part.own (λ q. (so.passed.now.pages q).page)
        part_taken can = all_of_each part.own (λ q. (so.passed.now.pages q).page) (λ p. by p (part_who p) refl)
          where
            each : (p : ℕ) → TakesEach p (of_page p (changing so.rs)) (so.first p)
            each p = each_of_all (changing so.rs) so.first (taken_changing so.rs so.first (so.taken can)) p

            by : (p : ℕ) (t : Bool) → part_who p ≡ t → TakesEach p (of_page p part.own) (so.passed.now.pages p).page
            by p true is = subst (λ (l : List Logged). TakesEach p l (so.passed.now.pages p).page) (sym (own_of p true is)) (subst (λ (g : Page). TakesEach p (of_page p (changing so.rs)) g) (sym (untouched p is)) (each p))
            by p false is = subst (λ (l : List Logged). TakesEach p l (so.passed.now.pages p).page) (sym (own_of p false is)) tt

        -- ---- and what it keeps

        pub part_made : (t : PageWriter) (new : D) (n : ℕ) → RoundFrom d b base part_who so.passed.now so.rs disk t new → n ≡ applied_of_all part.own (λ q. (so.passed.now.pages q).page)
            → IsWithinSegment d b base begun file all (drop k left) later (count + n) from t new
        part_made t new n done is =
            let s : Writer = redone_of part_who done.known so.rs done.before in
            let redone : ℕ → PageState = (redone_all done.known so.rs done.before).pages in
            let high : ℕ = end_of b (onto so.rs so.front) in
            let low : ℕ = end_of b so.front in
            let had = had_after b done.known so.rs so.front done.before (had_keeps b so.passed.now done.before so.front done.keeps part_had) in
            let pages_are : (λ (q : ℕ). (so.passed.now.pages q).page) ≡ (λ (q : ℕ). redo_all so.made q (so.first q)) = fun_ext (λ (q : ℕ). so.pages q) in
            record {
              after = so.after;
              rs = so.rs;
              front = so.front;
              split = so.split;
              above = so.above;
              later_is = so.later_is;
              changes = so.changes;
              first = so.first;
              lsns = so.lsns;
              taken = so.taken;
              made = so.made ++ part.own;
              done = part_done;
              parts = λ p. of_page_then p so.made part.own ∙ parts_then (of_page p so.made) (of_page p part.own) (of_page p (changing so.rs)) (so.done p) (part_done p) (still p) (so.parts p) (part.pages p);
              left_is = λ p. left_then (lsns_at p (take k left)) (lsns_at p (drop k left)) (lsns_at p all) (so.done p) (both p) (apart p);
              moved = λ lt p none. ap is_none none;
              passed = record {
                now = s;
                within = within_more d b base begun from so.passed.now w disk so.passed.within done.before s t new done.keeps done.stops done.stands refl refl refl refl;
                had = λ p. (
                  either_page (λ (x : PageState). x.waits ≡ false) (part_who p) (redone p) (done.before.pages p) (had p).0 ((done.keeps.pages p).waits ∙ (so.passed.had p).0),
                  had_then (so.done p) (part_done p) (done.before.pages p) (redone p) low high (still p) (had p).1
                      (let was : (if so.done p then high else low) < (so.passed.now.pages p).upto = (so.passed.had p).1 in let up : (so.passed.now.pages p).upto ≤ (done.before.pages p).upto = (done.keeps.pages p).upto in omega (arith, was, up)),
                );
              };
              pages = λ p. page_made t new done p (part_who p) refl;
              counted =
                  ap (λ (m : ℕ). count + m) (is ∙ ap (λ (g : ℕ → Page). applied_of_all part.own g) pages_are)
                  ∙ ap (λ (m : ℕ). m + applied_of_all part.own (λ q. redo_all so.made q (so.first q))) so.counted
                  ∙ added
                  ∙ ap (λ (m : ℕ). applied_in (first_lsn b begun file) (redo_point begun) so.front + m) (sym (applied_then so.made part.own so.first));
            }
          where
            added : (applied_in (first_lsn b begun file) (redo_point begun) so.front + applied_of_all so.made so.first) + applied_of_all part.own (λ q. redo_all so.made q (so.first q))
                ≡ applied_in (first_lsn b begun file) (redo_point begun) so.front + (applied_of_all so.made so.first + applied_of_all part.own (λ q. redo_all so.made q (so.first q)))
            added = omega arith

            page_made : (t : PageWriter) (new : D) (done : RoundFrom d b base part_who so.passed.now so.rs disk t new) (p : ℕ) (u : Bool) → part_who p ≡ u
                → (if u then (redone_all done.known so.rs done.before).pages p else done.before.pages p).page ≡ redo_all (so.made ++ part.own) p (so.first p)
            page_made t new done p true takes =
                let g : Page = redo_all so.made p (so.first p) in
                (round_leaves done.known so.rs done.before).page p
                ∙ ap (λ (h : Page). redo_all so.rs p h) ((done.keeps.pages p).page ∙ so.pages p)
                ∙ sym (changes_alone.page so.rs p g)
                ∙ sym (same_redone part.own (changing so.rs) p g (own_of p true takes))
                ∙ sym (page_then so.made part.own p (so.first p))
            page_made t new done p false stays =
                let g : Page = redo_all so.made p (so.first p) in
                (done.keeps.pages p).page ∙ so.pages p ∙ sym (own_records.none part.own p g (own_of p false stays)).0 ∙ sym (page_then so.made part.own p (so.first p))

    -- none of it was made
    part_none : (t : PageWriter) (new : D) → Evicted d b base so.passed.now disk t new → IsWithinSegment d b base begun file all left later (count + 0) from t new
    part_none t new none =
        let keeps = none.on.goes.keeps in
        record {
          after = so.after;
          rs = so.rs;
          front = so.front;
          split = so.split;
          above = so.above;
          later_is = so.later_is;
          changes = so.changes;
          first = so.first;
          lsns = so.lsns;
          taken = so.taken;
          made = so.made;
          done = so.done;
          parts = so.parts;
          left_is = so.left_is;
          moved = so.moved;
          passed = record {
            now = none.now;
            within = within_more d b base begun from so.passed.now w disk so.passed.within none.now none.now t new keeps none.on.goes.stops (record { working = none.on.working; writing = none.on.goes.writing; known = none.on.known }) refl refl refl refl;
            had = λ p. (
              (keeps.pages p).waits ∙ (so.passed.had p).0,
              let was : (if so.done p then end_of b (onto so.rs so.front) else end_of b so.front) < (so.passed.now.pages p).upto = (so.passed.had p).1 in
                  let up : (so.passed.now.pages p).upto ≤ (none.now.pages p).upto = (keeps.pages p).upto in
                  omega (arith, was, up),
            );
          };
          pages = λ p. (keeps.pages p).page ∙ so.pages p;
          counted = (let e : count + 0 ≡ count = omega arith in e) ∙ so.counted;
        }

    -- what the call keeps that makes it
    pub part_sound : (k : ℕ) (apart : AreApart (take k left) (drop k left)) (part : ArePart begun (take k left) (part_have k apart)) (numbers : List ℕ) (t : PageWriter) (new : D) (redone : Option ℕ)
        → RoundKept d b base numbers (part_who k apart) so.passed.now so.rs part.own disk t new (Ok redone) → (redone ≡ None → Evicted d b base so.passed.now disk t new)
        → IsWithinSegment d b base begun file all (drop (passed_of k redone).changes left) later (count + (passed_of k redone).applied) from t new
    part_sound k apart part numbers t new (Some applied) one none = part_made k apart part t new applied one.ok one.applied
    part_sound k apart part numbers t new None one none = part_none t new (none refl)

  -- where nothing went past, redo stands as before
  pub none_made : (all left : List (ℕ × ℕ)) (later : List ℕ) (count : ℕ) (p : Passed) (w : PageWriter) (disk : D) → p.changes ≡ 0 → p.applied ≤ p.changes
      → IsWithinSegment d b base begun file all (drop p.changes left) later (count + p.applied) from w disk → IsWithinSegment d b base begun file all left later count from w disk
  none_made all left later count p w disk none few so =
      subst (λ (n : ℕ). IsWithinSegment d b base begun file all left later n from w disk) (let e : count + p.applied ≡ count = omega (arith, none, few) in e)
      (subst (λ (n : ℕ). IsWithinSegment d b base begun file all (drop n left) later (count + p.applied) from w disk) none so)

  -- the count of several parts
  pub more_counted : (all left rest : List (ℕ × ℕ)) (later : List ℕ) (count some more : ℕ) (w : PageWriter) (disk : D) → left ≡ rest → IsWithinSegment d b base begun file all left later (count + some + more) from w disk → IsWithinSegment d b base begun file all rest later (count + (some + more)) from w disk
  more_counted all left rest later count some more w disk is so =
      subst (λ (xs : List (ℕ × ℕ)). IsWithinSegment d b base begun file all xs later (count + (some + more)) from w disk) is
      (subst (λ (n : ℕ). IsWithinSegment d b base begun file all left later n from w disk) (let e : count + some + more ≡ count + (some + more) = omega arith in e) so)
