-- The pages of a round through its records.
use Rattle.std.proofs.Common.{◌≡◌, ◌≢◌, ◌/◌, ◌%◌, inl, inr, ℕ, suc, zero, ◌+◌, ◌<◌, List, [], ◌∷◌, ◌++◌, length, get_or, Bool, true, false, not, refl, sym, ◌∙◌, ap, subst, arith, append_assoc, Result, Ok, Err, append-nil}
use Rattle.std.specs.Prelude.{if◌then◌else◌, ◌==◌, ◌||◌, ◌&&◌, nat_le, slice_index_or, IfErr, IsErrAnd}
use Rattle.std.proofs.Math.Bool.{or-false}
use Rattle.std.proofs.lemmas.Bool.{cases_eq, cases_lt, cond-false, ne_eqb}
use Rattle.im_base_types.specs.declared.fault.Fault.{Fault}
use Rattle.im_base_types.specs.Pages.{Page}
use Rattle.im_base_types.specs.Records.{Logged}
use Rattle.im_theory_log.specs.Histories.{changes_page}
use Rattle.im_theory_log.specs.Copies.{redo_all, redo_one}
use Rattle.im_theory_log.specs.WriterSteps.{applies}
use Rattle.im_page_rounds.specs.declared.round_page.RoundPage.{RoundPage}
use Rattle.im_page_rounds.specs.OnePage.{PageRefuses, PageTakes}
use Rattle.im_page_rounds.specs.Rounds.{applied_to}
use Rattle.im_page_rounds.specs.Hand.{AllTaken, AreAmong, AreRising, IsAmong, IsThis, StandIn, StandsIn, is_applied}
use Rattle.im_page_rounds.proofs.Pages.{other_page}
use Rattle.im_page_rounds.proofs.Rounds.{page_then, count_then}
use Rattle.im_page_rounds.specs.Workers.{AreDealt, HandRedone, IsRedone, applied_by, is_dealt, place_in}
use Rattle.im_page_rounds.proofs.Places.{item_at, place_is, same_place}

-- ---- results

pub if_err : {A : Type 0} (r : Result A Fault) (P Q : Fault → Type 0) → IfErr r P → ((e : Fault) → P e → Q e) → IfErr r Q
if_err (Ok a) P Q p f = tt
if_err (Err e) P Q p f = f e p

-- ---- one record

-- numbers at different places differ
pub apart : (numbers : List ℕ) (i j : ℕ) → AreRising numbers → i < length numbers → j < length numbers → (j ≡ i → ⊥) → slice_index_or numbers i 0 ≡ slice_index_or numbers j 0 → ⊥
apart numbers i j rising i_in j_in ne same = elim (cases_lt i j) [
  | inl lt ↦ let less = rising i j lt j_in in absurd (omega (arith, less, same))
  | inr ge ↦ elim (cases_eq j i) [
    | inl e ↦ ne e
    | inr other ↦ (let lt : j < i = omega (arith, ge, other) in let less = rising j i lt i_in in absurd (omega (arith, less, same)))
  ]
]

applies_not : (r : Logged) (p : ℕ) (g : Page) → (r.page == p) ≡ false → applies r p g ≡ false
applies_not r p g off = cond-false (r.page == p) (if nat_le r.lsn g.lsn then false else changes_page r.what) false off

-- another page stays
other_stays : (x : RoundPage) (g : Page) (marked : Bool) (r : Logged) (p : ℕ) → (r.page ≡ p → ⊥) → IsThis x g marked → IsThis x (redo_one r p g) (marked || applies r p g)
other_stays x g marked r p ne was =
    let off : (r.page == p) ≡ false = ne_eqb r.page p ne in record {
      page = was.page ∙ sym (other_page r p g off);
      changed = was.changed ∙ sym (ap (λ (b : Bool). marked || b) (applies_not r p g off) ∙ or-false marked);
    }

module _ (workers worker : ℕ) (numbers : List ℕ) (hand : List RoundPage) (g : ℕ → Page) (changed : ℕ → Bool) (r : Logged) (i : ℕ) (rising : AreRising numbers) (within : i < length numbers) (is : slice_index_or numbers i 0 ≡ r.page)
    (these : AreDealt workers worker numbers hand g changed) where
  -- the page of a record is redone, and each other of the worker's stays
  pub one_redone : (done : Bool) (new : List RoundPage) → i % workers ≡ worker → ((d : RoundPage) → IsRedone r (get_or hand (i / workers) d) done (get_or new (i / workers) d)) → ((j : ℕ) (d : RoundPage) → j ≢ i / workers → get_or new j d ≡ get_or hand j d)
      → AreDealt workers worker numbers new (λ q. redo_one r q (g q)) (λ q. changed q || applies r q (g q))
  one_redone done new own redone others j d lt mine = elim (cases_eq j i) [
    | inl e ↦
        let was : IsThis (get_or hand (i / workers) d) (g r.page) (changed r.page) = subst (λ (p : ℕ). IsThis (get_or hand (i / workers) d) (g p) (changed p)) is (these i d within own) in
        let now = redone d in
        subst (λ (k : ℕ). IsThis (get_or new (k / workers) d) (redo_one r (slice_index_or numbers k 0) (g (slice_index_or numbers k 0))) (changed (slice_index_or numbers k 0) || applies r (slice_index_or numbers k 0) (g (slice_index_or numbers k 0)))) (sym e)
        (subst (λ (p : ℕ). IsThis (get_or new (i / workers) d) (redo_one r p (g p)) (changed p || applies r p (g p))) (sym is)
        (record {
          page = now.page.is ∙ ap (λ (p : Page). redo_one r r.page p) was.page;
          changed = now.changed ∙ ap (λ (b : Bool). b || done) was.changed ∙ ap (λ (b : Bool). changed r.page || b) (now.page.applied ∙ ap (λ (p : Page). applies r r.page p) was.page);
        }))
    | inr ne ↦
        let p : ℕ = slice_index_or numbers j 0 in
        let same = others (j / workers) d (λ e. ne (same_place workers j i (mine ∙ sym own) e)) in
        subst (λ (y : RoundPage). IsThis y (redo_one r p (g p)) (changed p || applies r p (g p))) (sym same)
        (other_stays (get_or hand (j / workers) d) (g p) (changed p) r p (λ e. apart numbers i j rising within lt ne (is ∙ e)) (these j d lt mine))
  ]

  -- each page stays where the record is of another worker's page
  pub none_redone : i % workers ≢ worker → AreDealt workers worker numbers hand (λ q. redo_one r q (g q)) (λ q. changed q || applies r q (g q))
  none_redone other j d lt mine =
      let p : ℕ = slice_index_or numbers j 0 in
      let ne : j ≡ i → ⊥ = (λ e. other (sym (ap (λ (k : ℕ). k % workers) e) ∙ mine)) in
      other_stays (get_or hand (j / workers) d) (g p) (changed p) r p (λ e. apart numbers i j rising within lt ne (is ∙ e)) (these j d lt mine)

  -- whether the page of a record is with the worker, and that it takes it
  pub own_is : i % workers ≡ worker → (b : Bool) → (is_dealt workers worker numbers r.page && b) ≡ b
  own_is own b = ap (λ (p : ℕ). (p % workers == worker) && b) (ap (λ (p : ℕ). place_in numbers p) (sym is) ∙ place_is numbers i rising within) ∙ ap (λ (t : Bool). t && b) (let yes : (i % workers == worker) ≡ true = search (arith, own) in yes)

  pub other_is : i % workers ≢ worker → (b : Bool) → (is_dealt workers worker numbers r.page && b) ≡ false
  other_is other b = ap (λ (p : ℕ). (p % workers == worker) && b) (ap (λ (p : ℕ). place_in numbers p) (sym is) ∙ place_is numbers i rising within) ∙ ap (λ (t : Bool). t && b) (ne_eqb (i % workers) worker other)

  -- the worker's page takes the record
  pub takes_own : i % workers ≡ worker → i / workers < length hand → ((d : RoundPage) → PageRefuses r (get_or hand (i / workers) d).page.value) → (applies r r.page (g r.page) ≡ true → PageTakes r.what (g r.page)) → ⊥
  takes_own own room refuses takes =
      let d : RoundPage = item_at hand (i / workers) room in
      let page : (get_or hand (i / workers) d).page.value ≡ g r.page = (subst (λ (p : ℕ). IsThis (get_or hand (i / workers) d) (g p) (changed p)) is (these i d within own)).page in
      let here : PageRefuses r (g r.page) = subst (λ (p : Page). PageRefuses r p) page (refuses d) in
      here.lacks (takes here.needs)

  -- it is said whether it was applied
  pub applied_own : (done : Bool) (new : List RoundPage) → i % workers ≡ worker → i / workers < length hand → ((d : RoundPage) → IsRedone r (get_or hand (i / workers) d) done (get_or new (i / workers) d))
      → done ≡ (is_dealt workers worker numbers r.page && applies r r.page (g r.page))
  applied_own done new own room redone =
      let d : RoundPage = item_at hand (i / workers) room in
      let page : (get_or hand (i / workers) d).page.value ≡ g r.page = (subst (λ (p : ℕ). IsThis (get_or hand (i / workers) d) (g p) (changed p)) is (these i d within own)).page in
      (redone d).page.applied ∙ ap (λ (p : Page). applies r r.page p) page ∙ sym (own_is own (applies r r.page (g r.page)))

-- ---- records in turn

applied_then : (workers worker : ℕ) (numbers : List ℕ) (rs more : List Logged) (g : ℕ → Page) → applied_by workers worker numbers (rs ++ more) g ≡ applied_by workers worker numbers rs g + applied_by workers worker numbers more (λ q. redo_all rs q (g q))
applied_then workers worker numbers [] more g = omega arith
applied_then workers worker numbers (r ∷ rs) more g = let rest = applied_then workers worker numbers rs more (λ q. redo_one r q (g q)) in omega (arith, rest)

abbrev one_if : Bool → ℕ
one_if b = if b then 1 else 0

some_more : (n m : ℕ) (b : Bool) → m ≡ n + (one_if b + 0) → not (m == 0) ≡ (not (n == 0) || b)
some_more zero m false is = ap (λ (k : ℕ). not (k == 0)) (let e : m ≡ 0 = omega (arith, is) in e)
some_more zero m true is = ap (λ (k : ℕ). not (k == 0)) (let e : m ≡ 1 = omega (arith, is) in e)
some_more (suc n) m b is = ap not (ne_eqb m 0 (λ e. absurd (omega (arith, is, e)))) ∙ sym (ap (λ (t : Bool). not t || b) (ne_eqb (suc n) 0 (λ e. absurd (omega (arith, e)))))

applied_more : (done : List Logged) (r : Logged) (p : ℕ) (g : Page) → is_applied (done ++ r ∷ []) p g ≡ (is_applied done p g || applies r p (redo_all done p g))
applied_more done r p g = some_more (applied_to done p g) (applied_to (done ++ r ∷ []) p g) (applies r p (redo_all done p g)) (count_then done (r ∷ []) p g)

or_assoc : (a b c : Bool) → ((a || b) || c) ≡ (a || (b || c))
or_assoc true b c = refl
or_assoc false b c = refl

among_then : (numbers : List ℕ) (rs : List Logged) (r : Logged) → AreAmong numbers rs → IsAmong numbers r.page → AreAmong numbers (rs ++ r ∷ [])
among_then numbers [] r all one = (one, tt)
among_then numbers (x ∷ rs) r all one = (all.0, among_then numbers rs r all.1 one)

among_at : (numbers : List ℕ) (done : List Logged) (r : Logged) (more : List Logged) → AreAmong numbers (done ++ r ∷ more) → IsAmong numbers r.page
among_at numbers [] r more all = all.0
among_at numbers (x ∷ done) r more all = among_at numbers done r more all.1

-- What is done of the records, and what is left.
pub record Went (workers worker from : ℕ) (span numbers left : List ℕ) (rs : List Logged) (g : ℕ → Page) (changed : ℕ → Bool) (count : ℕ) (hand : List RoundPage) : Type 0 where
  pub done : List Logged
  pub more : List Logged
  pub split : done ++ more ≡ rs
  pub stand : StandIn from span left more
  pub redone : HandRedone workers worker numbers done g changed count hand

-- The next record.
pub record Next (from : ℕ) (span : List ℕ) (lsn : ℕ) (left : List ℕ) (more : List Logged) : Type 0 where
  pub first : Logged
  pub rest : List Logged
  pub is : more ≡ first ∷ rest
  pub here : StandsIn from span lsn first
  pub after : StandIn from span left rest

pub next_of : (from : ℕ) (span : List ℕ) (lsn : ℕ) (left : List ℕ) (more : List Logged) → StandIn from span (lsn ∷ left) more → Next from span lsn left more
next_of from span lsn left [] stand = absurd stand
next_of from span lsn left (r ∷ rs) stand = record { first = r; rest = rs; is = refl; here = stand.0; after = stand.1 }

none_left : (from : ℕ) (span : List ℕ) (more : List Logged) → StandIn from span [] more → more ≡ []
none_left from span [] stand = refl
none_left from span (r ∷ rs) stand = absurd stand

-- a record is taken where it stands
pub taken_at : (done : List Logged) (r : Logged) (more : List Logged) (g : ℕ → Page) → AllTaken (done ++ r ∷ more) g → applies r r.page (redo_all done r.page (g r.page)) ≡ true → PageTakes r.what (redo_all done r.page (g r.page))
taken_at [] r more g all = all.0
taken_at (x ∷ done) r more g all = taken_at done r more (λ q. redo_one x q (g q)) all.1

module _ (workers worker from : ℕ) (span numbers : List ℕ) (rs : List Logged) (g : ℕ → Page) (changed : ℕ → Bool) where
  pub went_start : (lsns : List ℕ) (hand : List RoundPage) → StandIn from span lsns rs → AreDealt workers worker numbers hand g changed → Went workers worker from span numbers lsns rs g changed 0 hand
  went_start lsns hand stand these = record {
    done = [];
    more = rs;
    split = refl;
    stand = stand;
    redone = record {
      pages = λ i d lt mine. let was = these i d lt mine in record { page = was.page; changed = was.changed ∙ sym (or-false (changed (slice_index_or numbers i 0))) };
      count = refl;
      among = tt;
    };
  }

  pub went_step : (lsn : ℕ) (left : List ℕ) (count : ℕ) (hand new : List RoundPage) (w : Went workers worker from span numbers (lsn ∷ left) rs g changed count hand) (n : Next from span lsn left w.more) (applied : Bool) (next : ℕ)
      → AreDealt workers worker numbers new (λ q. redo_one n.first q (redo_all w.done q (g q))) (λ q. (changed q || is_applied w.done q (g q)) || applies n.first q (redo_all w.done q (g q)))
      → applied ≡ (is_dealt workers worker numbers n.first.page && applies n.first n.first.page (redo_all w.done n.first.page (g n.first.page))) → next ≡ count + one_if applied → IsAmong numbers n.first.page → Went workers worker from span numbers left rs g changed next new
  went_step lsn left count hand new w n applied next these is more one = record {
    done = w.done ++ n.first ∷ [];
    more = n.rest;
    split = append_assoc w.done (n.first ∷ []) n.rest ∙ ap (λ (l : List Logged). w.done ++ l) (sym n.is) ∙ w.split;
    stand = n.after;
    redone = record {
      pages = λ i d lt mine. let p : ℕ = slice_index_or numbers i 0 in let now = these i d lt mine in record {
        page = now.page ∙ sym (page_then w.done (n.first ∷ []) p (g p));
        changed = now.changed ∙ or_assoc (changed p) (is_applied w.done p (g p)) (applies n.first p (redo_all w.done p (g p))) ∙ sym (ap (λ (b : Bool). changed p || b) (applied_more w.done n.first p (g p)));
      };
      count = (let was = w.redone.count in
          let all = applied_then workers worker numbers w.done (n.first ∷ []) g in
          let step : one_if applied ≡ one_if (is_dealt workers worker numbers n.first.page && applies n.first n.first.page (redo_all w.done n.first.page (g n.first.page))) = ap one_if is in
          omega (arith, was, all, step, more));
      among = among_then numbers w.done n.first w.redone.among one;
    };
  }

  -- the same of a record that is read there, and of what a call makes of the pages
  pub went_on : (lsn : ℕ) (left : List ℕ) (count : ℕ) (hand new : List RoundPage) (w : Went workers worker from span numbers (lsn ∷ left) rs g changed count hand) (l : Logged) → ((r : Logged) → StandsIn from span lsn r → l ≡ r) → (applied : Bool) (next : ℕ)
      → ((h : ℕ → Page) (marks : ℕ → Bool) → AreDealt workers worker numbers hand h marks → AreDealt workers worker numbers new (λ q. redo_one l q (h q)) (λ q. marks q || applies l q (h q)))
      → ((h : ℕ → Page) (marks : ℕ → Bool) → AreDealt workers worker numbers hand h marks → applied ≡ (is_dealt workers worker numbers l.page && applies l l.page (h l.page))) → IsAmong numbers l.page → next ≡ count + one_if applied → Went workers worker from span numbers left rs g changed next new
  went_on lsn left count hand new w l same applied next pages is among more =
      let n = next_of from span lsn left w.more w.stand in
      let e : l ≡ n.first = same n.first n.here in
      let h : ℕ → Page = λ q. redo_all w.done q (g q) in
      let marks : ℕ → Bool = λ q. changed q || is_applied w.done q (g q) in
      went_step lsn left count hand new w n applied next
      (subst (λ (r : Logged). AreDealt workers worker numbers new (λ q. redo_one r q (redo_all w.done q (g q))) (λ q. (changed q || is_applied w.done q (g q)) || applies r q (redo_all w.done q (g q)))) e (pages h marks w.redone.pages))
      (subst (λ (r : Logged). applied ≡ (is_dealt workers worker numbers r.page && applies r r.page (redo_all w.done r.page (g r.page)))) e (is h marks w.redone.pages)) more (subst (λ (r : Logged). IsAmong numbers r.page) e among)

  -- it is taken where it stands
  pub took : (lsn : ℕ) (left : List ℕ) (count : ℕ) (hand : List RoundPage) (w : Went workers worker from span numbers (lsn ∷ left) rs g changed count hand) (l : Logged) → ((r : Logged) → StandsIn from span lsn r → l ≡ r) → AllTaken rs g
      → applies l l.page (redo_all w.done l.page (g l.page)) ≡ true → PageTakes l.what (redo_all w.done l.page (g l.page))
  took lsn left count hand w l same all =
      let n = next_of from span lsn left w.more w.stand in
      subst (λ (r : Logged). applies r r.page (redo_all w.done r.page (g r.page)) ≡ true → PageTakes r.what (redo_all w.done r.page (g r.page))) (sym (same n.first n.here))
      (taken_at w.done n.first n.rest g (subst (λ (x : List Logged). AllTaken x g) (sym (ap (λ (x : List Logged). w.done ++ x) (sym n.is) ∙ w.split)) all))

  -- it is of one of the pages
  pub amid : (lsn : ℕ) (left : List ℕ) (count : ℕ) (hand : List RoundPage) (w : Went workers worker from span numbers (lsn ∷ left) rs g changed count hand) (l : Logged) → ((r : Logged) → StandsIn from span lsn r → l ≡ r) → AreAmong numbers rs → IsAmong numbers l.page
  amid lsn left count hand w l same all =
      let n = next_of from span lsn left w.more w.stand in
      subst (λ (r : Logged). IsAmong numbers r.page) (sym (same n.first n.here)) (among_at numbers w.done n.first n.rest (subst (λ (x : List Logged). AreAmong numbers x) (sym (ap (λ (x : List Logged). w.done ++ x) (sym n.is) ∙ w.split)) all))

  -- it is there
  pub there : (lsn : ℕ) (left : List ℕ) (count : ℕ) (hand : List RoundPage) (w : Went workers worker from span numbers (lsn ∷ left) rs g changed count hand) → ((r : Logged) → StandsIn from span lsn r → ⊥) → ⊥
  there lsn left count hand w never = let n = next_of from span lsn left w.more w.stand in never n.first n.here

  pub went_end : (count : ℕ) (hand : List RoundPage) → Went workers worker from span numbers [] rs g changed count hand → HandRedone workers worker numbers rs g changed count hand
  went_end count hand w =
      let all : w.done ≡ rs = sym (append-nil w.done) ∙ ap (λ (l : List Logged). w.done ++ l) (sym (none_left from span w.more w.stand)) ∙ w.split in
      subst (λ (l : List Logged). HandRedone workers worker numbers l g changed count hand) all w.redone

-- a refusal that is handed on
pub err_on : {A : Type 0} (r : Result A Fault) (f : Fault) (P : Fault → Type 0) → IsErrAnd r (λ e. e ≡ f) → P f → IfErr r P
err_on (Ok a) f P is p = absurd is
err_on (Err e) f P is p = subst P (sym is) p
