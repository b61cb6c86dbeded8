-- What a structure change under way may log next.
use Rattle.std.proofs.Common.{◌≡◌, ◌≢◌, ℕ, zero, suc, ◌<◌, ◌≤◌, List, [], ◌∷◌, length, inl, inr, refl, sym, ap, subst, ◌∙◌, arith, ◌==◌}
use Rattle.std.proofs.lemmas.Bool.{cases_lt, cond-true, eq-eqb}
use Rattle.im_base_types.specs.Records.{Logged}
use Rattle.im_theory_log.specs.Histories.{History, end_of, page_at}
use Rattle.im_theory_log.specs.Lawful.{Follows, IsNewIn, MayDummyClr, resumes}
use Rattle.im_theory_log.specs.LogLaws.{IsRebuilt}
use Rattle.im_theory_log.specs.Structure.{open_smo}
use Rattle.im_theory_log.specs.Transactions.{last_of, undo_next_of}
use Rattle.im_theory_log.proofs.Cited.{append_dummy, append_smo, count_low}
use Rattle.im_theory_tree.specs.Theory.{page_tree}
use Rattle.im_smo_pages.specs.Images.{Numbered, image_at}
use Rattle.im_smo_log.specs.Under.{AreLogged}
use Rattle.im_smo_log.specs.Logged.{smo_at, dummy_at}
use Rattle.im_smo_log.specs.GoingOn.{ChangesBegin, PagesMayCome, ClosesMayCome}
use Rattle.im_smo_log.proofs.ChangeLogs.{last_most, rising_lt}
use Rattle.im_smo_log.proofs.Going.{closes_well}

pub changes_begin : ChangesBegin
changes_begin b t undo_next images prev log law some newest unfinished rising none undo stands = record {
  lawful = law;
  owner = some;
  last = newest;
  unfinished = unfinished;
  rising = rising;
  within = omega arith;
  logged = subst (AreLogged t images (end_of b log) 0) (sym none) tt;
  made = λ k lt. absurd (omega (arith, lt));
  leads = ap (resumes log t) none ∙ undo;
  counted = λ any. absurd (omega (arith, any));
  zeroth = λ any. absurd (omega (arith, any));
  named = λ k lt. absurd (omega (arith, lt));
  bounded = λ any. absurd (omega (arith, any));
  stands = stands;
}

-- a page past those that are logged is new in the open change
new_in : (t : ℕ) (images : List Numbered) (l i : ℕ) (going : History) (p : ℕ) → ((k : ℕ) → k < i → (image_at images k).0 < p) → AreLogged t images l i going → IsNewIn t p going
new_in t images l i [] p above is = tt
new_in t images l zero (s ∷ rest) p above is = absurd is
new_in t images l (suc i) (s ∷ rest) p above is =
    (is.0, (λ e. (let less = above i (omega arith) in let page = is.1 in absurd (omega (arith, less, page, e)))), new_in t images l i rest p (λ k lt. above k (omega (arith, lt))) is.3)

one_of : (n : ℕ) → n ≢ 0 → 1 ≤ n
one_of n other = omega (arith, other)

pub pages_may_come : PagesMayCome
pages_may_come b t undo_next images done prev lsn log new way more first last high same =
    let p = (image_at images done).0 in
    let r = smo_at lsn t prev p (page_at b log p).body new in
    let follows : Follows b page_tree r log = record {
      rises = high;
      chained = λ owned. record { number = one_of t way.owner; prev = sym way.last; unfinished = way.unfinished };
      may = record {
        no_undo_next = refl;
        new_in = new_in t images (end_of b log) done (open_smo log) p (λ k lt. rising_lt images k done way.rising lt more) way.logged;
        before = refl;
        within = elim (cases_lt 0 done) [
          | inl some ↦ (let said = way.counted (omega (arith, some)) in let most = last_most images done way.rising more in omega (arith, said, most, last))
          | inr none ↦ (let zero_is : done ≡ 0 = omega (arith, none) in let here : p ≡ 0 = ap (λ (k : ℕ). (image_at images k).0) zero_is ∙ first in let low = count_low b log in omega (arith, here, low))
        ];
      };
    } in
    append_smo b page_tree log r way.lawful follows (page_at b log p).body new refl

pub closes_may_come : ClosesMayCome
closes_may_come b t undo_next images prev lsn log way some high = record {
  lawful = append_dummy b page_tree log r way.lawful follows refl rebuilt.good rebuilt.walk rebuilt.named;
  closed = refl;
  last = cond-true (t == t) lsn (last_of t log) (eq-eqb t t refl);
  undo = cond-true (t == t) undo_next (undo_next_of t log) (eq-eqb t t refl);
}
  where
    rebuilt : IsRebuilt b page_tree log
    rebuilt = closes_well b t undo_next images prev log way

    r : Logged
    r = dummy_at lsn t prev undo_next

    may : (i : ℕ) (going : History) → 1 ≤ i → open_smo log ≡ going → AreLogged t images (end_of b log) i going → resumes log t going ≡ undo_next → MayDummyClr r log
    may zero going any is logged leads = absurd (omega (arith, any))
    may (suc i) [] any is logged leads = absurd logged
    may (suc i) (u ∷ rest) any is logged leads = record { newest = u; rest = rest; going = is; owner = logged.0; leads = sym leads }

    follows : Follows b page_tree r log
    follows = record {
      rises = high;
      chained = λ owned. record { number = one_of t way.owner; prev = sym way.last; unfinished = way.unfinished };
      may = may (length images) (open_smo log) some refl way.logged way.leads;
    }
