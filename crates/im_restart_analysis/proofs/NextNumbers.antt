-- The next number, with one record more.
use Rattle.std.proofs.Common.{◌≡◌, ◌≤◌, ◌<◌, ◌+◌, ℕ, ◌∷◌, inl, inr, refl, sym, ◌∙◌, ap, subst, arith}
use Rattle.std.specs.Prelude.{min, max, cond}
use Rattle.std.specs.declared.cmp.Ordering.{Ordering}
use Rattle.std.specs.declared.cmp.Ordering.TheVariants.{Less, Equal, Greater}
use Rattle.std.specs.Ordering.{nat_cmp, is_lt, ord_max}
use Rattle.std.proofs.lemmas.Cmp.{ranked}
use Rattle.im_base_types.specs.Records.{What, InsertKey, DeleteKey, UndoInsert, UndoDelete, Smo, UndoSmo, DummyClr, Commit, End, Image, Checkpoint, Unreadable, Logged}
use Rattle.im_theory_log.specs.Histories.{History}
use Rattle.im_restart_analysis.specs.Records.{next_in}
use Rattle.im_restart_analysis.specs.Numbers.{IsNew, IsNextNumber}

-- the larger of two, as code finds it
pub larger_is : (m n : ℕ) → ord_max nat_cmp m n ≡ max m n
larger_is m n = by (nat_cmp n m) refl
  where
    by : (o : Ordering) → nat_cmp n m ≡ o → ord_max nat_cmp m n ≡ max m n
    by Less is = let lt : n < m = ranked n m Less (sym is) in let e : ord_max nat_cmp m n ≡ m = ap (λ (o : Ordering). cond (is_lt o) m n) is in omega (arith, lt, e)
    by Equal is = let same : n ≡ m = ranked n m Equal (sym is) in let e : ord_max nat_cmp m n ≡ n = ap (λ (o : Ordering). cond (is_lt o) m n) is in omega (arith, same, e)
    by Greater is = let lt : m < n = ranked n m Greater (sym is) in let e : ord_max nat_cmp m n ≡ n = ap (λ (o : Ordering). cond (is_lt o) m n) is in omega (arith, lt, e)

-- what a new number is at least, for a record's kind
named : (low n : ℕ) (r : Logged) (older : History) (w : What) → r.what ≡ w → IsNew low n (r ∷ older) → next_in w ≤ n
named low n r older (Checkpoint m a d) is new = new.noted r m a d (inl refl) is
named low n r older (InsertKey k i) is new = omega arith
named low n r older (DeleteKey k i) is new = omega arith
named low n r older (UndoInsert k i) is new = omega arith
named low n r older (UndoDelete k i) is new = omega arith
named low n r older (Smo a b) is new = omega arith
named low n r older (UndoSmo a) is new = omega arith
named low n r older DummyClr is new = omega arith
named low n r older Commit is new = omega arith
named low n r older End is new = omega arith
named low n r older (Image c) is new = omega arith
named low n r older Unreadable is new = omega arith

new_before : (low n : ℕ) (r : Logged) (older : History) → IsNew low n (r ∷ older) → IsNew low n older
new_before low n r older new = record { least = new.least; above = λ s h. new.above s (inr h); noted = λ s m a d h is. new.noted s m a d (inr h) is }

new_more : (low n m : ℕ) (r : Logged) (older : History) → n ≤ m → r.txn < m → next_in r.what ≤ m → IsNew low n older → IsNew low m (r ∷ older)
new_more low n m r older le lt named new = record {
  least = (let one : low ≤ n = new.least in omega (arith, one, le));
  above = λ s h. elim h [
    | inl same ↦ subst (λ (x : Logged). x.txn < m) same lt
    | inr old ↦ (let less : s.txn < n = new.above s old in omega (arith, less, le))
  ];
  noted = λ s x a d h is. elim h [
    | inl same ↦
        let names : next_in r.what ≡ x = ap (λ (y : Logged). next_in y.what) same ∙ ap next_in is in
        omega (arith, names, named)
    | inr old ↦ (let low : x ≤ n = new.noted s x a d old is in omega (arith, low, le))
  ];
}

counted : (next number t c most n : ℕ) → next ≡ min number most → c ≤ most → n ≡ max next (max (min (t + 1) most) c) → n ≡ min (max number (max (t + 1) c)) most
counted next number t c most n a b e = omega (arith, a, b, e)

-- the numbers go up to a greatest one
pub next_more : (low most next n : ℕ) (r : Logged) (older : History) → next_in r.what ≤ most → n ≡ max next (max (min (r.txn + 1) most) (next_in r.what))
    → (was : IsNextNumber low next older) → next ≡ min was.number most → (number : ℕ) × IsNew low number (r ∷ older) × ((m : ℕ) → IsNew low m (r ∷ older) → number ≤ m) × (n ≡ min number most)
next_more low most next n r older fits is was old = (
  max was.number (max (r.txn + 1) (next_in r.what)),
  new_more low was.number (max was.number (max (r.txn + 1) (next_in r.what))) r older (omega arith) (omega arith) (omega arith) was.new,
  (λ m new. (
      let a : was.number ≤ m = was.least m (new_before low m r older new) in
      let b : r.txn < m = new.above r (inl refl) in
      let c : next_in r.what ≤ m = named low m r older r.what refl new in
      omega (arith, a, b, c)
      )),
  counted next was.number r.txn (next_in r.what) most n old fits is,
)
