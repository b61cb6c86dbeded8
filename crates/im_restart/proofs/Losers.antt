-- The map of the losers' chains, step by step.
use Rattle.std.proofs.Common.{◌≡◌, ◌≢◌, ◌≤◌, ◌<◌, ◌⊎◌, ℕ, List, [], ◌∷◌, Bool, true, false, Option, None, Some, inl, inr, refl, sym, ◌∙◌, ap, subst, arith}
use Rattle.std.specs.Prelude.{◌||◌, cond, is_some}
use Rattle.std.specs.Ordering.{nat_cmp}
use Rattle.std.specs.BTreeMap.{BTreeMap, get, is_at}
use Rattle.std.specs.Map.{lookup}
use Rattle.std.proofs.lemmas.Bool.{cases_Bool, cases_eq, cond-true, cond-false, eq-eqb, ne_eqb}
use Rattle.im_base_types.specs.Records.{Logged}
use Rattle.im_theory_log.specs.Tree.{Tree}
use Rattle.im_theory_log.specs.Histories.{Base, History, IsFront, IsRecordOf, Rises, end_of}
use Rattle.im_theory_log.specs.Lawful.{IsLawful}
use Rattle.im_restart_analysis.specs.declared.rows.Loser.{Loser}
use Rattle.im_restart_analysis.specs.Losers.{AreLosers, LoserMap, is_loser, row_of}
use Rattle.im_restart_analysis.specs.Undo.{HasRecordAt}
use Rattle.im_restart_analysis.proofs.LawfulLogs.{low}
use Rattle.im_restart_analysis.proofs.Readings.{goes_on_at}
use Rattle.im_restart_analysis.proofs.Tables.{listed, at_cases}
use Rattle.im_restart.specs.declared.chains.Chain.{Chain}
use Rattle.im_restart.specs.LoserChains.{AreChains, HasOnlyLosers, ChainMap, GoesOnAt, HasChain, SparesOthers, and_also, chain_of, nobody}
use Rattle.im_restart.proofs.Others.{goes_longer}

-- ---- maps

-- the one map is the other with this at a key
abbrev pub HasAt : {X : Type 0} → BTreeMap ℕ X → ℕ → Option X → BTreeMap ℕ X → Type 0
HasAt old l x new = (q : ℕ) → get nat_cmp new q ≡ cond (is_at (nat_cmp l) q) x (get nat_cmp old q)

module _ {X : Type 0} (old new : BTreeMap ℕ X) (l : ℕ) (x : Option X) (put : HasAt old l x new) where
  pub here : get nat_cmp new l ≡ x
  here = elim (at_cases l l) [
    | inl is ↦ put l ∙ cond-true (is_at (nat_cmp l) l) x (get nat_cmp old l) is.1
    | inr away ↦ absurd (away.0 refl)
  ]

  pub away : (q : ℕ) → l ≢ q → get nat_cmp new q ≡ get nat_cmp old q
  away q other = elim (at_cases l q) [
    | inl is ↦ absurd (other is.0)
    | inr apart ↦ put q ∙ cond-false (is_at (nat_cmp l) q) x (get nat_cmp old q) apart.1
  ]

-- a map that has nothing at each key has no entry
none_listed : {X : Type 0} (es : List (ℕ × X)) → ((t : ℕ) → lookup (is_at (nat_cmp t)) es ≡ None) → es ≡ []
none_listed [] none = refl
none_listed {X} (e ∷ es) none = elim (at_cases e.0 e.0) [
  | inl is ↦ absurd (let clash : Some e.1 ≡ None = sym (cond-true (is_at (nat_cmp e.0) e.0) (Some e.1) (lookup (is_at (nat_cmp e.0)) es) is.1) ∙ none e.0 in cc clash)
  | inr away ↦ absurd (away.0 refl)
]

-- where no transaction is a loser, the table is empty
pub losers_none : (losers : LoserMap) (log : History) → AreLosers losers log → ((t : ℕ) → is_loser t log ≡ false) → losers.entries ≡ []
losers_none losers log are ended = none_listed losers.entries (λ t. are t ∙ cond-false (is_loser t log) (Some (row_of t log)) None (ended t))

some_one : {X : Type 0} (o : Option X) (x y : X) → o ≡ Some x → o ≡ Some y → x ≡ y
some_one o x y first second = let e : Some x ≡ Some y = sym first ∙ second in cc e

some_not : {X : Type 0} (o : Option X) (x : X) → o ≡ None → o ≡ Some x → ⊥
some_not o x none some = let e : None ≡ Some x = sym none ∙ some in cc e

-- ---- who is left out

pub out_parts : (t : ℕ) (out : ℕ → Bool) (u : ℕ) → and_also t out u ≡ false → (u ≢ t) × (out u ≡ false)
out_parts t out u is = elim (cases_eq t u) [
  | inl same ↦ (let e : true ≡ false = sym (ap (λ (x : Bool). x || out u) (eq-eqb t u same)) ∙ is in absurd (cc e))
  | inr other ↦ ((λ e. other (sym e)), sym (ap (λ (x : Bool). x || out u) (ne_eqb t u other)) ∙ is)
]

pub out_from : (t : ℕ) (out : ℕ → Bool) (u : ℕ) → u ≢ t → out u ≡ false → and_also t out u ≡ false
out_from t out u other is = ap (λ (x : Bool). x || out u) (ne_eqb t u (λ e. other (sym e))) ∙ is

-- ---- a record at an LSN is one transaction's

pub one_record : (b : Base) (log : History) (s h : Logged) → Rises b log → IsRecordOf s log → IsRecordOf h log → s.lsn ≡ h.lsn → s ≡ h
one_record b [] s h up is ih e = absurd is
one_record b (r ∷ older) s h up (inl a) (inl c) e = sym a ∙ c
one_record b (r ∷ older) s h up (inl a) (inr c) e =
    let within : h.lsn ≤ end_of b older = low b older h up.0 c in
    let high : end_of b older < r.lsn = up.1 in let x : r.lsn ≡ s.lsn = ap (λ (y : Logged). y.lsn) a in absurd (omega (arith, within, high, x, e))
one_record b (r ∷ older) s h up (inr a) (inl c) e =
    let within : s.lsn ≤ end_of b older = low b older s up.0 a in
    let high : end_of b older < r.lsn = up.1 in let x : r.lsn ≡ h.lsn = ap (λ (y : Logged). y.lsn) c in absurd (omega (arith, within, high, x, e))
one_record b (r ∷ older) s h up (inr a) (inr c) e = one_record b older s h up.0 a c e

one_owner : (b : Base) (log : History) (t u l : ℕ) → Rises b log → HasRecordAt t l log → HasRecordAt u l log → t ≡ u
one_owner b log t u l up first second =
    let same : first.found ≡ second.found = one_record b log first.found second.found up first.logged second.logged (first.here ∙ sym second.here) in
    sym first.owner ∙ ap (λ (x : Logged). x.txn) same ∙ second.owner

-- ---- steps

-- no chain stands where another's undo goes on
pub chains_free : (b : Base) (out : ℕ → Bool) (chains : ChainMap) (log : History) (c x : Chain) (l : ℕ) → Rises b log → AreChains (and_also c.transaction out) chains log → GoesOnAt c l log → l ≢ 0 → get nat_cmp chains l ≡ Some x → ⊥
chains_free b out chains log c x l up are goes some is =
    let each = are.each l x is in
    (out_parts c.transaction out x.transaction each.1).0 (one_owner b log x.transaction c.transaction l up (each.2.at some) (goes.at some))

pub chains_put : (b : Base) (out : ℕ → Bool) (old new : ChainMap) (log : History) (c : Chain) (l : ℕ) → AreChains (and_also c.transaction out) old log → out c.transaction ≡ false → GoesOnAt c l log → l ≢ 0
    → get nat_cmp old l ≡ None → HasAt old l (Some c) new → AreChains out new log
chains_put b out old new log c l are left goes some free put = record {
  each = λ m x is. by m x is (cases_eq l m);
  all = λ u loser is. all u loser is (cases_eq u c.transaction);
  once = λ m n x y first second same. once m n x y first second same (cases_eq l m) (cases_eq l n);
}
  where
    was : (m : ℕ) (x : Chain) → l ≢ m → get nat_cmp new m ≡ Some x → get nat_cmp old m ≡ Some x
    was m x other is = sym (away old new l (Some c) put m other) ∙ is

    mine : (m : ℕ) (x : Chain) → l ≡ m → get nat_cmp new m ≡ Some x → c ≡ x
    mine m x same is = some_one (get nat_cmp new m) c x (ap (λ (n : ℕ). get nat_cmp new n) (sym same) ∙ here old new l (Some c) put) is

    by : (m : ℕ) (x : Chain) → get nat_cmp new m ≡ Some x → (l ≡ m) ⊎ (l ≡ m → ⊥) → (m ≢ 0) × (out x.transaction ≡ false) × GoesOnAt x m log
    by m x is (inl same) =
        let is_c : c ≡ x = mine m x same is in (
          (λ e. some (same ∙ e)),
          ap (λ (y : Chain). out y.transaction) (sym is_c) ∙ left,
          subst (λ (y : Chain). GoesOnAt y m log) is_c (subst (λ (n : ℕ). GoesOnAt c n log) same goes),
        )
    by m x is (inr other) = let each = are.each m x (was m x other is) in (each.0, (out_parts c.transaction out x.transaction each.1).1, each.2)

    all : (u : ℕ) → is_loser u log ≡ true → out u ≡ false → (u ≡ c.transaction) ⊎ (u ≡ c.transaction → ⊥) → HasChain u new
    all u loser is (inl same) = record { lsn = l; chain = c; is = here old new l (Some c) put; owner = sym same }
    all u loser is (inr other) =
        let has = are.all u loser (out_from c.transaction out u other is) in
        let apart : l ≢ has.lsn = λ e. some_not (get nat_cmp old l) has.chain free (ap (λ (n : ℕ). get nat_cmp old n) e ∙ has.is) in
        record { lsn = has.lsn; chain = has.chain; is = away old new l (Some c) put has.lsn apart ∙ has.is; owner = has.owner }

    not_mine : (m : ℕ) (x : Chain) → l ≢ m → get nat_cmp new m ≡ Some x → x.transaction ≢ c.transaction
    not_mine m x other is = (out_parts c.transaction out x.transaction (are.each m x (was m x other is)).1).0

    once : (m n : ℕ) (x y : Chain) → get nat_cmp new m ≡ Some x → get nat_cmp new n ≡ Some y → x.transaction ≡ y.transaction → (l ≡ m) ⊎ (l ≡ m → ⊥) → (l ≡ n) ⊎ (l ≡ n → ⊥) → m ≡ n
    once m n x y first second same (inl a) (inl c) = sym a ∙ c
    once m n x y first second same (inl a) (inr d) = absurd (not_mine n y d second (sym same ∙ ap (λ (z : Chain). z.transaction) (sym (mine m x a first))))
    once m n x y first second same (inr d) (inl a) = absurd (not_mine m x d first (same ∙ ap (λ (z : Chain). z.transaction) (sym (mine n y a second))))
    once m n x y first second same (inr d) (inr e) = are.once m n x y (was m x d first) (was n y e second) same

-- the transaction that was left out is no loser any more
pub chains_ended : (t : ℕ) (out : ℕ → Bool) (chains : ChainMap) (log : History) → AreChains (and_also t out) chains log → is_loser t log ≡ false → AreChains out chains log
chains_ended t out chains log are ended = record {
  each = λ l c is. (let each = are.each l c is in (each.0, (out_parts t out c.transaction each.1).1, each.2));
  all = λ u loser is. are.all u loser (out_from t out u (λ e. (let clash : true ≡ false = sym loser ∙ ap (λ (x : ℕ). is_loser x log) e ∙ ended in cc clash)) is);
  once = are.once;
}

-- the log grew by records of the transaction that is left out
pub chains_longer : (b : Base) (tree : Tree) (t : ℕ) (out : ℕ → Bool) (chains : ChainMap) (old new : History) → IsLawful b tree old → Rises b old → Rises b new → IsFront old new → SparesOthers t old new
    → AreChains (and_also t out) chains old → AreChains (and_also t out) chains new
chains_longer b tree t out chains old new law up_old up front spares are = record {
  each = λ l c is. (
      let each = are.each l c is in
      (each.0, each.1, goes_longer b tree t c l old new law up_old up front spares (out_parts t out c.transaction each.1).0 each.2)
      );
  all = λ u loser is. are.all u (sym (spares.losers u (out_parts t out u is).0) ∙ loser) is;
  once = are.once;
}

-- a chain is taken out of the map
pub chains_taken : (chains new : ChainMap) (log : History) (l : ℕ) (c : Chain) → AreChains nobody chains log → get nat_cmp chains l ≡ Some c → HasAt chains l None new
    → AreChains (and_also c.transaction nobody) new log × (l ≢ 0) × GoesOnAt c l log
chains_taken chains new log l c are is gone = (
  record {
    each = λ m x at. by m x at (cases_eq l m);
    all = λ u loser left. (
        let other : u ≢ c.transaction = (out_parts c.transaction nobody u left).0 in
        let has = are.all u loser refl in
        let apart : l ≢ has.lsn = λ e. (
        let same : c ≡ has.chain = some_one (get nat_cmp chains l) c has.chain is (ap (λ (n : ℕ). get nat_cmp chains n) e ∙ has.is) in
        other (sym has.owner ∙ ap (λ (z : Chain). z.transaction) (sym same))
        ) in
        record { lsn = has.lsn; chain = has.chain; is = away chains new l None gone has.lsn apart ∙ has.is; owner = has.owner }
        );
    once = λ m n x y first second same. are.once m n x y (was m x first) (was n y second) same;
  },
  (are.each l c is).0,
  (are.each l c is).2,
)
  where
    not_here : (m : ℕ) (x : Chain) → get nat_cmp new m ≡ Some x → l ≢ m
    not_here m x at e = some_not (get nat_cmp new m) x (ap (λ (n : ℕ). get nat_cmp new n) (sym e) ∙ here chains new l None gone) at

    was : (m : ℕ) (x : Chain) → get nat_cmp new m ≡ Some x → get nat_cmp chains m ≡ Some x
    was m x at = sym (away chains new l None gone m (not_here m x at)) ∙ at

    by : (m : ℕ) (x : Chain) → get nat_cmp new m ≡ Some x → (l ≡ m) ⊎ (l ≡ m → ⊥) → (m ≢ 0) × (and_also c.transaction nobody x.transaction ≡ false) × GoesOnAt x m log
    by m x at (inl same) = absurd (not_here m x at same)
    by m x at (inr other) =
        let each = are.each m x (was m x at) in (
          each.0,
          out_from c.transaction nobody x.transaction (λ e. other (sym (are.once m l x c (was m x at) is e))) refl,
          each.2,
        )

-- no chain is left, so nobody is a loser
pub chains_none : (chains : ChainMap) (log : History) → AreChains nobody chains log → chains.entries ≡ [] → (t : ℕ) → is_loser t log ≡ false
chains_none chains log are none t = elim (cases_Bool (is_loser t log)) [
  | inl loser ↦ (let has = are.all t loser refl in let gone : get nat_cmp chains has.lsn ≡ None = get_none chains has.lsn none in absurd (some_not (get nat_cmp chains has.lsn) has.chain gone has.is))
  | inr other ↦ other
]
  where
    get_none : {X : Type 0} (m : BTreeMap ℕ X) (q : ℕ) → m.entries ≡ [] → get nat_cmp m q ≡ None
    get_none m q none = rw none refl

-- ---- the losers that are not in the map yet

-- those that wait
abbrev pub waiting : LoserMap → ℕ → Bool
waiting losers u = is_some (get nat_cmp losers u)

pub no_entry : {X : Type 0} (m : BTreeMap ℕ X) (q : ℕ) → m.entries ≡ [] → get nat_cmp m q ≡ None
no_entry m q none = rw none refl

pub waiting_first : (losers : LoserMap) (chains : ChainMap) (log : History) → AreLosers losers log → chains.entries ≡ [] → AreChains (waiting losers) chains log × HasOnlyLosers losers log
waiting_first losers chains log are none = (
  record {
    each = λ l c is. absurd (some_not (get nat_cmp chains l) c (no_entry chains l none) is);
    all = λ t loser left. (
        let e : get nat_cmp losers t ≡ Some (row_of t log) = are t ∙ cond-true (is_loser t log) (Some (row_of t log)) None loser in
        let clash : true ≡ false = sym (ap (λ (o : Option Loser). is_some o) e) ∙ left in absurd (cc clash)
        );
    once = λ l m c x first second same. absurd (some_not (get nat_cmp chains l) c (no_entry chains l none) first);
  },
  λ t row is. listed losers log t row are is,
)

-- one of them is taken out
pub waiting_taken : (b : Base) (tree : Tree) (losers new : LoserMap) (chains : ChainMap) (log : History) (t : ℕ) (row : Loser) → IsLawful b tree log → AreChains (waiting losers) chains log → HasOnlyLosers losers log → get nat_cmp losers t ≡ Some row
    → HasAt losers t None new → AreChains (and_also t (waiting new)) chains log × (waiting new t ≡ false) × GoesOnAt (chain_of t row.last row.undo_next) row.undo_next log × HasOnlyLosers new log
waiting_taken b tree losers new chains log t row law are wait is gone =
    let mine = wait t row is in (
      subst (λ (out : ℕ → Bool). AreChains out chains log) (λ i u. same u i) are,
      ap (λ (o : Option Loser). is_some o) (here losers new t None gone),
      record {
        loser = mine.0;
        last = ap (λ (r : Loser). r.last) mine.1;
        undo = ap (λ (r : Loser). r.undo_next) mine.1;
        at = subst (λ (n : ℕ). n ≢ 0 → HasRecordAt t n log) (sym (ap (λ (r : Loser). r.undo_next) mine.1)) (goes_on_at b tree log t law);
        same = ap (λ (r : Loser). Rattle.im_theory_log.specs.Transactions.undo_reads r.undo_next log) mine.1;
      },
      λ u other at. wait u other (was u other at),
    )
  where
    same : (u : ℕ) → waiting losers u ≡ and_also t (waiting new) u
    same u = elim (cases_eq t u) [
      | inl e ↦ ap (λ (n : ℕ). waiting losers n) (sym e) ∙ ap (λ (o : Option Loser). is_some o) is ∙ sym (ap (λ (x : Bool). x || waiting new u) (eq-eqb t u e))
      | inr other ↦ sym (ap (λ (x : Bool). x || waiting new u) (ne_eqb t u other) ∙ ap (λ (o : Option Loser). is_some o) (away losers new t None gone u other))
    ]

    was : (u : ℕ) (other : Loser) → get nat_cmp new u ≡ Some other → get nat_cmp losers u ≡ Some other
    was u other at = elim (cases_eq t u) [
      | inl e ↦ absurd (some_not (get nat_cmp new u) other (ap (λ (n : ℕ). get nat_cmp new n) (sym e) ∙ here losers new t None gone) at)
      | inr apart ↦ sym (away losers new t None gone u apart) ∙ at
    ]

-- the others wait as they did
pub waiting_longer : (t : ℕ) (losers : LoserMap) (old new : History) → waiting losers t ≡ false → SparesOthers t old new → HasOnlyLosers losers old → HasOnlyLosers losers new
waiting_longer t losers old new left spares wait u row is =
    let mine = wait u row is in
    let other : u ≢ t = λ e. (let clash : true ≡ false = sym (ap (λ (o : Option Loser). is_some o) is) ∙ ap (λ (n : ℕ). waiting losers n) e ∙ left in cc clash) in
    (spares.losers u other ∙ mine.0, mine.1 ∙ sym (spares.rows u other mine.0))

-- none waits any more
pub waiting_none : (losers : LoserMap) (chains : ChainMap) (log : History) → losers.entries ≡ [] → AreChains (waiting losers) chains log → AreChains nobody chains log
waiting_none losers chains log none are = subst (λ (out : ℕ → Bool). AreChains out chains log) (λ i u. ap (λ (o : Option Loser). is_some o) (no_entry losers u none) i) are
