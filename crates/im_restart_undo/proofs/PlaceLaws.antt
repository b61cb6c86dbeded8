-- A page that is known to be the leaf of a key.
use Rattle.std.proofs.Common.{◌≡◌, ◌<◌, ◌≤◌, ◌↔◌, ℕ, zero, false, nat_lt, List, [], length, Ok, Err, subst, ⊎_elim, arith}
use Rattle.std.proofs.lemmas.Bool.{cases_lt, lt-ltb, ltb-true}
use Rattle.std.specs.Bool.{IsTrue}
use Rattle.im_base_types.specs.Keys.{Key, IsBelow}
use Rattle.im_base_types.specs.Pages.{Body, Entry}
use Rattle.im_theory_page.specs.Entry.{entry_at, IsPlace}
use Rattle.im_theory_page.specs.Page.{is_leaf_kind}
use Rattle.im_theory_page.specs.Split.{HasRoom}
use Rattle.im_theory_page.proofs.Order.{below_trans, below_irrefl}
use Rattle.im_theory_tree.specs.Levels.{Pages}
use Rattle.im_theory_tree.specs.Good.{IsGoodTree}
use Rattle.im_theory_tree.specs.Search.{IsOnWay}
use Rattle.im_theory_tree.proofs.LeafByKey.{leaf_of_its_key, leaf_between_keys}
use Rattle.im_restart_undo.specs.Place.{IsKnownLeaf, HasKey, HasGap, Surrounds}

-- ---- what the place of a key says

pub key_found : (es : List Entry) (key : Key) (i : ℕ) → IsPlace es key (Ok i) → HasKey es key
key_found es key i here = record { at = i; within = here.0; same = here.1 }

pub gap_found : (es : List Entry) (key : Key) (i : ℕ) → 0 < i → i < length es → IsPlace es key (Err i) → Surrounds es key
gap_found es key i some more gap = record {
  low = 0;
  high = i;
  low_within = omega (arith, some, more);
  high_within = more;
  smaller = gap.below 0 some;
  greater = gap.above i (omega arith) more;
}

-- where the key is not, no entry has it
pub key_absent : (es : List Entry) (key : Key) (i : ℕ) → IsPlace es key (Err i) → HasKey es key → ⊥
key_absent es key i gap has =
    ⊎_elim
    (λ (before : has.at < i). below_irrefl key (subst (λ (k : Key). IsBelow k key) has.same (gap.below has.at before)))
    (λ (behind : i ≤ has.at). below_irrefl key (subst (λ (k : Key). IsBelow key k) has.same (gap.above has.at behind has.within)))
    (cases_lt has.at i)

-- so there is none
pub key_tells : (es : List Entry) (key : Key) (i : ℕ) → IsPlace es key (Err i) → IsTrue false ↔ HasKey es key
key_tells es key i gap = (λ clash. absurd (let never : ⊥ = cc clash in never), λ has. absurd (key_absent es key i gap has))

-- a smaller key stands in front of its place, and a greater after it
pub gap_begins : (es : List Entry) (key : Key) (i : ℕ) → IsPlace es key (Err i) → Surrounds es key → 0 < i
gap_begins es key i gap has =
    ⊎_elim
    (λ (before : has.low < i). omega (arith, before))
    (λ (behind : i ≤ has.low). absurd (below_irrefl key (below_trans key (entry_at es has.low).0 key (gap.above has.low behind has.low_within) has.smaller)))
    (cases_lt has.low i)

pub gap_ends : (es : List Entry) (key : Key) (i : ℕ) → IsPlace es key (Err i) → Surrounds es key → i < length es
gap_ends es key i gap has =
    ⊎_elim
    (λ (before : has.high < i). absurd (below_irrefl key (below_trans key (entry_at es has.high).0 key has.greater (gap.below has.high before))))
    (λ (behind : i ≤ has.high). omega (arith, behind, has.high_within))
    (cases_lt has.high i)

-- so there is a gap where the place is inside
pub gap_tells : (page : Body) (key : Key) (i n : ℕ) → n ≡ length page.entries → 0 < i → IsPlace page.entries key (Err i) → length key ≤ 255 → HasRoom (is_leaf_kind page.kind) page.entries (key, 0)
    → IsTrue (nat_lt i n) ↔ HasGap page key
gap_tells page key i n len some gap short room = (
  λ before.
      let inside : i < n = ltb-true i n before in
      record { short = short; room = room; absent = key_absent page.entries key i gap; between = gap_found page.entries key i some (omega (arith, inside, len)) gap },
  λ has. let inside : i < length page.entries = gap_ends page.entries key i gap has.between in lt-ltb i n (omega (arith, inside, len)),
)

-- and none in front of all keys
pub no_gap_tells : (page : Body) (key : Key) (i : ℕ) → i ≤ 0 → IsPlace page.entries key (Err i) → IsTrue (nat_lt 0 i) ↔ HasGap page key
no_gap_tells page key i none gap = (
  λ before. absurd (let some : 0 < i = ltb-true 0 i before in let never : ⊥ = omega (arith, some, none) in never),
  λ has. absurd (let some : 0 < i = gap_begins page.entries key i gap has.between in let never : ⊥ = omega (arith, some, none) in never),
)

-- ---- in a good tree

pub way_of_key : (pages : Pages) (p : ℕ) (key : Key) → IsGoodTree pages [] → IsKnownLeaf pages p → HasKey (pages p).entries key → IsOnWay pages zero key p
way_of_key pages p key good known has = subst (λ (k : Key). IsOnWay pages zero k p) has.same (leaf_of_its_key pages p has.at good known.leaf known.counted has.within)

pub way_of_gap : (pages : Pages) (p : ℕ) (key : Key) → IsGoodTree pages [] → IsKnownLeaf pages p → Surrounds (pages p).entries key → IsOnWay pages zero key p
way_of_gap pages p key good known has = leaf_between_keys pages p has.low has.high key good known.leaf known.counted has.low_within has.high_within has.smaller has.greater
