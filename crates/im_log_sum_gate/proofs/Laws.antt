-- What a put leaves, and what it makes.
use Rattle.std.proofs.Common.{◌≡◌, ◌≢◌, ◌⊎◌, ⊎_elim, ℕ, suc, ◌+◌, ◌<◌, ◌≤◌, List, [], ◌∷◌, ◌++◌, length, take, drop, get_or, slice_index, Some, None, refl, sym, ◌∙◌, ap, subst, arith, append-nil, append_assoc, get_or-take, Bool}
use Rattle.std.proofs.lemmas.List.{drop_more, get_or-drop, take-take, take_all}
use Rattle.std.proofs.lemmas.Option.{none-some, same_Some}
use Rattle.im_base_disk.specs.Disk.{Torn, Unforged, whole}
use Rattle.im_base_disk.specs.Sums.{shown, shows, shows_by_header, sum_fits}
use Rattle.im_base_disk.proofs.Stops.{torn_over}
use Rattle.im_log_one_sync.specs.Batches.{batches_from, LaysFrom}
use Rattle.im_log_one_sync.proofs.Headers.{shows_alike}
use Rattle.im_log_one_sync.proofs.Laws.{from_place, has_all, passes_at, reads_on, stays}
use Rattle.im_log_one_sync.proofs.Reading.{ends, none_or_some, zero_shows}
use Rattle.im_log_one_sync.proofs.TwoSyncs.{over}
use Rattle.im_log_third_header.specs.declared.header.ThirdHeader.{ThirdHeader}
use Rattle.im_log_third_header.specs.Header.{HasHeader}
use Rattle.im_log_third_header.proofs.Saying.{headers_are_kept, shows_by}
use Rattle.im_log_sum_gate.specs.Batches.{batches, fits, shows_at, size_of, HasFront, IsClearTo, Lays, MayPut, Reaches}
use Rattle.im_log_sum_gate.specs.Laws.{AreThere, Closing, HasPut, OneSync, TwoSyncs}
use Rattle.im_log_sum_gate.proofs.Strict.{loose, none_at, still_none}
use Rattle.im_log_sum_gate.proofs.Walks.{next_gate}
use Rattle.im_log_sum_gate.proofs.Wholes.{shorter, staged_front, staged_long, whole_is}

-- the byte at a place is the first from there on
pub first_from : (place : ℕ) (file : List ℕ) → get_or (drop place file) 0 0 ≡ get_or file place 0
first_from place file = get_or-drop place file 0 0 ∙ ap (λ (n : ℕ). get_or file n 0) (let same : place + 0 ≡ place = omega arith in same)

taken : (k : ℕ) (b : List ℕ) (bs : List (List ℕ)) → b ∷ take k bs ≡ take (k + 1) (b ∷ bs)
taken k b bs = ap (λ (n : ℕ). take n (b ∷ bs)) (let more : suc k ≡ k + 1 = omega arith in more)

module _ (h : ThirdHeader) where
  abbrev f : ℕ → ℕ → List ℕ → Bool
  f = fits h.salt

  abbrev base : ℕ
  base = h.start.base

  pub none_of_zero : (place : ℕ) (file : List ℕ) → slice_index file place ≡ 0 → shows_at h place file ≡ None
  none_of_zero place file is = zero_shows f (base + place) (drop place file) (first_from place file ∙ is)

  pub loose_none : (place : ℕ) (file : List ℕ) → slice_index file place ≡ 0 → shows (sum_fits h.salt) base place file ≡ None
  loose_none place file is = zero_shows (sum_fits h.salt) (base + place) (drop place file) (first_from place file ∙ is)

  pub lays_from : (end place : ℕ) (bs : List (List ℕ)) (file : List ℕ) → Lays h end place bs file → LaysFrom f base end place bs file
  lays_from end place [] file lays = (lays.0, none_of_zero place file lays.1)
  lays_from end place (b ∷ bs) file lays = (lays.0, lays.1, lays_from end (place + (13 + length b)) bs file lays.2)

  -- ---- one write and one sync

  module _ (start end : ℕ) (all new : List ℕ) (only : (p : ℕ) (r : List ℕ) → start ≤ p → p < end → shows (sum_fits h.salt) base p new ≡ Some r → shows (sum_fits h.salt) base p all ≡ Some r) where
    has_front : (place : ℕ) (bs : List (List ℕ)) → start ≤ place → Lays h end place bs all → (k : ℕ) × (from_place f base place new ≡ take k bs)
    has_front place [] from lays =
        ⊎_elim
        (λ none. (0, ends f (base + place) (drop place new) none))
        (λ some. absurd (none-some some.0 (sym (loose_none place all lays.1) ∙ only place some.0 from lays.0 (loose h.salt (base + place) (drop place new) some.0 some.1))))
        (none_or_some (shows_at h place new))
    has_front place (b ∷ bs) from lays =
        ⊎_elim
        (λ none. (0, ends f (base + place) (drop place new) none))
        (λ some.
        let is : b ≡ some.0 =
        same_Some b some.0 (sym (loose h.salt (base + place) (drop place all) b lays.1) ∙ only place some.0 from lays.0 (loose h.salt (base + place) (drop place new) some.0 some.1)) in
        let more = has_front (place + (13 + length b)) bs (omega (arith, from)) lays.2 in
        (more.0 + 1, passes_at f base place new b (some.1 ∙ ap Some (sym is)) ∙ ap (λ (l : List (List ℕ)). b ∷ l) more.1 ∙ taken more.0 b bs))
        (none_or_some (shows_at h place new))

  module _ (place : ℕ) (before : List (List ℕ)) (old : List ℕ) (reaches : Reaches h place before old) where
    within : place < length old
    within = reaches.last.within

    -- a file with what stands in front of the gate has the header
    pub kept : (c : List ℕ) → take place c ≡ take place old → place < length c → HasHeader h c
    kept c same long =
        headers_are_kept h old c reaches.header
        (sym (take-take 47 place c reaches.past) ∙ ap (take 47) same ∙ take-take 47 place old reaches.past) (let past = reaches.past in omega (arith, long, past))

    -- and shows by it
    shows_by_it : (c : List ℕ) → HasHeader h c → (p : ℕ) → shows_by_header p c ≡ shows (sum_fits h.salt) base p c
    shows_by_it c has p =
        let by = shows_by h c has in
        shows_alike c c refl (let w = has.within in omega (arith, w)) by.third p ∙ (λ i. shows (sum_fits (by.salt i)) (by.base i) p c)

    pub no_more : (c : List ℕ) → take place c ≡ take place old → place < length c → shows_at h place c ≡ None → batches h c ≡ before
    no_more c same long none = stays f base 47 place old before reaches.last c same long none

    front_of : (bs : List (List ℕ)) (c : List ℕ) → HasHeader h c → batches h c ≡ before → HasFront h before bs c
    front_of bs c has is = record { header = has; count = 0; is = is ∙ sym (append-nil before) }

    whole_torn : (bytes : List ℕ) → Torn place (length bytes) old (whole place bytes old)
    whole_torn bytes = torn_over place bytes bytes old (let w = within in omega (arith, w)) (let same : length bytes ≡ length bytes = omega arith in same)

    once : (bs : List (List ℕ)) (bytes new : List ℕ) → MayPut h place before bs bytes old → IsClearTo h (place + length bytes) place old → Unforged shows_by_header place bytes old new → HasFront h before bs new
    once bs bytes new may clear left =
        let w = within in
        let all : List ℕ = whole place bytes old in
        let torn = whole_torn bytes in
        let new_has = kept new left.torn.before (let l = left.torn.no_shorter in omega (arith, w, l)) in
        let all_has = kept all torn.before (let l = torn.no_shorter in omega (arith, w, l)) in
        let only : (p : ℕ) (r : List ℕ) → place ≤ p → p < place + length bytes → shows (sum_fits h.salt) base p new ≡ Some r → shows (sum_fits h.salt) base p all ≡ Some r =
        λ p r from upto is.
        ⊎_elim
        (λ was. absurd (none-some r (sym (clear p from upto) ∙ sym (shows_by_it old reaches.header p) ∙ was)))
        (λ put. sym (shows_by_it all all_has p) ∙ put)
        (left.shown p r from upto (shows_by_it new new_has p ∙ is)) in
        let has = has_front place (place + length bytes) all new only place bs (omega arith) may.lays in
        record {
          header = new_has;
          count = has.0;
          is = reads_on f base 47 place old before reaches.last new left.torn.before (let l = left.torn.no_shorter in omega (arith, w, l)) ∙ ap (λ (l : List (List ℕ)). before ++ l) has.1;
        }

    -- ---- two of each

    behind_it : (n : ℕ) (new : List ℕ) → slice_index old place ≢ 1 → Torn (place + 1) n old new → HasHeader h new × (batches h new ≡ before)
    behind_it n new other torn =
        let w = within in
        let gate : get_or new place 0 ≡ get_or old place 0 =
        sym (get_or-take (place + 1) new place 0 (omega arith)) ∙ ap (λ (l : List ℕ). get_or l place 0) torn.before ∙ get_or-take (place + 1) old place 0 (omega arith) in
        let long : place < length new = (let l = torn.no_shorter in omega (arith, w, l)) in (
          kept new (shorter place new old torn.before) long,
          no_more new (shorter place new old torn.before) long
              (none_at h.salt (base + place) (drop place new) (λ one. other (sym gate ∙ sym (first_from place new) ∙ one))),
        )

    -- the gate alone
    closing_it : (new : List ℕ) → shows_at h place old ≡ None → slice_index old place ≡ 1 → Torn place 1 old new → HasHeader h new × (batches h new ≡ before)
    closing_it new none one torn =
        let w = within in
        let from : drop place new ≡ get_or new place 0 ∷ drop (place + 1) old =
        drop_more new place 0 (let l = torn.no_shorter in omega (arith, w, l)) ∙ ap (λ (l : List ℕ). get_or new place 0 ∷ l) torn.after in
        let was : drop place old ≡ 1 ∷ drop (place + 1) old = drop_more old place 0 w ∙ ap (λ (g : ℕ). g ∷ drop (place + 1) old) one in
        let long : place < length new = (let l = torn.no_shorter in omega (arith, w, l)) in (
          kept new torn.before long,
          no_more new torn.before long
              (ap (shown f (base + place)) from ∙ still_none h.salt (base + place) (get_or new place 0) (drop (place + 1) old) (ap (shown f (base + place)) (sym was) ∙ none)),
        )

    over_it : (bs : List (List ℕ)) (bytes body mid new : List ℕ) → bytes ≡ 1 ∷ body → MayPut h place before bs bytes old → mid ≡ whole (place + 1) body old → Torn place 1 mid new → HasFront h before bs new
    over_it bs bytes body mid new opens may is torn =
        let there = subst (λ (l : List ℕ). Torn place 1 l new) is torn in
        let lays = subst (λ (l : List ℕ). Lays h (place + length l) place bs (whole place l old)) opens may.lays in
        let has : HasHeader h new =
        kept new (there.before ∙ staged_front place body old within) (let long = staged_long place body old within in let l = there.no_shorter in omega (arith, long, l)) in
        ⊎_elim
        (λ was. front_of bs new has was)
        (λ put. record { header = has; count = length bs; is = put ∙ ap (λ (l : List (List ℕ)). before ++ l) (sym (take_all (length bs) bs (omega arith))) })
        (over f 47 base place old before reaches.last (whole (place + 1) body old) (whole place (1 ∷ body) old) (staged_front place body old within) (staged_long place body old within) (whole_is place body old within) (place + length (1 ∷ body)) bs may.some (lays_from (place + length (1 ∷ body)) place bs (whole place (1 ∷ body) old) lays) new there)

  -- ---- all of it

  walked : (end place : ℕ) (before bs : List (List ℕ)) (file : List ℕ) → Reaches h place before file → Lays h end place bs file → Reaches h (place + size_of bs) (before ++ bs) file × (slice_index file (place + size_of bs) ≡ 0) × (place + size_of bs < end)
  walked end place before [] file reaches lays =
      let here : place ≡ place + 0 = omega arith in (
        subst (λ (l : List (List ℕ)). Reaches h (place + 0) l file) (sym (append-nil before)) (subst (λ (n : ℕ). Reaches h n before file) here reaches),
        subst (λ (n : ℕ). slice_index file n ≡ 0) here lays.1,
        omega (arith, lays.0),
      )
  walked end place before (b ∷ bs) file reaches lays =
      let there = walked end (place + (13 + length b)) (before ++ b ∷ []) bs file (next_gate h place before file b reaches lays.1) lays.2 in
      let at : place + (13 + length b) + size_of bs ≡ place + size_of (b ∷ bs) = omega arith in (
        subst (λ (n : ℕ). Reaches h n (before ++ b ∷ bs) file) at (subst (λ (l : List (List ℕ)). Reaches h (place + (13 + length b) + size_of bs) l file) (append_assoc before (b ∷ []) bs) there.0),
        subst (λ (n : ℕ). slice_index file n ≡ 0) at there.1,
        (let upto = there.2 in omega (arith, upto)),
      )

pub one_sync : OneSync
one_sync h place before bs bytes old new may clear left = once h place before old may.reaches bs bytes new may clear left

-- bytes that begin with 1
pub begins : (bytes : List ℕ) → slice_index bytes 0 ≡ 1 → bytes ≡ 1 ∷ drop 1 bytes
begins [] is = absurd (omega (arith, is))
begins (x ∷ l) is = ap (λ (g : ℕ). g ∷ l) is

pub two_syncs : TwoSyncs
two_syncs = record {
  behind = λ h place n before old new reaches other torn. behind_it h place before old reaches n new other torn;
  over = λ h place before bs bytes old mid new may is torn. over_it h place before old may.reaches bs bytes (drop 1 bytes) mid new (begins bytes may.opens) may is torn;
}

pub closing : Closing
closing h place before old new ends one torn = closing_it h place before old ends.reaches new ends.none one torn

pub are_there : AreThere
are_there h place before bs bytes old new may put =
    let w = may.reaches.last.within in
    let torn = whole_torn h place before old may.reaches bytes in
    let long = torn.no_shorter in
    let all : List ℕ = whole place bytes old in
    let there : Reaches h place before all = record {
      header = kept h place before old may.reaches all torn.before (omega (arith, w, long));
      past = may.reaches.past;
      last = record {
        within = omega (arith, w, long);
        front = λ rest some. ap (λ (l : List ℕ). batches_from (fits h.salt) 47 h.start.base (l ++ rest)) torn.before ∙ may.reaches.last.front rest some;
      };
    } in
    let all_there = walked h (place + length bytes) place before bs all there may.lays in
    let made : HasPut h place before bs bytes old all = record {
      there =
          reads_on (fits h.salt) h.start.base 47 place old before may.reaches.last all torn.before (omega (arith, w, long))
          ∙ ap (λ (l : List (List ℕ)). before ++ l) (has_all (fits h.salt) h.start.base (place + length bytes) place bs all (lays_from h (place + length bytes) place bs all may.lays));
      ends = record { reaches = all_there.0; none = none_of_zero h (place + size_of bs) all all_there.1 };
      closed = all_there.1;
    } in
    subst (λ (l : List ℕ). HasPut h place before bs bytes old l) (sym put) made
