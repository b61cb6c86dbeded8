-- What each change inside a pool is to those who see its list of pages.
use Rattle.std.proofs.Common.{◌≡◌, ◌≢◌, ⊎_elim, ℕ, ◌+◌, ◌-◌, ◌<◌, Bool, true, false, cond, ◌==◌, List, [], ◌∷◌, ◌++◌, length, take, nat_eq, slice_index, slice_set, Option, Some, None, IsSome, Result, Ok, Err, OnErr, option_map, refl, sym, ap, subst, ◌∙◌, arith}
use Rattle.std.proofs.lemmas.Bool.{cases_eq}
use Rattle.std.proofs.lemmas.Bool.Decides.{nat_tests}
use Rattle.std.proofs.lemmas.List.{get_or-set_same, length-set, length_push, length-take-le, take_more, take_all}
use Rattle.std.specs.Option.{option_map_or}
use Rattle.std.specs.Map.{keys_of, values_of, lookup, lookup_entry, remove_entry}
use Rattle.lru.specs.LruCache.{promoted, last_entry}
use Rattle.im_base_types.specs.Pages.{Page}
use Rattle.im_theory_page.specs.Header.{initial}
use Rattle.im_theory_page.specs.PageFile.{file_page}
use Rattle.im_page_pool.specs.Frames.{Stored, no_page, stored_at}
use Rattle.im_page_pool.specs.Places.{PlacesView, times, frame_count}
use Rattle.im_page_pool.specs.Inside.{held_at, held_in, IsWhole}
use Rattle.im_page_pool.specs.Pool.{Held, PoolView, held_of, Holds, IsAt, page_at, is_changed, page_seen, Sets, Takes, MovesFirst, Evicts}
use Rattle.im_page_pool.specs.declared.frame.Frame.{Frame}
use Rattle.im_page_pool.proofs.PlaceLemmas.{length_remove_entry, length_promoted, times_push}
use Rattle.im_page_pool.proofs.EntryLemmas.{entry_found, itself, differ, lookup_others, lookup_nowhere, nowhere_from_none, times_removed, place_within, places_differ, free_within, free_not_taken, last_none, last_found}
use Rattle.im_page_pool.proofs.HeldLemmas.{keys_held, length_held, some_at, none_at, lookup_held, remove_held, held_same, held_at_other}

-- the pool that has these inside
abbrev pub seen_as : List Stored → List (ℕ × ℕ) → ℕ → PoolView
seen_as fs es n = record { held = held_in fs es; frames = length fs; gets = n }

abbrev the_held : ℕ → Stored → Held
the_held place x = record { place = place; page = x.page; changed = x.changed }

abbrev the_pool : List (ℕ × Held) → ℕ → ℕ → PoolView
the_pool held frames gets = record { held = held; frames = frames; gets = gets }

-- ---- a frame that a caller names
back : (fs : List Stored) (o : Option ℕ) → option_map (λ (h : Held). h.place) (option_map (held_at fs) o) ≡ o
back fs None = refl
back fs (Some f) = refl

module _ (fs : List Stored) (v : PlacesView) (n : ℕ) (pool : PoolView) (whole : IsWhole v fs) (is : seen_as fs v.taken n ≡ pool) where
  pub held_is : (p : ℕ) → held_of pool p ≡ option_map (held_at fs) (lookup (nat_eq p) v.taken)
  held_is p = ap (λ (w : PoolView). held_of w p) (sym is) ∙ lookup_held (nat_eq p) fs v.taken

  pub found : (p f : ℕ) → lookup (nat_eq p) v.taken ≡ Some f → held_of pool p ≡ Some (held_at fs f)
  found p f s = held_is p ∙ ap (option_map (held_at fs)) s

  pub found_at : (frame : Frame) → IsAt pool frame → lookup (nat_eq frame.number) v.taken ≡ Some frame.place
  found_at frame at = sym (back fs (lookup (nat_eq frame.number) v.taken)) ∙ ap (option_map (λ (h : Held). h.place)) (sym (held_is frame.number)) ∙ at

  pub is_at : (p f : ℕ) → lookup (nat_eq p) v.taken ≡ Some f → option_map (λ (h : Held). h.place) (held_of pool p) ≡ Some f
  is_at p f s = ap (option_map (λ (h : Held). h.place)) (found p f s)

  pub held_place : (p : ℕ) → Holds pool p → (f : ℕ) × (lookup (nat_eq p) v.taken ≡ Some f)
  held_place p h = some_at (held_at fs) (lookup (nat_eq p) v.taken) (subst (λ (o : Option Held). IsSome o) (held_is p) h)

  pub not_held : (p : ℕ) → lookup (nat_eq p) v.taken ≡ None → held_of pool p ≡ None
  not_held p s = held_is p ∙ ap (option_map (held_at fs)) s

  pub not_taken : (p : ℕ) → held_of pool p ≡ None → lookup (nat_eq p) v.taken ≡ None
  not_taken p s = none_at (held_at fs) (lookup (nat_eq p) v.taken) (sym (held_is p) ∙ s)

  -- the least recently used page
  pub last_is_at : (p f : ℕ) → last_entry v.taken ≡ Some (p, f) → option_map (λ (h : Held). h.place) (held_of pool p) ≡ Some f
  last_is_at p f s = is_at p f (last_found v.taken p f (whole.apart.numbers p) s)

  pub none_held : last_entry v.taken ≡ None → pool.held ≡ []
  none_held s = ap (λ (x : PoolView). x.held) (sym is) ∙ ap (held_in fs) (last_none v.taken s)

  -- how many are held
  pub count_held : length pool.held ≡ length v.taken
  count_held = ap (λ (x : PoolView). length x.held) (sym is) ∙ length_held fs v.taken

  pub free_left : length pool.held < pool.frames → 0 < length v.free
  free_left lt = let a = count_held in let b = whole.all in let c = ap (λ (x : PoolView). x.frames) is in omega arith

  pub within : (frame : Frame) → IsAt pool frame → frame.place < length fs
  within frame at = let w = place_within v whole.apart frame.number frame.place (found_at frame at) in let a = whole.all in omega arith

  pub page_there : (frame : Frame) → IsAt pool frame → page_at pool frame.number ≡ (stored_at fs frame.place).page
  page_there frame at = ap (λ (o : Option Held). option_map_or (λ (h : Held). h.page) o (initial 0)) (found frame.number frame.place (found_at frame at))

  pub mark_there : (frame : Frame) → IsAt pool frame → is_changed pool frame.number ≡ (stored_at fs frame.place).changed
  mark_there frame at = ap (λ (o : Option Held). option_map_or (λ (h : Held). h.changed) o false) (found frame.number frame.place (found_at frame at))

  -- a held frame has another page
  module _ (frame : Frame) (at : IsAt pool frame) (page : Page) (changed : Bool) (new : List Stored) (put : new ≡ slice_set fs frame.place (record { page = page; changed = changed })) where
    abbrev w : Stored
    w = record { page = page; changed = changed }

    new_there : stored_at new frame.place ≡ w
    new_there = ap (λ (l : List Stored). stored_at l frame.place) put ∙ get_or-set_same fs frame.place w no_page (within frame at)

    new_here : held_of (seen_as new v.taken n) frame.number ≡ Some (record { place = frame.place; page = page; changed = changed })
    new_here =
        lookup_held (nat_eq frame.number) new v.taken
        ∙ ap (option_map (held_at new)) (found_at frame at)
        ∙ ap (λ (x : Stored). Some (the_held frame.place x)) new_there

    other : (q : ℕ) (o : Option ℕ) → q ≢ frame.number → lookup (nat_eq q) v.taken ≡ o → option_map (held_at new) o ≡ option_map (held_at fs) o
    other q None ne s = refl
    other q (Some g) ne s =
        let apart : g ≢ frame.place = places_differ v whole.apart frame.number q frame.place g (λ (b : frame.number ≡ q). ne (sym b)) (found_at frame at) s in
        ap (λ (l : List Stored). Some (held_at l g)) put ∙ ap (λ (h : Held). Some h) (held_at_other frame.place g w fs apart)

    pub sets : Sets frame page changed pool (seen_as new v.taken n)
    sets = record {
      here = new_here;
      others = λ q ne. lookup_held (nat_eq q) new v.taken ∙ other q (lookup (nat_eq q) v.taken) ne refl ∙ sym (held_is q);
      order = keys_held new v.taken ∙ sym (keys_held fs v.taken) ∙ ap (λ (x : PoolView). keys_of x.held) is;
      frames = ap length put ∙ length-set fs frame.place w ∙ ap (λ (x : PoolView). x.frames) is;
      gets = ap (λ (x : PoolView). x.gets) is;
    }

  -- a page is held no more
  module _ (p f : ℕ) (s : lookup (nat_eq p) v.taken ≡ Some f) where
    entry : lookup_entry (nat_eq p) v.taken ≡ Some (p, f)
    entry = entry_found p v.taken f s

    kept_keys : (q : ℕ) → times q (keys_of (remove_entry (nat_eq p) v.taken)) + cond (q == p) 1 0 ≡ times q (keys_of v.taken)
    kept_keys q = times_removed (nat_eq p) (λ e. e.0) q v.taken (p, f) entry

    kept_places : (g : ℕ) → times g (values_of (remove_entry (nat_eq p) v.taken)) + cond (g == f) 1 0 ≡ times g (values_of v.taken)
    kept_places g = times_removed (nat_eq p) (λ e. e.1) g v.taken (p, f) entry

    rest_lacks : times p (keys_of (remove_entry (nat_eq p) v.taken)) ≡ 0
    rest_lacks = let k = kept_keys p in let t : (p == p) ≡ true = grind (arith, nat_tests) in let k' = rw t at k in let m = whole.apart.numbers p in omega arith

    gone : held_of (seen_as fs (remove_entry (nat_eq p) v.taken) n) p ≡ None
    gone = lookup_held (nat_eq p) fs (remove_entry (nat_eq p) v.taken) ∙ ap (option_map (held_at fs)) (lookup_nowhere p (remove_entry (nat_eq p) v.taken) rest_lacks)

    stay : (q : ℕ) → q ≢ p → held_of (seen_as fs (remove_entry (nat_eq p) v.taken) n) q ≡ held_of pool q
    stay q ne = lookup_held (nat_eq q) fs (remove_entry (nat_eq p) v.taken) ∙ ap (option_map (held_at fs)) (lookup_others p q v.taken ne) ∙ sym (held_is q)

    seen_still : (file : List ℕ) → file_page file p ≡ Some (page_at pool p) → (q : ℕ) → page_seen (seen_as fs (remove_entry (nat_eq p) v.taken) n) file q ≡ page_seen pool file q
    seen_still file has q = ⊎_elim
        (λ (e : q ≡ p). subst (λ (r : ℕ). page_seen (seen_as fs (remove_entry (nat_eq p) v.taken) n) file r ≡ page_seen pool file r) (sym e)
        (ap (λ (o : Option Held). option_map_or (λ (h : Held). Some h.page) o (file_page file p)) gone ∙ has
        ∙ ap (λ (o : Option Held). Some (option_map_or (λ (h : Held). h.page) o (initial 0))) (found p f s)
        ∙ sym (ap (λ (o : Option Held). option_map_or (λ (h : Held). Some h.page) o (file_page file p)) (found p f s))))
        (λ (ne : q ≢ p). ap (λ (o : Option Held). option_map_or (λ (h : Held). Some h.page) o (file_page file q)) (stay q ne))
        (cases_eq q p)

    pub evicts : Evicts p pool (seen_as fs (remove_entry (nat_eq p) v.taken) n)
    evicts = record {
      gone = gone;
      others = stay;
      held = sym (remove_held (nat_eq p) fs v.taken) ∙ ap (λ (x : PoolView). remove_entry (nat_eq p) x.held) is;
      count = let l = length_remove_entry (nat_eq p) v.taken f s in let a = length_held fs (remove_entry (nat_eq p) v.taken) in
          let b = length_held fs v.taken in let c = ap (λ (x : PoolView). length x.held) is in omega arith;
      frames = ap (λ (x : PoolView). x.frames) is;
      gets = ap (λ (x : PoolView). x.gets) is;
      seen = seen_still;
    }

    pub whole_given_back : (new : PlacesView) → new.taken ≡ remove_entry (nat_eq p) v.taken → new.free ≡ v.free ++ f ∷ [] → IsWhole new fs
    whole_given_back new taken free =
        let l = length_remove_entry (nat_eq p) v.taken f s in
        let a = ap length taken in
        let b = ap length free ∙ length_push v.free f in
        let same : frame_count new ≡ frame_count v = omega arith in
        let sum : (g : ℕ) → times g (values_of new.taken) + times g new.free ≡ times g (values_of v.taken) + times g v.free =
        λ g. let x = ap (λ (es : List (ℕ × ℕ)). times g (values_of es)) taken in let y = ap (times g) free ∙ times_push g f v.free in let z = kept_places g in omega arith in
        record {
          apart = record {
            numbers = λ q. let x = ap (λ (es : List (ℕ × ℕ)). times q (keys_of es)) taken in let z = kept_keys q in let m = whole.apart.numbers q in omega arith;
            once = λ g lt. sum g ∙ whole.apart.once g (omega arith);
            never = λ g le. sum g ∙ whole.apart.never g (omega arith);
          };
          all = same ∙ whole.all;
        }

    -- a held page is the most recently used
    promoted_is : promoted (nat_eq p) v.taken ≡ (p, f) ∷ remove_entry (nat_eq p) v.taken
    promoted_is = ap (λ (o : Option (ℕ × ℕ)). option_map_or (λ e. e ∷ remove_entry (nat_eq p) v.taken) o v.taken) entry

    all_found : (q : ℕ) → lookup (nat_eq q) (promoted (nat_eq p) v.taken) ≡ lookup (nat_eq q) v.taken
    all_found q = ap (lookup (nat_eq q)) promoted_is ∙ ⊎_elim
        (λ (e : q ≡ p). subst (λ (r : ℕ). cond (nat_eq r p) (Some f) (lookup (nat_eq r) (remove_entry (nat_eq p) v.taken)) ≡ lookup (nat_eq r) v.taken) (sym e)
        (let t = itself p in rw t (sym s)))
        (λ (ne : q ≢ p). let t = differ q p ne in rw t (lookup_others p q v.taken ne))
        (cases_eq q p)

    pub moves_first : MovesFirst p pool (seen_as fs (promoted (nat_eq p) v.taken) n)
    moves_first = record {
      all = λ q. lookup_held (nat_eq q) fs (promoted (nat_eq p) v.taken) ∙ ap (option_map (held_at fs)) (all_found q) ∙ sym (held_is q);
      order =
          keys_held fs (promoted (nat_eq p) v.taken) ∙ ap keys_of promoted_is
          ∙ ap (λ l. p ∷ l) (sym (keys_held fs (remove_entry (nat_eq p) v.taken)) ∙ ap keys_of (sym (remove_held (nat_eq p) fs v.taken)))
          ∙ ap (λ (x : PoolView). p ∷ keys_of (remove_entry (nat_eq p) x.held)) is;
      count = let a = length_held fs (promoted (nat_eq p) v.taken) in let b = length_held fs v.taken in
          let l = length_promoted (nat_eq p) v.taken in let c = ap (λ (x : PoolView). length x.held) is in omega arith;
      frames = ap (λ (x : PoolView). x.frames) is;
    }

    pub whole_promoted : (new : PlacesView) → new.taken ≡ promoted (nat_eq p) v.taken → new.free ≡ v.free → IsWhole new fs
    whole_promoted new taken free =
        let l = length_promoted (nat_eq p) v.taken in
        let a = ap length taken in
        let b = ap length free in
        let same : frame_count new ≡ frame_count v = omega arith in
        let now = taken ∙ promoted_is in
        let sum : (g : ℕ) → times g (values_of new.taken) + times g new.free ≡ times g (values_of v.taken) + times g v.free =
        λ g. let x = ap (λ (es : List (ℕ × ℕ)). times g (values_of es)) now in let y = ap (times g) free in let z = kept_places g in omega arith in
        record {
          apart = record {
            numbers = λ q. let x = ap (λ (es : List (ℕ × ℕ)). times q (keys_of es)) now in let z = kept_keys q in let m = whole.apart.numbers q in omega arith;
            once = λ g lt. sum g ∙ whole.apart.once g (omega arith);
            never = λ g le. sum g ∙ whole.apart.never g (omega arith);
          };
          all = same ∙ whole.all;
        }

  -- a page that was not held takes the last free frame
  module _ (p next : ℕ) (is_next : next ≡ slice_index v.free (length v.free - 1)) (absent : lookup (nat_eq p) v.taken ≡ None) (free : 0 < length v.free) where
    pub next_within : next < length fs
    next_within = let w = free_within v whole.apart (length v.free - 1) (omega arith) in let a = whole.all in rw is_next (omega arith)

    unused : times next (values_of v.taken) ≡ 0
    unused = rw is_next (free_not_taken v whole.apart (length v.free - 1) (omega arith))

    split : v.free ≡ take (length v.free - 1) v.free ++ next ∷ []
    split =
        let e : length v.free - 1 + 1 ≡ length v.free = omega arith in
        sym (take_all (length v.free) v.free (omega arith)) ∙ sym (ap (λ (k : ℕ). take k v.free) e) ∙ take_more v.free (length v.free - 1) 0 (omega arith) ∙ ap (λ (k : ℕ). take (length v.free - 1) v.free ++ k ∷ []) (sym is_next)

    pub whole_taken : (new : PlacesView) → new.taken ≡ (p, next) ∷ v.taken → new.free ≡ take (length v.free - 1) v.free → IsWhole new fs
    whole_taken new taken rest =
        let a = ap length taken in
        let b = ap length rest ∙ length-take-le (length v.free - 1) v.free (omega arith) in
        let same : frame_count new ≡ frame_count v = omega arith in
        let sum : (g : ℕ) → times g (values_of new.taken) + times g new.free ≡ times g (values_of v.taken) + times g v.free =
        λ g. let x = ap (λ (es : List (ℕ × ℕ)). times g (values_of es)) taken in let y = ap (times g) rest in let z = ap (times g) split ∙ times_push g next (take (length v.free - 1) v.free) in omega arith in
        record {
          apart = record {
            numbers = λ q. let x = ap (λ (es : List (ℕ × ℕ)). times q (keys_of es)) taken in let m = whole.apart.numbers q in ⊎_elim
                (λ (e : q ≡ p). let t : (q == p) ≡ true = grind (arith, nat_tests) in let x' = rw t at x in let z = nowhere_from_none p v.taken absent in let z' = ap (λ (r : ℕ). times r (keys_of v.taken)) e in omega arith)
                (λ (ne : q ≢ p). let t : (q == p) ≡ false = grind (arith, nat_tests) in let x' = rw t at x in omega arith)
                (cases_eq q p);
            once = λ g lt. sum g ∙ whole.apart.once g (omega arith);
            never = λ g le. sum g ∙ whole.apart.never g (omega arith);
          };
          all = same ∙ whole.all;
        }

    -- with a page in it
    module _ (w : Stored) (new : List Stored) (put : new ≡ slice_set fs next w) (m : ℕ) where
      unseen : held_in new v.taken ≡ held_in fs v.taken
      unseen = ap (λ (l : List Stored). held_in l v.taken) put ∙ held_same next w fs v.taken unused

      pub same_but_frames : seen_as new v.taken n ≡ pool
      same_but_frames = ap (λ (l : List (ℕ × Held)). the_pool l (length new) n) unseen ∙ ap (λ (k : ℕ). the_pool (held_in fs v.taken) k n) (ap length put ∙ length-set fs next w) ∙ is

      pub takes : Takes (record { number = p; place = next }) w.page w.changed pool (seen_as new ((p, next) ∷ v.taken) m)
      takes = record {
        here =
            (let t = itself p in rw t refl)
            ∙ ap (λ (x : Stored). Some (the_held next x)) (ap (λ (l : List Stored). stored_at l next) put ∙ get_or-set_same fs next w no_page next_within);
        others = λ q ne. (let t = differ q p ne in rw t refl) ∙ ap (lookup (nat_eq q)) unseen ∙ ap (λ (x : PoolView). held_of x q) is;
        count = let a = length_held new ((p, next) ∷ v.taken) in let b = length_held fs v.taken in let c = ap (λ (x : PoolView). length x.held) is in omega arith;
        order = ap (λ l. p ∷ l) (ap keys_of unseen) ∙ ap (λ (x : PoolView). p ∷ keys_of x.held) is;
        frames = ap length put ∙ length-set fs next w ∙ ap (λ (x : PoolView). x.frames) is;
      }

pub page_now : (fs : List Stored) (es : List (ℕ × ℕ)) (n p f : ℕ) → lookup (nat_eq p) es ≡ Some f → page_at (seen_as fs es n) p ≡ (stored_at fs f).page
page_now fs es n p f s = ap (λ (o : Option Held). option_map_or (λ (h : Held). h.page) o (initial 0)) (lookup_held (nat_eq p) fs es ∙ ap (option_map (held_at fs)) s)

module _ (frame : Frame) (page : Page) (changed : Bool) (old new : PoolView) where
  -- the page is that which the pool then shows
  pub takes_shown : Takes frame page changed old new → Takes frame (page_at new frame.number) changed old new
  takes_shown t = subst (λ (x : Page). Takes frame x changed old new) (sym (ap (λ (o : Option Held). option_map_or (λ (h : Held). h.page) o (initial 0)) t.here)) t

  pub sets_shown : Sets frame page changed old new → Sets frame (page_at new frame.number) changed old new
  sets_shown t = subst (λ (x : Page). Sets frame x changed old new) (sym (ap (λ (o : Option Held). option_map_or (λ (h : Held). h.page) o (initial 0)) t.here)) t

  -- where a page was written as it is, nothing changes of what is seen
  pub seen_written : Sets frame page changed old new → (h : Held) → held_of old frame.number ≡ Some h → page ≡ h.page → (file now : List ℕ) → ((q : ℕ) → q ≢ frame.number → file_page now q ≡ file_page file q)
      → (q : ℕ) → page_seen new now q ≡ page_seen old file q
  seen_written t h has is file now others q = ⊎_elim
      (λ (e : q ≡ frame.number). subst (λ (r : ℕ). page_seen new now r ≡ page_seen old file r) (sym e)
      (ap (λ (o : Option Held). option_map_or (λ (x : Held). Some x.page) o (file_page now frame.number)) t.here
      ∙ ap (λ (x : Page). Some x) is
      ∙ sym (ap (λ (o : Option Held). option_map_or (λ (x : Held). Some x.page) o (file_page file frame.number)) has)))
      (λ (ne : q ≢ frame.number).
      ap (λ (o : Option Held). option_map_or (λ (x : Held). Some x.page) o (file_page now q)) (t.others q ne)
      ∙ ap (λ (x : Option Page). option_map_or (λ (y : Held). Some y.page) (held_of old q) x) (others q ne))
      (cases_eq q frame.number)

abbrev pub the_places : List (ℕ × ℕ) → List ℕ → PlacesView
the_places taken free = record { taken = taken; free = free }

pub at_any_err : {T E P : Type 0} (r : Result T E) → P → OnErr r P
at_any_err (Ok x) p = tt
at_any_err (Err e) p = p

-- frames of the same number
pub whole_len : (v : PlacesView) (fs new : List Stored) → IsWhole v fs → length new ≡ length fs → IsWhole v new
whole_len v fs new whole len = record { apart = whole.apart; all = whole.all ∙ sym len }
