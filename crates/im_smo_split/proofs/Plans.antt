-- The plan of a split, from where it begins to what it answers.
use Rattle.std.proofs.Common.{◌≡◌, ℕ, zero, ◌+◌, ◌-◌, ◌≤◌, ◌<◌, ◌^◌, true, Bool, List, [], length, Option, Some, None, inl, inr, refl, sym, ap, subst, ◌∙◌, arith}
use Rattle.std.specs.Prelude.{Result, Ok, Err, IfErr}
use Rattle.im_base_types.specs.declared.fault.Fault.{Fault}
use Rattle.im_base_types.specs.declared.fault.Fault.TheVariants.{Capacity, PagesFull}
use Rattle.im_base_types.specs.Keys.{Key}
use Rattle.im_page_writer.specs.Outcome.{AllPages}
use Rattle.im_theory_page.specs.Split.{HasRoom}
use Rattle.im_theory_tree.specs.Levels.{Pages, walk}
use Rattle.im_theory_tree.specs.Search.{IsOnWay}
use Rattle.im_theory_tree.specs.Good.{IsGoodTree}
use Rattle.im_theory_tree.specs.KeySplits.{HasRoomOnWay}
use Rattle.im_smo_pages.specs.Images.{Numbered}
use Rattle.im_smo_pages.specs.Seen.{bodies, seen}
use Rattle.im_smo_split.specs.Tops.{HasRoomFor, IsFound}
use Rattle.im_smo_split.specs.Ends.{Ended}
use Rattle.im_smo_split.specs.Plan.{IsOver, IsWithin, FitsInLeaf, Planned, WantsPages}
use Rattle.im_smo_split.specs.declared.top.Top.{Top}
use Rattle.im_smo_split.proofs.Froms.{seen_none}
use Rattle.im_smo_split.proofs.Founds.{many_found, last_level, last_splits}
use Rattle.im_smo_split.proofs.OneLeaf.{one_leaf}

-- a leaf that has room is each leaf of the key
fits_in_leaf : (pages : Pages) (key : Key) → IsGoodTree pages [] → HasRoomFor pages key → FitsInLeaf pages key
fits_in_leaf pages key good room p way = subst (λ (q : ℕ). HasRoom true (pages q).entries (key, 0)) (one_leaf pages [] key room.page p good room.way way) room.room

room_for : (pages : Pages) (key : Key) → length key ≤ 255 → HasRoomOnWay pages zero key → HasRoomFor pages key
room_for pages key short room = record { page = room.page; way = room.way; room = room.room (key, 0) short }

none_is : (xs : List Numbered) → 1 ≤ length xs → xs ≡ [] → ⊥
none_is xs some none = omega (arith, some, ap length none)

-- ---- a plan that was made

module _ (s : AllPages) (key : Key) (max : Option ℕ) (images : List Numbered) (leaf : ℕ) where
  -- the leaf has room
  pub planned_none : {dense : Bool} → IsGoodTree (bodies s) [] → IsFound dense (bodies s) key None → images ≡ [] → Planned dense s key max images leaf
  planned_none good found none =
      let room : HasRoomFor (bodies s) key = (found.room refl).0 in
      let same : bodies s ≡ seen s images = sym (seen_none s images none) in
      record {
        good = subst (λ (pages : Pages). IsGoodTree pages []) same good;
        same = sym (ap walk same);
        ways = λ k q to apart. subst (λ (pages : Pages). IsOnWay pages zero k q) same to;
        room = subst (λ (pages : Pages). HasRoomFor pages key) same room;
        fits = subst (λ (pages : Pages). FitsInLeaf pages key) same (fits_in_leaf (bodies s) key good room);
        way = λ some. absurd (none_is images some none);
        has = λ some. absurd (none_is images some none);
        any = inl none;
        none = λ is. room;
        some = λ p way lacks. absurd (lacks (fits_in_leaf (bodies s) key good room p way));
        lacks = λ some. absurd (none_is images some none);
        within = λ m is. inl none;
      }

  -- the leaf is split
  pub planned : {dense : Bool} → length key ≤ 255 → (top : Top) → IsFound dense (bodies s) key (Some top) → ((m : ℕ) → max ≡ Some m → IsWithin dense (bodies s) key m) → Ended s key [] images leaf → Planned dense s key max images leaf
  planned short top found within end =
      let here : HasRoomFor (seen s images) key = room_for (seen s images) key short end.room in
      record {
        good = end.good;
        same = end.same ∙ ap walk (seen_none s [] refl);
        ways = λ k q to apart. end.ways k q (subst (λ (pages : Pages). IsOnWay pages zero k q) (sym (seen_none s [] refl)) to) apart;
        room = here;
        fits = fits_in_leaf (seen s images) key end.good here;
        way = λ some. end.way;
        has = λ some. end.has;
        any = inr end.room;
        none = λ is. absurd (none_is images end.some is);
        some = λ p way lacks. end.some;
        lacks = λ some. found.splits.2;
        within = λ m is. inr (within m is);
      }

-- ---- a plan that was refused

module _ (pages : Pages) (key : Key) (max : Option ℕ) where
  -- no pages were wanted
  pub wants_none : {dense : Bool} (e : Fault) → (e ≡ Capacity → ⊥) → (e ≡ PagesFull → ⊥) → WantsPages dense pages key max e
  wants_none e up full = record { full = λ is. absurd (full is); used_up = λ is. absurd (up is); whole_way = λ is. absurd (up is); lacks = λ is. elim is [ inl same ↦ absurd (up same) | inr same ↦ absurd (full same) ] }

  module _ {dense : Bool} (top : Top) (found : IsFound dense pages key (Some top)) where
    -- too many for the store
    pub wants_fewer : (e : Fault) → (e ≡ Capacity → ⊥) → (e ≡ PagesFull → (m : ℕ) × (max ≡ Some m) × (m + (pages 0).prev < (pages 0).leftmost + top.pages)) → WantsPages dense pages key max e
    wants_fewer e up full = record {
      full = λ is. let over = full is in (over.0, over.1, many_found pages key top over.0 found over.2);
      used_up = λ is. absurd (up is);
      whole_way = λ is. absurd (up is);
      lacks = λ is. found.splits.2;
    }

    -- the root is of the last level
    pub wants_level : top.root ≡ true → top.level ≡ 255 → WantsPages dense pages key max Capacity
    wants_level root level = record {
      full = λ is. absurd (let never : ⊥ = cc is in never);
      used_up = λ is. inr (last_level pages key top found root level);
      whole_way = λ is. inr (last_splits pages key top found root level);
      lacks = λ is. found.splits.2;
    }

    -- too many for page numbers
    pub wants_numbers : {A : Type 0} (r : Result A Fault) → IfErr r (λ e. e ≡ PagesFull → ⊥) → IfErr r (λ e. e ≡ Capacity → 2 ^ 32 - 1 + (pages 0).prev < (pages 0).leftmost + top.pages) → IfErr r (WantsPages dense pages key max)
    wants_numbers {A} (Ok a) full up = tt
    wants_numbers {A} (Err e) full up =
        let over : e ≡ Capacity → IsOver dense pages key (2 ^ 32 - 1) = λ is. many_found pages key top (2 ^ 32 - 1) found (up is) in
        record { full = λ is. absurd (full is); used_up = λ is. inl (over is); whole_way = λ is. inl (over is); lacks = λ is. found.splits.2 }
