-- What headers of the third format say.
use Rattle.std.proofs.Common.{◌≡◌, ◌≢◌, ⊎_elim, ℕ, ◌+◌, ◌^◌, ◌<◌, ◌≤◌, ◌&&◌, Bool, true, false, List, [], ◌∷◌, length, take, drop, get_or, slice_index, refl, sym, ◌∙◌, ap, subst, arith, length-append, get_or-take}
use Rattle.std.specs.Prelude.{◌==◌}
use Rattle.std.specs.Int.{w64, from_be_bytes, to_be_bytes}
use Rattle.std.proofs.lemmas.Bool.{le-leb, lt-ltb}
use Rattle.std.proofs.lemmas.List.{drop-take, get_or_at, take-take, take_at}
use Rattle.std.proofs.lemmas.Nat.{from_be_bytes-to_be_bytes_8}
use Rattle.im_base_disk.specs.Sums.{is_third, base_in, salt_in}
use Rattle.im_log_header.specs.declared.header.Header.{Header}
use Rattle.im_log_header.specs.Header.{IsMade as IsOldLog}
use Rattle.im_log_header.proofs.Fronts.{front_second, not_unmade}
use Rattle.im_log_third_header.specs.declared.header.ThirdHeader.{ThirdHeader}
use Rattle.im_log_third_header.specs.Header.{HasHeader, IsRanged, MayStart, said, third_header}
use Rattle.im_log_third_header.specs.Laws.{OneHeader, HeadersAreKept, ShowsBy, ShowsByHeader, EmptyHasHeader, NoOtherFormat}

-- ---- what is read of a header

record IsRead (h : ThirdHeader) (t : List ℕ) : Type 0 where
  long : length t ≡ 46
  name : slice_index t 7 ≡ 51
  generation : from_be_bytes w64 (take 8 (drop 15 t)) ≡ from_be_bytes w64 (to_be_bytes w64 h.start.generation)
  base : from_be_bytes w64 (take 8 (drop 23 t)) ≡ from_be_bytes w64 (to_be_bytes w64 h.start.base)
  number : from_be_bytes w64 (take 8 (drop 31 t)) ≡ from_be_bytes w64 (to_be_bytes w64 h.start.next)
  salt : take 3 (drop 39 t) ≡ h.salt
  bytes : slice_index t 39 ∷ slice_index t 40 ∷ slice_index t 41 ∷ [] ≡ h.salt
  two : (slice_index t 12 == 1) ≡ h.two_syncs

read_by : (start : Header) (salt : List ℕ) (two : Bool) → length salt ≡ 3 → IsRead (record { start = start; salt = salt; two_syncs = two }) (third_header (record { start = start; salt = salt; two_syncs = two }))
read_by start [] two three = absurd (omega (arith, three))
read_by start (x ∷ []) two three = absurd (omega (arith, three))
read_by start (x ∷ y ∷ []) two three = absurd (omega (arith, three))
read_by start (x ∷ y ∷ z ∷ []) true three = record { long = refl; name = refl; generation = refl; base = refl; number = refl; salt = refl; bytes = refl; two = refl }
read_by start (x ∷ y ∷ z ∷ []) false three = record { long = refl; name = refl; generation = refl; base = refl; number = refl; salt = refl; bytes = refl; two = refl }
read_by start (x ∷ y ∷ z ∷ u ∷ salt) two three = absurd (omega (arith, three))

module _ (h : ThirdHeader) (may : MayStart h) where
  is_read : IsRead h (third_header h)
  is_read = read_by h.start h.salt h.two_syncs may.salted

  generation_is : from_be_bytes w64 (take 8 (drop 15 (third_header h))) ≡ h.start.generation
  generation_is = is_read.generation ∙ from_be_bytes-to_be_bytes_8 h.start.generation (let last = may.ranged.last in omega (arith, last))

  base_is : from_be_bytes w64 (take 8 (drop 23 (third_header h))) ≡ h.start.base
  base_is = is_read.base ∙ from_be_bytes-to_be_bytes_8 h.start.base (let low = may.ranged.low in omega (arith, low))

  number_is : from_be_bytes w64 (take 8 (drop 31 (third_header h))) ≡ h.start.next
  number_is = is_read.number ∙ from_be_bytes-to_be_bytes_8 h.start.next may.number

  -- what is read of it is that header
  pub said_is : said (third_header h) ≡ h
  said_is = (λ i. record { start = record { generation = generation_is i; base = base_is i; next = number_is i }; salt = is_read.bytes i; two_syncs = is_read.two i })

-- bytes that are a header spell what is read of them, and its numbers are in range
said_by : (s h : ThirdHeader) (bytes : List ℕ) → s ≡ said bytes → MayStart h → bytes ≡ third_header h → s ≡ h
said_by s h bytes read may is = read ∙ ap (λ (l : List ℕ). said l) is ∙ said_is h may

pub never_another : (s : ThirdHeader) (bytes : List ℕ) → s ≡ said bytes → bytes ≢ third_header s → (h : ThirdHeader) → MayStart h → bytes ≢ third_header h
never_another s bytes read other h may is = other (is ∙ ap (λ (k : ThirdHeader). third_header k) (sym (said_by s h bytes read may is)))

pub never_past : (s : ThirdHeader) (bytes : List ℕ) → s ≡ said bytes → (IsRanged s.start → ⊥) → (h : ThirdHeader) → MayStart h → bytes ≢ third_header h
never_past s bytes read past h may is = past (subst (λ (k : ThirdHeader). IsRanged k.start) (sym (said_by s h bytes read may is)) may.ranged)

-- ---- files

pub one_header : OneHeader
one_header h k file first second =
    let same : third_header k ≡ third_header h = sym second.header ∙ first.header in
    sym (said_is k second.may) ∙ ap (λ (l : List ℕ). said l) same ∙ said_is h first.may

module _ (h : ThirdHeader) (file : List ℕ) (has : HasHeader h file) where
  pub front_is : take 47 file ≡ 1 ∷ third_header h
  front_is = front_second file (third_header h) (let within = has.within in omega (arith, within)) has.made has.header

  part : (at n : ℕ) → at + n ≤ 47 → take n (drop at file) ≡ take n (drop at (1 ∷ third_header h))
  part at n le =
      sym (drop-take at n file)
      ∙ ap (drop at) (sym (take-take (at + n) 47 file le) ∙ ap (take (at + n)) front_is)
      ∙ drop-take at n (1 ∷ third_header h)

  byte : (i : ℕ) → i < 47 → get_or file i 0 ≡ get_or (1 ∷ third_header h) i 0
  byte i lt = sym (get_or-take 47 file i 0 lt) ∙ ap (λ (l : List ℕ). get_or l i 0) front_is

  name_is : get_or file 8 0 ≡ 51
  name_is = byte 8 (omega arith) ∙ (is_read h has.may).name

  base_there : base_in file ≡ h.start.base
  unfolding base_in
  base_there = ap (λ (l : List ℕ). from_be_bytes w64 l) (part 24 8 (omega arith)) ∙ base_is h has.may

  third_there : is_third file ≡ true
  third_there =
      let low : base_in file ≤ 2 ^ 62 = (let l = has.may.ranged.low in omega (arith, base_there, l)) in
      let long : 46 < length file = (let within = has.within in omega (arith, within)) in
      (λ i. lt-ltb 46 (length file) long i && ((has.made i == 1) && ((name_is i == 51) && le-leb (base_in file) (2 ^ 62) low i)))

  salt_there : salt_in file ≡ h.salt
  salt_there = part 40 3 (omega arith) ∙ (is_read h has.may).salt

  pub shows_by : ShowsBy h file
  shows_by = record { third = third_there; base = base_there; salt = salt_there }

  -- no log of another format
  not_old : IsOldLog file → ⊥
  not_old old =
      ⊎_elim
      (λ first. let e : 49 ≡ 51 = sym (ap (λ (l : List ℕ). get_or l 7 0) first) ∙ get_or-take 30 (drop 1 file) 7 0 (omega arith) ∙ name_behind in omega (arith, e))
      (λ second. let e : 50 ≡ 51 = sym (ap (λ (l : List ℕ). get_or l 7 0) second.3) ∙ get_or-take 46 (drop 1 file) 7 0 (omega arith) ∙ name_behind in omega (arith, e))
      old.named
    where
      name_behind : get_or (drop 1 file) 7 0 ≡ 51
      name_behind = sym (get_or-take 46 (drop 1 file) 7 0 (omega arith)) ∙ ap (λ (l : List ℕ). get_or l 7 0) has.header ∙ (is_read h has.may).name

pub shows_by_header : ShowsByHeader
shows_by_header h file has = shows_by h file has

pub headers_are_kept : HeadersAreKept
headers_are_kept h file c has same long =
    let front : take 47 c ≡ 1 ∷ third_header h = same ∙ front_is h file has in record {
      may = has.may;
      within = long;
      made = sym (get_or-take 47 c 0 0 (omega arith)) ∙ ap (λ (l : List ℕ). get_or l 0 0) front;
      header = sym (drop-take 1 46 c) ∙ ap (drop 1) front;
    }

pub empty_has_header : EmptyHasHeader
empty_has_header h file may is =
    let long = (is_read h may).long in (
      record {
        may = may;
        within = (let size = ap (λ (l : List ℕ). length l) is.1 in let both = length-append (third_header h) (0 ∷ is.0) in omega (arith, long, size, both));
        made = ap (λ (l : List ℕ). slice_index l 0) is.1;
        header = ap (λ (l : List ℕ). take 46 (drop 1 l)) is.1 ∙ take_at (third_header h) (0 ∷ is.0) 46 long;
      },
      ap (λ (l : List ℕ). get_or l 47 0) is.1 ∙ get_or_at (1 ∷ third_header h) 0 is.0 0 47 (omega (arith, long)),
    )

pub no_other_format : NoOtherFormat
no_other_format = record {
  made = λ h file has. not_unmade file (let within = has.within in omega (arith, within)) has.made;
  refused = λ h file has old. not_old h file has old;
}
