-- Records in a batch, spelled and read.
use Rattle.std.proofs.Common.{◌≡◌, ℕ, zero, suc, ◌+◌, ◌≤◌, List, [], ◌∷◌, ◌++◌, length, map, take, drop, Some, refl, sym, ◌∙◌, ap, subst, arith, append-nil, length-drop, take-append-drop, length-take-le}
use Rattle.std.specs.Int.{w32, from_be_bytes}
use Rattle.std.specs.List.{AllByRecursion}
use Rattle.im_base_types.specs.Records.{Logged}
use Rattle.im_log_gate.specs.Batches.{Fits}
use Rattle.im_log_record.specs.Entry.{Entry}
use Rattle.im_log_record.specs.Reading.{IsBytes}
use Rattle.im_log_record.specs.Spelling.{spelling, size_of, IsEntry}
use Rattle.im_log_record.proofs.Theorems.{length_first, record_again, record_takes, size_is}
use Rattle.im_log_record.proofs.Words.{IsBytes-drop, IsBytes-take}
use Rattle.im_log.specs.Spelled.{logged_at, record_size, records_from, batches_records}
use Rattle.im_log.specs.SpelledFiles.{spelt, joined, joined_all, IsBatch}
use Rattle.im_log.proofs.Spells.{Whole, whole, carry, push, batch_step}
use Rattle.im_log.proofs.Passes.{taken, batch_taken}

-- ---- read as they are spelled

module _ (least : (said : Entry) → 33 ≤ size_of said) where
  whole_of : (said : Entry) → IsEntry said → Whole (spelling said)
  whole_of said fits =
      whole (spelling said) (omega (arith, least said, size_is said)) (ap (λ (l : List ℕ). from_be_bytes w32 (take 4 l)) (sym (append-nil (spelling said))) ∙ length_first said [] fits ∙ sym (size_is said))

  one_read : (said : Entry) (lsn : ℕ) (older : List Logged) → IsEntry said → records_from 0 lsn (spelling said) older ≡ Some (logged_at lsn said ∷ older)
  one_read said lsn older fits =
      push lsn [] (spelling said) older older said refl (record_again said (spelling said) (record { fits = fits; spelled = refl })) (whole_of said fits)
      ∙ ap (λ (k : ℕ). Some (logged_at k said ∷ older)) (let e : lsn + 0 ≡ lsn = omega arith in e)

  pub batch_read : (es : List Entry) (lsn : ℕ) (older : List Logged) → AllByRecursion IsEntry es → records_from 0 lsn (spelt es) older ≡ Some (joined lsn es older)
  batch_read [] lsn older fits = refl
  batch_read (said ∷ rest) lsn older fits =
      carry 0 lsn (spelling said) (spelt rest) older (logged_at lsn said ∷ older) (one_read said lsn older fits.0)
      ∙ batch_read rest (lsn + length (spelling said)) (logged_at lsn said ∷ older) fits.1

  pub batches_read : (said : List (List Entry)) (lsn : ℕ) (older : List Logged) → AllByRecursion IsBatch said → batches_records lsn (map spelt said) older ≡ Some (joined_all lsn said older)
  batches_read [] lsn older fits = refl
  batches_read (es ∷ rest) lsn older fits =
      batch_step lsn (spelt es) (map spelt rest) older (joined (lsn + 5) es older) (batch_read es (lsn + 5) older fits.0.entries)
      ∙ batches_read rest (lsn + (5 + length (spelt es))) (joined (lsn + 5) es older) fits.1

-- ---- spelled as they are read

pub record SaidIn (lsn : ℕ) (bytes : List ℕ) (older log : List Logged) : Type 0 where
  pub said : List Entry
  pub entries : AllByRecursion IsEntry said
  pub bytes_are : bytes ≡ spelt said
  pub log_is : log ≡ joined lsn said older

said_in : (n lsn : ℕ) (bytes : List ℕ) (older log : List Logged) → length bytes ≤ n → IsBytes bytes → records_from 0 lsn bytes older ≡ Some log → SaidIn lsn bytes older log
said_in n lsn [] older log le fits is = record { said = []; entries = tt; bytes_are = refl; log_is = let e : older ≡ log = cc in sym e }
said_in zero lsn (byte ∷ bytes) older log le fits is = absurd (omega (arith, le))
said_in (suc n) lsn (byte ∷ bytes) older log le fits is =
    let all = byte ∷ bytes in
    let t = taken lsn all older log (omega arith) is in
    let size = record_size all in
    let spells = record_takes (take size all) t.entry (IsBytes-take size all fits) t.first.is in
    let long : length (spelling t.entry) ≡ size = ap length (sym spells.spelled) ∙ length-take-le size all t.first.most in
    let now = logged_at lsn t.entry ∷ older in
    let rest = said_in n (lsn + size) (drop size all) now log (omega (arith, length-drop size all, t.first.least, le)) (IsBytes-drop size all fits) t.onward in
    record {
      said = t.entry ∷ rest.said;
      entries = (spells.fits, rest.entries);
      bytes_are = sym (take-append-drop size all) ∙ ap (λ (l : List ℕ). l ++ drop size all) spells.spelled ∙ ap (λ (l : List ℕ). spelling t.entry ++ l) rest.bytes_are;
      log_is = rest.log_is ∙ ap (λ (k : ℕ). joined k rest.said now) (ap (λ (m : ℕ). lsn + m) (sym long));
    }

pub record SaidAll (lsn : ℕ) (bs : List (List ℕ)) (older log : List Logged) : Type 0 where
  pub said : List (List Entry)
  pub batches : AllByRecursion IsBatch said
  pub bytes_are : bs ≡ map spelt said
  pub log_is : log ≡ joined_all lsn said older

pub said_all : (bs : List (List ℕ)) (lsn : ℕ) (older log : List Logged) → AllByRecursion IsBytes bs → AllByRecursion Fits bs → batches_records lsn bs older ≡ Some log → SaidAll lsn bs older log
said_all [] lsn older log bytes fit is = record { said = []; batches = tt; bytes_are = refl; log_is = let e : older ≡ log = cc in sym e }
said_all (b ∷ bs) lsn older log bytes fit is =
    let t = batch_taken lsn b bs older log is in
    let here = said_in (length b) (lsn + 5) b older t.mid (omega arith) bytes.0 t.in_batch in
    let rest = said_all bs (lsn + (5 + length b)) t.mid log bytes.1 fit.1 t.onward in
    record {
      said = here.said ∷ rest.said;
      batches = (record { entries = here.entries; fits = subst Fits here.bytes_are fit.0 }, rest.batches);
      bytes_are = ap (λ (l : List ℕ). l ∷ bs) here.bytes_are ∙ ap (λ (l : List (List ℕ)). spelt here.said ∷ l) rest.bytes_are;
      log_is = rest.log_is
          ∙ ap (λ (l : List ℕ). joined_all (lsn + (5 + length l)) rest.said t.mid) here.bytes_are
          ∙ ap (λ (l : List Logged). joined_all (lsn + (5 + length (spelt here.said))) rest.said l) here.log_is;
    }
