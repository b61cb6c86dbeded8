-- The changes of pages that redo makes again.
use Rattle.std.specs.Prelude.{◌≡◌, ℕ, List, [], ◌∷◌, map}
use Rattle.im_base_types.specs.Records.{Logged}
use Rattle.im_theory_log.specs.Histories.{History, IsRecordOf}
use Rattle.im_restart_analysis.specs.declared.changes.Change.{Change}

-- the LSNs of the records that made these changes
abbrev pub lsns_of : List Change → List ℕ
lsns_of changes = map (λ x. x.lsn) changes

-- those of records
abbrev pub record_lsns : List Logged → List ℕ
record_lsns [] = []
record_lsns (r ∷ rs) = r.lsn ∷ record_lsns rs

-- a record of the log that stands where one of these changes was made is of that change's page
abbrev pub AreOwn : History → List Change → Type 0
AreOwn log [] = Unit {0}
AreOwn log (x ∷ xs) = ((r : Logged) → IsRecordOf r log → r.lsn ≡ x.lsn → r.page ≡ x.page) × AreOwn log xs
