-- The records of the structure change that is open.
use Rattle.std.specs.Prelude.{◌≡◌, ◌≢◌, ℕ, List, [], ◌∷◌, ◌++◌}
use Rattle.im_base_types.specs.Pages.{Body}
use Rattle.im_base_types.specs.Records.{What, Smo, Logged}
use Rattle.im_theory_log.specs.Histories.{History}
use Rattle.im_theory_log.specs.Structure.{open_smo}
use Rattle.im_restart_analysis.specs.declared.rows.OpenRecord.{OpenRecord}

-- a record's row
abbrev pub open_row : Logged → OpenRecord
open_row s = record { transaction = s.txn; lsn = s.lsn; page = s.page }

-- the rows of records, the oldest first
abbrev pub oldest_first : History → List OpenRecord
oldest_first [] = []
oldest_first (s ∷ older) = oldest_first older ++ open_row s ∷ []

-- The rows are those of the structure change that the log leaves open, the oldest first.
abbrev pub IsOpenChange : List OpenRecord → History → Type 0
IsOpenChange rows log = rows ≡ oldest_first (open_smo log)

abbrev pub IsSmo : What → Type 0
IsSmo w = (before : Body) × (after : Body) × (w ≡ Smo before after)

-- the newest of these records is another transaction's
abbrev pub IsOfAnother : ℕ → History → Type 0
IsOfAnother t [] = ⊥
IsOfAnother t (s ∷ rest) = s.txn ≢ t

-- The record opens a structure change while another transaction's is open.
pub record OpensAnother (r : Logged) (older : History) : Type 0 where
  pub smo : IsSmo r.what
  pub open_by : IsOfAnother r.txn (open_smo older)
