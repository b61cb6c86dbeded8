-- What a step by a key answers.
use Rattle.std.specs.Prelude.{Bool, true, false, ℕ, List, [], Option, None, Some, Box, Vec}
use Rattle.im_base_types.specs.Keys.{Key}
use Rattle.im_base_types.specs.Pages.{Entry}
use Rattle.im_base_types.specs.Answers.{Access, Seek, Next, Reply, Entries, entry}
use Rattle.im_theory_page.specs.Entry.{entry_at}
use Rattle.im_theory_machine.specs.Locks.{Name, At, PastAll}
use Rattle.im_theory_machine.specs.declared.verdict.Verdict.{Verdict}
use Rattle.im_theory_machine.specs.declared.verdict.Verdict.TheVariants.{Granted as GrantedAll, Wait as MustWait, Die as MustDie}
use Rattle.im_tree_search.specs.declared.next_key.NextKey.{NextKey}
use Rattle.im_tree_search.specs.declared.next_key.NextKey.TheVariants.{Here, There, End}
use Rattle.im_engine_access.specs.declared.lock_answer.LockAnswer.{LockAnswer}
use Rattle.im_engine_access.specs.declared.lock_answer.LockAnswer.TheVariants.{Granted, Wait, Die}

-- the lock table's verdict after an outcome
abbrev pub verdict_of : {X : Type 0} → LockAnswer X → Verdict
verdict_of (Granted x) = GrantedAll
verdict_of (Wait holder) = MustWait holder
verdict_of Die = MustDie

-- the value that was granted has this property, if one was
abbrev pub IfGranted : {X : Type 0} → LockAnswer X → (X → Type 0) → Type 0
IfGranted (Granted x) P = P x
IfGranted (Wait holder) P = Unit {0}
IfGranted Die P = Unit {0}

-- the name of the next key, where it stands among these entries, or was copied, or there is none
abbrev pub name_in : List Entry → NextKey → Name
name_in es (Here at) = At (entry_at es at).0
name_in es (There key) = At key
name_in es End = PastAll

-- what a search from a key on asks, or one from above it
abbrev pub seek_at : Bool → Key → Access
seek_at true key = Seek key
seek_at false key = Next key

-- the name after a range, where something is said of it
abbrev pub name_behind : Option NextKey → Option Name
name_behind None = None
name_behind (Some next) = Some (name_in [] next)

-- an entry whose key lies on the heap
abbrev pub as_entry : {Z : Type 0} → Box Key Z × ℕ → Entry
as_entry e = (e.0.value, e.1)

-- the same, where one was found
abbrev pub as_found : {Z : Type 0} → Option (Box Key Z × ℕ) → Option Entry
as_found None = None
as_found (Some e) = Some (as_entry e)

-- the reply of a search for one entry that found this
abbrev pub entry_found : {Z : Type 0} → Option (Box Key Z × ℕ) → Reply
entry_found found = entry (as_found found)

-- the reply of a scan with these entries
abbrev pub entries_found : {Z : Type 0} → Vec (Key × ℕ) Z → Reply
entries_found list = Entries list.items
