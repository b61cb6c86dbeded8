-- A net has no more changes than its log has records, and these no more than LSNs.
use Rattle.std.proofs.Common.{◌≡◌, ℕ, ◌+◌, ◌<◌, ◌≤◌, [], ◌∷◌, ◌++◌, Bool, true, false, length, length-append, arith}
use Rattle.std.specs.Prelude.{if◌then◌else◌, ◌==◌}
use Rattle.im_base_types.specs.Records.{What, InsertKey, DeleteKey, UndoInsert, UndoDelete, Smo, UndoSmo, DummyClr, Commit, End, Image, Checkpoint, Unreadable, Logged}
use Rattle.im_theory_log.specs.Histories.{Base, History, Rises, end_of}
use Rattle.im_theory_log.specs.Transactions.{to_undo, net, change_of, changes_of, stack_after, rest_of, without_smo, is_smo}
use Rattle.im_theory_steps.specs.Growth.{CountsFit}

rest_short : (stack : History) → length (rest_of stack) ≤ length stack
rest_short [] = omega arith
rest_short (s ∷ rest) = let h : length rest ≤ length rest + 1 = omega arith in omega (arith, h)

plain_short : (stack : History) → length (without_smo stack) ≤ length stack
plain_short [] = omega arith
plain_short (s ∷ rest) = by (is_smo s.what) (plain_short rest)
  where
    by : (b : Bool) → length (without_smo rest) ≤ length rest → length (if b then without_smo rest else s ∷ rest) ≤ length (s ∷ rest)
    by true h = omega (arith, h)
    by false h = omega arith

after_short : (r : Logged) (w : What) (stack : History) → length (stack_after r w stack) ≤ length stack + 1
after_short r (InsertKey k i) stack = omega arith
after_short r (DeleteKey k i) stack = omega arith
after_short r (Smo o n) stack = omega arith
after_short r (UndoInsert k i) stack = let h = rest_short stack in omega (arith, h)
after_short r (UndoDelete k i) stack = let h = rest_short stack in omega (arith, h)
after_short r (UndoSmo n) stack = let h = rest_short stack in omega (arith, h)
after_short r DummyClr stack = let h = plain_short stack in omega (arith, h)
after_short r Commit stack = omega arith
after_short r End stack = omega arith
after_short r (Image c) stack = omega arith
after_short r (Checkpoint n a d) stack = omega arith
after_short r Unreadable stack = omega arith

undo_short : (t : ℕ) (log : History) → length (to_undo t log) ≤ length log
undo_short t [] = omega arith
undo_short t (r ∷ older) = by (r.txn == t) (undo_short t older) (after_short r r.what (to_undo t older))
  where
    by : (b : Bool) → length (to_undo t older) ≤ length older → length (stack_after r r.what (to_undo t older)) ≤ length (to_undo t older) + 1
        → length (if b then stack_after r r.what (to_undo t older) else to_undo t older) ≤ length (r ∷ older)
    by true h more = omega (arith, h, more)
    by false h more = omega (arith, h)

one_change : (w : What) → length (change_of w) ≤ 1
one_change (InsertKey k i) = omega arith
one_change (DeleteKey k i) = omega arith
one_change (UndoInsert k i) = omega arith
one_change (UndoDelete k i) = omega arith
one_change (Smo o n) = omega arith
one_change (UndoSmo n) = omega arith
one_change DummyClr = omega arith
one_change Commit = omega arith
one_change End = omega arith
one_change (Image c) = omega arith
one_change (Checkpoint n a d) = omega arith
one_change Unreadable = omega arith

changes_short : (stack : History) → length (changes_of stack) ≤ length stack
changes_short [] = omega arith
changes_short (s ∷ rest) =
    let h : length (changes_of rest) ≤ length rest = changes_short rest in
    let one : length (change_of s.what) ≤ 1 = one_change s.what in
    let both : length (change_of s.what ++ changes_of rest) ≡ length (change_of s.what) + length (changes_of rest) = length-append (change_of s.what) (changes_of rest) in
    omega (arith, h, one, both)

log_short : (b : Base) (log : History) → Rises b log → length log ≤ end_of b log
log_short b [] up = omega arith
log_short b (r ∷ older) up =
    let h : length older ≤ end_of b older = log_short b older up.0 in
    let l : end_of b older < r.lsn = up.1 in
    omega (arith, h, l)

pub counts_fit : CountsFit
counts_fit b log t up =
    let c : length (net t log) ≤ length (to_undo t log) = changes_short (to_undo t log) in
    let u : length (to_undo t log) ≤ length log = undo_short t log in
    let l : length log ≤ end_of b log = log_short b log up in
    omega (arith, c, u, l)
