use Rattle.std.proofs.Common.{◌≡◌, ◌∷◌, [], List, ℕ, sym, subst, arith}
use Rattle.im_calls.specs.Calls.{BeginsWith}
use Rattle.im_calls.specs.Entries.{read_entries}
use Rattle.im_calls.proofs.Entries.{read_again, entries_fit, told_again, alone}
use Rattle.im_calls.proofs.entries_read_again.entries_are_read_again.Goals as goal

pub returns-clause-again : goal.returns-clause-again
returns-clause-again c = read_again

pub returns-clause-room : goal.returns-clause-room
returns-clause-room c list are most = omega (arith, entries_fit list are)

pub returns-clause-told : goal.returns-clause-told
returns-clause-told c call list are most long tells =
    let both = told_again call.out call.out_len list are (omega (arith, entries_fit list are, long)) tells.1 in
    (both.0, subst (λ (n : ℕ). read_entries n call.out ≡ list) (sym tells.0.number) both.1)

pub returns-clause-one : goal.returns-clause-one
returns-clause-one c call e are long tells =
    (told_again call.out call.out_len (e ∷ []) are (omega (arith, entries_fit (e ∷ []) are, long)) (subst (λ (bytes : List ℕ). BeginsWith call.out call.out_len bytes) (alone e) tells.1)).1
