-- Who may begin a transaction now.
use Rattle.std.specs.Prelude.{◌≡◌, ◌⊎◌, ◌<◌, ◌≤◌, ◌==◌, ◌+◌, ℕ, List, if◌then◌else◌}
use Rattle.std.specs.List.{All}
use Rattle.im_base_admission.specs.declared.asker.Asker.{Asker as OneAsking}
use Rattle.im_base_admission.specs.declared.going.Going.{Going}
use Rattle.im_base_admission.specs.declared.precedence.Precedence.{Precedence}
use Rattle.im_base_admission.specs.declared.precedence.Precedence.TheVariants.{Nobody, Asker, Another}

-- a transaction that is active, of this thread; 0 is none's
abbrev pub IsOwn : (thread : ℕ) → Going → Type 0
IsOwn thread g = (0 < thread) × ((0 < g.number) × (g.thread ≡ thread))

-- this thread has a transaction active
abbrev pub Owns : (thread : ℕ) → List Going → Type 0
Owns thread going = All (λ g. IsOwn thread g → ⊥) going → ⊥

-- A transaction is left alone where it made no step that was answered for so many ticks. Who asks waits for a transaction of another thread that is active and was not left alone, and for any other one until so many ticks after it came to wait.
abbrev pub IsAwaited : (now patience thread came : ℕ) → Going → Type 0
IsAwaited now patience thread came g = (0 < g.number) × ((IsOwn thread g → ⊥) × ((now < g.seen + patience) ⊎ (now < came + patience)))

-- the same for one that asks
abbrev pub IsAwaitedBy : OneAsking → (came : ℕ) → Going → Type 0
IsAwaitedBy asker came = IsAwaited asker.tick asker.patience asker.thread came

-- one that waits to begin again, and has given way four times
abbrev pub IsPatient : Going → Type 0
IsPatient g = (0 < g.had) × (4 ≤ g.agains)

-- the least number of those for which P holds; 0 where there is none
abbrev pub IsLeastOf : (P : Going → Type 0) (number : Going → ℕ) → List Going → (least : ℕ) → Type 0
IsLeastOf P number going least = All (λ g. P g → (0 < least) × (least ≤ number g)) going × ((n : ℕ) → All (λ g. P g → n ≤ number g) going → 0 < least → n ≤ least)

-- where this was the least number so far, and one more is looked at, for which P may hold, that is it now
abbrev pub IsLeastWith : (P : Type 0) (number old new : ℕ) → Type 0
IsLeastWith P number old new = (P → (0 < new) × (new ≤ number)) × ((0 < old → (0 < new) × (new ≤ old)) × ((n : ℕ) → (P → n ≤ number) → (0 < old → n ≤ old) → 0 < new → n ≤ new))

-- who is first, for one with this ticket, where the one that is first has the other; 0 is nobody's
abbrev pub precedence_of : (first ticket : ℕ) → Precedence
precedence_of first ticket = if first == 0 then Nobody else (if first == ticket then Asker else Another)

-- Who begins for the first time, with no number of its own, begins where nobody is first. Who gave way begins where each transaction that is older than its own was has ended. Who is first begins where no other is active. Nobody begins before another one
-- who is first.
abbrev pub MayGoOn : (mine oldest : ℕ) → Precedence → Type 0
MayGoOn mine oldest Nobody = (mine ≡ 0) ⊎ ((oldest ≡ 0) ⊎ (mine < oldest))
MayGoOn mine oldest Asker = oldest ≡ 0
MayGoOn mine oldest Another = ⊥

-- since when one that asks has waited for those that are left alone: who is first does not wait for them, however lately it came
abbrev pub came_for : Precedence → (came : ℕ) → ℕ
came_for Nobody came = came
came_for Asker came = 0
came_for Another came = came

-- the same over the table: who is first does not wait for those that were left alone, however lately it came
abbrev pub Goes : List Going → Precedence → OneAsking → Type 0
Goes going Nobody asker = (asker.mine ≡ 0) ⊎ All (λ g. IsAwaitedBy asker asker.came g → asker.mine < g.number) going
Goes going Asker asker = All (λ g. IsAwaitedBy asker 0 g → ⊥) going
Goes going Another asker = ⊥

-- Who has another one active in its thread does not wait.
abbrev pub MayBegin : List Going → (first : ℕ) → OneAsking → Type 0
MayBegin going first asker = Owns asker.thread going ⊎ Goes going (precedence_of first asker.ticket) asker
