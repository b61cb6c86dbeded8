-- Who waits to begin, and for whom.
use Rattle.std.specs.Prelude.{◌≡◌, ◌<◌, ◌≤◌, ◌⊎◌, ℕ, ◌+◌, ◌-◌, ◌^◌, Bool, min, if◌then◌else◌}
use Rattle.im_base_admission.specs.declared.asker.Asker.{Asker}
use Rattle.im_base_admission.specs.declared.going.Going.{Going}
use Rattle.im_base_admission.specs.Admission.{IsAwaited}
use Rattle.im_front.specs.declared.line.Line.{Line}
use Rattle.im_front.specs.declared.line.Turn.{Turn}

-- A transaction is left alone where it made no step that was answered for ten ticks.
-- Who asks waits for a transaction that is active and was not left alone, and for any other until ten ticks after it came to wait.
abbrev pub IsWaitedFor : (tick came : ℕ) → Going → Type 0
IsWaitedFor tick came = IsAwaited tick 10 0 came

-- what a turn asks at a tick
abbrev pub asker_of : Turn → (tick : ℕ) → Asker
asker_of turn tick = record { ticket = turn.ticket; mine = turn.mine; came = turn.came; thread = 0; tick = tick; patience = 10 }

-- ---- what a call makes of the line

-- one more, as far as 64 bits go
abbrev pub one_more : ℕ → ℕ
one_more n = min (n + 1) (2 ^ 64 - 1)

-- one comes, and has this turn
abbrev pub with_one : Line → Line
with_one l = record l { tickets = one_more l.tickets }

abbrev pub next_turn : Line → Turn
next_turn l = record { ticket = one_more l.tickets; mine = 0; agains = 0; came = l.tick }

-- the turn of one that gave way, whose transaction had this number
abbrev pub turn_again : Line → Turn → ℕ → Bool → Turn
turn_again l turn number was_first = record { ticket = turn.ticket; mine = number; agains = if was_first then 0 else one_more turn.agains; came = l.tick }

-- a tick passes
abbrev pub ticked : Line → Line
ticked l = record l { tick = one_more l.tick }

-- the first one begins a transaction of this number
abbrev pub first_begun : ℕ → Line → Line
first_begun number l = record l { first_number = number; first_seen = l.tick }

-- nobody is first any more
abbrev pub none_first : Line → Line
none_first l = record l { first = 0 }

-- the one that is first began a transaction, which was left alone
abbrev pub IsFirstLeft : Line → Type 0
IsFirstLeft l = (0 < l.first) × ((0 < l.first_number) × (l.first_seen + 10 ≤ l.tick))

-- this turn is first, and has not begun
abbrev pub first_now : Turn → Line → Line
first_now turn l = record l { first = turn.ticket; first_number = 0 }

-- What asking changes: who is first and was left alone is so no longer; who has given way four times is first then, where nobody is. All else stays.
pub record Asks (turn : Turn) (old new : Line) : Type 0 where
  pub becomes : 4 ≤ turn.agains → (old.first ≡ 0) ⊎ IsFirstLeft old → new ≡ first_now turn old
  pub left : turn.agains < 4 → IsFirstLeft old → new ≡ none_first old
  pub few : turn.agains < 4 → (IsFirstLeft old → ⊥) → new ≡ old
  pub another : 0 < old.first → (IsFirstLeft old → ⊥) → new ≡ old
