-- Fronts of a log that a stop can leave.
use Rattle.std.proofs.Common.{◌≡◌, inl, inr, ◌⊎◌, length, length-append, [], ◌∷◌, ◌++◌, sym, ap, subst, arith}
use Rattle.im_theory_log.specs.Histories.{History, IsFront}
use Rattle.im_base_types.specs.Records.{Logged}
use Rattle.im_theory_log.specs.Writer.{IsLeft}
use Rattle.im_theory_log.proofs.Histories.{front_of_front, front_self}

pub whole : (durable log : History) → IsFront durable log → IsLeft durable log log
whole durable log f = record { from = f; upto = front_self log }

-- the front of a longer log is that log, or was one before
pub left_more : (durable log h : History) (r : Logged) → IsFront durable log → IsLeft durable (r ∷ log) h → (h ≡ r ∷ log) ⊎ IsLeft durable log h
left_more durable log h r f w = by w.upto.newer w.upto.is
  where
    by : (newer : History) → newer ++ h ≡ r ∷ log → (h ≡ r ∷ log) ⊎ IsLeft durable log h
    by [] is = inl is
    by (n ∷ newer) is = inr (record { from = w.from; upto = record { newer = newer; is = let e : newer ++ h ≡ log = cc in e } })

-- what holds of the longer log and held of each front before holds of each front
pub left_split : (durable log : History) (r : Logged) (P : History → Type 0) → IsFront durable log → P (r ∷ log) → ((h : History) → IsLeft durable log h → P h)
    → (h : History) → IsLeft durable (r ∷ log) h → P h
left_split durable log r P f new old h w = elim (left_more durable log h r f w) [
  | inl is ↦ subst P (sym is) new
  | inr was ↦ old h was
]

-- a front that a stop leaves after a force is one that it left before
pub left_forced : (durable log h : History) → IsFront durable log → IsLeft log log h → IsLeft durable log h
left_forced durable log h f w = record { from = front_of_front durable log h f w.from; upto = w.upto }

pub left_all : (log h : History) → IsLeft log log h → h ≡ log
left_all log h w = by w.upto.newer w.upto.is
  where
    by : (newer : History) → newer ++ h ≡ log → h ≡ log
    by [] is = is
    by (r ∷ newer) is = absurd (
        let one : length (r ∷ newer ++ h) ≡ length log = ap length is in
        let two : length (w.from.newer ++ log) ≡ length h = ap length w.from.is in
        omega (arith, one, two, length-append newer h, length-append w.from.newer log))
