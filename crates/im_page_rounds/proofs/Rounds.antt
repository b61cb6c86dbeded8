-- Rounds, one after another.
use Rattle.std.proofs.Common.{◌≡◌, ℕ, ◌+◌, ◌<◌, List, [], ◌∷◌, ◌++◌, Bool, refl, ◌∙◌, ap, arith, append_assoc}
use Rattle.im_base_types.specs.Pages.{Page}
use Rattle.im_base_types.specs.Records.{Logged}
use Rattle.im_theory_log.specs.Histories.{History}
use Rattle.im_theory_log.specs.Copies.{onto, redo_all, redo_one}
use Rattle.im_theory_log.specs.Writer.{Writer, WriterKept}
use Rattle.im_theory_log.specs.WriterSteps.{redone}
use Rattle.im_theory_log.proofs.WriterRedo.{redone_kept}
use Rattle.im_page_table.specs.KnownCopies.{every_page, redone_as}
use Rattle.im_page_table.proofs.KnownCopies.{redone_as_kept}
use Rattle.im_page_rounds.specs.Rounds.{applied_to, InRounds, redone_all, RoundsAreKept, RoundsLeave}

pub page_then : (rs more : List Logged) (p : ℕ) (g : Page) → redo_all (rs ++ more) p g ≡ redo_all more p (redo_all rs p g)
page_then [] more p g = refl
page_then (r ∷ rs) more p g = page_then rs more p (redo_one r p g)

pub count_then : (rs more : List Logged) (p : ℕ) (g : Page) → applied_to (rs ++ more) p g ≡ applied_to rs p g + applied_to more p (redo_all rs p g)
count_then [] more p g = omega arith
count_then (r ∷ rs) more p g = let rest = count_then rs more p (redo_one r p g) in omega (arith, rest)

writer_then : (known : ℕ → Bool) (rs more : List Logged) (s : Writer) → redone_all known (rs ++ more) s ≡ redone_all known more (redone_all known rs s)
writer_then known [] more s = refl
writer_then known (r ∷ rs) more s = writer_then known rs more (redone_as (known r.page) r s)

pub rounds_then : InRounds
rounds_then = record { page = page_then; count = count_then; writer = writer_then }

pub round_leaves : RoundsLeave
round_leaves known [] s = record { log = refl; durable = refl; point = refl; redo_end = refl; page = λ p. refl; waits = λ p. refl; reads = λ p. refl; synced = λ p. refl; unsynced = λ p. refl }
round_leaves known (r ∷ rs) s =
    let on = round_leaves known rs (redone_as (known r.page) r s) in
    record { log = on.log; durable = on.durable; point = on.point; redo_end = on.redo_end; page = on.page; waits = on.waits; reads = on.reads; synced = on.synced; unsynced = on.unsynced }

-- a history is a front of what records in turn make of it
pub onto_has : (rs : List Logged) (f : History) → (newer : History) × (newer ++ f ≡ onto rs f)
onto_has [] f = ([], refl)
onto_has (r ∷ rs) f = let (newer, is) = onto_has rs (r ∷ f) in (newer ++ r ∷ [], append_assoc newer (r ∷ []) f ∙ is)

pub rounds_kept : RoundsAreKept
rounds_kept b s newer front [] known k going at from had copies = record { kept = k; had = had }
rounds_kept b s newer front (r ∷ rs) known k going at from had copies =
    let (more, is) = onto_has rs (r ∷ front) in
    let here : (newer ++ more) ++ r ∷ front ≡ s.durable = append_assoc newer more (r ∷ front) ∙ ap (λ (h : History). newer ++ h) is ∙ at in
    let one : WriterKept b (redone r every_page s) = redone_kept b s r (newer ++ more) front every_page k going here from.0 (λ p every. had p) in
    let next : WriterKept b (redone_as (known r.page) r s) = redone_as_kept b s r (known r.page) (λ t. copies r.page t) one in
    rounds_kept b (redone_as (known r.page) r s) newer (r ∷ front) rs known next going at from.1 (λ p. ((had p).0, (let k : r.lsn < r.lsn + 1 = omega arith in k))) copies
