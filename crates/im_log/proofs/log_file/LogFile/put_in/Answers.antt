use Rattle.std.proofs.Common.{arith, refl, ◌+◌, ◌∙◌, List, ℕ, take, length, ap}
use Rattle.im_log_record.specs.Entry.{view}
use Rattle.im_log_record.specs.Spelling.{spelling}
use Rattle.im_log.proofs.Runs.{front_kept, written_back}
use Rattle.im_log.proofs.log_file.LogFile.put_in.Goals as goal

pub returns-clause-sealed : goal.returns-clause-sealed
returns-clause-sealed c =
    let log = c.args.self.now in
    let out = c.encode-end.new.out in
    let shown = c.deref_mut.result.now in (
      refl,
      ap (λ (l : List ℕ). take log.start l) (written_back log.buffer.items out log.buffer.len (omega (arith, c.encode-end.auto.out, c.deref_mut.ensures.len)))
          ∙ front_kept shown out (spelling (view c.args.record.now)) log.start (log.start + 4 + log.used) c.encode-end.result (omega arith) (omega (arith, c.encode-end.ensures.end)) (omega (arith, c.deref_mut.ensures.len, ap (λ (l : List ℕ). length l) c.deref_mut.ensures.value, log.sized, log.within)) c.encode-end.ensures.front
          ∙ ap (λ (l : List ℕ). take log.start l) c.deref_mut.ensures.value,
    )
