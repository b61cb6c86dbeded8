use Rattle.std.proofs.Common.{◌+◌, ◌-◌, ◌<◌, ℕ, List, [], ◌∷◌, length, take, drop, sym, ◌∙◌, ap, subst}
use Rattle.im_base_types.specs.declared.file_id.FileId.TheVariants.{Log}
use Rattle.im_log_gate.specs.Batches.{in_front}
use Rattle.im_log_gate.specs.Gate.{unread}
use Rattle.im_log.proofs.Openings.{ahead_on, batch_is}
use Rattle.im_log.proofs.log_opening.Opening.pass.Goals as goal

pub returns-clause-begun : goal.returns-clause-begun
returns-clause-begun g c =
    let old = c.args.self.now in
    let begun = c.requires.begun in
    let same = c.pass.ensures.same in
    let size = c.in-Some.size in
    let file : List ℕ = g.D.Disk.seen c.args.disk.now Log in
    let fits = subst (λ (l : List ℕ). size + 5 < length (take (old.held - old.end) (drop old.end l))) c.deref.ensures.value c.in-Some.ensures.moves.2 in
    record {
      reading = c.in-Some.ensures.reading;
      starts = λ told. let starts = begun.starts told in record { first = same.first ∙ starts.first; base = same.base ∙ starts.base; least = same.least ∙ starts.least; generation = same.generation ∙ starts.generation };
      working = λ works. c.in-Some.ensures.failed ∙ begun.working works;
      behind = λ works. c.place-behind.ensures;
      ahead = λ works told.
          ahead_on old.bytes.items old.end old.held size fits file old.gate.place (begun.ahead works told)
          ∙ ap (λ (k : ℕ). take (length (take (old.held - (old.end + 5 + size)) (drop (old.end + 5 + size) old.bytes.items))) (drop k file)) (sym c.in-Some.ensures.moves.3);
    }

pub returns-clause-one : goal.returns-clause-one
returns-clause-one g c so told =
    let old = c.args.self.now in
    let size = c.in-Some.size in
    let fits = subst (λ (l : List ℕ). size + 5 < length (take (old.held - old.end) (drop old.end l))) c.deref.ensures.value c.in-Some.ensures.moves.2 in
    c.in-Some.ensures.next told
    ∙ ap (λ (l : List ℕ). in_front (l ∷ []) (unread g.D.Disk c.pass.new.self c.args.disk.now))
    (ap (λ (l : List ℕ). take size (drop 5 (take (old.held - old.end) (drop old.end l)))) c.deref.ensures.value ∙ batch_is old.bytes.items old.end old.held size fits)
