-- What a put makes of what is known within a life.
use Rattle.std.proofs.Common.{◌≡◌, ℕ, ◌≤◌, true, false, List, inl, Option, [], ◌∷◌, ◌++◌, take, Some, sym, ◌∙◌, ap, subst, append_assoc}
use Rattle.im_base_types.specs.declared.file_id.FileId.{FileId}
use Rattle.im_base_types.specs.declared.file_id.FileId.TheVariants.{Log}
use Rattle.im_base_disk.specs.declared.disk.Disk.{Ghosts}
use Rattle.im_base_disk.specs.Disk.{Files}
use Rattle.im_base_disk.specs.Runs.{LeavesIn}
use Rattle.im_log_gate.specs.declared.gate.Gate.{Gate}
use Rattle.im_log_gate.specs.Batches.{batches, with_batch, IsBeforeOrWith}
use Rattle.im_log_gate.specs.Gate.{IsReady, InOneFile, logged, file_of, first_of, has_failed}
use Rattle.im_log_gate.specs.Header.{first_gate, IsMade}
use Rattle.im_log_gate.proofs.Starts.{front_made, front_starts}
use Rattle.im_tool_lines.specs.Lives.{BatchesSurvive}
use Rattle.im_tool_lines.specs.Living.{IsLiving}
use Rattle.im_tool_lines.proofs.Stands.{long, survives_more, survives_all, stopped_put}

module _ {D : Type 0} (d : Ghosts D) (counts_now : (disk : D) (t : ℕ) (c : Files) → t ≤ d.moment disk → d.may_leave disk c → d.left_since disk t c) (seen_may_stay : (disk : D) → d.tells → d.may_leave disk (d.seen disk))
    (before asked acked : List (List ℕ)) (records : List ℕ) (gate next : Gate) (old new : D) (living : IsLiving d before asked acked gate old) (ready : IsReady d next new) (same : InOneFile gate next) where
  -- the gate had failed, and nothing was done
  pub still_failed : has_failed gate ≡ true → has_failed next ≡ true → new ≡ old → IsLiving d before (asked ++ records ∷ []) acked next new
  still_failed was is kept = record {
    ready = ready;
    file = same.file ∙ living.file;
    starts = λ works. absurd (cc);
    leaves = λ told c left. let s = living.leaves told c (subst (λ (disk : D). d.may_leave disk c) kept left) in (s.0, s.1, survives_more before asked acked s.0 (records ∷ []) s.2);
    made = λ works. absurd (cc);
    holds = λ works. absurd (cc);
    all = λ works. absurd (cc);
  }

  module _ (works : has_failed gate ≡ false) (moment : LeavesIn d (file_of gate) old new (IsBeforeOrWith (first_of gate) records (logged d gate old)))
      (front : LeavesIn d (file_of gate) old new (λ c. take (first_of gate) c ≡ take (first_of gate) (d.seen old (file_of gate)))) where
    fronts : d.tells → (c : Files) → d.may_leave new c → take (first_gate (d.seen old Log)) (c Log) ≡ take (first_gate (d.seen old Log)) (d.seen old Log)
    fronts told c left =
        let f = front.each told c (counts_now new (d.moment old) c front.later left) in
        subst (λ (k : ℕ). take k (c Log) ≡ take k (d.seen old Log)) (living.starts works told)
        (subst (λ (file : FileId). take (first_of gate) (c file) ≡ take (first_of gate) (d.seen old file)) living.file f.2.changed)

    either : d.tells → (c : Files) → d.may_leave new c → IsBeforeOrWith (first_gate (d.seen old Log)) records (Some (before ++ asked)) (c Log)
    either told c left =
        let b = moment.each told c (counts_now new (d.moment old) c moment.later left) in
        subst (λ (k : ℕ). IsBeforeOrWith k records (Some (before ++ asked)) (c Log)) (living.starts works told)
        (subst (λ (file : FileId). IsBeforeOrWith (first_of gate) records (Some (before ++ asked)) (c file)) living.file
        (subst (λ (o : Option (List (List ℕ))). IsBeforeOrWith (first_of gate) records o (c (file_of gate))) (living.holds works told) b.2.changed))

    -- the put was refused
    pub refused_put : has_failed next ≡ true → IsLiving d before (asked ++ records ∷ []) acked next new
    refused_put is = record {
      ready = ready;
      file = same.file ∙ living.file;
      starts = λ usable. absurd (cc);
      leaves = λ told c left.
          let s = stopped_put c (d.seen old Log) before asked records (living.made works told) (fronts told c left) (either told c left) in
          (s.0, s.1, subst (λ (l : List (List ℕ)). BatchesSurvive before (asked ++ records ∷ []) l s.0) (sym (living.all works)) s.2);
      made = λ usable. absurd (cc);
      holds = λ usable. absurd (cc);
      all = λ usable. absurd (cc);
    }

    module _ (usable : has_failed next ≡ false) (put : d.tells → logged d next new ≡ with_batch records (logged d gate old)) where
      holds_now : d.tells → logged d next new ≡ Some (before ++ (asked ++ records ∷ []))
      holds_now told = put told ∙ ap (with_batch records) (living.holds works told) ∙ ap Some (append_assoc before asked (records ∷ []))

      log_now : d.tells → batches (first_gate (d.seen old Log)) (d.seen new Log) ≡ Some (before ++ (asked ++ records ∷ []))
      log_now told =
          subst (λ (k : ℕ). batches k (d.seen new Log) ≡ Some (before ++ (asked ++ records ∷ []))) (same.first ∙ living.starts works told)
          (subst (λ (file : FileId). batches (first_of next) (d.seen new file) ≡ Some (before ++ (asked ++ records ∷ []))) (same.file ∙ living.file) (holds_now told))

      made_now : d.tells → IsMade (d.seen new Log)
      made_now told =
          front_made (d.seen old Log) (d.seen new Log) (fronts told (d.seen new) (seen_may_stay new told)) (long (first_gate (d.seen old Log)) (d.seen new Log) (before ++ (asked ++ records ∷ [])) (log_now told))
          (living.made works told)

      -- the log starts where it did
      gate_now : d.tells → first_gate (d.seen new Log) ≡ first_gate (d.seen old Log)
      gate_now told = (front_starts (d.seen old Log) (d.seen new Log) (fronts told (d.seen new) (seen_may_stay new told))).gate

      only_log : (c : Files) → d.may_leave new c → c Log ≡ d.seen new Log
      only_log c left = subst (λ (file : FileId). c file ≡ d.seen new file) (same.file ∙ living.file) (ready.reading.durable usable c left)

      -- the put was acknowledged
      pub acknowledged : IsLiving d before (asked ++ records ∷ []) (acked ++ records ∷ []) next new
      acknowledged = record {
        ready = ready;
        file = same.file ∙ living.file;
        starts = λ works_now told. same.first ∙ living.starts works told ∙ sym (gate_now told);
        leaves = λ told c left. (
          before ++ (asked ++ records ∷ []),
          inl (subst (λ (l : List ℕ). IsMade l) (sym (only_log c left)) (made_now told), ap (λ (l : List ℕ). batches (first_gate l) l) (only_log c left) ∙ ap (λ (n : ℕ). batches n (d.seen new Log)) (gate_now told) ∙ log_now told),
          subst (λ (l : List (List ℕ)). BatchesSurvive before (asked ++ records ∷ []) (l ++ records ∷ []) (before ++ (asked ++ records ∷ []))) (sym (living.all works)) (survives_all before (asked ++ records ∷ [])),
        );
        made = λ works_now told. made_now told;
        holds = λ works_now told. holds_now told;
        all = λ works_now. ap (λ (l : List (List ℕ)). l ++ records ∷ []) (living.all works);
      }
