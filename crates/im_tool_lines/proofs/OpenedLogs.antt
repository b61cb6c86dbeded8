-- What is known of a log once it is open.
use Rattle.std.proofs.Common.{◌≡◌, ◌≢◌, inl, inr, ℕ, ◌≤◌, List, [], ◌++◌, length, map, Some, Result, Ok, Err, IfOk, Vec, Global, refl, sym, ◌∙◌, ap, subst, append-nil}
use Rattle.im_base_types.specs.declared.fault.Fault.{Fault}
use Rattle.im_base_disk.proofs.Runs.{reads_then}
use Rattle.im_log_gate.specs.declared.gate.Gate.{Gate}
use Rattle.im_log_gate.specs.Batches.{batches, batches_from}
use Rattle.im_log_gate.specs.Gate.{IsReady, InOneFile, StartsAs, logged, unread, file_of, first_of, place_of}
use Rattle.im_tool_lines.specs.Living.{IsLiving}
use Rattle.im_base_types.specs.declared.file_id.FileId.{FileId}
use Rattle.im_base_types.specs.declared.file_id.FileId.TheVariants.{Log, Pages}
use Rattle.im_base_disk.specs.declared.disk.Disk.{Ghosts}
use Rattle.im_base_disk.specs.Disk.{Files}
use Rattle.im_base_disk.specs.Runs.{IsSynced, LeavesIn, Reads}
use Rattle.im_log_gate.specs.Header.{first_gate, IsUnmade, IsMade, IsBlank}
use Rattle.im_tool_lines.specs.Lives.{StandsFor}
use Rattle.im_tool_lines.proofs.Stands.{stands_same, stands_once, stands_blank, survives_none}

pages_not_log : Pages ≢ Log
pages_not_log e = cc

module _ {D : Type 0} (d : Ghosts D) (old mid : D) (synced : IsSynced d old) (reads : Reads d old mid) where
  -- a stop after reads alone leaves what the files stood for
  pub read_leaves : d.tells → (found : List (List ℕ)) → StandsFor (d.seen old) found → (c : Files) → d.may_leave mid c → StandsFor c found
  read_leaves told found stands c left = stands_same c (d.seen old) (synced Log c (reads.outcomes c left)) (synced Pages c (reads.outcomes c left)) found stands

  -- and so does one within a creation
  module _ (new : D) (moment : LeavesIn d Log mid new IsBlank) (counts_now : (disk : D) (t : ℕ) (c : Files) → t ≤ d.moment disk → d.may_leave disk c → d.left_since disk t c)
      (unmade : d.tells → IsUnmade (d.seen old Log) × (length (d.seen old Pages) ≡ 0)) where
    pub made_leaves : d.tells → (c : Files) → d.may_leave new c → StandsFor c []
    made_leaves told c left =
        let b = moment.each told c (counts_now new (d.moment mid) c moment.later left) in
        let pages : c Pages ≡ d.seen old Pages = b.2.others Pages pages_not_log ∙ synced Pages b.0 (reads.outcomes b.0 b.1) in
        stands_blank c b.2.changed (ap (λ (l : List ℕ). length l) pages ∙ (unmade told).1)

    pub create_leaves : d.tells → (found : List (List ℕ)) → StandsFor (d.seen old) found → (c : Files) → d.may_leave new c → StandsFor c found
    create_leaves told found stands c left =
        let none : [] ≡ found = stands_once (d.seen old) [] found (inr ((unmade told).0, (unmade told).1, refl)) stands in
        subst (λ (l : List (List ℕ)). StandsFor c l) none (made_leaves told c left)

-- a log that was read to its end
module _ {D : Type 0} (d : Ghosts D) (old mid new : D) (synced : IsSynced d old) (opened : Reads d old mid) (read : Reads d mid new) (gate : Gate) (at : (file_of gate ≡ Log) × (place_of gate ≡ first_of gate))
    (starts : d.tells → StartsAs gate (d.seen old Log)) (made : d.tells → IsMade (d.seen old Log)) where
  read_living : (next : Gate) (found : List (List ℕ)) → IsReady d next new → InOneFile gate next → (d.tells → unread d gate mid ≡ Some found) → IsLiving d found [] [] next new
  read_living next found ready same is =
      let seen : d.seen new ≡ d.seen old = read.seen ∙ opened.seen in
      let in_mid : d.tells → batches (first_of gate) (d.seen mid Log) ≡ Some found = λ told.
      subst (λ (file : FileId). batches (first_of gate) (d.seen mid file) ≡ Some found) at.0 (subst (λ (place : ℕ). batches_from place (d.seen mid (file_of gate)) ≡ Some found) at.1 (is told)) in
      let in_new : d.tells → batches (first_of gate) (d.seen new Log) ≡ Some found = λ told. ap (λ (s : Files). batches (first_of gate) (s Log)) read.seen ∙ in_mid told in
      let in_old : d.tells → batches (first_gate (d.seen old Log)) (d.seen old Log) ≡ Some found = λ told.
      subst (λ (n : ℕ). batches n (d.seen old Log) ≡ Some found) (starts told).first (ap (λ (s : Files). batches (first_of gate) (s Log)) (sym seen) ∙ in_new told) in
      record {
        ready = ready;
        file = same.file ∙ at.0;
        starts = λ works told. same.first ∙ (starts told).first ∙ ap (λ (s : Files). first_gate (s Log)) (sym seen);
        leaves = λ told c left. (found, read_leaves d old new synced (reads_then d old mid new opened read) told found (inl (made told, in_old told)) c left, survives_none found []);
        made = λ works told. subst (λ (s : Files). IsMade (s Log)) (sym seen) (made told);
        holds = λ works told.
            subst (λ (first : ℕ). batches first (d.seen new (file_of next)) ≡ Some (found ++ [])) (sym same.first)
            (subst (λ (file : FileId). batches (first_of gate) (d.seen new file) ≡ Some (found ++ [])) (sym (same.file ∙ at.0)) (in_new told ∙ ap Some (sym (append-nil found))));
        all = λ works. refl;
      }

  pub read_result : (result : Result (Gate × Vec (Vec ℕ Global) Global) Fault) → IfOk result (λ o. IsReady d o.0 new) → IfOk result (λ o. InOneFile gate o.0) → IfOk result (λ o. d.tells → unread d gate mid ≡ Some (map (λ batch. batch.items) o.1.items))
      → IfOk result (λ o. IsLiving d (map (λ batch. batch.items) o.1.items) [] [] o.0 new)
  read_result (Ok o) ready same is = read_living o.0 (map (λ batch. batch.items) o.1.items) ready same is
  read_result (Err e) ready same is = tt

-- a log that was made
module _ {D : Type 0} (d : Ghosts D) (old mid new : D) (synced : IsSynced d old) (opened : Reads d old mid) (moment : LeavesIn d Log mid new IsBlank) (counts_now : (disk : D) (t : ℕ) (c : Files) → t ≤ d.moment disk → d.may_leave disk c → d.left_since disk t c)
    (unmade : d.tells → IsUnmade (d.seen old Log) × (length (d.seen old Pages) ≡ 0)) where
  pub made_living : (gate : Gate) → IsReady d gate new → (file_of gate ≡ Log) × (place_of gate ≡ first_of gate) → (d.tells → StartsAs gate (d.seen new Log)) → (d.tells → IsMade (d.seen new Log)) → (d.tells → logged d gate new ≡ Some []) → IsLiving d [] [] [] gate new
  made_living gate ready at starts made empty = record {
    ready = ready;
    file = at.0;
    starts = λ works told. (starts told).first;
    leaves = λ told c left. ([], made_leaves d old mid synced opened new moment counts_now unmade told c left, survives_none [] []);
    made = λ works told. made told;
    holds = λ works told. empty told;
    all = λ works. refl;
  }
