-- What comes after a structure change of a rollback.
use Rattle.std.proofs.Common.{◌≡◌, ◌≢◌, ◌⊎◌, ℕ, Bool, true, false, List, [], ◌∷◌, length, Option, None, Some, Result, Ok, Err, inl, inr, refl, sym, ◌∙◌, ap, subst, ◌==◌}
use Rattle.std.specs.Prelude.{◌||◌, IfErr, IfOk, IsErrAnd}
use Rattle.std.proofs.lemmas.Bool.{cond-true, eq-eqb}
use Rattle.im_base_types.specs.declared.fault.Fault.{Fault}
use Rattle.im_base_types.specs.declared.fault.Fault.TheVariants.{Capacity, Failed, Memory, NotAStore}
use Rattle.im_base_types.specs.Records as whats
use Rattle.im_base_types.specs.Records.{What, Logged}
use Rattle.im_theory_log.specs.Histories.{Base, History}
use Rattle.im_theory_log.specs.Lawful.{IsLawful, IsOutside}
use Rattle.im_theory_log.specs.Structure.{settled}
use Rattle.im_theory_log.specs.Transactions.{is_finished, to_undo, undo_next_of, undo_reads}
use Rattle.im_theory_log.specs.Writer.{Writer}
use Rattle.im_theory_log.proofs.Fronts.{has_tree, rises}
use Rattle.im_page_writer.specs.Outcome.{fault_of}
use Rattle.im_base_disk.specs.declared.disk.Disk.{Ghosts}
use Rattle.im_log_record.specs.Entry.{Entry, page_of}
use Rattle.im_log.specs.Whats.{what_of}
use Rattle.im_log.specs.Spelled.{logged_at}
use Rattle.im_page_writer.specs.declared.page_writer.PageWriter.{PageWriter}
use Rattle.im_page_writer.specs.PageWriter.{StandsAs}
use Rattle.im_theory_page.specs.Split.{HasRoom}
use Rattle.im_theory_tree.specs.Levels.{Pages}
use Rattle.im_theory_tree.specs.Search.{IsOnWay}
use Rattle.im_theory_tree.specs.Theory.{page_tree}
use Rattle.im_theory_tree.proofs.TheoryLaws.{page_tree_laws}
use Rattle.im_tree_search.specs.declared.change_beside.Beside.{Beside}
use Rattle.im_tree_search.specs.declared.sight.Sight.{Sight}
use Rattle.im_tree_search.specs.declared.sight.Sight.TheVariants.{Seen, Hidden}
use Rattle.im_smo_pages.specs.Images.{Numbered}
use Rattle.im_smo_split.specs.Tops.{LacksRoomFor}
use Rattle.im_smo_split.proofs.OneLeaf.{one_leaf}
use Rattle.im_smo_log.specs.declared.change.Change.{Change}
use Rattle.im_smo_log.specs.Stepping.{Closed, Goes}
use Rattle.im_smo_log.specs.Logged.{dummy_at}
use Rattle.im_smo_log.specs.Under.{IsUnderWay}
use Rattle.im_smo_log.proofs.BetweenSteps.{inserts_may_end}
use Rattle.im_smo_actions.specs.GoingBeside.{settled_pages, IsToldOf}
use Rattle.im_smo_actions.proofs.Told.{none_is_told, none_made}
use Rattle.im_restart_analysis.specs.declared.rows.Loser.{Loser}
use Rattle.im_restart_analysis.specs.Losers.{has_record, is_loser}
use Rattle.im_restart_analysis.specs.Undo.{ComesTo, IsNext}
use Rattle.im_restart_analysis.proofs.Losers.{loser_from}
use Rattle.im_restart_analysis.proofs.Undoing.{undo_goes_on}
use Rattle.im_restart_undo.specs.Planning.{HiddenBack, page_made, way_made, leaf_planned, change_needed, NeedsChange, IsWayOfMade}
use Rattle.im_restart_undo.specs.GoingBeside.{IsGoingBeside}
use Rattle.im_restart_undo.specs.Records.{GrowsByUndo}
use Rattle.im_restart_undo.specs.Undoing.{IsToUndo, LeavesUndo, UsesUp}
use Rattle.im_restart_undo.proofs.Growth.{grows_one, left_both, left_from}
use Rattle.im_restart_undo.proofs.Plans.{never_planned}
use Rattle.im_restart_undo.proofs.StructureLogs.{row_is}
use Rattle.im_engine_rollback.specs.declared.undone.Undone.{Undone}
use Rattle.im_engine_rollback.specs.declared.undone_beside.UndoneBeside.{UndoneBeside}
use Rattle.im_engine_rollback.specs.declared.undone_beside.UndoneBeside.TheVariants.{Made, Splits, Drops}
use Rattle.im_engine_rollback.specs.EndsBeside.{EndIfUndoneBesideKept}
use Rattle.im_engine_rollback.specs.SplitsBack.{IsSplitBack, ClosedBack, CloseBackKept}
use Rattle.im_engine_rollback.specs.TurnsBeside.{TurnBesideKept}
use Rattle.im_engine_rollback.specs.Ends.{may_be_full, may_turn, TurnOutcome}
use Rattle.im_engine_rollback.proofs.Ends.{never_capacity, never_failed, never_memory}
use Rattle.im_engine_rollback.proofs.LoggingBack.{drop_needs, split_needs}
use Rattle.im_engine_rollback.proofs.SplitsBack.{reads_still}
use Rattle.im_engine_rollback.proofs.Turning.{went_closed}

-- ---- beside none

no_way : (pages : Pages) (beside : Beside) (w : What) → beside.pages.now ≡ [] → IsWayOfMade pages beside w → ⊥
no_way pages beside (whats.InsertKey k i) none is = let clash : true ≡ false = sym is.made ∙ none_made beside is.page none in cc clash
no_way pages beside (whats.DeleteKey k i) none is = let clash : true ≡ false = sym is.made ∙ none_made beside is.page none in cc clash
no_way pages beside (whats.UndoInsert k i) none is = is
no_way pages beside (whats.UndoDelete k i) none is = is
no_way pages beside (whats.Smo x y) none is = is
no_way pages beside (whats.UndoSmo y) none is = is
no_way pages beside whats.DummyClr none is = is
no_way pages beside whats.Commit none is = is
no_way pages beside whats.End none is = is
no_way pages beside (whats.Image c) none is = is
no_way pages beside (whats.Checkpoint n a x) none is = is
no_way pages beside whats.Unreadable none is = is

-- nothing is hidden
pub never_hidden : (pages : Pages) (beside : Beside) (page : ℕ) (w : What) → beside.pages.now ≡ [] → HiddenBack pages beside page w → ⊥
never_hidden pages beside page w none (page_made is) = let clash : true ≡ false = sym is ∙ none_made beside page none in cc clash
never_hidden pages beside page w none (way_made not is) = no_way pages beside w none is
never_hidden pages beside page w none (leaf_planned leaf way is) = never_planned beside leaf none is
never_hidden pages beside page w none (change_needed some needs) = some none

module _ {D : Type 0} (d : Ghosts D) where
  -- a turn that did not make its change at once
  pub made_turn : {v w : PageWriter} {new : D} (sight : Sight UndoneBeside) (r : Result Undone Fault) → IfErr r (λ f. (f ≡ Failed) × ((undone : Undone) → sight ≡ Seen (Made undone) → ⊥)) → TurnOutcome d may_turn v w new None
      → TurnOutcome d may_turn v w new (fault_of r)
  made_turn {v} {w} {new} sight (Ok undone) other one = one
  made_turn {v} {w} {new} sight (Err f) other one =
      let failed : TurnOutcome d may_turn v w new (Some Failed) = record { ready = one.ready; frames = one.frames; ends = (refl, one.ends) } in
      subst (λ (x : Fault). TurnOutcome d may_turn v w new (Some x)) (sym other.0) failed

  -- one that was refused late
  pub late_turn : {v w : PageWriter} {new : D} (f answer : Fault) → (f ≡ Memory → answer ≡ Failed) → (f ≢ Memory → answer ≡ f) → TurnOutcome d may_turn v w new (Some f) → TurnOutcome d may_turn v w new (Some answer)
  late_turn {v} {w} {new} Memory answer memory others one =
      let failed : TurnOutcome d may_turn v w new (Some Failed) = record { ready = one.ready; frames = one.frames; ends = (refl, one.ends.1) } in
      subst (λ (x : Fault). TurnOutcome d may_turn v w new (Some x)) (sym (memory refl)) failed
  late_turn {v} {w} {new} f answer memory others one = subst (λ (x : Fault). TurnOutcome d may_turn v w new (Some x)) (sym (others (λ same. let never : ⊥ = cc same in never))) one

  -- an End is refused for none of these
  pub full_never : {v w : PageWriter} {new : D} (r : Result Undone Fault) → TurnOutcome d may_be_full v w new (fault_of r) → IfErr r (λ f. (f ≡ Memory) ⊎ (f ≡ Capacity) ⊎ (f ≡ Failed) → ⊥)
  full_never {v} {w} {new} (Ok undone) one = tt
  full_never {v} {w} {new} (Err f) one = λ is. elim is [
    | inl memory ↦ never_memory d {A = Undone} {v = v} ⊥ (Err f) refl one memory
    | inr more ↦ elim more [ inl capacity ↦ never_capacity d {A = Undone} {v = v} ⊥ (Err f) refl one capacity | inr failed ↦ never_failed d {A = Undone} {v = v} ⊥ (Err f) refl one failed ]
  ]

-- all pages of a change are logged
pub whole_way : (b : Base) (c : Change) (log : History) → c.done ≡ length c.images → Goes b c log → IsUnderWay b c.transaction c.undo_next c.images (length c.images) c.last log
whole_way b c log end goes = subst (λ (n : ℕ). IsUnderWay b c.transaction c.undo_next c.images n c.last log) end goes

module _ {D : Type 0} (d : Ghosts D) (b : Base) (base : ℕ) where
  -- it could not be closed
  pub close_refused : (ends : Bool) (s : Writer) (e t last undo_next : ℕ) (old : D) (start w : PageWriter) (new : D) (f : Fault) → TurnOutcome d may_be_full start w new (Some f) → f ≢ NotAStore → LeavesUndo d b base s t old new
      → (result : Result Undone Fault) → IsErrAnd result (λ x. x ≡ f) → CloseBackKept d b base true ends s e t last undo_next old w new result
  close_refused ends s e t last undo_next old start w new f one sound stops (Ok undone) here = absurd here
  close_refused ends s e t last undo_next old start w new f one sound stops (Err x) here =
      subst (λ (y : Fault). CloseBackKept d b base true ends s e t last undo_next old w new (Err y)) (sym here) (record {
        sound = sound;
        stops = stops;
        never = full_never d {v = start} (Err f) one;
      })

  -- ---- calls of the change's own transaction

  pub turn_as : (ends : Bool) (s : Writer) (e t last undo_next u m : ℕ) (beside : Beside) (start : PageWriter) (old : D) (w : PageWriter) (new : D) (result : Result (Sight UndoneBeside) Fault) → u ≡ t → m ≡ undo_next
      → (IsGoingBeside d b base s e u last m start old → to_undo u s.log ≢ [] → IsToldOf b beside s.log → TurnBesideKept d b base ends s e u last m beside old w new result)
      → IsGoingBeside d b base s e t last undo_next start old → to_undo t s.log ≢ [] → IsToldOf b beside s.log → TurnBesideKept d b base ends s e t last undo_next beside old w new result
  turn_as ends s e t last undo_next u m beside start old w new result owner at kept =
      subst (λ (n : ℕ). IsGoingBeside d b base s e t last n start old → to_undo t s.log ≢ [] → IsToldOf b beside s.log → TurnBesideKept d b base ends s e t last n beside old w new result) at
      (subst (λ (n : ℕ). IsGoingBeside d b base s e n last m start old → to_undo n s.log ≢ [] → IsToldOf b beside s.log → TurnBesideKept d b base ends s e n last m beside old w new result) owner kept)

  pub end_as : (ends : Bool) (s : Writer) (e t last undo_next u m : ℕ) (start : PageWriter) (old : D) (w : PageWriter) (new : D) (result : Result Undone Fault) → u ≡ t → m ≡ undo_next
      → (IsGoingBeside d b base s e u last m start old → is_loser u s.log ≡ true → EndIfUndoneBesideKept d b base ends s e u last m old w new result) → IsGoingBeside d b base s e t last undo_next start old → is_loser t s.log ≡ true
      → EndIfUndoneBesideKept d b base ends s e t last undo_next old w new result
  end_as ends s e t last undo_next u m start old w new result owner at kept =
      subst (λ (n : ℕ). IsGoingBeside d b base s e t last n start old → is_loser t s.log ≡ true → EndIfUndoneBesideKept d b base ends s e t last n old w new result) at
      (subst (λ (n : ℕ). IsGoingBeside d b base s e n last m start old → is_loser n s.log ≡ true → EndIfUndoneBesideKept d b base ends s e n last m old w new result) owner kept)

  -- ---- the record that closes a change

  -- how the writer stands after it
  pub record Shut (s : Writer) (e t last undo_next lsn : ℕ) (w : PageWriter) (disk : D) : Type 0 where
    pub closed : Writer
    pub shut : ClosedBack d b base s e t last undo_next lsn closed w disk

  pub closing : (s : Writer) (e : ℕ) (start : PageWriter) (old : D) → StandsAs d b base s start old → s.redo_end ≡ Some e → (c : Change) → c.done ≡ length c.images → Goes b c s.log → (lsn : ℕ) (w : PageWriter) (disk : D) → Closed d b base s c lsn w disk
      → Shut s e c.transaction c.last c.undo_next lsn w disk
  closing s e start old stands over c end goes lsn w disk k =
      let t = c.transaction in
      let has = k.goes goes in
      record {
        closed = _;
        shut = record {
          log = refl;
          going = record {
            stands = k.logged.stands;
            over = over;
            can = record { lawful = has.lawful; closed = has.closed };
            owner = c.owned;
            unfinished = cond-true (t == t) (is_finished t s.log) (is_finished t s.log) (eq-eqb t t refl) ∙ goes.unfinished;
            row = row_is t lsn c.undo_next (dummy_at lsn t c.last c.undo_next ∷ s.log) has.last has.undo;
          };
          point = refl;
          durable = k.logged.grows;
        };
      }

  module _ (s : Writer) (e t last undo_next lsn : ℕ) (closed : Writer) (between : PageWriter) (mid : D) (shut : ClosedBack d b base s e t last undo_next lsn closed between mid) where
    -- what a stop leaves of calls after it
    pub left_closed : (old new : D) → LeavesUndo d b base s t old mid → LeavesUndo d b base closed t mid new → LeavesUndo d b base s t old new
    unfolding grows_one
    left_closed old new one two =
        left_both d b base s t old mid new one
        (left_from d b base s t closed mid new shut.durable (subst (λ (l : History). GrowsByUndo t s.log l) (sym shut.log) (grows_one t (dummy_at lsn t last undo_next) s.log refl)) two)

    -- the transaction has a record, and is not finished
    pub closed_loser : is_loser t closed.log ≡ true
    closed_loser = loser_from t closed.log shut.going.owner
        (ap (has_record t) shut.log ∙ ap (λ (known : Bool). known || has_record t s.log) (eq-eqb t t refl)) shut.going.unfinished

    pub told_none : (beside : Beside) → beside.pages.now ≡ [] → IsToldOf b beside closed.log
    told_none beside none = none_is_told b beside closed.log none shut.going.can.closed

    -- ---- a split is closed

    module _ (images : List Numbered) (way : IsUnderWay b t undo_next images (length images) last s.log) (is : IsSplitBack b undo_next images s.log) where
      law : IsLawful b page_tree closed.log
      law = shut.going.can.lawful

      closed_reads : undo_reads undo_next closed.log ≡ Some is.found
      closed_reads = ap (undo_reads undo_next) shut.log ∙ reads_still b undo_next (dummy_at lsn t last undo_next) s.log is.found (rises b page_tree (dummy_at lsn t last undo_next ∷ s.log) (subst (λ (l : History). IsLawful b page_tree l) shut.log law)) is.reads

      -- the record that it is for is undone next
      pub closed_next : IsNext t closed.log is.found
      closed_next =
          let comes = (undo_goes_on page_tree page_tree_laws).reads_beside b closed.log t law (subst (λ (l : History). IsOutside t l) (sym shut.going.can.closed) tt) shut.going.owner in
          let here : undo_reads (undo_next_of t closed.log) closed.log ≡ Some is.found = ap (λ (n : ℕ). undo_reads n closed.log) (ap (λ (r : Loser). r.undo_next) shut.going.row) ∙ closed_reads in
          subst (λ (o : Option Logged). ComesTo t closed.log o) here comes

      pub some_left : to_undo t closed.log ≢ []
      some_left none = let clash : is.found ∷ closed_next.rest ≡ [] = sym closed_next.stack ∙ none in cc clash

      dropped : (entry : Entry) → IsToUndo d b base closed t entry → what_of entry ≡ whats.DeleteKey is.key is.rid
      dropped entry to =
          let stacks : logged_at to.lsn entry ∷ to.next.rest ≡ is.found ∷ closed_next.rest = sym to.next.stack ∙ closed_next.stack in
          let same : logged_at to.lsn entry ≡ is.found = cc stacks in
          ap (λ (x : Logged). x.what) same ∙ is.dropped

      -- its leaf has room
      has_room : IsOnWay (settled b closed.log) 0 is.key is.leaf × HasRoom true (settled b closed.log is.leaf).entries (is.key, 0)
      has_room = subst (λ (l : History). IsOnWay (settled b l) 0 is.key is.leaf × HasRoom true (settled b l is.leaf).entries (is.key, 0)) (sym shut.log)
          (inserts_may_end b t undo_next images last (dummy_at lsn t last undo_next) s.log is.key is.leaf is.page way refl is.way is.image is.room)

      never_lacks : LacksRoomFor (settled b closed.log) is.key → ⊥
      never_lacks lacks =
          let same : is.leaf ≡ lacks.page = one_leaf (settled b closed.log) [] is.key is.leaf lacks.page (has_tree b page_tree closed.log law).good has_room.0 lacks.way in
          lacks.lacks (subst (λ (p : ℕ). HasRoom true (settled b closed.log p).entries (is.key, 0)) same has_room.1)

      -- so that it takes no structure change
      pub never_needs : (entry : Entry) → IsToUndo d b base closed t entry → NeedsChange (settled b closed.log) (what_of entry) → ⊥
      never_needs entry to needs = never_lacks (subst (λ (w : What). NeedsChange (settled b closed.log) w) (dropped entry to) needs)

      pub never_used : (entry : Entry) → IsToUndo d b base closed t entry → UsesUp (settled b closed.log) (what_of entry) → ⊥
      never_used entry to used = never_lacks (subst (λ (w : What). UsesUp (settled b closed.log) w) (dropped entry to) used).lacks

      -- ---- the turn after it

      module _ (beside : Beside) (none : beside.pages.now ≡ []) (w : PageWriter) (new : D) where
        -- what is seen is made
        made_sight : (ends : Bool) (sight : Sight UndoneBeside) → TurnBesideKept d b base ends closed e t lsn undo_next beside mid w new (Ok sight) → (undone : Undone) × (sight ≡ Seen (Made undone))
        made_sight ends (Seen (Made undone)) k = (undone, refl)
        made_sight ends (Seen (Splits change)) k = absurd (never_needs k.sound.entry k.sound.next.next (split_needs (settled_pages b closed) (what_of k.sound.entry) _ k.sound.splits.planned.can))
        made_sight ends (Seen (Drops change l n)) k = absurd (never_needs k.sound.entry k.sound.next.next (drop_needs (settled_pages b closed) (what_of k.sound.entry) k.sound.drops.page change.images k.sound.drops.planned.can))
        made_sight ends Hidden k = absurd (never_hidden (settled b closed.log) beside (page_of k.sound.entry) (what_of k.sound.entry) none k.sound.why)

        module _ (old : D) (left : LeavesUndo d b base s t old mid) where
          pub split_closed : (ends : Bool) (sight : Sight UndoneBeside) → TurnBesideKept d b base ends closed e t lsn undo_next beside mid w new (Ok sight) → (result : Result Undone Fault) → IfOk result (λ undone. sight ≡ Seen (Made undone))
              → IfErr result (λ f. (f ≡ Failed) × ((undone : Undone) → sight ≡ Seen (Made undone) → ⊥)) → CloseBackKept d b base true ends s e t last undo_next old w new result
          split_closed ends sight k (Ok undone) made other =
              let kept : TurnBesideKept d b base ends closed e t lsn undo_next beside mid w new (Ok (Seen (Made undone))) = subst (λ (x : Sight UndoneBeside). TurnBesideKept d b base ends closed e t lsn undo_next beside mid w new (Ok x)) made k in
              record {
                sound = record { lsn = lsn; closed = closed; between = between; mid = mid; shut = shut; beside = beside; none = none; turned = kept.sound };
                stops = left_closed old new left kept.stops;
                never = tt;
              }
          split_closed ends sight k (Err f) made other = let seen = made_sight ends sight k in absurd (other.1 seen.0 seen.1)

          pub split_refused : (ends : Bool) (f answer : Fault) → (f ≡ Memory → answer ≡ Failed) → (f ≢ Memory → answer ≡ f) → TurnBesideKept d b base ends closed e t lsn undo_next beside mid w new (Err f) → CloseBackKept d b base true ends s e t last undo_next old w new (Err answer)
          split_refused ends f answer memory others k =
              let short : f ≡ Memory → ⊥ = λ is. (let needs = k.short is in never_needs needs.entry needs.next needs.needs) in
              let used : f ≡ Capacity → ⊥ = λ is. (let used = k.used_up is in never_used used.entry used.next used.used_up) in
              let same : answer ≡ f = others (λ is. short is) in
              subst (λ (x : Fault). CloseBackKept d b base true ends s e t last undo_next old w new (Err x)) (sym same) (record {
                sound = k.sound;
                stops = left_closed old new left k.stops;
                never = λ is. elim is [ inl memory ↦ short memory | inr more ↦ elim more [ inl capacity ↦ used capacity | inr failed ↦ k.early failed ] ];
              })

    -- ---- a deletion is closed

    pub drop_closed : (ends : Bool) (old : D) → LeavesUndo d b base s t old mid → (start w : PageWriter) (new : D) (result : Result Undone Fault) → TurnOutcome d may_be_full start w new (fault_of result) → EndIfUndoneBesideKept d b base ends closed e t lsn undo_next mid w new result
        → CloseBackKept d b base false ends s e t last undo_next old w new result
    drop_closed ends old left start w new (Ok undone) one k = record {
      sound = record { lsn = lsn; closed = closed; between = between; mid = mid; shut = shut; went = went_closed d b base ends closed e t lsn undo_next w new undone shut.going.can.closed k.sound };
      stops = left_closed old new left k.stops;
      never = tt;
    }
    drop_closed ends old left start w new (Err f) one k = record { sound = k.sound; stops = left_closed old new left k.stops; never = full_never d {v = start} (Err f) one }
