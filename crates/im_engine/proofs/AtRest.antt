-- A store after a restart: how its log goes on in the other file, and the engine that it makes.
use Rattle.std.proofs.Common.{◌≡◌, ◌⊎◌, inl, inr, ℕ, ◌<◌, ◌≤◌, ◌^◌, List, [], ◌++◌, append-nil, Option, false, nat_le, refl, sym, ◌∙◌, ap, subst, arith, None}
use Rattle.std.specs.FinMap.{empty}
use Rattle.std.proofs.lemmas.Bool.{and_right}
use Rattle.im_base_types.specs.Changes.{Effect, apply_all, seen}
use Rattle.im_base_types.specs.Lives.{Shown, nothing_shown}
use Rattle.im_theory_log.specs.Copies.{GrowsByImages}
use Rattle.im_theory_log.specs.Histories.{Base, History, end_of}
use Rattle.im_theory_log.specs.Lawful.{IsLawful}
use Rattle.im_theory_log.specs.Transactions.{committed, to_undo}
use Rattle.im_theory_switch.specs.Switch.{base_after, switched as switched_writer}
use Rattle.im_theory_switch.proofs.Switch.{switches}
use Rattle.im_base_disk.specs.declared.disk.Disk.{Ghosts}
use Rattle.im_base_disk.specs.Disk.{Files}
use Rattle.im_base_disk.proofs.Runs.{started}
use Rattle.im_base_two_logs.specs.Renamed.{named}
use Rattle.im_base_two_logs.specs.Runs.{LeavesNamed}
use Rattle.im_base_two_logs.proofs.Runs.{unnamed}
use Rattle.im_page_file.specs.Stands.{IsCovered}
use Rattle.im_page_file.proofs.Standing.{stop_now}
use Rattle.im_page_writer.specs.declared.page_writer.PageWriter.{PageWriter}
use Rattle.im_page_writer.specs.PageWriter.{StandsAs}
use Rattle.im_page_writer.specs.Switching.{LeftSwitching, Switched}
use Rattle.im_theory_tree.specs.Theory.{page_tree}
use Rattle.im_base_txn.specs.declared.transaction.Transaction.{Transaction}
use Rattle.im_theory_machine.specs.Machine.{start}
use Rattle.im_theory_machine.specs.Table.{Table}
use Rattle.im_theory_machine.specs.View.{View}
use Rattle.im_theory_steps.specs.Growth.{AreBelow}
use Rattle.im_theory_steps.specs.Durable.{AreCommitted}
use Rattle.im_theory_steps.specs.Serving.{IsServing}
use Rattle.im_theory_steps.specs.Switching.{IsSwitched}
use Rattle.im_theory_steps.proofs.Cited.{commits_stand, switches_served, copies_are_images, images_change_nothing, images_keep, opened_serves, quiet_logs}
use Rattle.im_restart_analysis.specs.Losers.{is_loser}
use Rattle.im_restart_analysis.specs.Numbers.{IsNextNumber}
use Rattle.im_restart_analysis.specs.Orderly.{IsCounted}
use Rattle.im_restart.specs.Restart.{IsRestarted}
use Rattle.im_restart.specs.declared.restarted.Restarted.{Restarted}
use Rattle.im_engine.specs.declared.stepped.Under.{Under}
use Rattle.im_engine.specs.Aims.{IsChanging, under_of}
use Rattle.im_engine.specs.declared.engine.Engine.{Engine}
use Rattle.im_engine.specs.Restarting.{IsAtRest}
use Rattle.im_engine.specs.Running.{IsRunning, IsLife}
use Rattle.im_engine.specs.Stands.{Allowed, StandsFor}
use Rattle.im_engine.proofs.Named.{allowed_nameless}
use Rattle.im_engine.proofs.NamedRuns.{by_names, named_weakened}
use Rattle.im_engine.proofs.Reopened.{all_closed, all_over, leaves_logs, next_is_above, none_to_undo}
use Rattle.im_engine.proofs.Running.{stops_now}
use Rattle.im_engine.proofs.Stands.{covered_allowed}

-- nobody is left of a log of no record
none_loses : (t : ℕ) → is_loser t [] ≡ false
none_loses t = and_right (nat_le 1 t) false refl

-- a log that goes on begins with any page count
pub any_count : (b : Base) (place : ℕ) → 0 < place → IsCounted b place
any_count b place some first = absurd (omega (arith, some, first))

module _ {D : Type 0} (d : Ghosts D) (before : List Effect) where
  -- an engine that works, between two steps
  pub lives_on : {b : Base} (s : Shown) (v : View) (e : Engine D d) → e.failed ≡ false → IsRunning d b before s v e → IsLife d before s v e
  lives_on {b = b} s v e works r = record {
    stops = stops_now d before s v e r;
    failed = r.serving.works ∙ sym works;
    lived = record { shows = r.serving.shows; reached = r.serving.reached };
    running = λ _. (b, r);
  }

  -- after a restart all is undone
  pub rest_restarted : (old : D) (l : StandsFor before (d.seen old)) (lowest : ℕ) (r : Restarted) (new : D) → IsRestarted d l.b l.base l.log r new → IsNextNumber lowest r.next l.log → IsAtRest d before r.next r.writer new
  rest_restarted old l lowest r new is number =
      let left = leaves_logs l.log is.now.log is.grown in
      record {
        b = l.b;
        base = l.base;
        start = l.start;
        counted = l.counted;
        now = is.now;
        stands = is.stands;
        redo_end = is.redo_end;
        over = is.over;
        durable = is.durable;
        lawful = is.lawful;
        ended = is.ended;
        earlier = l.earlier;
        made = l.made;
        is = l.is ∙ sym (ap (λ es. l.earlier ++ seen es) left.committed);
        numbered = λ some le. left.below r.next some (next_is_above lowest r.next l.log number (omega (arith, le)));
      }

  module _ (next : ℕ) (w : PageWriter) (disk : D) (x : IsAtRest d before next w disk) where
    abbrev view : View
    view = start (apply_all empty before) next

    none_left : (t : ℕ) → to_undo t x.now.log ≡ []
    none_left = none_to_undo x.b x.now.log x.lawful x.ended

    pub serves : IsServing x.b x.earlier before nothing_shown view x.now.log [] next []
    serves = opened_serves x.b x.earlier before x.now.log next x.made (sym x.is) (all_over x.now.log x.ended) none_left (quiet_logs page_tree x.b x.now.log x.lawful none_left)

    -- ---- a stop

    commits : (high : History) → committed high ≡ committed x.now.log → AreCommitted x.earlier before [] x.now.durable high
    commits high same = commits_stand.begins x.earlier before x.now.durable high (ap (λ es. x.earlier ++ seen es) same ∙ sym x.is) (ap committed x.durable ∙ sym same)

    left_by : (high : History) → IsLawful x.b page_tree high → committed high ≡ committed x.now.log → (c : Files) → IsCovered x.b x.base x.now.durable high c → Allowed before nothing_shown c
    left_by high law same c is = covered_allowed x.b x.base x.earlier before nothing_shown x.now.durable high x.start x.counted x.made law (commits high same) c is

    -- one now
    pub rest_now : (c : Files) → d.may_leave disk c → Allowed before nothing_shown c
    rest_now c left = left_by x.now.log x.lawful refl c (stop_now d x.b x.base x.now w.log w.table disk x.stands.writing.stands c left)

    -- and where no call was made
    pub rest_stops : ((c : Files) → d.left_since disk (d.moment disk) c → d.may_leave disk c) → LeavesNamed d disk disk (Allowed before nothing_shown)
    rest_stops only_now = unnamed d (Allowed before nothing_shown) (allowed_nameless before nothing_shown) disk disk (started d disk (Allowed before nothing_shown) (λ told c left. rest_now c (only_now c left)))

    -- ---- the log goes on in the other file, once it has grown by Images

    module _ (high : History) (grows : GrowsByImages x.b x.now.log high) where
      lawful_on : IsLawful x.b page_tree high
      lawful_on = (copies_are_images page_tree x.b x.now.log high grows).lawful x.lawful

      same_on : committed high ≡ committed x.now.log
      same_on = (images_change_nothing x.b x.now.log high (copies_are_images page_tree x.b x.now.log high grows).images).0.commits

      whole_on : x.earlier ++ seen (committed high) ≡ before
      whole_on = ap (λ es. x.earlier ++ seen es) same_on ∙ sym x.is

      serves_on : IsServing x.b x.earlier before nothing_shown view high [] next []
      serves_on = images_keep x.b x.earlier before nothing_shown view x.now.log high [] next [] serves (copies_are_images page_tree x.b x.now.log high grows).images

      gone : (place : ℕ) → IsSwitched (base_after x.b high place) x.earlier before nothing_shown view high [] next []
      gone place = switches_served page_tree x.b (base_after x.b high place) x.earlier before nothing_shown view high [] next [] serves_on refl lawful_on refl

      empty_lawful : (place : ℕ) → end_of x.b high < place → IsLawful (base_after x.b high place) page_tree []
      empty_lawful place end = switches page_tree x.b high place lawful_on (gone place).finished (omega (arith, end))

      -- a stop within leaves the one log or the other
      left_either : (place : ℕ) → end_of x.b high < place → (c : Files) → IsCovered x.b x.base x.now.durable high c ⊎ IsCovered (base_after x.b high place) place [] [] c → Allowed before nothing_shown c
      left_either place end c (inl is) = left_by high lawful_on same_on c is
      left_either place end c (inr is) =
          let on = gone place in
          covered_allowed (base_after x.b high place) place (x.earlier ++ seen (committed high)) before nothing_shown [] [] (omega arith) (any_count (base_after x.b high place) place (omega (arith, end))) on.served.1.made
          (empty_lawful place end) on.commits c is

    pub switch_left : (new : D) → LeavesNamed d disk new (LeftSwitching x.b x.base x.now) → LeavesNamed d disk new (Allowed before nothing_shown)
    switch_left new leaves = named_weakened d disk new (LeftSwitching x.b x.base x.now) (Allowed before nothing_shown) leaves
        (λ told c left. by_names (Allowed before nothing_shown) (allowed_nameless before nothing_shown) left.swapped c (left_either left.high left.grows left.place left.end (named left.swapped c) left.covered))

    -- after it the store is at rest with the next log
    pub rest_switched : (v : PageWriter) (new : D) → Switched d x.b x.base x.now next v new → IsAtRest d before next v new
    rest_switched v new done =
        let longer = done.now.log in
        let grows = done.keeps.log in
        record {
          b = base_after x.b longer done.place;
          base = done.place;
          start = omega arith;
          counted = any_count (base_after x.b longer done.place) done.place (let end = done.end in omega (arith, end));
          now = switched_writer done.place done.now;
          stands = done.stands;
          redo_end = done.place;
          over = refl;
          durable = refl;
          lawful = empty_lawful longer grows done.place done.end;
          ended = none_loses;
          earlier = x.earlier ++ seen (committed longer);
          made = (gone longer grows done.place).served.1.made;
          is = sym (append-nil (x.earlier ++ seen (committed longer)) ∙ whole_on longer grows);
          numbered = λ some le. tt;
        }

  -- ---- the engine that it makes

  pub engine_opened : (e : Engine D d) (next : ℕ) (w : PageWriter) → IsAtRest d before next w e.disk → e.writer ≡ w → e.txns.rows ≡ [] → e.txns.next ≡ next → e.locks ≡ [] → e.failed ≡ false → e.under ≡ None → IsLife d before nothing_shown (start (apply_all empty before) e.txns.next) e
  engine_opened e next w x writer rows number locks works none =
      let v : View = start (apply_all empty before) e.txns.next in
      let counts : IsServing x.b x.earlier before nothing_shown v x.now.log [] e.txns.next [] =
      subst (λ (n : ℕ). IsServing x.b x.earlier before nothing_shown (start (apply_all empty before) n) x.now.log [] n []) (sym number) (serves next w e.disk x) in
      lives_on {b = x.b} nothing_shown v e works (record {
        base = x.base;
        start = x.start;
        counted = x.counted;
        earlier = x.earlier;
        now = x.now;
        stands = subst (λ (p : PageWriter). StandsAs d x.b x.base x.now p e.disk) (sym writer) x.stands;
        redo_end = x.redo_end;
        over = x.over;
        lawful = x.lawful;
        changing = subst (λ (u : Option Under). IsChanging x.b u x.now.log) (sym none) (all_closed x.b x.now.log x.lawful x.ended);
        serving =
            subst (λ (held : Table). IsServing x.b x.earlier before nothing_shown v x.now.log e.txns.rows e.txns.next held) (sym locks)
            (subst (λ (list : List Transaction). IsServing x.b x.earlier before nothing_shown v x.now.log list e.txns.next []) (sym rows) counts);
        commits = commits_stand.begins x.earlier before x.now.durable x.now.log (sym x.is) (ap committed x.durable);
        numbered = λ le. subst (λ (n : ℕ). AreBelow n x.now.log) (sym number) (x.numbered (subst (λ (n : ℕ). 1 ≤ n) number e.numbered) (subst (λ (n : ℕ). n ≤ 2 ^ 62) number le));
        same = ap under_of (sym none);
      })
