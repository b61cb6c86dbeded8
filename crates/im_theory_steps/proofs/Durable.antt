-- What a stop leaves of the Commits of a life.
use Rattle.std.proofs.Common.{◌≡◌, ◌≢◌, inl, ℕ, Bool, true, false, List, [], ◌∷◌, ◌++◌, length, refl, sym, ap, subst, ◌∙◌, append_assoc, append-nil, ne_eqb}
use Rattle.std.specs.Prelude.{find, if◌then◌else◌, ◌==◌, ◌||◌}
use Rattle.std.specs.FinMap.{empty}
use Rattle.im_base_types.specs.Maps.{IndexMap}
use Rattle.im_base_types.specs.Changes.{Effect, apply_all, seen, seen_effect}
use Rattle.im_theory_log.specs.Tree.{Tree}
use Rattle.im_theory_log.specs.Histories.{Base, History}
use Rattle.im_theory_log.specs.Transactions.{committed, net}
use Rattle.im_theory_log.specs.Writer.{IsLeft}
use Rattle.im_base_types.specs.Answers.{Mark, Idle, Going, Committing, Step, Begin, Do, Commit, Rollback, Continue, RollTo, FlushPage, Force, Checkpoint, Switch}
use Rattle.im_base_types.specs.Refusals.{memory, unfinished}
use Rattle.im_base_types.specs.Lives.{Asked, Shown, NoneAcked, all_acked, asks, breaks, cut_off, effects, effect_asked}
use Rattle.im_base_types.proofs.Changes.{seen_append}
use Rattle.im_theory_log.proofs.Fronts.{committed_front, fronts_lawful}
use Rattle.im_base_txn.specs.declared.transaction.Transaction.{Transaction}
use Rattle.im_base_txn.specs.Rows.{is_of}
use Rattle.im_theory_machine.specs.Locks.{Lock, SameLocks}
use Rattle.im_theory_machine.specs.Table.{Table, locks_of}
use Rattle.im_theory_machine.specs.View.{View, kept_lock, Txn, idle, is_among, nets_of}
use Rattle.im_theory_machine.proofs.Cited.{among_one, isolates, nothing_goes_on, queue_marks, unowned_clear}
use Rattle.im_theory_machine.specs.Machine.{start}
use Rattle.im_theory_steps.specs.Serving.{IsServing, IsAt, mark_of}
use Rattle.im_theory_steps.specs.Durable.{AreCommitted, StopsAllow, CommitsStand, CutCommitsStand, OthersAskNothing, QuietLivesSettle, Settled}
use Rattle.im_theory_steps.specs.Acknowledged.{AllAcked}
use Rattle.im_theory_steps.proofs.Asking.{effects_append, effects_acked}
use Rattle.im_theory_steps.proofs.Acknowledged.{no_effects, unacked_none}
use Rattle.im_theory_steps.proofs.Showing.{shown_is, effect_shown}
use Rattle.im_theory_steps.proofs.Holding.{kept_none}
use Rattle.im_base_txn.specs.declared.transaction.Mark.TheVariants.{Going as RowGoing}
use Rattle.im_theory_steps.proofs.Rows.{some_stand}
use Rattle.im_theory_steps.proofs.Steps.{at, mark_free, new_by, map_made}

-- all but the first
abbrev rest_of : List Effect → List Effect
rest_of [] = []
rest_of (e ∷ es) = es

abbrev first_or : Effect → List Effect → Effect
first_or none [] = none
first_or none (e ∷ es) = e

-- equal after the same front
behind_same : (es xs ys : List Effect) → es ++ xs ≡ es ++ ys → xs ≡ ys
behind_same [] xs ys is = is
behind_same (e ∷ es) xs ys is = behind_same es xs ys (ap rest_of is)

-- asked effects, cut after the first of them
record IsCut (xs : List Effect) (rest : List Asked) : Type 0 where
  kept : List Asked
  lost : List Asked
  all : kept ++ lost ≡ rest
  is : effects kept ≡ xs
  none : NoneAcked lost

cut : (xs ys : List Effect) (rest : List Asked) → xs ++ ys ≡ effects rest → NoneAcked rest → IsCut xs rest
cut [] ys rest is none = record { kept = []; lost = rest; all = refl; is = refl; none = none }
cut (x ∷ xs) ys [] is none = absurd (cc is)
cut (x ∷ xs) ys (r ∷ rest) is none =
    let left = cut xs ys rest (ap rest_of is) none.1 in
    record {
      kept = r ∷ left.kept;
      lost = left.lost;
      all = ap (λ (l : List Asked). r ∷ l) left.all;
      is = ap (λ (l : List Effect). r.effect ∷ l) left.is ∙ ap (λ (e : Effect). e ∷ xs) (sym (ap (λ (l : List Effect). first_or x l) is));
      none = left.none;
    }

-- what is left of the asked effects, where a front of the log is
record IsKept (earlier before : List Effect) (asked : List Asked) (left : History) : Type 0 where
  kept : List Asked
  lost : List Asked
  all : kept ++ lost ≡ asked
  none : NoneAcked lost
  is : earlier ++ seen (committed left) ≡ before ++ effects kept

kept_in : (earlier before : List Effect) (asked : List Asked) (durable log left : History) → AreCommitted earlier before asked durable log → IsLeft durable log left → IsKept earlier before asked left
kept_in earlier before asked durable log left are stop =
    let from = committed_front stop.from.newer durable in
    let upto = committed_front stop.upto.newer left in
    let begun : committed durable ++ from.0 ≡ committed left = from.1 ∙ ap committed stop.from.is in
    let ends : committed left ++ upto.0 ≡ committed log = upto.1 ∙ ap committed stop.upto.is in
    let here : earlier ++ seen (committed left) ≡ before ++ (effects are.front ++ seen from.0) =
    ap (λ (es : List Effect). earlier ++ seen es) (sym begun)
    ∙ ap (λ (es : List Effect). earlier ++ es) (seen_append (committed durable) from.0)
    ∙ sym (append_assoc earlier (seen (committed durable)) (seen from.0))
    ∙ ap (λ (es : List Effect). es ++ seen from.0) are.forced
    ∙ append_assoc before (effects are.front) (seen from.0) in
    let whole : before ++ (effects are.front ++ (seen from.0 ++ seen upto.0)) ≡ before ++ (effects are.front ++ effects are.rest) =
    ap (λ (es : List Effect). before ++ es) (sym (append_assoc (effects are.front) (seen from.0) (seen upto.0)))
    ∙ sym (append_assoc before (effects are.front ++ seen from.0) (seen upto.0))
    ∙ ap (λ (es : List Effect). es ++ seen upto.0) (sym here)
    ∙ append_assoc earlier (seen (committed left)) (seen upto.0)
    ∙ ap (λ (es : List Effect). earlier ++ es) (sym (seen_append (committed left) upto.0))
    ∙ ap (λ (es : List Effect). earlier ++ seen es) ends
    ∙ are.whole
    ∙ ap (λ (a : List Asked). before ++ effects a) (sym are.all)
    ∙ ap (λ (es : List Effect). before ++ es) (effects_append are.front are.rest) in
    let rest = behind_same (effects are.front) (seen from.0 ++ seen upto.0) (effects are.rest)
    (behind_same before (effects are.front ++ (seen from.0 ++ seen upto.0)) (effects are.front ++ effects are.rest) whole) in
    let c = cut (seen from.0) (seen upto.0) are.rest rest are.waiting in
    record {
      kept = are.front ++ c.kept;
      lost = c.lost;
      all = append_assoc are.front c.kept c.lost ∙ ap (λ (a : List Asked). are.front ++ a) c.all ∙ are.all;
      none = c.none;
      is = here ∙ ap (λ (es : List Effect). before ++ (effects are.front ++ es)) (sym c.is) ∙ ap (λ (es : List Effect). before ++ es) (sym (effects_append are.front c.kept));
    }

pub stops_allow : (tree : Tree) → StopsAllow tree
stops_allow tree b earlier before asked durable log left law are stop =
    let k = kept_in earlier before asked durable log left are stop in
    record {
      lawful = fronts_lawful b tree left log stop.upto law;
      after = before ++ effects k.kept;
      survives = record { kept = k.kept; lost = k.lost; all = k.all; no_ack_lost = k.none; is = refl };
      is = sym k.is;
    }

-- ---- from call to call

waits_more : (xs ys : List Asked) → NoneAcked xs → NoneAcked ys → NoneAcked (xs ++ ys)
waits_more [] ys one two = two
waits_more (x ∷ xs) ys one two = (one.0, waits_more xs ys one.1 two)

pub commits_stand : CommitsStand
commits_stand = record {
  begins = λ earlier before durable log is same. record {
    front = [];
    rest = [];
    all = refl;
    waiting = tt;
    forced = ap (λ (es : List Effect). earlier ++ seen es) same ∙ is ∙ sym (append-nil before);
    whole = is ∙ sym (append-nil before);
  };
  stay = λ earlier before asked durable log longer are same. record {
    front = are.front;
    rest = are.rest;
    all = are.all;
    waiting = are.waiting;
    forced = are.forced;
    whole = ap (λ (es : List Effect). earlier ++ seen es) same ∙ are.whole;
  };
  more = λ earlier before asked durable log newer are stop.
      let k = kept_in earlier before asked durable log newer are stop in
      record { front = k.kept; rest = k.lost; all = k.all; waiting = k.none; forced = k.is; whole = are.whole };
  all = λ earlier before asked log is. record { front = asked; rest = []; all = append-nil asked; waiting = tt; forced = is; whole = is };
  acked = λ earlier before asked durable log are.
      let is : earlier ++ seen (committed log) ≡ before ++ effects (all_acked asked) = are.whole ∙ ap (λ (es : List Effect). before ++ es) (sym (effects_acked asked)) in
      record { front = all_acked asked; rest = []; all = append-nil (all_acked asked); waiting = tt; forced = is; whole = is };
  lost = λ before after asked more s none. record {
    kept = s.kept;
    lost = s.lost ++ more;
    all = sym (append_assoc s.kept s.lost more) ∙ ap (λ (l : List Asked). l ++ more) s.all;
    no_ack_lost = waits_more s.lost more s.no_ack_lost none;
    is = s.is;
  };
}

-- ---- what a Commit asks

asked_one : (t : ℕ) (e : Effect) → e ≢ [] → effects (effect_asked t false Going e) ≡ e ∷ []
asked_one t [] some = absurd (some refl)
asked_one t (c ∷ cs) some = refl

seen_some : (e : Effect) → e ≢ [] → seen_effect e ≢ []
seen_some [] some = absurd (some refl)
seen_some (c ∷ cs) some = λ e. cc

cut_asks : (s : Shown) (t : ℕ) → s.failed ≡ false → (cut_off (Commit t) s).asked ≡ s.asked ++ effect_asked t false (s.running t).mark (s.running t).effect
cut_asks s t works = ap (λ (b : Bool). (if b then s else asks t false s).asked) works

pub cut_commits_stand : CutCommitsStand
cut_commits_stand b earlier before s v older longer durable rows next held t row h found mark some free on are =
    let is = at b earlier before s v older rows next held h t row found (mark_free row.mark RowGoing mark (λ x. cc x)) in
    let going : (v.txns t).mark ≡ Going = is.2 ∙ ap mark_of mark in
    let net_some : net t older ≢ [] = some_stand t next older row is.0 is.1 some in
    let effect_is : (s.running t).effect ≡ seen_effect (net t older) = effect_shown s v h.shows.shown t (unowned_clear v.under t free) (inl going) ∙ ap seen_effect (h.seen_by.nets t (new_by b earlier before s v older rows next held h t Going going (λ x. cc x))) in
    let more = effect_asked t false (s.running t).mark (s.running t).effect in
    let adds : effects more ≡ seen_effect (net t older) ∷ [] =
    ap (λ (m : Mark). effects (effect_asked t false m (s.running t).effect)) (shown_is ((s.running t).mark) ((v.txns t).mark) Going (h.shows.shown.marks t) going (λ x. cc x))
    ∙ ap (λ (e : Effect). effects (effect_asked t false Going e)) effect_is ∙ asked_one t (seen_effect (net t older)) (seen_some (net t older) net_some) in
    let now : (cut_off (Commit t) s).asked ≡ s.asked ++ more = cut_asks s t (h.shows.shown.failed ∙ h.works) in
    record {
      front = are.front;
      rest = are.rest ++ more;
      all = sym (append_assoc are.front are.rest more) ∙ ap (λ (l : List Asked). l ++ more) are.all ∙ sym now;
      waiting = waits_more are.rest more are.waiting (unacked_none t (s.running t).mark (s.running t).effect);
      forced = are.forced;
      whole = ap (λ (es : List Effect). earlier ++ seen es) on.commits
          ∙ ap (λ (es : List Effect). earlier ++ es) (seen_append (committed older) (net t older ∷ []))
          ∙ sym (append_assoc earlier (seen (committed older)) (seen_effect (net t older) ∷ []))
          ∙ ap (λ (l : List Effect). l ++ seen_effect (net t older) ∷ []) are.whole
          ∙ append_assoc before (effects s.asked) (seen_effect (net t older) ∷ [])
          ∙ ap (λ (l : List Effect). before ++ (effects s.asked ++ l)) (sym adds)
          ∙ ap (λ (l : List Effect). before ++ l) (sym (effects_append s.asked more))
          ∙ ap (λ (l : List Asked). before ++ effects l) (sym now);
    }

cut_other : (s : Shown) (step : Step) → ((t : ℕ) → step ≡ Commit t → ⊥) → (cut_off step s).asked ≡ s.asked
cut_other s (Commit t) other = absurd (other t refl)
cut_other s Begin other = refl
cut_other s (Do t a) other = refl
cut_other s (Rollback t) other = refl
cut_other s (Continue t) other = refl
cut_other s (RollTo t n) other = refl
cut_other s (FlushPage p) other = refl
cut_other s Force other = refl
cut_other s Checkpoint other = refl
cut_other s Switch other = refl

either_failed : (s : Shown) (t fault : ℕ) (failed : Bool) → (if failed || false || false then s else record (asks t false s) { failed = breaks fault }).asked ≡ (if failed then s else asks t false s).asked
either_failed s t fault true = refl
either_failed s t fault false = refl

more_asked : (s : Shown) (t : ℕ) (failed : Bool) → (more : List Asked) × NoneAcked more × ((if failed then s else asks t false s).asked ≡ s.asked ++ more)
more_asked s t true = ([], tt, sym (append-nil s.asked))
more_asked s t false = (effect_asked t false (s.running t).mark (s.running t).effect, unacked_none t (s.running t).mark (s.running t).effect, refl)

pub others_ask_nothing : OthersAskNothing
others_ask_nothing = record {
  cut = cut_other;
  refused = λ s t fault not_memory not_unfinished.
      ap (λ (x : Bool). (if s.failed || x || fault == unfinished then s else record (asks t false s) { failed = breaks fault }).asked) (ne_eqb fault memory not_memory)
      ∙ ap (λ (x : Bool). (if s.failed || false || x then s else record (asks t false s) { failed = breaks fault }).asked) (ne_eqb fault unfinished not_unfinished)
      ∙ either_failed s t fault s.failed;
  more = λ s t. more_asked s t s.failed;
}

-- ---- a quiet store

none_waits : (front rest : List Asked) → AllAcked (front ++ rest) → NoneAcked rest → rest ≡ []
none_waits [] [] all none = refl
none_waits [] (x ∷ rest) all none = absurd (let clash : true ≡ false = sym all.0 ∙ none.0 in cc clash)
none_waits (x ∷ front) rest all none = none_waits front rest all.1 none

pub empty_queue : (queue : List ℕ) → ((t : ℕ) → is_among t queue ≡ true → ⊥) → queue ≡ []
empty_queue [] none = refl
empty_queue (t ∷ ts) none = absurd (none t (among_one t t ts refl))

pub no_rows : (rows : List Transaction) → length rows ≡ 0 → rows ≡ []
no_rows [] is = refl
no_rows (row ∷ rows) is = absurd (cc is)

module _ (b : Base) (earlier before : List Effect) (s : Shown) (v : View) (durable log : History) (rows : List Transaction) (next : ℕ) (held : Table) (h : IsServing b earlier before s v log rows next held) (are : AreCommitted earlier before s.asked durable log) (none : v.active ≡ 0) where
  abbrev all : List Effect
  all = before ++ effects s.asked

  is_idle : (t : ℕ) → v.txns t ≡ idle
  is_idle t = (subst (λ (l : List Transaction). IsAt t (find (is_of t) l) next log (v.txns t)) (no_rows rows (sym h.table.active ∙ none)) (h.table.each t)).2

  no_queue : v.queue ≡ []
  no_queue = empty_queue v.queue (λ t some.
      let waits : (v.txns t).mark ≡ Committing = (queue_marks _ v h.reached).waits t some in
      let never : Committing ≡ Idle = sym waits ∙ ap (λ (x : Txn). x.mark) (is_idle t) in cc never)

  acked : AllAcked s.asked
  acked =
      let c = h.shows.clean h.works in
      let gone : c.waiting ≡ [] = no_effects c.waiting (c.are ∙ ap seen (ap (nets_of v.txns) no_queue)) in
      subst AllAcked (sym (append-nil c.done) ∙ ap (λ (l : List Asked). c.done ++ l) (sym gone) ∙ c.all) c.acked

  -- of the asked effects none is lost
  whole : (kept lost : List Asked) → kept ++ lost ≡ s.asked → NoneAcked lost → effects kept ≡ effects s.asked
  whole kept lost is waits =
      let gone : lost ≡ [] = none_waits kept lost (subst AllAcked (sym is) acked) waits in
      ap effects (sym (append-nil kept) ∙ ap (λ (l : List Asked). kept ++ l) (sym gone) ∙ is)

  finished_is : committed log ≡ h.seen_by.finished
  finished_is = h.seen_by.all ∙ ap (λ (es : List Effect). h.seen_by.finished ++ es) (ap (nets_of v.txns) no_queue) ∙ append-nil h.seen_by.finished

  map_is : v.committed ≡ apply_all empty all
  map_is = h.seen_by.answered ∙ ap (apply_all b.map) (sym finished_is) ∙ sym (map_made b earlier all log h.made h.says)

  walk_is : v.walk ≡ v.committed
  walk_is = (isolates (apply_all empty before) h.reached.first).quiet h.reached.trace v h.reached.run (λ t. ap (λ (x : Txn). x.net) (is_idle t))

  pub settled : Settled b earlier before s v durable log rows next held
  settled = record {
    committed = map_is;
    serving = record {
      made = h.made;
      works = refl;
      seen_by = record {
        finished = h.seen_by.finished;
        all = finished_is ∙ sym (append-nil h.seen_by.finished);
        answered = h.seen_by.answered;
        walk = sym walk_is ∙ h.seen_by.walk;
        nets = λ t none. sym (ap (λ (x : Txn). x.net) (is_idle t)) ∙ h.seen_by.nets t (ap (is_among t) no_queue);
        over = λ t some. absurd (cc some);
      };
      shows = record { shown = record { failed = refl; marks = λ t. inl refl; pending = λ t. refl; effects = λ t may. refl; returns = λ t n is. absurd (cc is) }; commits = map_is; clean = λ q. record { done = []; waiting = []; all = refl; acked = tt; none = tt; are = refl } };
      reached = record { trace = []; first = v.next; run = ap (λ (m : IndexMap). start m v.next) map_is };
      says = h.says ∙ sym (append-nil all);
      table = record {
        each = λ t. subst (λ (x : Txn). IsAt t (find (is_of t) rows) next log x) (is_idle t) (h.table.each t);
        active = sym none ∙ h.table.active;
        numbers = h.table.numbers;
      };
      locks = record {
        lasting = λ t. sym (ap (λ (x : Txn). x.locks) (is_idle t)) ∙ h.locks.lasting t;
        held = λ t.
            let keeps : kept_lock v.under v.walk t ≡ [] =
            kept_none v.under v.walk t (nothing_goes_on (apply_all empty before) v h.reached t (λ going. let never : Going ≡ Idle = sym going ∙ ap (λ (x : Txn). x.mark) (is_idle t) in cc never)) in
            subst (λ (ls : List Lock). SameLocks ls (locks_of held t)) (ap (λ (ks : List Lock). ks ++ (v.txns t).locks) keeps ∙ ap (λ (x : Txn). x.locks) (is_idle t)) (h.locks.held t);
      };
    };
    commits = record {
      front = [];
      rest = [];
      all = refl;
      waiting = tt;
      forced = are.forced ∙ ap (λ (es : List Effect). before ++ es) (whole are.front are.rest are.all are.waiting) ∙ sym (append-nil all);
      whole = are.whole ∙ sym (append-nil all);
    };
    stops = λ after left. record {
      kept = [];
      lost = [];
      all = refl;
      no_ack_lost = tt;
      is = left.is ∙ ap (λ (es : List Effect). before ++ es) (whole left.kept left.lost left.all left.no_ack_lost) ∙ sym (append-nil all);
    };
  }

pub quiet_lives_settle : QuietLivesSettle
quiet_lives_settle b earlier before s v durable log rows next held h are none = settled b earlier before s v durable log rows next held h are none
