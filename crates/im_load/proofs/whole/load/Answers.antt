use Rattle.std.proofs.Common.{◌≡◌, ◌∙◌, ◌<◌, ℕ, inl, Ok, Err, List, [], length, take, sym, ap, subst, rules, arith, Option}
use Rattle.std.specs.Prelude.{IfSome}
use Rattle.std.proofs.lemmas.List.{take_all, get_or_default}
use Rattle.im_base_types.specs.Keys.{Key}
use Rattle.im_base_types.specs.Pages.{Entry}
use Rattle.im_base_disk.specs.Runs.{IsSynced, LeavesOnly}
use Rattle.im_theory_page.specs.Entry.{entry_at, no_entry}
use Rattle.im_load.specs.declared.loader.Loader.{Loader}
use Rattle.im_load.specs.Files.{AreEmpty, AreLeft, AreOfLoad}
use Rattle.im_load.specs.HasTaken.{IsLoading}
use Rattle.im_load.proofs.Faults.{passed_on, refused_there}
use Rattle.im_load.proofs.Wholes.{none_of, take_none, top_in, taken_more, nothing_left, half_left, whole_refused}
use Rattle.im_load.proofs.whole.load.Goals as goal

pub returns-in_err-loader-clause-stops : goal.returns-in_err-loader-clause-stops
returns-in_err-loader-clause-stops g c empty = nothing_left g.D.Disk c.args.disk.now c.begin.new.disk c.args.entries.now (g.met.D.Disk.only_now c.args.disk.now) c.begin.ensures.reads c.requires.synced empty

pub returns-in_err-loader-clause-outcome : goal.returns-in_err-loader-clause-outcome
returns-in_err-loader-clause-outcome g c = passed_on _ _ _ c.in_err-loader.field-0.0 c.from_residual.result c.from_residual.ensures.1 c.in_err-loader.ensures.outcome (λ memory. inl memory)

pub returns-in_default-clause-stops : goal.returns-in_default-clause-stops
returns-in_default-clause-stops g c empty = nothing_left g.D.Disk c.args.disk.now c.begin.new.disk c.args.entries.now (g.met.D.Disk.only_now c.args.disk.now) c.begin.ensures.reads c.requires.synced empty

pub returns-in_default-clause-not_empty : goal.returns-in_default-clause-not_empty
returns-in_default-clause-not_empty g c same told = c.in_ok-loader.ensures.none (ap Ok (none_of c.in_ok-loader.field-0 c.in_default.not-Some)) told

pub loop-key-init : goal.loop-key-init
loop-key-init g c =
    let begun : (g.D.Disk.tells → AreEmpty (g.D.Disk.seen c.begin.new.disk)) × (IsSynced g.D.Disk c.args.disk.now → IsLoading g.D.Disk c.args.disk.now c.in-Some.loader c.begin.new.disk []) =
    subst (λ (o : Option Loader). IfSome o (λ (l : Loader). (g.D.Disk.tells → AreEmpty (g.D.Disk.seen c.begin.new.disk)) × (IsSynced g.D.Disk c.args.disk.now → IsLoading g.D.Disk c.args.disk.now l c.begin.new.disk [])))
    c.in-Some.is c.in_ok-loader.ensures.begun in
    record {
      working = search rules;
      loading = subst (IsLoading g.D.Disk c.args.disk.now c.in-Some.loader c.begin.new.disk) (sym (take_none c.args.entries.now)) (begun.1 c.requires.synced);
    }

pub loop-key-preserved : goal.loop-key-preserved
loop-key-preserved g c =
    let es : List Entry = c.args.entries.now in
    let i : ℕ = c.loop-key.key-index in
    let within : i < length es = omega (arith, c.loop-key-test.true) in
    let e : Entry = (c.bytes.result.now, c.loop-key-item.result.1) in
    let is : e ≡ entry_at es i = ap (λ (k : Key). let x : Entry = (k, c.loop-key-item.result.1) in x) c.bytes.ensures.bytes ∙ c.loop-key-item.is ∙ get_or_default es i c.loop-key-item.result no_entry within in
    record {
      working = search rules;
      loading = taken_more g.D.Disk c.args.disk.now c.put.new.self c.put.new.disk es i e within is (c.in_ok-taken.ensures.taken c.args.disk.now (take i es) c.loop-key.invariant.loading (ap Ok c.if-not-taken.false)).1;
    }

pub returns-in_err-taken-clause-stops : goal.returns-in_err-taken-clause-stops
returns-in_err-taken-clause-stops g c empty =
    half_left g.D.Disk c.args.disk.now c.put.new.disk c.args.entries.now (c.put.ensures.stops c.args.disk.now (take c.loop-key.key-index c.args.entries.now) c.loop-key.invariant.loading)

pub returns-in_err-taken-clause-outcome : goal.returns-in_err-taken-clause-outcome
returns-in_err-taken-clause-outcome g c =
    let f = c.in_err-taken.field-0.0 in
    passed_on _ _ _ f c.from_residual-in_err-taken.result c.from_residual-in_err-taken.ensures.1 c.in_err-taken.ensures.outcome
    (λ so. whole_refused g.D.Disk c.args.disk.now c.loop-key.loader c.put.new.self c.loop-key.disk (take c.loop-key.key-index c.args.entries.now) c.bytes.result.now f c.loop-key.invariant.loading c.bytes.ensures.some c.bytes.ensures.short
    (λ none. c.in_err-taken.ensures.key_length.0 (ap Err none)) so)

pub returns-then-not-taken-clause-stops : goal.returns-then-not-taken-clause-stops
returns-then-not-taken-clause-stops g c empty =
    half_left g.D.Disk c.args.disk.now c.put.new.disk c.args.entries.now (c.put.ensures.stops c.args.disk.now (take c.loop-key.key-index c.args.entries.now) c.loop-key.invariant.loading)

pub returns-then-not-taken-clause-not_rising : goal.returns-then-not-taken-clause-not_rising
returns-then-not-taken-clause-not_rising g c same rises =
    let es : List Entry = c.args.entries.now in
    let i : ℕ = c.loop-key.key-index in
    let within : i < length es = omega (arith, c.loop-key-test.true) in
    let e : Entry = (c.bytes.result.now, c.loop-key-item.result.1) in
    let is : e ≡ entry_at es i = ap (λ (k : Key). let x : Entry = (k, c.loop-key-item.result.1) in x) c.bytes.ensures.bytes ∙ c.loop-key-item.is ∙ get_or_default es i c.loop-key-item.result no_entry within in
    c.in_ok-taken.ensures.falls c.args.disk.now (take i es) c.loop-key.invariant.loading (ap Ok c.if-not-taken.true) (top_in es i e rises within is)

pub returns-in_err-finish-clause-stops : goal.returns-in_err-finish-clause-stops
returns-in_err-finish-clause-stops g c empty =
    let es : List Entry = c.args.entries.now in
    subst (λ (xs : List Entry). LeavesOnly g.D.Disk c.args.disk.now c.finish.new.disk (AreLeft xs)) (take_all c.loop-key.key-index es (omega (arith, c.loop-key-test.false)))
    (c.finish.ensures.stops c.args.disk.now (take c.loop-key.key-index es) c.loop-key.invariant.loading)

pub returns-in_err-finish-clause-outcome : goal.returns-in_err-finish-clause-outcome
returns-in_err-finish-clause-outcome g c = refused_there _ _ c.in_err-finish.field-0.0 c.from_residual-in_err-finish.result c.from_residual-in_err-finish.ensures.1 c.in_err-finish.ensures.answers

pub returns-clause-stops : goal.returns-clause-stops
returns-clause-stops g c empty =
    let es : List Entry = c.args.entries.now in
    subst (λ (xs : List Entry). LeavesOnly g.D.Disk c.args.disk.now c.finish.new.disk (AreLeft xs)) (take_all c.loop-key.key-index es (omega (arith, c.loop-key-test.false)))
    (c.finish.ensures.stops c.args.disk.now (take c.loop-key.key-index es) c.loop-key.invariant.loading)

pub returns-clause-loaded : goal.returns-clause-loaded
returns-clause-loaded g c same told =
    let es : List Entry = c.args.entries.now in
    subst (λ (xs : List Entry). AreOfLoad xs (g.D.Disk.seen c.finish.new.disk)) (take_all c.loop-key.key-index es (omega (arith, c.loop-key-test.false)))
    (c.in_ok-finish.ensures.loaded c.args.disk.now (take c.loop-key.key-index es) c.loop-key.invariant.loading told)

pub returns-clause-synced : goal.returns-clause-synced
returns-clause-synced g c same = c.in_ok-finish.ensures.synced c.args.disk.now (take c.loop-key.key-index c.args.entries.now) c.loop-key.invariant.loading
