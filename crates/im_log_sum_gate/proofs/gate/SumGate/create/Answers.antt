use Rattle.std.proofs.Common.{ℕ, List, rules}
use Rattle.im_log_sum_gate.proofs.Gates.{new_clear, new_empty, new_ends, new_shut}
use Rattle.im_log_sum_gate.proofs.gate.SumGate.create.Goals as goal

pub returns-in_err-make_third-clause-any_moment : goal.returns-in_err-make_third-clause-any_moment
returns-in_err-make_third-clause-any_moment g c = c.make_third.ensures.any_moment c.requires.durable

pub returns-clause-any_moment : goal.returns-clause-any_moment
returns-clause-any_moment g c = c.make_third.ensures.any_moment c.requires.durable

pub returns-clause-ready : goal.returns-clause-ready
returns-clause-ready g c =
    let file : List ℕ = g.D.Disk.seen c.make_third.new.disk c.args.file in
    record {
      log = c.requires.log;
      working = search rules;
      ends = λ works told. new_ends c.args.header file c.requires.may (c.in_ok-make_third.ensures.made told);
      shut = λ works is told. new_shut c.args.header file c.requires.may (c.in_ok-make_third.ensures.made told);
      opened = search rules;
      clear = λ works told. new_clear c.args.header file c.requires.may (c.in_ok-make_third.ensures.made told);
      durable = λ works. c.in_ok-make_third.ensures.durable;
    }

pub returns-clause-empty : goal.returns-clause-empty
returns-clause-empty g c told = new_empty c.args.header (g.D.Disk.seen c.make_third.new.disk c.args.file) c.requires.may (c.in_ok-make_third.ensures.made told)
