use Rattle.im_base_two_logs.proofs.Runs.{then_named, unnamed}
use Rattle.im_base_two_logs.proofs.nameless_facts.runs_go_on.Goals as goal

pub returns : goal.returns
returns g c = record {
  unnamed = unnamed g.D.Disk g.F.NamelessFact.holds g.F.NamelessFact.nameless;
  then_on = then_named g.D.Disk g.F.NamelessFact.holds g.F.NamelessFact.nameless;
}
