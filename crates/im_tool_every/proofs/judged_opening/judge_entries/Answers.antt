use Rattle.im_tool_every.proofs.judged_opening.judge_entries.Goals as goal

pub returns : goal.returns
returns c =
    let e = c.entries-found.ensures in
    record {
      found = c.entries-found.result;
      listing = record { outcome = e.outcome; kept = e.kept; entries = e.entries; never = e.never };
      verdict = c.in_ok-good.ensures;
    }
