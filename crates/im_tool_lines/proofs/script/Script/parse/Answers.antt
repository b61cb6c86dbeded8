use Rattle.im_tool_lines.proofs.Spelled.{one_kind}
use Rattle.im_tool_lines.proofs.script.Script.parse.Goals as goal

pub read_lines-requires-clause-one_kind : goal.read_lines-requires-clause-one_kind
read_lines-requires-clause-one_kind c = one_kind

pub read_lines-requires-clause-stands : goal.read_lines-requires-clause-stands
read_lines-requires-clause-stands c reading said r = r.stand
