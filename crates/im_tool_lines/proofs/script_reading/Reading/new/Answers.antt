use Rattle.im_tool_lines.specs.SetFiles.{files_of}
use Rattle.im_tool_lines.proofs.ReadLines.{none_read}
use Rattle.im_tool_lines.proofs.script_reading.Reading.new.Goals as goal

pub returns : goal.returns
returns c = none_read (files_of c.new-files.result) c.new-lives.result.items c.new-files.ensures c.new-lives.ensures.items
