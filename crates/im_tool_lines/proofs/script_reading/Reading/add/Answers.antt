use Rattle.std.proofs.Common.{◌≡◌, Option, Some, Vec, Global, subst}
use Rattle.im_tool_lines.specs.SetFiles.{files_of}
use Rattle.im_tool_lines.specs.declared.raw_line.RawLine.{RawLine}
use Rattle.im_tool_lines.specs.Reading.{IsRead}
use Rattle.im_tool_lines.proofs.ReadLines.{add_read}
use Rattle.im_tool_lines.proofs.script_reading.Reading.add.Goals as goal

pub returns-in-Ok-clause-read : goal.returns-in-Ok-clause-read
returns-in-Ok-clause-read c said r =
    let is : c.args.self.now.life ≡ Some c.in-Some.lines = cc in
    add_read (files_of c.args.self.now.files) c.args.self.now.lives.items c.in-Some.lines c.push.new.self said c.args.line
    (subst (λ (o : Option (Vec RawLine Global)). IsRead (files_of c.args.self.now.files) c.args.self.now.lives.items o said) is r) c.in-Ok.ensures.items
