use Rattle.std.proofs.Common.{◌≡◌, Option, Some, None, Vec, Global, subst}
use Rattle.im_tool_lines.specs.SetFiles.{files_of}
use Rattle.im_tool_lines.specs.declared.raw_line.RawLine.{RawLine}
use Rattle.im_tool_lines.specs.Reading.{IsRead}
use Rattle.im_tool_lines.proofs.ReadLines.{begin_read, begin_more}
use Rattle.im_tool_lines.proofs.script_reading.Reading.begin_life.Goals as goal

pub returns-in_default-clause-read : goal.returns-in_default-clause-read
returns-in_default-clause-read c said r =
    let is : c.args.self.now.life ≡ None = cc in
    begin_read (files_of c.args.self.now.files) c.args.self.now.lives.items said c.new-empty.result
    (subst (λ (o : Option (Vec RawLine Global)). IsRead (files_of c.args.self.now.files) c.args.self.now.lives.items o said) is r) c.new-empty.ensures.items

pub returns-in-Ok-clause-read : goal.returns-in-Ok-clause-read
returns-in-Ok-clause-read c said r =
    let is : c.args.self.now.life ≡ Some c.in-Some.lines = cc in
    begin_more (files_of c.args.self.now.files) c.args.self.now.lives.items c.in-Some.lines c.new-empty.result said c.push.new.self.items
    (subst (λ (o : Option (Vec RawLine Global)). IsRead (files_of c.args.self.now.files) c.args.self.now.lives.items o said) is r) c.in-Ok.ensures.items c.new-empty.ensures.items
