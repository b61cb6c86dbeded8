use Rattle.std.proofs.Common.{◌≡◌, Option, Some, None, Vec, Global, refl, subst}
use Rattle.im_tool_lines.specs.SetFiles.{files_of}
use Rattle.im_tool_lines.specs.declared.raw_line.RawLine.{RawLine}
use Rattle.im_tool_lines.specs.Reading.{IsRead}
use Rattle.im_tool_lines.proofs.ReadLines.{end_read, end_more}
use Rattle.im_tool_lines.proofs.script_reading.Reading.end.Goals as goal

pub returns-in_default-clause-read : goal.returns-in_default-clause-read
returns-in_default-clause-read c said r =
    let is : c.args.self.life ≡ None = cc in
    end_read (record { log = c.args.self.files.log; pages = c.args.self.files.pages; log2 = c.args.self.files.log2; lives = c.args.self.lives }) said (subst (λ (o : Option (Vec RawLine Global)). IsRead (files_of c.args.self.files) c.args.self.lives.items o said) is r)

pub returns-in-Ok-clause-read : goal.returns-in-Ok-clause-read
returns-in-Ok-clause-read c said r =
    let is : c.args.self.life ≡ Some c.in-Some.lines = cc in
    end_more (record { log = c.args.self.files.log; pages = c.args.self.files.pages; log2 = c.args.self.files.log2; lives = c.push.new.self }) (files_of c.args.self.files) c.args.self.lives.items c.in-Some.lines said refl c.in-Ok.ensures.items
    (subst (λ (o : Option (Vec RawLine Global)). IsRead (files_of c.args.self.files) c.args.self.lives.items o said) is r)
