use Rattle.std.proofs.Common.{◌≡◌, [], ◌∷◌, ◌++◌, Option, Some, None, Vec, Global, sym, subst}
use Rattle.im_tool_lines.specs.SetFiles.{files_of}
use Rattle.im_tool_lines.specs.declared.raw_line.RawLine.{RawLine}
use Rattle.im_tool_lines.specs.Reading.{IsRead}
use Rattle.im_tool_lines.specs.declared.line.Line.TheVariants as lines
use Rattle.im_tool_lines.proofs.ReadLines.{stop_read}
use Rattle.im_tool_lines.proofs.script_reading.Reading.stop.Goals as goal

pub returns-clause-read : goal.returns-clause-read
returns-clause-read c said r =
    let is : c.args.self.now.life ≡ Some c.in-Some.lines = cc in
    let after : c.take.new.self ≡ None = cc in
    subst (λ (o : Option (Vec RawLine Global)). IsRead (files_of c.args.self.now.files) c.push.new.self.items o (said ++ lines.Stop c.args.stop ∷ [])) (sym after)
    (stop_read (files_of c.args.self.now.files) c.args.self.now.lives.items c.in-Some.lines said c.args.stop c.push.new.self.items
    (subst (λ (o : Option (Vec RawLine Global)). IsRead (files_of c.args.self.now.files) c.args.self.now.lives.items o said) is r) c.in-Ok.ensures.items)
