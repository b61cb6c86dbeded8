use Rattle.std.proofs.Common.{◌≡◌, [], ◌∷◌, ◌++◌, None, sym, subst, arith}
use Rattle.std.proofs.lemmas.Grind.{common_steps}
use Rattle.im_base_disk.specs.Disk.{Files}
use Rattle.im_tool_lines.specs.SetFiles.{files_of}
use Rattle.im_tool_lines.specs.declared.line.Line.TheVariants as lines
use Rattle.im_tool_lines.specs.Reading.{IsRead}
use Rattle.im_tool_lines.proofs.ReadLines.{set_read}
use Rattle.im_tool_lines.proofs.script_reading.Reading.set_file.Goals as goal

pub returns-clause-read : goal.returns-clause-read
returns-clause-read c said r =
    let none : c.args.self.now.lives.items ≡ [] = grind (arith, common_steps) in
    let closed : c.args.self.now.life ≡ None = grind (arith, common_steps) in
    subst (λ (f : Files). IsRead f c.args.self.now.lives.items c.args.self.now.life (said ++ lines.Set c.args.file c.args.bytes ∷ [])) (sym c.set.ensures)
    (set_read (files_of c.args.self.now.files) c.args.self.now.lives.items c.args.self.now.life said c.args.file c.args.bytes r none closed)
