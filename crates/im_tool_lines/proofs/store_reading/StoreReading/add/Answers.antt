use Rattle.std.proofs.Common.{◌≡◌, Option, Some, refl, subst}
use Rattle.im_tool_lines.specs.SetFiles.{files_of}
use Rattle.im_tool_lines.specs.StoreReading.{IsStoreRead}
use Rattle.im_tool_lines.specs.declared.store_reading.OpenLife.{OpenLife}
use Rattle.im_tool_lines.proofs.ReadStoreLines.{add_read}
use Rattle.im_tool_lines.proofs.store_reading.StoreReading.add.Goals as goal

pub returns-in-Ok-clause-read : goal.returns-in-Ok-clause-read
returns-in-Ok-clause-read c said r =
    let is : c.args.self.now.life ≡ Some c.in-Some.life = cc in
    add_read (files_of c.args.self.now.files) c.args.self.now.lives.items c.in-Some.life (record { options = c.in-Some.life.options; lines = c.push.new.self }) said c.args.line
    (subst (λ (o : Option OpenLife). IsStoreRead (files_of c.args.self.now.files) c.args.self.now.lives.items o said) is r) refl c.in-Ok.ensures.items
