use Rattle.std.proofs.Common.{◌≡◌, Option, Some, None, subst}
use Rattle.im_tool_lines.specs.SetFiles.{files_of}
use Rattle.im_tool_lines.specs.StoreReading.{IsStoreRead}
use Rattle.im_tool_lines.specs.declared.store_reading.OpenLife.{OpenLife}
use Rattle.im_tool_lines.proofs.ReadStoreLines.{begin_read, begin_more}
use Rattle.im_tool_lines.proofs.store_reading.StoreReading.begin_life.Goals as goal

pub returns-in_default-clause-read : goal.returns-in_default-clause-read
returns-in_default-clause-read c said r =
    let is : c.args.self.now.life ≡ None = cc in
    begin_read (files_of c.args.self.now.files) c.args.self.now.lives.items said (record { options = c.args.options; lines = c.new.result })
    (subst (λ (o : Option OpenLife). IsStoreRead (files_of c.args.self.now.files) c.args.self.now.lives.items o said) is r) c.new.ensures.items

pub returns-in-Ok-clause-read : goal.returns-in-Ok-clause-read
returns-in-Ok-clause-read c said r =
    let is : c.args.self.now.life ≡ Some c.in-Some.life = cc in
    begin_more (files_of c.args.self.now.files) c.args.self.now.lives.items c.in-Some.life (record { options = c.args.options; lines = c.new.result }) said c.push.new.self.items
    (subst (λ (o : Option OpenLife). IsStoreRead (files_of c.args.self.now.files) c.args.self.now.lives.items o said) is r) c.in-Ok.ensures.items c.new.ensures.items
