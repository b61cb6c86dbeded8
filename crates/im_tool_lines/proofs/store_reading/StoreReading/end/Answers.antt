use Rattle.std.proofs.Common.{◌≡◌, Option, Some, refl, subst}
use Rattle.im_tool_lines.specs.SetFiles.{files_of}
use Rattle.im_tool_lines.specs.StoreReading.{IsStoreRead}
use Rattle.im_tool_lines.specs.declared.store_reading.OpenLife.{OpenLife}
use Rattle.im_tool_lines.proofs.ReadStoreLines.{end_more}
use Rattle.im_tool_lines.proofs.store_reading.StoreReading.end.Goals as goal

pub returns-in-Ok-clause-read : goal.returns-in-Ok-clause-read
returns-in-Ok-clause-read c said r =
    let is : c.args.self.life ≡ Some c.in-Some.life = cc in
    end_more (record { log = c.args.self.files.log; pages = c.args.self.files.pages; log2 = c.args.self.files.log2; lives = c.push.new.self }) (files_of c.args.self.files) c.args.self.lives.items c.in-Some.life said refl c.in-Ok.ensures.items
    (subst (λ (o : Option OpenLife). IsStoreRead (files_of c.args.self.files) c.args.self.lives.items o said) is r)
