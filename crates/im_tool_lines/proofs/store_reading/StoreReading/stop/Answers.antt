use Rattle.std.proofs.Common.{◌≡◌, [], ◌∷◌, ◌++◌, Option, Some, None, sym, subst}
use Rattle.im_tool_lines.specs.SetFiles.{files_of}
use Rattle.im_tool_lines.specs.StoreReading.{IsStoreRead}
use Rattle.im_tool_lines.specs.declared.store_reading.OpenLife.{OpenLife}
use Rattle.im_tool_lines.specs.declared.store_script_line.StoreScriptLine.TheVariants as lines
use Rattle.im_tool_lines.proofs.ReadStoreLines.{stop_read}
use Rattle.im_tool_lines.proofs.store_reading.StoreReading.stop.Goals as goal

pub returns-clause-read : goal.returns-clause-read
returns-clause-read c said r =
    let is : c.args.self.now.life ≡ Some c.in-Some.life = cc in
    let after : c.take.new.self ≡ None = cc in
    subst (λ (o : Option OpenLife). IsStoreRead (files_of c.args.self.now.files) c.push.new.self.items o (said ++ lines.Stop c.args.stop ∷ [])) (sym after)
    (stop_read (files_of c.args.self.now.files) c.args.self.now.lives.items c.in-Some.life said c.args.stop c.push.new.self.items
    (subst (λ (o : Option OpenLife). IsStoreRead (files_of c.args.self.now.files) c.args.self.now.lives.items o said) is r) c.in-Ok.ensures.items)
