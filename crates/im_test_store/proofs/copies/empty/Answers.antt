use Rattle.std.proofs.Common.{◌≡◌, [], List, ℕ, refl, ap, ◌∙◌}
use Rattle.im_base_types.specs.declared.file_id.FileId.{FileId}
use Rattle.im_base_types.specs.declared.file_id.FileId.TheVariants.{Log, Pages, Log2}
use Rattle.im_base_disk.specs.Disk.{Files, both, three}
use Rattle.im_base_model_disk.specs.declared.model_disk.ModelDisk.{ModelDisk}
use Rattle.im_base_model_disk.specs.contracts.model_disk.ModelDiskDisk.TheImpl as model
use Rattle.im_base_two_logs.specs.Renamed.{file_named}
use Rattle.im_test_store.proofs.copies.empty.Goals as goal

none : (file : FileId) → three [] [] [] file ≡ []
none Log = refl
none Pages = refl
none Log2 = refl

pub returns-clause-empty : goal.returns-clause-empty
returns-clause-empty c file =
    let logs : both c.new.result.items c.new-2.result.items ≡ both [] c.new-2.result.items = ap (λ (l : List ℕ). both l c.new-2.result.items) c.new.ensures.items in
    let pages : both [] c.new-2.result.items ≡ both [] [] = ap (λ (l : List ℕ). both [] l) c.new-2.ensures.items in
    let seen : model.ghosts.seen c.new-3.result.disk ≡ both [] [] = ap (λ (d : ModelDisk). model.ghosts.seen d) c.new-3.ensures.disk ∙ c.new-disk.ensures.seen ∙ logs ∙ pages in
    ap (λ (f : Files). f (file_named c.new-3.result.swapped file)) seen ∙ none (file_named c.new-3.result.swapped file)
