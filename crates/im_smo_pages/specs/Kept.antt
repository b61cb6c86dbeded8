-- What the calls of a structure change ask in front of its records.
use Rattle.std.specs.Prelude.{Bool, true, false, List, Option, ℕ}
use Rattle.im_base_types.specs.declared.fault.Fault.{Fault}
use Rattle.im_base_types.specs.declared.fault.Fault.TheVariants.{Capacity, Memory, NotAStore}
use Rattle.im_base_disk.specs.declared.disk.Disk.{Ghosts}
use Rattle.im_page_writer.specs.declared.page_writer.PageWriter.{PageWriter}
use Rattle.im_page_writer.specs.Outcome.{mild, AllPages, AreLoaded, HasPages, Outcome}
use Rattle.im_theory_tree.specs.Good.{IsGoodTree}
use Rattle.im_smo_pages.specs.Images.{Numbered}
use Rattle.im_smo_pages.specs.Seen.{seen}

-- The writer has these pages, all with their copies, and with the images in their place they are a good tree, beside the spare pages of a structure change.
pub record HasImages {D : Type 0} (d : Ghosts D) (pages : AllPages) (images : List Numbered) (spare : List ℕ) (w : PageWriter) (disk : D) : Type 0 where
  pub has : HasPages d AreLoaded pages w disk
  pub good : IsGoodTree (seen pages images) spare

-- refusals of an allocation after which the writer goes on: for want of memory or of page numbers, or for bytes that are no store's
abbrev pub mild_to_take : Fault → Bool
mild_to_take Memory = true
mild_to_take NotAStore = true
mild_to_take Capacity = true
mild_to_take e = false

-- The outcome of a call that makes images of pages for a structure change: it changes no page of the writer, and its images grow, so that it may be refused for want of memory, or for bytes that are no store's, and the writer goes on.
abbrev pub Plans : {D : Type 0} (d : Ghosts D) → PageWriter → D → PageWriter → D → Option Fault → Type 0
Plans d v old w new why = Outcome d AreLoaded mild v old w new why
