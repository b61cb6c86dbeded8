-- How a search ends that asks locks.
use Rattle.std.specs.Prelude.{Option}
use Rattle.im_base_types.specs.declared.fault.Fault.{Fault}
use Rattle.im_base_disk.specs.declared.disk.Disk.{Ghosts}
use Rattle.im_page_writer.specs.declared.page_writer.PageWriter.{PageWriter}
use Rattle.im_page_writer.specs.Outcome.{mild, AreLoaded, Outcome}

-- The outcome of a search that asks the locks of what it found: the lock table grows, and for a scan the list, so that it may be refused for want of memory too.
abbrev pub AsksLocks : {D : Type 0} (d : Ghosts D) → PageWriter → D → PageWriter → D → Option Fault → Type 0
AsksLocks d v old w new why = Outcome d AreLoaded mild v old w new why
