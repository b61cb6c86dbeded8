-- What the lines of a script set before its first life.
use Rattle.im_base_disk.specs.Disk.{Files, three}
use Rattle.im_tool_lines.specs.declared.set_files.SetFiles.{SetFiles}

-- the bytes of all files
abbrev pub files_of : SetFiles → Files
files_of set = three set.log.items set.pages.items set.log2.items
