mod Engines
mod InFolders
mod Still
