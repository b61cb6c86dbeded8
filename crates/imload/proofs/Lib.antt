mod NamedDisk
