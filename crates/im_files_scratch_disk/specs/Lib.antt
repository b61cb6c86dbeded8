pub mod OnlyRead
