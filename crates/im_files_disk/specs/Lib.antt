pub mod RealFiles
