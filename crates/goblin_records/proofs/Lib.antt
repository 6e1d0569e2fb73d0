pub mod Mips64el
