-- Laws: how long bytes are, maps and their bits, how long a message is, and that equal fields have equal bytes.
pub mod Lengths
pub mod Marks
pub mod Sizes
pub mod Same
