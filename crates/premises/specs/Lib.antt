pub mod Stretch
pub mod Undamaged
pub mod PlainPair
pub mod OneCopyWrong
pub mod LateRun
