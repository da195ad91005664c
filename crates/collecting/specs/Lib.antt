pub mod DueNibble
