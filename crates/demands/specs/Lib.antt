-- The three demands: read Demands, then Runs and Visible. Wrong has ways of replying that fail them.
pub mod Visible
pub mod Runs
pub mod Demands
pub mod Examples
pub mod Wrong
