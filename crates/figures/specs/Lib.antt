-- Document 01's starred figures.
pub mod Figures
