-- The rules of the arithmetic coder's tables (Rules): one computed test for rows of any width, cited for each table.
-- The standard's order of the lookups and the code's (LayoutRules).
pub mod Rules
pub mod LayoutRules
