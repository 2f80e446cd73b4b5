pub mod Fronts
pub mod StatementLines
pub mod DdLines
pub mod ReadingTexts
pub mod Owners
pub mod Reports
