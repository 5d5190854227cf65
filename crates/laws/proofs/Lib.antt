pub mod Tests
pub mod Clauses
pub mod Choices
pub mod Layouts
pub mod Numbers
pub mod Lists
pub mod Window
