pub mod Choice
pub mod Said
pub mod System
pub mod Process
pub mod Start
