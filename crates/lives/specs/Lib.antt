pub mod Run
pub mod Driving
pub mod Schedule
mod ScheduleExamples
