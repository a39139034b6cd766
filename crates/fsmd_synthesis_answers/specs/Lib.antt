pub mod ProgramAnswers
pub mod ScheduleAnswers
pub mod BindingAnswers
