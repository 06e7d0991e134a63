mod Blocks
mod Messages
mod NextFour
mod RoundSteps
mod ScheduleWords
mod Turn
mod WordsInPlace
