mod Putting
mod TraceAnswers
