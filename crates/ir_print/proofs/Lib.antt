pub mod FormatSteps
