pub mod DebugTexts
