pub mod DebugLemmas
