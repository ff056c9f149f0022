pub mod LowestReady
