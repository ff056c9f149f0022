pub mod ConversionExamples
pub mod FrameExamples
pub mod PacketExamples
pub mod PageExamples
pub mod StepExamples
pub mod TreeExamples
pub mod UncheckedExamples
