pub mod CopyLaws
pub mod MaskLaws
pub mod RunLaws
pub mod WeakLaws
pub mod FrameSize
pub mod Accepted
