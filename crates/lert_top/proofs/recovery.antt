pub mod JournalLaws
pub mod MomentLaws
pub mod RecoverEnding
pub mod RecoverLaws
pub mod SoundLaws
