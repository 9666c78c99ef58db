-- a latched error is answered again
use Rattle.std.proofs.Common.{Result, Ok, Err, inl, inr, refl}
use Rattle.block_device.specs.declared.disk.DiskError.TheVariants.{Cut, Slow}
use Rattle.block_device.specs.declared.disk.DiskError.{DiskError}
use Rattle.block_device.specs.Facts.{Facts, Latches, AnswersWhatWasLatched}

pub answers_what_stood : {T : Type 0} (old new : Facts) (result : Result T DiskError) → Latches old result new → AnswersWhatWasLatched old result
answers_what_stood old new (Ok v) latches =
    record { cut = λ cut. absurd (cc (latches.0.0, cut)); slow = λ no_cut slow. absurd (cc (latches.0.1, slow)) }
answers_what_stood old new (Err Cut) latches =
    record { cut = λ _. refl; slow = λ no_cut slow. elim latches.0 [ inl cut ↦ absurd (cc (no_cut, cut)) | inr came ↦ absurd (cc (came.0.1, slow)) ] }
answers_what_stood old new (Err Slow) latches =
    record { cut = λ cut. absurd (cc (latches.0, cut)); slow = λ _ _. refl }
