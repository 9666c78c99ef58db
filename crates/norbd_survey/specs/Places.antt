-- Places of an image. Source: own.
use Rattle.std.specs.Prelude.{◌≡◌, ◌≢◌, ◌<◌, ℕ, List, length}
use Rattle.chip_model.specs.Memory.{byte}

-- the image has this place, and the byte there isn't erased
pub record IsWrittenAt (image : List ℕ) (at : ℕ) : Type 0 where
  pub inside : at < length image
  pub written : byte image at ≢ 255
