-- Frames that were accepted and are sent together with a later one. Source: own.
use Rattle.std.specs.Prelude.{Bool, true, ◌&&◌, ◌==◌, List, [], ◌∷◌, length}
use Rattle.chip_model.specs.declared.programmer.Turn.{Turn}

-- none of these frames receives a byte
abbrev pub are_silent : List Turn → Bool
are_silent [] = true
are_silent (t ∷ ts) = (length t.recv.items == 0) && are_silent ts
