-- When an armed cut comes. Source: own.
use Rattle.std.specs.Prelude.{ℕ, ◌-◌, Bool, ◌&&◌, ◌||◌, if◌then◌else◌, ◌==◌}

-- a cut is armed for the `armed`-th frame from now on (0: for none), of those that count, and comes
-- by the mask
pub record Armed : Type 0 where
  pub armed : ℕ
  pub kind : ℕ
  pub mask : ℕ

-- kind 0 counts every frame; the others count accepted programs, erases and status writes alone
abbrev pub counts_frame : Armed → Bool → Bool
counts_frame p accepted = (p.kind == 0) || accepted

-- the frame is the one that was armed
abbrev pub strikes : Armed → Bool → Bool
strikes p accepted = counts_frame p accepted && (p.armed == 1)

-- one frame less to go, where the frame counts
abbrev pub one_frame_less : Armed → Bool → Armed
one_frame_less p accepted = record {
  armed = (if counts_frame p accepted then p.armed - 1 else p.armed);
  kind = p.kind;
  mask = p.mask;
}
