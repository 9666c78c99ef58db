use Rattle.std.proofs.Common.{List, ℕ, ◌+◌, ◌<◌, ◌∙◌, arith, sym, subst}
use Rattle.chip_model.specs.Chip.{Chip}
use Rattle.chip_model.specs.Exchanges.{Exchange}
use Rattle.chip_model.specs.Frames.{Read, Receives}
use Rattle.chip_watch.specs.Watched.{watched_chip, watched_cuts, watched_fresh, watched_trusts}
use Rattle.test_watched.specs.Logged.{AreOpening, frames_behind, frames_of}
use Rattle.test_watched.proofs.LoggedLaws.{answered_before, opened, same_chip}
use Rattle.test_watched.proofs.witness.read_once.Goals as goal

pub returns-in-Ok-transact : goal.returns-in-Ok-transact
returns-in-Ok-transact g c =
    let bus = c.in-Ok.bus in
    let old = watched_chip bus in
    let new = c.transact.new.self in
    let left = watched_chip new in
    let recv = c.transact.new.recv in
    let few : watched_cuts bus + 1 < 18446744073709551616 = omega (arith, c.in-Ok.ensures.cuts) in
    let (same, told) = same_chip old left recv c.in-Ok.ensures.idle c.in-Ok-transact.ensures.frame in
    let none = answered_before (watched_trusts bus) (watched_fresh bus) old left recv (frames_behind bus) (frames_behind new) c.in-Ok.ensures.fresh (c.in-Ok-transact.ensures.heard few) in
    let opening = opened old (frames_of c.new.result) (frames_behind bus) c.new.ensures c.in-Ok.ensures.read in (
      subst (λ (k : Chip). AreOpening k (frames_behind new)) (sym same) (subst (λ (l : List Exchange). AreOpening old l) (sym none) opening),
      subst (λ (k : Chip). Receives k (Read 12288) recv) (sym same) told,
    )
