use Rattle.std.proofs.Common.{[], ◌∷◌, refl}
use Rattle.chip_model.proofs.ExchangeLaws.{exchanged_twice}
use Rattle.chip_watch.specs.Settling.{sent_alone}
use Rattle.chip_watch.proofs.SettlingLaws.{silent}
use Rattle.chip_watch.specs.Told.{frames_told}
use Rattle.chip_watch.proofs.wire.Wire.finishes.Goals as goal

pub returns : goal.returns
returns g c =
    let log = g.P.Programmer.exchanged in
    let one = c.if-not-hear.ensures in
    let two = c.if-not-hear-2.ensures in
    let l0 = frames_told log c.args.self.now in
    let l1 = frames_told log c.hear.new.self in
    let l2 = frames_told log c.hear-2.new.self in (
      l2,
      exchanged_twice l0 l1 l2 (sent_alone (6 ∷ []) ∷ []) (sent_alone c.args.frame.now ∷ [])
          (silent l0 l1 (6 ∷ []) c.hear.new.self.heard.items (one.room refl) (one.grows refl))
          (silent l1 l2 c.args.frame.now c.hear-2.new.self.heard.items (two.room refl) (two.grows refl)),
      c.in_ok-rest.ensures,
    )
