use Rattle.nbd_share.proofs.shared.Shared.known.Goals as goal

pub returns : goal.returns
returns g c =
    let inv = c.self.invariant in
    rw (← c.self.view_is) record {
      size = inv.sectors;
      trusted = inv.trusted;
      kept = inv.kept;
      based = inv.based;
    }
