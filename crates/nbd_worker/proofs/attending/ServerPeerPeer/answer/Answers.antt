use Rattle.std.proofs.Common.{refl}
use Rattle.nbd_worker.specs.Connection.{answer_bytes}
use Rattle.nbd_worker.proofs.attending.ServerPeerPeer.answer.Goals as goal

pub returns-in-Err-clause-answers : goal.returns-in-Err-clause-answers
returns-in-Err-clause-answers g c =
    let e = c.in-Replied.ensures in (
      refl,
      refl,
      refl,
      refl,
      e.promise.connection,
      (
        (
          answer_bytes c.in-Replied.answer,
          record { bytes = c.args.lent.now; reply = c.in-Replied.answer; payload_is = refl; run = (e.executes, e.promise); out_is = refl },
          c.in-Err.ensures,
        ),
        c.pass.ensures,
      ),
    )
