use Rattle.norbd_serve.proofs.Sending.{quiet}
use Rattle.norbd_serve.proofs.serving.serve.Goals as goal

-- what the closure asks, and then the bounds of the function that it calls
pub scoped-requires : goal.scoped-requires
scoped-requires g c =
    let b = c.type_bounds in
    record {
      at = λ f. (
        (
          record { owned = b.send-D.owned; leaving = λ k x w. quiet _ x w },
          record { owned = b.send-R.owned; leaving = λ k x w. quiet _ x w },
          record { owned = b.send-L.owned; leaving = λ k x w. quiet _ x w },
          record { owned = b.send-G.owned; leaving = λ k x w. quiet _ x w },
          record { owned = b.send-F.owned; leaving = λ k x w. quiet _ x w },
          record { shared = b.sync-F.shared },
        ),
        (
          record { owned = b.send-D.owned; leaving = λ k x w. quiet _ x w },
          record { owned = b.send-R.owned; leaving = λ k x w. quiet _ x w },
          record { owned = b.send-L.owned; leaving = λ k x w. quiet _ x w },
          record { owned = b.send-F.owned; leaving = λ k x w. quiet _ x w },
          record { owned = b.send-G.owned; leaving = λ k x w. quiet _ x w },
          record { owned = b.send-K.owned; leaving = λ k x w. quiet _ x w },
          record { shared = b.sync-L.shared },
          record { shared = b.sync-W.shared },
          record { shared = b.sync-F.shared },
        ),
      );
    }
