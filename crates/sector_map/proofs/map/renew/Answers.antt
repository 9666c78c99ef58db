use Rattle.std.proofs.Common.{subst}
use Rattle.nor_driver.specs.State.{Refuses}
use Rattle.nor_driver.proofs.CallLaws.{done-of, fails-of}
use Rattle.erase_journal.specs.Recovery.{RestoreFails}
use Rattle.erase_journal.specs.Steps.{SucceedsSettled}
use Rattle.sector_map.proofs.Restoring.{renew-ok, renew-corrupt, renew-fails, restore-cut, restore-corrupt}
use Rattle.sector_map.proofs.FirmFilling.{restored-chip}
use Rattle.sector_map.proofs.map.renew.Goals as goal

pub returns-in-Ok-clause-ok : goal.returns-in-Ok-clause-ok
returns-in-Ok-clause-ok g c = renew-ok c.mount_slots.result c.mount_slots.new.table (g.S.SlotCalls.state c.args.stock.now) (g.S.SlotCalls.state c.restore.new.self) (g.S.SlotCalls.state c.mount_slots.new.stock) (g.S.SlotCalls.indexed c.mount_slots.new.stock) c.in-Ok.ensures.ok c.mount_slots.ensures.sound c.mount_slots.ensures.indexed
    (done-of c.mount_slots.result (SucceedsSettled (g.S.SlotCalls.state c.restore.new.self) (g.S.SlotCalls.state c.mount_slots.new.stock)) (λ e. Refuses e (g.S.SlotCalls.state c.restore.new.self) (g.S.SlotCalls.state c.mount_slots.new.stock)) c.mount_slots.ensures.ends)

pub returns-in-Ok-clause-corrupt : goal.returns-in-Ok-clause-corrupt
returns-in-Ok-clause-corrupt g c = renew-corrupt c.mount_slots.result (g.S.SlotCalls.state c.args.stock.now) (g.S.SlotCalls.state c.restore.new.self) (g.S.SlotCalls.state c.mount_slots.new.stock) c.in-Ok.ensures.ok c.mount_slots.ensures.corrupt
    (done-of c.mount_slots.result (SucceedsSettled (g.S.SlotCalls.state c.restore.new.self) (g.S.SlotCalls.state c.mount_slots.new.stock)) (λ e. Refuses e (g.S.SlotCalls.state c.restore.new.self) (g.S.SlotCalls.state c.mount_slots.new.stock)) c.mount_slots.ensures.ends)

pub returns-in-Ok-clause-fails : goal.returns-in-Ok-clause-fails
returns-in-Ok-clause-fails g c = renew-fails c.mount_slots.result (g.S.SlotCalls.state c.args.stock.now) (g.S.SlotCalls.state c.restore.new.self) (g.S.SlotCalls.state c.mount_slots.new.stock) c.in-Ok.ensures.ok c.mount_slots.ensures.cut c.mount_slots.ensures.healthy c.mount_slots.ensures.same_size
    (fails-of c.mount_slots.result (SucceedsSettled (g.S.SlotCalls.state c.restore.new.self) (g.S.SlotCalls.state c.mount_slots.new.stock)) (λ e. Refuses e (g.S.SlotCalls.state c.restore.new.self) (g.S.SlotCalls.state c.mount_slots.new.stock)) c.mount_slots.ensures.ends)

pub returns-in-Err-Cut-clause-fails : goal.returns-in-Err-Cut-clause-fails
returns-in-Err-Cut-clause-fails g c = restore-cut (g.S.SlotCalls.state c.args.stock.now) (g.S.SlotCalls.state c.restore.new.self) (subst (λ e. RestoreFails e (g.S.SlotCalls.state c.args.stock.now) (g.S.SlotCalls.state c.restore.new.self)) c.in-Err-Cut.field-0-is c.in-Err-Cut.ensures.fails)

pub returns-in-Err-Corrupt-clause-corrupt : goal.returns-in-Err-Corrupt-clause-corrupt
returns-in-Err-Corrupt-clause-corrupt g c is =
    restore-corrupt (g.S.SlotCalls.state c.args.stock.now) (g.S.SlotCalls.state c.restore.new.self)
    (subst (λ e. RestoreFails e (g.S.SlotCalls.state c.args.stock.now) (g.S.SlotCalls.state c.restore.new.self)) c.in-Err-Corrupt.field-0-is c.in-Err-Corrupt.ensures.fails)

pub returns-in-Ok-clause-firmly : goal.returns-in-Ok-clause-firmly
returns-in-Ok-clause-firmly g c firmly quick h = c.mount_slots.ensures.disk firmly (restored-chip (g.S.SlotCalls.state c.args.stock.now) (g.S.SlotCalls.state c.restore.new.self) quick h c.in-Ok.ensures.ok)
