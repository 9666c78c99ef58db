use Rattle.std.proofs.Common.{◌≡◌, List, ℕ, false, rules, sym, subst}
use Rattle.nor_driver.specs.State.{bits_in, NorFails}
use Rattle.erase_journal.proofs.Interrupted.{interrupted-same}
use Rattle.sector_map.specs.Marking.{is_unmarked}
use Rattle.sector_map.proofs.FirmBegins.{look-begins}
use Rattle.sector_map.proofs.MountFirmly.{half-chip-same}
use Rattle.sector_map.proofs.Opening.{looked-fails, look-was-cut, looked-mounted}
use Rattle.sector_map.proofs.map.SectorMap.mount_as.Goals as goal

pub returns-in-Ok-Ok-clause-fails : goal.returns-in-Ok-Ok-clause-fails
returns-in-Ok-Ok-clause-fails g c =
    looked-fails g.N.Nor.state c.recover.result (g.N.Nor.state c.args.nor) (g.N.Nor.state c.look.new.nor) c.in-Ok-Ok.ensures.same c.in-Ok-Ok.ensures.kept c.recover.ensures.fails

pub returns-in-Ok-Err-Layout-clause-fails : goal.returns-in-Ok-Err-Layout-clause-fails
returns-in-Ok-Err-Layout-clause-fails g c = search rules

pub returns-in-Ok-Err-NotFormatted-clause-fails : goal.returns-in-Ok-Err-NotFormatted-clause-fails
returns-in-Ok-Err-NotFormatted-clause-fails g c = search rules

pub returns-in-Err-Cut-clause-fails : goal.returns-in-Err-Cut-clause-fails
returns-in-Err-Cut-clause-fails g c =
    look-was-cut (g.N.Nor.state c.args.nor) (g.N.Nor.state c.look.new.nor) (subst (λ e. NorFails e (g.N.Nor.state c.args.nor) (g.N.Nor.state c.look.new.nor)) c.in-Err-Cut.field-0-is c.in-Err-Cut.ensures.fails) c.look.ensures.same

pub returns-in-Ok-Ok-clause-ok : goal.returns-in-Ok-Ok-clause-ok
returns-in-Ok-Ok-clause-ok g c =
    looked-mounted (λ map. map) c.recover.result (g.N.Nor.state c.args.nor) (g.N.Nor.state c.look.new.nor) c.in-Ok-Ok.ensures.same c.in-Ok-Ok.ensures.ready c.in-Ok-Ok.ensures.kept c.recover.ensures.ok

pub returns-in-Ok-Ok-clause-journals : goal.returns-in-Ok-Ok-clause-journals
returns-in-Ok-Ok-clause-journals g c firmly unmarked h =
    let s0 = g.N.Nor.state c.args.nor in
    let s1 = g.N.Nor.state c.look.new.nor in
    c.recover.ensures.journals firmly (subst (λ (m : List ℕ). is_unmarked m ≡ false) (sym c.in-Ok-Ok.ensures.same) unmarked) (interrupted-same (bits_in s0) (bits_in s1) c.in-Ok-Ok.ensures.kept.bits c.in-Ok-Ok.ensures.same h)

pub returns-in-Ok-Ok-clause-store : goal.returns-in-Ok-Ok-clause-store
returns-in-Ok-Ok-clause-store g c firmly unmarked h =
    let s0 = g.N.Nor.state c.args.nor in
    let s1 = g.N.Nor.state c.look.new.nor in
    c.recover.ensures.store firmly (subst (λ (m : List ℕ). is_unmarked m ≡ false) (sym c.in-Ok-Ok.ensures.same) unmarked) (half-chip-same s0 s1 c.in-Ok-Ok.ensures.kept.bits c.in-Ok-Ok.ensures.same h)

pub recover-requires-clause-firmly : goal.recover-requires-clause-firmly
recover-requires-clause-firmly g c is = look-begins _ _ c.args.firmness (g.N.Nor.state c.args.nor) (g.N.Nor.state c.look.new.nor) c.in-Ok-Ok.ensures.same c.in-Ok-Ok.ensures.kept (c.requires.firmly is)
