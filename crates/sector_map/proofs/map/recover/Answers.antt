use Rattle.std.proofs.Common.{◌≡◌, ◌∙◌, false, sym, subst}
use Rattle.std.specs.Prelude.{IfOk, IfErr}
use Rattle.nor_driver.specs.State.{NorState, bits_in}
use Rattle.erase_journal.specs.Weak.{AreRecoveredJournals}
use Rattle.sector_slots.specs.Weak.{IsHalfStore}
use Rattle.sector_map.specs.Marking.{is_unmarked}
use Rattle.sector_map.proofs.MountFirmly.{recovered-chip}
use Rattle.sector_map.proofs.Marking.{unmarked-same}
use Rattle.erase_journal.specs.Recovery.{RecoverFails}
use Rattle.sector_map.specs.Filling.{Filled, FillFails, FillsFirmly}
use Rattle.sector_map.proofs.FirmBegins.{recovered-fills}
use Rattle.sector_map.proofs.Opening.{filled-mounted, filled-fails, recovery-corrupt, recovery-cut}
use Rattle.sector_map.proofs.map.recover.Goals as goal

pub returns-in-Ok-recover_as-clause-ok : goal.returns-in-Ok-recover_as-clause-ok
returns-in-Ok-recover_as-clause-ok g c =
    filled-mounted (λ map. map) c.fill.result (g.N.Nor.state c.args.nor) c.in-Ok-recover_as.journal c.requires.superblock c.in-Ok-recover_as.ensures.ok (subst (λ j. IfOk c.fill.result (λ map. Filled j map)) c.new.ensures c.fill.ensures.ok)

pub returns-in-Ok-recover_as-clause-fails : goal.returns-in-Ok-recover_as-clause-fails
returns-in-Ok-recover_as-clause-fails g c =
    filled-fails g.N.Nor.state c.fill.result (g.N.Nor.state c.args.nor) c.in-Ok-recover_as.journal c.requires.superblock c.in-Ok-recover_as.ensures.ok (subst (λ j. IfErr c.fill.result (λ e. FillFails e.1 j (g.N.Nor.state e.0))) c.new.ensures c.fill.ensures.fails)

pub returns-in-Err-default-Cut-clause-fails : goal.returns-in-Err-default-Cut-clause-fails
returns-in-Err-default-Cut-clause-fails g c =
    recovery-cut (g.N.Nor.state c.args.nor) (g.N.Nor.state c.in-Err-default-Cut.nor)
    (subst (λ e. RecoverFails e (g.N.Nor.state c.args.nor) (g.N.Nor.state c.in-Err-default-Cut.nor)) c.in-Err-default-Cut.field-0-1-is c.in-Err-default-Cut.ensures.fails)

pub returns-in-Ok-recover_as-clause-journals : goal.returns-in-Ok-recover_as-clause-journals
returns-in-Ok-recover_as-clause-journals g c firmly unmarked h =
    let j = c.in-Ok-recover_as.journal in
    let e = sym c.new.ensures in
    let same = unmarked-same (g.N.Nor.state c.args.nor).memory j.memory c.in-Ok-recover_as.ensures.ok.blocks in
    c.fill.ensures.journals firmly (subst (λ (s : NorState). is_unmarked s.memory ≡ false) e (same ∙ unmarked)) (subst (λ (s : NorState). AreRecoveredJournals (bits_in s)) e (c.in-Ok-recover_as.ensures.firm firmly h))

pub returns-clause-fails : goal.returns-clause-fails
returns-clause-fails g c =
    recovery-corrupt (g.N.Nor.state c.args.nor) (g.N.Nor.state c.in-Err-default-Corrupt.nor) c.requires.superblock
    (subst (λ e. RecoverFails e (g.N.Nor.state c.args.nor) (g.N.Nor.state c.in-Err-default-Corrupt.nor)) c.in-Err-default-Corrupt.field-0-1-is c.in-Err-default-Corrupt.ensures.fails)

pub returns-in-Ok-recover_as-clause-store : goal.returns-in-Ok-recover_as-clause-store
returns-in-Ok-recover_as-clause-store g c firmly unmarked h =
    let a = g.N.Nor.state c.args.nor in
    let j = c.in-Ok-recover_as.journal in
    let e = sym c.new.ensures in
    let same = unmarked-same a.memory j.memory c.in-Ok-recover_as.ensures.ok.blocks in
    c.fill.ensures.store firmly (subst (λ (s : NorState). is_unmarked s.memory ≡ false) e (same ∙ unmarked))
    (subst (λ (s : NorState). IsHalfStore (bits_in s)) e (recovered-chip a j c.in-Ok-recover_as.ensures.ok c.in-Ok-recover_as.ensures.erased h))

pub fill-requires-clause-firmly : goal.fill-requires-clause-firmly
fill-requires-clause-firmly g c is =
    let a = g.N.Nor.state c.args.nor in
    let j = c.in-Ok-recover_as.journal in
    let e = c.in-Ok-recover_as.ensures in
    let h = c.requires.firmly is in
    subst (λ s. FillsFirmly g.P.Provenance.cuts g.P.Provenance.slows c.args.firmness s) (sym c.new.ensures) (recovered-fills _ _ c.args.firmness a j e.ok (e.firm h.firmness_is h.fit.journals) (recovered-chip a j e.ok e.erased h.fit.store) h)
