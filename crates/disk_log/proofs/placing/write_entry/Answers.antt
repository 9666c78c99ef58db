use Rattle.std.proofs.Common.{◌≡◌, arith, subst, sym}
use Rattle.disk_log.specs.Checkpoints.{entry_number, bytes_of_entry}
use Rattle.disk_log.specs.Files.{WritesBlock, IsLogged, OfFiles}
use Rattle.disk_log.proofs.Entries.{entry-logged, entry-skipped, entry-wrote}
use Rattle.disk_log.proofs.placing.write_entry.Goals as goal

pub returns-then-number-len : goal.returns-then-number-len
returns-then-number-len g c =
    let n : c.number_at-number.result ≡ entry_number c.args.entry.now = c.number_at-number.ensures in
    let h = c.if-number-len.true in
    entry-skipped _ _ _ _ c.args.len c.args.entry.now c.requires.there (omega (arith, n, h))

pub write_block-requires-clause-logged : goal.write_block-requires-clause-logged
write_block-requires-clause-logged g c =
    let n : c.number_at-number.result ≡ entry_number c.args.entry.now = c.number_at-number.ensures in
    let h = c.if-number-len.false in
    subst (λ v. OfFiles (g.F.ImageFiles.medium c.args.files.now) (λ m. IsLogged m v (bytes_of_entry c.args.entry.now))) (sym n)
    (entry-logged _ c.args.len c.args.entry.now c.requires.there (omega (arith, n, h)))

pub returns : goal.returns
returns g c =
    let n : c.number_at-number.result ≡ entry_number c.args.entry.now = c.number_at-number.ensures in
    let h = c.if-number-len.false in
    entry-wrote _ _ _ _ _ c.args.len c.args.entry.now c.requires.there (omega (arith, n, h))
    (subst (λ v. WritesBlock v (bytes_of_entry c.args.entry.now) (g.F.ImageFiles.medium c.args.files.now) c.write_block.result (g.F.ImageFiles.medium c.write_block.new.self)) n c.write_block.ensures)
