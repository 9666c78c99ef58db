use Rattle.nor_driver.specs.State.{bits_in, Refuses}
use Rattle.nor_driver.proofs.Firmer.{firmer-on}
use Rattle.nor_driver.proofs.CallLaws.{kept-after, refuses-since}
use Rattle.std.proofs.lemmas.Result.{IfErr-weaker}
use Rattle.erase_journal.proofs.again.program_votes_again.Goals as goal

pub returns-clause-fails : goal.returns-clause-fails
returns-clause-fails g c =
    let s0 = g.N.Nor.state c.args.nor.now in
    let s1 = g.N.Nor.state c.program_pages_again.new.nor in
    let s2 = g.N.Nor.state c.program_pages_again-2.new.nor in
    let s3 = g.N.Nor.state c.program_pages_again-3.new.nor in
    let k = kept-after s0 s1 s2 c.in_ok-program_pages_again.ensures.kept c.in_ok-program_pages_again-2.ensures.kept in
    IfErr-weaker c.program_pages_again-3.result (λ e. Refuses e s2 s3) (λ e. Refuses e s0 s3) (λ e r. refuses-since e s0 s2 s3 c.requires.ready k r) c.program_pages_again-3.ensures.fails

pub returns-clause-firmer : goal.returns-clause-firmer
returns-clause-firmer g c =
    let b0 = bits_in (g.N.Nor.state c.args.nor.now) in
    let b1 = bits_in (g.N.Nor.state c.program_pages_again.new.nor) in
    let b2 = bits_in (g.N.Nor.state c.program_pages_again-2.new.nor) in
    let b3 = bits_in (g.N.Nor.state c.program_pages_again-3.new.nor) in
    firmer-on b0 b2 b3 (firmer-on b0 b1 b2 c.in_ok-program_pages_again.ensures.firmer c.in_ok-program_pages_again-2.ensures.firmer) c.program_pages_again-3.ensures.firmer

pub returns-in_err-program_pages_again-2-clause-firmer : goal.returns-in_err-program_pages_again-2-clause-firmer
returns-in_err-program_pages_again-2-clause-firmer g c =
    let b0 = bits_in (g.N.Nor.state c.args.nor.now) in
    let b1 = bits_in (g.N.Nor.state c.program_pages_again.new.nor) in
    let b2 = bits_in (g.N.Nor.state c.program_pages_again-2.new.nor) in
    firmer-on b0 b1 b2 c.in_ok-program_pages_again.ensures.firmer c.in_err-program_pages_again-2.ensures.firmer
