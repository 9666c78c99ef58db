use Rattle.std.proofs.Common.{arith, ◌*◌, subst, sym}
use Rattle.std.proofs.lemmas.Result.{err_from_is_err_and}
use Rattle.nor_driver.proofs.CallLaws.{fails-as, first-ready, kept-after, ready-after, refuses-since}
use Rattle.erase_journal.proofs.EntryCalls.{block-ok, block-cut, done-ok, done-cut}
use Rattle.erase_journal.proofs.Renewal.{stands-on, same-blocks-on}
use Rattle.erase_journal.proofs.Uses.{finishing-keeps}
use Rattle.nor_driver.specs.State.{Refuses}
use Rattle.erase_journal.specs.Steps.{SucceedsSettled}
use Rattle.nor_driver.specs.State.{bits_in}
use Rattle.erase_journal.proofs.EntryCuts as cuts
use Rattle.erase_journal.proofs.Standing.{block-firm}
use Rattle.chip_model.specs.Wavering.{Bits}
use Rattle.erase_journal.specs.Weak.{AreFirm}
use Rattle.erase_journal.proofs.WeakLaws.{are-firm-stays, erase-firm}
use Rattle.std.proofs.Common.{inr, [], ◌∷◌, ◌+◌, ◌≤◌, length}
use Rattle.erase_journal.proofs.Torn.{erase-aside, erase-opened, erased-interrupted, program-aside, same-after}
use Rattle.erase_journal.specs.Torn.{opened}
use Rattle.erase_journal.proofs.Unopened.{block-opens, close-opens}
use Rattle.erase_journal.proofs.block_erase.finish_entry.Goals as goal

pub returns-in_err-erase_small-clause-cut : goal.returns-in_err-erase_small-clause-cut
returns-in_err-erase_small-clause-cut g c is =
    let p = err_from_is_err_and c.from_residual.result c.from_residual.ensures.1 in
    block-cut c.args.entry c.args.block (g.N.Nor.state c.args.nor.now).memory (g.N.Nor.state c.erase_small.new.self).memory c.requires.opened c.requires.data (c.in_err-erase_small.ensures.cut (cc (p.1, p.2)))

pub returns-in_err-program-clause-cut : goal.returns-in_err-program-clause-cut
returns-in_err-program-clause-cut g c is =
    let p = err_from_is_err_and c.from_residual-in_err-program.result c.from_residual-in_err-program.ensures.1 in
    let b = block-ok c.args.entry c.args.block (g.N.Nor.state c.args.nor.now).memory (g.N.Nor.state c.erase_small.new.self).memory c.requires.opened c.requires.data (omega arith) c.in_ok-erase_small.ensures.ok in
    stands-on (g.N.Nor.state c.args.nor.now).memory (g.N.Nor.state c.erase_small.new.self).memory (g.N.Nor.state c.program.new.self).memory b.blocks (done-cut c.args.entry c.args.block (g.N.Nor.state c.erase_small.new.self).memory (g.N.Nor.state c.program.new.self).memory (rw b.blocks.chip.same_length c.requires.size) b.still b.bytes (rw c.entry_place.ensures at (c.in_err-program.ensures.cut (cc (p.1, p.2)))))

pub returns-clause-ends : goal.returns-clause-ends
returns-clause-ends g c =
    let b = block-ok c.args.entry c.args.block (g.N.Nor.state c.args.nor.now).memory (g.N.Nor.state c.erase_small.new.self).memory c.requires.opened c.requires.data (omega arith) c.in_ok-erase_small.ensures.ok in
    record {
      ready = c.in_ok-erase_small.ensures.ready;
      kept = kept-after (g.N.Nor.state c.args.nor.now) (g.N.Nor.state c.erase_small.new.self) (g.N.Nor.state c.program.new.self) c.in_ok-erase_small.ensures.kept c.in_ok-program.ensures.kept;
      settled = (done-ok c.args.entry c.args.block (g.N.Nor.state c.erase_small.new.self).memory (g.N.Nor.state c.program.new.self).memory (rw b.blocks.chip.same_length c.requires.size) b.still b.bytes (rw c.entry_place.ensures at c.in_ok-program.ensures.ok)).0;
    }

pub returns-clause-blocks : goal.returns-clause-blocks
returns-clause-blocks g c =
    let b = block-ok c.args.entry c.args.block (g.N.Nor.state c.args.nor.now).memory (g.N.Nor.state c.erase_small.new.self).memory c.requires.opened c.requires.data (omega arith) c.in_ok-erase_small.ensures.ok in
    same-blocks-on (g.N.Nor.state c.args.nor.now).memory (g.N.Nor.state c.erase_small.new.self).memory (g.N.Nor.state c.program.new.self).memory b.blocks (done-ok c.args.entry c.args.block (g.N.Nor.state c.erase_small.new.self).memory (g.N.Nor.state c.program.new.self).memory (rw b.blocks.chip.same_length c.requires.size) b.still b.bytes (rw c.entry_place.ensures at c.in_ok-program.ensures.ok)).1

pub returns-clause-uses : goal.returns-clause-uses
returns-clause-uses g c =
    let b = block-ok c.args.entry c.args.block (g.N.Nor.state c.args.nor.now).memory (g.N.Nor.state c.erase_small.new.self).memory c.requires.opened c.requires.data (omega arith) c.in_ok-erase_small.ensures.ok in
    finishing-keeps c.args.entry c.args.block (g.N.Nor.state c.args.nor.now).memory (g.N.Nor.state c.erase_small.new.self).memory (g.N.Nor.state c.program.new.self).memory c.requires.size c.requires.opened c.requires.data
    c.in_ok-erase_small.ensures.ok b.still (rw c.entry_place.ensures at c.in_ok-program.ensures.ok)

pub returns-in_err-program-clause-ends : goal.returns-in_err-program-clause-ends
returns-in_err-program-clause-ends g c =
    let s0 = g.N.Nor.state c.args.nor.now in
    let s1 = g.N.Nor.state c.erase_small.new.self in
    let s2 = g.N.Nor.state c.program.new.self in
    fails-as c.from_residual-in_err-program.result _ (λ _. SucceedsSettled s0 s2) (λ e. Refuses e s0 s2) c.from_residual-in_err-program.ensures.1
    (refuses-since _ s0 s1 s2 c.in_ok-erase_small.ensures.ready c.in_ok-erase_small.ensures.kept (record { fails = c.in_err-program.ensures.fails; first = first-ready _ s1 s2 (ready-after s0 s1 c.in_ok-erase_small.ensures.kept c.in_ok-erase_small.ensures.ready) }))

pub returns-in_err-erase_small-clause-loses : goal.returns-in_err-erase_small-clause-loses
returns-in_err-erase_small-clause-loses g c is h =
    let p = err_from_is_err_and c.from_residual.result c.from_residual.ensures.1 in
    cuts.block-cut (bits_in (g.N.Nor.state c.args.nor.now)) (bits_in (g.N.Nor.state c.erase_small.new.self)) h c.args.entry c.args.block c.requires.opened c.requires.data (c.in_err-erase_small.ensures.cut_bits (cc (p.1, p.2)))

pub returns-in_err-program-clause-loses : goal.returns-in_err-program-clause-loses
returns-in_err-program-clause-loses g c is h =
    let p = err_from_is_err_and c.from_residual-in_err-program.result c.from_residual-in_err-program.ensures.1 in
    let s0 = g.N.Nor.state c.args.nor.now in
    let s1 = g.N.Nor.state c.erase_small.new.self in
    let s2 = g.N.Nor.state c.program.new.self in
    let b = block-ok c.args.entry c.args.block s0.memory s1.memory c.requires.opened c.requires.data (omega arith) c.in_ok-erase_small.ensures.ok in
    let h1 = block-firm c.args.block s0 s1 c.requires.data c.in_ok-erase_small.ensures.kept.bits c.in_ok-erase_small.ensures.ok h in
    cuts.close-cut (bits_in s1) (bits_in s2) h1 (rw b.blocks.chip.same_length c.requires.size) c.args.entry c.args.block b.still (rw c.entry_place.ensures at (c.in_err-program.ensures.cut_bits (cc (p.1, p.2))))

pub returns-clause-firm : goal.returns-clause-firm
returns-clause-firm g c =
    let s0 = g.N.Nor.state c.args.nor.now in
    let s1 = g.N.Nor.state c.erase_small.new.self in
    let s2 = g.N.Nor.state c.program.new.self in
    are-firm-stays (bits_in s1) (bits_in s2) (4096 * c.args.block) 4096 c.in_ok-program.ensures.kept.bits
    (subst (λ (b : Bits). AreFirm b.weak (4096 * c.args.block) 4096) (sym c.in_ok-erase_small.ensures.firm) (erase-firm s0.weak (4096 * c.args.block) 4096))

pub returns-in_err-erase_small-clause-beside : goal.returns-in_err-erase_small-clause-beside
returns-in_err-erase_small-clause-beside g c i from out =
    let s0 = g.N.Nor.state c.args.nor.now in
    let s1 = g.N.Nor.state c.erase_small.new.self in
    let first = erase-aside c.erase_small.result s0 s1 (4096 * c.args.block) 4096 c.erase_small.ensures.firm c.erase_small.ensures.cut_bits c.erase_small.ensures.slow c.erase_small.ensures.slow_bits i out in
    first

pub returns-in_err-program-clause-beside : goal.returns-in_err-program-clause-beside
returns-in_err-program-clause-beside g c i from out =
    let s0 = g.N.Nor.state c.args.nor.now in
    let s1 = g.N.Nor.state c.erase_small.new.self in
    let first = erase-aside c.erase_small.result s0 s1 (4096 * c.args.block) 4096 c.erase_small.ensures.firm c.erase_small.ensures.cut_bits c.erase_small.ensures.slow c.erase_small.ensures.slow_bits i out in
    let s2 = g.N.Nor.state c.program.new.self in
    let place = c.entry_place.ensures in
    let w = c.requires.opened.within in
    same-after (bits_in s0) (bits_in s1) (bits_in s2) i first (program-aside c.program.result s1 s2 c.entry_place.result (248 ∷ []) c.program.ensures.firm c.program.ensures.cut_bits c.program.ensures.slow c.program.ensures.slow_bits i (inr (omega (arith, from, place, w))))

pub returns-clause-beside : goal.returns-clause-beside
returns-clause-beside g c i from out =
    let s0 = g.N.Nor.state c.args.nor.now in
    let s1 = g.N.Nor.state c.erase_small.new.self in
    let first = erase-aside c.erase_small.result s0 s1 (4096 * c.args.block) 4096 c.erase_small.ensures.firm c.erase_small.ensures.cut_bits c.erase_small.ensures.slow c.erase_small.ensures.slow_bits i out in
    let s2 = g.N.Nor.state c.program.new.self in
    let place = c.entry_place.ensures in
    let w = c.requires.opened.within in
    same-after (bits_in s0) (bits_in s1) (bits_in s2) i first (program-aside c.program.result s1 s2 c.entry_place.result (248 ∷ []) c.program.ensures.firm c.program.ensures.cut_bits c.program.ensures.slow c.program.ensures.slow_bits i (inr (omega (arith, from, place, w))))

pub returns-in_err-erase_small-clause-cut_bits : goal.returns-in_err-erase_small-clause-cut_bits
returns-in_err-erase_small-clause-cut_bits g c is h =
    let p = err_from_is_err_and c.from_residual.result c.from_residual.ensures.1 in
    let l = c.in_err-erase_small.ensures.cut_bits (cc (p.1, p.2)) in
    opened (λ v w. erase-opened (bits_in (g.N.Nor.state c.args.nor.now)) (bits_in (g.N.Nor.state c.erase_small.new.self)) h c.args.entry c.args.block c.requires.opened c.requires.data l v w)

pub returns-in_err-program-clause-cut_bits : goal.returns-in_err-program-clause-cut_bits
returns-in_err-program-clause-cut_bits g c is h =
    let s0 = g.N.Nor.state c.args.nor.now in
    let s1 = g.N.Nor.state c.erase_small.new.self in
    let s2 = g.N.Nor.state c.program.new.self in
    let place = c.entry_place.ensures in
    let w = c.requires.opened.within in
    let b = block-ok c.args.entry c.args.block s0.memory s1.memory c.requires.opened c.requires.data (omega arith) c.in_ok-erase_small.ensures.ok in
    let long : 4096 * c.args.block + 4096 ≤ length s1.memory = rw b.blocks.chip.same_length (omega arith) in
    erased-interrupted (bits_in s0) (bits_in s1) (bits_in s2) c.args.block c.requires.data long b.bytes
    (subst (λ (x : Bits). AreFirm x.weak (4096 * c.args.block) 4096) (sym c.in_ok-erase_small.ensures.firm) (erase-firm s0.weak (4096 * c.args.block) 4096))
    (λ i from. program-aside c.program.result s1 s2 c.entry_place.result (248 ∷ []) c.program.ensures.firm c.program.ensures.cut_bits c.program.ensures.slow c.program.ensures.slow_bits i (inr (omega (arith, from, place, w))))

pub returns-in_err-erase_small-clause-opens : goal.returns-in_err-erase_small-clause-opens
returns-in_err-erase_small-clause-opens g c is h =
    let p = err_from_is_err_and c.from_residual.result c.from_residual.ensures.1 in
    block-opens (bits_in (g.N.Nor.state c.args.nor.now)) (bits_in (g.N.Nor.state c.erase_small.new.self)) h c.args.entry c.args.block c.requires.opened c.requires.data (c.in_err-erase_small.ensures.cut_bits (cc (p.1, p.2)))

pub returns-in_err-program-clause-opens : goal.returns-in_err-program-clause-opens
returns-in_err-program-clause-opens g c is h =
    let p = err_from_is_err_and c.from_residual-in_err-program.result c.from_residual-in_err-program.ensures.1 in
    let s0 = g.N.Nor.state c.args.nor.now in
    let s1 = g.N.Nor.state c.erase_small.new.self in
    let b = block-ok c.args.entry c.args.block s0.memory s1.memory c.requires.opened c.requires.data (omega arith) c.in_ok-erase_small.ensures.ok in
    let h1 = block-firm c.args.block s0 s1 c.requires.data c.in_ok-erase_small.ensures.kept.bits c.in_ok-erase_small.ensures.ok h in
    close-opens (bits_in s1) (bits_in (g.N.Nor.state c.program.new.self)) h1 c.args.entry c.args.block b.still (rw c.entry_place.ensures at (c.in_err-program.ensures.cut_bits (cc (p.1, p.2))))
