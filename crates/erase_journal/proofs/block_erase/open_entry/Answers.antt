use Rattle.std.proofs.lemmas.Result.{err_from_is_err_and}
use Rattle.erase_journal.proofs.EntryCalls.{open-ok, open-cut}
use Rattle.nor_driver.specs.State.{Succeeds, Refuses}
use Rattle.nor_driver.proofs.CallLaws.{fails-after, fails-as, first-ready, kept-after, ready-back, refuses-perhaps, succeeds-back}
use Rattle.erase_journal.proofs.Uses.{opening-uses}
use Rattle.std.proofs.Common.{◌∷◌, [], List, ℕ, ap, ◌∙◌, subst, sym, arith}
use Rattle.nor_driver.specs.State.{bits_in}
use Rattle.nor_layout.specs.Entries.{entry_at}
use Rattle.erase_journal.specs.Journals.{IsHealthy, is_free_entry}
use Rattle.erase_journal.proofs.Effects.{and-spoiled}
use Rattle.erase_journal.specs.Places.{Spoiled}
use Rattle.erase_journal.proofs.EntryCalls.{taken-settled}
use Rattle.erase_journal.proofs.EntryCuts as cuts
use Rattle.erase_journal.proofs.SettledLaws.{settled-healthy}
use Rattle.erase_journal.proofs.Standing.{entry-firm, firm-as-before, same-loses}
use Rattle.std.proofs.Common.{inr}
use Rattle.chip_model.specs.Memory.{byte}
use Rattle.erase_journal.proofs.Torn.{program-aside, same-after}
use Rattle.erase_journal.specs.Journals.{IsSettled}
use Rattle.erase_journal.proofs.Unopened.{none-only, open-opens, same-opens}
use Rattle.erase_journal.proofs.block_erase.open_entry.Goals as goal

pub returns-in_err-program-clause-cut : goal.returns-in_err-program-clause-cut
returns-in_err-program-clause-cut g c is healthy =
    let p = err_from_is_err_and c.from_residual-in_err-program.result c.from_residual-in_err-program.ensures.1 in
    let ready = ready-back (g.N.Nor.state c.args.nor.now) (g.N.Nor.state c.lowest_entry.new.nor) c.in_ok-entry.ensures.kept c.in_ok-take_entry.ensures.ends.ready in
    open-cut c.in_ok-entry.entry c.args.block (g.N.Nor.state c.args.nor.now).memory (g.N.Nor.state c.take_entry.new.nor).memory (g.N.Nor.state c.program.new.self).memory c.requires.size (c.requires.restful ready) c.in_ok-entry.ensures.within (rw c.in_ok-entry.ensures.same at c.in_ok-take_entry.ensures.ok) c.requires.data c.requires.range
    (rw c.entry_place.ensures at (c.in_err-program.ensures.cut (cc (p.1, p.2))))

pub returns-clause-opened : goal.returns-clause-opened
returns-clause-opened g c =
    let ready = ready-back (g.N.Nor.state c.args.nor.now) (g.N.Nor.state c.lowest_entry.new.nor) c.in_ok-entry.ensures.kept c.in_ok-take_entry.ensures.ends.ready in
    (open-ok c.in_ok-entry.entry c.args.block (g.N.Nor.state c.args.nor.now).memory (g.N.Nor.state c.take_entry.new.nor).memory (g.N.Nor.state c.program.new.self).memory c.requires.size (c.requires.restful ready) c.in_ok-entry.ensures.within (rw c.in_ok-entry.ensures.same at c.in_ok-take_entry.ensures.ok) c.requires.data c.requires.range (rw c.entry_place.ensures at c.in_ok-program.ensures.ok)).0

pub returns-clause-erased : goal.returns-clause-erased
returns-clause-erased g c =
    let ready = ready-back (g.N.Nor.state c.args.nor.now) (g.N.Nor.state c.lowest_entry.new.nor) c.in_ok-entry.ensures.kept c.in_ok-take_entry.ensures.ends.ready in
    (open-ok c.in_ok-entry.entry c.args.block (g.N.Nor.state c.args.nor.now).memory (g.N.Nor.state c.take_entry.new.nor).memory (g.N.Nor.state c.program.new.self).memory c.requires.size (c.requires.restful ready) c.in_ok-entry.ensures.within (rw c.in_ok-entry.ensures.same at c.in_ok-take_entry.ensures.ok) c.requires.data c.requires.range (rw c.entry_place.ensures at c.in_ok-program.ensures.ok)).1

pub returns-clause-lowest : goal.returns-clause-lowest
returns-clause-lowest g c =
    let ready = ready-back (g.N.Nor.state c.args.nor.now) (g.N.Nor.state c.lowest_entry.new.nor) c.in_ok-entry.ensures.kept c.in_ok-take_entry.ensures.ends.ready in
    c.in_ok-entry.ensures.lowest ready

pub returns-clause-used : goal.returns-clause-used
returns-clause-used g c =
    let ready = ready-back (g.N.Nor.state c.args.nor.now) (g.N.Nor.state c.lowest_entry.new.nor) c.in_ok-entry.ensures.kept c.in_ok-take_entry.ensures.ends.ready in
    opening-uses c.in_ok-entry.entry c.args.block (g.N.Nor.state c.args.nor.now).memory (g.N.Nor.state c.take_entry.new.nor).memory (g.N.Nor.state c.program.new.self).memory c.requires.size c.in_ok-entry.ensures.within (c.in_ok-entry.ensures.free ready)
    (rw c.in_ok-entry.ensures.same at c.in_ok-take_entry.ensures.ok) (rw c.entry_place.ensures at c.in_ok-program.ensures.ok)

pub returns-in_err-take_entry-clause-ends : goal.returns-in_err-take_entry-clause-ends
returns-in_err-take_entry-clause-ends g c =
    let s0 = g.N.Nor.state c.args.nor.now in
    let s1 = g.N.Nor.state c.lowest_entry.new.nor in
    let s2 = g.N.Nor.state c.take_entry.new.nor in
    fails-as c.from_residual-in_err-take_entry.result _ (λ _. Succeeds s0 s2) (λ e. Refuses e s0 s2) c.from_residual-in_err-take_entry.ensures.1
    (refuses-perhaps _ s0 s1 s2 c.in_ok-entry.ensures.idle c.in_ok-entry.ensures.kept c.in_err-take_entry.ensures.ends)

pub returns-in_err-program-clause-ends : goal.returns-in_err-program-clause-ends
returns-in_err-program-clause-ends g c =
    let s0 = g.N.Nor.state c.args.nor.now in
    let s2 = g.N.Nor.state c.take_entry.new.nor in
    let s3 = g.N.Nor.state c.program.new.self in
    let s = succeeds-back s0 (g.N.Nor.state c.lowest_entry.new.nor) s2 c.in_ok-entry.ensures.kept c.in_ok-take_entry.ensures.ends in
    fails-as c.from_residual-in_err-program.result _ (λ _. Succeeds s0 s3) (λ e. Refuses e s0 s3) c.from_residual-in_err-program.ensures.1
    (record { fails = fails-after _ s0 s2 s3 s.kept c.in_err-program.ensures.fails; first = first-ready _ s0 s3 s.ready })

pub returns-clause-ends : goal.returns-clause-ends
returns-clause-ends g c =
    let s0 = g.N.Nor.state c.args.nor.now in
    let s2 = g.N.Nor.state c.take_entry.new.nor in
    let s = succeeds-back s0 (g.N.Nor.state c.lowest_entry.new.nor) s2 c.in_ok-entry.ensures.kept c.in_ok-take_entry.ensures.ends in
    record { ready = s.ready; kept = kept-after s0 s2 (g.N.Nor.state c.program.new.self) s.kept c.in_ok-program.ensures.kept }

pub returns-in_err-entry-clause-loses : goal.returns-in_err-entry-clause-loses
returns-in_err-entry-clause-loses g c is = same-loses (g.N.Nor.state c.args.nor.now) (g.N.Nor.state c.lowest_entry.new.nor) c.in_err-entry.ensures.same c.in_err-entry.ensures.weak

pub returns-in_err-take_entry-clause-loses : goal.returns-in_err-take_entry-clause-loses
returns-in_err-take_entry-clause-loses g c is settled h =
    let p = err_from_is_err_and c.from_residual-in_err-take_entry.result c.from_residual-in_err-take_entry.ensures.1 in
    let s0 = g.N.Nor.state c.args.nor.now in
    let s1 = g.N.Nor.state c.lowest_entry.new.nor in
    let same = c.in_ok-entry.ensures.same in
    c.in_err-take_entry.ensures.loses (cc (p.1, p.2)) (subst (λ (m : List ℕ). IsHealthy m) (sym same) (settled-healthy s0.memory settled))
    (λ ready k under. ap (λ (m : List ℕ). is_free_entry m k) same ∙ c.in_ok-entry.ensures.lowest (ready-back s0 s1 c.in_ok-entry.ensures.kept ready) k under)
    (firm-as-before s0 s1 same c.in_ok-entry.ensures.weak h)

pub returns-in_err-program-clause-loses : goal.returns-in_err-program-clause-loses
returns-in_err-program-clause-loses g c is settled h =
    let p = err_from_is_err_and c.from_residual-in_err-program.result c.from_residual-in_err-program.ensures.1 in
    let s0 = g.N.Nor.state c.args.nor.now in
    let s1 = g.N.Nor.state c.lowest_entry.new.nor in
    let s2 = g.N.Nor.state c.take_entry.new.nor in
    let s3 = g.N.Nor.state c.program.new.self in
    let i = c.in_ok-entry.entry in
    let within = c.in_ok-entry.ensures.within in
    let h1 = firm-as-before s0 s1 c.in_ok-entry.ensures.same c.in_ok-entry.ensures.weak h in
    let h2 = entry-firm (bits_in s1) (bits_in s2) (entry_at i) 4 (omega arith) (omega (arith, within)) c.in_ok-take_entry.ensures.ends.kept.bits c.in_ok-take_entry.ensures.ok.spoiled h1 in
    let ready = ready-back s0 s1 c.in_ok-entry.ensures.kept c.in_ok-take_entry.ensures.ends.ready in
    let taken = rw c.in_ok-entry.ensures.same at c.in_ok-take_entry.ensures.ok in
    let t = taken-settled i s0.memory s2.memory (c.requires.restful ready) within taken.spoiled (λ e. let st = taken.state in omega (arith, e, st)) in
    let size = taken.spoiled.same_length in
    cuts.open-cut (bits_in s2) (bits_in s3) h2 (rw size c.requires.size) t.0.sound t.0.none i within taken.state taken.last (rw c.entry_place.ensures at (c.in_err-program.ensures.cut_bits (cc (p.1, p.2))))

pub returns-clause-stays : goal.returns-clause-stays
returns-clause-stays g c h =
    let s0 = g.N.Nor.state c.args.nor.now in
    let s1 = g.N.Nor.state c.lowest_entry.new.nor in
    let s2 = g.N.Nor.state c.take_entry.new.nor in
    let s3 = g.N.Nor.state c.program.new.self in
    let i = c.in_ok-entry.entry in
    let within = c.in_ok-entry.ensures.within in
    let h1 = firm-as-before s0 s1 c.in_ok-entry.ensures.same c.in_ok-entry.ensures.weak h in
    let h2 = entry-firm (bits_in s1) (bits_in s2) (entry_at i) 4 (omega arith) (omega (arith, within)) c.in_ok-take_entry.ensures.ends.kept.bits c.in_ok-take_entry.ensures.ok.spoiled h1 in
    let e = rw c.entry_place.ensures at c.in_ok-program.ensures.ok in
    entry-firm (bits_in s2) (bits_in s3) (entry_at i) 1 (omega arith) (omega (arith, within)) c.in_ok-program.ensures.kept.bits (subst (λ (m : List ℕ). Spoiled (entry_at i) 1 s2.memory m) (sym e) (and-spoiled s2.memory (entry_at i) (252 ∷ []))) h2

pub returns-in_err-program-clause-data : goal.returns-in_err-program-clause-data
returns-in_err-program-clause-data g c i from =
    let s0 = g.N.Nor.state c.args.nor.now in
    let s1 = g.N.Nor.state c.lowest_entry.new.nor in
    let s2 = g.N.Nor.state c.take_entry.new.nor in
    let s3 = g.N.Nor.state c.program.new.self in
    let place = c.entry_place.ensures in
    let w = c.in_ok-entry.ensures.within in
    let s = program-aside c.program.result s2 s3 c.entry_place.result (252 ∷ []) c.program.ensures.firm c.program.ensures.cut_bits c.program.ensures.slow c.program.ensures.slow_bits i (inr (omega (arith, from, place, w))) in
    same-after (bits_in s0) (bits_in s2) (bits_in s3) i (same-after (bits_in s0) (bits_in s1) (bits_in s2) i (ap (λ m. byte m i) c.in_ok-entry.ensures.same, ap (λ m. byte m i) c.in_ok-entry.ensures.weak) (c.in_ok-take_entry.ensures.data i from)) s

pub returns-clause-data : goal.returns-clause-data
returns-clause-data g c i from =
    let s0 = g.N.Nor.state c.args.nor.now in
    let s1 = g.N.Nor.state c.lowest_entry.new.nor in
    let s2 = g.N.Nor.state c.take_entry.new.nor in
    let s3 = g.N.Nor.state c.program.new.self in
    let place = c.entry_place.ensures in
    let w = c.in_ok-entry.ensures.within in
    let s = program-aside c.program.result s2 s3 c.entry_place.result (252 ∷ []) c.program.ensures.firm c.program.ensures.cut_bits c.program.ensures.slow c.program.ensures.slow_bits i (inr (omega (arith, from, place, w))) in
    same-after (bits_in s0) (bits_in s2) (bits_in s3) i (same-after (bits_in s0) (bits_in s1) (bits_in s2) i (ap (λ m. byte m i) c.in_ok-entry.ensures.same, ap (λ m. byte m i) c.in_ok-entry.ensures.weak) (c.in_ok-take_entry.ensures.data i from)) s

pub returns-in_err-entry-clause-opens : goal.returns-in_err-entry-clause-opens
returns-in_err-entry-clause-opens g c is settled h =
    let s1 = g.N.Nor.state c.lowest_entry.new.nor in
    none-only c.args.block (bits_in s1) (same-opens (g.N.Nor.state c.args.nor.now) s1 c.in_err-entry.ensures.same c.in_err-entry.ensures.weak settled h)

pub returns-in_err-take_entry-clause-opens : goal.returns-in_err-take_entry-clause-opens
returns-in_err-take_entry-clause-opens g c is settled h =
    let p = err_from_is_err_and c.from_residual-in_err-take_entry.result c.from_residual-in_err-take_entry.ensures.1 in
    let same = c.in_ok-entry.ensures.same in
    none-only c.args.block (bits_in (g.N.Nor.state c.take_entry.new.nor))
    (c.in_err-take_entry.ensures.opens (cc (p.1, p.2)) (subst (λ (m : List ℕ). IsSettled m) (sym same) settled)
    (firm-as-before (g.N.Nor.state c.args.nor.now) (g.N.Nor.state c.lowest_entry.new.nor) same c.in_ok-entry.ensures.weak h))

pub returns-in_err-program-clause-opens : goal.returns-in_err-program-clause-opens
returns-in_err-program-clause-opens g c is settled h =
    let p = err_from_is_err_and c.from_residual-in_err-program.result c.from_residual-in_err-program.ensures.1 in
    let s0 = g.N.Nor.state c.args.nor.now in
    let s1 = g.N.Nor.state c.lowest_entry.new.nor in
    let s2 = g.N.Nor.state c.take_entry.new.nor in
    let i = c.in_ok-entry.entry in
    let within = c.in_ok-entry.ensures.within in
    let h1 = firm-as-before s0 s1 c.in_ok-entry.ensures.same c.in_ok-entry.ensures.weak h in
    let h2 = entry-firm (bits_in s1) (bits_in s2) (entry_at i) 4 (omega arith) (omega (arith, within)) c.in_ok-take_entry.ensures.ends.kept.bits c.in_ok-take_entry.ensures.ok.spoiled h1 in
    let ready = ready-back s0 s1 c.in_ok-entry.ensures.kept c.in_ok-take_entry.ensures.ends.ready in
    let taken = rw c.in_ok-entry.ensures.same at c.in_ok-take_entry.ensures.ok in
    let t = taken-settled i s0.memory s2.memory (c.requires.restful ready) within taken.spoiled (λ e. let st = taken.state in omega (arith, e, st)) in
    open-opens (bits_in s2) (bits_in (g.N.Nor.state c.program.new.self)) h2 t.0.none i c.args.block within taken.last taken.names (rw c.entry_place.ensures at (c.in_err-program.ensures.cut_bits (cc (p.1, p.2))))
