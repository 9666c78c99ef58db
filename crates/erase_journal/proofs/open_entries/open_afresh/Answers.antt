use Rattle.std.proofs.lemmas.Result.{err_from_is_err_and}
use Rattle.erase_journal.proofs.Reopening.{IsNamed, join-ok, join-cut, join-named}
use Rattle.erase_journal.proofs.Uses.{opening-uses}
use Rattle.nor_driver.proofs.CallLaws.{fails-as, fails-after, first-ready, kept-after, refuses-after, succeeds-after}
use Rattle.nor_driver.specs.State.{Succeeds, Refuses}
use Rattle.erase_journal.proofs.open_entries.open_afresh.Goals as goal

pub returns-in_err-program-clause-cut : goal.returns-in_err-program-clause-cut
returns-in_err-program-clause-cut g c is =
    let p = err_from_is_err_and c.from_residual-in_err-program.result c.from_residual-in_err-program.ensures.1 in
    let m = (g.N.Nor.state c.args.nor.now).memory in
    let found = rw c.in-Some.is at c.in_ok-opened.ensures.found in
    let free = rw (c.in-Some-free.is, c.in_ok-opened.ensures.same) at c.in_ok-free.ensures.found in
    let taken = rw (c.in_ok-free.ensures.same, c.in_ok-opened.ensures.same) at c.in_ok-take_entry.ensures.ok in
    let named : IsNamed c.in-Some.open.entry c.in-Some.open.block m = record { within = found.0; opened = found.1; names = found.2 } in
    join-cut c.in-Some-free.entry c.in-Some.open.block c.in-Some.open.entry m (g.N.Nor.state c.take_entry.new.nor).memory (g.N.Nor.state c.program.new.self).memory c.requires.may named free.0 free.1 taken c.requires.size
    (rw c.entry_place.ensures at (c.in_err-program.ensures.cut (cc (p.1, p.2))))

pub returns-clause-sound : goal.returns-clause-sound
returns-clause-sound g c =
    let m = (g.N.Nor.state c.args.nor.now).memory in
    let found = rw c.in-Some.is at c.in_ok-opened.ensures.found in
    let free = rw (c.in-Some-free.is, c.in_ok-opened.ensures.same) at c.in_ok-free.ensures.found in
    let taken = rw (c.in_ok-free.ensures.same, c.in_ok-opened.ensures.same) at c.in_ok-take_entry.ensures.ok in
    let named : IsNamed c.in-Some.open.entry c.in-Some.open.block m = record { within = found.0; opened = found.1; names = found.2 } in
    (join-ok c.in-Some-free.entry c.in-Some.open.block c.in-Some.open.entry m (g.N.Nor.state c.take_entry.new.nor).memory (g.N.Nor.state c.program.new.self).memory c.requires.may named free.0 free.1 taken c.requires.size
    (rw c.entry_place.ensures at c.in_ok-program.ensures.ok)).0

pub returns-clause-blocks : goal.returns-clause-blocks
returns-clause-blocks g c =
    let m = (g.N.Nor.state c.args.nor.now).memory in
    let found = rw c.in-Some.is at c.in_ok-opened.ensures.found in
    let free = rw (c.in-Some-free.is, c.in_ok-opened.ensures.same) at c.in_ok-free.ensures.found in
    let taken = rw (c.in_ok-free.ensures.same, c.in_ok-opened.ensures.same) at c.in_ok-take_entry.ensures.ok in
    let named : IsNamed c.in-Some.open.entry c.in-Some.open.block m = record { within = found.0; opened = found.1; names = found.2 } in
    (join-ok c.in-Some-free.entry c.in-Some.open.block c.in-Some.open.entry m (g.N.Nor.state c.take_entry.new.nor).memory (g.N.Nor.state c.program.new.self).memory c.requires.may named free.0 free.1 taken c.requires.size
    (rw c.entry_place.ensures at c.in_ok-program.ensures.ok)).1

pub returns-clause-numbers : goal.returns-clause-numbers
returns-clause-numbers g c =
    let m = (g.N.Nor.state c.args.nor.now).memory in
    let free = rw (c.in-Some-free.is, c.in_ok-opened.ensures.same) at c.in_ok-free.ensures.found in
    let taken = rw (c.in_ok-free.ensures.same, c.in_ok-opened.ensures.same) at c.in_ok-take_entry.ensures.ok in
    (opening-uses c.in-Some-free.entry c.in-Some.open.block m (g.N.Nor.state c.take_entry.new.nor).memory (g.N.Nor.state c.program.new.self).memory c.requires.size free.0 free.1 taken
    (rw c.entry_place.ensures at c.in_ok-program.ensures.ok)).numbers

pub returns-in_err-free-clause-ends : goal.returns-in_err-free-clause-ends
returns-in_err-free-clause-ends g c =
    let s0 = g.N.Nor.state c.args.nor.now in
    let s1 = g.N.Nor.state c.find_open.new.nor in
    let s2 = g.N.Nor.state c.find_free.new.nor in
    fails-as c.from_residual-in_err-free.result _ (λ _. Succeeds s0 s2) (λ e. Refuses e s0 s2) c.from_residual-in_err-free.ensures.1
    (refuses-after _ s0 s1 s2 c.in_ok-opened.ensures.ends c.in_err-free.ensures.ends)

pub returns-in_err-take_entry-clause-ends : goal.returns-in_err-take_entry-clause-ends
returns-in_err-take_entry-clause-ends g c =
    let s0 = g.N.Nor.state c.args.nor.now in
    let s1 = g.N.Nor.state c.find_open.new.nor in
    let s2 = g.N.Nor.state c.find_free.new.nor in
    let s3 = g.N.Nor.state c.take_entry.new.nor in
    fails-as c.from_residual-in_err-take_entry.result _ (λ _. Succeeds s0 s3) (λ e. Refuses e s0 s3) c.from_residual-in_err-take_entry.ensures.1
    (refuses-after _ s0 s2 s3 (succeeds-after s0 s1 s2 c.in_ok-opened.ensures.ends c.in_ok-free.ensures.ends) c.in_err-take_entry.ensures.ends)

pub returns-in_err-program-clause-ends : goal.returns-in_err-program-clause-ends
returns-in_err-program-clause-ends g c =
    let s0 = g.N.Nor.state c.args.nor.now in
    let s1 = g.N.Nor.state c.find_open.new.nor in
    let s2 = g.N.Nor.state c.find_free.new.nor in
    let s3 = g.N.Nor.state c.take_entry.new.nor in
    let s4 = g.N.Nor.state c.program.new.self in
    let s = succeeds-after s0 s2 s3 (succeeds-after s0 s1 s2 c.in_ok-opened.ensures.ends c.in_ok-free.ensures.ends) c.in_ok-take_entry.ensures.ends in
    fails-as c.from_residual-in_err-program.result _ (λ _. Succeeds s0 s4) (λ e. Refuses e s0 s4) c.from_residual-in_err-program.ensures.1
    (record { fails = fails-after _ s0 s3 s4 s.kept c.in_err-program.ensures.fails; first = first-ready _ s0 s4 s.ready })

pub returns-clause-ends : goal.returns-clause-ends
returns-clause-ends g c =
    let s0 = g.N.Nor.state c.args.nor.now in
    let s1 = g.N.Nor.state c.find_open.new.nor in
    let s2 = g.N.Nor.state c.find_free.new.nor in
    let s3 = g.N.Nor.state c.take_entry.new.nor in
    let s4 = g.N.Nor.state c.program.new.self in
    let s = succeeds-after s0 s2 s3 (succeeds-after s0 s1 s2 c.in_ok-opened.ensures.ends c.in_ok-free.ensures.ends) c.in_ok-take_entry.ensures.ends in
    record { ready = s.ready; kept = kept-after s0 s3 s4 s.kept c.in_ok-program.ensures.kept }

pub returns-clause-opened : goal.returns-clause-opened
returns-clause-opened g c =
    let m = (g.N.Nor.state c.args.nor.now).memory in
    let found = rw c.in-Some.is at c.in_ok-opened.ensures.found in
    let free = rw (c.in-Some-free.is, c.in_ok-opened.ensures.same) at c.in_ok-free.ensures.found in
    let taken = rw (c.in_ok-free.ensures.same, c.in_ok-opened.ensures.same) at c.in_ok-take_entry.ensures.ok in
    let named : IsNamed c.in-Some.open.entry c.in-Some.open.block m = record { within = found.0; opened = found.1; names = found.2 } in
    join-named c.in-Some-free.entry c.in-Some.open.block c.in-Some.open.entry m (g.N.Nor.state c.take_entry.new.nor).memory (g.N.Nor.state c.program.new.self).memory c.requires.may named free.0 free.1 taken c.requires.size
    (rw c.entry_place.ensures at c.in_ok-program.ensures.ok)
