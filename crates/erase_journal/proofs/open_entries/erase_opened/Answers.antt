use Rattle.std.proofs.Common.{◌/◌, ap, sym, ◌∙◌, arith}
use Rattle.std.proofs.lemmas.Bool.{true≢false}
use Rattle.std.proofs.lemmas.Result.{err_from_is_err_and, on_ok_weaker}
use Rattle.erase_journal.proofs.Renewal.{stands-on, same-blocks-on}
use Rattle.erase_journal.proofs.Opened.{none-named, none-open}
use Rattle.erase_journal.proofs.Reopening.{IsNamed, named-cut, named-erased, named-firm}
use Rattle.erase_journal.proofs.Scans.{open-found, buffer-open}
use Rattle.erase_journal.proofs.Uses.{keeps-on}
use Rattle.nor_driver.proofs.CallLaws.{kept-after}
use Rattle.erase_journal.proofs.SettledLaws.{settles-since}
use Rattle.erase_journal.proofs.open_entries.erase_opened.Goals as goal

pub returns-in_default-clause-ends : goal.returns-in_default-clause-ends
returns-in_default-clause-ends g c =
    let m = (g.N.Nor.state c.args.nor.now).memory in
    let found = open-found m c.read.new.into (c.bytes.result / 4096) c.lowest_open.result (rw c.entry_place.ensures at c.in_ok-read.ensures.ok) (ap (λ n. n / 4096) c.bytes.ensures) c.lowest_open.ensures.found in
    let none = rw c.in_default.is at found in
    record { ready = c.in_ok-read.ensures.ready; kept = c.in_ok-read.ensures.kept; settled = rw c.in_ok-read.ensures.same (record { sound = c.requires.idle; none = none }) }

pub returns-in_err-erase_small-clause-cut : goal.returns-in_err-erase_small-clause-cut
returns-in_err-erase_small-clause-cut g c is =
    let p = err_from_is_err_and c.from_residual-in_err-erase_small.result c.from_residual-in_err-erase_small.ensures.1 in
    let m = (g.N.Nor.state c.args.nor.now).memory in
    let found = open-found m c.read.new.into (c.bytes.result / 4096) c.lowest_open.result (rw c.entry_place.ensures at c.in_ok-read.ensures.ok) (ap (λ n. n / 4096) c.bytes.ensures) c.lowest_open.ensures.found in
    let o = rw c.in-Some.is at found in
    let named : IsNamed c.in-Some.open.entry c.in-Some.open.block m = record { within = o.0; opened = o.1; names = o.2 } in
    named-cut c.in-Some.open.entry c.in-Some.open.block m (g.N.Nor.state c.erase_small.new.self).memory c.requires.idle named (rw c.in_ok-read.ensures.same at (c.in_err-erase_small.ensures.cut (cc (p.1, p.2))))

pub close_opened-requires-clause-sound : goal.close_opened-requires-clause-sound
close_opened-requires-clause-sound g c =
    let m = (g.N.Nor.state c.args.nor.now).memory in
    let found = open-found m c.read.new.into (c.bytes.result / 4096) c.lowest_open.result (rw c.entry_place.ensures at c.in_ok-read.ensures.ok) (ap (λ n. n / 4096) c.bytes.ensures) c.lowest_open.ensures.found in
    let o = rw c.in-Some.is at found in
    let named : IsNamed c.in-Some.open.entry c.in-Some.open.block m = record { within = o.0; opened = o.1; names = o.2 } in
    let m1 = (g.N.Nor.state c.erase_small.new.self).memory in
    let e = named-erased c.in-Some.open.entry c.in-Some.open.block m m1 c.requires.idle named (rw c.in_ok-read.ensures.same at c.in_ok-erase_small.ensures.ok) in
    e.sound

pub close_opened-requires-clause-erased : goal.close_opened-requires-clause-erased
close_opened-requires-clause-erased g c =
    let m = (g.N.Nor.state c.args.nor.now).memory in
    let found = open-found m c.read.new.into (c.bytes.result / 4096) c.lowest_open.result (rw c.entry_place.ensures at c.in_ok-read.ensures.ok) (ap (λ n. n / 4096) c.bytes.ensures) c.lowest_open.ensures.found in
    let o = rw c.in-Some.is at found in
    let named : IsNamed c.in-Some.open.entry c.in-Some.open.block m = record { within = o.0; opened = o.1; names = o.2 } in
    let m1 = (g.N.Nor.state c.erase_small.new.self).memory in
    let e = named-erased c.in-Some.open.entry c.in-Some.open.block m m1 c.requires.idle named (rw c.in_ok-read.ensures.same at c.in_ok-erase_small.ensures.ok) in
    e.are_erased

pub close_opened-requires-clause-read : goal.close_opened-requires-clause-read
close_opened-requires-clause-read g c i low =
    let m = (g.N.Nor.state c.args.nor.now).memory in
    let found = open-found m c.read.new.into (c.bytes.result / 4096) c.lowest_open.result (rw c.entry_place.ensures at c.in_ok-read.ensures.ok) (ap (λ n. n / 4096) c.bytes.ensures) c.lowest_open.ensures.found in
    let o = rw c.in-Some.is at found in
    let named : IsNamed c.in-Some.open.entry c.in-Some.open.block m = record { within = o.0; opened = o.1; names = o.2 } in
    let m1 = (g.N.Nor.state c.erase_small.new.self).memory in
    let e = named-erased c.in-Some.open.entry c.in-Some.open.block m m1 c.requires.idle named (rw c.in_ok-read.ensures.same at c.in_ok-erase_small.ensures.ok) in
    let bytes = rw c.entry_place.ensures at c.in_ok-read.ensures.ok in
    rw (bytes, c.bytes.ensures) (buffer-open m i low) ∙ sym (e.opened i low)

pub returns-clause-numbers : goal.returns-clause-numbers
returns-clause-numbers g c =
    let m = (g.N.Nor.state c.args.nor.now).memory in
    let found = open-found m c.read.new.into (c.bytes.result / 4096) c.lowest_open.result (rw c.entry_place.ensures at c.in_ok-read.ensures.ok) (ap (λ n. n / 4096) c.bytes.ensures) c.lowest_open.ensures.found in
    let o = rw c.in-Some.is at found in
    let named : IsNamed c.in-Some.open.entry c.in-Some.open.block m = record { within = o.0; opened = o.1; names = o.2 } in
    let m1 = (g.N.Nor.state c.erase_small.new.self).memory in
    let e = named-erased c.in-Some.open.entry c.in-Some.open.block m m1 c.requires.idle named (rw c.in_ok-read.ensures.same at c.in_ok-erase_small.ensures.ok) in
    on_ok_weaker c.close_opened.result (λ k. (keeps-on m m1 (g.N.Nor.state c.close_opened.new.nor).memory e.keeps k).numbers) c.close_opened.ensures.uses

pub returns-clause-blocks : goal.returns-clause-blocks
returns-clause-blocks g c =
    let m = (g.N.Nor.state c.args.nor.now).memory in
    let found = open-found m c.read.new.into (c.bytes.result / 4096) c.lowest_open.result (rw c.entry_place.ensures at c.in_ok-read.ensures.ok) (ap (λ n. n / 4096) c.bytes.ensures) c.lowest_open.ensures.found in
    let o = rw c.in-Some.is at found in
    let named : IsNamed c.in-Some.open.entry c.in-Some.open.block m = record { within = o.0; opened = o.1; names = o.2 } in
    let m1 = (g.N.Nor.state c.erase_small.new.self).memory in
    let e = named-erased c.in-Some.open.entry c.in-Some.open.block m m1 c.requires.idle named (rw c.in_ok-read.ensures.same at c.in_ok-erase_small.ensures.ok) in
    on_ok_weaker c.close_opened.result (λ s. same-blocks-on m m1 (g.N.Nor.state c.close_opened.new.nor).memory e.blocks s) (search)

pub returns-clause-cut : goal.returns-clause-cut
returns-clause-cut g c is =
    let m = (g.N.Nor.state c.args.nor.now).memory in
    let found = open-found m c.read.new.into (c.bytes.result / 4096) c.lowest_open.result (rw c.entry_place.ensures at c.in_ok-read.ensures.ok) (ap (λ n. n / 4096) c.bytes.ensures) c.lowest_open.ensures.found in
    let o = rw c.in-Some.is at found in
    let named : IsNamed c.in-Some.open.entry c.in-Some.open.block m = record { within = o.0; opened = o.1; names = o.2 } in
    let m1 = (g.N.Nor.state c.erase_small.new.self).memory in
    let e = named-erased c.in-Some.open.entry c.in-Some.open.block m m1 c.requires.idle named (rw c.in_ok-read.ensures.same at c.in_ok-erase_small.ensures.ok) in
    stands-on m m1 (g.N.Nor.state c.close_opened.new.nor).memory e.blocks (c.close_opened.ensures.cut is)

pub returns-clause-ends : goal.returns-clause-ends
returns-clause-ends g c =
    let s0 = g.N.Nor.state c.args.nor.now in
    let s1 = g.N.Nor.state c.read.new.self in
    let s2 = g.N.Nor.state c.erase_small.new.self in
    let s3 = g.N.Nor.state c.close_opened.new.nor in
    settles-since c.close_opened.result s0 s2 s3 c.in_ok-read.ensures.ready (kept-after s0 s1 s2 c.in_ok-read.ensures.kept c.in_ok-erase_small.ensures.kept) c.close_opened.ensures.ends

pub returns-in_err-erase_small-clause-rests : goal.returns-in_err-erase_small-clause-rests
returns-in_err-erase_small-clause-rests g c none =
    let m = (g.N.Nor.state c.args.nor.now).memory in
    let found = open-found m c.read.new.into (c.bytes.result / 4096) c.lowest_open.result (rw c.entry_place.ensures at c.in_ok-read.ensures.ok) (ap (λ n. n / 4096) c.bytes.ensures) c.lowest_open.ensures.found in
    let o = rw c.in-Some.is at found in
    absurd (true≢false (sym o.1 ∙ none-open m none c.in-Some.open.entry o.0))

pub returns-clause-rests : goal.returns-clause-rests
returns-clause-rests g c none =
    let m = (g.N.Nor.state c.args.nor.now).memory in
    let found = open-found m c.read.new.into (c.bytes.result / 4096) c.lowest_open.result (rw c.entry_place.ensures at c.in_ok-read.ensures.ok) (ap (λ n. n / 4096) c.bytes.ensures) c.lowest_open.ensures.found in
    let o = rw c.in-Some.is at found in
    absurd (true≢false (sym o.1 ∙ none-open m none c.in-Some.open.entry o.0))

pub returns-in_default-clause-firm : goal.returns-in_default-clause-firm
returns-in_default-clause-firm g c b some =
    let m = (g.N.Nor.state c.args.nor.now).memory in
    let found = open-found m c.read.new.into (c.bytes.result / 4096) c.lowest_open.result (rw c.entry_place.ensures at c.in_ok-read.ensures.ok) (ap (λ n. n / 4096) c.bytes.ensures) c.lowest_open.ensures.found in
    let none = rw c.in_default.is at found in
    absurd (omega (arith, some, none-named m b none))

pub returns-clause-firm : goal.returns-clause-firm
returns-clause-firm g c =
    let m = (g.N.Nor.state c.args.nor.now).memory in
    let found = open-found m c.read.new.into (c.bytes.result / 4096) c.lowest_open.result (rw c.entry_place.ensures at c.in_ok-read.ensures.ok) (ap (λ n. n / 4096) c.bytes.ensures) c.lowest_open.ensures.found in
    let o = rw c.in-Some.is at found in
    let named : IsNamed c.in-Some.open.entry c.in-Some.open.block m = record { within = o.0; opened = o.1; names = o.2 } in
    named-firm c.in-Some.open.entry c.in-Some.open.block m (g.N.Nor.state c.read.new.self) (g.N.Nor.state c.erase_small.new.self) (g.N.Nor.state c.close_opened.new.nor) c.close_opened.result c.requires.idle named
    c.in_ok-erase_small.ensures.firm c.close_opened.ensures.ends
