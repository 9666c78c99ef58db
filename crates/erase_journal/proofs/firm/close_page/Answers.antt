use Rattle.std.proofs.Common.{◌≡◌, ◌+◌, ◌*◌, true, false, refl, sym, ap, ◌∙◌, arith, length}
use Rattle.std.specs.Int.{bit_at}
use Rattle.std.proofs.lemmas.Result.{on_ok_weaker}
use Rattle.chip_model.specs.Memory.{byte, and_at}
use Rattle.chip_model.specs.Wavering.{Bits}
use Rattle.nor_driver.specs.State.{bits_in, Succeeds, changed_whole}
use Rattle.nor_driver.proofs.CallLaws.{refuses-then}
use Rattle.erase_journal.proofs.Closing.{page-done, closed-cut}
use Rattle.erase_journal.proofs.SettledLaws.{settled-of, settled-then, ends-settled}
use Rattle.erase_journal.specs.Scans.{is_free_in}
use Rattle.erase_journal.proofs.FirmJournals.{free-read, program-clears, programmed-good}
use Rattle.std.proofs.Common.{inr}
use Rattle.erase_journal.proofs.Torn.{program-aside}
use Rattle.erase_journal.proofs.firm.close_page.Goals as goal

pub returns-clause-blocks : goal.returns-clause-blocks
returns-clause-blocks g c =
    let m = (g.N.Nor.state c.args.nor.now).memory in
    let place : c.entry_place-at.result ≡ 6144 + 4 * (64 * c.args.page) = omega (arith, c.entry_place-at.ensures) in
    let h = c.requires.settled c.in_ok-read.ensures.ready in
    let size : length c.close_used.new.bytes ≡ 256 = omega (arith, c.close_used.ensures.size, c.read.auto.into) in
    on_ok_weaker c.program.result (λ e. (page-done m c.read.new.into c.close_used.new.bytes (g.N.Nor.state c.program.new.self).memory c.entry_place-at.result c.args.page place c.requires.page
    c.requires.size c.in_ok-read.ensures.ok size c.close_used.ensures.each h (changed_whole e)).same) (rw c.in_ok-read.ensures.same at c.program.ensures.ok)

pub returns-clause-uses : goal.returns-clause-uses
returns-clause-uses g c =
    let m = (g.N.Nor.state c.args.nor.now).memory in
    let place : c.entry_place-at.result ≡ 6144 + 4 * (64 * c.args.page) = omega (arith, c.entry_place-at.ensures) in
    let h = c.requires.settled c.in_ok-read.ensures.ready in
    let size : length c.close_used.new.bytes ≡ 256 = omega (arith, c.close_used.ensures.size, c.read.auto.into) in
    on_ok_weaker c.program.result (λ e. (page-done m c.read.new.into c.close_used.new.bytes (g.N.Nor.state c.program.new.self).memory c.entry_place-at.result c.args.page place c.requires.page
    c.requires.size c.in_ok-read.ensures.ok size c.close_used.ensures.each h (changed_whole e)).uses) (rw c.in_ok-read.ensures.same at c.program.ensures.ok)

pub returns-clause-cut : goal.returns-clause-cut
returns-clause-cut g c is healthy =
    let m = (g.N.Nor.state c.args.nor.now).memory in
    let place : c.entry_place-at.result ≡ 6144 + 4 * (64 * c.args.page) = omega (arith, c.entry_place-at.ensures) in
    let h = c.requires.settled c.in_ok-read.ensures.ready in
    let size : length c.close_used.new.bytes ≡ 256 = omega (arith, c.close_used.ensures.size, c.read.auto.into) in
    closed-cut m (g.N.Nor.state c.program.new.self).memory (page-done m c.read.new.into c.close_used.new.bytes (g.N.Nor.state c.program.new.self).memory c.entry_place-at.result c.args.page place c.requires.page
    c.requires.size c.in_ok-read.ensures.ok size c.close_used.ensures.each h (rw c.in_ok-read.ensures.same at (c.program.ensures.cut is)))

pub returns-clause-ends : goal.returns-clause-ends
returns-clause-ends g c =
    let a = g.N.Nor.state c.args.nor.now in
    let b = g.N.Nor.state c.read.new.self in
    let d = g.N.Nor.state c.program.new.self in
    let m = a.memory in
    let place : c.entry_place-at.result ≡ 6144 + 4 * (64 * c.args.page) = omega (arith, c.entry_place-at.ensures) in
    let h = c.requires.settled c.in_ok-read.ensures.ready in
    let size : length c.close_used.new.bytes ≡ 256 = omega (arith, c.close_used.ensures.size, c.read.auto.into) in
    let s = on_ok_weaker c.program.result (λ e. (page-done m c.read.new.into c.close_used.new.bytes d.memory c.entry_place-at.result c.args.page place c.requires.page
    c.requires.size c.in_ok-read.ensures.ok size c.close_used.ensures.each h (changed_whole e)).settled) (rw c.in_ok-read.ensures.same at c.program.ensures.ok) in
    let first : Succeeds a b = record { ready = c.in_ok-read.ensures.ready; kept = c.in_ok-read.ensures.kept } in
    ends-settled c.program.result a d
    (settled-then a b d c.program.result first (settled-of b d c.program.result c.program.ensures.ready c.program.ensures.kept s))
    (refuses-then a b d c.program.result first c.program.ensures.fails)

pub returns-then-is_blank-clause-closed : goal.returns-then-is_blank-clause-closed
returns-then-is_blank-clause-closed g c i low used =
    let m = (g.N.Nor.state c.args.nor.now).memory in
    let b = c.read.new.into in
    let place : c.entry_place-at.result ≡ 6144 + 4 * (64 * c.args.page) = omega (arith, c.entry_place-at.ensures) in
    let free = free-read m b c.entry_place-at.result c.args.page i place c.in_ok-read.ensures.ok low in
    let blank = c.is_blank.ensures.blank c.if-is_blank.true in
    let f0 = blank (4 * i) (omega (arith, low, c.read.auto.into)) in
    let f1 = blank (4 * i + 1) (omega (arith, low, c.read.auto.into)) in
    let f2 = blank (4 * i + 2) (omega (arith, low, c.read.auto.into)) in
    let f3 = blank (4 * i + 3) (omega (arith, low, c.read.auto.into)) in
    let all : is_free_in b i ≡ true = rw (f0, f1, f2, f3) refl in
    absurd (cc (rw c.in_ok-read.ensures.same at used, free, all))

pub returns-clause-closed : goal.returns-clause-closed
returns-clause-closed g c =
    let s1 = g.N.Nor.state c.read.new.self in
    let s2 = g.N.Nor.state c.program.new.self in
    let m = (g.N.Nor.state c.args.nor.now).memory in
    let p = c.args.page in
    let at = c.entry_place-at.result in
    let bytes = c.close_used.new.bytes in
    let place : at ≡ 6144 + 4 * (64 * p) = omega (arith, c.entry_place-at.ensures) in
    let h = c.requires.settled c.in_ok-read.ensures.ready in
    let size : length bytes ≡ 256 = omega (arith, c.close_used.ensures.size, c.read.auto.into) in
    on_ok_weaker c.program.result (λ is. λ i low used.
    let whole : s2.memory ≡ and_at m at bytes = ap (λ (x : Bits). x.shown) is ∙ ap (λ z. and_at z at bytes) c.in_ok-read.ensures.same in
    let uses = (page-done m c.read.new.into bytes s2.memory at p place c.requires.page c.requires.size c.in_ok-read.ensures.ok size c.close_used.ensures.each h (changed_whole whole)).uses in
    let free = free-read m c.read.new.into at p i place c.in_ok-read.ensures.ok low in
    let was : is_free_in c.read.new.into i ≡ false = sym free ∙ (sym (uses.entries (64 * p + i) (omega (arith, low, c.requires.page))) ∙ used) in
    let last = c.close_used.ensures.closed i low was in
    programmed-good (bits_in s1) (bits_in s2) at bytes (64 * p + i) (4 * i + 3) is (omega (arith, place)) (omega (arith, size, low)) (omega (arith, last)) (λ e. omega (arith, e, last))) c.program.ensures.firm

pub returns-clause-clears : goal.returns-clause-clears
returns-clause-clears g c =
    let m = (g.N.Nor.state c.args.nor.now).memory in
    on_ok_weaker c.program.result (λ e. λ i k reads. ap (λ z. bit_at (byte z i) k) e ∙ program-clears m c.entry_place-at.result c.close_used.new.bytes i k reads) (rw c.in_ok-read.ensures.same at c.program.ensures.ok)

pub returns-clause-data : goal.returns-clause-data
returns-clause-data g c i from =
    let at = c.entry_place-at.ensures in
    let page = c.requires.page in
    let size : length c.close_used.new.bytes ≡ 256 = omega (arith, c.close_used.ensures.size, c.read.auto.into) in
    let s = program-aside c.program.result (g.N.Nor.state c.read.new.self) (g.N.Nor.state c.program.new.self) c.entry_place-at.result c.close_used.new.bytes c.program.ensures.firm c.program.ensures.cut_bits c.program.ensures.slow c.program.ensures.slow_bits i (inr (omega (arith, at, page, size, from))) in
    (s.0 ∙ ap (λ m. byte m i) c.in_ok-read.ensures.same, s.1 ∙ ap (λ m. byte m i) c.in_ok-read.ensures.weak)
