use Rattle.std.proofs.Common.{◌≡◌, ◌+◌, ℕ, List, length, refl, ap, ◌∙◌, sym, subst, arith}
use Rattle.std.proofs.lemmas.Result.{on_ok_weaker}
use Rattle.std.specs.Prelude.{slice_range}
use Rattle.chip_model.specs.Memory.{byte}
use Rattle.nor_driver.specs.State.{bits_in}
use Rattle.erase_journal.specs.Weak.{AreZerosFirm}
use Rattle.erase_journal.proofs.Data.{slice-byte}
use Rattle.erase_journal.proofs.WeakLaws.{blank-firm}
use Rattle.erase_journal.proofs.Still.{firmer-still}
use Rattle.nor_driver.proofs.Firmer.{firmer-on}
use Rattle.erase_journal.proofs.again.program_page_again.Goals as goal

pub returns-then-is_blank-clause-firm : goal.returns-then-is_blank-clause-firm
returns-then-is_blank-clause-firm g c =
    let m = (g.N.Nor.state c.args.nor.now).memory in
    let new = g.N.Nor.state c.read.new.self in
    let same : new.memory ≡ m = c.in_ok-read.ensures.same in
    let long : length c.read.new.into ≡ 256 = c.read.auto.into in
    let read : c.read.new.into ≡ slice_range m c.args.at (c.args.at + 256) = c.in_ok-read.ensures.ok in
    blank-firm (bits_in new) c.args.at 256 (λ k low.
    ap (λ (x : List ℕ). byte x (c.args.at + k)) same
    ∙ (sym (ap (λ (x : List ℕ). byte x k) read ∙ slice-byte m c.args.at 256 k low)
    ∙ c.if-is_blank.ensures.blank refl k (omega (arith, long, low))))

pub returns-clause-firm : goal.returns-clause-firm
returns-clause-firm g c =
    let long : length c.read.new.into ≡ 256 = c.read.auto.into in
    on_ok_weaker c.program_again.result (λ f. subst (λ n. AreZerosFirm (bits_in (g.N.Nor.state c.program_again.new.nor)) c.args.at n) long f) c.program_again.ensures.firm

pub returns-clause-firmer : goal.returns-clause-firmer
returns-clause-firmer g c =
    let b0 = bits_in (g.N.Nor.state c.args.nor.now) in
    let b1 = bits_in (g.N.Nor.state c.read.new.self) in
    let b2 = bits_in (g.N.Nor.state c.program_again.new.nor) in
    firmer-on b0 b1 b2 (firmer-still b0 b1 c.in_ok-read.ensures.same c.in_ok-read.ensures.weak) c.program_again.ensures.firmer

pub returns-then-is_blank-clause-firmer : goal.returns-then-is_blank-clause-firmer
returns-then-is_blank-clause-firmer g c = firmer-still (bits_in (g.N.Nor.state c.args.nor.now)) (bits_in (g.N.Nor.state c.read.new.self)) c.in_ok-read.ensures.same c.in_ok-read.ensures.weak

pub returns-in_err-read-clause-firmer : goal.returns-in_err-read-clause-firmer
returns-in_err-read-clause-firmer g c = firmer-still (bits_in (g.N.Nor.state c.args.nor.now)) (bits_in (g.N.Nor.state c.read.new.self)) c.in_err-read.ensures.same c.in_err-read.ensures.weak
