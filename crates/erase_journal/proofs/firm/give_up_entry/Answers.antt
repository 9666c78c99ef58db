use Rattle.std.proofs.Common.{◌≡◌, ◌+◌, ◌*◌, [], ◌∷◌, ap, ◌∙◌, arith, inl, inr, lit<}
use Rattle.std.proofs.lemmas.Result.{err_from_is_err_and}
use Rattle.std.specs.Prelude.{Err}
use Rattle.nor_driver.specs.State.{bits_in, Refuses}
use Rattle.nor_driver.proofs.CallLaws.{fails-as, ready-back, refuses-of, refuses-perhaps, kept-after}
use Rattle.erase_journal.specs.Steps.{SucceedsSettled}
use Rattle.erase_journal.proofs.Closing.{given-ok, given-cut, given-used}
use Rattle.erase_journal.proofs.Knowing.{used-known}
use Rattle.erase_journal.proofs.Renewal.{stands-refl}
use Rattle.erase_journal.proofs.Ready.{cut-or-ready}
use Rattle.erase_journal.proofs.FirmJournals.{programmed-good}
use Rattle.chip_model.specs.Memory.{byte}
use Rattle.erase_journal.proofs.Torn.{program-aside}
use Rattle.erase_journal.proofs.firm.give_up_entry.Goals as goal

pub returns-in_err-program-clause-cut : goal.returns-in_err-program-clause-cut
returns-in_err-program-clause-cut g c is healthy =
    let a = g.N.Nor.state c.args.nor.now in
    let b = g.N.Nor.state c.lowest_entry.new.nor in
    let d = g.N.Nor.state c.program.new.self in
    let p = err_from_is_err_and c.from_residual-in_err-program.result c.from_residual-in_err-program.ensures.1 in
    let place : c.entry_place.result + 3 ≡ 6144 + 4 * c.in_ok-entry.entry + 3 = omega (arith, c.entry_place.ensures) in
    elim (cut-or-ready b d _ c.in_err-program.ensures.latches (cc (p.1, p.2))) [
      | inl on ↦
          let ready = ready-back a b c.in_ok-entry.ensures.kept on in
          given-cut a.memory c.in_ok-entry.entry c.requires.size c.in_ok-entry.ensures.within (c.in_ok-entry.ensures.free ready) d.memory (c.requires.restful ready)
          (rw (place, c.in_ok-entry.ensures.same) at (c.in_err-program.ensures.cut (cc (p.1, p.2))))
      | inr same ↦ rw (ap (λ s. s.memory) same ∙ c.in_ok-entry.ensures.same) (stands-refl a.memory healthy)
    ]

pub returns-clause-blocks : goal.returns-clause-blocks
returns-clause-blocks g c =
    let a = g.N.Nor.state c.args.nor.now in
    let b = g.N.Nor.state c.lowest_entry.new.nor in
    let place : c.entry_place.result + 3 ≡ 6144 + 4 * c.in_ok-entry.entry + 3 = omega (arith, c.entry_place.ensures) in
    let ready = ready-back a b c.in_ok-entry.ensures.kept c.in_ok-program.ensures.ready in
    (given-ok a.memory c.in_ok-entry.entry c.requires.size c.in_ok-entry.ensures.within (c.in_ok-entry.ensures.free ready) (g.N.Nor.state c.program.new.self).memory (c.requires.restful ready)
    (rw (place, c.in_ok-entry.ensures.same) at c.in_ok-program.ensures.ok)).1

pub returns-clause-numbers : goal.returns-clause-numbers
returns-clause-numbers g c =
    let a = g.N.Nor.state c.args.nor.now in
    let b = g.N.Nor.state c.lowest_entry.new.nor in
    let place : c.entry_place.result + 3 ≡ 6144 + 4 * c.in_ok-entry.entry + 3 = omega (arith, c.entry_place.ensures) in
    let ready = ready-back a b c.in_ok-entry.ensures.kept c.in_ok-program.ensures.ready in
    (given-used a.memory c.in_ok-entry.entry c.requires.size c.in_ok-entry.ensures.within (c.in_ok-entry.ensures.free ready) (g.N.Nor.state c.program.new.self).memory
    (rw (place, c.in_ok-entry.ensures.same) at c.in_ok-program.ensures.ok)).numbers

pub returns-clause-known : goal.returns-clause-known
returns-clause-known g c =
    let a = g.N.Nor.state c.args.nor.now in
    let b = g.N.Nor.state c.lowest_entry.new.nor in
    let place : c.entry_place.result + 3 ≡ 6144 + 4 * c.in_ok-entry.entry + 3 = omega (arith, c.entry_place.ensures) in
    let ready = ready-back a b c.in_ok-entry.ensures.kept c.in_ok-program.ensures.ready in
    used-known c.args.known.now c.once_used.result c.in_ok-entry.entry a.memory (g.N.Nor.state c.program.new.self).memory (c.requires.known ready) c.in_ok-entry.ensures.within
    (c.in_ok-entry.ensures.lowest ready)
    (given-used a.memory c.in_ok-entry.entry c.requires.size c.in_ok-entry.ensures.within (c.in_ok-entry.ensures.free ready) (g.N.Nor.state c.program.new.self).memory
    (rw (place, c.in_ok-entry.ensures.same) at c.in_ok-program.ensures.ok))
    c.once_used.ensures.unused c.once_used.ensures.packed.0

pub returns-clause-ends : goal.returns-clause-ends
returns-clause-ends g c =
    let a = g.N.Nor.state c.args.nor.now in
    let b = g.N.Nor.state c.lowest_entry.new.nor in
    let place : c.entry_place.result + 3 ≡ 6144 + 4 * c.in_ok-entry.entry + 3 = omega (arith, c.entry_place.ensures) in
    let ready = ready-back a b c.in_ok-entry.ensures.kept c.in_ok-program.ensures.ready in
    record {
      ready = ready;
      kept = kept-after a b (g.N.Nor.state c.program.new.self) c.in_ok-entry.ensures.kept c.in_ok-program.ensures.kept;
      settled = (given-ok a.memory c.in_ok-entry.entry c.requires.size c.in_ok-entry.ensures.within (c.in_ok-entry.ensures.free ready) (g.N.Nor.state c.program.new.self).memory (c.requires.restful ready)
          (rw (place, c.in_ok-entry.ensures.same) at c.in_ok-program.ensures.ok)).0;
    }

pub returns-in_err-program-clause-ends : goal.returns-in_err-program-clause-ends
returns-in_err-program-clause-ends g c =
    let s0 = g.N.Nor.state c.args.nor.now in
    let s1 = g.N.Nor.state c.lowest_entry.new.nor in
    let s2 = g.N.Nor.state c.program.new.self in
    fails-as c.from_residual-in_err-program.result _ (λ _. SucceedsSettled s0 s2) (λ e. Refuses e s0 s2) c.from_residual-in_err-program.ensures.1
    (refuses-perhaps _ s0 s1 s2 c.in_ok-entry.ensures.idle c.in_ok-entry.ensures.kept (refuses-of s1 s2 (Err _) c.in_err-program.ensures.fails c.in_err-program.ensures.latches))

pub returns-clause-gives : goal.returns-clause-gives
returns-clause-gives g c =
    let s0 = g.N.Nor.state c.args.nor.now in
    let s1 = g.N.Nor.state c.lowest_entry.new.nor in
    let s2 = g.N.Nor.state c.program.new.self in
    let ready = ready-back s0 s1 c.in_ok-entry.ensures.kept c.in_ok-program.ensures.ready in
    record {
      at = c.in_ok-entry.entry;
      lowest = record { within = c.in_ok-entry.ensures.within; free = c.in_ok-entry.ensures.free ready; below = c.in_ok-entry.ensures.lowest ready };
      used = programmed-good (bits_in s1) (bits_in s2) (c.entry_place.result + 3) (0 ∷ []) c.in_ok-entry.entry 0 c.in_ok-program.ensures.firm (omega (arith, c.entry_place.ensures)) (lit< tt) (lit< tt) (λ e. omega (arith, e));
    }

pub returns-in_err-program-clause-data : goal.returns-in_err-program-clause-data
returns-in_err-program-clause-data g c i from =
    let place = c.entry_place.ensures in
    let w = c.in_ok-entry.ensures.within in
    let s = program-aside c.program.result (g.N.Nor.state c.lowest_entry.new.nor) (g.N.Nor.state c.program.new.self) (c.entry_place.result + 3) (0 ∷ []) c.program.ensures.firm c.program.ensures.cut_bits c.program.ensures.slow c.program.ensures.slow_bits i (inr (omega (arith, from, place, w))) in
    (s.0 ∙ ap (λ m. byte m i) c.in_ok-entry.ensures.same, s.1 ∙ ap (λ m. byte m i) c.in_ok-entry.ensures.weak)

pub returns-clause-data : goal.returns-clause-data
returns-clause-data g c i from =
    let place = c.entry_place.ensures in
    let w = c.in_ok-entry.ensures.within in
    let s = program-aside c.program.result (g.N.Nor.state c.lowest_entry.new.nor) (g.N.Nor.state c.program.new.self) (c.entry_place.result + 3) (0 ∷ []) c.program.ensures.firm c.program.ensures.cut_bits c.program.ensures.slow c.program.ensures.slow_bits i (inr (omega (arith, from, place, w))) in
    (s.0 ∙ ap (λ m. byte m i) c.in_ok-entry.ensures.same, s.1 ∙ ap (λ m. byte m i) c.in_ok-entry.ensures.weak)
