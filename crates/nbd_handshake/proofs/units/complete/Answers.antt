use Rattle.std.proofs.Common.{ap, ◌∙◌, subst, Option, List, ℕ, drop}
use Rattle.std.proofs.lemmas.List.{take_rest}
use Rattle.nbd_wire.specs.declared.option.OptionCase.{OptionCase}
use Rattle.nbd_wire.specs.Options.{phase_after, reply_in_case, case_of}
use Rattle.nbd_handshake.specs.Asked.{unknown_in, TellsUnknown}
use Rattle.nbd_handshake.proofs.units.complete.Goals as goal

pub returns-in-Some-clause-phase : goal.returns-in-Some-clause-phase
returns-in-Some-clause-phase c =
    rw (c.in-Negotiating.is, ← c.in-Some.ensures) (c.phase_after.ensures ∙ ap (λ (k : OptionCase). phase_after k c.in-Some.head.option c.in-Negotiating.no_zeroes) (c.case_of-case.ensures ∙ ap (case_of c.in-Some.head) (take_rest c.args.unit.now 16)))

pub returns-in-Some-clause-reply : goal.returns-in-Some-clause-reply
returns-in-Some-clause-reply c =
    rw (c.in-Negotiating.is, ← c.in-Some.ensures) (c.write_case-written.ensures.bytes ∙ ap (λ (k : OptionCase). reply_in_case k c.in-Some.head.option c.in-Negotiating.no_zeroes c.args.export) (c.case_of-case.ensures ∙ ap (case_of c.in-Some.head) (take_rest c.args.unit.now 16)))

pub returns-in-Some-clause-unknown : goal.returns-in-Some-clause-unknown
returns-in-Some-clause-unknown c =
    let content = drop 16 c.args.unit.now in
    let case-is = c.case_of-case.ensures ∙ ap (case_of c.in-Some.head) (take_rest c.args.unit.now 16) in
    rw (c.in-Negotiating.is, ← c.in-Some.ensures) (subst (λ (u : Option (List ℕ)). TellsUnknown c.unknown_in.result u) (ap (λ (l : List ℕ). unknown_in c.case_of-case.result l) (take_rest c.args.unit.now 16) ∙ ap (λ (k : OptionCase). unknown_in k content) case-is) c.unknown_in.ensures)
