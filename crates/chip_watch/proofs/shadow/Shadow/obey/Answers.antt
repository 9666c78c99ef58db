use Rattle.std.proofs.Common.{◌≡◌, ◌∙◌, ap, sym, refl, length, ℕ}
use Rattle.std.proofs.lemmas.Bool.{true≢false, cond-true}
use Rattle.chip_model.specs.Chip.{Chip, is_idle}
use Rattle.chip_model.specs.Frames.{Command, after_command, command_of}
use Rattle.chip_simulator.specs.Sim.{chip_of}
use Rattle.chip_watch.specs.Changes.{change_by}
use Rattle.chip_watch.proofs.OverlayLaws.{begins}
use Rattle.chip_watch.proofs.SimulatorLaws.{longer, none_before, obeyed, obeyed_long, rested, started}
use Rattle.chip_watch.proofs.shadow.Shadow.obey.Goals as goal

pub look-status-requires-clause-fresh : goal.look-status-requires-clause-fresh
look-status-requires-clause-fresh c = λ go.
    let c0 = chip_of c.args.self.now.chip in
    let one = c.exchange.ensures.exact ∙ cond-true _ _ _ c.requires.idle in
    let b = begins c0 (command_of c.args.send.now) c.requires.idle in
    ap (λ (d : Chip). d.polls) one ∙ b.fresh (ap (λ (d : Chip). is_idle d.operation) (sym one) ∙ go)

pub invariant_of-self : goal.invariant_of-self
invariant_of-self c =
    let s = c.args.self.now in
    let c0 = chip_of s.chip in
    let command = command_of c.args.send.now in
    let one : chip_of c.exchange.new.chip ≡ after_command c0 command = c.exchange.ensures.exact ∙ cond-true _ _ _ c.requires.idle in
    let l = c.look-status.ensures in
    let f = started c0 (chip_of c.exchange.new.chip) (chip_of c.look-status.new.chip) command c.look-status.result c.requires.idle one l.status l.chip c.if-status-eq1.true in
    let made : c.change_by-change.result ≡ change_by command (length c0.memory) =
    c.change_by-change.ensures ∙ (ap (λ (k : Command). change_by k s.size) c.requires.decoded ∙ ap (λ (n : ℕ). change_by command n) (sym s.bytes)) in
    let long = obeyed_long c0 (chip_of c.exchange.new.chip) (chip_of c.look-status.new.chip) command one l.chip in
    record {
      calm = l.calm;
      bytes = long ∙ s.bytes;
      sized = s.sized;
      full = s.full;
      fits = longer s.table (length (chip_of s.chip).memory) (length (chip_of c.look-status.new.chip).memory) (sym long) s.fits;
      no_cmp = s.no_cmp;
      no_wps = s.no_wps;
      goes = made ∙ f.0.goes;
      shown = f.0.shown;
      asked = f.0.asked;
      resting = λ r. absurd (true≢false (sym r ∙ f.1));
      few = s.few;
    }

pub invariant_of-self-else-status-eq1 : goal.invariant_of-self-else-status-eq1
invariant_of-self-else-status-eq1 c =
    let s = c.args.self.now in
    let c0 = chip_of s.chip in
    let command = command_of c.args.send.now in
    let one : chip_of c.exchange.new.chip ≡ after_command c0 command = c.exchange.ensures.exact ∙ cond-true _ _ _ c.requires.idle in
    let l = c.look-status.ensures in
    let f = rested c0 (chip_of c.exchange.new.chip) (chip_of c.look-status.new.chip) command c.look-status.result s.status c.requires.idle one l.status l.chip c.if-status-eq1.false in
    let long = obeyed_long c0 (chip_of c.exchange.new.chip) (chip_of c.look-status.new.chip) command one l.chip in
    record {
      calm = l.calm;
      bytes = long ∙ s.bytes;
      sized = s.sized;
      full = s.full;
      fits = longer s.table (length (chip_of s.chip).memory) (length (chip_of c.look-status.new.chip).memory) (sym long) s.fits;
      no_cmp = s.no_cmp;
      no_wps = s.no_wps;
      goes = s.goes ∙ (sym (none_before _ c.requires.idle) ∙ f.goes);
      shown = f.shown;
      asked = f.asked;
      resting = λ r. s.resting c.requires.idle;
      few = s.few;
    }

pub returns-then-status-eq1-clause-left : goal.returns-then-status-eq1-clause-left
returns-then-status-eq1-clause-left c =
    let s = c.args.self.now in
    let one = c.exchange.ensures.exact ∙ cond-true _ _ _ c.requires.idle in
    obeyed (chip_of s.chip) (chip_of c.exchange.new.chip) (chip_of c.look-status.new.chip) s.table s.status2 s.status3 s.polls s.powered (command_of c.args.send.now)
    one c.look-status.ensures.chip (s.resting c.requires.idle) s.no_cmp s.no_wps refl refl

pub returns-else-status-eq1-clause-left : goal.returns-else-status-eq1-clause-left
returns-else-status-eq1-clause-left c =
    let s = c.args.self.now in
    let one = c.exchange.ensures.exact ∙ cond-true _ _ _ c.requires.idle in
    obeyed (chip_of s.chip) (chip_of c.exchange.new.chip) (chip_of c.look-status.new.chip) s.table s.status2 s.status3 s.polls s.powered (command_of c.args.send.now)
    one c.look-status.ensures.chip (s.resting c.requires.idle) s.no_cmp s.no_wps refl refl
