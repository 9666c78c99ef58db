use Rattle.std.proofs.Common.{◌∙◌, ◌/◌, ◌%◌, sym, arith}
use Rattle.std.proofs.lemmas.Bool.{false≢true}
use Rattle.nor_layout.specs.declared.header.Header.TheVariants as headers
use Rattle.sector_slots.specs.Slots.{data_block}
use Rattle.journal_slots.proofs.Reading.{known-free, known-other}
use Rattle.journal_slots.proofs.read.free_at.Goals as goal

pub returns-in-Free-clause-ok : goal.returns-in-Free-clause-ok
returns-in-Free-clause-ok g c = (λ t. known-free (data_block c.args.journal.now.memory (c.args.slot / 7)) (c.args.slot % 7) (sym c.in-Free.is ∙ c.in_ok-read_header.ensures.ok), λ f. cc)

pub returns-in-Live-clause-ok : goal.returns-in-Live-clause-ok
returns-in-Live-clause-ok g c =
    (λ t. absurd (false≢true t), λ f. absurd (known-other (data_block c.args.journal.now.memory (c.args.slot / 7)) (c.args.slot % 7) (headers.Live c.in-Live.field-0) (sym c.in-Live.is ∙ c.in_ok-read_header.ensures.ok) (λ z. omega (arith, z)) f))

pub returns-in-NoGeneration-clause-ok : goal.returns-in-NoGeneration-clause-ok
returns-in-NoGeneration-clause-ok g c =
    (λ t. absurd (false≢true t), λ f. absurd (known-other (data_block c.args.journal.now.memory (c.args.slot / 7)) (c.args.slot % 7) headers.NoGeneration (sym c.in-NoGeneration.is ∙ c.in_ok-read_header.ensures.ok) (λ z. omega (arith, z)) f))

pub returns-in-Dead-clause-ok : goal.returns-in-Dead-clause-ok
returns-in-Dead-clause-ok g c =
    (λ t. absurd (false≢true t), λ f. absurd (known-other (data_block c.args.journal.now.memory (c.args.slot / 7)) (c.args.slot % 7) headers.Dead (sym c.in-Dead.is ∙ c.in_ok-read_header.ensures.ok) (λ z. omega (arith, z)) f))
