-- Turns that follow one another, as commands and their answers.
use Rattle.std.proofs.Common.{◌≡◌, refl, List, [], ◌∷◌, ◌++◌, ap, sym, ◌∙◌, append_assoc, append-nil, ℕ, length}
use Rattle.chip_model.specs.Exchanges.{sends_of, sizes_of}
use Rattle.chip_model.specs.declared.programmer.Turn.{Turn}
use Rattle.serprog.specs.Protocol.{acknowledged, answers, spiop, spiops}

pub spiops_append : (some more : List Turn) → spiops (some ++ more) ≡ spiops some ++ spiops more
spiops_append [] more = refl
spiops_append (t ∷ ts) more = ap (λ (l : List ℕ). spiop t.send.items (length t.recv.items) ++ l) (spiops_append ts more) ∙ sym (append_assoc (spiop t.send.items (length t.recv.items)) (spiops ts) (spiops more))

pub answers_append : (some more : List Turn) → answers (some ++ more) ≡ answers some ++ answers more
answers_append [] more = refl
answers_append (t ∷ ts) more = ap (λ (l : List ℕ). acknowledged t.recv.items ++ l) (answers_append ts more) ∙ sym (append_assoc (acknowledged t.recv.items) (answers ts) (answers more))

pub spiops_one : (t : Turn) → spiops (t ∷ []) ≡ spiop t.send.items (length t.recv.items)
spiops_one t = append-nil (spiop t.send.items (length t.recv.items))

pub answers_one : (t : Turn) → answers (t ∷ []) ≡ acknowledged t.recv.items
answers_one t = append-nil (acknowledged t.recv.items)

-- the commands that send such bytes and receive so many
abbrev joined : List (List ℕ) → List ℕ → List ℕ
joined [] ns = []
joined (s ∷ ss) [] = []
joined (s ∷ ss) (n ∷ ns) = spiop s n ++ joined ss ns

spiops_joined : (ts : List Turn) → spiops ts ≡ joined (sends_of ts) (sizes_of ts)
spiops_joined [] = refl
spiops_joined (t ∷ ts) = ap (λ (l : List ℕ). spiop t.send.items (length t.recv.items) ++ l) (spiops_joined ts)

-- turns that send the same and receive as many bytes are the same commands
pub spiops_same : (old new : List Turn) → sends_of new ≡ sends_of old → sizes_of new ≡ sizes_of old → spiops new ≡ spiops old
spiops_same old new sends sizes =
    spiops_joined new ∙ (ap (λ (l : List (List ℕ)). joined l (sizes_of new)) sends ∙ (ap (joined (sends_of old)) sizes ∙ sym (spiops_joined old)))
